use Rattle.section_core.proofs.SideRows.{at_place, none_free}
use Rattle.section_core.proofs.sections.over_free.Goals as goal

pub find-requires : goal.find-requires
find-requires c = at_place _ _ _ _ c.in-Finding.is c.requires.can

pub find_again-requires : goal.find_again-requires
find_again-requires c = at_place _ _ _ _ c.in-FindingAgain.is c.requires.can

pub find_groups-requires : goal.find_groups-requires
find_groups-requires c = at_place _ _ _ _ c.in-FindingGroups.is c.requires.can

pub find_groups_again-requires : goal.find_groups_again-requires
find_groups_again-requires c = at_place _ _ _ _ c.in-FindingGroupsAgain.is c.requires.can

pub drop_span-requires : goal.drop_span-requires
drop_span-requires c = at_place _ _ _ _ c.in-Dropping.is c.requires.can

pub return_spans-requires : goal.return_spans-requires
return_spans-requires c = at_place _ _ _ _ c.in-PurgeReturning.is c.requires.can

pub unreachable-requires : goal.unreachable-requires
unreachable-requires c = none_free _ c.args.free.now c.requires.row c.in_default.not-Finding c.in_default.not-FindingAgain c.in_default.not-FindingGroups c.in_default.not-FindingGroupsAgain c.in_default.not-Dropping c.in_default.not-PurgeReturning
