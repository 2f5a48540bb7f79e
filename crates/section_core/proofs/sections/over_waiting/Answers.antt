use Rattle.section_core.proofs.SideRows.{at_place, none_lazy}
use Rattle.section_core.proofs.sections.over_waiting.Goals as goal

pub wait-requires : goal.wait-requires
wait-requires c = at_place _ _ _ _ c.in-Waiting.is c.requires.can

pub wait_for_groups-requires : goal.wait_for_groups-requires
wait_for_groups-requires c = at_place _ _ _ _ c.in-WaitingForGroups.is c.requires.can

pub wait_for_blocks-requires : goal.wait_for_blocks-requires
wait_for_blocks-requires c = at_place _ _ _ _ c.in-PurgeWaiting.is c.requires.can

pub collect-requires : goal.collect-requires
collect-requires c = at_place _ _ _ _ c.in-PurgeCollecting.is c.requires.can

pub unreachable-requires : goal.unreachable-requires
unreachable-requires c = none_lazy _ c.args.lazy.now c.requires.row c.in_default.not-Waiting c.in_default.not-WaitingForGroups c.in_default.not-PurgeWaiting c.in_default.not-PurgeCollecting
