use Rattle.section_core.proofs.SideRows.{at_place, none_busy}
use Rattle.section_core.proofs.sections.over_areas.Goals as goal

pub settle_area-requires : goal.settle_area-requires
settle_area-requires c = at_place _ _ _ _ c.in-SettlingArea.is c.requires.can

pub remove_area-requires : goal.remove_area-requires
remove_area-requires c = at_place _ _ _ _ c.in-Removing.is c.requires.can

pub unlink_blocks-requires : goal.unlink_blocks-requires
unlink_blocks-requires c = at_place _ _ _ _ c.in-PurgeUnlinking.is c.requires.can

pub settle_block-requires : goal.settle_block-requires
settle_block-requires c = at_place _ _ _ _ c.in-SettlingBlock.is c.requires.can

pub unlink_block-requires : goal.unlink_block-requires
unlink_block-requires c = at_place _ _ _ _ c.in-UnlinkingBlock.is c.requires.can

pub settle_groups-requires : goal.settle_groups-requires
settle_groups-requires c = at_place _ _ _ _ c.in-SettlingGroups.is c.requires.can

pub unlink_groups-requires : goal.unlink_groups-requires
unlink_groups-requires c = at_place _ _ _ _ c.in-UnlinkingGroups.is c.requires.can

pub unreachable-requires : goal.unreachable-requires
unreachable-requires c = none_busy _ c.args.busy.now c.requires.row c.in_default.not-SettlingArea c.in_default.not-Removing c.in_default.not-PurgeUnlinking c.in_default.not-SettlingBlock c.in_default.not-UnlinkingBlock c.in_default.not-SettlingGroups c.in_default.not-UnlinkingGroups
