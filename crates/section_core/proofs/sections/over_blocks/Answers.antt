use Rattle.section_core.proofs.SideRows.{at_place, none_blocks}
use Rattle.section_core.proofs.sections.over_blocks.Goals as goal

pub look_at_dirty-requires : goal.look_at_dirty-requires
look_at_dirty-requires c = at_place _ _ _ _ c.in-LookingAtDirty.is c.requires.can

pub take_fragmented-requires : goal.take_fragmented-requires
take_fragmented-requires c = at_place _ _ _ _ c.in-PurgeFragmenting.is c.requires.can

pub cut_part-requires : goal.cut_part-requires
cut_part-requires c = at_place _ _ _ _ c.in-CuttingPart.is c.requires.can

pub add_block-requires : goal.add_block-requires
add_block-requires c = at_place _ _ _ _ c.in-AddingBlock.is c.requires.can

pub settle_part-requires : goal.settle_part-requires
settle_part-requires c = at_place _ _ _ _ c.in-SettlingPart.is c.requires.can

pub begin_unmap-requires : goal.begin_unmap-requires
begin_unmap-requires c = at_place _ _ _ _ c.in-BeginningUnmap.is c.requires.can

pub retire_part-requires : goal.retire_part-requires
retire_part-requires c = at_place _ _ _ _ c.in-Retiring.is c.requires.can

pub unreachable-requires : goal.unreachable-requires
unreachable-requires c = none_blocks _ c.args.blocks.now c.requires.row c.in_default.not-LookingAtDirty c.in_default.not-PurgeFragmenting c.in_default.not-CuttingPart c.in_default.not-AddingBlock c.in_default.not-SettlingPart c.in_default.not-BeginningUnmap c.in_default.not-Retiring
