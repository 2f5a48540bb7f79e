use Rattle.section_core.proofs.SideRows.{at_place, none_percpu}
use Rattle.section_core.proofs.sections.over_chunks.Goals as goal

pub choose-requires : goal.choose-requires
choose-requires c = at_place _ _ _ _ c.in-Choosing.is c.requires.can

pub add_chunk-requires : goal.add_chunk-requires
add_chunk-requires c = at_place _ _ _ _ c.in-AddingChunk.is c.requires.can

pub settle_object-requires : goal.settle_object-requires
settle_object-requires c = at_place _ _ _ _ c.in-SettlingObject.is c.requires.can

pub unplace-requires : goal.unplace-requires
unplace-requires c = at_place _ _ _ _ c.in-Unplacing.is c.requires.can

pub choose_atomic-requires : goal.choose_atomic-requires
choose_atomic-requires c = at_place _ _ _ _ c.in-ChoosingAtomic.is c.requires.can

pub settle_atomic-requires : goal.settle_atomic-requires
settle_atomic-requires c = at_place _ _ _ _ c.in-SettlingAtomic.is c.requires.can

pub free_object-requires : goal.free_object-requires
free_object-requires c = at_place _ _ _ _ c.in-FreeingObject.is c.requires.can

pub spare-requires : goal.spare-requires
spare-requires c = at_place _ _ _ _ c.in-Sparing.is c.requires.can

pub next_page-requires : goal.next_page-requires
next_page-requires c = at_place _ _ _ _ c.in-NextFill.is c.requires.can

pub note_filled-requires : goal.note_filled-requires
note_filled-requires c = at_place _ _ _ _ c.in-NotingFilled.is c.requires.can

pub unreachable-requires : goal.unreachable-requires
unreachable-requires c = none_percpu _ c.args.percpu.now c.requires.row c.in_default.not-Choosing c.in_default.not-AddingChunk c.in_default.not-SettlingObject c.in_default.not-Unplacing c.in_default.not-ChoosingAtomic c.in_default.not-SettlingAtomic c.in_default.not-FreeingObject c.in_default.not-Sparing c.in_default.not-NextFill c.in_default.not-NotingFilled
