use Rattle.std.proofs.Common.{refl}
use Rattle.section_core.proofs.StandingCallers.{row, row_as}
use Rattle.section_core.proofs.SideRows.{row_here}
use Rattle.section_core.proofs.sections.make.Goals as goal

pub over_desk-requires-clause-can : goal.over_desk-requires-clause-can
over_desk-requires-clause-can c = row _ _ _ _ _ _ c.place-place.ensures c.region.view_is refl c.in-Desk.is c.requires.together c.requires.moves

pub over_desk-requires-clause-row : goal.over_desk-requires-clause-row
over_desk-requires-clause-row c = row_as _ _ _ c.in-Desk.is (row_here _ _ _ _ c.place-place.ensures c.region.view_is c.requires.together)

pub over_purge_turn-requires-clause-can : goal.over_purge_turn-requires-clause-can
over_purge_turn-requires-clause-can c = row _ _ _ _ _ _ c.place-place.ensures c.region.view_is refl c.in-Purge.is c.requires.together c.requires.moves

pub over_purge_turn-requires-clause-row : goal.over_purge_turn-requires-clause-row
over_purge_turn-requires-clause-row c = row_as _ _ _ c.in-Purge.is (row_here _ _ _ _ c.place-place.ensures c.region.view_is c.requires.together)

pub over_alloc_turn-requires-clause-can : goal.over_alloc_turn-requires-clause-can
over_alloc_turn-requires-clause-can c = row _ _ _ _ _ _ c.place-place.ensures c.region.view_is refl c.in-Alloc.is c.requires.together c.requires.moves

pub over_alloc_turn-requires-clause-row : goal.over_alloc_turn-requires-clause-row
over_alloc_turn-requires-clause-row c = row_as _ _ _ c.in-Alloc.is (row_here _ _ _ _ c.place-place.ensures c.region.view_is c.requires.together)

pub over_free-requires-clause-can : goal.over_free-requires-clause-can
over_free-requires-clause-can c = row _ _ _ _ _ _ c.place-place.ensures c.region.view_is refl c.in-Free.is c.requires.together c.requires.moves

pub over_free-requires-clause-row : goal.over_free-requires-clause-row
over_free-requires-clause-row c = row_as _ _ _ c.in-Free.is (row_here _ _ _ _ c.place-place.ensures c.region.view_is c.requires.together)

pub over_areas-requires-clause-can : goal.over_areas-requires-clause-can
over_areas-requires-clause-can c = row _ _ _ _ _ _ c.place-place.ensures c.region.view_is refl c.in-Busy.is c.requires.together c.requires.moves

pub over_areas-requires-clause-row : goal.over_areas-requires-clause-row
over_areas-requires-clause-row c = row_as _ _ _ c.in-Busy.is (row_here _ _ _ _ c.place-place.ensures c.region.view_is c.requires.together)

pub over_waiting-requires-clause-can : goal.over_waiting-requires-clause-can
over_waiting-requires-clause-can c = row _ _ _ _ _ _ c.place-place.ensures c.region.view_is refl c.in-Lazy.is c.requires.together c.requires.moves

pub over_waiting-requires-clause-row : goal.over_waiting-requires-clause-row
over_waiting-requires-clause-row c = row_as _ _ _ c.in-Lazy.is (row_here _ _ _ _ c.place-place.ensures c.region.view_is c.requires.together)

pub over_pages-requires-clause-can : goal.over_pages-requires-clause-can
over_pages-requires-clause-can c = row _ _ _ _ _ _ c.place-place.ensures c.region.view_is refl c.in-Pages.is c.requires.together c.requires.moves

pub over_pages-requires-clause-row : goal.over_pages-requires-clause-row
over_pages-requires-clause-row c = row_as _ _ _ c.in-Pages.is (row_here _ _ _ _ c.place-place.ensures c.region.view_is c.requires.together)

pub over_chunks-requires-clause-can : goal.over_chunks-requires-clause-can
over_chunks-requires-clause-can c = row _ _ _ _ _ _ c.place-place.ensures c.region.view_is refl c.in-Percpu.is c.requires.together c.requires.moves

pub over_chunks-requires-clause-row : goal.over_chunks-requires-clause-row
over_chunks-requires-clause-row c = row_as _ _ _ c.in-Percpu.is (row_here _ _ _ _ c.place-place.ensures c.region.view_is c.requires.together)

pub over_blocks-requires-clause-can : goal.over_blocks-requires-clause-can
over_blocks-requires-clause-can c = row _ _ _ _ _ _ c.place-place.ensures c.region.view_is refl c.in-Blocks.is c.requires.together c.requires.moves

pub over_blocks-requires-clause-row : goal.over_blocks-requires-clause-row
over_blocks-requires-clause-row c = row_as _ _ _ c.in-Blocks.is (row_here _ _ _ _ c.place-place.ensures c.region.view_is c.requires.together)
