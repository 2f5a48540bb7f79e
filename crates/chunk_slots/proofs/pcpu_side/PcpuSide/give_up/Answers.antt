use Rattle.std.proofs.Common.{◌≡◌, ◌*◌, ◌/◌, not, ◌==◌, List, length, slice_get, Some, None, ap, sym, ◌∙◌, subst, arith}
use Rattle.std.specs.Prelude.{IsSome}
use Rattle.vm_model.specs.declared.areas.Span.{Span}
use Rattle.vm_model.specs.PlainMap.{Chunk}
use Rattle.vm_model.specs.Chunks.{ObjectAt, find_object, change_chunk, without_object}
use Rattle.chunk_slots.specs.KeptObjects.{object_key, holder_in}
use Rattle.chunk_slots.specs.KeptChunks.{KeptRow, slot_in, without_bits}
use Rattle.chunk_slots.specs.KeptChunkSides.{number_of, chunk_in, chunks_in, IsKeptRow}
use Rattle.chunk_slots.specs.ChunkRegion.{ChunkRegion, at_offset, without_placed}
use Rattle.chunk_slots.proofs.ObjectViews.{IsUpdate, length_filter}
use Rattle.chunk_slots.proofs.RowLists.{chunks_changed}
use Rattle.chunk_slots.proofs.SideStaysKept.{empty_of, are_low, empty_few, empty_within, kept_changed}
use Rattle.chunk_slots.proofs.SideCalls.{found_row, missing_row, object_there, read_there, same_place, slot_there, slot_not_there, update_moved, moved_by, region_by, place_of, other_row, other_view, row_freed, view_freed}
use Rattle.chunk_slots.proofs.pcpu_side.PcpuSide.give_up.Goals as goal

abbrev object_at : ChunkRegion → ObjectAt → Type 0
object_at r at = IsSome (find_object at r.chunks)

pub unreachable-requires : goal.unreachable-requires
unreachable-requires c =
    let i = c.self.inside in let at = at_offset c.args.chunk c.args.off in
    let it = object_there (holder_in i.holders) i.unit_pages i.next_chunk i.chunks.items at c.self.invariant.numbers c.self.invariant.rows_are (subst (λ r. object_at r at) (sym c.self.view_is) c.requires.there) in
    let clash : None ≡ Some it.index = sym (missing_row c.args.chunk c.from.result c.index_of.result i.chunks.items c.deref.result.now c.deref.ensures.value c.from.ensures c.index_of.ensures c.in_default.is) ∙ it.index_is in cc

pub index_mut-kept-requires : goal.index_mut-kept-requires
index_mut-kept-requires c =
    let found = found_row c.args.chunk c.from.result c.in-Some.index c.index_of.result c.self.inside.chunks.items c.deref.result.now c.self.invariant.numbers c.deref.ensures.value c.from.ensures c.index_of.ensures c.in-Some.is in
    let within = found.within in let long = ap length c.deref.ensures.value in
    omega arith

pub free-requires : goal.free-requires
free-requires c =
    let i = c.self.inside in let at = at_offset c.args.chunk c.args.off in
    let it = object_there (holder_in i.holders) i.unit_pages i.next_chunk i.chunks.items at c.self.invariant.numbers c.self.invariant.rows_are (subst (λ r. object_at r at) (sym c.self.view_is) c.requires.there) in
    let same = same_place c.args.chunk c.from.result c.in-Some.index c.index_of.result i.chunks.items c.deref.result.now it.index c.deref.ensures.value c.from.ensures c.index_of.ensures c.in-Some.is it.index_is in
    let row = read_there it c.in-Some.index c.index_mut-kept.result.now same c.index_mut-kept.ensures.value in
    omega (arith, (place_of (holder_in i.holders) i.unit_pages i.next_chunk i.chunks.items at c.self.invariant.most it).2, ap (λ (r : KeptRow). r.bits.bits) row, it.kept.bits_are)

pub relocate-requires-clause-there : goal.relocate-requires-clause-there
relocate-requires-clause-there c =
    let i = c.self.inside in let at = at_offset c.args.chunk c.args.off in
    let it = object_there (holder_in i.holders) i.unit_pages i.next_chunk i.chunks.items at c.self.invariant.numbers c.self.invariant.rows_are (subst (λ r. object_at r at) (sym c.self.view_is) c.requires.there) in
    let same = same_place c.args.chunk c.from.result c.in-Some.index c.index_of.result i.chunks.items c.deref.result.now it.index c.deref.ensures.value c.from.ensures c.index_of.ensures c.in-Some.is it.index_is in
    let row = read_there it c.in-Some.index c.index_mut-kept.result.now same c.index_mut-kept.ensures.value in
    slot_there it.index i.chunks.items it.row i.slots.items c.slot-slot.result c.args.chunk c.self.invariant.numbers (are_low c.self.invariant) c.self.invariant.slots_are it.there (c.slot-slot.ensures ∙ ap slot_in row) (sym it.number)

pub relocate-requires-clause-other : goal.relocate-requires-clause-other
relocate-requires-clause-other c =
    let i = c.self.inside in let at = at_offset c.args.chunk c.args.off in
    let it = object_there (holder_in i.holders) i.unit_pages i.next_chunk i.chunks.items at c.self.invariant.numbers c.self.invariant.rows_are (subst (λ r. object_at r at) (sym c.self.view_is) c.requires.there) in
    let same = same_place c.args.chunk c.from.result c.in-Some.index c.index_of.result i.chunks.items c.deref.result.now it.index c.deref.ensures.value c.from.ensures c.index_of.ensures c.in-Some.is it.index_is in
    let row = read_there it c.in-Some.index c.index_mut-kept.result.now same c.index_mut-kept.ensures.value in
    slot_not_there it.index i.chunks.items it.row i.slots.items c.slot-slot.result c.slot.result c.args.chunk c.self.invariant.numbers (are_low c.self.invariant) c.self.invariant.slots_are it.there (c.slot-slot.ensures ∙ ap slot_in row) (sym it.number)

pub overflow_sub-self : goal.overflow_sub-self
overflow_sub-self c =
    let i = c.self.inside in let at = at_offset c.args.chunk c.args.off in
    let it = object_there (holder_in i.holders) i.unit_pages i.next_chunk i.chunks.items at c.self.invariant.numbers c.self.invariant.rows_are (subst (λ r. object_at r at) (sym c.self.view_is) c.requires.there) in
    let same = same_place c.args.chunk c.from.result c.in-Some.index c.index_of.result i.chunks.items c.deref.result.now it.index c.deref.ensures.value c.from.ensures c.index_of.ensures c.in-Some.is it.index_is in
    let row = read_there it c.in-Some.index c.index_mut-kept.result.now same c.index_mut-kept.ensures.value in
    omega (arith, empty_within it.index it.row c.self.invariant it.there, ap empty_of row)

pub overflow_add-self : goal.overflow_add-self
overflow_add-self c = omega (arith, empty_few c.self.invariant, c.empty-2.type_inv)

pub invariant_of-self : goal.invariant_of-self
invariant_of-self c =
    let i = c.self.inside in let at = at_offset c.args.chunk c.args.off in let h = holder_in i.holders in let g = holder_in c.take_out.new.self in
    let it = object_there h i.unit_pages i.next_chunk i.chunks.items at c.self.invariant.numbers c.self.invariant.rows_are (subst (λ r. object_at r at) (sym c.self.view_is) c.requires.there) in
    let same = same_place c.args.chunk c.from.result c.in-Some.index c.index_of.result i.chunks.items c.deref.result.now it.index c.deref.ensures.value c.from.ensures c.index_of.ensures c.in-Some.is it.index_is in
    let row = read_there it c.in-Some.index c.index_mut-kept.result.now same c.index_mut-kept.ensures.value in
    let place = place_of h i.unit_pages i.next_chunk i.chunks.items at c.self.invariant.most it in
    let new : IsUpdate g h (object_key it.row.number (4 * (c.args.off / 4))) None = update_moved g h c.args.chunk it.row.number c.args.off (c.args.off / 4) None c.take_out.ensures.holders it.number place.0 in
    let made = c.free.ensures.freed ∙ ap (without_bits (c.args.off / 4)) row in
    let within = empty_within it.index it.row c.self.invariant it.there in
    let old_empty = ap empty_of row in
    kept_changed c.in-Some.index it.row c.free.new.self c.relocate.new.slots.items g _ i.next_object i.spare _ _ c.self.invariant (ap (slice_get i.chunks.items) same ∙ it.there) (ap number_of made)
    (subst (IsKeptRow i.unit_pages i.next_chunk g) (sym made) (row_freed g h i.unit_pages i.next_chunk (c.args.off / 4) it.row new c.self.invariant.most place.1 it.kept))
    (other_row g h i.unit_pages i.next_chunk it.row.number (c.args.off / 4) None new place.1 c.self.invariant.most)
    (moved_by c.args.chunk c.slot-slot.result c.slot.result it.row.number (slot_in it.row) (slot_in c.free.new.self) c.relocate.new.slots.items i.slots.items c.relocate.ensures.slots (sym it.number) (c.slot-slot.ensures ∙ ap slot_in row) c.slot.ensures)
    (omega (arith, c.relocate.new.slots.ok.0, c.self.inside.slots.ok.0, c.self.invariant.slots_room))
    (omega arith)
    (omega (arith, ap (λ (r : KeptRow). length r.bits.objects) made, length_filter (λ (s : Span). not (s.start == c.args.off / 4)) it.row.bits.objects))
    (omega (arith, c.self.invariant.room))
    c.self.invariant.serials

pub returns : goal.returns
returns c =
    let i = c.self.inside in let at = at_offset c.args.chunk c.args.off in let h = holder_in i.holders in let g = holder_in c.take_out.new.self in
    let it = object_there h i.unit_pages i.next_chunk i.chunks.items at c.self.invariant.numbers c.self.invariant.rows_are (subst (λ r. object_at r at) (sym c.self.view_is) c.requires.there) in
    let same = same_place c.args.chunk c.from.result c.in-Some.index c.index_of.result i.chunks.items c.deref.result.now it.index c.deref.ensures.value c.from.ensures c.index_of.ensures c.in-Some.is it.index_is in
    let row = read_there it c.in-Some.index c.index_mut-kept.result.now same c.index_mut-kept.ensures.value in
    let place = place_of h i.unit_pages i.next_chunk i.chunks.items at c.self.invariant.most it in
    let new : IsUpdate g h (object_key it.row.number (4 * (c.args.off / 4))) None = update_moved g h c.args.chunk it.row.number c.args.off (c.args.off / 4) None c.take_out.ensures.holders it.number place.0 in
    let made = c.free.ensures.freed ∙ ap (without_bits (c.args.off / 4)) row in
    let region : List Chunk → ChunkRegion = region_by i.unit_pages i.next_object i.next_chunk i.spare in
    ap region
    (chunks_changed g h (IsKeptRow i.unit_pages i.next_chunk h) (without_object at) 0 c.in-Some.index i.chunks.items it.row c.free.new.self c.self.invariant.numbers (ap (slice_get i.chunks.items) same ∙ it.there)
    (ap (chunk_in g) made ∙ view_freed g h i.unit_pages i.next_chunk (c.args.off / 4) it.row at new c.self.invariant.most place.1 it.kept place.0)
    (other_view g h i.unit_pages i.next_chunk it.row.number (c.args.off / 4) None new place.1 c.self.invariant.most) c.self.invariant.rows_are)
    ∙ ap (λ n. region (change_chunk n (without_object at) (chunks_in h i.chunks.items))) it.number
    ∙ ap (without_placed at) c.self.view_is
