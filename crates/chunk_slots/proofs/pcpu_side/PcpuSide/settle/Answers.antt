use Rattle.std.proofs.Common.{◌≡◌, ℕ, suc, ◌+◌, ◌*◌, ◌/◌, List, length, slice_get, Some, None, refl, ap, sym, ◌∙◌, subst, arith}
use Rattle.vm_model.specs.Space.{is_among}
use Rattle.vm_model.specs.Frames.{pages_of_bytes}
use Rattle.vm_model.specs.PlainMap.{Chunk, Lives}
use Rattle.vm_model.specs.Chunks.{ObjectAt, change_chunk, with_live_object}
use Rattle.chunk_slots.specs.declared.holders.Holder.{Holder}
use Rattle.chunk_slots.specs.KeptObjects.{object_key, holder_in}
use Rattle.chunk_slots.specs.KeptChunks.{KeptRow, slot_in, with_pages}
use Rattle.chunk_slots.specs.KeptChunkSides.{number_of, chunk_in, chunks_in, IsKeptRow}
use Rattle.chunk_slots.specs.ChunkRegion.{ChunkRegion, at_of, with_settled, IsHeld}
use Rattle.chunk_slots.proofs.ObjectViews.{IsUpdate}
use Rattle.chunk_slots.proofs.RowLists.{chunks_changed}
use Rattle.chunk_slots.proofs.SideStaysKept.{empty_of, are_low, empty_few, empty_within, kept_changed}
use Rattle.chunk_slots.proofs.SideCalls.{IsThere, in_hand, some_is, found_row, missing_row, read_there, same_place, slot_stays, update_moved, region_by, other_row, other_view, row_settled, row_populated, view_settled}
use Rattle.chunk_slots.proofs.pcpu_side.PcpuSide.settle.Goals as goal

abbrev held_in : ChunkRegion → ObjectAt → Type 0
held_in r at = IsHeld at r.chunks

pub settle-requires : goal.settle-requires
settle-requires c =
    let i = c.self.inside in let at = at_of c.args.placed.now in
    let hand = in_hand (holder_in i.holders) i.unit_pages i.next_chunk i.chunks.items at c.self.invariant.most c.self.invariant.numbers c.self.invariant.rows_are (subst (λ r. held_in r at) (sym c.self.view_is) c.requires.held) in
    some_is (holder_in i.holders (object_key at.chunk at.off)) hand.holder hand.had

pub unreachable-requires : goal.unreachable-requires
unreachable-requires c =
    let i = c.self.inside in let at = at_of c.args.placed.now in
    let hand = in_hand (holder_in i.holders) i.unit_pages i.next_chunk i.chunks.items at c.self.invariant.most c.self.invariant.numbers c.self.invariant.rows_are (subst (λ r. held_in r at) (sym c.self.view_is) c.requires.held) in
    let clash : None ≡ Some hand.it.index = sym (missing_row at.chunk c.from.result c.index_of.result i.chunks.items c.deref.result.now c.deref.ensures.value c.from.ensures c.index_of.ensures c.in_default.is) ∙ hand.it.index_is in cc

pub index_mut-chunk-requires : goal.index_mut-chunk-requires
index_mut-chunk-requires c =
    let found = found_row c.args.placed.now.chunk c.from.result c.in-Some.index c.index_of.result c.self.inside.chunks.items c.deref.result.now c.self.invariant.numbers c.deref.ensures.value c.from.ensures c.index_of.ensures c.in-Some.is in
    let within = found.within in let long = ap length c.deref.ensures.value in
    omega arith

pub populate_object-requires-clause-some : goal.populate_object-requires-clause-some
populate_object-requires-clause-some c =
    let i = c.self.inside in let at = at_of c.args.placed.now in
    let hand = in_hand (holder_in i.holders) i.unit_pages i.next_chunk i.chunks.items at c.self.invariant.most c.self.invariant.numbers c.self.invariant.rows_are (subst (λ r. held_in r at) (sym c.self.view_is) c.requires.held) in
    let some = hand.some in omega arith

pub populate_object-requires-clause-within : goal.populate_object-requires-clause-within
populate_object-requires-clause-within c =
    let i = c.self.inside in let at = at_of c.args.placed.now in
    let hand = in_hand (holder_in i.holders) i.unit_pages i.next_chunk i.chunks.items at c.self.invariant.most c.self.invariant.numbers c.self.invariant.rows_are (subst (λ r. held_in r at) (sym c.self.view_is) c.requires.held) in
    let same = same_place at.chunk c.from.result c.in-Some.index c.index_of.result i.chunks.items c.deref.result.now hand.it.index c.deref.ensures.value c.from.ensures c.index_of.ensures c.in-Some.is hand.it.index_is in
    let row = read_there hand.it c.in-Some.index c.index_mut-chunk.result.now same c.index_mut-chunk.ensures.value in
    omega (arith, hand.within, ap (λ (r : KeptRow). r.bits.bits) row, hand.it.kept.bits_are)

pub overflow_sub-self : goal.overflow_sub-self
overflow_sub-self c =
    let i = c.self.inside in let at = at_of c.args.placed.now in
    let hand = in_hand (holder_in i.holders) i.unit_pages i.next_chunk i.chunks.items at c.self.invariant.most c.self.invariant.numbers c.self.invariant.rows_are (subst (λ r. held_in r at) (sym c.self.view_is) c.requires.held) in
    let same = same_place at.chunk c.from.result c.in-Some.index c.index_of.result i.chunks.items c.deref.result.now hand.it.index c.deref.ensures.value c.from.ensures c.index_of.ensures c.in-Some.is hand.it.index_is in
    let row = read_there hand.it c.in-Some.index c.index_mut-chunk.result.now same c.index_mut-chunk.ensures.value in
    omega (arith, empty_within hand.it.index hand.it.row c.self.invariant hand.it.there, ap empty_of row)

pub overflow_add-self-2 : goal.overflow_add-self-2
overflow_add-self-2 c = omega (arith, empty_few c.self.invariant, c.empty-2.type_inv)

pub invariant_of-self : goal.invariant_of-self
invariant_of-self c =
    let i = c.self.inside in let at = at_of c.args.placed.now in let h = holder_in i.holders in let g = holder_in c.settle.new.self in
    let hand = in_hand h i.unit_pages i.next_chunk i.chunks.items at c.self.invariant.most c.self.invariant.numbers c.self.invariant.rows_are (subst (λ r. held_in r at) (sym c.self.view_is) c.requires.held) in
    let it : IsThere h i.unit_pages i.next_chunk i.chunks.items at = hand.it in
    let same = same_place at.chunk c.from.result c.in-Some.index c.index_of.result i.chunks.items c.deref.result.now it.index c.deref.ensures.value c.from.ensures c.index_of.ensures c.in-Some.is it.index_is in
    let row = read_there it c.in-Some.index c.index_mut-chunk.result.now same c.index_mut-chunk.ensures.value in
    let holder : Holder = record { caller = hand.holder.caller; serial = i.next_object } in
    let new : IsUpdate g h (object_key it.row.number (4 * (at.off / 4))) (Some holder) = update_moved g h at.chunk it.row.number at.off (at.off / 4) (Some holder) (c.settle.ensures.holders hand.holder hand.had) it.number hand.off in
    let made = c.populate_object.ensures ∙ ap (with_pages (is_among (pages_of_bytes at.off at.bytes))) row in
    let there = ap (slice_get i.chunks.items) same ∙ it.there in
    let within = empty_within it.index it.row c.self.invariant it.there in
    let old_empty = ap empty_of row in
    kept_changed c.in-Some.index it.row c.populate_object.new.self i.slots.items g _ (i.next_object + 1) i.spare _ _ c.self.invariant there (ap number_of made)
    (subst (IsKeptRow i.unit_pages i.next_chunk g) (sym made) (row_populated g i.unit_pages i.next_chunk (is_among (pages_of_bytes at.off at.bytes)) it.row (row_settled g h i.unit_pages i.next_chunk (at.off / 4) holder it.row new it.kept)))
    (other_row g h i.unit_pages i.next_chunk it.row.number (at.off / 4) (Some holder) new hand.low c.self.invariant.most)
    (slot_stays c.in-Some.index i.chunks.items it.row c.populate_object.new.self i.slots.items c.self.invariant.numbers (are_low c.self.invariant) c.self.invariant.slots_are c.self.invariant.slots_rise there (ap slot_in made))
    c.self.invariant.slots_room
    (omega arith)
    (omega (arith, ap (λ (r : KeptRow). length r.bits.objects) made))
    (let room = c.self.invariant.room in omega arith)
    (omega arith)

pub returns-clause-settled : goal.returns-clause-settled
returns-clause-settled c =
    let i = c.self.inside in let at = at_of c.args.placed.now in let h = holder_in i.holders in let g = holder_in c.settle.new.self in
    let hand = in_hand h i.unit_pages i.next_chunk i.chunks.items at c.self.invariant.most c.self.invariant.numbers c.self.invariant.rows_are (subst (λ r. held_in r at) (sym c.self.view_is) c.requires.held) in
    let it : IsThere h i.unit_pages i.next_chunk i.chunks.items at = hand.it in
    let same = same_place at.chunk c.from.result c.in-Some.index c.index_of.result i.chunks.items c.deref.result.now it.index c.deref.ensures.value c.from.ensures c.index_of.ensures c.in-Some.is it.index_is in
    let row = read_there it c.in-Some.index c.index_mut-chunk.result.now same c.index_mut-chunk.ensures.value in
    let holder : Holder = record { caller = hand.holder.caller; serial = i.next_object } in
    let new : IsUpdate g h (object_key it.row.number (4 * (at.off / 4))) (Some holder) = update_moved g h at.chunk it.row.number at.off (at.off / 4) (Some holder) (c.settle.ensures.holders hand.holder hand.had) it.number hand.off in
    let had : h (object_key it.row.number (4 * (at.off / 4))) ≡ Some hand.holder = ap (λ n. h (object_key n (4 * (at.off / 4)))) it.number ∙ ap (λ o. h (object_key at.chunk o)) hand.off ∙ hand.had in
    let made = c.populate_object.ensures ∙ ap (with_pages (is_among (pages_of_bytes at.off at.bytes))) row in
    let one : i.next_object + 1 ≡ suc i.next_object = omega arith in
    let region : ℕ → List Chunk → ChunkRegion = λ n. region_by i.unit_pages n i.next_chunk i.spare in
    ap (region (i.next_object + 1))
    (chunks_changed g h (IsKeptRow i.unit_pages i.next_chunk h) (with_live_object at (Lives i.next_object)) 0 c.in-Some.index i.chunks.items it.row c.populate_object.new.self c.self.invariant.numbers (ap (slice_get i.chunks.items) same ∙ it.there)
    (ap (chunk_in g) made ∙ view_settled g h i.unit_pages i.next_chunk (at.off / 4) i.next_object hand.holder holder it.row at new had refl refl c.self.invariant.serials c.self.invariant.most hand.low it.kept hand.off)
    (other_view g h i.unit_pages i.next_chunk it.row.number (at.off / 4) (Some holder) new hand.low c.self.invariant.most) c.self.invariant.rows_are)
    ∙ ap (λ n. region (i.next_object + 1) (change_chunk n (with_live_object at (Lives i.next_object)) (chunks_in h i.chunks.items))) it.number
    ∙ ap (λ n. region n (change_chunk at.chunk (with_live_object at (Lives i.next_object)) (chunks_in h i.chunks.items))) one
    ∙ ap (with_settled at) c.self.view_is
