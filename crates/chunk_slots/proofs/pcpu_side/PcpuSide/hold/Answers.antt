use Rattle.std.proofs.Common.{◌≡◌, ◌+◌, ◌-◌, ◌*◌, ◌/◌, ◌≤◌, List, filter, not, get_or, Some, option_map, refl, ap, sym, ◌∙◌, subst, arith}
use Rattle.std.specs.Prelude.{vec_capacity}
use Rattle.vm_model.specs.Space.{span}
use Rattle.vm_model.specs.Frames.{pages_of_bytes}
use Rattle.vm_model.specs.PlainMap.{Chunk}
use Rattle.vm_model.specs.Chunks.{ObjectAt, change_chunk, with_object}
use Rattle.chunk_slots.specs.declared.holders.Holder.{Holder}
use Rattle.chunk_slots.specs.KeptObjects.{object_key, holder_in, room_in}
use Rattle.chunk_slots.specs.KeptChunks.{KeptRow, slot_in, with_bits, has_populated}
use Rattle.vm_model.specs.PageSets.{pages_in}
use Rattle.chunk_slots.specs.KeptChunkSides.{number_of, chunks_in, IsKeptRow, AreKept}
use Rattle.chunk_slots.specs.Choices.{IsTaken, chosen_row}
use Rattle.chunk_slots.specs.ChunkRegion.{ChunkRegion, at_of, told_of, place_for, with_placed}
use Rattle.chunk_slots.proofs.ObjectViews.{IsUpdate, start_of, length_put}
use Rattle.chunk_slots.proofs.RowLists.{each_at, chunks_changed}
use Rattle.chunk_slots.proofs.SideStaysKept.{empty_of, are_low, are_numbered, empty_few, empty_within, kept_changed}
use Rattle.chunk_slots.specs.SlotOrder.{AreNumbered}
use Rattle.chunk_slots.proofs.SideCalls.{get_within, slot_there, slot_not_there, update_moved, moved_by, region_by, other_row, other_view, row_placed, view_placed, place_low}
use Rattle.chunk_slots.proofs.Placing.{nowhere, somewhere, same_told, written_back, read_set}
use Rattle.chunk_slots.proofs.pcpu_side.PcpuSide.hold.Goals as goal

pub take_fit-requires-clause-numbers : goal.take_fit-requires-clause-numbers
take_fit-requires-clause-numbers c = subst AreNumbered (sym c.deref_mut.ensures.value) (are_numbered c.self.invariant)

pub returns-in_err-taken-clause-place : goal.returns-in_err-taken-clause-place
returns-in_err-taken-clause-place c =
    let i = c.self.inside in
    ap (option_map told_of) c.from_residual.ensures
    ∙ nowhere c.args.atomic i.unit_pages i.next_chunk c.args.bytes c.args.align i.next_object i.next_chunk i.spare (holder_in i.holders) i.chunks.items c.self.invariant.rows_are
    (ap (chosen_row c.args.atomic (c.args.bytes / 4) (c.args.align / 4)) (sym c.deref_mut.ensures.value) ∙ c.in_err-taken.ensures.none)
    ∙ ap (place_for c.args.atomic c.args.bytes c.args.align) c.self.view_is

pub index-chunk-requires : goal.index-chunk-requires
index-chunk-requires c =
    let i = c.self.inside in
    let taken : IsTaken c.args.atomic (c.args.bytes / 4) (c.args.align / 4) i.chunks.items c.take_fit.new.chunks c.in_ok-taken.taken = subst (λ (old : List KeptRow). IsTaken c.args.atomic (c.args.bytes / 4) (c.args.align / 4) old c.take_fit.new.chunks c.in_ok-taken.taken) c.deref_mut.ensures.value c.in_ok-taken.ensures.taken in
    omega (arith, get_within c.in_ok-taken.taken.index i.chunks.items taken.row taken.index, i.chunks.ok.0)

pub relocate-requires-clause-there : goal.relocate-requires-clause-there
relocate-requires-clause-there c =
    let i = c.self.inside in let t = c.in_ok-taken.taken in
    let taken : IsTaken c.args.atomic (c.args.bytes / 4) (c.args.align / 4) i.chunks.items c.take_fit.new.chunks t = subst (λ (old : List KeptRow). IsTaken c.args.atomic (c.args.bytes / 4) (c.args.align / 4) old c.take_fit.new.chunks t) c.deref_mut.ensures.value c.in_ok-taken.ensures.taken in
    let new : KeptRow = with_bits t.bit (c.args.bytes / 4) taken.row in
    let back = written_back i.chunks.len t.index i.chunks.items c.take_fit.new.chunks new (omega (arith, i.chunks.ok.0)) taken.new_is in
    let read = read_set t.index i.chunks.items new c.index-chunk.result.now (get_within t.index i.chunks.items taken.row taken.index) (c.index-chunk.ensures ∙ ap (λ (xs : List KeptRow). get_or xs t.index c.index-chunk.result.now) back) in
    slot_there t.index i.chunks.items taken.row i.slots.items t.slot c.number.result c.self.invariant.numbers (are_low c.self.invariant) c.self.invariant.slots_are taken.index taken.slot (c.number.ensures ∙ ap number_of read)

pub relocate-requires-clause-other : goal.relocate-requires-clause-other
relocate-requires-clause-other c =
    let i = c.self.inside in let t = c.in_ok-taken.taken in
    let taken : IsTaken c.args.atomic (c.args.bytes / 4) (c.args.align / 4) i.chunks.items c.take_fit.new.chunks t = subst (λ (old : List KeptRow). IsTaken c.args.atomic (c.args.bytes / 4) (c.args.align / 4) old c.take_fit.new.chunks t) c.deref_mut.ensures.value c.in_ok-taken.ensures.taken in
    let new : KeptRow = with_bits t.bit (c.args.bytes / 4) taken.row in
    let back = written_back i.chunks.len t.index i.chunks.items c.take_fit.new.chunks new (omega (arith, i.chunks.ok.0)) taken.new_is in
    let read = read_set t.index i.chunks.items new c.index-chunk.result.now (get_within t.index i.chunks.items taken.row taken.index) (c.index-chunk.ensures ∙ ap (λ (xs : List KeptRow). get_or xs t.index c.index-chunk.result.now) back) in
    slot_not_there t.index i.chunks.items taken.row i.slots.items t.slot c.slot.result c.number.result c.self.invariant.numbers (are_low c.self.invariant) c.self.invariant.slots_are taken.index taken.slot (c.number.ensures ∙ ap number_of read)

pub overflow_sub-self : goal.overflow_sub-self
overflow_sub-self c =
    let i = c.self.inside in let t = c.in_ok-taken.taken in
    let taken : IsTaken c.args.atomic (c.args.bytes / 4) (c.args.align / 4) i.chunks.items c.take_fit.new.chunks t = subst (λ (old : List KeptRow). IsTaken c.args.atomic (c.args.bytes / 4) (c.args.align / 4) old c.take_fit.new.chunks t) c.deref_mut.ensures.value c.in_ok-taken.ensures.taken in
    omega (arith, empty_within t.index taken.row c.self.invariant taken.index, taken.empty)

pub overflow_add-self : goal.overflow_add-self
overflow_add-self c = omega (arith, empty_few c.self.invariant, c.empty.type_inv)

pub overflow_mul-taken : goal.overflow_mul-taken
overflow_mul-taken c =
    let i = c.self.inside in let t = c.in_ok-taken.taken in
    let taken : IsTaken c.args.atomic (c.args.bytes / 4) (c.args.align / 4) i.chunks.items c.take_fit.new.chunks t = subst (λ (old : List KeptRow). IsTaken c.args.atomic (c.args.bytes / 4) (c.args.align / 4) old c.take_fit.new.chunks t) c.deref_mut.ensures.value c.in_ok-taken.ensures.taken in
    let own = each_at (IsKeptRow i.unit_pages i.next_chunk (holder_in i.holders)) t.index i.chunks.items taken.row c.self.invariant.rows_are taken.index in
    let low = (place_low (holder_in i.holders) i.unit_pages i.next_chunk t.bit (c.args.bytes / 4) (c.args.align / 4) c.args.atomic taken.row c.self.invariant.most (let bytes = c.requires.bytes in omega arith) taken.bit own).0 in
    omega arith

pub placed_in-placed-requires-clause-within : goal.placed_in-placed-requires-clause-within
placed_in-placed-requires-clause-within c =
    let i = c.self.inside in let t = c.in_ok-taken.taken in
    let taken : IsTaken c.args.atomic (c.args.bytes / 4) (c.args.align / 4) i.chunks.items c.take_fit.new.chunks t = subst (λ (old : List KeptRow). IsTaken c.args.atomic (c.args.bytes / 4) (c.args.align / 4) old c.take_fit.new.chunks t) c.deref_mut.ensures.value c.in_ok-taken.ensures.taken in
    let new : KeptRow = with_bits t.bit (c.args.bytes / 4) taken.row in
    let back = written_back i.chunks.len t.index i.chunks.items c.take_fit.new.chunks new (omega (arith, i.chunks.ok.0)) taken.new_is in
    let read = read_set t.index i.chunks.items new c.index-chunk.result.now (get_within t.index i.chunks.items taken.row taken.index) (c.index-chunk.ensures ∙ ap (λ (xs : List KeptRow). get_or xs t.index c.index-chunk.result.now) back) in
    let own = each_at (IsKeptRow i.unit_pages i.next_chunk (holder_in i.holders)) t.index i.chunks.items taken.row c.self.invariant.rows_are taken.index in
    let low = (place_low (holder_in i.holders) i.unit_pages i.next_chunk t.bit (c.args.bytes / 4) (c.args.align / 4) c.args.atomic taken.row c.self.invariant.most (let bytes = c.requires.bytes in omega arith) taken.bit own).1 in
    let words = c.requires.words in
    omega (arith, ap (λ (r : KeptRow). r.bits.bits) read, own.bits_are)

pub invariant_of-self-2 : goal.invariant_of-self-2
invariant_of-self-2 c =
    let i = c.self.inside in let t = c.in_ok-taken.taken in let h = holder_in i.holders in let g = holder_in c.put.new.self in let n = c.args.bytes / 4 in let k = c.args.align / 4 in
    let taken : IsTaken c.args.atomic n k i.chunks.items c.take_fit.new.chunks t = subst (λ (old : List KeptRow). IsTaken c.args.atomic n k old c.take_fit.new.chunks t) c.deref_mut.ensures.value c.in_ok-taken.ensures.taken in
    let new : KeptRow = with_bits t.bit n taken.row in
    let back = written_back i.chunks.len t.index i.chunks.items c.take_fit.new.chunks new (omega (arith, i.chunks.ok.0)) taken.new_is in
    let read = read_set t.index i.chunks.items new c.index-chunk.result.now (get_within t.index i.chunks.items taken.row taken.index) (c.index-chunk.ensures ∙ ap (λ (xs : List KeptRow). get_or xs t.index c.index-chunk.result.now) back) in
    let own = each_at (IsKeptRow i.unit_pages i.next_chunk h) t.index i.chunks.items taken.row c.self.invariant.rows_are taken.index in
    let some : 1 ≤ n = let bytes = c.requires.bytes in omega arith in
    let low = place_low h i.unit_pages i.next_chunk t.bit n k c.args.atomic taken.row c.self.invariant.most some taken.bit own in
    let holder : Holder = record { caller = c.args.caller; serial = 0 } in
    let update : IsUpdate g h (object_key taken.row.number (4 * t.bit)) (Some holder) = update_moved g h c.placed_in-placed.result.chunk taken.row.number c.placed_in-placed.result.off t.bit (Some holder) c.put.ensures.holders (sym (c.placed_in-placed.ensures.chunk ∙ ap number_of read)) (sym c.placed_in-placed.ensures.off) in
    let within = empty_within t.index taken.row c.self.invariant taken.index in
    let spare : 1 ≤ i.spare = let room = ap (λ (r : ChunkRegion). r.room) c.self.view_is in let one = c.requires.spare in omega arith in
    subst (λ (rows : List KeptRow). AreKept i.unit_pages rows c.relocate.new.slots.items g (i.empty - c.from.result + c.from-2.result) i.next_object i.next_chunk (i.spare - 1) (vec_capacity c.relocate.new.slots) (room_in c.put.new.self)) (sym back)
    (kept_changed t.index taken.row new c.relocate.new.slots.items g _ i.next_object (i.spare - 1) _ _ c.self.invariant taken.index refl
    (row_placed g h i.unit_pages i.next_chunk t.bit n k c.args.atomic holder taken.row update c.self.invariant.most some taken.bit own)
    (other_row g h i.unit_pages i.next_chunk taken.row.number t.bit (Some holder) update low.0 c.self.invariant.most)
    (moved_by c.number.result t.slot c.slot.result taken.row.number (slot_in taken.row) (slot_in new) c.relocate.new.slots.items i.slots.items c.relocate.ensures.slots (c.number.ensures ∙ ap number_of read) taken.slot (c.slot.ensures ∙ ap slot_in read))
    (omega (arith, c.relocate.new.slots.ok.0, i.slots.ok.0, c.self.invariant.slots_room))
    (let old_empty = taken.empty in omega (arith, ap empty_of read))
    (omega (arith, length_put start_of (span t.bit n) taken.row.bits.objects))
    (let room = c.self.invariant.room in omega arith)
    c.self.invariant.serials)

pub returns-clause-place : goal.returns-clause-place
returns-clause-place c =
    let i = c.self.inside in let t = c.in_ok-taken.taken in let h = holder_in i.holders in let n = c.args.bytes / 4 in let k = c.args.align / 4 in
    let taken : IsTaken c.args.atomic n k i.chunks.items c.take_fit.new.chunks t = subst (λ (old : List KeptRow). IsTaken c.args.atomic n k old c.take_fit.new.chunks t) c.deref_mut.ensures.value c.in_ok-taken.ensures.taken in
    let new : KeptRow = with_bits t.bit n taken.row in
    let back = written_back i.chunks.len t.index i.chunks.items c.take_fit.new.chunks new (omega (arith, i.chunks.ok.0)) taken.new_is in
    let read = read_set t.index i.chunks.items new c.index-chunk.result.now (get_within t.index i.chunks.items taken.row taken.index) (c.index-chunk.ensures ∙ ap (λ (xs : List KeptRow). get_or xs t.index c.index-chunk.result.now) back) in
    let own = each_at (IsKeptRow i.unit_pages i.next_chunk h) t.index i.chunks.items taken.row c.self.invariant.rows_are taken.index in
    let told = c.placed_in-placed.ensures in
    same_told c.placed_in-placed.result.chunk c.placed_in-placed.result.base c.placed_in-placed.result.off c.placed_in-placed.result.bytes taken.row.number taken.row.base (4 * t.bit) c.args.bytes
    (pages_in c.placed_in-placed.result.missing) (filter (λ page. not (has_populated taken.row page)) (pages_of_bytes (4 * t.bit) c.args.bytes))
    (told.chunk ∙ ap number_of read) (told.base ∙ ap (λ (r : KeptRow). r.base) read) told.off told.bytes
    (told.missing ∙ ap (λ (r : KeptRow). filter (λ page. not (has_populated r page)) (pages_of_bytes (4 * t.bit) c.args.bytes)) read)
    ∙ somewhere c.args.atomic i.unit_pages i.next_chunk c.args.bytes c.args.align i.next_object i.next_chunk i.spare t.bit h i.chunks.items taken.row c.self.invariant.rows_are own taken.chosen taken.bit
    ∙ ap (place_for c.args.atomic c.args.bytes c.args.align) c.self.view_is

pub returns-clause-held : goal.returns-clause-held
returns-clause-held c =
    let i = c.self.inside in let t = c.in_ok-taken.taken in let h = holder_in i.holders in let g = holder_in c.put.new.self in let n = c.args.bytes / 4 in let k = c.args.align / 4 in
    let taken : IsTaken c.args.atomic n k i.chunks.items c.take_fit.new.chunks t = subst (λ (old : List KeptRow). IsTaken c.args.atomic n k old c.take_fit.new.chunks t) c.deref_mut.ensures.value c.in_ok-taken.ensures.taken in
    let new : KeptRow = with_bits t.bit n taken.row in
    let back = written_back i.chunks.len t.index i.chunks.items c.take_fit.new.chunks new (omega (arith, i.chunks.ok.0)) taken.new_is in
    let read = read_set t.index i.chunks.items new c.index-chunk.result.now (get_within t.index i.chunks.items taken.row taken.index) (c.index-chunk.ensures ∙ ap (λ (xs : List KeptRow). get_or xs t.index c.index-chunk.result.now) back) in
    let own = each_at (IsKeptRow i.unit_pages i.next_chunk h) t.index i.chunks.items taken.row c.self.invariant.rows_are taken.index in
    let some : 1 ≤ n = let bytes = c.requires.bytes in omega arith in
    let low = place_low h i.unit_pages i.next_chunk t.bit n k c.args.atomic taken.row c.self.invariant.most some taken.bit own in
    let holder : Holder = record { caller = c.args.caller; serial = 0 } in
    let number = sym (c.placed_in-placed.ensures.chunk ∙ ap number_of read) in
    let update : IsUpdate g h (object_key taken.row.number (4 * t.bit)) (Some holder) = update_moved g h c.placed_in-placed.result.chunk taken.row.number c.placed_in-placed.result.off t.bit (Some holder) c.put.ensures.holders number (sym c.placed_in-placed.ensures.off) in
    let at : ObjectAt = at_of c.placed_in-placed.result in
    let bytes : at.bytes ≡ 4 * n = let words = c.requires.words in let told = c.placed_in-placed.ensures.bytes in omega arith in
    let region : List Chunk → ChunkRegion = region_by i.unit_pages i.next_object i.next_chunk (i.spare - 1) in
    ap region
    (ap (chunks_in g) back
    ∙ chunks_changed g h (IsKeptRow i.unit_pages i.next_chunk h) (with_object c.args.caller at) 0 t.index i.chunks.items taken.row new c.self.invariant.numbers taken.index
    (view_placed g h i.unit_pages i.next_chunk t.bit n k c.args.caller c.args.atomic holder taken.row at update refl refl c.self.invariant.most some taken.bit own c.placed_in-placed.ensures.off bytes)
    (other_view g h i.unit_pages i.next_chunk taken.row.number t.bit (Some holder) update low.0 c.self.invariant.most) c.self.invariant.rows_are)
    ∙ ap (λ m. region (change_chunk m (with_object c.args.caller at) (chunks_in h i.chunks.items))) number
    ∙ ap (with_placed c.args.caller at) c.self.view_is
