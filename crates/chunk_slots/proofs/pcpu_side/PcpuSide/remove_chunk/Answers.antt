use Rattle.std.proofs.Common.{◌≡◌, ℕ, ◌-◌, ◌==◌, List, filter, not, find, slice_get, Option, Some, None, ap, sym, ◌∙◌, subst, arith}
use Rattle.std.specs.Prelude.{vec_capacity}
use Rattle.vm_model.specs.PlainMap.{Chunk}
use Rattle.vm_model.specs.Chunks.{chunks_numbered}
use Rattle.chunk_slots.specs.declared.slots.InSlot.{InSlot}
use Rattle.chunk_slots.specs.KeptObjects.{holder_in, room_in}
use Rattle.chunk_slots.specs.KeptChunks.{KeptRow, slot_in}
use Rattle.chunk_slots.specs.KeptChunkSides.{chunks_in, AreKept}
use Rattle.chunk_slots.specs.ChunkRegion.{ChunkRegion, without_chunk}
use Rattle.chunk_slots.proofs.SideStaysKept.{empty_of, empty_within, kept_removed}
use Rattle.chunk_slots.specs.ChunksBySlot.{key_of_slot, slot_key}
use Rattle.chunk_slots.proofs.SideCalls.{chunk_there, region_by, without_number}
use Rattle.chunk_slots.proofs.pcpu_side.PcpuSide.remove_chunk.Goals as goal

first_of : ℕ → ChunkRegion → Option Chunk
first_of n r = slice_get (chunks_numbered n r.chunks) 0

some_row : (a b : KeptRow) → Some a ≡ Some b → a ≡ b
some_row a b e = cc

with_key : List KeptRow → ℕ → Option KeptRow
with_key rows n = find (λ (r : KeptRow). r.number == n) rows

pub overflow_sub-self : goal.overflow_sub-self
unfolding first_of with_key
overflow_sub-self c =
    let i = c.self.inside in let h = holder_in i.holders in
    let it = chunk_there h i.unit_pages i.next_chunk i.chunks.items c.args.chunk c.requires.row c.self.invariant.numbers c.self.invariant.rows_are (ap (first_of c.args.chunk) c.self.view_is ∙ c.requires.found) in
    let row : c.in-Some.gone ≡ it.row = some_row c.in-Some.gone it.row (c.in-Some.ensures.item ∙ ap (with_key i.chunks.items) c.from.ensures ∙ it.found) in
    omega (arith, empty_within it.index it.row c.self.invariant it.there, ap empty_of row)

pub invariant_of-self : goal.invariant_of-self
unfolding first_of with_key
invariant_of-self c =
    let i = c.self.inside in let h = holder_in i.holders in
    let it = chunk_there h i.unit_pages i.next_chunk i.chunks.items c.args.chunk c.requires.row c.self.invariant.numbers c.self.invariant.rows_are (ap (first_of c.args.chunk) c.self.view_is ∙ c.requires.found) in
    let row : c.in-Some.gone ≡ it.row = some_row c.in-Some.gone it.row (c.in-Some.ensures.item ∙ ap (with_key i.chunks.items) c.from.ensures ∙ it.found) in
    let rows : c.take_out.new.items.items ≡ filter (λ (r : KeptRow). not (r.number == it.row.number)) i.chunks.items =
    c.take_out.ensures.items ∙ ap (λ n. filter (λ (r : KeptRow). not (r.number == n)) i.chunks.items) (c.from.ensures ∙ sym it.number) in
    let key : c.key_in_slot.result ≡ slot_key (slot_in it.row) it.row.number = c.key_in_slot.ensures ∙ ap (λ s. slot_key s c.args.chunk) (c.slot.ensures ∙ ap slot_in row) ∙ ap (slot_key (slot_in it.row)) (sym it.number) in
    let within = empty_within it.index it.row c.self.invariant it.there in
    let old_empty = ap empty_of row in
    subst (λ (rs : List KeptRow). AreKept i.unit_pages rs c.take_out-in-Some.new.items.items h (i.empty - c.from-in-Some.result) i.next_object i.next_chunk i.spare (vec_capacity c.take_out-in-Some.new.items) (room_in i.holders)) (sym rows)
    (kept_removed it.index it.row c.take_out-in-Some.new.items.items _ _ c.self.invariant it.there
    (c.take_out-in-Some.ensures.items ∙ ap (λ k. filter (λ (s : InSlot). not (key_of_slot s == k)) i.slots.items) key)
    (omega (arith, c.take_out-in-Some.new.items.ok.0, i.slots.ok.0, c.self.invariant.slots_room))
    (omega arith))

pub invariant_of-self-in_default : goal.invariant_of-self-in_default
unfolding first_of with_key
invariant_of-self-in_default c =
    let i = c.self.inside in let h = holder_in i.holders in
    let it = chunk_there h i.unit_pages i.next_chunk i.chunks.items c.args.chunk c.requires.row c.self.invariant.numbers c.self.invariant.rows_are (ap (first_of c.args.chunk) c.self.view_is ∙ c.requires.found) in
    absurd (let clash : None ≡ Some it.row = sym c.in_default.is ∙ c.take_out.ensures.item ∙ ap (with_key i.chunks.items) c.from.ensures ∙ it.found in cc)

pub returns-in-Some : goal.returns-in-Some
returns-in-Some c =
    let i = c.self.inside in
    ap (region_by i.unit_pages i.next_object i.next_chunk i.spare)
    (ap (chunks_in (holder_in i.holders)) (c.take_out.ensures.items ∙ ap (λ n. filter (λ (r : KeptRow). not (r.number == n)) i.chunks.items) c.from.ensures) ∙ without_number (holder_in i.holders) c.args.chunk i.chunks.items)
    ∙ ap (without_chunk c.args.chunk) c.self.view_is

pub returns-in_default : goal.returns-in_default
unfolding first_of with_key
returns-in_default c =
    let i = c.self.inside in let h = holder_in i.holders in
    let it = chunk_there h i.unit_pages i.next_chunk i.chunks.items c.args.chunk c.requires.row c.self.invariant.numbers c.self.invariant.rows_are (ap (first_of c.args.chunk) c.self.view_is ∙ c.requires.found) in
    absurd (let clash : None ≡ Some it.row = sym c.in_default.is ∙ c.take_out.ensures.item ∙ ap (with_key i.chunks.items) c.from.ensures ∙ it.found in cc)
