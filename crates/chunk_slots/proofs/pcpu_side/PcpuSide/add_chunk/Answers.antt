use Rattle.std.proofs.Common.{◌+◌, List, length, refl, ap, sym, ◌∙◌, subst, arith}
use Rattle.std.specs.Prelude.{vec_capacity}
use Rattle.vm_model.specs.Space.{put_by}
use Rattle.chunk_slots.specs.Rising.{index_by}
use Rattle.chunk_slots.specs.KeptObjects.{holder_in, room_in}
use Rattle.chunk_slots.specs.KeptChunks.{KeptRow, slot_in}
use Rattle.chunk_slots.specs.KeptChunkSides.{number_of, AreKept}
use Rattle.chunk_slots.specs.ChunksBySlot.{key_of_slot, slot_key, in_slot_of}
use Rattle.chunk_slots.specs.ChunkRegion.{ChunkRegion}
use Rattle.chunk_slots.proofs.SlotLists.{slot_unused}
use Rattle.chunk_slots.proofs.SideStaysKept.{empty_of, lows_of, kept_added, fresh_empty, fresh_long}
use Rattle.chunk_slots.proofs.pcpu_side.PcpuSide.add_chunk.Goals as goal

pub put-requires-clause-new : goal.put-requires-clause-new
put-requires-clause-new c =
    let i = c.self.inside in let given = c.self.invariant.given in
    ap (index_by key_of_slot (slot_key c.slot-slot.result i.next_chunk)) (c.reserve.ensures.items ∙ c.self.invariant.slots_are)
    ∙ slot_unused c.slot-slot.result i.next_chunk i.chunks.items given (lows_of c.self.invariant)

pub invariant_of-self-2 : goal.invariant_of-self-2
invariant_of-self-2 c =
    let i = c.self.inside in let new = c.in_ok-chunk.ensures in
    let next = ap (λ (r : ChunkRegion). r.next_chunk) c.self.view_is in let few = c.requires in
    subst (λ (rows : List KeptRow). AreKept i.unit_pages rows c.put.new.items.items (holder_in i.holders) i.empty i.next_object (i.next_chunk + 1) i.spare (vec_capacity c.put.new.items) (room_in i.holders)) (sym c.in_ok-push.ensures.items)
    (kept_added c.in_ok-chunk.chunk c.put.new.items.items (i.next_chunk + 1) _ c.self.invariant (ap number_of new) refl (omega arith)
    (ap (λ (r : KeptRow). length r.populated) new ∙ fresh_long i.unit_pages) (ap (λ (r : KeptRow). r.bits.bits) new) (ap (λ (r : KeptRow). r.bits.objects) new) (ap empty_of new ∙ fresh_empty i.next_chunk c.args.base i.unit_pages)
    (c.put.ensures.items ∙ ap (λ s. put_by key_of_slot (record { slot = s; chunk = i.next_chunk }) c.reserve.new.self.items) c.slot-slot.ensures
    ∙ ap (λ m. put_by key_of_slot (record { slot = slot_in c.in_ok-chunk.chunk; chunk = m }) c.reserve.new.self.items) (sym (ap number_of new))
    ∙ ap (put_by key_of_slot (in_slot_of c.in_ok-chunk.chunk)) c.reserve.ensures.items)
    (omega (arith, c.put.new.items.ok.0, i.slots.ok.0, c.self.invariant.slots_room)))
