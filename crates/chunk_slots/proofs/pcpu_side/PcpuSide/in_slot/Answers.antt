use Rattle.std.proofs.Common.{List, slice_get, ap, sym, ◌∙◌, subst}
use Rattle.chunk_slots.specs.declared.slots.InSlot.{InSlot}
use Rattle.chunk_slots.specs.KeptObjects.{holder_in}
use Rattle.chunk_slots.specs.ChunkRegion.{ChunkRegion, numbers_in_slot}
use Rattle.chunk_slots.proofs.InSlots.{AreSmall, slots_small, numbers_in_view, of_one_slot}
use Rattle.chunk_slots.proofs.SideStaysKept.{are_low}
use Rattle.chunk_slots.proofs.pcpu_side.PcpuSide.in_slot.Goals as goal

pub nth_in_slot-requires-clause-small : goal.nth_in_slot-requires-clause-small
nth_in_slot-requires-clause-small c =
    subst AreSmall (sym (c.deref.ensures.value ∙ c.self.invariant.slots_are)) (slots_small c.self.inside.chunks.items (are_low c.self.invariant))

pub returns : goal.returns
returns c =
    let i = c.self.inside in
    c.nth_in_slot.ensures
    ∙ ap (λ (ss : List InSlot). slice_get (of_one_slot c.args.slot ss) c.args.nth) (c.deref.ensures.value ∙ c.self.invariant.slots_are)
    ∙ ap (λ ns. slice_get ns c.args.nth) (numbers_in_view c.args.slot i.unit_pages i.next_chunk (holder_in i.holders) i.chunks.items c.self.invariant.numbers c.self.invariant.rows_are)
    ∙ ap (λ (r : ChunkRegion). slice_get (numbers_in_slot c.args.slot r) c.args.nth) c.self.view_is
