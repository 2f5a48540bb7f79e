use Rattle.std.proofs.Common.{◌≡◌, ℕ, ◌+◌, get_or, sym, ap, ◌∙◌}
use Rattle.std.proofs.lemmas.Option.{slice_get-get_or}
use Rattle.chunk_slots.specs.Rising.{rank_by}
use Rattle.chunk_slots.specs.ChunksBySlot.{key_of_slot, slot_key}
use Rattle.chunk_slots.proofs.SlotRows.{no_slot}
use Rattle.chunk_slots.proofs.InSlots.{found_in_slot, not_in_slot, past_slots}
use Rattle.chunk_slots.proofs.slots.nth_in_slot.Goals as goal
use Rattle.chunk_slots.proofs.slots.nth_in_slot.Goals.{else-place-slots-via-then-place-slots+else-slots-place, else-place-slots-via-else-place-slots}

pub returns-then-slots-place : goal.returns-then-slots-place
returns-then-slots-place c =
    let place : ℕ = c.rank.result + c.args.nth in
    let is : place ≡ rank_by key_of_slot (slot_key c.args.slot 0) c.args.slots.now + c.args.nth = ap (λ r. r + c.args.nth) (c.rank.ensures.rank ∙ ap (λ k. rank_by key_of_slot k c.args.slots.now) c.key_in_slot.ensures) in
    sym (found_in_slot c.args.slot c.args.nth place c.args.slots.now (get_or c.args.slots.now place no_slot) c.requires.rising c.requires.small is (slice_get-get_or c.args.slots.now place no_slot c.if-place-slots.true) c.if-slots-place.true)

pub returns-else-place-slots : goal.returns-else-place-slots
returns-else-place-slots c =
    let place : ℕ = c.rank.result + c.args.nth in
    let is : place ≡ rank_by key_of_slot (slot_key c.args.slot 0) c.args.slots.now + c.args.nth = ap (λ r. r + c.args.nth) (c.rank.ensures.rank ∙ ap (λ k. rank_by key_of_slot k c.args.slots.now) c.key_in_slot.ensures) in
    elim c.else-place-slots.branch [
      | else-place-slots-via-then-place-slots+else-slots-place w ↦
          sym (not_in_slot c.args.slot c.args.nth place c.args.slots.now (get_or c.args.slots.now place no_slot) c.requires.rising c.requires.small is (slice_get-get_or c.args.slots.now place no_slot w.if-place-slots.true) w.if-slots-place.false)
      | else-place-slots-via-else-place-slots w ↦ sym (past_slots c.args.slot c.args.nth place c.args.slots.now c.requires.rising c.requires.small is w.if-place-slots.false)
    ]
