use Rattle.std.proofs.Common.{◌≡◌, ℕ, ◌+◌, ◌-◌, ◌<◌, ◌≤◌, List, length, take, true, false, vec_capacity}
use Rattle.std.specs.Prelude.{slice_index_or}
use Rattle.std.specs.Slots.{slots_items, slots_filled, slots_len}
use Rattle.section_table.proofs.close.empty_out.Given as goal

abbrev pub invariant-loop-i : goal.invariant-loop-i
invariant-loop-i g l =
    (slots_items l.closed.slots ≡ slots_items l.initial.closed.slots)
    × (slots_len l.closed.slots ≡ slots_len l.initial.closed.slots)
    × (l.into.items ≡ take l.i (slots_items l.initial.closed.slots))
    × (l.i ≤ slots_len l.closed.slots) × (slots_len l.closed.slots ≤ vec_capacity l.into)
    × ((k : ℕ) → l.i ≤ k → k < slots_len l.closed.slots → slice_index_or (slots_filled l.closed.slots) k false ≡ true)
    × ((k : ℕ) → k < l.i → slice_index_or (slots_filled l.closed.slots) k false ≡ false)

abbrev pub decreases-loop-i : goal.decreases-loop-i
decreases-loop-i g l = slots_len l.closed.slots - l.i
