use Rattle.std.proofs.Common.{◌≡◌, ◌≤◌, take, vec_capacity}
use Rattle.std.specs.Slots.{slots_items}
use Rattle.percpu_counters.proofs.close.closed_words.Given as goal

abbrev pub invariant-loop-i : goal.invariant-loop-i
invariant-loop-i l = record {
  words : l.words.items ≡ take l.i (slots_items l.closed.words);
  room : l.count ≤ vec_capacity l.words;
}
