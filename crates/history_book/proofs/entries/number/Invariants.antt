use Rattle.std.proofs.Common.{◌≡◌, ◌+◌, ◌-◌, ◌≤◌, ◌++◌, length, take, vec_len, vec_capacity}
use Rattle.history_book.specs.BookEntries.{places_of, entries_noted}
use Rattle.history_book.proofs.entries.number.Given as goal

abbrev pub invariant-loop-index : goal.invariant-loop-index
invariant-loop-index l = record {
  callers : l.passed.callers ≤ length l.moved;
  counted : l.passed.own ≡ length (places_of l.caller 1 (take l.passed.callers l.moved));
  entries : l.into.items ≡ l.initial.into.items ++ entries_noted (places_of l.caller 1 l.moved) l.caller 1 (take l.index l.rows);
  room : vec_len l.into + (length l.rows - l.index) ≤ vec_capacity l.into;
}
