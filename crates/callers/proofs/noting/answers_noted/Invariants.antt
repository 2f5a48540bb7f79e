use Rattle.std.proofs.Common.{◌≡◌, ◌≤◌, map, take, length}
use Rattle.std.specs.Vec.{vec_capacity}
use Rattle.callers.specs.declared.answers.Answered.{Answered as Code}
use Rattle.callers.specs.CallerParts.{answer_of, answers_with}
use Rattle.callers.proofs.noting.answers_noted.Given as goal

abbrev pub invariant-loop-index : goal.invariant-loop-index
invariant-loop-index l = record {
  told : map answer_of l.answers.items ≡ take l.index (answers_with l.calls l.book.rows l.outcomes);
  kept : map (λ (a : Code). a.outcome) l.answers.items ≡ take l.index l.outcomes;
  count : length l.answers.items ≡ l.index;
  room : length l.outcomes ≤ vec_capacity l.answers;
}
