use Rattle.std.proofs.Common.{◌≡◌, ◌≤◌, length, vec_capacity}
use Rattle.section_table.specs.PassViews.{merged}
use Rattle.section_table.proofs.callers.merge.Given as goal

abbrev pub invariant-loop-other : goal.invariant-loop-other
invariant-loop-other g l =
    (goal.iterator-loop-other g).can_next l.other-iterator ×
    (goal.iterator-loop-other g).is_finite l.other-iterator ×
    (l.place ≡ length l.yielded) ×
    (l.callers.items ≡ merged l.initial.callers.items l.yielded) ×
    (vec_capacity l.callers ≡ vec_capacity l.initial.callers)
