use Rattle.std.proofs.Common.{◌≡◌, map}
use Rattle.section_table.specs.Shown.{shown_of}
use Rattle.section_table.specs.PassViews.{newcomer}
use Rattle.section_table.proofs.callers.enlist.Given as goal

abbrev pub invariant-loop-local : goal.invariant-loop-local
invariant-loop-local g l =
    (goal.iterator-loop-local g).can_next l.local-iterator ×
    (goal.iterator-loop-local g).is_finite l.local-iterator ×
    (map shown_of l.callers.items ≡ map newcomer l.yielded)
