use Rattle.std.proofs.Common.{◌≡◌, map}
use Rattle.section_table.specs.Shown.{shown_of}
use Rattle.section_table.specs.WrittenLists.{locals_of}
use Rattle.section_table.proofs.close.list_locals.Given as goal

abbrev pub invariant-loop-kept : goal.invariant-loop-kept
invariant-loop-kept g l =
    (goal.iterator-loop-kept g).can_next l.kept-iterator ×
    (goal.iterator-loop-kept g).is_finite l.kept-iterator ×
    (l.locals.items ≡ locals_of (map shown_of l.yielded))
