use Rattle.std.proofs.Common.{◌≡◌, ◌++◌, ◌∷◌, [], map, take}
use Rattle.std.specs.Fmt.{signed_decimal}
use Rattle.vm_model.specs.Words.{fields}
use Rattle.report_text.proofs.audit_lines.put_cells.Given as goal

abbrev pub invariant-loop-cell : goal.invariant-loop-cell
invariant-loop-cell l = l.text.items ≡ l.fn.text.items ++ fields ([] ∷ map signed_decimal (take l.cell-index l.cells))
