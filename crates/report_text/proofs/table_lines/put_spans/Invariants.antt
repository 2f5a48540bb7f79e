use Rattle.std.proofs.Common.{◌≡◌, ◌++◌, ◌∷◌, [], take}
use Rattle.std.specs.List.{flat_map}
use Rattle.vm_model.specs.declared.areas.Span.{Span}
use Rattle.vm_model.specs.Words.{line}
use Rattle.report_text.specs.Numerals.{range}
use Rattle.report_text.proofs.table_lines.put_spans.Given as goal

abbrev pub invariant-loop-span : goal.invariant-loop-span
invariant-loop-span l = l.text.items ≡ l.fn.text.items ++ flat_map (λ (s : Span). line (l.word ∷ range s ∷ [])) (take l.span-index l.spans)
