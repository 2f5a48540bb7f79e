use Rattle.std.proofs.Common.{◌≡◌, ◌++◌, suc, ℕ, drop}
use Rattle.trace_text.specs.SpelledLines.{text_of}
use Rattle.trace_maker.specs.Generated.{Making, sections_from}
use Rattle.trace_maker.specs.WrittenSections.{AreMade}
use Rattle.trace_maker.proofs.maker.put_sections.Given as goal

abbrev pub invariant-loop-i : goal.invariant-loop-i
invariant-loop-i l = (state : ℕ) (m : Making) → AreMade l.sections state m → l.text.items ++ text_of (sections_from (suc l.i) (drop l.i m.sections)) ≡ l.fn.text.items ++ text_of (sections_from 1 m.sections)
