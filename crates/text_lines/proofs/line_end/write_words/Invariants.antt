use Rattle.std.proofs.Common.{◌-◌, ◌∷◌, [], drop, length}
use Rattle.text_lines.specs.Fields.{field_texts, StandsBefore}
use Rattle.vm_model.specs.Words.{fields}
use Rattle.text_lines.proofs.line_end.write_words.Given as goal

-- the fields behind the next one stand
abbrev pub invariant-loop-i : goal.invariant-loop-i
invariant-loop-i l = StandsBefore (fields ([] ∷ field_texts (drop (length l.words - l.i) l.words))) l.fn.bytes l.end l.bytes l.start
