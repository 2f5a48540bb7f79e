use Rattle.std.proofs.Common.{◌≡◌, ◌++◌, ◌∷◌, [], take}
use Rattle.text_lines.specs.Fields.{field_texts}
use Rattle.vm_model.specs.Words.{fields}
use Rattle.text_lines.proofs.line.put_each.Given as goal

abbrev pub invariant-loop-word : goal.invariant-loop-word
invariant-loop-word l = l.text.items ≡ l.fn.text.items ++ fields ([] ∷ field_texts (take l.word-index l.words))
