-- The line that a text is, by its word.
use Rattle.std.proofs.Common.{◌≡◌, ◌∙◌, ℕ, true, List, [], ◌∷◌, ◌++◌, ap, sym, arith}
use Rattle.vm_model.specs.Words.{fields}
use Rattle.trace_text.specs.SpelledLines.{Line, is_spelt, spelled}
use Rattle.trace_text.proofs.Split.{is_clean, split_at, split_at-fields, split_at-cut}
use Rattle.trace_text.proofs.Guess.{guess}
use Rattle.trace_text.proofs.Spelling.{guess-spelled, are_fields-spelled}

-- a line whose text begins with a word is the one that this word's entry makes
pub line_by_word : (l : Line) (word text : List ℕ) → is_spelt l ≡ true → is_clean word ≡ true → word ++ 32 ∷ text ≡ fields (spelled l) → l ≡ guess (word ∷ split_at 32 text)
line_by_word l word text h clean e =
    let parts : split_at 32 (word ++ 32 ∷ text) ≡ spelled l = ap (split_at 32) e ∙ split_at-fields (spelled l) (are_fields-spelled l h) in
    sym (guess-spelled l h) ∙ ap guess (sym parts ∙ split_at-cut 32 word text (omega arith) clean)

pub behind : (word text rest : List ℕ) → word ++ 32 ∷ text ≡ word ++ 32 ∷ rest → text ≡ rest
behind [] text rest e = cc
behind (b ∷ word) text rest e = behind word text rest (let t : word ++ 32 ∷ text ≡ word ++ 32 ∷ rest = cc in t)
