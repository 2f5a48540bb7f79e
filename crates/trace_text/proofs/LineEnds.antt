-- Where a byte stands first in a text, told by its places.
use Rattle.std.proofs.Common.{◌≡◌, ◌∙◌, ℕ, zero, suc, ◌+◌, ◌-◌, ◌<◌, ◌≤◌, Bool, true, false, not, ◌==◌, List, [], ◌∷◌, ◌++◌, length, take, drop, get_or, slice_index, refl, ap, sym, arith}
use Rattle.std.proofs.Math.Seq.{take-length}
use Rattle.std.proofs.lemmas.Bool.{and_from, eqb-true}
use Rattle.std.proofs.lemmas.List.{take-append-drop, drop_more, length-drop}
use Rattle.vm_model.specs.Words.{lacks}

not_true : (d : Bool) → (d ≡ true → ⊥) → not d ≡ true
not_true true h = absurd (h refl)
not_true false h = refl

-- a text lacks a byte before a place, where it stands at none of the places before that
pub lacks_before : (at : ℕ) (text : List ℕ) (k : ℕ) → ((j : ℕ) → 0 ≤ j → j < k → (slice_index text j == at) ≡ true → ⊥) → lacks at (take k text) ≡ true
lacks_before at [] zero none = refl
lacks_before at [] (suc k) none = refl
lacks_before at (b ∷ text) zero none = refl
lacks_before at (b ∷ text) (suc k) none =
    and_from (not (b == at)) (lacks at (take k text)) (not_true (b == at) (none 0 (omega arith) (omega arith)))
    (lacks_before at text k (λ j low high is. none (suc j) (omega arith) (omega arith) is))

pub lacks_throughout : (at : ℕ) (text : List ℕ) → ((j : ℕ) → 0 ≤ j → j < length text → (slice_index text j == at) ≡ true → ⊥) → lacks at text ≡ true
lacks_throughout at text none = let all = lacks_before at text (length text) none in let same = take-length text in cc

-- the text is what stands before a place, its byte, and what stands after it
pub cut_at : (at : ℕ) (text : List ℕ) (k : ℕ) → k < length text → (slice_index text k == at) ≡ true → text ≡ take k text ++ at ∷ take (length text - (k + 1)) (drop (k + 1) text)
cut_at at text k low is =
    let here : get_or text k 0 ≡ at = eqb-true (get_or text k 0) at is in
    let rest : take (length text - (k + 1)) (drop (k + 1) text) ≡ drop (k + 1) text = ap (λ n. take n (drop (k + 1) text)) (sym (length-drop (k + 1) text)) ∙ take-length (drop (k + 1) text) in
    sym (take-append-drop k text) ∙ ap (λ t. take k text ++ t) (drop_more text k 0 low ∙ ap (λ b. b ∷ drop (k + 1) text) here ∙ ap (λ t. at ∷ t) (sym rest))
