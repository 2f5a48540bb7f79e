-- Lists of what was in slots, and which slots are empty.
use Rattle.std.proofs.Common.{◌≡◌, ◌≢◌, ℕ, zero, suc, ◌+◌, ◌<◌, ◌≤◌, Bool, true, false, List, [], ◌∷◌, ◌++◌, length, take, get_or, set, refl, sym, ap, ◌∙◌, subst, arith, get_or-set_other, get_or-set_same}
use mathlib.Core.Logic.{dite}
use native.Mathlib.Decide.{ℕ_discrete}
use mathlib.Core.Option.{some, some-injective, some-ne-none}
use lib.ListN.{get_elem?}

take_suc : {A : Type 0} (l : List A) (i : ℕ) (a : A) → get_elem? l i ≡ some a → take (suc i) l ≡ take i l ++ a ∷ []
take_suc [] i a e = absurd (some-ne-none a (sym e))
take_suc (x ∷ xs) zero a e = λ k. some-injective x a e k ∷ []
take_suc (x ∷ xs) (suc i) a e = λ k. x ∷ take_suc xs i a e k

pub take_more : {A : Type 0} (l : List A) (i : ℕ) (a : A) → get_elem? l i ≡ some a → take (i + 1) l ≡ take i l ++ a ∷ []
take_more l i a e = ap (λ (z : ℕ). take z l) (let s : i + 1 ≡ suc i = omega arith in s) ∙ take_suc l i a e

pub still_full : (fs : List Bool) (i n : ℕ) → ((k : ℕ) → i ≤ k → k < n → get_or fs k false ≡ true) → (k : ℕ) → i + 1 ≤ k → k < n → get_or (set fs i false) k false ≡ true
still_full fs i n full k low high = get_or-set_other fs i k false false (λ e. absurd (omega arith)) ∙ full k (omega arith) high

pub now_empty : (fs : List Bool) (i : ℕ) → i < length fs → ((k : ℕ) → k < i → get_or fs k false ≡ false) → (k : ℕ) → k < i + 1 → get_or (set fs i false) k false ≡ false
now_empty fs i inside empty k low = dite (ℕ_discrete k i)
    (λ e. ap (λ (z : ℕ). get_or (set fs i false) z false) e ∙ get_or-set_same fs i false false inside)
    (λ ne. get_or-set_other fs i k false false ne ∙ empty k (omega arith))
