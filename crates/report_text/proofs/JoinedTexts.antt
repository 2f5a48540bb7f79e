-- Texts of things in a row, behind others.
use Rattle.std.proofs.Common.{◌≡◌, ◌∙◌, ℕ, suc, arith, length-take, List, [], ◌∷◌, ◌++◌, ap, sym, append_assoc, length, take, get_or, ◌+◌, ◌<◌}
use Rattle.std.proofs.lemmas.List.{append-nil, flat_map_more, take_more}
use Rattle.std.specs.List.{flat_map}
use Rattle.vm_model.specs.Words.{numbered}

-- where the text of the thing at its place is written
pub flat_map_step : {X : Type 0} (text : X → List ℕ) (xs : List X) (i : ℕ) (d : X) (old t new : List ℕ) → i < length xs → t ≡ old ++ flat_map text (take i xs) → new ≡ t ++ text (get_or xs i d) → new ≡ old ++ flat_map text (take (i + 1) xs)
flat_map_step text xs i d old t new h written put =
    put ∙ ap (λ u. u ++ text (get_or xs i d)) written ∙ flat_map_more text old (take i xs) (get_or xs i d) ∙ ap (λ ys. old ++ flat_map text ys) (sym (take_more xs i d h))

numbered-append : {X : Type 0} (text : ℕ → X → List ℕ) (k : ℕ) (xs : List X) (x : X) → numbered text k (xs ++ x ∷ []) ≡ numbered text k xs ++ text (k + length xs) x
numbered-append text k [] x = append-nil (text k x) ∙ ap (λ n. text n x) (omega arith)
numbered-append text k (y ∷ xs) x =
    let place : suc k + length xs ≡ k + suc (length xs) = omega arith in
    ap (λ t. text k y ++ t) (numbered-append text (suc k) xs x ∙ ap (λ n. numbered text (suc k) xs ++ text n x) place) ∙ sym (append_assoc (text k y) (numbered text (suc k) xs) (text (k + suc (length xs)) x))

-- one more of the things in a row
numbered_more : {X : Type 0} (text : ℕ → X → List ℕ) (xs : List X) (i : ℕ) (d : X) → i < length xs → numbered text 0 (take (i + 1) xs) ≡ numbered text 0 (take i xs) ++ text i (get_or xs i d)
numbered_more text xs i d h =
    let place : 0 + length (take i xs) ≡ i = omega (arith, length-take i xs) in
    ap (numbered text 0) (take_more xs i d h) ∙ numbered-append text 0 (take i xs) (get_or xs i d) ∙ ap (λ n. numbered text 0 (take i xs) ++ text n (get_or xs i d)) place

-- and with its number
pub numbered_step : {X : Type 0} (text : ℕ → X → List ℕ) (xs : List X) (i : ℕ) (x : X) (old t new : List ℕ) → i < length xs → x ≡ get_or xs i x → t ≡ old ++ numbered text 0 (take i xs) → new ≡ t ++ text i x → new ≡ old ++ numbered text 0 (take (i + 1) xs)
numbered_step text xs i x old t new h same written put =
    put ∙ ap (λ u. u ++ text i x) written ∙ append_assoc old (numbered text 0 (take i xs)) (text i x) ∙ ap (λ y. old ++ (numbered text 0 (take i xs) ++ text i y)) same ∙ ap (λ u. old ++ u) (sym (numbered_more text xs i x h))

-- two texts behind what was written
pub behind_both : (t t1 t2 f g : List ℕ) → t1 ≡ t ++ f → t2 ≡ t1 ++ g → t2 ≡ t ++ (f ++ g)
behind_both t t1 t2 f g h k = k ∙ ap (λ x. x ++ g) h ∙ append_assoc t f g
