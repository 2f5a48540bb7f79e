-- What stands at each place of a list that was made or changed, and that this decides the list.
use Rattle.std.proofs.Common.{◌≡◌, ◌≢◌, ℕ, zero, suc, ◌+◌, ◌<◌, List, [], ◌∷◌, drop, replicate, slice_get, slice_set, Some, refl, ap, ◌∙◌, arith}

-- lists that have the same at each place are equal
pub same_by_get : {X : Type 0} (xs ys : List X) → ((k : ℕ) → slice_get xs k ≡ slice_get ys k) → xs ≡ ys
same_by_get [] [] h = refl
same_by_get [] (y ∷ ys) h = let e = h 0 in cc
same_by_get (x ∷ xs) [] h = let e = h 0 in cc
same_by_get (x ∷ xs) (y ∷ ys) h = let e = h 0 in let rest = same_by_get xs ys (λ k. h (suc k)) in cc

pub slice_get-set_same : {X : Type 0} (xs : List X) (k : ℕ) (x y : X) → slice_get xs k ≡ Some y → slice_get (slice_set xs k x) k ≡ Some x
slice_get-set_same [] k x y h = cc
slice_get-set_same (z ∷ xs) zero x y h = refl
slice_get-set_same (z ∷ xs) (suc k) x y h = slice_get-set_same xs k x y h

pub slice_get-set_other : {X : Type 0} (xs : List X) (k other : ℕ) (x : X) → k ≢ other → slice_get (slice_set xs k x) other ≡ slice_get xs other
slice_get-set_other [] k other x h = refl
slice_get-set_other (z ∷ xs) zero zero x h = absurd (h refl)
slice_get-set_other (z ∷ xs) zero (suc other) x h = refl
slice_get-set_other (z ∷ xs) (suc k) zero x h = refl
slice_get-set_other (z ∷ xs) (suc k) (suc other) x h = slice_get-set_other xs k other x (λ e. h (let f : suc k ≡ suc other = omega arith in f))

pub slice_get-replicate : {X : Type 0} (n k : ℕ) (x : X) → k < n → slice_get (replicate n x) k ≡ Some x
slice_get-replicate zero k x h = absurd (omega arith)
slice_get-replicate (suc n) zero x h = refl
slice_get-replicate (suc n) (suc k) x h = slice_get-replicate n k x (omega arith)

pub slice_get-drop : {X : Type 0} (n : ℕ) (xs : List X) (k : ℕ) → slice_get (drop n xs) k ≡ slice_get xs (n + k)
slice_get-drop zero xs k = ap (slice_get xs) (let e : k ≡ 0 + k = omega arith in e)
slice_get-drop (suc n) [] k = refl
slice_get-drop (suc n) (x ∷ xs) k = slice_get-drop n xs k ∙ ap (slice_get (x ∷ xs)) (let e : suc (n + k) ≡ suc n + k = omega arith in e)
