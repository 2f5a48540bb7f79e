-- Sums over lists that were filtered or changed.
use Rattle.std.proofs.Common.{◌≡◌, ℕ, zero, suc, ◌+◌, ◌≤◌, Bool, true, false, not, cond, List, [], ◌∷◌, map, filter, slice_get, slice_set, sum_by, Some, refl, ap, sym, ◌∙◌, arith}
use Rattle.std.proofs.lemmas.List.Sums.{sum_by-cons, sum_by-set}
use Rattle.std.proofs.lemmas.Option.{slice_get_within, get_or_from_slice_get}

-- one element is no more than all
pub member-le : {X : Type 0} (f : X → ℕ) (xs : List X) (i : ℕ) (x : X) → slice_get xs i ≡ Some x → f x ≤ sum_by f xs
member-le f [] i x h = absurd cc
member-le f (y ∷ xs) zero x h = let same : y ≡ x = cc in omega (arith, sum_by-cons f y xs, ap f same)
member-le f (y ∷ xs) (suc i) x h = omega (arith, sum_by-cons f y xs, member-le f xs i x h)

-- where the sum is at most 1, only one element is counted
pub only_one : {X : Type 0} (f : X → ℕ) (xs : List X) (i j : ℕ) (x y : X) → sum_by f xs ≤ 1 → slice_get xs i ≡ Some x → slice_get xs j ≡ Some y → 1 ≤ f x → 1 ≤ f y → x ≡ y
only_one f [] i j x y s a b p q = absurd cc
only_one f (z ∷ xs) zero zero x y s a b p q = cc
only_one f (z ∷ xs) zero (suc j) x y s a b p q = let same : z ≡ x = cc in absurd (omega (arith, sum_by-cons f z xs, ap f same, member-le f xs j y b))
only_one f (z ∷ xs) (suc i) zero x y s a b p q = let same : z ≡ y = cc in absurd (omega (arith, sum_by-cons f z xs, ap f same, member-le f xs i x a))
only_one f (z ∷ xs) (suc i) (suc j) x y s a b p q = only_one f xs i j x y (omega (arith, sum_by-cons f z xs)) a b p q

-- what two filters leave that never pass the same element
part_by : {X : Type 0} (f : X → ℕ) (p q : X → Bool) (x : X) (xs : List X) (b d : Bool) → p x ≡ b → q x ≡ d → (p x ≡ true → q x ≡ false)
    → sum_by f (filter p xs) + sum_by f (filter q xs) ≤ sum_by f xs
    → sum_by f (cond b (x ∷ filter p xs) (filter p xs)) + sum_by f (cond d (x ∷ filter q xs) (filter q xs)) ≤ sum_by f (x ∷ xs)
part_by f p q x xs true true e g apart rest = let clash = apart e in absurd cc
part_by f p q x xs true false e g apart rest = omega (arith, sum_by-cons f x (filter p xs), sum_by-cons f x xs)
part_by f p q x xs false true e g apart rest = omega (arith, sum_by-cons f x (filter q xs), sum_by-cons f x xs)
part_by f p q x xs false false e g apart rest = omega (arith, sum_by-cons f x xs)

pub sum-filter_parts : {X : Type 0} (f : X → ℕ) (p q : X → Bool) (xs : List X) → ((i : ℕ) (x : X) → slice_get xs i ≡ Some x → p x ≡ true → q x ≡ false)
    → sum_by f (filter p xs) + sum_by f (filter q xs) ≤ sum_by f xs
sum-filter_parts f p q [] apart = omega arith
sum-filter_parts f p q (x ∷ xs) apart = part_by f p q x xs (p x) (q x) refl refl (apart 0 x refl) (sum-filter_parts f p q xs (λ i y e. apart (suc i) y e))

pub sum-filter-le : {X : Type 0} (f : X → ℕ) (p : X → Bool) (xs : List X) → sum_by f (filter p xs) ≤ sum_by f xs
sum-filter-le f p xs = omega (arith, sum-filter_parts f p (λ x. not (p x)) xs (λ i x at e. ap not e))

pub sum-filter_without : {X : Type 0} (f : X → ℕ) (p : X → Bool) (xs : List X) (i : ℕ) (x : X) → slice_get xs i ≡ Some x → p x ≡ false → sum_by f (filter p xs) + f x ≤ sum_by f xs
sum-filter_without f p [] i x h e = absurd cc
sum-filter_without f p (z ∷ xs) zero x h e = grind (arith, sum_by-cons, sum-filter-le)
sum-filter_without f p (z ∷ xs) (suc i) x h e = grind (arith, sum-filter_without f p xs i x h e, sum_by-cons)

-- a change of elements that changes no number
pub sum-map : {X Y : Type 0} (f : Y → ℕ) (g : X → Y) (xs : List X) → sum_by f (map g xs) ≡ sum_by (λ x. f (g x)) xs
sum-map f g [] = refl
sum-map f g (x ∷ xs) = omega (arith, sum-map f g xs, sum_by-cons f (g x) (map g xs), sum_by-cons (λ x. f (g x)) x xs)

pub sum-same : {X : Type 0} (f g : X → ℕ) (xs : List X) → ((x : X) → f x ≡ g x) → sum_by f xs ≡ sum_by g xs
sum-same f g [] h = refl
sum-same f g (x ∷ xs) h = omega (arith, sum-same f g xs h, h x, sum_by-cons f x xs, sum_by-cons g x xs)

pub sum-le : {X : Type 0} (f g : X → ℕ) (xs : List X) → ((x : X) → f x ≤ g x) → sum_by f xs ≤ sum_by g xs
sum-le f g [] h = omega arith
sum-le f g (x ∷ xs) h = omega (arith, sum-le f g xs h, h x, sum_by-cons f x xs, sum_by-cons g x xs)

-- one element that is replaced
pub sum-set : {X : Type 0} (f : X → ℕ) (xs : List X) (k : ℕ) (x y : X) → slice_get xs k ≡ Some x → sum_by f (slice_set xs k y) + f x ≡ sum_by f xs + f y
sum-set f xs k x y h = ap (λ z. sum_by f (slice_set xs k y) + f z) (sym (get_or_from_slice_get xs k x x h)) ∙ sum_by-set f xs k y x (slice_get_within xs k x h)
