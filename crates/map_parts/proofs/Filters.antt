-- Filters and maps in either order.
use Rattle.std.proofs.Common.{◌≡◌, ◌≢◌, ℕ, zero, suc, ◌+◌, ◌<◌, ◌≤◌, Bool, true, false, cond, ◌&&◌, ◌||◌, ◌==◌, length, ◌⊎◌, inl, inr, List, [], ◌∷◌, ◌++◌, map, filter, find, flat_map, option_map, slice_get, slice_set, Option, Some, refl, ap, sym, ◌∙◌, arith}
use Rattle.std.proofs.lemmas.Bool.Decides.{nat_tests}
use Rattle.vm_model.specs.Space.{count_from, is_among}
use Rattle.map_parts.proofs.Tests.{is_equal, or_first, or_second}

pub filter_comm : {X : Type 0} (p q : X → Bool) (xs : List X) → filter p (filter q xs) ≡ filter q (filter p xs)
filter_comm p q [] = refl
filter_comm p q (x ∷ xs) = grind (arith, filter_comm p q xs, nat_tests)

-- a filter that passes each element
pub filter_each : {X : Type 0} (p : X → Bool) (xs : List X) → ((i : ℕ) (x : X) → slice_get xs i ≡ Some x → p x ≡ true) → filter p xs ≡ xs
filter_each p [] h = refl
filter_each p (x ∷ xs) h = ap (λ b. cond b (x ∷ filter p xs) (filter p xs)) (h 0 x refl) ∙ ap (λ ys. x ∷ ys) (filter_each p xs (λ i y e. h (suc i) y e))

pub filter_passes : {X : Type 0} (p : X → Bool) (xs : List X) (i : ℕ) (y : X) → slice_get (filter p xs) i ≡ Some y → p y ≡ true
filter_passes p [] i y h = cc
filter_passes p (x ∷ xs) i y h = grind (arith, filter_passes p xs, nat_tests)

filter_was : {X : Type 0} (p : X → Bool) (x y : X) (xs : List X) (i : ℕ) (b : Bool) → slice_get (cond b (x ∷ filter p xs) (filter p xs)) i ≡ Some y
    → ((j : ℕ) → slice_get (filter p xs) j ≡ Some y → (n : ℕ) × (slice_get xs n ≡ Some y)) → (n : ℕ) × (slice_get (x ∷ xs) n ≡ Some y)
filter_was p x y xs zero true h more = (0, h)
filter_was p x y xs (suc i) true h more = let w = more i h in (suc w.0, w.1)
filter_was p x y xs i false h more = let w = more i h in (suc w.0, w.1)

pub filter_within : {X : Type 0} (p : X → Bool) (xs : List X) (i : ℕ) (y : X) → slice_get (filter p xs) i ≡ Some y → (n : ℕ) × (slice_get xs n ≡ Some y)
filter_within p [] i y h = absurd cc
filter_within p (x ∷ xs) i y h = filter_was p x y xs i (p x) h (λ j e. filter_within p xs j y e)

pub filter_twice : {X : Type 0} (p : X → Bool) (xs : List X) → filter p (filter p xs) ≡ filter p xs
filter_twice p xs = filter_each p (filter p xs) (filter_passes p xs)

pub filter-map : {X : Type 0} (p : X → Bool) (f : X → X) (xs : List X) → ((x : X) → p (f x) ≡ p x) → filter p (map f xs) ≡ map f (filter p xs)
filter-map p f [] h = refl
filter-map p f (x ∷ xs) h = grind (arith, filter-map p f xs h, nat_tests)

-- a change of no element
pub map_same : {X : Type 0} (f : X → X) (xs : List X) → ((i : ℕ) (x : X) → slice_get xs i ≡ Some x → f x ≡ x) → map f xs ≡ xs
map_same f [] h = refl
map_same f (x ∷ xs) h = ap (λ y. y ∷ map f xs) (h 0 x refl) ∙ ap (λ ys. x ∷ ys) (map_same f xs (λ i y e. h (suc i) y e))

-- a list by numbers, with one element changed
pub map-count_set : {X : Type 0} (f g : ℕ → X) (n first k : ℕ) (x : X) → g (first + k) ≡ x → ((i : ℕ) → i ≢ first + k → g i ≡ f i)
    → map g (count_from n first) ≡ slice_set (map f (count_from n first)) k x
map-count_set f g zero first k x h others = refl
map-count_set f g (suc n) first zero x h others =
    let here : first + 0 ≡ first = omega arith in
    ap (λ y. y ∷ map g (count_from n (suc first))) (ap g (sym here) ∙ h)
    ∙ ap (λ ys. x ∷ ys) (same_map n (suc first) (λ i l. others i (λ e. absurd (omega arith))))
  where
    same_map : (n first' : ℕ) → ((i : ℕ) → first' ≤ i → g i ≡ f i) → map g (count_from n first') ≡ map f (count_from n first')
    same_map zero first' same = refl
    same_map (suc n) first' same =
        ap (λ y. y ∷ map g (count_from n (suc first'))) (same first' (omega arith)) ∙ ap (λ ys. f first' ∷ ys) (same_map n (suc first') (λ i l. same i (omega arith)))
map-count_set f g (suc n) first (suc k) x h others = grind (arith, map-count_set f g n (suc first) k x, nat_tests)

pub slice_get-map_count : {X : Type 0} (f : ℕ → X) (n first k : ℕ) → k < n → slice_get (map f (count_from n first)) k ≡ Some (f (first + k))
slice_get-map_count f zero first k h = absurd (omega arith)
slice_get-map_count f (suc n) first zero h = let here : first ≡ first + 0 = omega arith in ap (λ i. Some (f i)) here
slice_get-map_count f (suc n) first (suc k) h = let next : suc first + k ≡ first + suc k = omega arith in slice_get-map_count f n (suc first) k (omega arith) ∙ ap (λ i. Some (f i)) next

-- What is found, and what stands in lists that are joined.

found_by : {X : Type 0} (p : X → Bool) (x y : X) (xs : List X) (b : Bool) → p x ≡ b → cond b (Some x) (find p xs) ≡ Some y
    → (find p xs ≡ Some y → (p y ≡ true) × ((i : ℕ) × (slice_get xs i ≡ Some y))) → (p y ≡ true) × ((i : ℕ) × (slice_get (x ∷ xs) i ≡ Some y))
found_by p x y xs true e h more = let same : x ≡ y = cc in (ap p (sym same) ∙ e, (0, h))
found_by p x y xs false e h more = let w = more h in (w.0, (suc w.1.0, w.1.1))

pub found_there : {X : Type 0} (p : X → Bool) (xs : List X) (y : X) → find p xs ≡ Some y → (p y ≡ true) × ((i : ℕ) × (slice_get xs i ≡ Some y))
found_there p [] y h = absurd cc
found_there p (x ∷ xs) y h = found_by p x y xs (p x) refl h (found_there p xs y)

-- a filter that leaves all that the test finds
find-filter_by : {X : Type 0} (p q : X → Bool) (x : X) (xs : List X) (b d : Bool) → p x ≡ b → q x ≡ d → (p x ≡ true → q x ≡ true) → find p (filter q xs) ≡ find p xs
    → find p (cond d (x ∷ filter q xs) (filter q xs)) ≡ cond b (Some x) (find p xs)
find-filter_by p q x xs b true e f h rest = ap (λ t. cond t (Some x) (find p (filter q xs))) e ∙ ap (cond b (Some x)) rest
find-filter_by p q x xs true false e f h rest = let g = h e in cc
find-filter_by p q x xs false false e f h rest = rest

pub find-filter : {X : Type 0} (p q : X → Bool) (xs : List X) → ((i : ℕ) (x : X) → slice_get xs i ≡ Some x → p x ≡ true → q x ≡ true) → find p (filter q xs) ≡ find p xs
find-filter p q [] h = refl
find-filter p q (x ∷ xs) h = find-filter_by p q x xs (p x) (q x) refl refl (h 0 x refl) (find-filter p q xs (λ i y e. h (suc i) y e))

pub append_at : {X : Type 0} (xs ys : List X) (k : ℕ) (z : X) → slice_get (xs ++ ys) k ≡ Some z → (slice_get xs k ≡ Some z) ⊎ ((i : ℕ) × (k ≡ length xs + i) × (slice_get ys i ≡ Some z))
append_at [] ys k z h = inr (k, (let e : k ≡ 0 + k = omega arith in e), h)
append_at (x ∷ xs) ys zero z h = inl h
append_at (x ∷ xs) ys (suc k) z h = elim (append_at xs ys k z h) [ inl e ↦ inl e | inr w ↦ inr (w.0, (let f : suc k ≡ suc (length xs) + w.0 = omega arith in f), w.2) ]

pub append_cases : {X : Type 0} (xs ys : List X) (k : ℕ) (z : X) → slice_get (xs ++ ys) k ≡ Some z → ((i : ℕ) × (slice_get xs i ≡ Some z)) ⊎ ((j : ℕ) × (slice_get ys j ≡ Some z))
append_cases xs ys k z h = elim (append_at xs ys k z h) [ inl e ↦ inl (k, e) | inr w ↦ inr (w.0, w.2) ]

pub flat_map_each : {X Y : Type 0} (P : Y → Type 0) (f : X → List Y) (xs : List X) → ((i : ℕ) (x : X) → slice_get xs i ≡ Some x → (j : ℕ) (y : Y) → slice_get (f x) j ≡ Some y → P y)
    → (j : ℕ) (y : Y) → slice_get (flat_map f xs) j ≡ Some y → P y
flat_map_each P f [] h j y e = absurd cc
flat_map_each P f (x ∷ xs) h j y e = elim (append_cases (f x) (flat_map f xs) j y e) [
  | inl w ↦ h 0 x refl w.0 y w.1
  | inr w ↦ flat_map_each P f xs (λ i z a. h (suc i) z a) w.0 y w.1
]

-- what a map has at a place
pub map_was : {X Y : Type 0} (f : X → Y) (xs : List X) (i : ℕ) (y : Y) → slice_get (map f xs) i ≡ Some y → (x : X) × (slice_get xs i ≡ Some x) × (f x ≡ y)
map_was f [] i y h = absurd cc
map_was f (x ∷ xs) zero y h = (x, refl, cc)
map_was f (x ∷ xs) (suc i) y h = map_was f xs i y h

pub option_map_was : {X Y : Type 0} (f : X → Y) (o : Option X) (y : Y) → option_map f o ≡ Some y → (x : X) × (o ≡ Some x) × (f x ≡ y)
option_map_was f o y h = grind (arith, nat_tests)

-- a filter keeps what passes
keeps_by : {X : Type 0} (p : X → Bool) (z x : X) (xs : List X) (b : Bool) → (n : ℕ) → slice_get (filter p xs) n ≡ Some x → (m : ℕ) × (slice_get (cond b (z ∷ filter p xs) (filter p xs)) m ≡ Some x)
keeps_by p z x xs true n h = (suc n, h)
keeps_by p z x xs false n h = (n, h)

pub filter_keeps : {X : Type 0} (p : X → Bool) (xs : List X) (i : ℕ) (x : X) → slice_get xs i ≡ Some x → p x ≡ true → (n : ℕ) × (slice_get (filter p xs) n ≡ Some x)
filter_keeps p [] i x h e = absurd cc
filter_keeps p (z ∷ xs) zero x h e = grind (arith, nat_tests)
filter_keeps p (z ∷ xs) (suc i) x h e = let w = filter_keeps p xs i x h e in keeps_by p z x xs (p z) w.0 w.1

pub filter-filter : {X : Type 0} (p q : X → Bool) (xs : List X) → filter q (filter p xs) ≡ filter (λ x. p x && q x) xs
filter-filter p q [] = refl
filter-filter p q (x ∷ xs) = grind (arith, filter-filter p q xs, nat_tests)

-- numbers that elements have
pub among_map : {X : Type 0} (f : X → ℕ) (xs : List X) (i : ℕ) (x : X) → slice_get xs i ≡ Some x → is_among (map f xs) (f x) ≡ true
among_map f [] i x h = absurd cc
among_map f (z ∷ xs) zero x h = let same : z ≡ x = cc in or_first _ _ (ap (λ y. f y == f x) same ∙ is_equal (f x) (f x) refl)
among_map f (z ∷ xs) (suc i) x h = or_second (f z == f x) _ (among_map f xs i x h)

among_by : {X : Type 0} (f : X → ℕ) (z : X) (xs : List X) (n : ℕ) (b : Bool) → (f z == n) ≡ b → (b || is_among (map f xs) n) ≡ true
    → (is_among (map f xs) n ≡ true → (i : ℕ) × (x : X) × (slice_get xs i ≡ Some x) × (f x ≡ n)) → (i : ℕ) × (x : X) × (slice_get (z ∷ xs) i ≡ Some x) × (f x ≡ n)
among_by f z xs n true e h more = (0, z, refl, (let same : f z ≡ n = grind (arith, nat_tests) in same))
among_by f z xs n false e h more = let w = more h in (suc w.0, w.1, w.2, w.3)

pub among_map_was : {X : Type 0} (f : X → ℕ) (xs : List X) (n : ℕ) → is_among (map f xs) n ≡ true → (i : ℕ) × (x : X) × (slice_get xs i ≡ Some x) × (f x ≡ n)
among_map_was f [] n h = absurd cc
among_map_was f (z ∷ xs) n h = among_by f z xs n (f z == n) refl h (among_map_was f xs n)

-- what stands in the first part, and last
pub append_first : {X : Type 0} (xs ys : List X) (k : ℕ) (z : X) → slice_get xs k ≡ Some z → slice_get (xs ++ ys) k ≡ Some z
append_first [] ys k z h = absurd cc
append_first (x ∷ xs) ys zero z h = h
append_first (x ∷ xs) ys (suc k) z h = append_first xs ys k z h

pub append_last : {X : Type 0} (xs : List X) (z : X) → slice_get (xs ++ z ∷ []) (length xs) ≡ Some z
append_last [] z = refl
append_last (x ∷ xs) z = append_last xs z

-- the only element
pub single : {X : Type 0} (x : X) (i : ℕ) (y : X) → slice_get (x ∷ []) i ≡ Some y → y ≡ x
single x i y h = grind (arith, nat_tests)
