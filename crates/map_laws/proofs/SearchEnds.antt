-- Where a search ends.
use Rattle.std.proofs.Common.{Bool, List, Some, [], ap, arith, cond, false, find, flat_map, length, length-append, map, refl, slice_get, suc, sum_by, true, zero, ℕ, ◌++◌, ◌∙◌, ◌∷◌, ◌≡◌, ◌≤◌, ◌%◌, ◌&&◌, ◌==◌, nat_le, drop, filter, slice_index, sym}
use Rattle.std.proofs.lemmas.List.Sums.{sum_by-cons}
use Rattle.map_laws.proofs.TestsAndFilters.{IsIn, in_more, find_has, filter_has, last_in}
use Rattle.map_laws.proofs.KeptThroughSteps.{there}
use Rattle.std.specs.List.{list_all}
use Rattle.std.proofs.lemmas.Bool.Decides.{nat_tests}
pub use Rattle.std.proofs.lemmas.List.Concat.{length-flat_map as length_flat}
pub use Rattle.std.proofs.lemmas.Bool.{and_parts as and_both}
use Rattle.vm_model.specs.declared.areas.Span.{Span}
use Rattle.vm_model.specs.Space.{count_from, begins_free, fits, lowest, free_from}
use Rattle.vm_model.specs.Setup.{Setup, groups_at, groups_fit, highest}
use Rattle.vm_model.proofs.Search.{the_lowest_fits}

-- What a search in a list finds, and what a list of lists has.

find_by : {X : Type 0} (p : X → Bool) (xs : List X) (y x : X) (b : Bool) → p y ≡ b → ((z : X) × (find p xs ≡ Some z)) → (z : X) × (cond b (Some y) (find p xs) ≡ Some z)
find_by p xs y x true e more = (y, refl)
find_by p xs y x false e more = more

pub find_some : {X : Type 0} (p : X → Bool) (xs : List X) (x : X) (i : ℕ) → slice_get xs i ≡ Some x → p x ≡ true → (z : X) × (find p xs ≡ Some z)
find_some p [] x i h e = cc
find_some p (y ∷ xs) x zero h e = let same : y ≡ x = cc in (y, ap (λ b. cond b (Some y) (find p xs)) (ap p same ∙ e))
find_some p (y ∷ xs) x (suc i) h e = find_by p xs y x _ refl (find_some p xs x i h e)

append_second : {X : Type 0} (xs ys : List X) (y : X) → IsIn y ys → IsIn y (xs ++ ys)
append_second [] ys y there = there
append_second (x ∷ xs) ys y there = in_more y x (xs ++ ys) (append_second xs ys y there)

append_front : {X : Type 0} (xs ys : List X) (y : X) (i : ℕ) → slice_get xs i ≡ Some y → IsIn y (xs ++ ys)
append_front [] ys y i h = cc
append_front (x ∷ xs) ys y i h = grind (arith, append_front xs, in_more)

pub flat_has : {X Y : Type 0} (f : X → List Y) (xs : List X) (i : ℕ) (x : X) (y : Y) → slice_get xs i ≡ Some x → IsIn y (f x) → IsIn y (flat_map f xs)
flat_has f [] i x y h there = cc
flat_has f (z ∷ xs) i x y h there = grind (arith, flat_has f xs, append_front, append_second)

pub length_map : {X Y : Type 0} (f : X → Y) (xs : List X) → length (map f xs) ≡ length xs
length_map f [] = refl
length_map f (x ∷ xs) = ap suc (length_map f xs)

pub sum_le : {X : Type 0} (f g : X → ℕ) (xs : List X) → ((x : X) → IsIn x xs → f x ≤ g x) → sum_by f xs ≤ sum_by g xs
sum_le f g [] h = omega arith
sum_le f g (x ∷ xs) h = omega (arith, sum_by-cons f x xs, sum_by-cons g x xs, h x (record { place = 0; at = refl }), sum_le f g xs (λ y there. h y (in_more y x xs there)))

-- What fits where a search says.

pub is_zero : (n : ℕ) → (n == 0) ≡ true → n ≡ 0
is_zero n h = grind (arith, nat_tests)

pub lowest_fit : (taken : List Bool) (n k start : ℕ) → lowest taken n k ≡ Some start → ((start % k == 0) ≡ true) × (begins_free n (drop start taken) ≡ true)
lowest_fit taken n k start e = and_both _ _ (find_has (fits taken n k) (count_from (length taken) 0) start (sym (the_lowest_fits taken n k) ∙ e)).1

-- the base is a multiple of the atom, and its groups have room
pub highest_fit : (c : Setup) (taken : List Bool) (base : ℕ) → highest c taken ≡ Some base
    → ((base % c.atom == 0) ≡ true) × (list_all (λ (s : Span). nat_le s.pages (slice_index (free_from taken) s.start)) (groups_at c base) ≡ true)
highest_fit c taken base e =
    let at = last_in (filter (groups_fit c (free_from taken)) (count_from (length taken) 0)) base e in
    and_both _ _ (filter_has (groups_fit c (free_from taken)) (count_from (length taken) 0) at.place base at.at).passes
