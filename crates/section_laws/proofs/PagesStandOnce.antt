-- Pages of a unit stand once among those of all units.
use Rattle.std.proofs.Common.{◌≡◌, ℕ, zero, suc, ◌+◌, ◌-◌, ◌<◌, ◌≤◌, inl, inr, Bool, true, false, ◌==◌, ◌||◌, List, [], ◌∷◌, map, flat_map, option_map, slice_get, sum_by, Some, refl, ap, sym, ◌∙◌, arith}
use Rattle.std.proofs.lemmas.Bool.Decides.{nat_tests}
use Rattle.std.proofs.lemmas.Option.{slice_get-map}
use Rattle.std.proofs.lemmas.List.Sums.{sum_by-cons}
use Rattle.vm_model.specs.Space.{span, is_among, one_if, count_from}
use Rattle.vm_model.specs.Setup.{Setup, pages_in_units}
use Rattle.vm_model.specs.Carried.{count_of}
use Rattle.vm_model.specs.Rules.{AreUnits}
use Rattle.map_laws.proofs.blocks.BlockFacts.{count_cons, count_append, count_among, same_test, to_same}
use Rattle.map_laws.proofs.MapLaws.{sum_once}
use Rattle.map_laws.proofs.TestsAndFilters.{or_either, holds_from}

-- moved by a number they are counted no more often
moved_if : (first page x : ℕ) (t : Bool) → (first + page == x) ≡ t → one_if (first + page == x) ≤ one_if (page == x - first)
moved_if first page x true e = let same : first + page ≡ x = to_same (first + page) x e in omega (arith, ap one_if e, ap one_if (let f : (page == x - first) ≡ true = grind (arith, nat_tests) in f))
moved_if first page x false e = omega (arith, ap one_if e)

moved_count : (first x : ℕ) (pages : List ℕ) → count_of x (map (λ page. first + page) pages) ≤ count_of (x - first) pages
moved_count first x [] = omega arith
moved_count first x (page ∷ pages) = omega (arith, count_cons x (first + page) (map (λ page. first + page) pages), count_cons (x - first) page pages, moved_count first x pages, moved_if first page x (first + page == x) refl)

moved_back : (first x : ℕ) (pages : List ℕ) → is_among (map (λ page. first + page) pages) x ≡ true → (page : ℕ) × (is_among pages page ≡ true) × (x ≡ first + page)
moved_back first x [] h = cc
moved_back first x (page ∷ pages) h = elim (or_either (first + page == x) _ h) [
  | inl e ↦ (page, ap (λ b. b || is_among pages page) (same_test page), sym (to_same (first + page) x e))
  | inr e ↦ let is = moved_back first x pages e in (is.0, either_true (page == is.0) (is_among pages is.0) is.1, is.2)
]
  where
    either_true : (a b : Bool) → b ≡ true → (a || b) ≡ true
    either_true true b h = refl
    either_true false b h = h

count_flat : {X : Type 0} (f : X → List ℕ) (n : ℕ) (xs : List X) → count_of n (flat_map f xs) ≡ sum_by (λ x. count_of n (f x)) xs
count_flat f n [] = refl
count_flat f n (x ∷ xs) = omega (arith, count_append n (f x) (flat_map f xs), count_flat f n xs, sum_by-cons (λ x. count_of n (f x)) x xs)

module _ (c : Setup) (units : AreUnits c) (base : ℕ) (pages : List ℕ) (once : (page : ℕ) → count_of page pages ≤ 1) (low : (page : ℕ) → is_among pages page ≡ true → page < c.unit_pages) (x : ℕ) where
  in_unit : (unit : ℕ) → 1 ≤ count_of x (map (λ page. base + unit + page) pages) → (page : ℕ) × (page < c.unit_pages) × (x ≡ base + unit + page)
  in_unit unit h = let is = moved_back (base + unit) x pages (count_among x (map (λ page. base + unit + page) pages) h) in (is.0, low is.0 is.1, is.2)

  apart : (i j unit other : ℕ) → i < j → slice_get c.units i ≡ Some unit → slice_get c.units j ≡ Some other → 1 ≤ count_of x (map (λ page. base + unit + page) pages) → 1 ≤ count_of x (map (λ page. base + other + page) pages) → ⊥
  apart i j unit other less at at' h h' =
      let p = in_unit unit h in let q = in_unit other h' in
      let same = p.2 in let same' = q.2 in let few = p.1 in let few' = q.1 in
      units.apart i j (span unit c.unit_pages) (span other c.unit_pages) less
      (slice_get-map (λ unit. span unit c.unit_pages) c.units i ∙ ap (option_map (λ unit. span unit c.unit_pages)) at)
      (slice_get-map (λ unit. span unit c.unit_pages) c.units j ∙ ap (option_map (λ unit. span unit c.unit_pages)) at') (unit + p.0)
      (holds_from (span unit c.unit_pages) (unit + p.0) (omega arith) (omega arith)) (holds_from (span other c.unit_pages) (unit + p.0) (omega arith) (omega arith))

  pub units_once : count_of x (pages_in_units c base pages) ≤ 1
  units_once = omega (
    arith,
    count_flat (λ unit. map (λ page. base + unit + page) pages) x c.units,
    sum_once (λ unit. count_of x (map (λ page. base + unit + page) pages)) c.units
        (λ i unit at. (let few = once (x - (base + unit)) in omega (arith, moved_count (base + unit) x pages)))
        (λ i j unit other less at at' h h'. apart i j unit other less at at' h h'),
  )

-- numbers in a row stand once, and so do some of them
row_after : (n first x : ℕ) → x < first → count_of x (count_from n first) ≡ 0
row_after zero first x h = refl
row_after (suc n) first x h = omega (arith, count_cons x first (count_from n (suc first)), ap one_if (let e : (first == x) ≡ false = grind (arith, nat_tests) in e), row_after n (suc first) x (omega arith))

pub row_once : (n first x : ℕ) → count_of x (count_from n first) ≤ 1
row_once zero first x = omega arith
row_once (suc n) first x = by_test (first == x) refl (row_once n (suc first) x)
  where
    by_test : (t : Bool) → (first == x) ≡ t → count_of x (count_from n (suc first)) ≤ 1 → count_of x (count_from (suc n) first) ≤ 1
    by_test true e few = let same : first ≡ x = to_same first x e in omega (arith, count_cons x first (count_from n (suc first)), ap one_if e, row_after n (suc first) x (omega arith))
    by_test false e few = omega (arith, count_cons x first (count_from n (suc first)), ap one_if e)
