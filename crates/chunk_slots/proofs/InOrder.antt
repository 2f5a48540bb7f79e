-- Elements of a sorted list: each is found by its number, and a search goes from one to the next.
use Rattle.std.proofs.Common.{◌≡◌, ℕ, zero, suc, ◌+◌, Bool, true, false, cond, ◌==◌, List, [], ◌∷◌, filter, find, drop, slice_get, Some, refl, ap, ◌∙◌, subst, arith}
use Rattle.vm_model.specs.Space.{sort_by}
use Rattle.chunk_slots.specs.Rising.{IsRisingFrom, IsRising}
use Rattle.chunk_slots.specs.KeptChunkSides.{Each}
use Rattle.chunk_slots.proofs.ObjectViews.{each_map, each_put, each_filter}
use Rattle.chunk_slots.proofs.RisingLists.{found_from, find_this, find_later}

module _ {X : Type 0} where
  pub same_some : (a b : X) → Some a ≡ Some b → a ≡ b
  same_some a b e = cc

  each-get : (P : X → Type 0) (xs : List X) (i : ℕ) (x : X) → slice_get xs i ≡ Some x → Each P xs → P x
  each-get P [] i x there e = cc
  each-get P (y ∷ ys) zero x there e = subst P (same_some y x there) e.0
  each-get P (y ∷ ys) (suc i) x there e = each-get P ys i x there e.1

  each-sort : (P : X → Type 0) (key : X → ℕ) (xs : List X) → Each P xs → Each P (sort_by key xs)
  each-sort P key [] e = tt
  each-sort P key (x ∷ xs) e = each_put P key x (sort_by key xs) e.0 (each-sort P key xs e.1)

  -- what is kept passes
  pub kept_passes : (p : X → Bool) (xs : List X) (i : ℕ) (x : X) → slice_get (filter p xs) i ≡ Some x → p x ≡ true
  kept_passes p xs i x there = each-get (λ y. p y ≡ true) (filter p xs) i x there (each_filter (λ y. Unit {0}) (λ y. p y ≡ true) p xs (λ y passes u. passes) (every xs))
    where
      every : (ys : List X) → Each (λ y. Unit {0}) ys
      every [] = tt
      every (y ∷ ys) = (tt, every ys)

module _ {X : Type 0} (number : X → ℕ) where
  abbrev pub IsFoundIn : List X → X → Type 0
  IsFoundIn xs x = find (λ (y : X). number y == number x) xs ≡ Some x

  each_found : (low : ℕ) (xs : List X) → IsRisingFrom number low xs → Each (IsFoundIn xs) xs
  each_found low [] rise = tt
  each_found low (x ∷ xs) rise = (
    find_this number (number x) x xs refl,
    each_map (IsFoundIn xs) (IsFoundIn (x ∷ xs)) xs
        (λ y found. find_later number (number y) x xs (λ same. absurd (let above = found_from number (number y) (suc (number x)) y xs rise.1 found in omega arith)) ∙ found)
        (each_found (suc (number x)) xs rise.1),
  )

  -- each element of the list sorted by another key, or of a part of it, is found by its number
  pub sorted_found : (key : X → ℕ) (xs : List X) (i : ℕ) (x : X) → IsRising number xs → slice_get (sort_by key xs) i ≡ Some x → IsFoundIn xs x
  sorted_found key xs i x rise there = each-get (IsFoundIn xs) (sort_by key xs) i x there (each-sort (IsFoundIn xs) key xs (each_found 0 xs rise))

  pub kept_found : (p : X → Bool) (xs : List X) (i : ℕ) (x : X) → IsRising number xs → slice_get (filter p xs) i ≡ Some x → IsFoundIn xs x
  kept_found p xs i x rise there = each-get (IsFoundIn xs) (filter p xs) i x there (each_filter (IsFoundIn xs) (IsFoundIn xs) p xs (λ y passes found. found) (each_found 0 xs rise))

module _ {X : Type 0} (fits : X → Bool) where
  drop_next : (xs : List X) (i : ℕ) (x : X) → slice_get xs i ≡ Some x → drop i xs ≡ x ∷ drop (suc i) xs
  drop_next [] i x e = cc
  drop_next (y ∷ ys) zero x e = ap (λ z. z ∷ ys) (same_some y x e)
  drop_next (y ∷ ys) (suc i) x e = drop_next ys i x e

  -- past an element that fails
  pub goes_past : (xs : List X) (place : ℕ) (x : X) → slice_get xs place ≡ Some x → fits x ≡ false → find fits xs ≡ find fits (drop place xs) → find fits xs ≡ find fits (drop (place + 1) xs)
  goes_past xs place x here fails prior =
      let one : suc place ≡ place + 1 = omega arith in
      prior ∙ ap (find fits) (drop_next xs place x here) ∙ ap (λ b. cond b (Some x) (find fits (drop (suc place) xs))) fails
      ∙ ap (λ n. find fits (drop n xs)) one

  -- the first that passes
  pub stops_here : (xs : List X) (place : ℕ) (x : X) → slice_get xs place ≡ Some x → fits x ≡ true → find fits xs ≡ find fits (drop place xs) → find fits xs ≡ Some x
  stops_here xs place x here fit prior =
      prior ∙ ap (find fits) (drop_next xs place x here) ∙ ap (λ b. cond b (Some x) (find fits (drop (suc place) xs))) fit
