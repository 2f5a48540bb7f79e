-- The first of some elements that passes a test.
use Rattle.std.proofs.Common.{◌≡◌, ℕ, ◌+◌, ◌<◌, Bool, true, false, cond, List, [], ◌∷◌, length, map, filter, find, drop, get_or, Some, option_map, refl, ap, ◌∙◌}
use Rattle.std.proofs.lemmas.List.{drop_more}

module _ {X : Type 0} (p : X → Bool) where
  pub find_yes : (xs : List X) (i : ℕ) (d : X) → i < length xs → p (get_or xs i d) ≡ true → find p (drop i xs) ≡ Some (get_or xs i d)
  find_yes xs i d l e = ap (find p) (drop_more xs i d l) ∙ ap (λ b. cond b (Some (get_or xs i d)) (find p (drop (i + 1) xs))) e

  pub find_no : (xs : List X) (i : ℕ) (d : X) → i < length xs → p (get_or xs i d) ≡ false → find p (drop i xs) ≡ find p (drop (i + 1) xs)
  find_no xs i d l e = ap (find p) (drop_more xs i d l) ∙ ap (λ b. cond b (Some (get_or xs i d)) (find p (drop (i + 1) xs))) e

module _ {X Y : Type 0} (f : X → Y) where
  find_map_by : (p : Y → Bool) (x : X) (xs : List X) (b : Bool) → find p (map f xs) ≡ option_map f (find (λ z. p (f z)) xs) → cond b (Some (f x)) (find p (map f xs)) ≡ option_map f (cond b (Some x) (find (λ z. p (f z)) xs))
  find_map_by p x xs true e = refl
  find_map_by p x xs false e = e

  pub find_map : (p : Y → Bool) (xs : List X) → find p (map f xs) ≡ option_map f (find (λ z. p (f z)) xs)
  find_map p [] = refl
  find_map p (x ∷ xs) = find_map_by p x xs (p (f x)) (find_map p xs)

  filter_map_by : (p : Y → Bool) (x : X) (xs : List X) (b : Bool) → filter p (map f xs) ≡ map f (filter (λ z. p (f z)) xs) → cond b (f x ∷ filter p (map f xs)) (filter p (map f xs)) ≡ map f (cond b (x ∷ filter (λ z. p (f z)) xs) (filter (λ z. p (f z)) xs))
  filter_map_by p x xs true e = ap (λ ys. f x ∷ ys) e
  filter_map_by p x xs false e = e

  pub filter_of_map : (p : Y → Bool) (xs : List X) → filter p (map f xs) ≡ map f (filter (λ z. p (f z)) xs)
  filter_of_map p [] = refl
  filter_of_map p (x ∷ xs) = filter_map_by p x xs (p (f x)) (filter_of_map p xs)
