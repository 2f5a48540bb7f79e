-- Elements of lists, by their places.
use Rattle.std.proofs.Common.{◌≡◌, ◌≢◌, ◌⊎◌, inl, inr, ⊎_elim, ℕ, zero, suc, ◌<◌, eqb, Bool, List, [], ◌∷◌, ◌++◌, length, map, set, Option, Some, None, slice_get, refl, sym, ap, ◌∙◌, subst, arith, eq-eqb, ne_eqb, if◌then◌else◌}
use mathlib.Core.Option as maybe
use mathlib.Core.Option.{some, some-injective, some-ne-none}
use lib.ListN.{get_elem?}
use Rattle.atomic_table.proofs.Lists.{at_set}

abbrev pub or_else : {A : Type 0} → A → Option A → A
or_else d (Some x) = x
or_else d None = d

abbrev pub head_or : {A : Type 0} → A → List A → A
head_or d [] = d
head_or d (x ∷ xs) = x

pub some_is : {A : Type 0} (x y : A) → Some x ≡ Some y → x ≡ y
some_is x y e = ap (or_else x) e

abbrev IsSome : {A : Type 0} → Option A → Type 0
IsSome None = ⊥
IsSome (Some y) = Unit {0}

pub none≢some : {A : Type 0} (x : A) → None ≡ Some x → ⊥
none≢some {A = A} x e = subst (λ (o : Option A). IsSome o) (sym e) tt

-- a function with one value changed
abbrev pub put : (ℕ → ℕ) → ℕ → ℕ → ℕ → ℕ
put f k x j = if eqb j k then x else f j

pub put_here : (f : ℕ → ℕ) (k x j : ℕ) → j ≡ k → put f k x j ≡ x
put_here f k x j e = ap (λ (b : Bool). if b then x else f j) (eq-eqb j k e)

pub put_else : (f : ℕ → ℕ) (k x j : ℕ) → j ≢ k → put f k x j ≡ f j
put_else f k x j ne = ap (λ (b : Bool). if b then x else f j) (ne_eqb j k ne)

module _ {A : Type 0} where
  pub set_there : (l : List A) (i : ℕ) (a b : A) → get_elem? l i ≡ some b → get_elem? (set l i a) i ≡ some a
  set_there [] i a b e = absurd (some-ne-none b (sym e))
  set_there (x ∷ xs) zero a b e = refl
  set_there (x ∷ xs) (suc i) a b e = set_there xs i a b e

  pub within : (l : List A) (i : ℕ) (b : A) → slice_get l i ≡ Some b → i < length l
  within [] i b e = absurd (none≢some b e)
  within (x ∷ xs) zero b e = omega arith
  within (x ∷ xs) (suc i) b e = let h = within xs i b e in omega arith

  pub got_set : (l : List A) (i j : ℕ) (a b : A) → slice_get (set l i a) j ≡ Some b → ((j ≡ i) × (a ≡ b)) ⊎ ((j ≢ i) × (slice_get l j ≡ Some b))
  got_set [] i j a b e = absurd (none≢some b e)
  got_set (x ∷ xs) zero zero a b e = inl (refl, some_is a b e)
  got_set (x ∷ xs) zero (suc j) a b e = inr ((λ h. omega arith), e)
  got_set (x ∷ xs) (suc i) zero a b e = inr ((λ h. omega arith), e)
  got_set (x ∷ xs) (suc i) (suc j) a b e = ⊎_elim (λ t. inl (ap suc t.0, t.1)) (λ t. let n = t.0 in inr ((λ h. n (omega arith)), t.1)) (got_set xs i j a b e)

  pub got_append : (l : List A) (a b : A) (j : ℕ) → get_elem? (l ++ a ∷ []) j ≡ some b → (get_elem? l j ≡ some b) ⊎ ((j ≡ length l) × (a ≡ b))
  got_append [] a b zero e = inr (refl, some-injective a b e)
  got_append [] a b (suc j) e = absurd (some-ne-none b (sym e))
  got_append (x ∷ xs) a b zero e = inl e
  got_append (x ∷ xs) a b (suc j) e = ⊎_elim (λ t. inl t) (λ (t : (j ≡ length xs) × (a ≡ b)). inr ((let s = t.0 in omega arith), t.1)) (got_append xs a b j e)

  -- what holds of each element but one, and of the new one, holds of each
  pub each_set : (K : ℕ → A → Type 0) (l : List A) (i : ℕ) (a : A) → K i a → ((j : ℕ) (u : A) → j ≢ i → get_elem? l j ≡ some u → K j u) → (j : ℕ) (u : A) → get_elem? (set l i a) j ≡ some u → K j u
  each_set K l i a mine others j u e = ⊎_elim (λ (t : (j ≡ i) × (a ≡ u)). subst (λ (x : ℕ × A). K x.0 x.1) (λ k. (sym t.0 k, t.1 k)) mine)
      (λ (t : (j ≢ i) × (get_elem? l j ≡ some u)). others j u t.0 t.1) (at_set l i j a u e)

  pub same_there : (l : List A) (i j : ℕ) (a b : A) → get_elem? l i ≡ some a → j ≡ i → get_elem? l j ≡ some b → a ≡ b
  same_there l i j a b at e there = some-injective a b (sym at ∙ subst (λ (y : ℕ). get_elem? l y ≡ some b) e there)

pub got_map : {A B : Type 0} (f : A → B) (l : List A) (i : ℕ) (a : A) → slice_get l i ≡ Some a → slice_get (map f l) i ≡ Some (f a)
got_map f [] i a e = absurd (none≢some a e)
got_map f (x ∷ xs) zero a e = ap (λ z. Some (f z)) (some_is x a e)
got_map f (x ∷ xs) (suc i) a e = got_map f xs i a e

pub map_got : {A B : Type 0} (f : A → B) (l : List A) (i : ℕ) (b : B) → slice_get (map f l) i ≡ Some b → (a : A) × (slice_get l i ≡ Some a) × (f a ≡ b)
map_got f [] i b e = absurd (none≢some b e)
map_got f (x ∷ xs) zero b e = (x, refl, some_is (f x) b e)
map_got f (x ∷ xs) (suc i) b e = map_got f xs i b e
