-- Lists of callers by place: merged, cut, and with one put in.
use Rattle.std.proofs.Common.{◌≡◌, ℕ, zero, suc, ◌+◌, ◌<◌, ◌≤◌, List, [], ◌∷◌, ◌++◌, length, map, replicate, set, get_or, is_some, Bool, true, false, refl, sym, ap, ◌∙◌, arith, Option, Some, None, slice_get}
use Rattle.section_table.specs.declared.caller.Caller.{Caller}
use Rattle.section_table.specs.declared.views.Held.{Held}
use Rattle.section_table.specs.Shown.{shown_of}
use Rattle.section_table.specs.PassViews.{only, merged, put_at}
use Rattle.section_table.proofs.ElementsByPlace.{some_is, none≢some}

module _ {X : Type 0} where
  pub put_end : (ys : List (Option X)) (y : Option X) → put_at ys (length ys) y ≡ ys ++ y ∷ []
  put_end [] y = refl
  put_end (x ∷ xs) y = ap (λ l. x ∷ l) (put_end xs y)

  -- at a place where there is none, and where there is one
  pub put_empty : (xs : List (Option X)) (i : ℕ) (y o : Option X) → i < length xs → o ≡ get_or xs i o → is_some o ≡ false → set xs i y ≡ put_at xs i y
  put_empty [] i y o inside is bare = absurd (omega arith)
  put_empty (None ∷ xs) zero y o inside is bare = refl
  put_empty (Some x ∷ xs) zero y o inside is bare = absurd (let e : true ≡ false = sym (ap is_some is) ∙ bare in cc)
  put_empty (x ∷ xs) (suc i) y o inside is bare = ap (λ l. x ∷ l) (put_empty xs i y o (omega arith) is bare)

  pub put_full : (xs : List (Option X)) (i : ℕ) (y o : Option X) → i < length xs → o ≡ get_or xs i o → is_some o ≡ true → xs ≡ put_at xs i y
  put_full [] i y o inside is held = absurd (omega arith)
  put_full (None ∷ xs) zero y o inside is held = absurd (let e : false ≡ true = sym (ap is_some is) ∙ held in cc)
  put_full (Some x ∷ xs) zero y o inside is held = refl
  put_full (x ∷ xs) (suc i) y o inside is held = ap (λ l. x ∷ l) (put_full xs i y o (omega arith) is held)

  pub merged_nil : (xs : List (Option X)) → merged xs [] ≡ xs
  merged_nil [] = refl
  merged_nil (x ∷ xs) = refl

  -- one more of the second list
  pub merged_more : (xs ys : List (Option X)) (y : Option X) → merged xs (ys ++ y ∷ []) ≡ put_at (merged xs ys) (length ys) y
  merged_more [] ys y = sym (put_end ys y)
  merged_more (Some x ∷ xs) [] y = ap (λ l. Some x ∷ l) (merged_nil xs)
  merged_more (None ∷ xs) [] y = ap (λ l. y ∷ l) (merged_nil xs)
  merged_more (Some x ∷ xs) (z ∷ zs) y = ap (λ l. Some x ∷ l) (merged_more xs zs y)
  merged_more (None ∷ xs) (z ∷ zs) y = ap (λ l. z ∷ l) (merged_more xs zs y)

  pub merged_long : (xs ys : List (Option X)) → length ys ≤ length (merged xs ys)
  merged_long [] ys = omega arith
  merged_long (x ∷ xs) [] = omega arith
  merged_long (Some x ∷ xs) (y ∷ ys) = let h = merged_long xs ys in omega arith
  merged_long (None ∷ xs) (y ∷ ys) = let h = merged_long xs ys in omega arith

  pub only_is : (place : ℕ) (xs : List (Option X)) (x : Option X) → slice_get xs place ≡ Some x → only place xs ≡ replicate place None ++ x ∷ []
  only_is place [] x e = absurd (none≢some x e)
  only_is zero (y ∷ ys) x e = ap (λ (z : Option X). z ∷ []) (some_is y x e)
  only_is (suc place) (y ∷ ys) x e = ap (λ l. None ∷ l) (only_is place ys x e)

module _ {L : Type 0} where
  pub shown_merged : (xs ys : List (Option (Caller L))) → map shown_of (merged xs ys) ≡ merged (map shown_of xs) (map shown_of ys)
  shown_merged [] ys = refl
  shown_merged (Some x ∷ xs) [] = refl
  shown_merged (None ∷ xs) [] = refl
  shown_merged (Some x ∷ xs) (y ∷ ys) = ap (λ l. shown_of (Some x) ∷ l) (shown_merged xs ys)
  shown_merged (None ∷ xs) (y ∷ ys) = ap (λ l. shown_of y ∷ l) (shown_merged xs ys)

  pub shown_alone : (place : ℕ) (x : Option (Caller L)) → map shown_of (replicate place None ++ x ∷ []) ≡ replicate place None ++ shown_of x ∷ []
  shown_alone zero x = refl
  shown_alone (suc place) x = ap (λ l. None ∷ l) (shown_alone place x)
