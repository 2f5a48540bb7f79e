-- What a stable sort of the reversed list gives is the list in order.
use Rattle.std.proofs.Common.{◌≡◌, ℕ, suc, ◌<◌, ◌≤◌, ◌==◌, inl, inr, Bool, true, false, cond, nat_lt, if◌then◌else◌, not, ◌&&◌, filter, get_or, List, [], ◌∷◌, ◌++◌, length, reverse, refl, ap, sym, ◌∙◌, subst, arith, append-nil}
use Rattle.std.proofs.lemmas.List.{reverse-append}
use Rattle.std.proofs.lemmas.Bool.{cases_lt, cases_Bool}
use Rattle.std.proofs.lemmas.Bool.Decides.{nat_tests}
use Rattle.std.specs.List.Sorted.{IsNonDecreasingBy, IsSortedByKey, IsStableByKey, ties}
use Rattle.std.specs.Fn.{ComputesKey}
use Rattle.std.specs.Ordering.{is_lt, nat_cmp}
use Rattle.std.specs.declared.cmp.Ordering.TheVariants.{Less, Equal, Greater}
use Rattle.std.proofs.lemmas.Fn.{always_returns_same}
use denote.Ref.{Bor}
use denote.Param.Members.{Mut, Called}
use Rattle.std.proofs.lemmas.List.Sorted.{IsNonDecreasingBy-from_sort}
use Rattle.std.proofs.lemmas.List.Elements.{filter-append}
use Rattle.vm_model.specs.Space.{put_by, sort_by}

module _ {X : Type 0} (key : X → ℕ) where
  abbrev pub same : X → X → Bool
  same x y = key x == key y

  abbrev pub IsUpFrom : ℕ → List X → Type 0
  IsUpFrom low [] = Unit {0}
  IsUpFrom low (y ∷ ys) = (low ≤ key y) × IsUpFrom (key y) ys

  same_is : (x y : X) → key x ≡ key y → same x y ≡ true
  same_is x y e = grind (arith, nat_tests)

  other_is : (x y : X) → key x < key y → same x y ≡ false
  other_is x y low = grind (arith, nat_tests)

  above_is : (x y : X) → key y < key x → same x y ≡ false
  above_is x y low = grind (arith, nat_tests)

  pub same_key : (x y : X) → same x y ≡ true → key x ≡ key y
  same_key x y e = grind (arith, nat_tests)

  kept : (x y : X) (ys : List X) → same x y ≡ true → filter (same x) (y ∷ ys) ≡ y ∷ filter (same x) ys
  kept x y ys e = ap (λ b. cond b (y ∷ filter (same x) ys) (filter (same x) ys)) e

  left_out : (x y : X) (ys : List X) → same x y ≡ false → filter (same x) (y ∷ ys) ≡ filter (same x) ys
  left_out x y ys e = ap (λ b. cond b (y ∷ filter (same x) ys) (filter (same x) ys)) e

  none_below : (x : X) (low : ℕ) (zs : List X) → key x < low → IsUpFrom low zs → filter (same x) zs ≡ []
  none_below x low [] h up = refl
  none_below x low (z ∷ zs) h up = let first = up.0 in left_out x z zs (other_is x z (omega arith)) ∙ none_below x (key z) zs (omega arith) up.1

  same_rest : (x y z : X) (ys zs : List X) (b : Bool) → same x y ≡ b → same x z ≡ b → filter (same x) (y ∷ ys) ≡ filter (same x) (z ∷ zs) → filter (same x) ys ≡ filter (same x) zs
  same_rest x y z ys zs true e f h = let both : y ∷ filter (same x) ys ≡ z ∷ filter (same x) zs = sym (kept x y ys e) ∙ h ∙ kept x z zs f in cc
  same_rest x y z ys zs false e f h = sym (left_out x y ys e) ∙ h ∙ left_out x z zs f

  -- two lists in order that have the same elements of each key, in the same order, are one
  pub unique : (low : ℕ) (ys zs : List X) → IsUpFrom low ys → IsUpFrom low zs → ((x : X) → filter (same x) ys ≡ filter (same x) zs) → ys ≡ zs
  unique low [] [] u v h = refl
  unique low [] (z ∷ zs) u v h = let no : [] ≡ z ∷ filter (same z) zs = h z ∙ kept z z zs (same_is z z refl) in cc
  unique low (y ∷ ys) [] u v h = let no : y ∷ filter (same y) ys ≡ [] = sym (kept y y ys (same_is y y refl)) ∙ h y in cc
  unique low (y ∷ ys) (z ∷ zs) u v h = elim (cases_lt (key y) (key z)) [
    | inl below ↦ let no : y ∷ filter (same y) ys ≡ [] = sym (kept y y ys (same_is y y refl)) ∙ h y ∙ none_below y (key z) (z ∷ zs) below (omega arith, v.1) in cc
    | inr from ↦ elim (cases_lt (key z) (key y)) [
      | inl above ↦ let no : z ∷ filter (same z) zs ≡ [] = sym (kept z z zs (same_is z z refl)) ∙ sym (h z) ∙ none_below z (key y) (y ∷ ys) above (omega arith, u.1) in cc
      | inr to ↦
          let e : key y ≡ key z = omega arith in
          let both : y ∷ filter (same y) ys ≡ z ∷ filter (same y) zs = sym (kept y y ys (same_is y y refl)) ∙ h y ∙ kept y z zs (same_is y z e) in
          let first : y ≡ z = cc in
          ap (λ x. x ∷ ys) first
          ∙ ap (λ l. z ∷ l) (unique (key y) ys zs u.1 (subst (λ n. IsUpFrom n zs) (sym e) v.1) (λ x. same_rest x y z ys zs (same x y) refl (ap (λ n. key x == n) (sym e)) (h x)))
    ]
  ]

  -- what the definition's sort gives
  put_front : (x z : X) (zs : List X) → nat_lt (key x) (key z) ≡ true → put_by key x (z ∷ zs) ≡ x ∷ z ∷ zs
  put_front x z zs e = ap (λ b. if b then x ∷ z ∷ zs else z ∷ put_by key x zs) e

  put_behind : (x z : X) (zs : List X) → nat_lt (key x) (key z) ≡ false → put_by key x (z ∷ zs) ≡ z ∷ put_by key x zs
  put_behind x z zs e = ap (λ b. if b then x ∷ z ∷ zs else z ∷ put_by key x zs) e

  up_put : (low : ℕ) (x : X) (zs : List X) → low ≤ key x → IsUpFrom low zs → IsUpFrom low (put_by key x zs)
  up_put low x [] h up = (h, tt)
  up_put low x (z ∷ zs) h up = elim (cases_Bool (nat_lt (key x) (key z))) [
    | inl e ↦ subst (IsUpFrom low) (sym (put_front x z zs e)) (h, (grind (arith, nat_tests), up.1))
    | inr e ↦ subst (IsUpFrom low) (sym (put_behind x z zs e)) (up.0, up_put (key z) x zs (grind (arith, nat_tests)) up.1)
  ]

  front_kept : (x y z : X) (zs : List X) (low : ℕ) (b : Bool) → same y x ≡ b → key x < key z → IsUpFrom low (z ∷ zs)
      → filter (same y) (x ∷ z ∷ zs) ≡ filter (same y) (z ∷ zs) ++ filter (same y) (x ∷ [])
  front_kept x y z zs low true e h up =
      let none = none_below y (key z) (z ∷ zs) (let k = same_key y x e in omega arith) (omega arith, up.1) in
      kept y x (z ∷ zs) e ∙ ap (λ l. x ∷ l) none ∙ ap (λ l. l ++ x ∷ []) (sym none) ∙ ap (λ l. filter (same y) (z ∷ zs) ++ l) (sym (kept y x [] e))
  front_kept x y z zs low false e h up =
      left_out y x (z ∷ zs) e ∙ sym (append-nil (filter (same y) (z ∷ zs))) ∙ ap (λ l. filter (same y) (z ∷ zs) ++ l) (sym (left_out y x [] e))

  behind_kept : (y z : X) (us vs : List X) (b : Bool) → cond b (z ∷ us ++ vs) (us ++ vs) ≡ cond b (z ∷ us) us ++ vs
  behind_kept y z us vs true = refl
  behind_kept y z us vs false = refl

  filter_put : (low : ℕ) (x y : X) (zs : List X) → IsUpFrom low zs → filter (same y) (put_by key x zs) ≡ filter (same y) zs ++ filter (same y) (x ∷ [])
  filter_put low x y [] up = refl
  filter_put low x y (z ∷ zs) up = elim (cases_Bool (nat_lt (key x) (key z))) [
    | inl e ↦ ap (filter (same y)) (put_front x z zs e) ∙ front_kept x y z zs low (same y x) refl (grind (arith, nat_tests)) up
    | inr e ↦
        ap (filter (same y)) (put_behind x z zs e) ∙ ap (λ l. cond (same y z) (z ∷ l) l) (filter_put (key z) x y zs up.1)
        ∙ behind_kept y z (filter (same y) zs) (filter (same y) (x ∷ [])) (same y z)
  ]

  pub sorted_up : (xs : List X) → IsUpFrom 0 (sort_by key xs)
  sorted_up [] = tt
  sorted_up (x ∷ xs) = up_put 0 x (sort_by key xs) (omega arith) (sorted_up xs)

  pub sorted_kept : (y : X) (xs : List X) → filter (same y) (sort_by key xs) ≡ filter (same y) (reverse xs)
  sorted_kept y [] = refl
  sorted_kept y (x ∷ xs) =
      filter_put 0 x y (sort_by key xs) (sorted_up xs) ∙ ap (λ l. l ++ filter (same y) (x ∷ [])) (sorted_kept y xs)
      ∙ sym (filter-append (same y) (reverse xs) (x ∷ [])) ∙ ap (filter (same y)) (sym (reverse-append (x ∷ []) xs))

  up_from : (low : ℕ) (ys : List X) → ((d : X) → 0 < length ys → low ≤ key (get_or ys 0 d)) → IsNonDecreasingBy key ys → IsUpFrom low ys
  up_from low [] first up = tt
  up_from low (y ∷ []) first up = (first y (omega arith), tt)
  up_from low (y ∷ z ∷ zs) first up = (first y (omega arith), up_from (key y) (z ∷ zs) (λ d h. up 0 1 y (omega arith) (omega arith)) (λ i j d h low. up (suc i) (suc j) d (omega arith) (omega arith)))

  -- what is in order, and has the elements of each key in the reversed order, is the sorted list
  pub sorted_is : (xs ys : List X) → IsNonDecreasingBy key ys → ((x : X) → filter (same x) ys ≡ filter (same x) (reverse xs)) → ys ≡ sort_by key xs
  sorted_is xs ys up kept_all = unique 0 ys (sort_by key xs) (up_from 0 ys (λ d h. omega arith) up) (sorted_up xs) (λ x. kept_all x ∙ sym (sorted_kept x xs))

  -- two keys tie exactly where they are the same
  below_is : (a b : ℕ) → a < b → is_lt (nat_cmp a b) ≡ true
  below_is a b h = let e : nat_lt a b ≡ true = grind (arith, nat_tests) in ap (λ t. is_lt (cond t Less (cond (a == b) Equal Greater))) e

  no_less : (t : Bool) → is_lt (cond t Equal Greater) ≡ false
  no_less true = refl
  no_less false = refl

  not_below_is : (a b : ℕ) → b ≤ a → is_lt (nat_cmp a b) ≡ false
  not_below_is a b h = let e : nat_lt a b ≡ false = grind (arith, nat_tests) in ap (λ t. is_lt (cond t Less (cond (a == b) Equal Greater))) e ∙ no_less (a == b)

  pub ties_same : (x y : X) → ties (λ a b. is_lt (nat_cmp (key a) (key b))) x y ≡ same x y
  ties_same x y = elim (cases_lt (key x) (key y)) [
    | inl below ↦ ap (λ b. not b && not (is_lt (nat_cmp (key y) (key x)))) (below_is (key x) (key y) below) ∙ sym (other_is x y below)
    | inr from ↦ ap (λ b. not b && not (is_lt (nat_cmp (key y) (key x)))) (not_below_is (key x) (key y) from) ∙ elim (cases_lt (key y) (key x)) [
      | inl above ↦ ap not (below_is (key y) (key x) above) ∙ sym (above_is x y above)
      | inr to ↦ ap not (not_below_is (key y) (key x) to) ∙ sym (same_is x y (omega arith))
    ]
  ]

  pub filter_alike : (p q : X → Bool) → ((y : X) → p y ≡ q y) → (ys : List X) → filter p ys ≡ filter q ys
  filter_alike p q e [] = refl
  filter_alike p q e (y ∷ ys) = ap (λ b. cond b (y ∷ filter p ys) (filter p ys)) (e y) ∙ ap (λ l. cond (q y) (y ∷ l) l) (filter_alike p q e ys)

  -- a stable sort by this key, of the reversed list
  pub sorted_by_key_is : {F : Type 0} {g : Mut F (Bor X × Unit {0}) ℕ} {f : F} (xs mid ys : List X) → mid ≡ reverse xs
      → ((k : X → ℕ) → ComputesKey g k f → IsSortedByKey k nat_cmp ys) → ((k : X → ℕ) → ComputesKey g k f → IsStableByKey k nat_cmp mid ys)
      → ((a : Bor X × Unit {0}) (r : ℕ) (f' : F) → Called g f a r f' → (r ≡ key a.0.now) × (f' ≡ f)) → ys ≡ sort_by key xs
  sorted_by_key_is {g = g} {f = f} xs mid ys back up stable h =
      let computes = always_returns_same g (λ a r. r ≡ key a.0.now) f h in
      sorted_is xs ys (IsNonDecreasingBy-from_sort key ys (up key computes))
      (λ x. sym (filter_alike (ties (λ a b. is_lt (nat_cmp (key a) (key b))) x) (same x) (ties_same x) ys) ∙ stable key computes x
      ∙ filter_alike (ties (λ a b. is_lt (nat_cmp (key a) (key b))) x) (same x) (ties_same x) mid ∙ ap (filter (same x)) back)
