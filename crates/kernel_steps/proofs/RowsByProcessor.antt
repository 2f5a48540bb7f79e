-- Rows that are sorted for each processor, one processor behind the other, and then sorted together, are the sorted rows of all.
use Rattle.std.proofs.Common.{◌≡◌, ℕ, zero, suc, ◌+◌, ◌<◌, ◌≤◌, ◌==◌, Bool, true, false, cond, filter, flat_map, All, List, [], ◌∷◌, ◌++◌, length, reverse, refl, ap, sym, ◌∙◌, arith, append-nil, length-append}
use Rattle.std.proofs.lemmas.List.{reverse-append}
use Rattle.std.proofs.lemmas.List.Elements.{filter-append, All-head, All-tail}
use Rattle.std.proofs.lemmas.List.Sorted.{IsNonDecreasingBy-from_sort}
use Rattle.std.proofs.lemmas.Bool.Decides.{nat_tests}
use Rattle.std.proofs.lemmas.Fn.{always_returns_same}
use Rattle.std.specs.List.Sorted.{IsSortedByKey, IsStableByKey, ties}
use Rattle.std.specs.Fn.{ComputesKey}
use Rattle.std.specs.Ordering.{is_lt, nat_cmp}
use Rattle.vm_model.specs.Space.{count_from, sort_by}
use Rattle.kernel_steps.proofs.StableSort.{same, unique, sorted_up, sorted_kept, sorted_is, ties_same, filter_alike}
use denote.Ref.{Bor}
use denote.Param.Members.{Mut, Called}

-- A filter of the reversed list.

reversed_one : {X : Type 0} (xs : List X) → length xs ≤ 1 → reverse xs ≡ xs
reversed_one [] few = refl
reversed_one (x ∷ []) few = refl
reversed_one (x ∷ y ∷ xs) few = absurd (omega arith)

reversed_kept : {X : Type 0} (x : X) (zs : List X) (t : Bool) → reverse zs ++ cond t (x ∷ []) [] ≡ reverse (cond t (x ∷ zs) zs)
reversed_kept x zs true = sym (reverse-append (x ∷ []) zs)
reversed_kept x zs false = append-nil (reverse zs)

filter-reverse : {X : Type 0} (p : X → Bool) (xs : List X) → filter p (reverse xs) ≡ reverse (filter p xs)
filter-reverse p [] = refl
filter-reverse p (x ∷ xs) =
    ap (filter p) (reverse-append (x ∷ []) xs) ∙ filter-append p (reverse xs) (x ∷ []) ∙ ap (λ l. l ++ filter p (x ∷ [])) (filter-reverse p xs) ∙ reversed_kept x (filter p xs) (p x)

-- where at most one passes, the order is none
reversed_alike : {X : Type 0} (p : X → Bool) (xs : List X) → length (filter p xs) ≤ 1 → filter p (reverse xs) ≡ filter p xs
reversed_alike p xs few = filter-reverse p xs ∙ reversed_one (filter p xs) few

-- Lists behind each other.

pub flat_map_alike : {X Y : Type 0} (f g : X → List Y) → ((x : X) → f x ≡ g x) → (xs : List X) → flat_map f xs ≡ flat_map g xs
flat_map_alike f g e [] = refl
flat_map_alike f g e (x ∷ xs) = ap (λ l. l ++ flat_map f xs) (e x) ∙ ap (λ l. g x ++ l) (flat_map_alike f g e xs)

filter-flat_map : {X Y : Type 0} (p : Y → Bool) (f : X → List Y) (xs : List X) → filter p (flat_map f xs) ≡ flat_map (λ x. filter p (f x)) xs
filter-flat_map p f [] = refl
filter-flat_map p f (x ∷ xs) = filter-append p (f x) (flat_map f xs) ∙ ap (λ l. filter p (f x) ++ l) (filter-flat_map p f xs)

none_of : {X Y : Type 0} (f : X → List Y) → ((x : X) → f x ≡ []) → (xs : List X) → flat_map f xs ≡ []
none_of f none [] = refl
none_of f none (x ∷ xs) = ap (λ l. l ++ flat_map f xs) (none x) ∙ none_of f none xs

no_length : {X : Type 0} (xs : List X) → length xs ≤ 0 → xs ≡ []
no_length [] few = refl
no_length (x ∷ xs) few = absurd (omega arith)

none_appended : {X : Type 0} (xs ys : List X) → xs ++ ys ≡ [] → (xs ≡ []) × (ys ≡ [])
none_appended [] ys e = (refl, e)
none_appended (x ∷ xs) ys e = cc

-- A list at one number of a row of numbers.

past_number : {X : Type 0} (found : List X) (at n first : ℕ) → at < first → flat_map (λ k. cond (at == k) found []) (count_from n first) ≡ []
past_number found at zero first low = refl
past_number found at (suc n) first low =
    let other : (at == first) ≡ false = grind (arith, nat_tests) in
    ap (λ t. cond t found [] ++ flat_map (λ k. cond (at == k) found []) (count_from n (suc first))) other ∙ past_number found at n (suc first) (omega arith)

at_number_by : {X : Type 0} (found : List X) (at n first : ℕ) (t : Bool) → (at == first) ≡ t → (t ≡ false → flat_map (λ k. cond (at == k) found []) (count_from n (suc first)) ≡ found)
    → cond t found [] ++ flat_map (λ k. cond (at == k) found []) (count_from n (suc first)) ≡ found
at_number_by found at n first true e more = ap (λ l. found ++ l) (let same : at ≡ first = grind (arith, nat_tests) in past_number found at n (suc first) (omega arith)) ∙ append-nil found
at_number_by found at n first false e more = more refl

at_number : {X : Type 0} (found : List X) (at n first : ℕ) → first ≤ at → at < first + n → flat_map (λ k. cond (at == k) found []) (count_from n first) ≡ found
at_number found at zero first low high = absurd (omega arith)
at_number found at (suc n) first low high =
    at_number_by found at n first (at == first) refl (λ e. let more : suc first ≤ at = grind (arith, nat_tests) in at_number found at n (suc first) more (omega arith))

only_at_number : {X : Type 0} (found : List X) (at : ℕ) (g : ℕ → List X) (ks : List ℕ) → flat_map g ks ≡ [] → flat_map (λ k. cond (at == k) (found ++ g k) (g k)) ks ≡ flat_map (λ k. cond (at == k) found []) ks
only_at_number found at g [] none = refl
only_at_number found at g (k ∷ ks) none =
    let both = none_appended (g k) (flat_map g ks) none in
    ap (λ l. cond (at == k) (found ++ l) l ++ flat_map (λ i. cond (at == i) (found ++ g i) (g i)) ks) both.0 ∙ ap (λ l. cond (at == k) l [] ++ flat_map (λ i. cond (at == i) (found ++ g i) (g i)) ks) (append-nil found)
    ∙ ap (λ l. cond (at == k) found [] ++ l) (only_at_number found at g ks both.1)

pub more_rows : {B R : Type 0} (passes : R → Bool) (rows : B → List R) (b : B) (bs : List B) → length (filter passes (flat_map rows (b ∷ bs))) ≡ length (filter passes (rows b)) + length (filter passes (flat_map rows bs))
more_rows passes rows b bs = ap length (filter-append passes (rows b) (flat_map rows bs)) ∙ length-append (filter passes (rows b)) (filter passes (flat_map rows bs))

-- Of the rows that pass a test, those of one processor.
module _ {B R : Type 0} (passes : R → Bool) (rows : B → List R) (cpu : B → ℕ) where
  abbrev rows_of : List B → ℕ → List R
  rows_of bs k = filter passes (flat_map rows (filter (λ b. cpu b == k) bs))

  rows_by : (b : B) (bs : List B) (t : Bool) → filter passes (flat_map rows (cond t (b ∷ bs) bs)) ≡ cond t (filter passes (rows b) ++ filter passes (flat_map rows bs)) (filter passes (flat_map rows bs))
  rows_by b bs true = filter-append passes (rows b) (flat_map rows bs)
  rows_by b bs false = refl

  rows_of_more : (b : B) (bs : List B) (k : ℕ) → rows_of (b ∷ bs) k ≡ cond (cpu b == k) (filter passes (rows b) ++ rows_of bs k) (rows_of bs k)
  rows_of_more b bs k = rows_by b (filter (λ x. cpu x == k) bs) (cpu b == k)

  fewer_by : (t : Bool) (found us : List R) → length (cond t (found ++ us) us) ≤ length found + length us
  fewer_by true found us = omega (arith, length-append found us)
  fewer_by false found us = omega arith

  fewer_rows : (bs : List B) (k : ℕ) → length (rows_of bs k) ≤ length (filter passes (flat_map rows bs))
  fewer_rows [] k = omega arith
  fewer_rows (b ∷ bs) k = omega (arith, ap length (rows_of_more b bs k), fewer_by (cpu b == k) (filter passes (rows b)) (rows_of bs k), fewer_rows bs k, more_rows passes rows b bs)

  no_more : (t : Bool) (found us : List R) → found ≡ [] → cond t (found ++ us) us ≡ us
  no_more true found us e = ap (λ l. l ++ us) e
  no_more false found us e = refl

  module _ (n : ℕ) (b : B) (bs : List B) (high : cpu b < n) (few : length (filter passes (flat_map rows (b ∷ bs))) ≤ 1) (rest : flat_map (rows_of bs) (count_from n 0) ≡ filter passes (flat_map rows bs)) where
    found_by : (found : List R) → filter passes (rows b) ≡ found → flat_map (rows_of (b ∷ bs)) (count_from n 0) ≡ filter passes (flat_map rows (b ∷ bs))
    found_by [] e =
        flat_map_alike (rows_of (b ∷ bs)) (rows_of bs) (λ k. rows_of_more b bs k ∙ no_more (cpu b == k) (filter passes (rows b)) (rows_of bs k) e) (count_from n 0) ∙ rest
        ∙ ap (λ l. l ++ filter passes (flat_map rows bs)) (sym e) ∙ sym (filter-append passes (rows b) (flat_map rows bs))
    found_by (a ∷ found) e =
        let none : filter passes (flat_map rows bs) ≡ [] = no_length (filter passes (flat_map rows bs)) (omega (arith, more_rows passes rows b bs, ap length e)) in
        flat_map_alike (rows_of (b ∷ bs)) (λ k. cond (cpu b == k) (filter passes (rows b) ++ rows_of bs k) (rows_of bs k)) (rows_of_more b bs) (count_from n 0)
        ∙ only_at_number (filter passes (rows b)) (cpu b) (rows_of bs) (count_from n 0) (rest ∙ none) ∙ at_number (filter passes (rows b)) (cpu b) n 0 (omega arith) (omega arith)
        ∙ sym (append-nil (filter passes (rows b))) ∙ ap (λ l. filter passes (rows b) ++ l) (sym none) ∙ sym (filter-append passes (rows b) (flat_map rows bs))

  -- one that passes is found with its processor
  found_once : (n : ℕ) (bs : List B) → All (λ b. cpu b < n) bs → length (filter passes (flat_map rows bs)) ≤ 1 → flat_map (rows_of bs) (count_from n 0) ≡ filter passes (flat_map rows bs)
  found_once n [] below few = none_of (rows_of []) (λ k. refl) (count_from n 0)
  found_once n (b ∷ bs) below few =
      found_by n b bs (All-head (λ x. cpu x < n) b bs below) few (found_once n bs (All-tail (λ x. cpu x < n) b bs below) (omega (arith, more_rows passes rows b bs))) (filter passes (rows b)) refl

-- the sorted rows of each processor, one behind the other
abbrev pub gathered : {B R : Type 0} (key : R → ℕ) (rows : B → List R) (cpu : B → ℕ) (n : ℕ) → List B → List R
gathered key rows cpu n bs = flat_map (λ k. sort_by key (flat_map rows (filter (λ b. cpu b == k) bs))) (count_from n 0)

module _ {B R : Type 0} (key : R → ℕ) (rows : B → List R) (cpu : B → ℕ) (n : ℕ) (bs : List B) (below : All (λ b. cpu b < n) bs) (once : (x : R) → length (filter (same key x) (flat_map rows bs)) ≤ 1) where
  -- they have the same rows of each key
  pub gathered_kept : (x : R) → filter (same key x) (gathered key rows cpu n bs) ≡ filter (same key x) (flat_map rows bs)
  gathered_kept x =
      filter-flat_map (same key x) (λ k. sort_by key (flat_map rows (filter (λ b. cpu b == k) bs))) (count_from n 0)
      ∙ flat_map_alike (λ k. filter (same key x) (sort_by key (flat_map rows (filter (λ b. cpu b == k) bs)))) (rows_of (same key x) rows cpu bs)
      (λ k. sorted_kept key x (flat_map rows (filter (λ b. cpu b == k) bs)) ∙ reversed_alike (same key x) (flat_map rows (filter (λ b. cpu b == k) bs)) (omega (arith, fewer_rows (same key x) rows cpu bs k, once x)))
      (count_from n 0)
      ∙ found_once (same key x) rows cpu n bs below (once x)

  back_alike : (x : R) → filter (same key x) (reverse (flat_map rows bs)) ≡ filter (same key x) (flat_map rows bs)
  back_alike x = reversed_alike (same key x) (flat_map rows bs) (once x)

  -- the definition's sort of them is the sort of all
  pub sorted_gathered : sort_by key (gathered key rows cpu n bs) ≡ sort_by key (flat_map rows bs)
  sorted_gathered =
      unique key 0 (sort_by key (gathered key rows cpu n bs)) (sort_by key (flat_map rows bs)) (sorted_up key (gathered key rows cpu n bs)) (sorted_up key (flat_map rows bs))
      (λ x. sorted_kept key x (gathered key rows cpu n bs)
      ∙ reversed_alike (same key x) (gathered key rows cpu n bs) (omega (arith, ap length (gathered_kept x), once x)) ∙ gathered_kept x
      ∙ sym (back_alike x) ∙ sym (sorted_kept key x (flat_map rows bs)))

  -- and so is a stable sort of them by this key
  pub gathered_by_key_is : {F : Type 0} {g : Mut F (Bor R × Unit {0}) ℕ} {f : F} (mid ys : List R) → mid ≡ gathered key rows cpu n bs
      → ((k : R → ℕ) → ComputesKey g k f → IsSortedByKey k nat_cmp ys) → ((k : R → ℕ) → ComputesKey g k f → IsStableByKey k nat_cmp mid ys)
      → ((a : Bor R × Unit {0}) (r : ℕ) (f' : F) → Called g f a r f' → (r ≡ key a.0.now) × (f' ≡ f)) → ys ≡ sort_by key (flat_map rows bs)
  gathered_by_key_is {g = g} {f = f} mid ys is up stable h =
      let computes = always_returns_same g (λ a r. r ≡ key a.0.now) f h in
      sorted_is key (flat_map rows bs) ys (IsNonDecreasingBy-from_sort key ys (up key computes))
      (λ x. sym (filter_alike key (ties (λ a b. is_lt (nat_cmp (key a) (key b))) x) (same key x) (ties_same key x) ys) ∙ stable key computes x
      ∙ filter_alike key (ties (λ a b. is_lt (nat_cmp (key a) (key b))) x) (same key x) (ties_same key x) mid ∙ ap (filter (same key x)) is ∙ gathered_kept x ∙ sym (back_alike x))
