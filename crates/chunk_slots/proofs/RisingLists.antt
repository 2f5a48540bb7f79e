-- Lists that rise by a key: the place of a key, and lists with one element more or less.
use Rattle.std.proofs.Common.{◌≡◌, ◌≢◌, ℕ, zero, suc, ◌<◌, ◌≤◌, inl, inr, Bool, true, false, not, cond, ◌==◌, nat_lt, if◌then◌else◌, List, [], ◌∷◌, length, filter, find, get_or, slice_get, Option, Some, None, option_map, refl, ap, sym, ◌∙◌, subst, arith}
use Rattle.std.specs.List.{insert, remove}
use Rattle.std.specs.List.Sorted.{IsNonDecreasingBy}
use Rattle.std.proofs.lemmas.Bool.{cases_lt, cases_eq}
use Rattle.std.proofs.lemmas.Bool.Decides.{nat_tests}
use Rattle.std.proofs.lemmas.Option.{slice_get-get_or}
use Rattle.vm_model.specs.Space.{put_by}
use Rattle.chunk_slots.specs.Rising.{IsRisingFrom, rank_by, index_by}

module _ {X : Type 0} (key : X → ℕ) where
  rises_from : (low : ℕ) (xs : List X) (j : ℕ) (d : X) → IsRisingFrom key low xs → j < length xs → low ≤ key (get_or xs j d)
  rises_from low [] j d n h = absurd (omega arith)
  rises_from low (x ∷ xs) zero d n h = n.0
  rises_from low (x ∷ xs) (suc j) d n h = let later : suc (key x) ≤ key (get_or xs j d) = rises_from (suc (key x)) xs j d n.1 (omega arith) in let first = n.0 in omega arith

  pub rises : (low : ℕ) (xs : List X) → IsRisingFrom key low xs → IsNonDecreasingBy key xs
  rises low [] n i j d le h = absurd (omega arith)
  rises low (x ∷ xs) n zero zero d le h = omega arith
  rises low (x ∷ xs) n zero (suc j) d le h = let later : suc (key x) ≤ key (get_or xs j d) = rises_from (suc (key x)) xs j d n.1 (omega arith) in omega arith
  rises low (x ∷ xs) n (suc i) zero d le h = absurd (omega arith)
  rises low (x ∷ xs) n (suc i) (suc j) d le h = rises (suc (key x)) xs n.1 i j d (omega arith) (omega arith)

  rank-lesser : (k : ℕ) (x : X) (xs : List X) → key x < k → rank_by key k (x ∷ xs) ≡ suc (rank_by key k xs)
  rank-lesser k x xs h = let yes : nat_lt (key x) k ≡ true = grind (arith, nat_tests) in ap (λ b. if b then suc (rank_by key k xs) else 0) yes

  rank-first : (k : ℕ) (x : X) (xs : List X) → k ≤ key x → rank_by key k (x ∷ xs) ≡ 0
  rank-first k x xs h = let no : nat_lt (key x) k ≡ false = grind (arith, nat_tests) in ap (λ b. if b then suc (rank_by key k xs) else 0) no

  pub rank-within : (k : ℕ) (xs : List X) → rank_by key k xs ≤ length xs
  rank-within k [] = omega arith
  rank-within k (x ∷ xs) = elim (cases_lt (key x) k) [
    | inl h ↦ omega (arith, rank-lesser k x xs h, rank-within k xs)
    | inr h ↦ omega (arith, rank-first k x xs h)
  ]

  -- a list that is parted by the lesser keys is parted at the rank
  pub parted_at_rank : (k : ℕ) (xs : List X) (i : ℕ) → i ≤ length xs → ((j : ℕ) (d : X) → 0 ≤ j → j < i → key (get_or xs j d) < k) → ((j : ℕ) (d : X) → i ≤ j → j < length xs → k ≤ key (get_or xs j d)) → i ≡ rank_by key k xs
  parted_at_rank k [] i within front back = omega arith
  parted_at_rank k (x ∷ xs) zero within front back = sym (rank-first k x xs (back 0 x (omega arith) (omega arith)))
  parted_at_rank k (x ∷ xs) (suc i) within front back =
      let rest = parted_at_rank k xs i (omega arith) (λ j d low high. front (suc j) d (omega arith) (omega arith)) (λ j d low high. back (suc j) d (omega arith) (omega arith)) in
      omega (arith, rank-lesser k x xs (front 0 x (omega arith) (omega arith)), rest)

  pub index-here : (k : ℕ) (x : X) (xs : List X) → key x ≡ k → index_by key k (x ∷ xs) ≡ Some 0
  index-here k x xs h = let yes : (key x == k) ≡ true = grind (arith, nat_tests) in ap (λ b. if b then Some 0 else option_map suc (index_by key k xs)) yes

  pub index-later : (k : ℕ) (x : X) (xs : List X) → key x ≢ k → index_by key k (x ∷ xs) ≡ option_map suc (index_by key k xs)
  index-later k x xs h = let no : (key x == k) ≡ false = grind (arith, nat_tests) in ap (λ b. if b then Some 0 else option_map suc (index_by key k xs)) no

  pub index-past : (k low : ℕ) (xs : List X) → IsRisingFrom key low xs → k < low → index_by key k xs ≡ None
  index-past k low [] rise h = refl
  index-past k low (x ∷ xs) rise h = let first = rise.0 in
      index-later k x xs (λ e. absurd (omega arith)) ∙ ap (option_map suc) (index-past k (suc (key x)) xs rise.1 (omega arith))

  pub index-found : (k low : ℕ) (xs : List X) (r : ℕ) (d : X) → IsRisingFrom key low xs → r ≡ rank_by key k xs → r < length xs → key (get_or xs r d) ≡ k → index_by key k xs ≡ Some r
  index-found k low [] r d rise e within at = absurd (omega arith)
  index-found k low (x ∷ xs) zero d rise e within at = index-here k x xs at
  index-found k low (x ∷ xs) (suc r) d rise e within at = elim (cases_lt (key x) k) [
    | inl h ↦ index-later k x xs (λ same. absurd (omega arith)) ∙ ap (option_map suc) (index-found k (suc (key x)) xs r d rise.1 (omega (arith, rank-lesser k x xs h)) (omega arith) at)
    | inr h ↦ absurd (omega (arith, rank-first k x xs h))
  ]

  pub index-missing : (k low : ℕ) (xs : List X) (r : ℕ) → IsRisingFrom key low xs → r ≡ rank_by key k xs → ((d : X) → r < length xs → key (get_or xs r d) ≢ k) → index_by key k xs ≡ None
  index-missing k low [] r rise e other = refl
  index-missing k low (x ∷ xs) zero rise e other = elim (cases_lt (key x) k) [
    | inl h ↦ absurd (omega (arith, rank-lesser k x xs h))
    | inr h ↦ let apart : key x ≢ k = other x (omega arith) in
        index-later k x xs apart ∙ ap (option_map suc) (index-past k (suc (key x)) xs rise.1 (omega arith))
  ]
  index-missing k low (x ∷ xs) (suc r) rise e other = elim (cases_lt (key x) k) [
    | inl h ↦ index-later k x xs (λ same. absurd (omega arith)) ∙ ap (option_map suc) (index-missing k (suc (key x)) xs r rise.1 (omega (arith, rank-lesser k x xs h)) (λ d within. other d (omega arith)))
    | inr h ↦ absurd (omega (arith, rank-first k x xs h))
  ]

  -- an element where its key is
  at_least : (k low : ℕ) (xs : List X) (r : ℕ) → IsRisingFrom key low xs → option_map key (slice_get xs r) ≡ Some k → low ≤ k
  at_least k low [] r rise at = cc
  at_least k low (x ∷ xs) zero rise at = let same : key x ≡ k = cc in let first = rise.0 in omega arith
  at_least k low (x ∷ xs) (suc r) rise at = let first = rise.0 in omega (arith, at_least k (suc (key x)) xs r rise.1 at)

  pub index-at : (k low : ℕ) (xs : List X) (r : ℕ) → IsRisingFrom key low xs → option_map key (slice_get xs r) ≡ Some k → index_by key k xs ≡ Some r
  index-at k low [] r rise at = cc
  index-at k low (x ∷ xs) zero rise at = index-here k x xs (let same : key x ≡ k = cc in same)
  index-at k low (x ∷ xs) (suc r) rise at =
      let later = at_least k (suc (key x)) xs r rise.1 at in
      index-later k x xs (λ same. absurd (omega arith)) ∙ ap (option_map suc) (index-at k (suc (key x)) xs r rise.1 at)

  pub index-none : (k low : ℕ) (xs : List X) (r : ℕ) → IsRisingFrom key low xs → r ≡ rank_by key k xs → (option_map key (slice_get xs r) ≡ Some k → ⊥) → index_by key k xs ≡ None
  index-none k low xs r rise e other = index-missing k low xs r rise e (λ d within same. other (ap (option_map key) (slice_get-get_or xs r d within) ∙ ap Some same))

  later_none : (o : Option ℕ) → option_map suc o ≡ None → o ≡ None
  later_none None h = refl
  later_none (Some i) h = cc

  clash : (o : Option ℕ) (i : ℕ) → o ≡ None → o ≡ Some i → ⊥
  clash None i none some = cc
  clash (Some j) i none some = cc

  not_here : (k : ℕ) (x : X) (xs : List X) → index_by key k (x ∷ xs) ≡ None → key x ≢ k
  not_here k x xs none same = clash (index_by key k (x ∷ xs)) 0 none (index-here k x xs same)

  not_later : (k : ℕ) (x : X) (xs : List X) → index_by key k (x ∷ xs) ≡ None → index_by key k xs ≡ None
  not_later k x xs none = later_none (index_by key k xs) (sym (index-later k x xs (not_here k x xs none)) ∙ none)

  -- an element whose key is new is put in at its rank
  pub insert_at_rank : (x : X) (low : ℕ) (xs : List X) (r : ℕ) → IsRisingFrom key low xs → r ≡ rank_by key (key x) xs → index_by key (key x) xs ≡ None → insert xs r x ≡ put_by key x xs
  insert_at_rank x low [] zero rise e none = refl
  insert_at_rank x low [] (suc r) rise e none = absurd (omega arith)
  insert_at_rank x low (y ∷ ys) zero rise e none = elim (cases_lt (key y) (key x)) [
    | inl h ↦ absurd (omega (arith, rank-lesser (key x) y ys h))
    | inr h ↦ let apart : key y ≢ key x = not_here (key x) y ys none in
        let yes : nat_lt (key x) (key y) ≡ true = grind (arith, nat_tests) in
        sym (ap (λ b. if b then x ∷ y ∷ ys else y ∷ put_by key x ys) yes)
  ]
  insert_at_rank x low (y ∷ ys) (suc r) rise e none = elim (cases_lt (key y) (key x)) [
    | inl h ↦ let no : nat_lt (key x) (key y) ≡ false = grind (arith, nat_tests) in
        ap (λ zs. y ∷ zs) (insert_at_rank x (suc (key y)) ys r rise.1 (omega (arith, rank-lesser (key x) y ys h)) (not_later (key x) y ys none))
        ∙ sym (ap (λ b. if b then x ∷ y ∷ ys else y ∷ put_by key x ys) no)
    | inr h ↦ absurd (omega (arith, rank-first (key x) y ys h))
  ]

  abbrev others : ℕ → X → Bool
  others k y = not (key y == k)

  drop_this : (k : ℕ) (x : X) (xs : List X) → key x ≡ k → filter (others k) (x ∷ xs) ≡ filter (others k) xs
  drop_this k x xs h = let no : others k x ≡ false = grind (arith, nat_tests) in ap (λ b. cond b (x ∷ filter (others k) xs) (filter (others k) xs)) no

  keep_this : (k : ℕ) (x : X) (xs : List X) → key x ≢ k → filter (others k) (x ∷ xs) ≡ x ∷ filter (others k) xs
  keep_this k x xs h = let yes : others k x ≡ true = grind (arith, nat_tests) in ap (λ b. cond b (x ∷ filter (others k) xs) (filter (others k) xs)) yes

  pub find_this : (k : ℕ) (x : X) (xs : List X) → key x ≡ k → find (λ y. key y == k) (x ∷ xs) ≡ Some x
  find_this k x xs h = let yes : (key x == k) ≡ true = grind (arith, nat_tests) in ap (λ b. cond b (Some x) (find (λ y. key y == k) xs)) yes

  pub find_later : (k : ℕ) (x : X) (xs : List X) → key x ≢ k → find (λ y. key y == k) (x ∷ xs) ≡ find (λ y. key y == k) xs
  find_later k x xs h = let no : (key x == k) ≡ false = grind (arith, nat_tests) in ap (λ b. cond b (Some x) (find (λ y. key y == k) xs)) no

  -- a key that no element has
  pub others-none : (k : ℕ) (xs : List X) → index_by key k xs ≡ None → filter (others k) xs ≡ xs
  others-none k [] none = refl
  others-none k (x ∷ xs) none = keep_this k x xs (not_here k x xs none) ∙ ap (λ ys. x ∷ ys) (others-none k xs (not_later k x xs none))

  pub find-none : (k : ℕ) (xs : List X) → index_by key k xs ≡ None → find (λ y. key y == k) xs ≡ None
  find-none k [] none = refl
  find-none k (x ∷ xs) none = find_later k x xs (not_here k x xs none) ∙ find-none k xs (not_later k x xs none)

  -- an element with the key, by its index
  pub record IsAt (k : ℕ) (xs : List X) (i : ℕ) : Type 0 where
    pub within : i < length xs
    pub has : (d : X) → key (get_or xs i d) ≡ k
    pub found : (d : X) → find (λ y. key y == k) xs ≡ Some (get_or xs i d)
    pub gone : remove xs i ≡ filter (others k) xs

  later_some : (o : Option ℕ) (i : ℕ) → option_map suc o ≡ Some i → (j : ℕ) × (o ≡ Some j) × (i ≡ suc j)
  later_some None i h = cc
  later_some (Some j) i h = (j, refl, cc)

  at_next : (k : ℕ) (x : X) (xs : List X) (i j : ℕ) → key x ≢ k → i ≡ suc j → IsAt k xs j → IsAt k (x ∷ xs) i
  at_next k x xs zero j apart e at = absurd (omega arith)
  at_next k x xs (suc i) j apart e at =
      let same : j ≡ i = omega arith in
      let here = subst (IsAt k xs) same at in
      record {
        within = let w = here.within in omega arith;
        has = here.has;
        found = λ d. find_later k x xs apart ∙ here.found d;
        gone = ap (λ ys. x ∷ ys) here.gone ∙ sym (keep_this k x xs apart);
      }

  at_first : (k low : ℕ) (x : X) (xs : List X) (i : ℕ) → IsRisingFrom key low (x ∷ xs) → key x ≡ k → i ≡ 0 → IsAt k (x ∷ xs) i
  at_first k low x xs (suc i) rise same e = absurd (omega arith)
  at_first k low x xs zero rise same e = record {
    within = omega arith;
    has = λ d. same;
    found = λ d. find_this k x xs same;
    gone = sym (drop_this k x xs same ∙ others-none k xs (index-past k (suc (key x)) xs rise.1 (omega arith)));
  }

  pub at_index : (k low : ℕ) (xs : List X) (i : ℕ) → IsRisingFrom key low xs → index_by key k xs ≡ Some i → IsAt k xs i
  at_index k low [] i rise e = cc
  at_index k low (x ∷ xs) i rise e = elim (cases_eq (key x) k) [
    | inl same ↦ at_first k low x xs i rise same (let some = sym (index-here k x xs same) ∙ e in cc)
    | inr apart ↦ let later = later_some (index_by key k xs) i (sym (index-later k x xs apart) ∙ e) in
        at_next k x xs i later.0 apart later.2 (at_index k (suc (key x)) xs later.0 rise.1 later.1)
  ]

  -- An element that is taken out and put back, or another put in its place.

  rising_from : (low high : ℕ) (xs : List X) → low ≤ high → IsRisingFrom key high xs → IsRisingFrom key low xs
  rising_from low high [] le rise = tt
  rising_from low high (x ∷ xs) le rise = ((let first = rise.0 in omega arith), rise.1)

  filter_rises_by : (p : X → Bool) (low : ℕ) (x : X) (xs : List X) (b : Bool) → low ≤ key x → IsRisingFrom key (suc (key x)) (filter p xs) → IsRisingFrom key low (cond b (x ∷ filter p xs) (filter p xs))
  filter_rises_by p low x xs true first rest = (first, rest)
  filter_rises_by p low x xs false first rest = rising_from low (suc (key x)) (filter p xs) (omega arith) rest

  pub filter_rises : (p : X → Bool) (low : ℕ) (xs : List X) → IsRisingFrom key low xs → IsRisingFrom key low (filter p xs)
  filter_rises p low [] rise = tt
  filter_rises p low (x ∷ xs) rise = filter_rises_by p low x xs (p x) rise.0 (filter_rises p (suc (key x)) xs rise.1)

  filter-index_by : (p : X → Bool) (k : ℕ) (x : X) (xs : List X) (b : Bool) → key x ≢ k → index_by key k (filter p xs) ≡ None → index_by key k (cond b (x ∷ filter p xs) (filter p xs)) ≡ None
  filter-index_by p k x xs true apart rest = index-later k x (filter p xs) apart ∙ ap (option_map suc) rest
  filter-index_by p k x xs false apart rest = rest

  pub filter-index : (p : X → Bool) (k : ℕ) (xs : List X) → index_by key k xs ≡ None → index_by key k (filter p xs) ≡ None
  filter-index p k [] none = refl
  filter-index p k (x ∷ xs) none = filter-index_by p k x xs (p x) (not_here k x xs none) (filter-index p k xs (not_later k x xs none))

  put_first : (x : X) (xs : List X) → IsRisingFrom key (suc (key x)) xs → put_by key x xs ≡ x ∷ xs
  put_first x [] rise = refl
  put_first x (y ∷ ys) rise = let first = rise.0 in
      let before : nat_lt (key x) (key y) ≡ true = grind (arith, nat_tests) in ap (λ b. if b then x ∷ y ∷ ys else y ∷ put_by key x ys) before

  pub found_from : (k low : ℕ) (x : X) (xs : List X) → IsRisingFrom key low xs → find (λ y. key y == k) xs ≡ Some x → low ≤ k
  found_from k low x [] rise found = cc
  found_from k low x (y ∷ ys) rise found = let first = rise.0 in elim (cases_eq (key y) k) [
    | inl same ↦ omega arith
    | inr apart ↦ let later = found_from k (suc (key y)) x ys rise.1 (sym (find_later k y ys apart) ∙ found) in omega arith
  ]

  pub put_back : (x : X) (low : ℕ) (xs : List X) → IsRisingFrom key low xs → find (λ y. key y == key x) xs ≡ Some x → put_by key x (filter (others (key x)) xs) ≡ xs
  put_back x low [] rise found = cc
  put_back x low (y ∷ ys) rise found = elim (cases_eq (key y) (key x)) [
    | inl same ↦
        let this : y ≡ x = some_same y x (sym (find_this (key x) y ys same) ∙ found) in
        let rest : filter (others (key x)) ys ≡ ys = others-none (key x) ys (index-past (key x) (suc (key y)) ys rise.1 (omega arith)) in
        ap (put_by key x) (drop_this (key x) y ys same ∙ rest) ∙ put_first x ys (rising_from (suc (key x)) (suc (key y)) ys (omega arith) rise.1) ∙ ap (λ z. z ∷ ys) (sym this)
    | inr apart ↦
        let later : find (λ z. key z == key x) ys ≡ Some x = sym (find_later (key x) y ys apart) ∙ found in
        let above = found_from (key x) (suc (key y)) x ys rise.1 later in
        let behind : nat_lt (key x) (key y) ≡ false = grind (arith, nat_tests) in
        ap (put_by key x) (keep_this (key x) y ys apart)
        ∙ ap (λ b. if b then x ∷ y ∷ filter (others (key x)) ys else y ∷ put_by key x (filter (others (key x)) ys)) behind
        ∙ ap (λ zs. y ∷ zs) (put_back x (suc (key y)) ys rise.1 later)
  ]
    where
      some_same : (a b : X) → Some a ≡ Some b → a ≡ b
      some_same a b e = cc

  put_rises_by : (low : ℕ) (x y : X) (ys : List X) (b : Bool) → nat_lt (key x) (key y) ≡ b → key y ≢ key x → low ≤ key x → IsRisingFrom key low (y ∷ ys) → (suc (key y) ≤ key x → IsRisingFrom key (suc (key y)) (put_by key x ys))
      → IsRisingFrom key low (if b then x ∷ y ∷ ys else y ∷ put_by key x ys)
  put_rises_by low x y ys true e apart le rise rest = (le, ((let before : suc (key x) ≤ key y = grind (arith, nat_tests) in before), rise.1))
  put_rises_by low x y ys false e apart le rise rest = (rise.0, rest (let after : suc (key y) ≤ key x = grind (arith, nat_tests) in after))

  -- one more element with a new key
  pub put_rises : (x : X) (low : ℕ) (ys : List X) → low ≤ key x → IsRisingFrom key low ys → index_by key (key x) ys ≡ None → IsRisingFrom key low (put_by key x ys)
  put_rises x low [] le rise none = (le, tt)
  put_rises x low (y ∷ ys) le rise none =
      put_rises_by low x y ys (nat_lt (key x) (key y)) refl (not_here (key x) y ys none) le rise (λ after. put_rises x (suc (key y)) ys after rise.1 (not_later (key x) y ys none))

  -- an element that is found is at an index
  pub index_of_found : (k low : ℕ) (xs : List X) (x : X) → IsRisingFrom key low xs → find (λ y. key y == k) xs ≡ Some x → (i : ℕ) × (index_by key k xs ≡ Some i)
  index_of_found k low [] x rise found = cc
  index_of_found k low (y ∷ ys) x rise found = elim (cases_eq (key y) k) [
    | inl same ↦ (0, index-here k y ys same)
    | inr apart ↦ let later = index_of_found k (suc (key y)) ys x rise.1 (sym (find_later k y ys apart) ∙ found) in (suc later.0, index-later k y ys apart ∙ ap (option_map suc) later.1)
  ]
