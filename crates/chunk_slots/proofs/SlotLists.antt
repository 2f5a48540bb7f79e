-- The list of slots of chunks: with one chunk changed, one more, or one less.
use Rattle.std.proofs.Common.{◌≡◌, ◌≢◌, ℕ, zero, suc, ◌<◌, ◌≤◌, inl, inr, Bool, true, false, not, cond, nat_lt, ◌==◌, if◌then◌else◌, List, [], ◌∷◌, ◌++◌, map, filter, find, slice_get, slice_set, Option, Some, None, option_map, refl, ap, sym, ◌∙◌, arith}
use Rattle.std.proofs.lemmas.Bool.{cases_lt, cases_eq, cases_Bool}
use Rattle.std.proofs.lemmas.Bool.Decides.{nat_tests}
use Rattle.vm_model.specs.Space.{put_by}
use Rattle.chunk_slots.specs.declared.slots.InSlot.{InSlot}
use Rattle.chunk_slots.specs.Rising.{IsRisingFrom, IsRising, index_by}
use Rattle.chunk_slots.specs.KeptChunks.{KeptRow, slot_in}
use Rattle.chunk_slots.specs.KeptChunkSides.{number_of, Each}
use Rattle.chunk_slots.specs.ChunksBySlot.{slot_key, key_of_slot, in_slot_of, slots_of, moved}
use Rattle.chunk_slots.proofs.RisingLists.{find_this, find_later, others-none, put_rises, index-here, index-later}
use Rattle.chunk_slots.proofs.Choosing.{IsSortedFrom, sort_sorted}

module _ {X : Type 0} (key : X → ℕ) where
  pub before : (x y : X) (ys : List X) → key x < key y → put_by key x (y ∷ ys) ≡ x ∷ y ∷ ys
  before x y ys less = let yes' : nat_lt (key x) (key y) ≡ true = grind (arith, nat_tests) in ap (λ b. if b then x ∷ y ∷ ys else y ∷ put_by key x ys) yes'

  pub behind : (x y : X) (ys : List X) → key y ≤ key x → put_by key x (y ∷ ys) ≡ y ∷ put_by key x ys
  behind x y ys le = let no' : nat_lt (key x) (key y) ≡ false = grind (arith, nat_tests) in ap (λ b. if b then x ∷ y ∷ ys else y ∷ put_by key x ys) no'

  -- two elements with different keys, put in either order
  pub put_both : (x y : X) (zs : List X) → key x ≢ key y → put_by key x (put_by key y zs) ≡ put_by key y (put_by key x zs)
  put_both x y [] apart = elim (cases_lt (key x) (key y)) [
    | inl less ↦ before x y [] less ∙ sym (behind y x [] (omega arith))
    | inr le ↦ behind x y [] le ∙ sym (before y x [] (omega arith))
  ]
  put_both x y (z ∷ zs) apart = elim (cases_lt (key x) (key z)) [
    | inl xz ↦ elim (cases_lt (key y) (key z)) [
      | inl yz ↦ elim (cases_lt (key x) (key y)) [
        | inl less ↦ ap (put_by key x) (before y z zs yz) ∙ before x y (z ∷ zs) less ∙ sym (ap (put_by key y) (before x z zs xz) ∙ behind y x (z ∷ zs) (omega arith) ∙ ap (λ ws. x ∷ ws) (before y z zs yz))
        | inr le ↦ ap (put_by key x) (before y z zs yz) ∙ behind x y (z ∷ zs) le ∙ ap (λ ws. y ∷ ws) (before x z zs xz) ∙ sym (ap (put_by key y) (before x z zs xz) ∙ before y x (z ∷ zs) (omega arith))
      ]
      | inr zy ↦ ap (put_by key x) (behind y z zs zy) ∙ before x z (put_by key y zs) xz ∙ sym (ap (put_by key y) (before x z zs xz) ∙ behind y x (z ∷ zs) (omega arith) ∙ ap (λ ws. x ∷ ws) (behind y z zs zy))
    ]
    | inr zx ↦ elim (cases_lt (key y) (key z)) [
      | inl yz ↦ ap (put_by key x) (before y z zs yz) ∙ behind x y (z ∷ zs) (omega arith) ∙ ap (λ ws. y ∷ ws) (behind x z zs zx) ∙ sym (ap (put_by key y) (behind x z zs zx) ∙ before y z (put_by key x zs) yz)
      | inr zy ↦ ap (put_by key x) (behind y z zs zy) ∙ behind x z (put_by key y zs) zx ∙ ap (λ ws. z ∷ ws) (put_both x y zs apart) ∙ sym (ap (put_by key y) (behind x z zs zx) ∙ behind y z (put_by key x zs) zy)
    ]
  ]

  pub drop_one : (p : X → Bool) (x : X) (xs : List X) → p x ≡ false → filter p (x ∷ xs) ≡ filter p xs
  drop_one p x xs e = ap (λ b. cond b (x ∷ filter p xs) (filter p xs)) e

  pub keep_one : (p : X → Bool) (x : X) (xs : List X) → p x ≡ true → filter p (x ∷ xs) ≡ x ∷ filter p xs
  keep_one p x xs e = ap (λ b. cond b (x ∷ filter p xs) (filter p xs)) e

  put_in_front : (p : X → Bool) (x : X) (low : ℕ) (zs : List X) → key x < low → IsSortedFrom key low zs → put_by key x (filter p zs) ≡ x ∷ filter p zs
  put_in_front p x low [] less sorted = refl
  put_in_front p x low (z ∷ zs) less sorted = let first = sorted.0 in elim (cases_Bool (p z)) [
    | inl keeps ↦ ap (put_by key x) (keep_one p z zs keeps) ∙ before x z (filter p zs) (omega arith) ∙ ap (λ ws. x ∷ ws) (sym (keep_one p z zs keeps))
    | inr drops ↦ ap (put_by key x) (drop_one p z zs drops) ∙ put_in_front p x (key z) zs (omega arith) sorted.1 ∙ ap (λ ws. x ∷ ws) (sym (drop_one p z zs drops))
  ]

  -- an element that passes, put before or after the others are left out
  pub put_passing : (p : X → Bool) (x : X) (low : ℕ) (zs : List X) → p x ≡ true → IsSortedFrom key low zs → filter p (put_by key x zs) ≡ put_by key x (filter p zs)
  put_passing p x low [] passes sorted = keep_one p x [] passes
  put_passing p x low (z ∷ zs) passes sorted = elim (cases_lt (key x) (key z)) [
    | inl less ↦ ap (filter p) (before x z zs less) ∙ keep_one p x (z ∷ zs) passes
        ∙ sym (put_in_front p x (key z) (z ∷ zs) less ((let same : key z ≤ key z = omega arith in same), sorted.1))
    | inr le ↦ ap (filter p) (behind x z zs le) ∙ elim (cases_Bool (p z)) [
      | inl keeps ↦ keep_one p z (put_by key x zs) keeps ∙ ap (λ ws. z ∷ ws) (put_passing p x (key z) zs passes sorted.1) ∙ sym (ap (put_by key x) (keep_one p z zs keeps) ∙ behind x z (filter p zs) le)
      | inr drops ↦ drop_one p z (put_by key x zs) drops ∙ put_passing p x (key z) zs passes sorted.1 ∙ sym (ap (put_by key x) (drop_one p z zs drops))
    ]
  ]

  pub put_failing : (p : X → Bool) (x : X) (zs : List X) → p x ≡ false → filter p (put_by key x zs) ≡ filter p zs
  put_failing p x [] fails = drop_one p x [] fails
  put_failing p x (z ∷ zs) fails = elim (cases_lt (key x) (key z)) [
    | inl less ↦ ap (filter p) (before x z zs less) ∙ drop_one p x (z ∷ zs) fails
    | inr le ↦ ap (filter p) (behind x z zs le) ∙ ap (λ ws. cond (p z) (z ∷ ws) ws) (put_failing p x zs fails)
  ]

  pub index_absent : (k : ℕ) (x : X) (zs : List X) → key x ≢ k → index_by key k zs ≡ None → index_by key k (put_by key x zs) ≡ None
  index_absent k x [] apart none = index-later key k x [] apart
  index_absent k x (z ∷ zs) apart none = elim (cases_lt (key x) (key z)) [
    | inl less ↦ ap (index_by key k) (before x z zs less) ∙ index-later key k x (z ∷ zs) apart ∙ ap (option_map suc) none
    | inr le ↦ ap (index_by key k) (behind x z zs le) ∙ elim (cases_eq (key z) k) [
      | inl same ↦ absurd (let clash : None ≡ Some 0 = sym none ∙ index-here key k z zs same in cc)
      | inr other ↦ index-later key k z (put_by key x zs) other ∙ ap (option_map suc) (index_absent k x zs apart (later_none (index_by key k zs) (sym (index-later key k z zs other) ∙ none)))
    ]
  ]
    where
      later_none : (o : Option ℕ) → option_map suc o ≡ None → o ≡ None
      later_none None h = refl
      later_none (Some i) h = cc

  pub find_put : (k : ℕ) (x : X) (zs : List X) → key x ≡ k → find (λ y. key y == k) zs ≡ None → find (λ y. key y == k) (put_by key x zs) ≡ Some x
  find_put k x [] same none = find_this key k x [] same
  find_put k x (z ∷ zs) same none = elim (cases_lt (key x) (key z)) [
    | inl less ↦ ap (find (λ y. key y == k)) (before x z zs less) ∙ find_this key k x (z ∷ zs) same
    | inr le ↦ ap (find (λ y. key y == k)) (behind x z zs le) ∙ elim (cases_eq (key z) k) [
      | inl here ↦ absurd (let clash : None ≡ Some z = sym none ∙ find_this key k z zs here in cc)
      | inr other ↦ find_later key k z (put_by key x zs) other ∙ find_put k x zs same (sym (find_later key k z zs other) ∙ none)
    ]
  ]

  pub find_put_other : (k : ℕ) (x : X) (zs : List X) → key x ≢ k → find (λ y. key y == k) (put_by key x zs) ≡ find (λ y. key y == k) zs
  find_put_other k x [] apart = find_later key k x [] apart
  find_put_other k x (z ∷ zs) apart = elim (cases_lt (key x) (key z)) [
    | inl less ↦ ap (find (λ y. key y == k)) (before x z zs less) ∙ find_later key k x (z ∷ zs) apart
    | inr le ↦ ap (find (λ y. key y == k)) (behind x z zs le) ∙ ap (λ o. cond (key z == k) (Some z) o) (find_put_other k x zs apart)
  ]

  pub absent_in : (k : ℕ) (zs : List X) → index_by key k zs ≡ None → find (λ y. key y == k) zs ≡ None
  absent_in k [] none = refl
  absent_in k (z ∷ zs) none = elim (cases_eq (key z) k) [
    | inl same ↦ absurd (let clash : None ≡ Some 0 = sym none ∙ index-here key k z zs same in cc)
    | inr other ↦ find_later key k z zs other ∙ absent_in k zs (later_none (index_by key k zs) (sym (index-later key k z zs other) ∙ none))
  ]
    where
      later_none : (o : Option ℕ) → option_map suc o ≡ None → o ≡ None
      later_none None h = refl
      later_none (Some i) h = cc

-- the numbers of chunks are below 2 ^ 32
abbrev pub AreLow : List KeptRow → Type 0
AreLow rows = Each (λ (row : KeptRow). row.number < 4294967296) rows

-- a number that no chunk has is in no slot
pub slot_absent : (s n low : ℕ) (rows : List KeptRow) → n < low → n < 4294967296 → IsRisingFrom number_of low rows → AreLow rows → index_by key_of_slot (slot_key s n) (slots_of rows) ≡ None
slot_absent s n low [] less small rise lows = refl
slot_absent s n low (x ∷ xs) less small rise lows =
    let first = rise.0 in let own = lows.0 in
    index_absent key_of_slot (slot_key s n) (in_slot_of x) (slots_of xs) (λ same. absurd (omega (arith, same)))
    (slot_absent s n (suc x.number) xs (omega arith) small rise.1 lows.1)

pub slots_rising : (low : ℕ) (rows : List KeptRow) → IsRisingFrom number_of low rows → AreLow rows → IsRising key_of_slot (slots_of rows)
slots_rising low [] rise lows = tt
slots_rising low (x ∷ xs) rise lows =
    put_rises key_of_slot (in_slot_of x) 0 (slots_of xs) (omega arith) (slots_rising (suc x.number) xs rise.1 lows.1)
    (slot_absent (slot_in x) x.number (suc x.number) xs (omega arith) lows.0 rise.1 lows.1)

pub some_same : (a b : KeptRow) → Some a ≡ Some b → a ≡ b
some_same a b e = cc

pub below_number : (low i : ℕ) (rows : List KeptRow) (row : KeptRow) → IsRisingFrom number_of low rows → slice_get rows i ≡ Some row → low ≤ row.number
below_number low i [] row rise there = cc
below_number low zero (x ∷ xs) row rise there = let first = rise.0 in omega (arith, ap number_of (some_same x row there))
below_number low (suc i) (x ∷ xs) row rise there = let first = rise.0 in omega (arith, below_number (suc x.number) i xs row rise.1 there)

pub low_number : (i : ℕ) (rows : List KeptRow) (row : KeptRow) → AreLow rows → slice_get rows i ≡ Some row → row.number < 4294967296
low_number i [] row lows there = cc
low_number zero (x ∷ xs) row lows there = let own = lows.0 in omega (arith, ap number_of (some_same x row there))
low_number (suc i) (x ∷ xs) row lows there = low_number i xs row lows.1 there

-- a chunk is found in its slot
pub slot_found : (low i : ℕ) (rows : List KeptRow) (row : KeptRow) → IsRisingFrom number_of low rows → AreLow rows → slice_get rows i ≡ Some row
    → find (λ (s : InSlot). key_of_slot s == slot_key (slot_in row) row.number) (slots_of rows) ≡ Some (in_slot_of row)
slot_found low i [] row rise lows there = cc
slot_found low zero (x ∷ xs) row rise lows there =
    let this : x ≡ row = some_same x row there in
    find_put key_of_slot (slot_key (slot_in row) row.number) (in_slot_of x) (slots_of xs) (ap (λ (r : KeptRow). slot_key (slot_in r) r.number) this)
    (absent_in key_of_slot (slot_key (slot_in row) row.number) (slots_of xs) (slot_absent (slot_in row) row.number (suc x.number) xs (omega (arith, ap number_of this)) (let own = lows.0 in omega (arith, ap number_of this)) rise.1 lows.1))
    ∙ ap (λ (r : KeptRow). Some (in_slot_of r)) this
slot_found low (suc i) (x ∷ xs) row rise lows there =
    let above = below_number (suc x.number) i xs row rise.1 there in let own = lows.0 in let small = low_number i xs row lows.1 there in
    find_put_other key_of_slot (slot_key (slot_in row) row.number) (in_slot_of x) (slots_of xs) (λ same. absurd (omega (arith, same)))
    ∙ slot_found (suc x.number) i xs row rise.1 lows.1 there

-- and in no other
pub slot_other : (to low i : ℕ) (rows : List KeptRow) (row : KeptRow) → slot_in row ≢ to → IsRisingFrom number_of low rows → AreLow rows → slice_get rows i ≡ Some row
    → index_by key_of_slot (slot_key to row.number) (slots_of rows) ≡ None
slot_other to low i [] row apart rise lows there = cc
slot_other to low zero (x ∷ xs) row apart rise lows there =
    let this : x ≡ row = some_same x row there in let own = lows.0 in
    let slot : slot_in x ≡ slot_in row = ap slot_in this in let number : x.number ≡ row.number = ap number_of this in
    index_absent key_of_slot (slot_key to row.number) (in_slot_of x) (slots_of xs) (λ same. apart (sym slot ∙ omega (arith, same)))
    (slot_absent to row.number (suc x.number) xs (omega arith) (omega arith) rise.1 lows.1)
slot_other to low (suc i) (x ∷ xs) row apart rise lows there =
    let above = below_number (suc x.number) i xs row rise.1 there in let own = lows.0 in let small = low_number i xs row lows.1 there in
    index_absent key_of_slot (slot_key to row.number) (in_slot_of x) (slots_of xs) (λ same. absurd (omega (arith, same)))
    (slot_other to (suc x.number) i xs row apart rise.1 lows.1 there)

abbrev not_this : ℕ → InSlot → Bool
not_this k s = not (key_of_slot s == k)

left_out : (k : ℕ) (s : InSlot) → key_of_slot s ≡ k → not_this k s ≡ false
left_out k s e = grind (arith, nat_tests)

kept : (k : ℕ) (s : InSlot) → key_of_slot s ≢ k → not_this k s ≡ true
kept k s e = grind (arith, nat_tests)

-- one chunk changed: it moves from its slot to another
pub slots_moved : (low i : ℕ) (rows : List KeptRow) (row new : KeptRow) → IsRisingFrom number_of low rows → AreLow rows → slice_get rows i ≡ Some row → new.number ≡ row.number
    → slots_of (slice_set rows i new) ≡ moved row.number (slot_in row) (slot_in new) (slots_of rows)
slots_moved low i [] row new rise lows there same = cc
slots_moved low zero (x ∷ xs) row new rise lows there same =
    let this : x ≡ row = some_same x row there in let own = lows.0 in
    let k : ℕ = slot_key (slot_in row) row.number in
    let to : in_slot_of new ≡ record { slot = slot_in new; chunk = row.number } = ap (λ n. record { slot = slot_in new; chunk = n }) same in
    let rest : filter (not_this k) (put_by key_of_slot (in_slot_of x) (slots_of xs)) ≡ slots_of xs =
    put_failing key_of_slot (not_this k) (in_slot_of x) (slots_of xs) (left_out k (in_slot_of x) (ap (λ (r : KeptRow). slot_key (slot_in r) r.number) this))
    ∙ others-none key_of_slot k (slots_of xs) (slot_absent (slot_in row) row.number (suc x.number) xs (omega (arith, ap number_of this)) (omega (arith, ap number_of this)) rise.1 lows.1) in
    ap (λ s. put_by key_of_slot s (slots_of xs)) to ∙ ap (put_by key_of_slot (record { slot = slot_in new; chunk = row.number })) (sym rest)
slots_moved low (suc i) (x ∷ xs) row new rise lows there same =
    let above = below_number (suc x.number) i xs row rise.1 there in let own = lows.0 in let small = low_number i xs row lows.1 there in
    let k : ℕ = slot_key (slot_in row) row.number in
    let there' : InSlot = record { slot = slot_in new; chunk = row.number } in
    ap (put_by key_of_slot (in_slot_of x)) (slots_moved (suc x.number) i xs row new rise.1 lows.1 there same)
    ∙ put_both key_of_slot (in_slot_of x) there' (filter (not_this k) (slots_of xs)) (λ e. absurd (omega (arith, e)))
    ∙ ap (put_by key_of_slot there') (sym (put_passing key_of_slot (not_this k) (in_slot_of x) 0 (slots_of xs) (kept k (in_slot_of x) (λ e. absurd (omega (arith, e)))) (sort_sorted key_of_slot (map in_slot_of xs))))

-- one chunk more, with a number above all
pub slots_added : (low : ℕ) (rows : List KeptRow) (new : KeptRow) → IsRisingFrom number_of low rows → AreLow rows → new.number < 4294967296 → Each (λ (row : KeptRow). row.number < new.number) rows
    → slots_of (rows ++ new ∷ []) ≡ put_by key_of_slot (in_slot_of new) (slots_of rows)
slots_added low [] new rise lows small above = refl
slots_added low (x ∷ xs) new rise lows small above =
    let own = above.0 in
    ap (put_by key_of_slot (in_slot_of x)) (slots_added (suc x.number) xs new rise.1 lows.1 small above.1)
    ∙ put_both key_of_slot (in_slot_of x) (in_slot_of new) (slots_of xs) (λ e. absurd (omega (arith, e)))

-- one chunk less
pub slots_removed : (low i : ℕ) (rows : List KeptRow) (row : KeptRow) → IsRisingFrom number_of low rows → AreLow rows → slice_get rows i ≡ Some row
    → slots_of (filter (λ (other : KeptRow). not (other.number == row.number)) rows) ≡ filter (not_this (slot_key (slot_in row) row.number)) (slots_of rows)
slots_removed low i [] row rise lows there = cc
slots_removed low zero (x ∷ xs) row rise lows there =
    let this : x ≡ row = some_same x row there in let own = lows.0 in
    let k : ℕ = slot_key (slot_in row) row.number in
    let gone : filter (λ (other : KeptRow). not (other.number == row.number)) (x ∷ xs) ≡ xs =
    drop_one number_of (λ (other : KeptRow). not (other.number == row.number)) x xs (let e : x.number ≡ row.number = ap number_of this in grind (arith, nat_tests))
    ∙ others-none number_of row.number xs (index_past row.number (suc x.number) xs rise.1 (omega (arith, ap number_of this))) in
    ap slots_of gone
    ∙ sym (put_failing key_of_slot (not_this k) (in_slot_of x) (slots_of xs) (left_out k (in_slot_of x) (ap (λ (r : KeptRow). slot_key (slot_in r) r.number) this))
    ∙ others-none key_of_slot k (slots_of xs) (slot_absent (slot_in row) row.number (suc x.number) xs (omega (arith, ap number_of this)) (omega (arith, ap number_of this)) rise.1 lows.1))
  where
    index_past : (k from : ℕ) (ys : List KeptRow) → IsRisingFrom number_of from ys → k < from → index_by number_of k ys ≡ None
    index_past k from [] rise' less = refl
    index_past k from (y ∷ ys) rise' less = let first = rise'.0 in index-later number_of k y ys (λ e. absurd (omega (arith, e))) ∙ ap (option_map suc) (index_past k (suc y.number) ys rise'.1 (omega arith))
slots_removed low (suc i) (x ∷ xs) row rise lows there =
    let above = below_number (suc x.number) i xs row rise.1 there in let own = lows.0 in let small = low_number i xs row lows.1 there in
    let k : ℕ = slot_key (slot_in row) row.number in
    ap slots_of (keep_one number_of (λ (other : KeptRow). not (other.number == row.number)) x xs (let e : x.number < row.number = omega arith in grind (arith, nat_tests)))
    ∙ ap (put_by key_of_slot (in_slot_of x)) (slots_removed (suc x.number) i xs row rise.1 lows.1 there)
    ∙ sym (put_passing key_of_slot (not_this k) (in_slot_of x) 0 (slots_of xs) (kept k (in_slot_of x) (λ e. absurd (omega (arith, e)))) (sort_sorted key_of_slot (map in_slot_of xs)))

-- a number above all is in no slot
pub slot_unused : (s n : ℕ) (rows : List KeptRow) → n < 4294967296 → Each (λ (row : KeptRow). row.number < n) rows → index_by key_of_slot (slot_key s n) (slots_of rows) ≡ None
slot_unused s n [] small above = refl
slot_unused s n (x ∷ xs) small above =
    let own = above.0 in
    index_absent key_of_slot (slot_key s n) (in_slot_of x) (slots_of xs) (λ same. absurd (omega (arith, same))) (slot_unused s n xs small above.1)
