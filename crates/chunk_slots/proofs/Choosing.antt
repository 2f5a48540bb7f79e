-- The first in the order of slots is the least by slot.
use Rattle.std.proofs.Common.{◌≡◌, ℕ, suc, ◌<◌, ◌≤◌, inl, inr, Bool, true, false, cond, nat_lt, nat_le, if◌then◌else◌, List, [], ◌∷◌, map, filter, find, Option, Some, None, All, refl, ap, sym, ◌∙◌, arith}
use Rattle.std.proofs.lemmas.Bool.{cases_Bool, cases_lt}
use Rattle.std.proofs.lemmas.Bool.Decides.{nat_tests}
use Rattle.std.proofs.lemmas.List.Elements.{All-head, All-tail}
use Rattle.vm_model.specs.Space.{least_by, smaller_by, sort_by, put_by}
use Rattle.chunk_slots.specs.Rising.{IsRisingFrom}
use Rattle.chunk_slots.specs.KeptChunks.{KeptRow, slot_in}
use Rattle.chunk_slots.specs.ChunksBySlot.{slot_key, key_of_slot, in_slot_of, slots_of}
use Rattle.chunk_slots.specs.SlotOrder.{key_of_row, TheFirstInOrderIsChosen}

module _ {X : Type 0} (key : X → ℕ) where
  -- no key falls
  abbrev pub IsSortedFrom : ℕ → List X → Type 0
  IsSortedFrom low [] = Unit {0}
  IsSortedFrom low (x ∷ xs) = (low ≤ key x) × IsSortedFrom (key x) xs

  sorted-lower : (low high : ℕ) (xs : List X) → low ≤ high → IsSortedFrom high xs → IsSortedFrom low xs
  sorted-lower low high [] le sorted = tt
  sorted-lower low high (x ∷ xs) le sorted = ((let first = sorted.0 in omega arith), sorted.1)

  put_sorted_by : (low : ℕ) (x y : X) (ys : List X) (b : Bool) → nat_lt (key x) (key y) ≡ b → low ≤ key x → IsSortedFrom low (y ∷ ys) → (key y ≤ key x → IsSortedFrom (key y) (put_by key x ys))
      → IsSortedFrom low (if b then x ∷ y ∷ ys else y ∷ put_by key x ys)
  put_sorted_by low x y ys true e le sorted rest = (le, ((let before : key x ≤ key y = grind (arith, nat_tests) in before), sorted.1))
  put_sorted_by low x y ys false e le sorted rest = (sorted.0, rest (let after : key y ≤ key x = grind (arith, nat_tests) in after))

  pub put_sorted : (low : ℕ) (x : X) (ys : List X) → low ≤ key x → IsSortedFrom low ys → IsSortedFrom low (put_by key x ys)
  put_sorted low x [] le sorted = (le, tt)
  put_sorted low x (y ∷ ys) le sorted = put_sorted_by low x y ys (nat_lt (key x) (key y)) refl le sorted (λ after. put_sorted (key y) x ys after sorted.1)

  pub sort_sorted : (xs : List X) → IsSortedFrom 0 (sort_by key xs)
  sort_sorted [] = tt
  sort_sorted (x ∷ xs) = put_sorted 0 x (sort_by key xs) (omega arith) (sort_sorted xs)

  -- the one with the lower key, and the second where they are equal
  abbrev pub lower_of : X → Option X → Option X
  lower_of x None = Some x
  lower_of x (Some y) = if nat_lt (key x) (key y) then Some x else Some y

  find_here : (fits : X → Bool) (x : X) (xs : List X) → fits x ≡ true → find fits (x ∷ xs) ≡ Some x
  find_here fits x xs e = ap (λ b. cond b (Some x) (find fits xs)) e

  find_past : (fits : X → Bool) (x : X) (xs : List X) → fits x ≡ false → find fits (x ∷ xs) ≡ find fits xs
  find_past fits x xs e = ap (λ b. cond b (Some x) (find fits xs)) e

  -- what is found has a key from low on
  stays_lower : (fits : X → Bool) (x : X) (low : ℕ) (xs : List X) → key x < low → IsSortedFrom low xs → lower_of x (find fits xs) ≡ Some x
  stays_lower fits x low [] less sorted = refl
  stays_lower fits x low (y ∷ ys) less sorted = let first = sorted.0 in elim (cases_Bool (fits y)) [
    | inl there ↦ let before : nat_lt (key x) (key y) ≡ true = grind (arith, nat_tests) in
        ap (lower_of x) (find_here fits y ys there) ∙ ap (λ b. if b then Some x else Some y) before
    | inr fails ↦ ap (lower_of x) (find_past fits y ys fails) ∙ stays_lower fits x (key y) ys (omega arith) sorted.1
  ]

  -- an element that does not fit changes nothing
  pub find-put_fails : (fits : X → Bool) (x : X) (ys : List X) → fits x ≡ false → find fits (put_by key x ys) ≡ find fits ys
  find-put_fails fits x [] e = find_past fits x [] e
  find-put_fails fits x (y ∷ ys) e = by (nat_lt (key x) (key y)) (find-put_fails fits x ys e)
    where
      by : (b : Bool) → find fits (put_by key x ys) ≡ find fits ys → find fits (if b then x ∷ y ∷ ys else y ∷ put_by key x ys) ≡ find fits (y ∷ ys)
      by true rest = find_past fits x (y ∷ ys) e
      by false rest = ap (λ o. cond (fits y) (Some y) o) rest

  find-put_by : (fits : X → Bool) (x y : X) (low : ℕ) (ys : List X) (b : Bool) → nat_lt (key x) (key y) ≡ b → fits x ≡ true → IsSortedFrom low (y ∷ ys)
      → find fits (put_by key x ys) ≡ lower_of x (find fits ys) → find fits (if b then x ∷ y ∷ ys else y ∷ put_by key x ys) ≡ lower_of x (find fits (y ∷ ys))
  find-put_by fits x y low ys true e there sorted rest =
      let less : key x < key y = grind (arith, nat_tests) in
      find_here fits x (y ∷ ys) there ∙ sym (stays_lower fits x (key y) (y ∷ ys) less ((let same : key y ≤ key y = omega arith in same), sorted.1))
  find-put_by fits x y low ys false e there sorted rest = elim (cases_Bool (fits y)) [
    | inl here ↦ find_here fits y (put_by key x ys) here ∙ sym (ap (lower_of x) (find_here fits y ys here) ∙ ap (λ b. if b then Some x else Some y) e)
    | inr fails ↦ find_past fits y (put_by key x ys) fails ∙ rest ∙ sym (ap (lower_of x) (find_past fits y ys fails))
  ]

  -- one that fits is found unless one that fits has no higher key
  pub find-put_fits : (fits : X → Bool) (x : X) (low : ℕ) (ys : List X) → fits x ≡ true → IsSortedFrom low ys → find fits (put_by key x ys) ≡ lower_of x (find fits ys)
  find-put_fits fits x low [] e sorted = find_here fits x [] e
  find-put_fits fits x low (y ∷ ys) e sorted = find-put_by fits x y low ys (nat_lt (key x) (key y)) refl e sorted (find-put_fits fits x (key y) ys e sorted.1)

module _ {X : Type 0} (slot_x number_x : X → ℕ) where
  -- by slot and then by number
  abbrev pub order_of : X → ℕ
  order_of x = slot_key (slot_x x) (number_x x)

  abbrev IsLow : X → Type 0
  IsLow x = number_x x < 4294967296

  -- the number of what is chosen is one of the list's
  abbrev IsNumberedFrom : ℕ → Option X → Type 0
  IsNumberedFrom low None = Unit {0}
  IsNumberedFrom low (Some x) = (low ≤ number_x x) × (number_x x < 4294967296)

  smaller_numbered : (low : ℕ) (x : X) (o : Option X) → low ≤ number_x x → number_x x < 4294967296 → IsNumberedFrom (suc (number_x x)) o → IsNumberedFrom low (smaller_by slot_x x o)
  smaller_numbered low x None le small h = (le, small)
  smaller_numbered low x (Some y) le small h = by (nat_le (slot_x x) (slot_x y))
    where
      by : (b : Bool) → IsNumberedFrom low (if b then Some x else Some y)
      by true = (le, small)
      by false = ((let from = h.0 in omega arith), h.1)

  numbered-weaken : (low high : ℕ) (o : Option X) → low ≤ high → IsNumberedFrom high o → IsNumberedFrom low o
  numbered-weaken low high None le h = tt
  numbered-weaken low high (Some x) le h = ((let from = h.0 in omega arith), h.1)

  chosen_numbered_by : (fits : X → Bool) (low : ℕ) (x : X) (xs : List X) (b : Bool) → low ≤ number_x x → number_x x < 4294967296 → IsNumberedFrom (suc (number_x x)) (least_by slot_x (filter fits xs))
      → IsNumberedFrom low (least_by slot_x (cond b (x ∷ filter fits xs) (filter fits xs)))
  chosen_numbered_by fits low x xs true le small rest = smaller_numbered low x (least_by slot_x (filter fits xs)) le small rest
  chosen_numbered_by fits low x xs false le small rest = numbered-weaken low (suc (number_x x)) (least_by slot_x (filter fits xs)) (omega arith) rest

  chosen_numbered : (fits : X → Bool) (low : ℕ) (xs : List X) → IsRisingFrom number_x low xs → All IsLow xs → IsNumberedFrom low (least_by slot_x (filter fits xs))
  chosen_numbered fits low [] rise small = tt
  chosen_numbered fits low (x ∷ xs) rise small =
      chosen_numbered_by fits low x xs (fits x) rise.0 (All-head IsLow x xs small) (chosen_numbered fits (suc (number_x x)) xs rise.1 (All-tail IsLow x xs small))

  -- the lower number comes first where the slots are equal
  same_order : (x y : X) → number_x x < number_x y → number_x y < 4294967296 → nat_le (slot_x x) (slot_x y) ≡ nat_lt (order_of x) (order_of y)
  same_order x y less small = elim (cases_lt (slot_x y) (slot_x x)) [
    | inl above ↦ let no' : nat_le (slot_x x) (slot_x y) ≡ false = grind (arith, nat_tests) in
        let no'' : nat_lt (order_of x) (order_of y) ≡ false = grind (arith, nat_tests) in no' ∙ sym no''
    | inr within ↦ let yes' : nat_le (slot_x x) (slot_x y) ≡ true = grind (arith, nat_tests) in
        let yes'' : nat_lt (order_of x) (order_of y) ≡ true = grind (arith, nat_tests) in yes' ∙ sym yes''
  ]

  lower_is_smaller : (x : X) (o : Option X) → IsNumberedFrom (suc (number_x x)) o → smaller_by slot_x x o ≡ lower_of order_of x o
  lower_is_smaller x None h = refl
  lower_is_smaller x (Some y) h = let from = h.0 in ap (λ b. if b then Some x else Some y) (same_order x y (omega arith) h.1)

  -- of elements by number, the first one that passes by slot and number is the least by slot
  pub chosen_from : (fits : X → Bool) (low : ℕ) (xs : List X) → IsRisingFrom number_x low xs → All IsLow xs → least_by slot_x (filter fits xs) ≡ find fits (sort_by order_of xs)
  chosen_from fits low [] rise small = refl
  chosen_from fits low (x ∷ xs) rise small =
      let rest = chosen_from fits (suc (number_x x)) xs rise.1 (All-tail IsLow x xs small) in
      elim (cases_Bool (fits x)) [
        | inl there ↦
            ap (λ b. least_by slot_x (cond b (x ∷ filter fits xs) (filter fits xs))) there
            ∙ lower_is_smaller x (least_by slot_x (filter fits xs)) (chosen_numbered fits (suc (number_x x)) xs rise.1 (All-tail IsLow x xs small))
            ∙ ap (lower_of order_of x) rest ∙ sym (find-put_fits order_of fits x 0 (sort_by order_of xs) there (sort_sorted order_of xs))
        | inr fails ↦
            ap (λ b. least_by slot_x (cond b (x ∷ filter fits xs) (filter fits xs))) fails
            ∙ rest ∙ sym (find-put_fails order_of fits x (sort_by order_of xs) fails)
      ]

pub the_first_in_order_is_chosen : TheFirstInOrderIsChosen
the_first_in_order_is_chosen fits rows numbered = chosen_from slot_in (λ (row : KeptRow). row.number) fits 0 rows numbered.0 numbered.1

-- The slots of chunks in order.

map_put_if : {X Y : Type 0} (f : X → Y) (b : Bool) (xs ys : List X) → map f (if b then xs else ys) ≡ (if b then map f xs else map f ys)
map_put_if f true xs ys = refl
map_put_if f false xs ys = refl

module _ {X Y : Type 0} (f : X → Y) (key : Y → ℕ) where
  abbrev key_by : X → ℕ
  key_by x = key (f x)

  map_put : (x : X) (ys : List X) → map f (put_by key_by x ys) ≡ put_by key (f x) (map f ys)
  map_put x [] = refl
  map_put x (y ∷ ys) =
      map_put_if f (nat_lt (key_by x) (key_by y)) (x ∷ y ∷ ys) (y ∷ put_by key_by x ys)
      ∙ ap (λ zs. if nat_lt (key_by x) (key_by y) then f x ∷ f y ∷ map f ys else f y ∷ zs) (map_put x ys)

  -- what is sorted by what it is mapped to
  pub map_sorted : (xs : List X) → map f (sort_by key_by xs) ≡ sort_by key (map f xs)
  map_sorted [] = refl
  map_sorted (x ∷ xs) = map_put x (sort_by key_by xs) ∙ ap (put_by key (f x)) (map_sorted xs)

-- the list of slots is that of the chunks in order
pub slots_in_order : (rows : List KeptRow) → map in_slot_of (sort_by key_of_row rows) ≡ slots_of rows
slots_in_order rows = map_sorted in_slot_of key_of_slot rows
