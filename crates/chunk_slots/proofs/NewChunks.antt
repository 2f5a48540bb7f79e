-- A new chunk has room for an object, so that one is placed.
use Rattle.std.proofs.Common.{◌≡◌, ℕ, zero, suc, ◌*◌, ◌/◌, ◌%◌, ◌≤◌, ◌⊎◌, inl, inr, Bool, true, false, ◌&&◌, cond, if◌then◌else◌, ◌==◌, nat_le, List, [], ◌∷◌, ◌++◌, length, filter, find, drop, Option, Some, None, option_map, option_and_then, is_some, refl, ap, sym, ◌∙◌, arith}
use Rattle.std.proofs.lemmas.Bool.{cases_Bool}
use Rattle.vm_model.specs.Space.{covers, count_from, begins_free, fits, lowest, least_by, smaller_by, taken_by}
use Rattle.vm_model.specs.PlainMap.{Chunk}
use Rattle.vm_model.specs.Chunks.{new_chunk, plain_fit, slot, placed_at, placed_in}
use Rattle.vm_model.proofs.Search.{the_lowest_fits}
use Rattle.vm_model.proofs.Tabulated.{length-tabulated, slice_get-tabulated}
use Rattle.vm_model.proofs.FreePlaces.{AreFree, free_test}
use Rattle.chunk_slots.specs.ChunkRegion.{ChunkRegion, unit_of, place_for, with_new_chunk}
use Rattle.chunk_slots.proofs.SlotLists.{drop_one, keep_one}

no_number : Chunk → ℕ
no_number c = c.number

first_place : (test : ℕ → Bool) (n : ℕ) → 1 ≤ n → test 0 ≡ true → find test (count_from n 0) ≡ Some 0
first_place test zero some e = absurd (omega arith)
first_place test (suc n) some e = ap (λ b. cond b (Some 0) (find test (count_from n 1))) e

both_true : (a b : Bool) → a ≡ true → b ≡ true → (a && b) ≡ true
both_true true b e f = f
both_true false b e f = cc

empty_fit : (bits n k : ℕ) → 1 ≤ n → n ≤ bits → lowest (taken_by [] bits) n k ≡ Some 0
empty_fit bits n k some few =
    let taken : List Bool = taken_by [] bits in
    let long : length taken ≡ bits = length-tabulated (covers []) bits 0 in
    let free : AreFree taken 0 n = record { within = omega arith; free = λ place low high. slice_get-tabulated (covers []) bits place (omega arith) } in
    the_lowest_fits taken n k ∙ first_place (fits taken n k) (length taken) (omega arith) (both_true (0 % k == 0) (begins_free n (drop 0 taken)) (zero_multiple k) (free_test taken 0 n free))
  where
    zero_multiple : (m : ℕ) → (0 % m == 0) ≡ true
    zero_multiple zero = refl
    zero_multiple (suc m) = let e : 0 % suc m ≡ 0 = omega arith in ap (λ r. r == 0) e

smaller_some : (key : Chunk → ℕ) (x : Chunk) (o : Option Chunk) → smaller_by key x o ≡ None → ⊥
smaller_some key x None e = cc
smaller_some key x (Some y) e = by (nat_le (key x) (key y)) e
  where
    by : (b : Bool) → (if b then Some x else Some y) ≡ None → ⊥
    by true h = cc
    by false h = cc

none_least : (key : Chunk → ℕ) (xs : List Chunk) → least_by key xs ≡ None → xs ≡ []
none_least key [] e = refl
none_least key (x ∷ xs) e = absurd (smaller_some key x (least_by key xs) e)

last_kept : (p : Chunk → Bool) (xs : List Chunk) (y : Chunk) → p y ≡ true → filter p (xs ++ y ∷ []) ≡ [] → ⊥
last_kept p [] y passes none = let clash : y ∷ [] ≡ [] = sym (keep_one no_number p y [] passes) ∙ none in cc
last_kept p (x ∷ xs) y passes none = elim (cases_Bool (p x)) [
  | inl keeps ↦ let clash : x ∷ filter p (xs ++ y ∷ []) ≡ [] = sym (keep_one no_number p x (xs ++ y ∷ []) keeps) ∙ none in cc
  | inr drops ↦ last_kept p xs y passes (sym (drop_one no_number p x (xs ++ y ∷ []) drops) ∙ none)
]

some_chunk : (a b : Chunk) → Some a ≡ Some b → a ≡ b
some_chunk a b e = cc

least_passes : (key : Chunk → ℕ) (p : Chunk → Bool) (xs : List Chunk) (z : Chunk) → least_by key (filter p xs) ≡ Some z → p z ≡ true
least_passes key p [] z e = cc
least_passes key p (x ∷ xs) z e = elim (cases_Bool (p x)) [
  | inl keeps ↦ one (least_by key (filter p xs)) refl (sym (ap (least_by key) (keep_one key p x xs keeps)) ∙ e) keeps (λ y is. least_passes key p xs y is)
  | inr drops ↦ least_passes key p xs z (sym (ap (least_by key) (drop_one key p x xs drops)) ∙ e)
]
  where
    pick : (y : Chunk) (b : Bool) → p x ≡ true → p y ≡ true → (if b then Some x else Some y) ≡ Some z → p z ≡ true
    pick y true px py h = ap p (sym (some_chunk x z h)) ∙ px
    pick y false px py h = ap p (sym (some_chunk y z h)) ∙ py

    one : (o : Option Chunk) → o ≡ least_by key (filter p xs) → smaller_by key x o ≡ Some z → p x ≡ true → ((y : Chunk) → least_by key (filter p xs) ≡ Some y → p y ≡ true) → p z ≡ true
    one None is h px rest = ap p (sym (some_chunk x z h)) ∙ px
    one (Some y) is h px rest = pick y (nat_le (key x) (key y)) px (rest y (sym is)) h

option_split : {A : Type 0} (o : Option A) → (o ≡ None) ⊎ ((x : A) × (o ≡ Some x))
option_split None = inl refl
option_split (Some x) = inr (x, refl)

placed_some : (fit : Chunk → Option ℕ) (bytes : ℕ) (c : Chunk) (o : Option ℕ) → fit c ≡ o → is_some o ≡ true → placed_at fit bytes c ≡ None → ⊥
placed_some fit bytes c None is some none = cc
placed_some fit bytes c (Some off) is some none = let clash : Some (placed_in bytes c off) ≡ None = sym (ap (option_map (placed_in bytes c)) is) ∙ none in cc

abbrev has_fit : (pages bytes align : ℕ) → Chunk → Bool
has_fit pages bytes align h = is_some (plain_fit (unit_of pages) bytes align h)

fresh_fit : (pages bytes align number base : ℕ) → 8 ≤ pages → 4 ≤ bytes → bytes ≤ 32768 → has_fit pages bytes align (new_chunk (unit_of pages) number base) ≡ true
fresh_fit pages bytes align number base least some most = ap (λ (o : Option ℕ). is_some (option_map (λ bit. 4 * bit) o)) (empty_fit (1024 * pages) (bytes / 4) (align / 4) (omega arith) (omega arith))

-- with a new chunk, an object has a place
pub never_full : (base bytes align : ℕ) (r : ChunkRegion) → 8 ≤ r.unit_pages → 4 ≤ bytes → bytes ≤ 32768 → None ≡ place_for false bytes align (with_new_chunk base r) → ⊥
never_full base bytes align r pages some most none = by (option_split (least_by (slot (unit_of r.unit_pages)) (filter (has_fit r.unit_pages bytes align) (r.chunks ++ new_chunk (unit_of r.unit_pages) r.next_chunk base ∷ []))))
  where
    by : (least_by (slot (unit_of r.unit_pages)) (filter (has_fit r.unit_pages bytes align) (r.chunks ++ new_chunk (unit_of r.unit_pages) r.next_chunk base ∷ [])) ≡ None)
        ⊎ ((h : Chunk) × (least_by (slot (unit_of r.unit_pages)) (filter (has_fit r.unit_pages bytes align) (r.chunks ++ new_chunk (unit_of r.unit_pages) r.next_chunk base ∷ [])) ≡ Some h)) → ⊥
    by (inl nothing) =
        last_kept (has_fit r.unit_pages bytes align) r.chunks (new_chunk (unit_of r.unit_pages) r.next_chunk base) (fresh_fit r.unit_pages bytes align r.next_chunk base pages some most)
        (none_least (slot (unit_of r.unit_pages)) (filter (has_fit r.unit_pages bytes align) (r.chunks ++ new_chunk (unit_of r.unit_pages) r.next_chunk base ∷ [])) nothing)
    by (inr found) =
        placed_some (plain_fit (unit_of r.unit_pages) bytes align) bytes found.0 (plain_fit (unit_of r.unit_pages) bytes align found.0) refl
        (least_passes (slot (unit_of r.unit_pages)) (has_fit r.unit_pages bytes align) (r.chunks ++ new_chunk (unit_of r.unit_pages) r.next_chunk base ∷ []) found.0 found.1)
        (sym (ap (option_and_then (placed_at (plain_fit (unit_of r.unit_pages) bytes align) bytes)) found.1) ∙ sym none)
