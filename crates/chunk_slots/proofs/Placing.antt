-- Where an object is placed: the choice over the value, and what a call tells of it.
use Rattle.std.proofs.Common.{◌≡◌, ◌≢◌, ℕ, zero, suc, ◌*◌, ◌/◌, ◌<◌, ◌⊎◌, inl, inr, Bool, true, false, ◌&&◌, cond, if◌then◌else◌, ◌==◌, List, [], ◌∷◌, ◌++◌, length, find, flat_map, take, drop, get_or, slice_set, Option, Some, None, option_map, option_and_then, is_some, refl, ap, sym, ◌∙◌, arith}
use Rattle.std.proofs.lemmas.Bool.{cases_eq, cases_Bool}
use Rattle.std.proofs.lemmas.Bool.Decides.{nat_tests}
use Rattle.vm_model.specs.declared.areas.Span.{Span}
use Rattle.vm_model.specs.PlainMap.{Chunk, Object, InHand, Lives, lives_as}
use Rattle.vm_model.specs.Chunks.{ObjectAt, plain_fit, atomic_fit, slot, chosen, placed_at, placed_in, missing_pages}
use Rattle.chunk_slots.specs.declared.holders.Holder.{Holder}
use Rattle.chunk_slots.specs.Rising.{IsRising, index_by}
use Rattle.chunk_slots.specs.KeptObjects.{object_key, object_by, objects_by, life_by}
use Rattle.chunk_slots.specs.KeptChunks.{KeptRow, slot_in}
use Rattle.chunk_slots.specs.KeptChunkSides.{number_of, chunk_in, chunks_in, Each, IsKeptRow}
use Rattle.chunk_slots.specs.ChunksBySlot.{fit_in}
use Rattle.chunk_slots.specs.Choices.{chosen_row}
use Rattle.chunk_slots.specs.ChunkRegion.{ChunkRegion, unit_of, place_for, live_bytes}
use Rattle.chunk_slots.proofs.ChunkViews.{slot_in_view, fit_in_view}
use Rattle.chunk_slots.proofs.ObjectViews.{each_map}
use Rattle.chunk_slots.proofs.RowLists.{least_in_view, IsSeen, numbered_none}
use Rattle.chunk_slots.proofs.SideCalls.{IsFound, numbered_row, starts_at, app_nil, objects_of_chunk}

abbrev fit_of : (atomic : Bool) (pages bytes align : ℕ) → Chunk → Option ℕ
fit_of atomic pages bytes align = if atomic then atomic_fit (unit_of pages) bytes align else plain_fit (unit_of pages) bytes align

some_mapped : (o : Option ℕ) → is_some (option_map (λ bit. 4 * bit) o) ≡ is_some o
some_mapped None = refl
some_mapped (Some x) = refl

choice_in_view : (atomic : Bool) (pages next bytes align : ℕ) (h : ℕ → Option Holder) (rows : List KeptRow) → Each (IsKeptRow pages next h) rows
    → chosen (unit_of pages) (fit_of atomic pages bytes align) (chunks_in h rows) ≡ option_map (chunk_in h) (chosen_row atomic (bytes / 4) (align / 4) rows)
choice_in_view atomic pages next bytes align h rows kept =
    least_in_view (chunk_in h) (slot (unit_of pages)) (λ c. is_some (fit_of atomic pages bytes align c)) slot_in (λ row. is_some (fit_in atomic (bytes / 4) (align / 4) row)) rows
    (each_map (IsKeptRow pages next h) (IsSeen (chunk_in h) (slot (unit_of pages)) (λ c. is_some (fit_of atomic pages bytes align c)) slot_in (λ row. is_some (fit_in atomic (bytes / 4) (align / 4) row))) rows
    (λ row k. (slot_in_view pages h row k.bits_are, ap is_some (fit_in_view atomic pages bytes align h row k.bits_are k.pages_are) ∙ some_mapped (fit_in atomic (bytes / 4) (align / 4) row))) kept)

abbrev region_of : (pages next_object next_chunk room : ℕ) → List Chunk → ChunkRegion
region_of pages next_object next_chunk room chunks = record { unit_pages = pages; chunks = chunks; next_object = next_object; next_chunk = next_chunk; room = room }

pub nowhere : (atomic : Bool) (pages next bytes align next_object next_chunk room : ℕ) (h : ℕ → Option Holder) (rows : List KeptRow) → Each (IsKeptRow pages next h) rows → chosen_row atomic (bytes / 4) (align / 4) rows ≡ None
    → None ≡ place_for atomic bytes align (region_of pages next_object next_chunk room (chunks_in h rows))
nowhere atomic pages next bytes align next_object next_chunk room h rows kept none =
    sym (ap (option_and_then (placed_at (fit_of atomic pages bytes align) bytes)) (choice_in_view atomic pages next bytes align h rows kept ∙ ap (option_map (chunk_in h)) none))

abbrev made_at : ℕ → ℕ → ℕ → ℕ → ObjectAt
made_at chunk base off bytes = record { chunk = chunk; base = base; off = off; bytes = bytes }

abbrev told_at : ℕ → ℕ → ℕ → ℕ → List ℕ → Option (ObjectAt × List ℕ)
told_at a b c d m = Some (made_at a b c d, m)

abbrev place_in : KeptRow → (bit bytes : ℕ) → ObjectAt
place_in row bit bytes = record { chunk = row.number; base = row.base; off = 4 * bit; bytes = bytes }

pub somewhere : (atomic : Bool) (pages next bytes align next_object next_chunk room bit : ℕ) (h : ℕ → Option Holder) (rows : List KeptRow) (row : KeptRow) → Each (IsKeptRow pages next h) rows → IsKeptRow pages next h row → chosen_row atomic (bytes / 4) (align / 4) rows ≡ Some row
    → fit_in atomic (bytes / 4) (align / 4) row ≡ Some bit → told_at row.number row.base (4 * bit) bytes (missing_pages (place_in row bit bytes) (chunk_in h row)) ≡ place_for atomic bytes align (region_of pages next_object next_chunk room (chunks_in h rows))
somewhere atomic pages next bytes align next_object next_chunk room bit h rows row kept own chosen fit =
    sym (ap (option_and_then (placed_at (fit_of atomic pages bytes align) bytes)) (choice_in_view atomic pages next bytes align h rows kept ∙ ap (option_map (chunk_in h)) chosen)
    ∙ ap (option_map (placed_in bytes (chunk_in h row))) (fit_in_view atomic pages bytes align h row own.bits_are own.pages_are ∙ ap (option_map (λ bit. 4 * bit)) fit))

pub same_told : (a b c d e f g h : ℕ) (m n : List ℕ) → a ≡ e → b ≡ f → c ≡ g → d ≡ h → m ≡ n → told_at a b c d m ≡ told_at e f g h n
same_told a b c d e f g h m n p q r s t =
    ap (λ x. told_at x b c d m) p ∙ ap (λ x. told_at e x c d m) q ∙ ap (λ x. told_at e f x d m) r ∙ ap (λ x. told_at e f g x m) s ∙ ap (λ x. told_at e f g h x) t

-- A slice that is written back.

take_all : {X : Type 0} (n : ℕ) (xs ys : List X) → n ≡ length xs → take n (xs ++ ys) ≡ xs
take_all zero [] ys e = refl
take_all zero (x ∷ xs) ys e = absurd (omega arith)
take_all (suc n) [] ys e = absurd (omega arith)
take_all (suc n) (x ∷ xs) ys e = ap (λ zs. x ∷ zs) (take_all n xs ys (omega arith))

length_set : {X : Type 0} (xs : List X) (i : ℕ) (x : X) → length (slice_set xs i x) ≡ length xs
length_set [] i x = refl
length_set (y ∷ ys) zero x = refl
length_set (y ∷ ys) (suc i) x = ap suc (length_set ys i x)

pub written_back : (n i : ℕ) (items new : List KeptRow) (row : KeptRow) → n ≡ length items → new ≡ slice_set items i row → take n (new ++ drop (length new) items) ≡ slice_set items i row
written_back n i items new row long is = take_all n new (drop (length new) items) (long ∙ sym (ap length is ∙ length_set items i row)) ∙ is

pub read_set : (i : ℕ) (items : List KeptRow) (row e : KeptRow) → i < length items → e ≡ get_or (slice_set items i row) i e → e ≡ row
read_set i items row e within is = is ∙ here i items within
  where
    here : (j : ℕ) (xs : List KeptRow) → j < length xs → get_or (slice_set xs j row) j e ≡ row
    here j [] less = absurd (omega arith)
    here zero (x ∷ xs) less = refl
    here (suc j) (x ∷ xs) less = here j xs (omega arith)

-- The live object at an offset.

abbrev pub lives_at : (off serial : ℕ) → Object → Bool
lives_at off serial o = (o.off == off) && lives_as serial o.life

key_at : (h : ℕ → Option Holder) (n off : ℕ) (s : Span) (holder : Holder) → 4 * s.start ≡ off → h (object_key n off) ≡ Some holder → h (object_key n (4 * s.start)) ≡ Some holder
key_at h n off s holder same there = ap (λ o. h (object_key n o)) same ∙ there

pub find_living : (h : ℕ → Option Holder) (n off serial : ℕ) (holder : Holder) (spans : List Span) → h (object_key n off) ≡ Some holder → lives_as serial (life_by (Some holder)) ≡ true
    → find (lives_at off serial) (objects_by h n spans) ≡ option_map (object_by h n) (find (starts_at off) spans)
find_living h n off serial holder [] there lives = refl
find_living h n off serial holder (s ∷ spans) there lives = elim (cases_eq (4 * s.start) off) [
  | inl here ↦
      let test : starts_at off s ≡ true = grind (arith, nat_tests) in
      let living : lives_as serial (life_by (h (object_key n (4 * s.start)))) ≡ true = ap (λ o. lives_as serial (life_by o)) (key_at h n off s holder here there) ∙ lives in
      ap (λ b. cond (b && lives_as serial (life_by (h (object_key n (4 * s.start))))) (Some (object_by h n s)) (find (lives_at off serial) (objects_by h n spans))) test
      ∙ ap (λ b. cond b (Some (object_by h n s)) (find (lives_at off serial) (objects_by h n spans))) living
      ∙ sym (ap (λ b. option_map (object_by h n) (cond b (Some s) (find (starts_at off) spans))) test)
  | inr apart ↦
      let test : starts_at off s ≡ false = grind (arith, nat_tests) in
      ap (λ b. cond (b && lives_as serial (life_by (h (object_key n (4 * s.start))))) (Some (object_by h n s)) (find (lives_at off serial) (objects_by h n spans))) test
      ∙ find_living h n off serial holder spans there lives
      ∙ sym (ap (λ b. option_map (object_by h n) (cond b (Some s) (find (starts_at off) spans))) test)
]

pub find_no_living : (h : ℕ → Option Holder) (n off serial : ℕ) (holder : Holder) (spans : List Span) → h (object_key n off) ≡ Some holder → lives_as serial (life_by (Some holder)) ≡ false
    → find (lives_at off serial) (objects_by h n spans) ≡ None
find_no_living h n off serial holder [] there dead = refl
find_no_living h n off serial holder (s ∷ spans) there dead =
    ap (λ b. cond b (Some (object_by h n s)) (find (lives_at off serial) (objects_by h n spans))) (fails (cases_eq (4 * s.start) off)) ∙ find_no_living h n off serial holder spans there dead
  where
    both : (a b : Bool) → b ≡ false → (a && b) ≡ false
    both true b e = e
    both false b e = refl

    fails : (4 * s.start ≡ off) ⊎ (4 * s.start ≢ off) → lives_at off serial (object_by h n s) ≡ false
    fails (inl here) = both (4 * s.start == off) (lives_as serial (life_by (h (object_key n (4 * s.start))))) (ap (λ o. lives_as serial (life_by o)) (key_at h n off s holder here there) ∙ dead)
    fails (inr apart) = let test : starts_at off s ≡ false = grind (arith, nat_tests) in ap (λ b. b && lives_as serial (life_by (h (object_key n (4 * s.start))))) test

pub find_absent : (h : ℕ → Option Holder) (n off serial : ℕ) (spans : List Span) → find (starts_at off) spans ≡ None → find (lives_at off serial) (objects_by h n spans) ≡ None
find_absent h n off serial [] none = refl
find_absent h n off serial (s ∷ spans) none = elim (cases_Bool (starts_at off s)) [
  | inl test ↦ absurd (let clash : None ≡ Some s = sym none ∙ ap (λ b. cond b (Some s) (find (starts_at off) spans)) test in cc)
  | inr test ↦
      ap (λ b. cond (b && lives_as serial (life_by (h (object_key n (4 * s.start))))) (Some (object_by h n s)) (find (lives_at off serial) (objects_by h n spans))) test
      ∙ find_absent h n off serial spans (sym (ap (λ b. cond b (Some s) (find (starts_at off) spans)) test) ∙ none)
]

pub lives_by_serial : (serial : ℕ) (holder : Holder) → serial ≢ 0 → holder.serial ≡ serial → lives_as serial (life_by (Some holder)) ≡ true
lives_by_serial serial holder some same =
    let not_none : (holder.serial == 0) ≡ false = let e : holder.serial ≢ 0 = (λ z. some (sym same ∙ z)) in grind (arith, nat_tests) in
    ap (λ b. lives_as serial (if b then InHand holder.caller else Lives holder.serial)) not_none ∙ (let e : (holder.serial == serial) ≡ true = grind (arith, nat_tests) in e)

pub lives_by_no_serial : (serial : ℕ) (holder : Holder) → (serial ≡ 0) ⊎ (holder.serial ≢ serial) → lives_as serial (life_by (Some holder)) ≡ false
lives_by_no_serial serial holder why = elim (cases_eq holder.serial 0) [
  | inl none ↦ let test : (holder.serial == 0) ≡ true = grind (arith, nat_tests) in ap (λ b. lives_as serial (if b then InHand holder.caller else Lives holder.serial)) test
  | inr some ↦ let test : (holder.serial == 0) ≡ false = grind (arith, nat_tests) in
      ap (λ b. lives_as serial (if b then InHand holder.caller else Lives holder.serial)) test ∙ (let e : (holder.serial == serial) ≡ false = let apart : holder.serial ≢ serial = differs why some in grind (arith, nat_tests) in e)
]
  where
    differs : (serial ≡ 0) ⊎ (holder.serial ≢ serial) → holder.serial ≢ 0 → holder.serial ≢ serial
    differs (inl zero_serial) some = λ same. some (same ∙ zero_serial)
    differs (inr apart) some = apart

-- the bytes that a free tells
pub live_in_row : (h : ℕ → Option Holder) (pages next_object next_chunk room n off serial i : ℕ) (rows : List KeptRow) (f : IsFound n rows i) → IsRising number_of rows
    → live_bytes n off serial (region_of pages next_object next_chunk room (chunks_in h rows)) ≡ option_map (λ (o : Object). o.bytes) (find (lives_at off serial) (objects_by h f.row.number f.row.bits.objects))
live_in_row h pages next_object next_chunk room n off serial i rows f rise =
    ap (λ cs. option_map (λ (o : Object). o.bytes) (find (lives_at off serial) (flat_map objects_of_chunk cs))) (numbered_row h n i rows rise f)
    ∙ ap (λ os. option_map (λ (o : Object). o.bytes) (find (lives_at off serial) os)) (app_nil (objects_by h f.row.number f.row.bits.objects))

pub live_nowhere : (h : ℕ → Option Holder) (pages next_object next_chunk room n off serial : ℕ) (rows : List KeptRow) → index_by number_of n rows ≡ None
    → live_bytes n off serial (region_of pages next_object next_chunk room (chunks_in h rows)) ≡ None
live_nowhere h pages next_object next_chunk room n off serial rows none =
    ap (λ cs. option_map (λ (o : Object). o.bytes) (find (lives_at off serial) (flat_map objects_of_chunk cs))) (numbered_none h n rows none)
