-- The frames whose bits aren't set, lowest first: when one is taken, and when one is put back.
use Rattle.std.proofs.Common.{◌≡◌, ℕ, zero, suc, ◌+◌, ◌^◌, ◌<◌, ◌≤◌, inl, inr, Bool, true, false, not, ◌||◌, ◌==◌, if◌then◌else◌, List, [], ◌∷◌, length, filter, replicate, refl, ap, sym, ◌∙◌, subst, arith}
use Rattle.std.specs.Option.{option_map}
use Rattle.std.proofs.lemmas.Bool.{cases_lt, false_from_ne_true, false≢true}
use Rattle.std.proofs.lemmas.Bool.Decides.{nat_tests}
use Rattle.std.proofs.lemmas.List.{length-replicate}
use Rattle.std.proofs.lemmas.Option.{get_or_from_slice_get}
use Rattle.vm_model.proofs.Tabulated.{get-value_at, value_at-get}
use Rattle.vm_model.specs.Space.{span, holds, count_from, is_among, put_by, paint}
use Rattle.vm_model.proofs.Search.{length-count_from}
use Rattle.vm_model.proofs.Paint.{slice_get-paint, length-paint_from}
use Rattle.chunk_bitmaps.specs.Bitmap.{IsNextBit}
use Rattle.vm_model.specs.Bits.{value_at}
use Rattle.page_pool.specs.FrameList.{FrameList, is_free, lowest_first, AreCounted}
use Rattle.page_pool.proofs.PassingNumbers.{filter-alike, filter-all, filter-none, filter-puts, put_by-least, length-put_by, length-filter-fewer, among, same_or_apart}

abbrev pub frame_list : List ℕ → ℕ → FrameList
frame_list numbers memory = record { numbers = numbers; memory = memory }

-- the bit of a frame, after that of one was written
holds_one : (frame i : ℕ) → holds (span frame 1) i ≡ (frame == i)
holds_one frame i = elim (same_or_apart frame i) [
  | inl same ↦ grind (arith, nat_tests)
  | inr apart ↦ grind (arith, nat_tests)
]

written : (bits : List Bool) (frame i : ℕ) (value : Bool) → i < length bits → value_at (paint (holds (span frame 1)) value bits) i ≡ (if frame == i then value else value_at bits i)
written bits frame i value within =
    get_or_from_slice_get (paint (holds (span frame 1)) value bits) i _ false (slice_get-paint (holds (span frame 1)) value bits i ∙ ap (option_map (λ y. if holds (span frame 1) i then value else y)) (get-value_at bits i (value_at bits i) within refl))
    ∙ ap (λ b. if b then value else value_at bits i) (holds_one frame i)

-- All frames of memory are free at first.

none_set : (memory i : ℕ) → value_at (replicate memory false) i ≡ false
none_set zero i = refl
none_set (suc memory) zero = refl
none_set (suc memory) (suc i) = none_set memory i

pub lowest_first-all : (memory : ℕ) → lowest_first (replicate memory false) ≡ frame_list (count_from memory 0) memory
lowest_first-all memory =
    let same : length (replicate memory false) ≡ memory = length-replicate memory false in
    ap (λ n. frame_list (filter (is_free (replicate memory false)) (count_from n 0)) n) same
    ∙ ap (λ numbers. frame_list numbers memory) (filter-all (is_free (replicate memory false)) memory 0 (λ i low high. ap not (none_set memory i)))

-- The lowest free frame is taken.

free_else : (bits : List Bool) (frame i : ℕ) → (b : Bool) → (frame == i) ≡ b → is_free bits frame ≡ true → is_free bits i ≡ (b || not (if b then true else value_at bits i))
free_else bits frame i true e free = let same : frame ≡ i = grind (arith, nat_tests) in ap (is_free bits) (sym same) ∙ free
free_else bits frame i false e free = refl

-- a frame is the lowest free one
pub record IsLowest (bits : List Bool) (frame : ℕ) : Type 0 where
  pub within : frame < length bits
  pub free : is_free bits frame ≡ true
  pub below : (i : ℕ) → i < frame → is_free bits i ≡ false

abbrev pub with_taken : List Bool → ℕ → List Bool
with_taken bits frame = paint (holds (span frame 1)) true bits

abbrev pub with_freed : List Bool → ℕ → List Bool
with_freed bits frame = paint (holds (span frame 1)) false bits

taken_now : (bits : List Bool) (frame : ℕ) → frame < length bits → is_free (with_taken bits frame) frame ≡ false
taken_now bits frame within = ap not (written bits frame frame true within ∙ ap (λ b. if b then true else value_at bits frame) (let e : (frame == frame) ≡ true = grind (arith, nat_tests) in e))

taken_before : (bits : List Bool) (frame i : ℕ) → IsLowest bits frame → i ≤ frame → is_free (with_taken bits frame) i ≡ false
taken_before bits frame i is low = elim (same_or_apart frame i) [
  | inl same ↦ ap (is_free (with_taken bits frame)) (sym same) ∙ taken_now bits frame is.within
  | inr apart ↦
      let within = is.within in
      ap not (written bits frame i true (omega arith) ∙ ap (λ b. if b then true else value_at bits i) (let e : (frame == i) ≡ false = grind (arith, nat_tests) in e)) ∙ is.below i (omega arith)
]

above_taken : (bits : List Bool) (frame i : ℕ) → IsLowest bits frame → is_free (with_taken bits frame) i ≡ true → frame < i
above_taken bits frame i is free = elim (cases_lt frame i) [
  | inl above ↦ above
  | inr low ↦ absurd (false≢true (sym (taken_before bits frame i is low) ∙ free))
]

pub lowest_first-taken : (bits : List Bool) (frame : ℕ) → IsLowest bits frame → lowest_first bits ≡ frame_list (frame ∷ (lowest_first (with_taken bits frame)).numbers) (length bits)
lowest_first-taken bits frame is =
    let new = with_taken bits frame in
    let memory = length bits in
    let within = is.within in
    ap (λ numbers. frame_list numbers memory)
    (filter-alike (is_free bits) (λ i. (frame == i) || is_free new i) memory 0 (λ i low high. free_else bits frame i (frame == i) refl is.free ∙ ap (λ b. (frame == i) || not b) (sym (written bits frame i true (omega arith))))
    ∙ filter-puts (is_free new) frame memory 0 (taken_now bits frame within) (omega arith) (omega arith)
    ∙ put_by-least (is_free new) frame memory 0 (λ i low free. above_taken bits frame i is free)
    ∙ ap (λ n. frame ∷ filter (is_free new) (count_from n 0)) (sym (length-paint_from (holds (span frame 1)) true bits 0)))

-- the bit that was found is that of the lowest free frame
pub is_lowest : (bits : List Bool) (free lowest frame : ℕ) → AreCounted bits free lowest → IsNextBit bits false lowest (length bits) frame → 0 < length (lowest_first bits).numbers → IsLowest bits frame
is_lowest bits free lowest frame counted next some = record { within = within; free = ap not (value_at-get bits frame false (next.here within)); below = below }
  where
    below : (i : ℕ) → i < frame → is_free bits i ≡ false
    below i h = elim (cases_lt i lowest) [
      | inl low ↦ counted.below i low
      | inr high ↦ ap not (value_at-get bits i true (next.others i high h))
    ]

    within : frame < length bits
    within = elim (cases_lt frame (length bits)) [
      | inl h ↦ h
      | inr all ↦
          let none : (lowest_first bits).numbers ≡ [] = filter-alike (is_free bits) (λ i. false) (length bits) 0 (λ i low high. below i (omega arith)) ∙ filter-none (λ i. false) (length bits) 0 (λ i. refl) in
          let nobody : length (lowest_first bits).numbers ≡ 0 = ap length none in
          absurd (omega arith)
    ]

pub counted_taken : (bits : List Bool) (free lowest left frame : ℕ) → AreCounted bits free lowest → IsLowest bits frame → left + 1 ≡ free → AreCounted (with_taken bits frame) left (frame + 1)
counted_taken bits free lowest left frame counted is less =
    let fewer : length (lowest_first bits).numbers ≡ suc (length (lowest_first (with_taken bits frame)).numbers) = ap (λ (f : FrameList). length f.numbers) (lowest_first-taken bits frame is) in
    let count = counted.count in
    let within = is.within in
    let same = length-paint_from (holds (span frame 1)) true bits 0 in
    let fits = counted.fits in
    record { count = omega arith; within = omega arith; fits = omega arith; below = λ i h. taken_before bits frame i is (omega arith) }

-- A frame is put back.

freed_else : (bits : List Bool) (frame i : ℕ) (b : Bool) → not (if b then false else value_at bits i) ≡ (b || is_free bits i)
freed_else bits frame i true = refl
freed_else bits frame i false = refl

freed : (bits : List Bool) (frame i : ℕ) → i < length bits → is_free (with_freed bits frame) i ≡ ((frame == i) || is_free bits i)
freed bits frame i within = ap not (written bits frame i false within) ∙ freed_else bits frame i (frame == i)

not_free : (bits : List Bool) (frame : ℕ) → frame < length bits → is_among (lowest_first bits).numbers frame ≡ false → is_free bits frame ≡ false
not_free bits frame within taken = false_from_ne_true (is_free bits frame) (λ free. false≢true (sym taken ∙ among (is_free bits) frame (length bits) 0 free (omega arith) (omega arith)))

pub lowest_first-freed : (bits : List Bool) (frame : ℕ) → frame < length bits → is_among (lowest_first bits).numbers frame ≡ false
    → lowest_first (with_freed bits frame) ≡ frame_list (put_by (λ n. n) frame (lowest_first bits).numbers) (length bits)
lowest_first-freed bits frame within taken =
    let same : length (with_freed bits frame) ≡ length bits = length-paint_from (holds (span frame 1)) false bits 0 in
    ap (λ n. frame_list (filter (is_free (with_freed bits frame)) (count_from n 0)) n) same
    ∙ ap (λ numbers. frame_list numbers (length bits))
    (filter-alike (is_free (with_freed bits frame)) (λ i. (frame == i) || is_free bits i) (length bits) 0 (λ i low high. freed bits frame i (omega arith))
    ∙ filter-puts (is_free bits) frame (length bits) 0 (not_free bits frame within taken) (omega arith) (omega arith))

pub fewer_free : (bits : List Bool) (frame : ℕ) → frame < length bits → is_among (lowest_first bits).numbers frame ≡ false → length (lowest_first bits).numbers < length bits
fewer_free bits frame within taken = length-filter-fewer (is_free bits) frame (length bits) (not_free bits frame within taken) within

pub counted_freed : (bits : List Bool) (free lowest more lower frame : ℕ) → AreCounted bits free lowest → frame < length bits → is_among (lowest_first bits).numbers frame ≡ false → more ≡ free + 1 → lower ≤ lowest → lower ≤ frame
    → AreCounted (with_freed bits frame) more lower
counted_freed bits free lowest more lower frame counted inside taken added low here =
    let count = counted.count in
    let within = counted.within in
    let same = length-paint_from (holds (span frame 1)) false bits 0 in
    let longer : length (lowest_first (with_freed bits frame)).numbers ≡ suc (length (lowest_first bits).numbers) =
    ap (λ (f : FrameList). length f.numbers) (lowest_first-freed bits frame inside taken) ∙ length-put_by frame (lowest_first bits).numbers in
    record {
      count = omega arith;
      within = omega arith;
      fits = let fits = counted.fits in omega arith;
      below = λ i h. freed bits frame i (omega arith) ∙ ap (λ b. b || is_free bits i) (let e : (frame == i) ≡ false = grind (arith, nat_tests) in e) ∙ counted.below i (omega arith);
    }

pub counted_first : (memory : ℕ) (bits : List Bool) → memory < 2 ^ 32 → bits ≡ replicate memory false → AreCounted bits memory 0
counted_first memory bits small e = subst (λ (bs : List Bool). AreCounted bs memory 0) (sym e)
    (record {
      count = sym (ap (λ (f : FrameList). length f.numbers) (lowest_first-all memory) ∙ length-count_from memory 0);
      within = omega arith;
      fits = let same = length-replicate memory false in omega arith;
      below = λ frame h. absurd (omega arith);
    })

-- The same of bits that were written.

pub taken_from : (bits new : List Bool) (frame : ℕ) → IsLowest bits frame → new ≡ with_taken bits frame → lowest_first bits ≡ frame_list (frame ∷ (lowest_first new).numbers) (length new)
taken_from bits new frame is e =
    lowest_first-taken bits frame is
    ∙ ap (frame_list (frame ∷ (lowest_first (with_taken bits frame)).numbers)) (sym (length-paint_from (holds (span frame 1)) true bits 0))
    ∙ ap (λ (bs : List Bool). frame_list (frame ∷ (lowest_first bs).numbers) (length bs)) (sym e)

pub freed_from : (bits new : List Bool) (frame : ℕ) → frame < length bits → is_among (lowest_first bits).numbers frame ≡ false → new ≡ with_freed bits frame
    → lowest_first new ≡ frame_list (put_by (λ n. n) frame (lowest_first bits).numbers) (length bits)
freed_from bits new frame within taken e = ap lowest_first e ∙ lowest_first-freed bits frame within taken
