-- Bits that are set or cleared word by word.
use Rattle.std.proofs.Common.{◌≡◌, ◌≢◌, ℕ, suc, ◌+◌, ◌-◌, ◌*◌, ◌/◌, ◌%◌, ◌^◌, ◌<◌, ◌≤◌, ◌⊎◌, inl, inr, Bool, true, false, ◌||◌, ◌==◌, if◌then◌else◌, List, [], ◌∷◌, length, get_or, slice_set, replicate, refl, ap, sym, ◌∙◌, subst, arith}
use Rattle.std.proofs.lemmas.Bool.{cases_lt, cases_eq}
use Rattle.std.proofs.lemmas.Bool.Decides.{nat_tests}
use Rattle.std.proofs.lemmas.List.{get_or-set_same, get_or-set_other, get_or-replicate, get_or_past, length-replicate}
use Rattle.std.specs.Int.{bit_at}
use Rattle.std.proofs.lemmas.Nat.Bits.{bit_at_mask_inside, bit_at_mask_below, bit_at_mask_above, bit_at-zero}
use Rattle.vm_model.specs.Space.{span, holds, paint, paint_from, one_if}
use Rattle.chunk_bitmaps.specs.Bitmap.{bit_of, bits_of}
use Rattle.vm_model.proofs.PaintRuns.{same_paint}
use Rattle.vm_model.proofs.Tabulated.{same_tabulated, paint_from-tabulated, tabulated_same}

-- the word with the bits of the mask changed
pub record IsChanged (word mask : ℕ) (value : Bool) (changed : ℕ) : Type 0 where
  pub inside : (i : ℕ) → i < 64 → bit_at mask i ≡ 1 → bit_at changed i ≡ one_if value
  pub outside : (i : ℕ) → i < 64 → bit_at mask i ≡ 0 → bit_at changed i ≡ bit_at word i

-- the words with the places from one on up to another changed
abbrev pub ChangedUpTo : List ℕ → List ℕ → Bool → (start place : ℕ) → Type 0
ChangedUpTo words changed value start place = (p : ℕ) → bit_of changed p ≡ (if holds (span start (place - start)) p then value else bit_of words p)

one_if-test : (b : Bool) → (one_if b == 1) ≡ b
one_if-test true = refl
one_if-test false = refl

holds-on : (start page n i : ℕ) → start ≤ page → holds (span start (page + n - start)) i ≡ (holds (span start (page - start)) i || holds (span page n) i)
holds-on start page n i h = grind (arith, nat_tests)

holds-here : (place count p : ℕ) → place ≤ p → p < place + count → holds (span place count) p ≡ true
holds-here place count p low high = grind (arith, nat_tests)

holds-not_below : (place count p : ℕ) → p < place → holds (span place count) p ≡ false
holds-not_below place count p h = grind (arith, nat_tests)

holds-not_above : (place count p : ℕ) → place + count ≤ p → holds (span place count) p ≡ false
holds-not_above place count p h = grind (arith, nat_tests)

if_or : {X : Type 0} (a b : Bool) (x y z : X) → z ≡ (if a then x else y) → (b ≡ true → x ≡ z) → (if a || b then x else y) ≡ z
if_or true b x y z e h = sym e
if_or false true x y z e h = h refl
if_or false false x y z e h = sym e

if_or_there : {X : Type 0} (a b : Bool) (x y : X) → b ≡ true → (if a || b then x else y) ≡ x
if_or_there true b x y e = refl
if_or_there false true x y e = refl
if_or_there false false x y e = cc

if_or_else : {X : Type 0} (a b : Bool) (x y : X) → b ≡ false → (if a || b then x else y) ≡ (if a then x else y)
if_or_else true b x y e = refl
if_or_else false true x y e = cc
if_or_else false false x y e = refl

bit_of-set_same : (words : List ℕ) (place p changed : ℕ) → place / 64 < length words → p / 64 ≡ place / 64 → bit_of (slice_set words (place / 64) changed) p ≡ (bit_at changed (p % 64) == 1)
bit_of-set_same words place p changed within same =
    ap (λ k. bit_at (get_or (slice_set words (place / 64) changed) k 0) (p % 64) == 1) same ∙ ap (λ n. bit_at n (p % 64) == 1) (get_or-set_same words (place / 64) changed 0 within)

bit_of-set_other : (words : List ℕ) (place p changed : ℕ) → p / 64 ≢ place / 64 → bit_of (slice_set words (place / 64) changed) p ≡ bit_of words p
bit_of-set_other words place p changed apart = ap (λ n. bit_at n (p % 64) == 1) (get_or-set_other words (place / 64) (p / 64) changed 0 apart)

-- a place of the word at hand
in_word : (words : List ℕ) (value : Bool) (place count changed p : ℕ) → place / 64 < length words → place % 64 + count ≤ 64
    → IsChanged (get_or words (place / 64) 0) (2 ^ (place % 64 + count) - 2 ^ (place % 64)) value changed → p / 64 ≡ place / 64 → ((p < place) ⊎ (place ≤ p)) → ((p < place + count) ⊎ (place + count ≤ p))
    → bit_of (slice_set words (place / 64) changed) p ≡ (if holds (span place count) p then value else bit_of words p)
in_word words value place count changed p within few is same (inl below) h =
    bit_of-set_same words place p changed within same
    ∙ ap (λ n. n == 1) (is.outside (p % 64) (omega arith) (bit_at_mask_below (place % 64) (place % 64 + count) (p % 64) (omega arith)))
    ∙ ap (λ k. bit_at (get_or words k 0) (p % 64) == 1) (sym same)
    ∙ sym (ap (λ b. if b then value else bit_of words p) (holds-not_below place count p below))
in_word words value place count changed p within few is same (inr low) (inl high) =
    bit_of-set_same words place p changed within same
    ∙ ap (λ n. n == 1) (is.inside (p % 64) (omega arith) (bit_at_mask_inside (place % 64) (place % 64 + count) (p % 64) (omega arith) (omega arith)))
    ∙ one_if-test value
    ∙ sym (ap (λ b. if b then value else bit_of words p) (holds-here place count p low high))
in_word words value place count changed p within few is same (inr low) (inr above) =
    bit_of-set_same words place p changed within same
    ∙ ap (λ n. n == 1) (is.outside (p % 64) (omega arith) (bit_at_mask_above (place % 64) (place % 64 + count) (p % 64) (omega arith)))
    ∙ ap (λ k. bit_at (get_or words k 0) (p % 64) == 1) (sym same)
    ∙ sym (ap (λ b. if b then value else bit_of words p) (holds-not_above place count p above))

holds-other_word : (place count p : ℕ) → place % 64 + count ≤ 64 → p / 64 ≢ place / 64 → (p < place) ⊎ (place ≤ p) → holds (span place count) p ≡ false
holds-other_word place count p few apart (inl below) = holds-not_below place count p below
holds-other_word place count p few apart (inr low) = holds-not_above place count p (omega arith)

one_word : (words : List ℕ) (value : Bool) (place count changed p : ℕ) → place / 64 < length words → place % 64 + count ≤ 64
    → IsChanged (get_or words (place / 64) 0) (2 ^ (place % 64 + count) - 2 ^ (place % 64)) value changed → ((p / 64 ≡ place / 64) ⊎ (p / 64 ≢ place / 64))
    → bit_of (slice_set words (place / 64) changed) p ≡ (if holds (span place count) p then value else bit_of words p)
one_word words value place count changed p within few is (inl same) = in_word words value place count changed p within few is same (cases_lt p place) (cases_lt p (place + count))
one_word words value place count changed p within few is (inr apart) =
    bit_of-set_other words place p changed apart ∙ sym (ap (λ b. if b then value else bit_of words p) (holds-other_word place count p few apart (cases_lt p place)))

if_twice : (a b : Bool) (x y : Bool) → (if b then x else (if a then x else y)) ≡ (if a || b then x else y)
if_twice true true x y = refl
if_twice true false x y = refl
if_twice false true x y = refl
if_twice false false x y = refl

pub changed_more : (words now : List ℕ) (value : Bool) (start place count changed : ℕ) → start ≤ place → place / 64 < length now → place % 64 + count ≤ 64
    → IsChanged (get_or now (place / 64) 0) (2 ^ (place % 64 + count) - 2 ^ (place % 64)) value changed → ChangedUpTo words now value start place
    → ChangedUpTo words (slice_set now (place / 64) changed) value start (place + count)
changed_more words now value start place count changed order within few is before p =
    one_word now value place count changed p within few is (cases_eq (p / 64) (place / 64))
    ∙ ap (λ b. if holds (span place count) p then value else b) (before p)
    ∙ if_twice (holds (span start (place - start)) p) (holds (span place count) p) value (bit_of words p)
    ∙ ap (λ b. if b then value else bit_of words p) (sym (holds-on start place count p order))

pub changed_none : (words : List ℕ) (value : Bool) (start : ℕ) → ChangedUpTo words words value start start
changed_none words value start p = let none : holds (span start (start - start)) p ≡ false = grind (arith, nat_tests) in ap (λ b. if b then value else bit_of words p) (sym none)

-- the bits then are painted
pub painted : (words changed : List ℕ) (bits : ℕ) (value : Bool) (start count : ℕ) → ChangedUpTo words changed value start (start + count)
    → bits_of changed bits ≡ paint (holds (span start count)) value (bits_of words bits)
painted words changed bits value start count h =
    let long : start + count - start ≡ count = omega arith in
    same_tabulated (bit_of changed) (λ p. if holds (span start count) p then value else bit_of words p) bits 0 (λ p low high. h p ∙ ap (λ n. if holds (span start n) p then value else bit_of words p) long)
    ∙ sym (paint_from-tabulated (holds (span start count)) value (bit_of words) bits 0)

-- Whole words, one after another.

pub changed_word : (words now : List ℕ) (value : Bool) (first index changed : ℕ) → first ≤ index → index < length now → ((i : ℕ) → i < 64 → bit_at changed i ≡ one_if value) → ChangedUpTo words now value (64 * first) (64 * index)
    → ChangedUpTo words (slice_set now index changed) value (64 * first) (64 * (index + 1))
changed_word words now value first index changed order within all before =
    let word : 64 * index / 64 ≡ index = omega arith in
    let low : 64 * index % 64 ≡ 0 = omega arith in
    let next : 64 * index + 64 ≡ 64 * (index + 1) = omega arith in
    let is : IsChanged (get_or now (64 * index / 64) 0) (2 ^ (64 * index % 64 + 64) - 2 ^ (64 * index % 64)) value changed = record {
      inside = λ i few e. all i few;
      outside = λ i few e. absurd (omega (arith, e, ap (λ n. bit_at (2 ^ (n + 64) - 2 ^ n) i) low, bit_at_mask_inside 0 64 i (omega arith) few));
    } in
    subst (λ k. ChangedUpTo words (slice_set now k changed) value (64 * first) (64 * (index + 1))) word
    (subst (ChangedUpTo words (slice_set now (64 * index / 64) changed) value (64 * first)) next
    (changed_more words now value (64 * first) (64 * index) 64 changed (omega arith) (omega arith) (omega arith) is before))

-- Bits that are painted in three parts: up to a word, whole words, and the rest.

paint_from_or : (f g : ℕ → Bool) (x : Bool) (bits : List Bool) (first : ℕ) → paint_from first f x (paint_from first g x bits) ≡ paint_from first (λ p. f p || g p) x bits
paint_from_or f g x [] first = refl
paint_from_or f g x (y ∷ ys) first =
    ap (λ b. b ∷ paint_from (suc first) f x (paint_from (suc first) g x ys)) (either (f first) (g first) x y) ∙ ap (λ bs. (if f first || g first then x else y) ∷ bs) (paint_from_or f g x ys (suc first))
  where
    either : (a b x y : Bool) → (if a then x else (if b then x else y)) ≡ (if a || b then x else y)
    either true b x y = refl
    either false b x y = refl

-- where the middle begins and ends
abbrev pub IsParted : (head tail : ℕ) → Type 0
IsParted head tail = (head ≡ tail) ⊎ ((head % 64 ≡ 0) × (tail % 64 ≡ 0))

parts_hold : (start head tail end p : ℕ) → start ≤ head → head ≤ tail → tail ≤ end → IsParted head tail
    → (holds (span tail (end - tail)) p || (holds (span (64 * (head / 64)) (64 * (tail / 64 - head / 64))) p || holds (span start (head - start)) p)) ≡ holds (span start (end - start)) p
parts_hold start head tail end p one two three (inl same) = grind (arith, nat_tests)
parts_hold start head tail end p one two three (inr whole) = grind (arith, nat_tests)

pub painted_in_parts : (bits : List Bool) (value : Bool) (start head tail end : ℕ) → start ≤ head → head ≤ tail → tail ≤ end → IsParted head tail
    → paint (holds (span tail (end - tail))) value (paint (holds (span (64 * (head / 64)) (64 * (tail / 64 - head / 64)))) value (paint (holds (span start (head - start))) value bits)) ≡ paint (holds (span start (end - start))) value bits
painted_in_parts bits value start head tail end one two three parted =
    ap (paint (holds (span tail (end - tail))) value) (paint_from_or (holds (span (64 * (head / 64)) (64 * (tail / 64 - head / 64)))) (holds (span start (head - start))) value bits 0)
    ∙ paint_from_or (holds (span tail (end - tail))) (λ p. holds (span (64 * (head / 64)) (64 * (tail / 64 - head / 64))) p || holds (span start (head - start)) p) value bits 0
    ∙ same_paint (λ p. holds (span tail (end - tail)) p || (holds (span (64 * (head / 64)) (64 * (tail / 64 - head / 64))) p || holds (span start (head - start)) p)) (holds (span start (end - start))) value bits (λ p within. parts_hold start head tail end p one two three parted)

-- Words that are all 0 have no bit.

bit_of-zeros : (n place : ℕ) → (place / 64 < n) ⊎ (n ≤ place / 64) → bit_of (replicate n 0) place ≡ false
bit_of-zeros n place (inl within) = ap (λ word. bit_at word (place % 64) == 1) (get_or-replicate n (place / 64) 0 0 within) ∙ ap (λ m. m == 1) (bit_at-zero (place % 64))
bit_of-zeros n place (inr past) = ap (λ word. bit_at word (place % 64) == 1) (get_or_past (replicate n 0) (place / 64) 0 (omega (arith, length-replicate {A = ℕ} n 0))) ∙ ap (λ m. m == 1) (bit_at-zero (place % 64))

pub bits_of-zeros : (n bits : ℕ) → bits_of (replicate n 0) bits ≡ replicate bits false
bits_of-zeros n bits = same_tabulated (bit_of (replicate n 0)) (λ p. false) bits 0 (λ p low high. bit_of-zeros n p (cases_lt (p / 64) n)) ∙ tabulated_same bits 0
