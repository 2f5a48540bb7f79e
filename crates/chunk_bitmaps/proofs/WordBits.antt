-- Bits of words: a word with bits set or cleared, the rest of a word, and a word that is put in the place of another.
use Rattle.std.proofs.Common.{◌≡◌, ℕ, zero, suc, ◌+◌, ◌-◌, ◌/◌, ◌%◌, ◌^◌, ◌<◌, ◌≤◌, Bool, true, false, not, ◌==◌, if◌then◌else◌, List, length, get_or, refl, ap, sym, ◌∙◌, arith}
use Rattle.std.specs.Int.{bit_at, w64}
use Rattle.std.specs.Int.RustNames.{bit_and, bit_or}
use Rattle.std.proofs.lemmas.Nat.{shr-shr}
use Rattle.std.proofs.lemmas.Nat.Bits.{bit_at_or, bit_at_and, bit_at_not, bit_at-lt, bit_at_above, bit_at_mask_inside, bit_at_mask_above}
use Rattle.vm_model.specs.Space.{one_if}
use Rattle.chunk_bitmaps.specs.Bitmap.{bit_of, bits_of, HasRoom}
use Rattle.vm_model.specs.Bits.{value_at}
use Rattle.vm_model.proofs.Tabulated.{length-tabulated, slice_get-tabulated, value_at-get}

-- A word with the bits of a mask set, or cleared.

pub set_inside : (word mask i : ℕ) → bit_at mask i ≡ 1 → bit_at (bit_or word mask) i ≡ 1
set_inside word mask i e = omega (arith, bit_at_or word mask i, bit_at-lt word i)

pub set_outside : (word mask i : ℕ) → bit_at mask i ≡ 0 → bit_at (bit_or word mask) i ≡ bit_at word i
set_outside word mask i e = omega (arith, bit_at_or word mask i)

pub cleared_inside : (word mask i : ℕ) → mask < 2 ^ 64 → i < 64 → bit_at mask i ≡ 1 → bit_at (bit_and word (18446744073709551615 - mask)) i ≡ 0
cleared_inside word mask i fits low e = omega (arith, bit_at_and word (18446744073709551615 - mask) i, bit_at_not w64 mask i fits low)

pub cleared_outside : (word mask i : ℕ) → mask < 2 ^ 64 → i < 64 → bit_at mask i ≡ 0 → bit_at (bit_and word (18446744073709551615 - mask)) i ≡ bit_at word i
cleared_outside word mask i fits low e = omega (arith, bit_at_and word (18446744073709551615 - mask) i, bit_at_not w64 mask i fits low, bit_at-lt word i)

-- The mask of so many bits.

-- The list of the bits.

pub value_at-bits_of : (words : List ℕ) (bits place : ℕ) → place < bits → value_at (bits_of words bits) place ≡ bit_of words place
value_at-bits_of words bits place h = value_at-get (bits_of words bits) place (bit_of words place) (slice_get-tabulated (bit_of words) bits place h)

-- The rest of a word.

bit_at-shr : (word shift i : ℕ) → bit_at (word / 2 ^ shift) i ≡ bit_at word (shift + i)
bit_at-shr word shift i = ap (λ n. n % 2) (shr-shr word shift i)

one_if-bit : (word i : ℕ) → bit_at word i ≡ one_if (bit_at word i == 1)
one_if-bit word i = by_value (bit_at word i) (bit_at-lt word i)
  where
    by_value : (n : ℕ) → n < 2 → n ≡ one_if (n == 1)
    by_value zero h = refl
    by_value (suc zero) h = refl
    by_value (suc (suc n)) h = absurd (omega arith)

same_word : (place i : ℕ) → i < 64 - place % 64 → ((place + i) / 64 ≡ place / 64) × ((place + i) % 64 ≡ place % 64 + i)
same_word place i h = (omega arith, omega arith)

pub rest_set : (words : List ℕ) (place i : ℕ) → i < 64 - place % 64 → bit_at (get_or words (place / 64) 0 / 2 ^ (place % 64)) i ≡ one_if (bit_of words (place + i))
rest_set words place i h =
    let same = same_word place i h in
    bit_at-shr (get_or words (place / 64) 0) (place % 64) i ∙ one_if-bit (get_or words (place / 64) 0) (place % 64 + i)
    ∙ ap (λ n. one_if (bit_at (get_or words (place / 64) 0) n == 1)) (sym same.1) ∙ ap (λ k. one_if (bit_at (get_or words k 0) ((place + i) % 64) == 1)) (sym same.0)

one_if-not : (b : Bool) → 1 - one_if b ≡ one_if (not b)
one_if-not true = refl
one_if-not false = refl

pub rest_clear : (words : List ℕ) (place i : ℕ) → get_or words (place / 64) 0 < 2 ^ 64 → i < 64 - place % 64
    → bit_at ((18446744073709551615 - get_or words (place / 64) 0) / 2 ^ (place % 64)) i ≡ one_if (not (bit_of words (place + i)))
rest_clear words place i fits h =
    bit_at-shr (18446744073709551615 - get_or words (place / 64) 0) (place % 64) i
    ∙ bit_at_not w64 (get_or words (place / 64) 0) (place % 64 + i) fits (omega arith)
    ∙ ap (λ n. 1 - n) (sym (bit_at-shr (get_or words (place / 64) 0) (place % 64) i) ∙ rest_set words place i h)
    ∙ one_if-not (bit_of words (place + i))

pub rest_above : (word place i : ℕ) → word < 2 ^ 64 → 64 - place % 64 ≤ i → bit_at (word / 2 ^ (place % 64)) i ≡ 0
rest_above word place i fits h = bit_at-shr word (place % 64) i ∙ bit_at_above word 64 (place % 64 + i) fits (omega arith)

-- the bits in words are as many as the bitmap has, and few
pub few_bits : (words : List ℕ) (bits : ℕ) (now : List Bool) → bits_of words bits ≡ now → HasRoom words bits → (length now ≡ bits) × (length now ≤ 2 ^ 31)
few_bits words bits now is room =
    let long : length now ≡ bits = ap length (sym is) ∙ length-tabulated (bit_of words) bits 0 in
    let small = room.small in
    (long, omega arith)

-- the place is one of the bits, and its word is there
pub in_words : (words : List ℕ) (bits place : ℕ) (now : List Bool) → bits_of words bits ≡ now → HasRoom words bits → place < length now → (place < bits) × (place / 64 < length words)
in_words words bits place now is room h =
    let long : length now ≡ bits = ap length (sym is) ∙ length-tabulated (bit_of words) bits 0 in
    let most = room.room in
    (omega arith, omega arith)

pub bit_is : (words : List ℕ) (bits place : ℕ) (now : List Bool) → bits_of words bits ≡ now → place < length now → bit_of words place ≡ value_at now place
bit_is words bits place now is h =
    let long : length now ≡ bits = ap length (sym is) ∙ length-tabulated (bit_of words) bits 0 in
    sym (value_at-bits_of words bits place (omega arith)) ∙ ap (λ bs. value_at bs place) is

pub chosen_true : (value : Bool) (b : Bool) → value ≡ true → one_if b ≡ one_if (if value then b else not b)
chosen_true true b e = λ _. one_if b
chosen_true false b e = cc

pub chosen_false : (value : Bool) (b : Bool) → value ≡ false → one_if (not b) ≡ one_if (if value then b else not b)
chosen_false true b e = cc
chosen_false false b e = λ _. one_if (not b)

-- A bit of a word that has the value, by its place.

pub word_bit : (words : List ℕ) (place other : ℕ) → other / 64 ≡ place / 64 → bit_at (get_or words (place / 64) 0) (other % 64) ≡ one_if (bit_of words other)
word_bit words place other same = one_if-bit (get_or words (place / 64) 0) (other % 64) ∙ ap (λ k. one_if (bit_at (get_or words k 0) (other % 64) == 1)) (sym same)

pub word_bit_clear : (words : List ℕ) (place other : ℕ) → get_or words (place / 64) 0 < 2 ^ 64 → other / 64 ≡ place / 64
    → bit_at (18446744073709551615 - get_or words (place / 64) 0) (other % 64) ≡ one_if (not (bit_of words other))
word_bit_clear words place other fits same =
    bit_at_not w64 (get_or words (place / 64) 0) (other % 64) fits (omega arith) ∙ ap (λ n. 1 - n) (word_bit words place other same) ∙ one_if-not (bit_of words other)

pub masked_inside : (word count i : ℕ) → i < count → bit_at (bit_and word (2 ^ (0 + count) - 2 ^ 0)) i ≡ bit_at word i
masked_inside word count i h = omega (arith, bit_at_and word (2 ^ (0 + count) - 2 ^ 0) i, bit_at_mask_inside 0 (0 + count) i (omega arith) (omega arith), bit_at-lt word i)

pub masked_above : (word count i : ℕ) → count ≤ i → bit_at (bit_and word (2 ^ (0 + count) - 2 ^ 0)) i ≡ 0
masked_above word count i h = omega (arith, bit_at_and word (2 ^ (0 + count) - 2 ^ 0) i, bit_at_mask_above 0 (0 + count) i (omega arith))
