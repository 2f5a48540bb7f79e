-- The bits of a mask.
use Rattle.std.proofs.Common.{◌≡◌, ℕ, zero, suc, ◌+◌, ◌-◌, ◌*◌, ◌/◌, ◌%◌, ◌^◌, ◌<◌, ◌≤◌, inl, inr, min, max, true, false, not, ◌&&◌, ◌||◌, ◌==◌, nat_le, nat_lt, ap, sym, ◌∙◌, arith}
use Rattle.std.specs.Int.{bit_at, w64}
use Rattle.std.specs.Int.RustNames.{bit_and, bit_or}
use Rattle.std.proofs.lemmas.Bool.{cases_lt}
use Rattle.std.proofs.lemmas.Bool.Decides.{nat_tests}
use Rattle.std.proofs.lemmas.Nat.{pow-add, shl_whole, pow_pos}
use Rattle.std.proofs.lemmas.Nat.Bits.{bit_at_or, bit_at_and, bit_at_not, bit_at-lt, ones_shr, bit_at_mask_inside, bit_at_mask_below, bit_at_mask_above}

-- So many bits from one on.

one_less : (n low : ℕ) → 0 < n → (n - 1) * low ≡ low * n - low
one_less zero low h = absurd (omega arith)
one_less (suc n) low h = let e : suc n - 1 ≡ n = omega arith in ap (λ m. m * low) e ∙ (let f : n * low ≡ low * suc n - low = omega arith in f)

ones_shl_by : (count low : ℕ) → (2 ^ count - 1) * 2 ^ low ≡ 2 ^ (low + count) - 2 ^ low
ones_shl_by count low = one_less (2 ^ count) (2 ^ low) (pow_pos count) ∙ ap (λ n. n - 2 ^ low) (sym (pow-add 2 low count))

pub mask_is : (low count : ℕ) → 1 ≤ count → low + count ≤ 64 → 18446744073709551615 / 2 ^ (64 - count) * 2 ^ low % 18446744073709551616 ≡ 2 ^ (low + count) - 2 ^ low
mask_is low count some within =
    let shift : 64 - count ≤ 64 = omega arith in
    let left : 64 - (64 - count) ≡ count = omega arith in
    let ones : 18446744073709551615 / 2 ^ (64 - count) ≡ 2 ^ count - 1 = ones_shr 64 (64 - count) shift ∙ ap (λ n. 2 ^ n - 1) left in
    let few : 2 ^ count - 1 < 2 ^ count = omega (arith, pow_pos count) in
    ap (λ n. n * 2 ^ low % 18446744073709551616) ones ∙ shl_whole (2 ^ count - 1) count low 64 few (omega arith) ∙ ones_shl_by count low

pub span_bits : (first count page : ℕ) → (bit_at (2 ^ (first + count) - 2 ^ first) page == 1) ≡ (nat_le first page && nat_lt page (first + count))
span_bits first count page = elim (cases_lt page first) [
  | inl below ↦ let no : (nat_le first page && nat_lt page (first + count)) ≡ false = grind (arith, nat_tests) in
      ap (λ n. n == 1) (bit_at_mask_below first (first + count) page below) ∙ sym no
  | inr from ↦ elim (cases_lt page (first + count)) [
    | inl inside ↦ let yes : (nat_le first page && nat_lt page (first + count)) ≡ true = grind (arith, nat_tests) in
        ap (λ n. n == 1) (bit_at_mask_inside first (first + count) page from inside) ∙ sym yes
    | inr above ↦ let no : (nat_le first page && nat_lt page (first + count)) ≡ false = grind (arith, nat_tests) in
        ap (λ n. n == 1) (bit_at_mask_above first (first + count) page above) ∙ sym no
  ]
]

-- The bits of two masks.

or_test : (x y z : ℕ) → x < 2 → y < 2 → z ≡ max x y → (z == 1) ≡ ((x == 1) || (y == 1))
or_test zero y z lx ly e = let same : z ≡ y = omega arith in ap (λ n. n == 1) same
or_test (suc zero) y z lx ly e = let one : z ≡ 1 = omega arith in ap (λ n. n == 1) one
or_test (suc (suc x)) y z lx ly e = absurd (omega arith)

and_test : (x y z : ℕ) → x < 2 → y < 2 → z ≡ min x (1 - y) → (z == 1) ≡ ((x == 1) && not (y == 1))
and_test zero y z lx ly e = let none : z ≡ 0 = omega arith in ap (λ n. n == 1) none
and_test (suc zero) zero z lx ly e = let one : z ≡ 1 = omega arith in ap (λ n. n == 1) one
and_test (suc zero) (suc zero) z lx ly e = let none : z ≡ 0 = omega arith in ap (λ n. n == 1) none
and_test (suc zero) (suc (suc y)) z lx ly e = absurd (omega arith)
and_test (suc (suc x)) y z lx ly e = absurd (omega arith)

pub both_bits : (one other page : ℕ) → (bit_at (bit_or one other) page == 1) ≡ ((bit_at one page == 1) || (bit_at other page == 1))
both_bits one other page = or_test (bit_at one page) (bit_at other page) _ (bit_at-lt one page) (bit_at-lt other page) (bit_at_or one other page)

pub without_bits : (one other page : ℕ) → other < 2 ^ 64 → page < 64 → (bit_at (bit_and one (18446744073709551615 - other)) page == 1) ≡ ((bit_at one page == 1) && not (bit_at other page == 1))
without_bits one other page fits low =
    and_test (bit_at one page) (bit_at other page) _ (bit_at-lt one page) (bit_at-lt other page)
    (bit_at_and one (18446744073709551615 - other) page ∙ ap (min (bit_at one page)) (bit_at_not w64 other page fits low))
