-- Binary digits, by halving.
use Rattle.std.proofs.Common.{◌≡◌, ◌≢◌, ℕ, zero, suc, ◌+◌, ◌-◌, ◌/◌, ◌^◌, ◌<◌, ◌≤◌, Bool, true, false, ◌==◌, if◌then◌else◌, refl, ap, ◌∙◌, arith}
use Rattle.std.proofs.lemmas.Bool.Decides.{nat_tests}
use Rattle.std.proofs.Math.Nat.{pow-succ'}
use Rattle.vm_model.specs.Bits.{digits_within, binary_digits}

-- so many halves were taken, and the rest has the other digits
pub record IsHalved (size digits rest : ℕ) : Type 0 where
  pub all : digits + digits_within (32 - digits) rest ≡ binary_digits size
  pub small : rest < 2 ^ (32 - digits)
  pub high : digits ≤ 32

digits_by : (most n : ℕ) (b : Bool) → (n == 0) ≡ b → 0 < n → (if b then 0 else suc (digits_within most (n / 2))) ≡ suc (digits_within most (n / 2))
digits_by most n true e h = absurd (let z : n ≡ 0 = grind (arith, nat_tests) in omega arith)
digits_by most n false e h = refl

digits_more : (most n : ℕ) → 0 < n → digits_within (suc most) n ≡ suc (digits_within most (n / 2))
digits_more most n h = digits_by most n (n == 0) refl h

no_digits : (most : ℕ) → digits_within most 0 ≡ 0
no_digits zero = refl
no_digits (suc most) = refl

pub halved_first : (size : ℕ) → size < 2 ^ 32 → IsHalved size 0 size
halved_first size h = record { all = omega arith; small = h; high = omega arith }

lower : (digits rest : ℕ) → digits ≤ 32 → rest < 2 ^ (32 - digits) → 0 < rest → digits < 32
lower digits rest h small some = by_rest (32 - digits) refl
  where
    by_rest : (k : ℕ) → 32 - digits ≡ k → digits < 32
    by_rest zero e = absurd (let one : rest < 2 ^ 0 = omega (arith, ap (λ n. 2 ^ n) e) in omega arith)
    by_rest (suc k) e = omega arith

pub halved_more : (size digits rest : ℕ) → IsHalved size digits rest → 0 < rest → IsHalved size (digits + 1) (rest / 2)
halved_more size digits rest halved some =
    let low = lower digits rest halved.high halved.small some in
    let step : 32 - digits ≡ suc (32 - (digits + 1)) = omega arith in
    let now : digits_within (32 - digits) rest ≡ suc (digits_within (32 - (digits + 1)) (rest / 2)) = ap (λ n. digits_within n rest) step ∙ digits_more (32 - (digits + 1)) rest some in
    let twice = ap (λ n. 2 ^ n) step ∙ pow-succ' 2 (32 - (digits + 1)) in
    record { all = omega (arith, halved.all); small = omega (arith, halved.small); high = omega arith }

pub halved_high : (size digits rest : ℕ) → IsHalved size digits rest → 0 < rest → digits < 32
halved_high size digits rest halved some = lower digits rest halved.high halved.small some

pub halved_last : (size digits rest : ℕ) → IsHalved size digits rest → rest ≤ 0 → digits ≡ binary_digits size
halved_last size digits rest halved none =
    let z : rest ≡ 0 = omega arith in
    let nothing : digits_within (32 - digits) rest ≡ 0 = ap (λ n. digits_within (32 - digits) n) z ∙ no_digits (32 - digits) in
    omega (arith, halved.all)

-- a number below 2 ^ k has at most k digits
digits_few_by : (most n k : ℕ) (b : Bool) → (n == 0) ≡ b → n < 2 ^ k → ((h : ℕ) → n / 2 < 2 ^ h → digits_within most (n / 2) ≤ h) → (if b then 0 else suc (digits_within most (n / 2))) ≤ k
digits_few_by most n k true e h rest = omega arith
digits_few_by most n zero false e h rest = absurd (let some : n ≢ 0 = grind (arith, nat_tests) in omega arith)
digits_few_by most n (suc k) false e h rest = let half : n / 2 < 2 ^ k = omega (arith, pow-succ' 2 k) in omega (arith, rest k half)

digits_few : (most n k : ℕ) → n < 2 ^ k → digits_within most n ≤ k
digits_few zero n k h = omega arith
digits_few (suc most) n k h = digits_few_by most n k (n == 0) refl h (λ j half. digits_few most (n / 2) j half)

pub digits_below : (number digits : ℕ) → digits ≡ binary_digits number → (most : ℕ) → number < 2 ^ most → digits ≤ most
digits_below number digits e most h = omega (arith, digits_few 32 number most h)
