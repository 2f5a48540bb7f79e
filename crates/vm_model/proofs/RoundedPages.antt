-- Pages rounded up to a power of two.
use Rattle.std.proofs.Common.{◌≡◌, ◌≢◌, ℕ, zero, suc, ◌-◌, ◌/◌, ◌^◌, ◌<◌, ◌≤◌, Bool, true, false, ◌==◌, if◌then◌else◌, refl, pow_pos, arith}
use Rattle.std.proofs.lemmas.Bool.Decides.{nat_tests}
use Rattle.std.proofs.Math.Nat.{pow-succ', pow-le-pow_right}
use Rattle.vm_model.specs.Bits.{digits_within, binary_digits}
use Rattle.vm_model.specs.Blocks.{rounded}
use Rattle.vm_model.specs.Rules.{IsPower}

-- a number is below 2 to the power of its digits
below_by : (most n : ℕ) (b : Bool) → (n == 0) ≡ b → n < 2 ^ suc most → (n / 2 < 2 ^ most → n / 2 < 2 ^ digits_within most (n / 2)) → n < 2 ^ (if b then 0 else suc (digits_within most (n / 2)))
below_by most n true e h more = let z : n ≡ 0 = grind (arith, nat_tests) in omega arith
below_by most n false e h more =
    let half : n / 2 < 2 ^ most = omega (arith, pow-succ' 2 most) in
    let low = more half in omega (arith, pow-succ' 2 (digits_within most (n / 2)))

digits_below : (most n : ℕ) → n < 2 ^ most → n < 2 ^ digits_within most n
digits_below zero n h = h
digits_below (suc most) n h = below_by most n (n == 0) refl h (digits_below most (n / 2))

-- and a number below a power has no more digits
few_by : (most n k : ℕ) (b : Bool) → (n == 0) ≡ b → n < 2 ^ k → ((j : ℕ) → n / 2 < 2 ^ j → digits_within most (n / 2) ≤ j) → (if b then 0 else suc (digits_within most (n / 2))) ≤ k
few_by most n k true e h more = omega arith
few_by most n zero false e h more = absurd (let one : n ≢ 0 = (λ z. (let t : (n == 0) ≡ true = grind (arith, nat_tests) in cc)) in one (omega arith))
few_by most n (suc k) false e h more = let low = more k (omega (arith, pow-succ' 2 k)) in omega arith

digits_few : (most n k : ℕ) → n < 2 ^ k → digits_within most n ≤ k
digits_few zero n k h = omega arith
digits_few (suc most) n k h = few_by most n k (n == 0) refl h (digits_few most (n / 2))

raised : (i j : ℕ) → i ≤ j → 2 ^ i ≤ 2 ^ j
raised i j h = let two : 0 < 2 = omega arith in pow-le-pow_right {n = 2} two {i = i} {j = j} h

pub rounded_low : (pages : ℕ) → pages ≤ 2 ^ 32 → pages ≤ rounded pages
rounded_low pages h = let low : pages - 1 < 2 ^ binary_digits (pages - 1) = digits_below 32 (pages - 1) (omega arith) in omega arith

pub rounded_high : (pages limit : ℕ) → IsPower limit → pages ≤ limit → rounded pages ≤ limit
rounded_high pages limit power high =
    let few = digits_few 32 (pages - 1) power.0 (omega (arith, power.1, pow_pos power.0)) in
    omega (arith, raised (binary_digits (pages - 1)) power.0 few, power.1)

pub rounded_some : (pages : ℕ) → 1 ≤ rounded pages
rounded_some pages = let z : 0 ≤ binary_digits (pages - 1) = omega arith in omega (arith, raised 0 (binary_digits (pages - 1)) z)
