-- A power of two up to a bound, by the bits that are set.
use Rattle.std.proofs.Common.{◌≡◌, ℕ, zero, suc, ◌+◌, ◌*◌, ◌/◌, ◌%◌, ◌^◌, ◌<◌, ◌≤◌, ◌⊎◌, inl, inr, Bool, true, false, ◌&&◌, ◌||◌, ◌==◌, nat_le, refl, sym, ap, ◌∙◌, pow_pos, arith}
use Rattle.std.proofs.lemmas.Bool.Decides.{nat_tests}
use Rattle.std.proofs.lemmas.Nat.{zero_from_ones, ones_le_self}
use Rattle.std.proofs.Math.Pow.{pow-lt}
use Rattle.std.specs.Prelude.{count_ones}
use Rattle.std.specs.Int.{is_power_of_two}
use Rattle.std.specs.List.{list_any}
use lib.Count.{ones, ones_in, ones_step, ones_cat}
use native.Mathlib.Nat.{pow-suc}
use Rattle.vm_model.specs.Space.{count_from}
use Rattle.vm_model.specs.Calls.{is_power_to}

-- a number with one bit set is a power of two
halves : (n k : ℕ) → n % 2 ≡ 0 → n / 2 ≡ 2 ^ k → n ≡ 2 ^ suc k
halves n k even half = let twice : 2 ^ suc k ≡ 2 ^ k * 2 = pow-suc 2 k in omega arith

half_below : (n fuel : ℕ) → n < 2 ^ suc fuel → n / 2 < 2 ^ fuel
half_below n fuel h = let twice : 2 ^ suc fuel ≡ 2 ^ fuel * 2 = pow-suc 2 fuel in omega arith

lowest_bit : (n : ℕ) → (n % 2 ≡ 0) ⊎ (n % 2 ≡ 1)
lowest_bit n = grind arith

pub power_with : (fuel n : ℕ) → n < 2 ^ fuel → count_ones n ≡ 1 → (k : ℕ) × (k < fuel) × (n ≡ 2 ^ k)
power_with zero n h e = let none : n ≡ 0 = omega arith in absurd (omega (arith, ones_le_self n))
power_with (suc fuel) n h e =
    elim (lowest_bit n) [
      | inl even ↦
          let (k, low, is) = power_with fuel (n / 2) (half_below n fuel h) (omega (arith, ones_step n)) in
          (suc k, omega arith, halves n k even is)
      | inr odd ↦
          let none : n / 2 ≡ 0 = zero_from_ones (n / 2) (omega (arith, ones_step n)) in
          (0, omega arith, omega arith)
    ]

one_bit : count_ones 1 + count_ones 0 ≡ 1
unfolding ones ones_in
one_bit = refl

pub ones-power : (k : ℕ) → count_ones (2 ^ k) ≡ 1
ones-power k = let same : 2 ^ k ≡ 1 * 2 ^ k + 0 = omega arith in ap count_ones same ∙ ones_cat k 1 0 (pow_pos k) ∙ one_bit

-- a test that one of some numbers in a row passes
any_at : (p : ℕ → Bool) (n first k : ℕ) → first ≤ k → k < first + n → p k ≡ true → list_any p (count_from n first) ≡ true
any_at p zero first k a b h = absurd (omega arith)
any_at p (suc n) first k a b h = any_by p n first k (first == k) refl a b h (any_at p n (suc first) k)
  where
    any_by : (p : ℕ → Bool) (n first k : ℕ) (b : Bool) → (first == k) ≡ b → first ≤ k → k < first + suc n → p k ≡ true
        → (suc first ≤ k → k < suc first + n → p k ≡ true → list_any p (count_from n (suc first)) ≡ true) → (p first || list_any p (count_from n (suc first))) ≡ true
    any_by p n first k true e a l h more = let same : first ≡ k = grind (arith, nat_tests) in let here : p first ≡ true = ap p same ∙ h in grind arith
    any_by p n first k false e a l h more = let later : suc first ≤ k = grind (arith, nat_tests) in let rest = more later (omega arith) h in grind arith

any_is : (p : ℕ → Bool) (n first : ℕ) → list_any p (count_from n first) ≡ true → (k : ℕ) × (k < first + n) × (p k ≡ true)
any_is p zero first h = cc
any_is p (suc n) first h = any_from p n first (p first) refl h (any_is p n (suc first))
  where
    any_from : (p : ℕ → Bool) (n first : ℕ) (b : Bool) → p first ≡ b → (p first || list_any p (count_from n (suc first))) ≡ true
        → (list_any p (count_from n (suc first)) ≡ true → (k : ℕ) × (k < suc first + n) × (p k ≡ true)) → (k : ℕ) × (k < first + suc n) × (p k ≡ true)
    any_from p n first true e h more = (first, omega arith, e)
    any_from p n first false e h more = let rest : list_any p (count_from n (suc first)) ≡ true = grind arith in let (k, l, is) = more rest in (k, omega arith, is)

same_tests : (a b : Bool) → (a ≡ true → b ≡ true) → (b ≡ true → a ≡ true) → a ≡ b
same_tests true b f g = sym (f refl)
same_tests false true f g = g refl
same_tests false false f g = refl

pow_at_most : (k most : ℕ) → k ≤ most → 2 ^ k ≤ 2 ^ most
pow_at_most k most h = pow_by k most (k == most) refl h
  where
    pow_by : (k most : ℕ) (b : Bool) → (k == most) ≡ b → k ≤ most → 2 ^ k ≤ 2 ^ most
    pow_by k most true e h = let same : k ≡ most = grind (arith, nat_tests) in omega (arith, ap (λ n. 2 ^ n) same)
    pow_by k most false e h = let below : k < most = grind (arith, nat_tests) in omega (arith, pow-lt below)

pub is_power_to-bits : (most n : ℕ) → is_power_to most n ≡ (is_power_of_two n && nat_le n (2 ^ most))
is_power_to-bits most n = same_tests _ _ down up
  where
    down : is_power_to most n ≡ true → (is_power_of_two n && nat_le n (2 ^ most)) ≡ true
    down h =
        let (k, l, is) = any_is (λ power. 2 ^ power == n) (suc most) 0 h in
        let same : 2 ^ k ≡ n = grind (arith, nat_tests) in
        let one : count_ones n ≡ 1 = sym (ap count_ones same) ∙ ones-power k in
        let low = pow_at_most k most (omega arith) in
        grind (arith, nat_tests)

    up : (is_power_of_two n && nat_le n (2 ^ most)) ≡ true → is_power_to most n ≡ true
    up h =
        let one : count_ones n ≡ 1 = grind (arith, nat_tests) in
        let low : n ≤ 2 ^ most = grind (arith, nat_tests) in
        let twice : 2 ^ suc most ≡ 2 ^ most * 2 = pow-suc 2 most in
        let (k, l, is) = power_with (suc most) n (omega (arith, pow_pos most)) one in
        any_at (λ power. 2 ^ power == n) (suc most) 0 k (omega arith) (omega arith) (grind (arith, nat_tests))
