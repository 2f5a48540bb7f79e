-- A number with one bit set is a power of two.
use Rattle.std.proofs.Common.{◌≡◌, ℕ, zero, suc, ◌*◌, ◌<◌, ◌^◌, true, arith, count_ones}
use Rattle.std.proofs.lemmas.Bool.{eqb-true}
use Rattle.std.proofs.Math.Nat.{pow-suc}
use Rattle.std.specs.Int.{is_power_of_two}
use Rattle.vm_model.specs.Rules.{IsPower}
use Rattle.vm_model.proofs.Powers.{power_with}

below_power : (n : ℕ) → n < 2 ^ n
below_power zero = omega arith
below_power (suc n) = let twice : 2 ^ suc n ≡ 2 ^ n * 2 = pow-suc 2 n in let below = below_power n in omega arith

pub power_of_two : (n : ℕ) → is_power_of_two n ≡ true → IsPower n
power_of_two n h = let (order, low, is) = power_with n n (below_power n) (eqb-true (count_ones n) 1 h) in (order, is)
