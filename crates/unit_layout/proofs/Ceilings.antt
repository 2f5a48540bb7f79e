-- Numbers divided and rounded up.
use Rattle.std.proofs.Common.{◌≡◌, ℕ, zero, suc, ◌+◌, ◌*◌, ◌/◌, ◌^◌, ◌<◌, ◌≤◌, List, refl, sym, subst, arith}
use Rattle.std.proofs.Math.Nat.{mul-le-mul_right, mul-le-mul_left, lt_of_mul-lt-mul_right, div-le_of_le-mul}
use Rattle.std.proofs.Math.Pow.{pow_mono}
use Rattle.std.proofs.lemmas.Grind.{div_ceil_times}
use Rattle.std.proofs.lemmas.List.Sums.{sum_by-le-sum_by}
use Rattle.std.specs.Int.{div_ceil}
use Rattle.vm_model.specs.Rules.{IsPower}
use Rattle.unit_layout.specs.declared.request.GroupSpec.{GroupSpec}
use Rattle.unit_layout.specs.LayoutRule.{processors, allocations, allocation}

-- a multiple that holds the number bounds it
pub div_ceil-le : (n k m : ℕ) → 0 < k → n ≤ m * k → div_ceil n k ≤ m
div_ceil-le n k m pos h =
    let t : div_ceil n k * k < n + k = (div_ceil_times n k pos).1 in
    let e : div_ceil n k * k < (m + 1) * k = omega (arith) in
    let r : div_ceil n k < m + 1 = lt_of_mul-lt-mul_right k e in
    omega arith

pub div_ceil-le_self : (n k : ℕ) → div_ceil n k ≤ n
div_ceil-le_self n zero = omega arith
div_ceil-le_self n (suc k) =
    let h : n * 1 ≤ n * suc k = mul-le-mul_left n (omega arith) in
    div_ceil-le n (suc k) n (omega arith) (omega arith)

pub allocations_few : (groups : List GroupSpec) (k : ℕ) → allocations groups k ≤ processors groups
allocations_few groups k = sum_by-le-sum_by (λ (g : GroupSpec). div_ceil g.cpus k) (λ (g : GroupSpec). g.cpus) groups (λ g. div_ceil-le_self g.cpus k)

power_parts : (order : ℕ) → 2 ^ order ≤ 64 → (m : ℕ) × (m * 2 ^ order ≡ 64)
power_parts zero h = (64, refl)
power_parts (suc zero) h = (32, refl)
power_parts (suc (suc zero)) h = (16, refl)
power_parts (suc (suc (suc zero))) h = (8, refl)
power_parts (suc (suc (suc (suc zero)))) h = (4, refl)
power_parts (suc (suc (suc (suc (suc zero))))) h = (2, refl)
power_parts (suc (suc (suc (suc (suc (suc zero)))))) h = (1, refl)
power_parts (suc (suc (suc (suc (suc (suc (suc order))))))) h =
    let low : 7 ≤ suc (suc (suc (suc (suc (suc (suc order)))))) = omega arith in
    let big : 2 ^ 7 ≤ 2 ^ suc (suc (suc (suc (suc (suc (suc order)))))) = pow_mono low in
    absurd (omega arith)

-- 64 is a multiple of each power of two up to it
pub divides_64 : (atom : ℕ) → IsPower atom → atom ≤ 64 → (m : ℕ) × (m * atom ≡ 64)
divides_64 atom p h =
    let q = power_parts p.0 (subst (λ (a : ℕ). a ≤ 64) p.1 h) in
    (q.0, subst (λ (a : ℕ). q.0 * a ≡ 64) (sym p.1) q.1)

pub power_pos : (atom : ℕ) → IsPower atom → 1 ≤ atom
power_pos atom p =
    let low : 2 ^ 0 ≤ 2 ^ p.0 = pow_mono {i = 0} (omega arith) in
    subst (λ (a : ℕ). 1 ≤ a) (sym p.1) low

pub allocation_high : (unit atom : ℕ) → unit ≤ 64 → IsPower atom → atom ≤ 64 → allocation unit atom ≤ 64
allocation_high unit atom u p h =
    let q = divides_64 atom p h in
    let e : div_ceil unit atom ≤ q.0 = div_ceil-le unit atom q.0 (power_pos atom p) (omega arith) in
    let m : div_ceil unit atom * atom ≤ q.0 * atom = mul-le-mul_right atom e in
    omega arith

pub few_units : (pages unit : ℕ) → pages ≤ 64 → 8 ≤ unit → pages / unit ≤ 8
few_units pages unit h low =
    let m : 8 * 8 ≤ unit * 8 = mul-le-mul_right 8 low in
    div-le_of_le-mul unit (omega arith)

pub div_ceil-one : (n : ℕ) → div_ceil n 1 ≡ n
div_ceil-one n = omega arith

pub allocations_one : (groups : List GroupSpec) → allocations groups 1 ≡ processors groups
allocations_one groups =
    let low : processors groups ≤ allocations groups 1 = sum_by-le-sum_by (λ (g : GroupSpec). g.cpus) (λ (g : GroupSpec). div_ceil g.cpus 1) groups (λ g. let e = div_ceil-one g.cpus in omega arith) in
    let high = allocations_few groups 1 in
    omega arith
