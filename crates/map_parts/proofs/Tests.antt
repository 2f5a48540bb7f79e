-- What tests on numbers tell, and tests that are joined.
use Rattle.std.proofs.Common.{◌≡◌, ◌≢◌, ℕ, ◌<◌, ◌≤◌, Bool, true, false, not, ◌&&◌, ◌||◌, ◌==◌, nat_lt, nat_le, if◌then◌else◌, refl, arith}
use Rattle.std.proofs.lemmas.Bool.Decides.{nat_tests}
use Rattle.vm_model.specs.Space.{one_if}

-- two numbers that are tested
pub is_same : (a b : ℕ) → (a == b) ≡ true → a ≡ b
is_same a b h = grind (arith, nat_tests)

pub is_equal : (a b : ℕ) → a ≡ b → (a == b) ≡ true
is_equal a b h = grind (arith, nat_tests)

pub is_other : (a b : ℕ) → a ≢ b → (a == b) ≡ false
is_other a b h = grind (arith, nat_tests)

pub le_test : (a b : ℕ) → nat_le a b ≡ true → a ≤ b
le_test a b h = grind (arith, nat_tests)

pub lt_test : (a b : ℕ) → nat_lt a b ≡ true → a < b
lt_test a b h = grind (arith, nat_tests)

-- joined tests
pub both_true : (a b : Bool) → (a && b) ≡ true → (a ≡ true) × (b ≡ true)
both_true true b h = (refl, h)
both_true false b h = absurd cc

pub and_less : (a b : Bool) → one_if (a && b) ≤ one_if b
and_less true b = omega arith
and_less false true = omega arith
and_less false false = omega arith

pub first_false : (a b : Bool) → a ≡ false → (a && b) ≡ false
first_false a b h = grind arith

pub or_first : (a b : Bool) → a ≡ true → (a || b) ≡ true
or_first a b h = grind arith

pub or_second : (a b : Bool) → b ≡ true → (a || b) ≡ true
or_second a b h = grind arith

pub not_true : (b : Bool) → not b ≡ true → b ≡ false
not_true b h = grind arith

pub one_at_most : (b : Bool) → one_if b ≤ 1
one_at_most true = let e : 1 ≤ 1 = omega arith in e
one_at_most false = let e : 0 ≤ 1 = omega arith in e

-- what holds of two values holds of the one that a test picks
pub of_two : {X : Type 0} (P : X → Type 0) (b : Bool) (x y : X) → P x → P y → P (if b then x else y)
of_two P true x y p q = p
of_two P false x y p q = q
