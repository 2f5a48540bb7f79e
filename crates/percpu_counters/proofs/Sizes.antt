-- How large signed numbers are.
use Rattle.std.proofs.Common.{◌≡◌, ℕ, ◌+◌, ◌%◌, ◌^◌, ◌<◌, ◌≤◌, ℤ, pos, negsuc, ◌+ℤ◌, FitsSigned, w64, w32, of_z, ap, sym, ◌∙◌, arith}
use Rattle.std.specs.Prelude.{nat_abs}
use Rattle.std.specs.Int.{cast_signed, cast_unsigned, int_wrap}
use Rattle.std.proofs.lemmas.Int.{ints, to_z-of_z, wrapping_add_onto, wrapping_add-bits, int_wrap_fits}

pub nat_abs-add : (x y : ℤ) → nat_abs (x +ℤ y) ≤ nat_abs x + nat_abs y
nat_abs-add x y = omega (arith, ints)

pub fits_small : (z : ℤ) → nat_abs z < 9223372036854775808 → FitsSigned w64 z
fits_small (pos n) h = record { sfits = h }
fits_small (negsuc n) h = record { sfits = omega arith }

pub small_amount : (z : ℤ) → FitsSigned w32 z → nat_abs z ≤ 2147483648
small_amount (pos n) f = omega arith
small_amount (negsuc n) f = omega arith

-- a word after an add, read as a signed number
pub cast_signed-add : (n : ℕ) (z amount : ℤ) → n < 18446744073709551616 → cast_signed w64 n ≡ z → FitsSigned w64 amount → FitsSigned w64 (z +ℤ amount) → cast_signed w64 ((n + cast_unsigned w64 amount) % 2 ^ 64) ≡ z +ℤ amount
cast_signed-add n z amount low is fits whole = wrapping_add_onto w64 n amount low fits ∙ ap (λ (x : ℤ). int_wrap w64 (x +ℤ amount)) is ∙ int_wrap_fits w64 (z +ℤ amount) whole

pub cast_signed-sum : (n m : ℕ) (y z : ℤ) → n < 18446744073709551616 → m < 18446744073709551616 → cast_signed w64 n ≡ y → cast_signed w64 m ≡ z → FitsSigned w64 (y +ℤ z) → cast_signed w64 ((n + m) % 2 ^ 64) ≡ y +ℤ z
cast_signed-sum n m y z low low' is is' whole =
    wrapping_add-bits w64 n m low low' ∙ ap (λ (x : ℤ). int_wrap w64 (x +ℤ cast_signed w64 m)) is ∙ ap (λ (x : ℤ). int_wrap w64 (y +ℤ x)) is' ∙ int_wrap_fits w64 (y +ℤ z) whole

-- the size of a word after an add, as it is tested
pub tested : (size n more bits : ℕ) (v : ℤ) → size ≡ nat_abs (cast_signed w64 (of_z w64 v)) → v ≡ cast_signed w64 ((n + more) % 2 ^ 64) → bits ≡ more → FitsSigned w64 v → size ≡ nat_abs (cast_signed w64 ((n + bits) % 2 ^ 64))
tested size n more bits v is read same fits = is ∙ ap nat_abs (to_z-of_z w64 v fits ∙ read) ∙ ap (λ (k : ℕ). nat_abs (cast_signed w64 ((n + k) % 2 ^ 64))) (sym same)
