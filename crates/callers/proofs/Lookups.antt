-- What a slice's `get` finds.
use Rattle.std.proofs.Common.{◌≡◌, ℕ, true, false, nat_lt, List, length, get_or, slice_get, Some, None, sym, refl, arith}
use Rattle.std.proofs.lemmas.Option.{slice_get_read, slice_get_past}
use Rattle.std.proofs.lemmas.Bool.Decides.{nat_tests}

pub found_at : {X : Type 0} (xs : List X) (i : ℕ) (x : X) → true ≡ nat_lt i (length xs) → x ≡ get_or xs i x → slice_get xs i ≡ Some x
found_at xs i x h e = let inside : nat_lt i (length xs) ≡ true = sym h in slice_get_read xs (length xs) i x refl (grind (arith, nat_tests)) e

pub none_at : {X : Type 0} (xs : List X) (i : ℕ) → false ≡ nat_lt i (length xs) → slice_get xs i ≡ None
none_at xs i h = let outside : nat_lt i (length xs) ≡ false = sym h in slice_get_past xs i (grind (arith, nat_tests))
