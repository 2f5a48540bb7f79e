-- The last of a queue.
use Rattle.std.proofs.Common.{◌≡◌, ◌∙◌, ◌<◌, ◌-◌, ℕ, List, [], ◌∷◌, length, get_or, refl, ap, sym, arith, Option, Some, None, IsSome, Bor, true, false}
use Rattle.std.specs.Prelude.{is_some, nat_lt, IfSome}
use Rattle.std.specs.List.{last_or}
use Rattle.std.specs.Option.{option_copied}

last_last : (xs : List ℕ) (y d : ℕ) → last_or (Some y) xs ≡ Some (get_or (y ∷ xs) (length xs) d)
last_last [] y d = refl
last_last (x ∷ xs) y d = last_last xs x d

pub newest_is : (xs : List ℕ) (n : ℕ) (r : Option (Bor ℕ)) → n ≡ length xs → is_some r ≡ nat_lt 0 (length xs) → (0 < length xs → IsSome r) → IfSome r (λ x. x.now ≡ get_or xs (n - 1) x.now) → option_copied r ≡ last_or None xs
newest_is [] n None e b h v = refl
newest_is [] n (Some x) e b h v = cc
newest_is (y ∷ ys) n None e b h v = let some : false ≡ true = h (omega arith) in cc
newest_is (y ∷ ys) n (Some x) e b h v = let last : n - 1 ≡ length ys = omega arith in ap Some (v ∙ ap (λ i. get_or (y ∷ ys) i x.now) last) ∙ sym (last_last ys y x.now)
