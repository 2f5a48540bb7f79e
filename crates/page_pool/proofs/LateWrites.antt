-- Lists of which the first so many elements were written.
use Rattle.std.proofs.Common.{◌≡◌, ℕ, zero, suc, ◌-◌, ◌<◌, ◌≤◌, List, [], ◌∷◌, ◌++◌, length, replicate, get_or, refl, ap, ◌∙◌, arith}
use Rattle.std.proofs.lemmas.List.{length-append, length-replicate}
use Rattle.page_pool.specs.Late.{with_blanks}

pub length-with_blanks : {X : Type 0} (blank : X) (written : List X) (n : ℕ) → length written ≤ n → length (with_blanks blank written n) ≡ n
length-with_blanks blank written n h = omega (arith, length-append written (replicate (n - length written) blank), length-replicate (n - length written) blank)

-- what is read where it was written, and behind

pub read_before : {X : Type 0} (xs ys : List X) (k : ℕ) (x : X) → k < length xs → get_or (xs ++ ys) k x ≡ get_or xs k x
read_before [] ys k x h = absurd (omega arith)
read_before (y ∷ xs) ys zero x h = refl
read_before (y ∷ xs) ys (suc k) x h = read_before xs ys k x (omega arith)

pub read_behind : {X : Type 0} (blank : X) (written : List X) (n place : ℕ) → length written ≤ place → get_or (with_blanks blank written n) place blank ≡ blank
read_behind blank [] n place from = in_blanks blank (n - 0) place
  where
    in_blanks : {X : Type 0} (blank : X) (n k : ℕ) → get_or (replicate n blank) k blank ≡ blank
    in_blanks blank zero k = refl
    in_blanks blank (suc n) zero = refl
    in_blanks blank (suc n) (suc k) = in_blanks blank n k
read_behind blank (y ∷ written) n zero from = absurd (omega arith)
read_behind blank (y ∷ written) n (suc place) from = ap (λ k. get_or (written ++ replicate k blank) place blank) (let e : n - suc (length written) ≡ n - 1 - length written = omega arith in e) ∙ read_behind blank written (n - 1) place (omega arith)
