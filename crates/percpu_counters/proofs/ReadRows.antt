-- Words and rows that are read one by one.
use Rattle.std.proofs.Common.{◌≡◌, ℕ, zero, suc, ◌+◌, ◌%◌, List, [], ◌∷◌, ◌++◌, get_or, take, map, ap, sym, ◌∙◌, arith}
use Rattle.std.specs.List.{range_with_len}
use Rattle.std.proofs.lemmas.List.FromFn.{map-range_with_len_more}
use mathlib.Core.Option.{some, some-injective, some-ne-none}
use lib.ListN.{get_elem?}
use Rattle.percpu_counters.specs.CounterRule.{row_sum}

pub take_at : (l : List ℕ) (i x : ℕ) → get_elem? l i ≡ some x → take (i + 1) l ≡ take i l ++ x ∷ []
take_at [] i x at = absurd (some-ne-none x (sym at))
take_at (y ∷ l) zero x at = ap (λ (z : ℕ). z ∷ []) (some-injective y x at)
take_at (y ∷ l) (suc i) x at =
    ap (λ (n : ℕ). take n (y ∷ l)) (let e : suc i + 1 ≡ suc (i + 1) = omega arith in e) ∙ ap (λ (zs : List ℕ). y ∷ zs) (take_at l i x at)

pub map_more : {X : Type 0} (f : ℕ → X) (n : ℕ) (items new : List X) (x : X) → items ≡ map f (range_with_len 0 n) → new ≡ items ++ x ∷ [] → x ≡ f n → new ≡ map f (range_with_len 0 (n + 1))
map_more f n items new x is more here = more ∙ ap (λ ys. ys ++ x ∷ []) is ∙ ap (λ y. map f (range_with_len 0 n) ++ y ∷ []) here ∙ sym (map-range_with_len_more f 0 n n (let e : 0 + n ≡ n = omega arith in e))

pub row_sum-more : (words : List ℕ) (first n : ℕ) → row_sum words first (n + 1) ≡ row_sum words first n + get_or words (first + n) 0
row_sum-more words first zero = ap (λ (i : ℕ). get_or words i 0 + 0) (let e : first ≡ first + 0 = omega arith in e) ∙ (let e : get_or words (first + 0) 0 + 0 ≡ 0 + get_or words (first + 0) 0 = omega arith in e)
row_sum-more words first (suc n) =
    let rest = row_sum-more words (first + 1) n in
    let at : get_or words (first + 1 + n) 0 ≡ get_or words (first + suc n) 0 = ap (λ (i : ℕ). get_or words i 0) (let e : first + 1 + n ≡ first + suc n = omega arith in e) in
    ap (row_sum words first) (let e : suc n + 1 ≡ suc (n + 1) = omega arith in e) ∙ (let e : get_or words first 0 + row_sum words (first + 1) (n + 1) ≡ get_or words first 0 + row_sum words (first + 1) n + get_or words (first + suc n) 0 = omega arith in e)

-- the sum of a row, up to a multiple of 2^64, and one word more
pub total_more : (words : List ℕ) (first cpu so_far word : ℕ) → so_far ≡ row_sum words first (cpu + 1) % 18446744073709551616 → word ≡ get_or words (first + 1 + cpu) 0
    → (so_far + word) % 18446744073709551616 ≡ row_sum words first (cpu + 1 + 1) % 18446744073709551616
total_more words first cpu so_far word is here =
    let more = row_sum-more words first (cpu + 1) in
    let at : get_or words (first + 1 + cpu) 0 ≡ get_or words (first + (cpu + 1)) 0 = ap (λ (i : ℕ). get_or words i 0) (let e : first + 1 + cpu ≡ first + (cpu + 1) = omega arith in e) in
    omega arith
