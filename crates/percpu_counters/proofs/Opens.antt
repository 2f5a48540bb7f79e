-- The rule holds of the first pass.
use Rattle.std.proofs.Common.{◌≤◌, ◌≡◌, ◌≢◌, ℕ, zero, suc, ◌+◌, List, [], ◌∷◌, length, get_or, replicate, pos, refl, ap, sym, ◌∙◌, subst, arith, None, w64}
use Rattle.std.specs.Prelude.{nat_abs}
use Rattle.std.specs.Int.{cast_signed}
use Rattle.std.proofs.lemmas.List.{length-replicate}
use mathlib.Core.Option.{some, some-injective, some-ne-none}
use lib.ListN.{get_elem?}
use Rattle.atomic_table.specs.Table.{opening}
use Rattle.percpu_counters.specs.declared.table.Shape.{Shape}
use Rattle.percpu_counters.specs.declared.table.Tally.{Tally}
use Rattle.percpu_counters.specs.CounterRule.{Kept, IsAlone, AmountsFit, starting, word_count, row_of, cell_of, row_sum}
use Rattle.percpu_counters.specs.Passes.{AreExact}

zero_word : (n i : ℕ) → get_or {A = ℕ} (replicate n 0) i 0 ≡ 0
zero_word zero i = refl
zero_word (suc n) zero = refl
zero_word (suc n) (suc i) = zero_word n i

zero_row : (n i m : ℕ) → row_sum (replicate n 0) i m ≡ 0
zero_row n i zero = refl
zero_row n i (suc m) = let e = zero_word n i in let f = zero_row n (i + 1) m in omega arith

only_hand : (s : Shape) (j : ℕ) (v : Tally) → get_elem? (starting s ∷ []) j ≡ some v → v.adds ≡ [] → v.hand ≡ None
only_hand s zero v at none = ap (λ (u : Tally). u.hand) (sym (some-injective (starting s) v at))
only_hand s (suc j) v at none = absurd (some-ne-none v (sym at))

only_small : (s : Shape) (j : ℕ) (v : Tally) → get_elem? (starting s ∷ []) j ≡ some v → AmountsFit v.adds
only_small s zero v at = subst (λ (u : Tally). AmountsFit u.adds) (some-injective (starting s) v at) tt
only_small s (suc j) v at = absurd (some-ne-none v (sym at))

only_alone : (s : Shape) (words : List ℕ) → words ≡ replicate (word_count s) 0 → (j : ℕ) (v : Tally) → get_elem? (starting s ∷ []) j ≡ some v → IsAlone (opening {S = Unit {0}} words [] (starting s)) j v
only_alone s words is zero v at = record {
  words = is ∙ ap (λ (u : Tally). u.words) (some-injective (starting s) v at);
  others = λ i w here apart. absurd (no_other i w here apart);
}
  where
    no_other : (i : ℕ) (w : Tally) → get_elem? (starting s ∷ []) i ≡ some w → i ≢ 0 → ⊥
    no_other zero w here apart = apart refl
    no_other (suc i) w here apart = some-ne-none w (sym here)
only_alone s words is (suc j) v at = absurd (some-ne-none v (sym at))

pub opens : (s : Shape) (words : List ℕ) → words ≡ replicate (word_count s) 0 → s.adds ≤ 100000 → Kept s (opening {S = Unit {0}} words [] (starting s))
opens s words is few = record {
  wide = ap length is ∙ length-replicate {A = ℕ} (word_count s) 0;
  sums = λ k below. (0, 0, (let e = ap (λ (ws : List ℕ). row_sum ws (row_of s k) (s.cpus + 1)) is ∙ zero_row (word_count s) (row_of s k) (s.cpus + 1) in omega arith));
  rooms = omega arith;
  few = few;
  hands = only_hand s;
  small = only_small s;
  alone = λ j v at alone. only_alone s words is j v at;
}

zero_cell : (n i : ℕ) → get_or (replicate n (pos 0)) i (pos 0) ≡ pos 0
zero_cell zero i = refl
zero_cell (suc n) zero = refl
zero_cell (suc n) (suc i) = zero_cell n i

pub exact_first : (s : Shape) → AreExact s [] (replicate (word_count s) 0)
exact_first s counter below = record {
  count = ap (cast_signed w64) (zero_word (word_count s) (row_of s counter));
  cells = λ cpu within. ap (cast_signed w64) (zero_word (word_count s) (cell_of s counter cpu)) ∙ sym (zero_cell s.cpus cpu);
  wide = length-replicate s.cpus (pos 0);
  small_count = omega arith;
  small_cells = λ cpu. let e = ap nat_abs (zero_cell s.cpus cpu) in omega arith;
}
