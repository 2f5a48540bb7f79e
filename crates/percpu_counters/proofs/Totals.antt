-- What the words tell of the adds, where one pass has them all.
use Rattle.std.proofs.Common.{◌≡◌, ℕ, zero, suc, ◌+◌, ◌*◌, ◌%◌, ◌<◌, ◌≤◌, Bool, true, false, cond, eqb, List, [], ◌∷◌, length, get_or, map, ℤ, pos, ◌+ℤ◌, FitsSigned, w64, w32, refl, ap, sym, ◌∙◌, subst, arith, None, if◌then◌else◌, Result, Ok, Err, IfOk}
use Rattle.std.specs.Prelude.{nat_abs}
use Rattle.std.specs.Int.{cast_signed}
use Rattle.std.specs.List.{range_with_len}
use Rattle.std.proofs.lemmas.Int.{ints}
use mathlib.Core.Option.{some, some-injective, some-ne-none}
use lib.ListN.{get_elem?}
use Rattle.atomic_table.specs.Table.{State, Final, Seen}
use Rattle.vm_model.specs.declared.calls.CountLine.{CountLine}
use Rattle.vm_model.specs.declared.rows.CounterRow.{CounterRow}
use Rattle.report_text.specs.CounterTotals.{total, lines_of, counter_row}
use Rattle.percpu_counters.specs.declared.table.Shape.{Shape}
use Rattle.percpu_counters.specs.declared.table.Tally.{Tally}
use Rattle.percpu_counters.specs.CounterRule.{Kept, IsAlike, AmountsFit, sum_over, given_to, recorded, hand_to, in_hand, row_sum, row_of, bits_of}
use Rattle.percpu_counters.specs.Passes.{AreExact, IsRowOf, cells_after}
use Rattle.percpu_counters.specs.RowsFromWords.{row_at, rows_in, totals_of, exact_rows}
use Rattle.percpu_counters.proofs.Sizes.{nat_abs-add, fits_small, small_amount, cast_signed-add}

-- One pass has all.

module _ {V : Type 0} (g f : V → ℕ) where
  at_most : (vs : List V) (i : ℕ) (v : V) → get_elem? vs i ≡ some v → g v ≤ sum_over g vs
  at_most [] i v at = absurd (some-ne-none v (sym at))
  at_most (u ∷ us) zero v at = let e = ap g (some-injective u v at) in omega arith
  at_most (u ∷ us) (suc i) v at = let e = at_most us i v at in omega arith

  none_left : (vs : List V) → sum_over g vs ≡ 0 → ((j : ℕ) (u : V) → get_elem? vs j ≡ some u → g u ≡ 0 → f u ≡ 0) → sum_over f vs ≡ 0
  none_left [] none h = refl
  none_left (u ∷ us) none h =
      let here = h 0 u refl (let e : g u ≡ 0 = omega arith in e) in
      let rest = none_left us (omega arith) (λ j w at. h (suc j) w at) in
      omega arith

  only_one : (vs : List V) (i : ℕ) (v : V) → get_elem? vs i ≡ some v → sum_over g vs ≡ g v → ((j : ℕ) (u : V) → get_elem? vs j ≡ some u → g u ≡ 0 → f u ≡ 0) → sum_over f vs ≡ f v
  only_one [] i v at all h = absurd (some-ne-none v (sym at))
  only_one (u ∷ us) zero v at all h =
      let same = ap g (some-injective u v at) in
      let rest = none_left us (omega arith) (λ j w there. h (suc j) w there) in
      let here = ap f (some-injective u v at) in
      omega arith
  only_one (u ∷ us) (suc i) v at all h =
      let most = at_most us i v at in
      let here = h 0 u refl (let e : g u ≡ 0 = omega arith in e) in
      let rest = only_one us i v at (omega arith) (λ j w there. h (suc j) w there) in
      omega arith

no_adds : (adds : List CountLine) → length adds ≡ 0 → adds ≡ []
no_adds [] none = refl
no_adds (a ∷ adds) none = absurd (omega arith)

mods_alike : (a b : ℕ) → IsAlike a b → a % 18446744073709551616 ≡ b % 18446744073709551616
mods_alike a b same = let e = same.2 in omega arith

module _ (s : Shape) (t : State (Unit {0}) Tally) (now : Kept s t) (id : ℕ) (v : Tally) (at : get_elem? t.views id ≡ some v) (all : length v.adds + v.room ≡ s.adds) (empty : v.hand ≡ None) where
  idle_adds : (j : ℕ) (u : Tally) → get_elem? t.views j ≡ some u → length u.adds + u.room ≡ 0 → u.adds ≡ []
  idle_adds j u there none = no_adds u.adds (omega arith)

  all_recorded : (k : ℕ) → sum_over (recorded k) t.views ≡ recorded k v
  all_recorded k = only_one (λ (u : Tally). length u.adds + u.room) (recorded k) t.views id v at (now.rooms ∙ sym all) (λ j u there none. ap (sum_over (given_to k)) (idle_adds j u there none))

  no_hands : (k : ℕ) → sum_over (in_hand k) t.views ≡ 0
  no_hands k =
      only_one (λ (u : Tally). length u.adds + u.room) (in_hand k) t.views id v at (now.rooms ∙ sym all) (λ j u there none. ap (hand_to k) (now.hands j u there (idle_adds j u there none)))
      ∙ ap (hand_to k) empty

  pub row_is : (k : ℕ) → k < s.counters → row_sum t.words (row_of s k) (s.cpus + 1) % 18446744073709551616 ≡ recorded k v % 18446744073709551616
  row_is k below =
      let hands = no_hands k in
      ap (λ (n : ℕ). n % 18446744073709551616) (let e : row_sum t.words (row_of s k) (s.cpus + 1) ≡ row_sum t.words (row_of s k) (s.cpus + 1) + sum_over (in_hand k) t.views = omega arith in e)
      ∙ mods_alike _ _ (now.sums k below) ∙ ap (λ (n : ℕ). n % 18446744073709551616) (all_recorded k)

-- The sum of the amounts.

pub record IsSummed (k : ℕ) (adds : List CountLine) : Type 0 where
  pub sum : cast_signed w64 (sum_over (given_to k) adds % 18446744073709551616) ≡ total (lines_of k adds)
  pub small : nat_abs (total (lines_of k adds)) ≤ 2147483648 * length adds

summed_one : (k : ℕ) (a : CountLine) (adds : List CountLine) (b : Bool) → eqb a.counter k ≡ b → FitsSigned w32 a.amount → length adds < 100000 → IsSummed k adds → IsSummed k (a ∷ adds)
summed_one k a adds true e fits few rest =
    let T = total (lines_of k adds) in
    let R = sum_over (given_to k) adds in
    let size = nat_abs-add a.amount T in
    let amount = small_amount a.amount fits in
    let lines : total (lines_of k (a ∷ adds)) ≡ a.amount +ℤ T = ap (λ (c : Bool). total (cond c (a ∷ lines_of k adds) (lines_of k adds))) e in
    let given : given_to k a ≡ bits_of a = ap (λ (c : Bool). if c then bits_of a else 0) e in
    let small : nat_abs (a.amount +ℤ T) ≤ 2147483648 * suc (length adds) = let f = rest.small in omega arith in
    let turn : a.amount +ℤ T ≡ T +ℤ a.amount = omega (arith, ints) in
    record {
      sum = ap (cast_signed w64) (let f : sum_over (given_to k) (a ∷ adds) % 18446744073709551616 ≡ (R % 18446744073709551616 + bits_of a) % 18446744073709551616 = omega arith in f)
          ∙ cast_signed-add (R % 18446744073709551616) T a.amount (omega arith) rest.sum (fits_small a.amount (omega arith)) (subst (FitsSigned w64) turn (fits_small (a.amount +ℤ T) (omega arith)))
          ∙ sym turn ∙ sym lines;
      small = subst (λ (z : ℤ). nat_abs z ≤ 2147483648 * suc (length adds)) (sym lines) small;
    }
summed_one k a adds false e fits few rest =
    let lines : total (lines_of k (a ∷ adds)) ≡ total (lines_of k adds) = ap (λ (c : Bool). total (cond c (a ∷ lines_of k adds) (lines_of k adds))) e in
    let given : given_to k a ≡ 0 = ap (λ (c : Bool). if c then bits_of a else 0) e in
    record {
      sum = ap (λ (n : ℕ). cast_signed w64 (n % 18446744073709551616)) (let f : sum_over (given_to k) (a ∷ adds) ≡ sum_over (given_to k) adds = omega arith in f) ∙ rest.sum ∙ sym lines;
      small = subst (λ (z : ℤ). nat_abs z ≤ 2147483648 * suc (length adds)) (sym lines) (let f = rest.small in omega arith);
    }

pub summed : (k : ℕ) (adds : List CountLine) → AmountsFit adds → length adds ≤ 100000 → IsSummed k adds
summed k [] fit few = record { sum = refl; small = omega arith }
summed k (a ∷ adds) fit few = summed_one k a adds _ refl fit.0 (omega arith) (summed k adds fit.1 (omega arith))

-- The rows.

map_same : {X : Type 0} (f g : ℕ → X) (n a : ℕ) → ((i : ℕ) → i < a + n → f i ≡ g i) → map f (range_with_len a n) ≡ map g (range_with_len a n)
map_same f g zero a h = refl
map_same f g (suc n) a h = ap (λ x. x ∷ map f (range_with_len (a + 1) n)) (h a (omega arith)) ∙ ap (λ xs. g a ∷ xs) (map_same f g n (a + 1) (λ i low. h i (omega arith)))

map_twice : {X Y : Type 0} (h : X → Y) (f : ℕ → X) (ks : List ℕ) → map h (map f ks) ≡ map (λ k. h (f k)) ks
map_twice h f [] = refl
map_twice h f (k ∷ ks) = ap (λ ys. h (f k) ∷ ys) (map_twice h f ks)

list_of : (f : ℕ → ℤ) (cells : List ℤ) (n a : ℕ) → length cells ≡ n → ((i : ℕ) → i < n → f (a + i) ≡ get_or cells i (pos 0)) → map f (range_with_len a n) ≡ cells
list_of f [] zero a long h = refl
list_of f [] (suc n) a long h = absurd (omega arith)
list_of f (z ∷ cells) zero a long h = absurd (omega arith)
list_of f (z ∷ cells) (suc n) a long h =
    ap (λ y. y ∷ map f (range_with_len (a + 1) n)) (ap f (let e : a ≡ a + 0 = omega arith in e) ∙ h 0 (omega arith))
    ∙ ap (λ ys. z ∷ ys) (list_of f cells n (a + 1) (omega arith) (λ i low. ap f (let e : a + 1 + i ≡ a + suc i = omega arith in e) ∙ h (suc i) (omega arith)))

abbrev row_with : ℤ → ℤ → List ℤ → CounterRow
row_with total count cells = record { total = total; count = count; cells = cells }

row_exact : (s : Shape) (words : List ℕ) (adds : List CountLine) (k : ℕ) → (row_at s.cpus words (row_of s k)).total ≡ total (lines_of k adds) → IsRowOf s k words (length adds) (cells_after s k adds) → row_at s.cpus words (row_of s k) ≡ counter_row s.cpus s.batch (lines_of k adds)
row_exact s words adds k sum row =
    let at = row_at s.cpus words (row_of s k) in
    let after = cells_after s k adds in
    ap (λ (z : ℤ). row_with z at.count at.cells) sum ∙ ap (λ (z : ℤ). row_with (total (lines_of k adds)) z at.cells) row.count
    ∙ ap (row_with (total (lines_of k adds)) after.count)
    (list_of (λ cpu. cast_signed w64 (get_or words (row_of s k + 1 + cpu) 0)) after.cells s.cpus 0 row.wide
    (λ cpu low. ap (λ (i : ℕ). cast_signed w64 (get_or words (row_of s k + 1 + i) 0)) (let e : 0 + cpu ≡ cpu = omega arith in e) ∙ row.cells cpu low))

module _ (s : Shape) (words : List ℕ) (id : ℕ) (v : Tally) (last : Final (Seen (Kept s) id v) words []) (all : length v.adds + v.room ≡ s.adds) (few : s.adds ≤ 100000) (empty : v.hand ≡ None) where
  each_total : (k : ℕ) → k < s.counters → (row_at s.cpus words (row_of s k)).total ≡ total (lines_of k v.adds)
  each_total k below =
      ap (λ (ws : List ℕ). cast_signed w64 (row_sum ws (row_of s k) (s.cpus + 1) % 18446744073709551616)) (sym last.2)
      ∙ ap (cast_signed w64) (row_is s last.0 last.1.0 id v last.1.1 all empty k below) ∙ (summed k v.adds (last.1.0.small id v last.1.1) (omega arith)).sum

  pub totals : (rows : List CounterRow) → rows ≡ rows_in s words → map (λ (r : CounterRow). r.total) rows ≡ totals_of s v.adds
  totals rows are =
      ap (map (λ (r : CounterRow). r.total)) are ∙ map_twice (λ (r : CounterRow). r.total) (λ k. row_at s.cpus words (row_of s k)) (range_with_len 0 s.counters)
      ∙ map_same (λ k. (row_at s.cpus words (row_of s k)).total) (λ k. total (lines_of k v.adds)) s.counters 0 (λ k low. each_total k (omega arith))

  pub exact : (rows : List CounterRow) → rows ≡ rows_in s words → v.alone ≡ true → AreExact s v.adds v.words → rows ≡ exact_rows s v.adds
  exact rows are alone exacts =
      let known : AreExact s v.adds words = subst (AreExact s v.adds) (sym (last.1.0.alone id v last.1.1 alone).words ∙ last.2) exacts in
      are ∙ map_same (λ k. row_at s.cpus words (row_of s k)) (λ k. counter_row s.cpus s.batch (lines_of k v.adds)) s.counters 0 (λ k low. row_exact s words v.adds k (each_total k (omega arith)) (known k (omega arith)))

pub if_ok : {V E : Type 0} (r : Result V E) (P Q : V → Type 0) → IfOk r P → ((v : V) → P v → Q v) → IfOk r Q
if_ok (Ok v) P Q p h = h v p
if_ok (Err e) P Q p h = tt
