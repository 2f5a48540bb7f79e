-- A fold keeps the sums.
use Rattle.std.proofs.Common.{◌≡◌, ◌≢◌, ℕ, zero, suc, ◌+◌, ◌*◌, ◌/◌, ◌%◌, ◌^◌, ◌<◌, ◌≤◌, ◌⊎◌, inl, inr, Bool, List, [], ◌∷◌, length, get_or, set, refl, sym, ap, ◌∙◌, subst, arith, Option, Some, None, length-set, eq-eqb, ne_eqb, if◌then◌else◌}
use mathlib.Core.Logic.{dite}
use mathlib.Core.Option.{some, some-injective, some-ne-none}
use native.Mathlib.Decide.{ℕ_discrete, dec_le}
use lib.ListN.{get_elem?}
use Rattle.atomic_table.specs.Table.{State, Me, keeps, Allows}
use Rattle.atomic_table.proofs.Lists.{set_again}
use Rattle.vm_model.specs.declared.calls.CountLine.{CountLine}
use Rattle.percpu_counters.specs.declared.table.Shape.{Shape}
use Rattle.percpu_counters.specs.declared.table.Tally.{Tally}
use Rattle.percpu_counters.specs.CounterRule.{sum_over, row_sum, row_of, cell_of, word_count, recorded, in_hand, hand_to, amount_in, IsAlike, IsIdle, IsFound, IsFew, AmountsFit, Kept, lifted_at, settled_at}
use Rattle.percpu_counters.proofs.Alone.{still_alone, still_hands, still_small}
use Rattle.percpu_counters.proofs.Puts.{sum_over-set, row_in, row_out, further}

-- what a row loses a hand gains, or the other way round, up to a multiple of 2^64
moves_to : (r r' h h' given : ℕ) → IsAlike (r' + h') (r + h) → IsAlike (r + h) given → IsAlike (r' + h') given
moves_to r r' h h' given a b = (a.0 + b.0, b.1 + a.1, (let x = a.2 in let y = b.2 in omega arith))

module _ (s : Shape) (t : State (Unit {0}) Tally) (now : Kept s t) (id : ℕ) (v w : Tally) (at : get_elem? t.views id ≡ some v) (same_adds : w.adds ≡ v.adds) (same_room : w.room ≡ v.room) (same_alone : w.alone ≡ v.alone) (c i x : ℕ) (which : c < s.counters) (place : i < s.cpus + 1)
    (trade : (row row' hands hands' : ℕ) → row' + get_or t.words (c * (s.cpus + 1) + i) 0 ≡ row + x → hands' + in_hand c v ≡ hands + in_hand c w → IsAlike (row' + hands') (row + hands))
    (apart : (k : ℕ) → k ≢ c → in_hand k w ≡ in_hand k v) (knows : w.words ≡ set v.words (c * (s.cpus + 1) + i) x) (busy : IsIdle v → ⊥) (hands_mine : w.adds ≡ [] → w.hand ≡ None) where
  abbrev n : ℕ
  n = s.cpus + 1

  abbrev j : ℕ
  j = c * n + i

  abbrev words' : List ℕ
  words' = set t.words j x

  abbrev views' : List Tally
  views' = set t.views id w

  inside : j < length t.words
  inside = let far = further c s.counters n which in let e = now.wide in let m : ℕ = s.counters * n in let e' : length t.words ≡ m + 1 = e in let o : ℕ = c * n in let far' : o + n ≤ m = far in omega arith

  given : (k : ℕ) → sum_over (recorded k) views' ≡ sum_over (recorded k) t.views
  given k = let e = sum_over-set (recorded k) t.views id v w at in let f : recorded k w ≡ recorded k v = ap (sum_over _) same_adds in omega arith

  sums_of : (k : ℕ) → k < s.counters → Dec (k ≡ c) → IsAlike (row_sum words' (k * n) n + sum_over (in_hand k) views') (sum_over (recorded k) views')
  sums_of k below (yes e) =
      let base : k * n ≡ c * n = ap (λ (z : ℕ). z * n) e in
      let o : ℕ = c * n in let b : ℕ = k * n in let base' : b ≡ o = base in
      let row = row_in t.words (k * n) n j x (omega arith) (omega arith) inside in
      let hands = sum_over-set (in_hand k) t.views id v w at in
      let hands' : sum_over (in_hand k) views' + in_hand c v ≡ sum_over (in_hand k) t.views + in_hand c w = subst (λ (z : ℕ). sum_over (in_hand k) views' + in_hand z v ≡ sum_over (in_hand k) t.views + in_hand z w) e hands in
      subst (λ (z : ℕ). IsAlike (row_sum words' (k * n) n + sum_over (in_hand k) views') z) (sym (given k))
      (moves_to (row_sum t.words (k * n) n) (row_sum words' (k * n) n) (sum_over (in_hand k) t.views) (sum_over (in_hand k) views') (sum_over (recorded k) t.views)
      (trade (row_sum t.words (k * n) n) (row_sum words' (k * n) n) (sum_over (in_hand k) t.views) (sum_over (in_hand k) views') row hands') (now.sums k below))
  sums_of k below (no ne) =
      let o : ℕ = c * n in let b : ℕ = k * n in
      let away : (j < k * n) ⊎ (k * n + n ≤ j) = dite (dec_le k c)
      (λ le. inr (let f = further k c n (omega arith) in let f' : b + n ≤ o = f in omega arith))
      (λ gt. inl (let f = further c k n (omega arith) in let f' : o + n ≤ b = f in omega arith)) in
      let row = row_out t.words (k * n) n j x away in
      let hands = sum_over-set (in_hand k) t.views id v w at in let a = apart k ne in
      let hands' : sum_over (in_hand k) views' ≡ sum_over (in_hand k) t.views = omega arith in
      subst (λ (z : ℕ × (ℕ × ℕ)). IsAlike (z.0 + z.1.0) z.1.1) (λ i. (sym row i, (sym hands' i, sym (given k) i))) (now.sums k below)

  keeps_moved : Kept s record { words = words'; homes = t.homes; views = views' }
  keeps_moved = record {
    wide = length-set t.words j x ∙ now.wide;
    sums = λ k below. sums_of k below (ℕ_discrete k c);
    rooms = let e = sum_over-set (λ (u : Tally). length u.adds + u.room) t.views id v w at in let l : length w.adds ≡ length v.adds = ap length same_adds in let r = now.rooms in omega arith;
    few = now.few;
    hands = still_hands s t now id v w at j x knows same_alone busy hands_mine;
    small = still_small s t now id v w at j x knows same_alone busy (subst AmountsFit (sym same_adds) (now.small id v at));
    alone = still_alone s t now id v w at j x knows same_alone busy;
  }

one_hand : (c : ℕ) (x : ℕ) → hand_to c (Some (c, x)) ≡ x
one_hand c x = ap (λ (b : Bool). if b then x else 0) (eq-eqb c c refl)

other_hand : (k c : ℕ) (x : ℕ) → k ≢ c → hand_to k (Some (c, x)) ≡ 0
other_hand k c x ne = ap (λ (b : Bool). if b then x else 0) (ne_eqb c k (λ e. ne (sym e)))

found_at : (s : Shape) (t : State (Unit {0}) Tally) → Kept s t → (id : ℕ) (v : Tally) → get_elem? t.views id ≡ some v → (i : ℕ) → IsFound v i (get_or t.words i 0)
found_at s t now id v at i = λ alone. ap (λ (ws : List ℕ). get_or ws i 0) (now.alone id v at alone).words

not_idle : (v : Tally) → 0 < length v.adds → IsIdle v → ⊥
not_idle v any idle = let none : length v.adds ≡ 0 = ap length idle.adds in omega arith

lifts : (s : Shape) (slots id : ℕ) (m : Me (Unit {0}) Tally) (a : CountLine) (i : ℕ) → i ≡ a.counter * (s.cpus + 1) + (1 + a.cpu) → a.counter < s.counters → a.cpu < s.cpus → 0 < length m.0.adds → m.0.hand ≡ None
    → Allows (Kept s) slots id m i (λ n. 0) (λ n m'. (m' ≡ (lifted_at i n a.counter m.0, m.1)) × IsFound m.0 i n)
lifts s slots id m a i is which who added empty t now deep at range =
    let x : ℕ = get_or t.words i 0 in
    let w : Tally = lifted_at i x a.counter m.0 in
    let none_before : (k : ℕ) → in_hand k m.0 ≡ 0 = (λ k. ap (hand_to k) empty) in
    let now_x : in_hand a.counter w ≡ x = one_hand a.counter x in
    let same : get_or t.words (a.counter * (s.cpus + 1) + (1 + a.cpu)) 0 ≡ x = ap (λ (z : ℕ). get_or t.words z 0) (sym is) in (
      w,
      keeps,
      tt,
      subst (λ (z : ℕ). Kept s record { words = set t.words z 0; homes = t.homes; views = set t.views id w }) (sym is)
          (keeps_moved s t now id m.0 w at refl refl refl a.counter (1 + a.cpu) 0 which (omega arith)
          (λ row row' hands hands' e f. (0, 0, (let z = none_before a.counter in let y = now_x in let q = same in omega arith)))
          (λ k ne. other_hand k a.counter x ne ∙ sym (none_before k))
          (ap (λ (z : ℕ). set m.0.words z 0) is)
          (not_idle m.0 added)
          (λ none. absurd (let e : length m.0.adds ≡ 0 = ap length none in omega arith))),
      (refl, found_at s t now id m.0 at i),
    )

settles : (s : Shape) (slots id : ℕ) (m : Me (Unit {0}) Tally) (c x i : ℕ) → i ≡ c * (s.cpus + 1) → c < s.counters → 0 < length m.0.adds → m.0.hand ≡ Some (c, x)
    → Allows (Kept s) slots id m i (λ n. (n + x) % 2 ^ 64) (λ n m'. (m' ≡ (settled_at i n m.0, m.1)) × IsFound m.0 i n)
settles s slots id m c x i is which added hand t now deep at range =
    let at_cell : i ≡ c * (s.cpus + 1) + 0 = (let o : ℕ = c * (s.cpus + 1) in let e : i ≡ o = is in let e' : i ≡ o + 0 = omega arith in e') in
    let n : ℕ = get_or t.words i 0 in
    let w : Tally = settled_at i n m.0 in
    let held : (k : ℕ) → in_hand k m.0 ≡ hand_to k (Some (c, x)) = (λ k. ap (hand_to k) hand) in
    let mine : in_hand c m.0 ≡ x = held c ∙ one_hand c x in
    let same : get_or t.words (c * (s.cpus + 1) + 0) 0 ≡ n = ap (λ (z : ℕ). get_or t.words z 0) (sym at_cell) in (
      w,
      keeps,
      tt,
      subst (λ (z : ℕ). Kept s record { words = set t.words z ((n + x) % 2 ^ 64); homes = t.homes; views = set t.views id w }) (sym at_cell)
          (keeps_moved s t now id m.0 w at refl refl refl c 0 ((n + x) % 2 ^ 64) which (omega arith)
          (λ row row' hands hands' e f. ((n + x) / 18446744073709551616, 0, (let y = mine in let q = same in let zero_now : in_hand c w ≡ 0 = refl in omega arith)))
          (λ k ne. sym (held k ∙ other_hand k c x ne))
          (ap (λ (z : ℕ). set m.0.words z ((n + amount_in m.0.hand) % 2 ^ 64)) at_cell ∙ ap (λ (z : Option (ℕ × ℕ)). set m.0.words (c * (s.cpus + 1) + 0) ((n + amount_in z) % 2 ^ 64)) hand)
          (not_idle m.0 added)
          (λ none. refl)),
      (refl, found_at s t now id m.0 at i),
    )

pub lifts_as : (s s0 : Shape) (slots id : ℕ) (m : Me (Unit {0}) Tally) (a a0 : CountLine) (i : ℕ) → s0 ≡ s → a0 ≡ a → i ≡ cell_of s a.counter a.cpu → a.counter < s.counters → a.cpu < s.cpus → 0 < length m.0.adds → m.0.hand ≡ None
    → Allows (Kept s0) slots id m i (λ n. 0) (λ n m'. (m' ≡ (lifted_at i n a0.counter m.0, m.1)) × IsFound m.0 i n)
lifts_as s s0 slots id m a a0 i shape same is which who added empty =
    let at_cell : i ≡ a.counter * (s.cpus + 1) + (1 + a.cpu) = (let o : ℕ = a.counter * (s.cpus + 1) in let e : i ≡ o + 1 + a.cpu = is in let e' : i ≡ o + (1 + a.cpu) = omega arith in e') in
    subst (λ (z : Shape × CountLine). Allows (Kept z.0) slots id m i (λ n. 0) (λ n m'. (m' ≡ (lifted_at i n z.1.counter m.0, m.1)) × IsFound m.0 i n)) (λ k. (sym shape k, sym same k)) (lifts s slots id m a i at_cell which who added empty)

pub settles_as : (s s0 : Shape) (slots id : ℕ) (m : Me (Unit {0}) Tally) (c x i : ℕ) → s0 ≡ s → i ≡ row_of s c → c < s.counters → 0 < length m.0.adds → m.0.hand ≡ Some (c, x)
    → Allows (Kept s0) slots id m i (λ n. (n + x) % 2 ^ 64) (λ n m'. (m' ≡ (settled_at i n m.0, m.1)) × IsFound m.0 i n)
settles_as s s0 slots id m c x i shape is which added hand =
    subst (λ (z : Shape). Allows (Kept z) slots id m i (λ n. (n + x) % 2 ^ 64) (λ n m'. (m' ≡ (settled_at i n m.0, m.1)) × IsFound m.0 i n)) (sym shape) (settles s slots id m c x i is which added hand)

pub first_inside : (s : Shape) (c : ℕ) → c < s.counters → row_of s c < word_count s
first_inside s c which = let far = further c s.counters (s.cpus + 1) which in let m : ℕ = s.counters * (s.cpus + 1) in let o : ℕ = c * (s.cpus + 1) in let far' : o + (s.cpus + 1) ≤ m = far in let e : o < m + 1 = omega arith in e

-- a look changes nothing

pub looks : (s : Shape) (slots id : ℕ) (m : Me (Unit {0}) Tally) (i : ℕ) → Allows (Kept s) slots id m i (λ n. n) (λ n m'. (m' ≡ m) × IsFound m.0 i n)
looks s slots id m i t now deep at range = (
  m.0,
  keeps,
  tt,
  subst (λ (z : List ℕ × List Tally). Kept s record { words = z.0; homes = t.homes; views = z.1 }) (λ k. (sym (set-same t.words i) k, sym (set_again t.views id m.0 at) k)) now,
  (refl, found_at s t now id m.0 at i),
)
  where
    set-same : (l : List ℕ) (i : ℕ) → set l i (get_or l i 0) ≡ l
    set-same [] i = refl
    set-same (x ∷ xs) zero = refl
    set-same (x ∷ xs) (suc i) = ap (λ (ys : List ℕ). x ∷ ys) (set-same xs i)

-- a look tells how many adds a pass made and may make

share_at_most : (vs : List Tally) (i : ℕ) (v : Tally) → get_elem? vs i ≡ some v → length v.adds + v.room ≤ sum_over (λ (u : Tally). length u.adds + u.room) vs
share_at_most [] i v at = absurd (some-ne-none v (sym at))
share_at_most (u ∷ us) zero v at = let e = ap (λ (z : Tally). length z.adds + z.room) (some-injective u v at) in omega arith
share_at_most (u ∷ us) (suc i) v at = let e = share_at_most us i v at in omega arith

pub learns : (s : Shape) (slots id : ℕ) (m : Me (Unit {0}) Tally) (i : ℕ) → Allows (Kept s) slots id m i (λ n. n) (λ n m'. (m' ≡ m) × IsFew m.0)
unfolding looks
learns s slots id m i t now deep at range =
    let look = looks s slots id m i t now deep at range in
    (m.0, keeps, tt, look.3, (refl, (let e = share_at_most t.views id m.0 at in omega (arith, now.few, now.rooms))))
