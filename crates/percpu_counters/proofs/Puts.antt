-- An add keeps the sums.
use Rattle.std.proofs.Common.{◌≡◌, ℕ, zero, suc, ◌+◌, ◌*◌, ◌/◌, ◌%◌, ◌^◌, ◌<◌, ◌≤◌, ◌⊎◌, inl, inr, Bool, List, [], ◌∷◌, ◌++◌, length, get_or, set, refl, sym, ap, ◌∙◌, subst, ⊎_elim, arith, length-append, length-set, get_or-set_other, get_or-set_same, mul-le-mul_right, eq-eqb, ne_eqb, if◌then◌else◌, FitsSigned, w32}
use mathlib.Core.Logic.{dite}
use mathlib.Core.Option.{some, some-injective, some-ne-none}
use native.Mathlib.Decide.{ℕ_discrete, dec_le}
use native.Mathlib.Nat.{suc-mul}
use lib.ListN.{get_elem?}
use Rattle.atomic_table.specs.Table.{State, Me, keeps, Allows}
use Rattle.vm_model.specs.declared.calls.CountLine.{CountLine}
use Rattle.percpu_counters.specs.declared.table.Shape.{Shape}
use Rattle.percpu_counters.specs.declared.table.Tally.{Tally}
use Rattle.percpu_counters.specs.CounterRule.{sum_over, row_sum, cell_of, word_count, bits_of, given_to, recorded, in_hand, IsAlike, IsIdle, IsFound, Kept, put_at}
use Rattle.percpu_counters.proofs.Alone.{still_alone, still_hands, still_small, AmountsFit-append}

pub row_out : (words : List ℕ) (i n j x : ℕ) → (j < i) ⊎ (i + n ≤ j) → row_sum (set words j x) i n ≡ row_sum words i n
row_out words i zero j x out = refl
row_out words i (suc n) j x out =
    let here : get_or (set words j x) i 0 ≡ get_or words i 0 = get_or-set_other words j i x 0 (λ e. ⊎_elim (λ l. absurd (omega arith)) (λ l. absurd (omega arith)) out) in
    let rest : row_sum (set words j x) (i + 1) n ≡ row_sum words (i + 1) n = row_out words (i + 1) n j x (⊎_elim (λ l. inl (omega arith)) (λ l. inr (omega arith)) out) in omega arith

pub row_in : (words : List ℕ) (i n j x : ℕ) → i ≤ j → j < i + n → j < length words → row_sum (set words j x) i n + get_or words j 0 ≡ row_sum words i n + x
row_in words i zero j x low high inside = absurd (omega arith)
row_in words i (suc n) j x low high inside = dite (ℕ_discrete i j)
    (λ e. let here : get_or (set words j x) i 0 ≡ x = ap (λ (z : ℕ). get_or (set words j x) z 0) e ∙ get_or-set_same words j x 0 inside in
    let was : get_or words j 0 ≡ get_or words i 0 = ap (λ (z : ℕ). get_or words z 0) (sym e) in
    let rest : row_sum (set words j x) (i + 1) n ≡ row_sum words (i + 1) n = row_out words (i + 1) n j x (inl (omega arith)) in omega arith)
    (λ ne. let here : get_or (set words j x) i 0 ≡ get_or words i 0 = get_or-set_other words j i x 0 ne in
    let rest = row_in words (i + 1) n j x (omega arith) (omega arith) inside in omega arith)

pub sum_over-set : {V : Type 0} (f : V → ℕ) (vs : List V) (i : ℕ) (v w : V) → get_elem? vs i ≡ some v → sum_over f (set vs i w) + f v ≡ sum_over f vs + f w
sum_over-set f [] i v w at = absurd (some-ne-none v (sym at))
sum_over-set f (u ∷ us) zero v w at = let e : f u ≡ f v = ap f (some-injective u v at) in omega arith
sum_over-set f (u ∷ us) (suc i) v w at = let e = sum_over-set f us i v w at in omega arith

pub sum_over-snoc : {V : Type 0} (f : V → ℕ) (vs : List V) (v : V) → sum_over f (vs ++ v ∷ []) ≡ sum_over f vs + f v
sum_over-snoc f [] v = omega arith
sum_over-snoc f (u ∷ us) v = let e = sum_over-snoc f us v in omega arith

pub further : (x y n : ℕ) → x < y → x * n + n ≤ y * n
further x y n h = let a : suc x * n ≤ y * n = mul-le-mul_right n h in omega (arith, suc-mul x n)

-- one word of a row grows by b, up to a multiple of 2^64
grows : (r r' w b hand given : ℕ) → r' + w ≡ r + (w + b) % 18446744073709551616 → IsAlike (r + hand) given → IsAlike (r' + hand) (given + b)
grows r r' w b hand given e a =
    let p : ℕ = a.0 in let q : ℕ = a.1 in let same : r + hand + 18446744073709551616 * p ≡ given + 18446744073709551616 * q = a.2 in
    (p + (w + b) / 18446744073709551616, q, omega arith)

module _ (s : Shape) (t : State (Unit {0}) Tally) (now : Kept s t) (id : ℕ) (v : Tally) (a : CountLine) (at : get_elem? t.views id ≡ some v) (which : a.counter < s.counters) (who : a.cpu < s.cpus) (room : 0 < v.room) (fits : FitsSigned w32 a.amount) where
  abbrev n : ℕ
  n = s.cpus + 1

  abbrev j : ℕ
  j = a.counter * n + 1 + a.cpu

  abbrev x : ℕ
  x = get_or t.words j 0

  abbrev words' : List ℕ
  words' = set t.words j ((x + bits_of a) % 18446744073709551616)

  abbrev w : Tally
  w = put_at j x a v

  abbrev views' : List Tally
  views' = set t.views id w

  inside : j < length t.words
  inside = let far = further a.counter s.counters n which in let e = now.wide in let m : ℕ = s.counters * n in let e' : length t.words ≡ m + 1 = e in let o : ℕ = a.counter * n in let far' : o + n ≤ m = far in omega arith

  hands : (k : ℕ) → sum_over (in_hand k) views' ≡ sum_over (in_hand k) t.views
  hands k = let e = sum_over-set (in_hand k) t.views id v w at in omega arith

  given : (k : ℕ) → sum_over (recorded k) views' ≡ sum_over (recorded k) t.views + given_to k a
  given k = let e = sum_over-set (recorded k) t.views id v w at in let f : recorded k w ≡ recorded k v + given_to k a = sum_over-snoc (given_to k) v.adds a in omega arith

  sums_of : (k : ℕ) → k < s.counters → Dec (k ≡ a.counter) → IsAlike (row_sum words' (k * n) n + sum_over (in_hand k) views') (sum_over (recorded k) views')
  sums_of k below (yes e) =
      let base : k * n ≡ a.counter * n = ap (λ (z : ℕ). z * n) e in
      let o : ℕ = a.counter * n in let b : ℕ = k * n in let base' : b ≡ o = base in
      let row = row_in t.words (k * n) n j ((x + bits_of a) % 18446744073709551616) (omega arith) (omega arith) inside in
      let mine : given_to k a ≡ bits_of a = ap (λ (c : Bool). if c then bits_of a else 0) (eq-eqb a.counter k (sym e)) in
      subst (λ (z : ℕ × ℕ). IsAlike (row_sum words' (k * n) n + z.0) z.1) (λ i. (sym (hands k) i, sym (given k ∙ ap (λ (z : ℕ). sum_over (recorded k) t.views + z) mine) i))
      (grows (row_sum t.words (k * n) n) (row_sum words' (k * n) n) x (bits_of a) (sum_over (in_hand k) t.views) (sum_over (recorded k) t.views) row (now.sums k below))
  sums_of k below (no ne) =
      let o : ℕ = a.counter * n in let b : ℕ = k * n in
      let away : (j < k * n) ⊎ (k * n + n ≤ j) = dite (dec_le k a.counter)
      (λ le. inr (let f = further k a.counter n (omega arith) in let f' : b + n ≤ o = f in omega arith))
      (λ gt. inl (let f = further a.counter k n (omega arith) in let f' : o + n ≤ b = f in omega arith)) in
      let row = row_out t.words (k * n) n j ((x + bits_of a) % 18446744073709551616) away in
      let none_mine : given_to k a ≡ 0 = ap (λ (c : Bool). if c then bits_of a else 0) (ne_eqb a.counter k (λ e. ne (sym e))) in
      let g = given k in let g' : sum_over (recorded k) views' ≡ sum_over (recorded k) t.views = omega arith in
      subst (λ (z : ℕ × (ℕ × ℕ)). IsAlike (z.0 + z.1.0) z.1.1) (λ i. (sym row i, (sym (hands k) i, sym g' i))) (now.sums k below)

  busy : IsIdle v → ⊥
  busy idle = let none = idle.room in let c : 0 < 0 = omega arith in omega arith

  keeps_added : Kept s record { words = words'; homes = t.homes; views = views' }
  keeps_added = record {
    wide = length-set t.words j ((x + bits_of a) % 18446744073709551616) ∙ now.wide;
    sums = λ k below. sums_of k below (ℕ_discrete k a.counter);
    rooms = let e = sum_over-set (λ (u : Tally). length u.adds + u.room) t.views id v w at in let l = length-append v.adds (a ∷ []) in let r = now.rooms in omega arith;
    few = now.few;
    hands = still_hands s t now id v w at j ((x + bits_of a) % 18446744073709551616) refl refl busy
        (λ none. let long : length (v.adds ++ a ∷ []) ≡ 0 = ap length none in absurd (let l = length-append v.adds (a ∷ []) in omega arith));
    small = still_small s t now id v w at j ((x + bits_of a) % 18446744073709551616) refl refl busy (AmountsFit-append v.adds (a ∷ []) (now.small id v at) (fits, tt));
    alone = still_alone s t now id v w at j ((x + bits_of a) % 18446744073709551616) refl refl busy;
  }

  pub found_added : IsFound v j x
  found_added alone = ap (λ (ws : List ℕ). get_or ws j 0) (now.alone id v at alone).words

adds : (s : Shape) (slots id : ℕ) (m : Me (Unit {0}) Tally) (a : CountLine) → a.counter < s.counters → a.cpu < s.cpus → 0 < m.0.room → FitsSigned w32 a.amount
    → Allows (Kept s) slots id m (cell_of s a.counter a.cpu) (λ n. (n + bits_of a) % 2 ^ 64) (λ n m'. (m' ≡ (put_at (cell_of s a.counter a.cpu) n a m.0, m.1)) × IsFound m.0 (cell_of s a.counter a.cpu) n)
adds s slots id m a which who room fits t now deep at range = (
  put_at (cell_of s a.counter a.cpu) (get_or t.words (cell_of s a.counter a.cpu) 0) a m.0,
  keeps,
  tt,
  keeps_added s t now id m.0 a at which who room fits,
  (refl, found_added s t now id m.0 a at which who room fits),
)

pub inside_all : (s : Shape) (a : CountLine) → a.counter < s.counters → a.cpu < s.cpus → cell_of s a.counter a.cpu < word_count s
inside_all s a which who = let far = further a.counter s.counters (s.cpus + 1) which in let m : ℕ = s.counters * (s.cpus + 1) in let o : ℕ = a.counter * (s.cpus + 1) in let far' : o + (s.cpus + 1) ≤ m = far in let e : o + 1 + a.cpu < m + 1 = omega arith in e

pub adds_as : (s s0 : Shape) (slots id : ℕ) (m : Me (Unit {0}) Tally) (a a0 : CountLine) (i b : ℕ) → s0 ≡ s → a0 ≡ a → bits_of a ≡ b → i ≡ cell_of s a.counter a.cpu → a.counter < s.counters → a.cpu < s.cpus → 0 < m.0.room → FitsSigned w32 a.amount
    → Allows (Kept s0) slots id m i (λ n. (n + b) % 2 ^ 64) (λ n m'. (m' ≡ (put_at i n a0 m.0, m.1)) × IsFound m.0 i n)
adds_as s s0 slots id m a a0 i b shape same bits is which who room fits =
    subst (λ (z : Shape × CountLine × ℕ × ℕ). Allows (Kept z.0) slots id m z.3 (λ n. (n + z.2) % 2 ^ 64) (λ n m'. (m' ≡ (put_at z.3 n z.1 m.0, m.1)) × IsFound m.0 z.3 n)) (λ k. (sym shape k, sym same k, bits k, sym is k))
    (adds s slots id m a which who room fits)
