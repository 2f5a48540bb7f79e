-- The lines of the opening and of each caller, one after another, are all lines.
use Rattle.std.proofs.Common.{◌≡◌, ◌≢◌, ℕ, zero, suc, ◌+◌, ◌<◌, ◌≤◌, ◌==◌, nat_lt, Bool, true, false, cond, if◌then◌else◌, List, [], ◌∷◌, ◌++◌, length, map, flat_map, refl, sym, ap, ◌∙◌, arith}
use Rattle.std.specs.Prelude.{ℤ, pos, ◌+ℤ◌}
use Rattle.std.specs.List.{range_with_len}
use Rattle.std.proofs.lemmas.Int.{ints}
use Rattle.std.proofs.lemmas.Bool.Decides.{nat_tests}
use Rattle.std.proofs.lemmas.List.Elements.{All-head, All-tail}
use Rattle.vm_model.specs.declared.calls.CountLine.{CountLine}
use Rattle.report_text.specs.CounterTotals.{total, lines_of}
use Rattle.count_lines.specs.LinesOfCaller.{added_by, lines_by}
use Rattle.count_lines.specs.Sharing.{AreOf, shared_lines, EachLineIsShared, SharingKeepsTheTotals}

-- What is added has the totals of its lines.

pub lines_of-added : (k : ℕ) (lines : List CountLine) → lines_of k (map added_by lines) ≡ map added_by (lines_of k lines)
lines_of-added k [] = refl
lines_of-added k (l ∷ lines) = by_test (l.counter == k) (lines_of-added k lines)
  where
    by_test : (b : Bool) → lines_of k (map added_by lines) ≡ map added_by (lines_of k lines)
        → cond b (added_by l ∷ lines_of k (map added_by lines)) (lines_of k (map added_by lines)) ≡ map added_by (cond b (l ∷ lines_of k lines) (lines_of k lines))
    by_test true same = ap (λ ls. added_by l ∷ ls) same
    by_test false same = same

pub total-added : (lines : List CountLine) → total (map added_by lines) ≡ total lines
total-added [] = refl
total-added (l ∷ lines) = ap (λ (z : ℤ). l.amount +ℤ z) (total-added lines)

-- The lines of some callers.

abbrev pub lines_from : (first n : ℕ) → List CountLine → List CountLine
lines_from first n lines = flat_map (λ k. lines_by k lines) (range_with_len first n)

kept : (l : CountLine) (lines : List CountLine) (k : ℕ) → l.caller ≡ k → lines_by k (l ∷ lines) ≡ l ∷ lines_by k lines
kept l lines k is = let e : (l.caller == k) ≡ true = grind (arith, nat_tests) in ap (λ b. cond b (l ∷ lines_by k lines) (lines_by k lines)) e

left_out : (l : CountLine) (lines : List CountLine) (k : ℕ) → l.caller ≢ k → lines_by k (l ∷ lines) ≡ lines_by k lines
left_out l lines k other = let e : (l.caller == k) ≡ false = grind (arith, nat_tests) in ap (λ b. cond b (l ∷ lines_by k lines) (lines_by k lines)) e

none_from : (n first : ℕ) → lines_from first n [] ≡ []
none_from zero first = refl
none_from (suc n) first = none_from n (first + 1)

later_callers : (l : CountLine) (lines : List CountLine) (n first : ℕ) → l.caller < first → lines_from first n (l ∷ lines) ≡ lines_from first n lines
later_callers l lines zero first low = refl
later_callers l lines (suc n) first low =
    ap (λ ls. ls ++ lines_from (first + 1) n (l ∷ lines)) (left_out l lines first (λ e. absurd (omega arith)))
    ∙ ap (λ ls. lines_by first lines ++ ls) (later_callers l lines n (first + 1) (omega arith))

earlier_callers : (l : CountLine) (lines : List CountLine) (n first : ℕ) → first + n ≤ l.caller → lines_from first n (l ∷ lines) ≡ lines_from first n lines
earlier_callers l lines zero first high = refl
earlier_callers l lines (suc n) first high =
    ap (λ ls. ls ++ lines_from (first + 1) n (l ∷ lines)) (left_out l lines first (λ e. absurd (omega arith)))
    ∙ ap (λ ls. lines_by first lines ++ ls) (earlier_callers l lines n (first + 1) (omega arith))

-- What the lines come to, one by one.

abbrev summed : {M : Type 0} → M → (M → M → M) → (CountLine → M) → List CountLine → M
summed none add weight [] = none
summed none add weight (l ∷ lines) = add (weight l) (summed none add weight lines)

module _ {M : Type 0} (none : M) (add : M → M → M) (weight : CountLine → M) (left : (x : M) → add none x ≡ x) (join : (x y z : M) → add (add x y) z ≡ add x (add y z)) (turn : (x y : M) → add x y ≡ add y x) where
  summed-append : (xs ys : List CountLine) → summed none add weight (xs ++ ys) ≡ add (summed none add weight xs) (summed none add weight ys)
  summed-append [] ys = sym (left (summed none add weight ys))
  summed-append (x ∷ xs) ys = ap (add (weight x)) (summed-append xs ys) ∙ sym (join (weight x) (summed none add weight xs) (summed none add weight ys))

  past : (x y z : M) → add x (add y z) ≡ add y (add x z)
  past x y z = sym (join x y z) ∙ ap (λ m. add m z) (turn x y) ∙ join y x z

  one_from : (l : CountLine) (lines : List CountLine) (n first : ℕ) → first ≤ l.caller → l.caller < first + n
      → summed none add weight (lines_from first n (l ∷ lines)) ≡ add (weight l) (summed none add weight (lines_from first n lines))
  one_from l lines zero first low high = absurd (omega arith)
  one_from l lines (suc n) first low high = by_test (λ later. one_from l lines n (first + 1) later (omega arith)) (l.caller == first) refl
    where
      by_test : (first + 1 ≤ l.caller → summed none add weight (lines_from (first + 1) n (l ∷ lines)) ≡ add (weight l) (summed none add weight (lines_from (first + 1) n lines)))
          → (b : Bool) → (l.caller == first) ≡ b → summed none add weight (lines_from first (suc n) (l ∷ lines)) ≡ add (weight l) (summed none add weight (lines_from first (suc n) lines))
      by_test rest true e =
          let same : l.caller ≡ first = grind (arith, nat_tests) in
          ap (λ ls. summed none add weight (ls ++ lines_from (first + 1) n (l ∷ lines))) (kept l lines first same)
          ∙ ap (λ ls. add (weight l) (summed none add weight (lines_by first lines ++ ls))) (later_callers l lines n (first + 1) (omega arith))
      by_test rest false e =
          let other : l.caller ≢ first = grind (arith, nat_tests) in
          let later : first + 1 ≤ l.caller = omega arith in
          ap (λ ls. summed none add weight (ls ++ lines_from (first + 1) n (l ∷ lines))) (left_out l lines first other)
          ∙ summed-append (lines_by first lines) (lines_from (first + 1) n (l ∷ lines))
          ∙ ap (add (summed none add weight (lines_by first lines))) (rest later)
          ∙ past (summed none add weight (lines_by first lines)) (weight l) (summed none add weight (lines_from (first + 1) n lines))
          ∙ ap (add (weight l)) (sym (summed-append (lines_by first lines) (lines_from (first + 1) n lines)))

  all_summed : (callers : ℕ) (lines : List CountLine) → AreOf callers lines → summed none add weight (shared_lines callers lines) ≡ summed none add weight lines
  all_summed callers [] of = ap (summed none add weight) (none_from (suc callers) 0)
  all_summed callers (l ∷ lines) of =
      let here : l.caller ≤ callers = All-head (λ (l : CountLine). l.caller ≤ callers) l lines of in
      one_from l lines (suc callers) 0 (omega arith) (omega arith) ∙ ap (add (weight l)) (all_summed callers lines (All-tail (λ (l : CountLine). l.caller ≤ callers) l lines of))

-- They are as many.

length_summed : (lines : List CountLine) → length lines ≡ summed 0 (λ a b. a + b) (λ _. 1) lines
length_summed [] = refl
length_summed (l ∷ lines) = let rest = length_summed lines in omega arith

pub each_line_is_shared : EachLineIsShared
each_line_is_shared callers lines of =
    length_summed (shared_lines callers lines)
    ∙ all_summed 0 (λ a b. a + b) (λ _. 1) (λ x. omega arith) (λ x y z. omega arith) (λ x y. omega arith) callers lines of
    ∙ sym (length_summed lines)

-- Those of some callers are no more than all.
pub few_from : (n : ℕ) (lines : List CountLine) → length (lines_from 0 n lines) ≤ length lines
few_from n [] = let e = ap length (none_from n 0) in omega arith
few_from n (l ∷ lines) = by_test (few_from n lines) (nat_lt l.caller n) refl
  where
    by_test : length (lines_from 0 n lines) ≤ length lines → (b : Bool) → nat_lt l.caller n ≡ b → length (lines_from 0 n (l ∷ lines)) ≤ suc (length lines)
    by_test rest true e =
        let within : l.caller < n = grind (arith, nat_tests) in
        let one = length_summed (lines_from 0 n (l ∷ lines))
        ∙ one_from 0 (λ a b. a + b) (λ _. 1) (λ x. omega arith) (λ x y z. omega arith) (λ x y. omega arith) l lines n 0 (omega arith) (omega arith)
        ∙ ap (λ m. 1 + m) (sym (length_summed (lines_from 0 n lines))) in
        omega arith
    by_test rest false e =
        let beyond : n ≤ l.caller = grind (arith, nat_tests) in
        let same = ap length (earlier_callers l lines n 0 (omega arith)) in
        omega arith

-- They give each counter as much.

abbrev given_to : ℕ → CountLine → ℤ
given_to k l = if l.counter == k then l.amount else pos 0

total_summed : (k : ℕ) (lines : List CountLine) → total (lines_of k lines) ≡ summed (pos 0) (λ a b. a +ℤ b) (given_to k) lines
total_summed k [] = refl
total_summed k (l ∷ lines) = by_test (l.counter == k) (total_summed k lines)
  where
    by_test : (b : Bool) → total (lines_of k lines) ≡ summed (pos 0) (λ a b. a +ℤ b) (given_to k) lines
        → total (cond b (l ∷ lines_of k lines) (lines_of k lines)) ≡ (if b then l.amount else pos 0) +ℤ summed (pos 0) (λ a b. a +ℤ b) (given_to k) lines
    by_test true rest = ap (λ (z : ℤ). l.amount +ℤ z) rest
    by_test false rest = rest ∙ (let e : summed (pos 0) (λ a b. a +ℤ b) (given_to k) lines ≡ pos 0 +ℤ summed (pos 0) (λ a b. a +ℤ b) (given_to k) lines = omega (arith, ints) in e)

pub sharing_keeps_the_totals : SharingKeepsTheTotals
sharing_keeps_the_totals callers k lines of =
    ap total (lines_of-added k (shared_lines callers lines)) ∙ total-added (lines_of k (shared_lines callers lines))
    ∙ total_summed k (shared_lines callers lines)
    ∙ all_summed (pos 0) (λ a b. a +ℤ b) (given_to k) (λ x. omega (arith, ints)) (λ x y z. omega (arith, ints)) (λ x y. omega (arith, ints)) callers lines of
    ∙ sym (total_summed k lines)
