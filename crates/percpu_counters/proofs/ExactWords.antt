-- What an add and its fold make of words that are exact.
use Rattle.std.proofs.Common.{◌≡◌, ◌≢◌, ℕ, ◌+◌, ◌%◌, ◌^◌, ◌<◌, ◌≤◌, Bool, true, false, eqb, List, [], ◌∷◌, ◌++◌, length, get_or, set, ℤ, pos, ◌+ℤ◌, FitsSigned, w64, w32, refl, ap, sym, ◌∙◌, subst, arith, if◌then◌else◌, length-set, get_or-set_same, get_or-set_other, eq-eqb, ne_eqb}
use Rattle.std.specs.Prelude.{nat_abs}
use Rattle.std.specs.Int.{cast_signed}
use mathlib.Core.Logic.{dite}
use native.Mathlib.Decide.{ℕ_discrete}
use Rattle.std.proofs.lemmas.List.Elements.{filter-append}
use Rattle.vm_model.specs.declared.calls.CountLine.{CountLine}
use Rattle.report_text.specs.CounterTotals.{Cells, lines_of, no_amounts, after_lines, added}
use Rattle.percpu_counters.specs.declared.table.Shape.{Shape}
use Rattle.percpu_counters.specs.CounterRule.{row_of, cell_of, bits_of}
use Rattle.percpu_counters.specs.Passes.{cells_after, IsRowOf}
use Rattle.percpu_counters.proofs.Sizes.{nat_abs-add, fits_small, small_amount, cast_signed-add, cast_signed-sum}

-- One add more in the list.

after_lines-append : (batch : ℕ) (c : Cells) (lines more : List CountLine) → after_lines batch c (lines ++ more) ≡ after_lines batch (after_lines batch c lines) more
after_lines-append batch c [] more = refl
after_lines-append batch c (l ∷ lines) more = after_lines-append batch (added batch c l) lines more

lines_of-one : (counter : ℕ) (a : CountLine) (b : Bool) → eqb a.counter counter ≡ b → lines_of counter (a ∷ []) ≡ (if b then a ∷ [] else [])
lines_of-one counter a b e = ap (λ (c : Bool). if c then a ∷ [] else []) e

pub cells_after-same : (s : Shape) (adds : List CountLine) (a : CountLine) → cells_after s a.counter (adds ++ a ∷ []) ≡ added s.batch (cells_after s a.counter adds) a
cells_after-same s adds a =
    ap (after_lines s.batch (no_amounts s.cpus)) (filter-append (λ (l : CountLine). eqb l.counter a.counter) adds (a ∷ []) ∙ ap (λ (more : List CountLine). lines_of a.counter adds ++ more) (lines_of-one a.counter a true (eq-eqb a.counter a.counter refl)))
    ∙ after_lines-append s.batch (no_amounts s.cpus) (lines_of a.counter adds) (a ∷ [])

pub cells_after-other : (s : Shape) (counter : ℕ) (adds : List CountLine) (a : CountLine) → a.counter ≢ counter → cells_after s counter (adds ++ a ∷ []) ≡ cells_after s counter adds
cells_after-other s counter adds a apart =
    ap (after_lines s.batch (no_amounts s.cpus)) (filter-append (λ (l : CountLine). eqb l.counter counter) adds (a ∷ []) ∙ ap (λ (more : List CountLine). lines_of counter adds ++ more) (lines_of-one counter a false (ne_eqb a.counter counter apart)))
    ∙ after_lines-append s.batch (no_amounts s.cpus) (lines_of counter adds) []

-- The words of a counter where others change.

pub row_frame : (s : Shape) (counter : ℕ) (words words' : List ℕ) (most : ℕ) (c : Cells) → ((place : ℕ) → row_of s counter ≤ place → place < row_of s counter + (s.cpus + 1) → get_or words' place 0 ≡ get_or words place 0)
    → IsRowOf s counter words most c → IsRowOf s counter words' (most + 1) c
row_frame s counter words words' most c same row = record {
  count = ap (cast_signed w64) (same (row_of s counter) (omega arith) (omega arith)) ∙ row.count;
  cells = λ cpu low. ap (cast_signed w64) (let o : ℕ = row_of s counter in let e : get_or words' (o + 1 + cpu) 0 ≡ get_or words (o + 1 + cpu) 0 = same (o + 1 + cpu) (omega arith) (omega arith) in e) ∙ row.cells cpu low;
  wide = row.wide;
  small_count = let e = row.small_count in omega arith;
  small_cells = row.small_cells;
}

-- The counter of the add: its cell stays.

module _ (s : Shape) (words : List ℕ) (most : ℕ) (c : Cells) (a : CountLine) (n : ℕ) (row : IsRowOf s a.counter words most c) (who : a.cpu < s.cpus) (long : cell_of s a.counter a.cpu < length words)
    (found : n ≡ get_or words (cell_of s a.counter a.cpu) 0) (low : n < 18446744073709551616) (amount : FitsSigned w32 a.amount) (few : most < 100000) (batch : s.batch ≤ 4294967296) where
  abbrev o : ℕ
  o = row_of s a.counter

  abbrev before : ℤ
  before = get_or c.cells a.cpu (pos 0)

  abbrev value : ℤ
  value = before +ℤ a.amount

  abbrev sum : ℕ
  sum = (n + bits_of a) % 2 ^ 64

  small_value : nat_abs value ≤ 6442450944
  small_value = let p = nat_abs-add before a.amount in let q = row.small_cells a.cpu in let r = small_amount a.amount amount in omega arith

  pub value_is : cast_signed w64 sum ≡ value
  value_is = cast_signed-add n before a.amount low (ap (cast_signed w64) found ∙ row.cells a.cpu who) (fits_small a.amount (let r = small_amount a.amount amount in omega arith)) (fits_small value (let v = small_value in omega arith))

  other_cell : (cpu x : ℕ) (ws : List ℕ) → cpu ≢ a.cpu → get_or (set ws (cell_of s a.counter a.cpu) x) (cell_of s a.counter cpu) 0 ≡ get_or ws (cell_of s a.counter cpu) 0
  other_cell cpu x ws apart = get_or-set_other ws (cell_of s a.counter a.cpu) (cell_of s a.counter cpu) x 0 (λ e. apart (let o' : ℕ = o in let e' : o' + 1 + cpu ≡ o' + 1 + a.cpu = e in omega arith))

  count_cell : (x : ℕ) (ws : List ℕ) → get_or (set ws (cell_of s a.counter a.cpu) x) o 0 ≡ get_or ws o 0
  count_cell x ws = get_or-set_other ws (cell_of s a.counter a.cpu) o x 0 (λ e. let o' : ℕ = o in let e' : o' ≡ o' + 1 + a.cpu = e in omega arith)

  small_set : (x : ℤ) → nat_abs x ≤ 4294967296 → (cpu : ℕ) → nat_abs (get_or (set c.cells a.cpu x) cpu (pos 0)) ≤ 4294967296
  small_set x small cpu = dite (ℕ_discrete cpu a.cpu)
      (λ same. subst (λ (q : ℕ). nat_abs (get_or (set c.cells a.cpu x) q (pos 0)) ≤ 4294967296) (sym same) (subst (λ (z : ℤ). nat_abs z ≤ 4294967296) (sym (get_or-set_same c.cells a.cpu x (pos 0) (let w = row.wide in omega arith))) small))
      (λ apart. subst (λ (z : ℤ). nat_abs z ≤ 4294967296) (sym (get_or-set_other c.cells a.cpu cpu x (pos 0) apart)) (row.small_cells cpu))

  -- the cells, where the one of the add has become x
  cells_set : (words' : List ℕ) (m : ℕ) (x : ℤ) → ((cpu : ℕ) → cpu ≢ a.cpu → get_or words' (cell_of s a.counter cpu) 0 ≡ get_or words (cell_of s a.counter cpu) 0) → get_or words' (cell_of s a.counter a.cpu) 0 ≡ m → cast_signed w64 m ≡ x
      → (cpu : ℕ) → cpu < s.cpus → cast_signed w64 (get_or words' (cell_of s a.counter cpu) 0) ≡ get_or (set c.cells a.cpu x) cpu (pos 0)
  cells_set words' m x others here is cpu within = dite (ℕ_discrete cpu a.cpu)
      (λ same. subst (λ (q : ℕ). cast_signed w64 (get_or words' (cell_of s a.counter q) 0) ≡ get_or (set c.cells a.cpu x) q (pos 0)) (sym same)
      (ap (cast_signed w64) here ∙ is ∙ sym (get_or-set_same c.cells a.cpu x (pos 0) (let w = row.wide in omega arith))))
      (λ apart. ap (cast_signed w64) (others cpu apart) ∙ row.cells cpu within ∙ sym (get_or-set_other c.cells a.cpu cpu x (pos 0) apart))

  pub stays : nat_abs value < s.batch → IsRowOf s a.counter (set words (cell_of s a.counter a.cpu) sum) (most + 1) (record c { cells = set c.cells a.cpu value })
  stays below = record {
    count = ap (cast_signed w64) (count_cell sum words) ∙ row.count;
    cells = cells_set (set words (cell_of s a.counter a.cpu) sum) sum value (λ cpu apart. other_cell cpu sum words apart) (get_or-set_same words (cell_of s a.counter a.cpu) sum 0 long) value_is;
    wide = length-set c.cells a.cpu value ∙ row.wide;
    small_count = let e = row.small_count in omega arith;
    small_cells = small_set value (omega arith);
  }

  -- it goes into the count
  pub folds : (words' : List ℕ) (m x : ℕ) → words' ≡ set (set (set words (cell_of s a.counter a.cpu) sum) (cell_of s a.counter a.cpu) 0) o ((m + x) % 2 ^ 64) → x ≡ sum → m ≡ get_or words o 0 → m < 18446744073709551616
      → IsRowOf s a.counter words' (most + 1) (record { count = c.count +ℤ value; cells = set c.cells a.cpu (pos 0) })
  folds words' m x are taken counted low_count = subst (λ (ws : List ℕ). IsRowOf s a.counter ws (most + 1) (record { count = c.count +ℤ value; cells = set c.cells a.cpu (pos 0) })) (sym are) (record {
    count = ap (cast_signed w64) (get_or-set_same emptied o ((m + x) % 2 ^ 64) 0 (let l = length-set words (cell_of s a.counter a.cpu) sum in let l' = length-set (set words (cell_of s a.counter a.cpu) sum) (cell_of s a.counter a.cpu) 0 in let o' : ℕ = o in omega arith))
        ∙ cast_signed-sum m x c.count value low_count (let e = taken in omega arith) (ap (cast_signed w64) counted ∙ row.count) (ap (cast_signed w64) taken ∙ value_is) (fits_small (c.count +ℤ value) (let e = whole in let f = row.small_count in omega arith));
    cells = cells_set (set emptied o ((m + x) % 2 ^ 64)) 0 (pos 0)
        (λ cpu apart. past cpu ∙ other_cell cpu 0 (set words (cell_of s a.counter a.cpu) sum) apart ∙ other_cell cpu sum words apart)
        (past a.cpu ∙ get_or-set_same (set words (cell_of s a.counter a.cpu) sum) (cell_of s a.counter a.cpu) 0 0 (let l = length-set words (cell_of s a.counter a.cpu) sum in omega arith)) refl;
    wide = length-set c.cells a.cpu (pos 0) ∙ row.wide;
    small_count = let e = whole in let f = row.small_count in omega arith;
    small_cells = small_set (pos 0) (omega arith);
  })
    where
      emptied : List ℕ
      emptied = set (set words (cell_of s a.counter a.cpu) sum) (cell_of s a.counter a.cpu) 0

      whole : nat_abs (c.count +ℤ value) ≤ nat_abs c.count + 6442450944
      whole = let p = nat_abs-add c.count value in let q = small_value in omega arith

      past : (cpu : ℕ) → get_or (set emptied o ((m + x) % 2 ^ 64)) (cell_of s a.counter cpu) 0 ≡ get_or emptied (cell_of s a.counter cpu) 0
      past cpu = get_or-set_other emptied o (cell_of s a.counter cpu) ((m + x) % 2 ^ 64) 0 (λ e. let o' : ℕ = o in let e' : o' + 1 + cpu ≡ o' = e in omega arith)
