-- An add with its fold, of all counters.
use Rattle.std.proofs.Common.{◌≡◌, ◌≢◌, ℕ, ◌+◌, ◌%◌, ◌^◌, ◌<◌, ◌≤◌, Bool, true, false, List, [], ◌∷◌, ◌++◌, length, get_or, set, ℤ, pos, ◌+ℤ◌, FitsSigned, w64, w32, refl, ap, sym, ◌∙◌, subst, arith, nat_le, None, if◌then◌else◌, length-append, length-set, get_or-set_same, get_or-set_other}
use Rattle.std.specs.Prelude.{nat_abs}
use Rattle.std.specs.Int.{cast_signed}
use Rattle.std.proofs.lemmas.Bool.Decides.{nat_tests}
use mathlib.Core.Logic.{dite}
use native.Mathlib.Decide.{ℕ_discrete, dec_le}
use Rattle.atomic_table.specs.Table.{Me}
use Rattle.vm_model.specs.declared.calls.CountLine.{CountLine}
use Rattle.report_text.specs.CounterTotals.{Cells, placed}
use Rattle.percpu_counters.specs.declared.table.Shape.{Shape}
use Rattle.percpu_counters.specs.declared.table.Tally.{Tally}
use Rattle.percpu_counters.specs.CounterRule.{row_of, cell_of, bits_of, put_at, lifted_at, settled_at, IsFound}
use Rattle.percpu_counters.specs.Passes.{cells_after, IsRowOf, AreExact, HasAdded}
use Rattle.percpu_counters.proofs.Puts.{further, inside_all}
use Rattle.percpu_counters.proofs.ExactWords.{cells_after-same, cells_after-other, row_frame, stays, folds, value_is}

small_placed : (batch cpu : ℕ) (value : ℤ) (c : Cells) → nat_abs value < batch → placed batch cpu value c ≡ record c { cells = set c.cells cpu value }
small_placed batch cpu value c below =
    let test : nat_le batch (nat_abs value) ≡ false = grind (arith, nat_tests) in
    ap (λ (b : Bool). if b then folded else kept) test
  where
    folded : Cells
    folded = record { count = c.count +ℤ value; cells = set c.cells cpu (pos 0) }

    kept : Cells
    kept = record c { cells = set c.cells cpu value }

large_placed : (batch cpu : ℕ) (value : ℤ) (c : Cells) → batch ≤ nat_abs value → placed batch cpu value c ≡ record { count = c.count +ℤ value; cells = set c.cells cpu (pos 0) }
large_placed batch cpu value c reached =
    let test : nat_le batch (nat_abs value) ≡ true = grind (arith, nat_tests) in
    ap (λ (b : Bool). if b then folded else kept) test
  where
    folded : Cells
    folded = record { count = c.count +ℤ value; cells = set c.cells cpu (pos 0) }

    kept : Cells
    kept = record c { cells = set c.cells cpu value }

-- a place of one counter's words is none of another's
elsewhere : (s : Shape) (counter other place : ℕ) → counter ≢ other → row_of s counter ≤ place → place < row_of s counter + (s.cpus + 1) → (q : ℕ) → row_of s other ≤ q → q < row_of s other + (s.cpus + 1) → place ≢ q
elsewhere s counter other place apart from to q from' to' same = dite (dec_le counter other)
    (λ le. absurd (let f = further counter other (s.cpus + 1) (omega arith) in let o : ℕ = row_of s counter in let o' : ℕ = row_of s other in let f' : o + (s.cpus + 1) ≤ o' = f in omega arith))
    (λ gt. absurd (let f = further other counter (s.cpus + 1) (omega arith) in let o : ℕ = row_of s counter in let o' : ℕ = row_of s other in let f' : o' + (s.cpus + 1) ≤ o = f in omega arith))

module _ (s : Shape) (a : CountLine) (old : Me (Unit {0}) Tally) (n : ℕ) (which : a.counter < s.counters) (who : a.cpu < s.cpus) (amount : FitsSigned w32 a.amount) (batch : s.batch ≤ 4294967296)
    (found : IsFound old.0 (cell_of s a.counter a.cpu) n) (low : n < 18446744073709551616) where
  abbrev cell : ℕ
  cell = cell_of s a.counter a.cpu

  abbrev count_at : ℕ
  count_at = row_of s a.counter

  abbrev sum : ℕ
  sum = (n + bits_of a) % 2 ^ 64

  in_row : (cpu : ℕ) → cpu < s.cpus → (row_of s a.counter ≤ cell_of s a.counter cpu) × (cell_of s a.counter cpu < row_of s a.counter + (s.cpus + 1))
  in_row cpu within = let o : ℕ = row_of s a.counter in let e : o ≤ o + 1 + cpu = omega arith in let f : o + 1 + cpu < o + (s.cpus + 1) = omega arith in (e, f)

  longer : length (old.0.adds ++ a ∷ []) ≡ length old.0.adds + 1
  longer = length-append old.0.adds (a ∷ [])

  -- the counters are exact where the one of the add is, and the other words are as they were
  exact_all : (words' : List ℕ) → AreExact s old.0.adds old.0.words → ((place : ℕ) → place ≢ cell → place ≢ count_at → get_or words' place 0 ≡ get_or old.0.words place 0)
      → IsRowOf s a.counter words' (length old.0.adds + 1) (cells_after s a.counter (old.0.adds ++ a ∷ [])) → AreExact s (old.0.adds ++ a ∷ []) words'
  exact_all words' exact others mine counter below = dite (ℕ_discrete counter a.counter)
      (λ same. subst (λ (k : ℕ). IsRowOf s k words' (length (old.0.adds ++ a ∷ [])) (cells_after s k (old.0.adds ++ a ∷ []))) (sym same)
      (subst (λ (most : ℕ). IsRowOf s a.counter words' most (cells_after s a.counter (old.0.adds ++ a ∷ []))) (sym longer) mine))
      (λ apart. subst (λ (most : ℕ). IsRowOf s counter words' most (cells_after s counter (old.0.adds ++ a ∷ []))) (sym longer)
      (subst (IsRowOf s counter words' (length old.0.adds + 1)) (sym (cells_after-other s counter old.0.adds a (λ e. apart (sym e))))
      (row_frame s counter old.0.words words' (length old.0.adds) (cells_after s counter old.0.adds)
      (λ place from to. others place
      (elsewhere s counter a.counter place apart from to cell (in_row a.cpu who).0 (in_row a.cpu who).1)
      (elsewhere s counter a.counter place apart from to count_at (let o : ℕ = count_at in let e : o ≤ o = omega arith in e) (let o : ℕ = count_at in let e : o < o + (s.cpus + 1) = omega arith in e)))
      (exact counter below))))

  pub has_stayed : (new : Me (Unit {0}) Tally) → new ≡ (put_at cell n a old.0, old.1) → old.0.hand ≡ None → nat_abs (cast_signed w64 sum) < s.batch → HasAdded s a old new
  has_stayed new is empty below = subst (HasAdded s a old) (sym is) (record {
    adds = refl;
    room = refl;
    alone = refl;
    hand = empty;
    slots = refl;
    exact = λ alone few wide exact.
        let c = cells_after s a.counter old.0.adds in
        let mine = exact a.counter which in
        let inside : cell < length old.0.words = (let i = inside_all s a which who in omega arith) in
        let v = value_is s old.0.words (length old.0.adds) c a n mine who inside (found alone) low amount few batch in
        let value = get_or c.cells a.cpu (pos 0) +ℤ a.amount in
        let small : nat_abs value < s.batch = subst (λ (z : ℤ). nat_abs z < s.batch) v below in (
          length-set old.0.words cell sum,
          exact_all (set old.0.words cell sum) exact (λ place apart other. get_or-set_other old.0.words cell place sum 0 apart)
              (subst (IsRowOf s a.counter (set old.0.words cell sum) (length old.0.adds + 1)) (sym (cells_after-same s old.0.adds a ∙ small_placed s.batch a.cpu value c small))
              (stays s old.0.words (length old.0.adds) c a n mine who inside (found alone) low amount few batch small)),
        );
  })

  pub has_folded : (one two new : Me (Unit {0}) Tally) (x m : ℕ) → one ≡ (put_at cell n a old.0, old.1) → two ≡ (lifted_at cell x a.counter one.0, one.1) → new ≡ (settled_at count_at m two.0, two.1)
      → IsFound one.0 cell x → IsFound two.0 count_at m → m < 18446744073709551616 → s.batch ≤ nat_abs (cast_signed w64 sum) → HasAdded s a old new
  has_folded one two new x m put lifted settled found_x found_m low_m reached =
      let first : Me (Unit {0}) Tally = (put_at cell n a old.0, old.1) in
      let second : Me (Unit {0}) Tally = (lifted_at cell x a.counter first.0, first.1) in
      let second_is : two ≡ second = lifted ∙ ap (λ (z : Me (Unit {0}) Tally). (lifted_at cell x a.counter z.0, z.1)) put in
      let third : Me (Unit {0}) Tally = (settled_at count_at m second.0, second.1) in
      let third_is : new ≡ third = settled ∙ ap (λ (z : Me (Unit {0}) Tally). (settled_at count_at m z.0, z.1)) second_is in
      let seen_x : IsFound first.0 cell x = subst (λ (z : Me (Unit {0}) Tally). IsFound z.0 cell x) put found_x in
      let seen_m : IsFound second.0 count_at m = subst (λ (z : Me (Unit {0}) Tally). IsFound z.0 count_at m) second_is found_m in
      subst (HasAdded s a old) (sym third_is) (record {
        adds = refl;
        room = refl;
        alone = refl;
        hand = refl;
        slots = refl;
        exact = λ alone few wide exact.
            let c = cells_after s a.counter old.0.adds in
            let mine = exact a.counter which in
            let inside : cell < length old.0.words = (let i = inside_all s a which who in omega arith) in
            let v = value_is s old.0.words (length old.0.adds) c a n mine who inside (found alone) low amount few batch in
            let value = get_or c.cells a.cpu (pos 0) +ℤ a.amount in
            let large : s.batch ≤ nat_abs value = subst (λ (z : ℤ). s.batch ≤ nat_abs z) v reached in
            let taken : x ≡ sum = seen_x alone ∙ get_or-set_same old.0.words cell sum 0 inside in
            let w1 = set old.0.words cell sum in
            let w2 = set w1 cell 0 in
            let w3 = set w2 count_at ((m + x) % 2 ^ 64) in
            let differ : count_at ≢ cell = (λ e. let o : ℕ = count_at in let e' : o ≡ o + 1 + a.cpu = e in omega arith) in
            let counted : m ≡ get_or old.0.words count_at 0 = seen_m alone ∙ get_or-set_other w1 cell count_at 0 0 differ ∙ get_or-set_other old.0.words cell count_at sum 0 differ in (
              length-set w2 count_at ((m + x) % 2 ^ 64) ∙ length-set w1 cell 0 ∙ length-set old.0.words cell sum,
              exact_all w3 exact
                  (λ place apart other. get_or-set_other w2 count_at place ((m + x) % 2 ^ 64) 0 other ∙ get_or-set_other w1 cell place 0 0 apart ∙ get_or-set_other old.0.words cell place sum 0 apart)
                  (subst (IsRowOf s a.counter w3 (length old.0.adds + 1)) (sym (cells_after-same s old.0.adds a ∙ large_placed s.batch a.cpu value c large))
                  (folds s old.0.words (length old.0.adds) c a n mine who inside (found alone) low amount few batch w3 m x refl taken counted low_m)),
            );
      })
