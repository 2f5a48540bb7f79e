-- Each line of a trace has its place and keeps its rule, so that what each line keeps holds of the whole trace.
use Rattle.std.proofs.Common.{◌≡◌, ℕ, ◌-◌, ◌≤◌, true, ◌&&◌, ◌||◌, ◌==◌, nat_lt, nat_le, min, List, [], ◌∷◌, sym, subst, arith}
use Rattle.std.proofs.lemmas.Bool.{and_parts}
use Rattle.std.proofs.lemmas.Bool.Decides.{nat_tests}
use Rattle.trace_text.specs.SpelledLines.{Line, is_spelt}
use Rattle.trace_text.specs.Reading.{Reading, unread}
use Rattle.trace_text.specs.Grammar.{IsTraceOf, may_stand, all_stand, read, read_all, rank_of, follows, repeats, is_allowed}
use Rattle.trace_text.proofs.LayoutRanges.{place_and_rule}

-- a line stands behind the first two, and behind none of a later rank
follows_low : (last rank : ℕ) → follows last rank ≡ true → (min (rank - 1) 2 ≤ last) × (last ≤ rank)
follows_low last rank h =
    let parts = and_parts (nat_le (min (rank - 1) 2) last) (nat_lt last rank || ((last == rank) && repeats rank)) h in
    (grind (arith, nat_tests), later parts.1)
  where
    later : (nat_lt last rank || ((last == rank) && repeats rank)) ≡ true → last ≤ rank
    later e = grind (arith, nat_tests)

pub place : (r : Reading) (l : Line) → may_stand r l ≡ true → (min (rank_of l - 1) 2 ≤ r.rank) × (r.rank ≤ rank_of l)
place r l h = follows_low r.rank (rank_of l) (place_and_rule r l h).1

pub spelling : (r : Reading) (l : Line) → may_stand r l ≡ true → is_spelt l ≡ true
spelling r l h = (place_and_rule r l h).0

pub rule : (r : Reading) (l : Line) → may_stand r l ≡ true → is_allowed r l ≡ true
rule r l h = (place_and_rule r l h).2

-- what holds before the first line, and after each line where it held before it
module _ (P : Reading → Type 0) (first : P unread) (kept : (r : Reading) (l : Line) → may_stand r l ≡ true → P r → P (read r l)) where
  kept_by_lines : (lines : List Line) (r : Reading) → all_stand r lines ≡ true → P r → P (read_all r lines)
  kept_by_lines [] r h is = is
  kept_by_lines (l ∷ lines) r h is =
      let parts = and_parts (may_stand r l) (all_stand (read r l) lines) h in
      kept_by_lines lines (read r l) parts.1 (kept r l parts.0 is)

  -- holds of a whole trace
  pub of_trace : (bytes : List ℕ) (r : Reading) → IsTraceOf bytes r → P r
  of_trace bytes r trace = subst P (sym trace.tells) (kept_by_lines trace.lines unread trace.stand first)
