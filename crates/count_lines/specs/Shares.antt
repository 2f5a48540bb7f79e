-- Shares of a pass of counters.
use Rattle.std.specs.Prelude.{◌≡◌, ℕ, ◌<◌, ◌≤◌, List, All, length, map, slice_get, IfSome}
use Rattle.std.specs.List.{range_with_len, flat_map}
use Rattle.vm_model.specs.declared.calls.CountLine.{CountLine}
use Rattle.percpu_counters.specs.declared.table.Shape.{Shape}
use Rattle.percpu_counters.specs.declared.counters.Counters.{Counters}
use Rattle.percpu_counters.specs.Passes.{shape_of, IsPassOf}
use Rattle.count_lines.specs.declared.share.Share.{Share}
use Rattle.count_lines.specs.LinesOfCaller.{lines_by}

-- whose lines they are, the lines, and how many of them were added
abbrev pub caller_of : Share → ℕ
caller_of s = s.caller

abbrev pub lines_in : Share → List CountLine
lines_in s = s.lines.items

abbrev pub done_in : Share → ℕ
done_in s = s.done

-- a line that gives to a counter by a processor of the start, and is the opening's or that of one of so many callers
pub record IsLineOf (s : Shape) (callers : ℕ) (l : CountLine) : Type 0 where
  pub counter : l.counter < s.counters
  pub cpu : l.cpu < s.cpus
  pub caller : l.caller ≤ callers

-- a line whose cell there is
pub record HasCell (s : Shape) (l : CountLine) : Type 0 where
  pub counter : l.counter < s.counters
  pub cpu : l.cpu < s.cpus

-- a share of a pass of these counters
pub record IsShareOf (c : Counters) (s : Share) : Type 0 where
  pub pass : IsPassOf c s.pass
  pub cells : All (HasCell (shape_of c)) (lines_in s)

-- a share with the same lines of the same caller
pub record HasSameLines (old new : Share) : Type 0 where
  pub caller : caller_of new ≡ caller_of old
  pub lines : lines_in new ≡ lines_in old

-- no line is left
abbrev pub IsFinished : Share → Type 0
IsFinished s = done_in s ≡ length (lines_in s)

-- what was added more are the next lines before which so many calls or fewer stand; before the line behind them stand more
pub record HasCountedTo (calls : ℕ) (old new : Share) : Type 0 where
  pub share : HasSameLines old new
  pub more : done_in old ≤ done_in new
  pub due : (i : ℕ) → done_in old ≤ i → i < done_in new → IfSome (slice_get (lines_in old) i) (λ (l : CountLine). l.after ≤ calls)
  pub next : IfSome (slice_get (lines_in old) (done_in new)) (λ (l : CountLine). calls < l.after)

-- a share for each caller from 1, with all its lines, of which none was added
pub record AreSharesOf (c : Counters) (callers : ℕ) (lines : List CountLine) (shares : List Share) : Type 0 where
  pub each : All (IsShareOf c) shares
  pub named : map caller_of shares ≡ range_with_len 1 callers
  pub own : flat_map lines_in shares ≡ flat_map (λ k. lines_by k lines) (range_with_len 1 callers)
  pub begin : All (λ s. done_in s ≡ 0) shares

-- these shares, once all their lines were added
pub record HaveFinished (c : Counters) (given left : List Share) : Type 0 where
  pub each : All (IsShareOf c) left
  pub finished : All IsFinished left
  pub lines : flat_map lines_in left ≡ flat_map lines_in given
