-- The lines of all shares are the lines of the trace, each once.
use Rattle.std.specs.Prelude.{◌≡◌, ℕ, ◌≤◌, suc, List, All, length, map}
use Rattle.std.specs.List.{range_with_len, flat_map}
use Rattle.vm_model.specs.declared.calls.CountLine.{CountLine}
use Rattle.report_text.specs.CounterTotals.{total, lines_of}
use Rattle.count_lines.specs.LinesOfCaller.{added_by, lines_by}

-- the lines of the opening, and then those of each caller
abbrev pub shared_lines : (callers : ℕ) → List CountLine → List CountLine
shared_lines callers lines = flat_map (λ k. lines_by k lines) (range_with_len 0 (suc callers))

-- each line is the opening's or that of one of so many callers
abbrev pub AreOf : (callers : ℕ) → List CountLine → Type 0
AreOf callers lines = All (λ (l : CountLine). l.caller ≤ callers) lines

abbrev pub EachLineIsShared : Type 0
EachLineIsShared = (callers : ℕ) (lines : List CountLine) → AreOf callers lines → length (shared_lines callers lines) ≡ length lines

abbrev pub SharingKeepsTheTotals : Type 0
SharingKeepsTheTotals = (callers counter : ℕ) (lines : List CountLine) → AreOf callers lines
    → total (lines_of counter (map added_by (shared_lines callers lines))) ≡ total (lines_of counter lines)
