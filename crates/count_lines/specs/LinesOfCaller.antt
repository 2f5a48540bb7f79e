-- The count lines of one caller, and what is added for a line.
use Rattle.std.specs.Prelude.{ℕ, ◌==◌, List, filter}
use Rattle.vm_model.specs.declared.calls.CountLine.{CountLine}
use Rattle.percpu_counters.specs.Passes.{line_of}

-- what is recorded for a line: its amount, without the place where it stands
abbrev pub added_by : CountLine → CountLine
added_by l = line_of l.counter l.cpu l.amount

-- the lines of a caller, in their order; those of caller 0 are the opening's
abbrev pub lines_by : (caller : ℕ) → List CountLine → List CountLine
lines_by caller lines = filter (λ (l : CountLine). l.caller == caller) lines
