-- Calls that are counted, and of which those with a listed number fail.
use Rattle.std.specs.Prelude.{ℕ, ◌+◌, ◌==◌, Bool, List, if◌then◌else◌, min}
use Rattle.std.specs.List.{list_any}
use Rattle.trace_replay.specs.Streams.{one_more}

pub record Calls : Type 0 where
  -- the numbers, from 1, of the calls that fail
  pub failing : List ℕ
  -- how many calls were made, and how many of them failed
  pub made : ℕ
  pub faults : ℕ

-- the number of the next call: after 4,294,967,294 calls it stays
abbrev pub next_number : Calls → ℕ
next_number calls = min (calls.made + 1) 4294967295

-- whether the next call fails
abbrev pub next_fails : Calls → Bool
next_fails calls = list_any (λ (number : ℕ). number == next_number calls) calls.failing

-- after the next call
abbrev pub counted : Calls → Calls
counted calls = record calls {
  made = next_number calls;
  faults = if next_fails calls then one_more calls.faults else calls.faults;
}
