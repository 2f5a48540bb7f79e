-- What every trace keeps of the rules of the model.
use Rattle.std.specs.Prelude.{◌≡◌, ◌+◌, ◌<◌, ◌≤◌, ℕ, List, All, length, map, IsTrue, None}
use Rattle.std.specs.List.{range_with_len}
use Rattle.vm_model.specs.declared.calls.CountLine.{CountLine}
use Rattle.vm_model.specs.Rules.{IsTrace}
use Rattle.vm_model.specs.Words.{is_amount}
use Rattle.unit_layout.specs.Config.{setup_of}
use Rattle.unit_layout.specs.Refusals.{refusal}
use Rattle.trace_text.specs.Reading.{Reading, calls_of, cpus_of}
use Rattle.trace_text.specs.ToldTraces.{config_of, layout_spec}
use Rattle.trace_text.specs.Grammar.{IsTraceOf}
use Rattle.section_laws.specs.Lawful.{AreSmall}

-- a caller that can be picked
pub record IsPick (callers pick : ℕ) : Type 0 where
  pub low : 1 ≤ pick
  pub high : pick ≤ callers

-- one of so many counters is given a signed number of 32 bits by one of so many processors
pub record IsCount (counters cpus : ℕ) (line : CountLine) : Type 0 where
  pub counter : line.counter < counters
  pub cpu : line.cpu < cpus
  pub amount : IsTrue (is_amount line.amount)

-- a count line of the opening or of one of so many callers
abbrev pub IsCountOf : (callers : ℕ) → CountLine → Type 0
IsCountOf callers line = line.caller ≤ callers

-- its numbers are a machine's, on which the calls of its sections may stand; amounts are small; picks and counts are of the header
pub record IsRuledTrace (r : Reading) : Type 0 where
  pub trace : IsTrace (setup_of (config_of r.header)) (calls_of 0 r.calls) (map (λ k. calls_of k r.calls) (range_with_len 1 r.header.callers))
  pub small : (caller : ℕ) → AreSmall (calls_of caller r.calls)
  pub few : length r.calls + length r.counts ≤ 100000
  pub callers_low : 1 ≤ r.header.callers
  pub callers_high : r.header.callers ≤ 16
  pub picks : All (IsPick r.header.callers) r.picks
  pub counters : r.header.counters ≤ 256
  pub batch_low : 1 ≤ r.header.batch
  pub batch_high : r.header.batch ≤ 1000000
  pub counts : All (IsCount r.header.counters (cpus_of r.header)) r.counts
  pub counting : All (IsCountOf r.header.callers) r.counts

-- a text that is a trace and whose layout is not refused keeps the rules
abbrev pub TracesKeepTheRules : Type 0
TracesKeepTheRules = (bytes : List ℕ) (r : Reading) → IsTraceOf bytes r → refusal (layout_spec r.header) ≡ None → IsRuledTrace r
