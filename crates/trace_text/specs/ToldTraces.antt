-- What a whole trace tells.
use Rattle.std.specs.Prelude.{◌≡◌, ℕ, suc, List, map, Some, None}
use Rattle.std.specs.List.{range_with_len}
use Rattle.vm_model.specs.declared.calls.Call.{Call}
use Rattle.vm_model.specs.declared.calls.CountLine.{CountLine}
use Rattle.unit_layout.specs.declared.config.Config.{Config}
use Rattle.unit_layout.specs.declared.errors.LayoutError.{LayoutError}
use Rattle.unit_layout.specs.declared.request.GroupSpec.{GroupSpec}
use Rattle.unit_layout.specs.declared.request.LayoutSpec.{LayoutSpec}
use Rattle.unit_layout.specs.Refusals.{refusal}
use Rattle.unit_layout.specs.LayoutRule.{layout_of}
use Rattle.trace_text.specs.declared.trace.Trace.{Trace}
use Rattle.trace_text.specs.Reading.{Reading, Header, calls_of, groups_of}
use Rattle.trace_text.specs.Grammar.{IsTraceOf}

pub record Told : Type 0 where
  pub space : ℕ
  pub frames : ℕ
  pub lazy : ℕ
  pub block_pages : ℕ
  pub part_limit : ℕ
  pub unit_pages : ℕ
  pub atom : ℕ
  pub groups : List GroupSpec
  pub callers : ℕ
  pub counters : ℕ
  pub batch : ℕ
  pub calls : List (List Call)
  pub counts : List CountLine
  pub picks : List ℕ

-- the calls of the opening, and then those of each caller
abbrev pub all_calls : Reading → List (List Call)
all_calls r = map (λ k. calls_of k r.calls) (range_with_len 0 (suc r.header.callers))

abbrev pub told : Reading → Told
told r = record {
  space = r.header.space;
  frames = r.header.frames;
  lazy = r.header.lazy;
  block_pages = r.header.block_pages;
  part_limit = r.header.part_limit;
  unit_pages = r.header.unit_pages;
  atom = r.header.atom;
  groups = groups_of r.header.groups;
  callers = r.header.callers;
  counters = r.header.counters;
  batch = r.header.batch;
  calls = all_calls r;
  counts = r.counts;
  picks = r.picks;
}

-- the layout that a header with these numbers and groups asks for
abbrev pub asked_layout : (unit_pages atom : ℕ) → List GroupSpec → LayoutSpec
asked_layout unit_pages atom groups = record { unit = unit_pages; atom = atom; groups = groups_of groups }

abbrev pub layout_spec : Header → LayoutSpec
layout_spec h = asked_layout h.unit_pages h.atom h.groups

abbrev pub config_of : Header → Config
config_of h = record { space = h.space; frames = h.frames; lazy = h.lazy; block_pages = h.block_pages; part_limit = h.part_limit; layout = layout_of (layout_spec h) }

-- whatever trace the bytes are, its layout stands
abbrev pub LayoutStands : List ℕ → Type 0
LayoutStands bytes = (reading : Reading) → IsTraceOf bytes reading → refusal (layout_spec reading.header) ≡ None

-- the bytes are a trace, and this is wrong with its layout
abbrev pub IsRefusedLayout : List ℕ → LayoutError → Type 0
IsRefusedLayout bytes error = (reading : Reading) × IsTraceOf bytes reading × (refusal (layout_spec reading.header) ≡ Some error)

-- a trace that says what was read
pub record Tells (trace : Trace) (reading : Reading) : Type 0 where
  pub config : trace.config ≡ config_of reading.header
  pub calls : trace.calls ≡ all_calls reading
  pub counts : trace.counts ≡ reading.counts
  pub picks : trace.picks ≡ reading.picks
  pub callers : trace.callers ≡ reading.header.callers
  pub counters : trace.counters ≡ reading.header.counters
  pub batch : trace.batch ≡ reading.header.batch
