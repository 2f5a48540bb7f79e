-- A trace whose layout is not refused keeps the rules of the model.
use Rattle.std.proofs.Common.{◌≡◌, ℕ, zero, suc, ◌+◌, ◌≤◌, List, [], length, map, slice_get, Some, subst, arith}
use Rattle.std.specs.List.{range_with_len}
use Rattle.std.proofs.lemmas.List.FromFn.{length-map-range_with_len}
use Rattle.std.proofs.lemmas.List.Sums.{sum_by-cons}
use Rattle.vm_model.specs.declared.calls.Call.{Call}
use Rattle.vm_model.specs.Setup.{Setup, cpus}
use Rattle.vm_model.specs.Rules.{AreRuled}
use Rattle.unit_layout.specs.Config.{setup_of}
use Rattle.unit_layout.specs.LayoutRule.{division_of}
use Rattle.unit_layout.proofs.GroupPlaces.{units_in_all}
use Rattle.trace_text.specs.Reading.{Reading, calls_of, cpus_of, groups_of}
use Rattle.trace_text.specs.ToldTraces.{all_calls, config_of, layout_spec}
use Rattle.trace_text.proofs.HeaderRanges.{header_in_range, trace_gives_setup}
use Rattle.section_laws.specs.Lawful.{AreSmall}
use Rattle.trace_rules.specs.RuledTraces.{IsRuledTrace, TracesKeepTheRules}
use Rattle.trace_rules.proofs.TraceLines.{of_trace}
use Rattle.trace_rules.proofs.SmallCalls.{all_small}
use Rattle.trace_rules.proofs.AllSections.{AreAllRuled}
use Rattle.trace_rules.proofs.RuledLines.{IsRuledSoFar, ruled_first, line_ruled}
use Rattle.trace_rules.proofs.SectionSizes.{sections_length, section_at}
use Rattle.trace_rules.proofs.PicksAndCounts.{HasFewLines, few_kept, ArePicked, picked_first, picks_kept, AreCounted, counted_first, counts_kept, AreOfCallers, of_callers_first, of_callers_kept}

-- the machine of a trace, which has the processors of its header
abbrev setup : Reading → Setup
setup r = setup_of (config_of r.header)

own_cpus : (r : Reading) → cpus (setup r) ≡ cpus_of r.header
own_cpus r = units_in_all (division_of (layout_spec r.header)) (groups_of r.header.groups)

module _ (r : Reading) (all : AreAllRuled r) where
  -- the calls of a caller may name the opening's
  opening_named : (caller : ℕ) → 1 ≤ caller → AreRuled (setup r) (calls_of 0 r.calls) [] (calls_of caller r.calls)
  opening_named zero low = absurd (omega arith)
  opening_named (suc caller) low = all (setup r) (own_cpus r) (suc caller)

  own_ruled : (first n k : ℕ) (own : List Call) → 1 ≤ first → slice_get (map (λ k. calls_of k r.calls) (range_with_len first n)) k ≡ Some own → AreRuled (setup r) (calls_of 0 r.calls) [] own
  own_ruled first zero k own low h = cc
  own_ruled first (suc n) zero own low h = let e : calls_of first r.calls ≡ own = cc in subst (AreRuled (setup r) (calls_of 0 r.calls) []) e (opening_named first low)
  own_ruled first (suc n) (suc k) own low h = own_ruled (first + 1) n k own (omega arith) h

pub traces_keep_the_rules : TracesKeepTheRules
traces_keep_the_rules bytes r trace laid =
    let callers = (header_in_range bytes r trace).callers in
    let lines = of_trace IsRuledSoFar ruled_first line_ruled bytes r trace in
    let few = of_trace HasFewLines (omega arith) few_kept bytes r trace in
    let picked = of_trace ArePicked picked_first picks_kept bytes r trace in
    let counted = of_trace AreCounted counted_first counts_kept bytes r trace in
    let sections = of_trace AreOfCallers of_callers_first of_callers_kept bytes r trace in
    let many = length-map-range_with_len (λ k. calls_of k r.calls) 1 r.header.callers in
    record {
      trace = record {
        setup = trace_gives_setup bytes r trace laid;
        callers_low = let low = callers.0 in omega arith;
        callers_high = let high = callers.1 in omega arith;
        few = omega (arith, sections_length (suc r.header.callers) r.calls, sum_by-cons {X = List Call} length (calls_of 0 r.calls) (map (λ k. calls_of k r.calls) (range_with_len 1 r.header.callers)));
        opening_ruled = lines.ruled (setup r) (own_cpus r) 0;
        callers_ruled = λ k own at. own_ruled r lines.ruled 1 r.header.callers k own (omega arith) at;
      };
      small = λ caller. all_small caller r.calls lines.small;
      few = few;
      callers_low = callers.0;
      callers_high = callers.1;
      picks = picked.picks;
      counters = counted.counters;
      batch_low = counted.batch_low;
      batch_high = counted.batch_high;
      counts = counted.counts;
      counting = sections.counting;
    }

-- the amounts of all its sections are small
pub sections_small : (r : Reading) → IsRuledTrace r → (k : ℕ) (own : List Call) → slice_get (all_calls r) k ≡ Some own → AreSmall own
sections_small r is k own at = let (caller, same) = section_at (λ k. calls_of k r.calls) 0 (suc r.header.callers) k own at in subst AreSmall same (is.small caller)
