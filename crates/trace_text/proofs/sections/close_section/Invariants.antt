use Rattle.std.proofs.Common.{◌≡◌, ◌-◌, ◌≤◌, ◌++◌, [], replicate}
use Rattle.trace_text.proofs.sections.close_section.Given as goal

abbrev pub invariant-loop-later : goal.invariant-loop-later
invariant-loop-later l = record {
  put : l.sections.items ≡ l.initial.sections.items ++ replicate (l._later - l.caller) [];
  few : l._later - l.caller ≤ l.last - l.caller;
}
