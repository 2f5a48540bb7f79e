use Rattle.std.proofs.Common.{◌≡◌, ◌≤◌, ◌+◌, ◌++◌, suc, ℕ, List, Some, map, length, slice_get}
use Rattle.std.specs.Arc.{arc_value}
use Rattle.vm_model.specs.declared.calls.Call.{Call}
use Rattle.unit_layout.specs.Config.{setup_of}
use Rattle.vm_model.specs.History.{callers_from}
use Rattle.callers.specs.CallerParts.{answer_of, AreSound}
use Rattle.callers.proofs.local.first_callers.Given as goal

abbrev pub invariant-loop-alloc : goal.invariant-loop-alloc
invariant-loop-alloc l = record {
  told : callers_from (setup_of (arc_value l.config)) (map answer_of (arc_value l.opening)) 1 l.fn.sections.items ≡ l.callers.items ++ callers_from (setup_of (arc_value l.config)) (map answer_of (arc_value l.opening)) (suc (length l.callers.items)) l.rest.items;
  few : length l.callers.items + length l.rest.items ≤ 16;
  sound : (k : ℕ) (own : List Call) → slice_get l.rest.items k ≡ Some own → AreSound own;
  short : (k : ℕ) (own : List Call) → slice_get l.rest.items k ≡ Some own → length own ≤ 100000;
}

abbrev pub decreases-loop-alloc : goal.decreases-loop-alloc
decreases-loop-alloc l = length l.rest.items
