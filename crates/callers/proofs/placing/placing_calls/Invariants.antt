use Rattle.std.proofs.Common.{◌≡◌, take, sum_by, count_by}
use Rattle.vm_model.specs.Calls.{can_place}
use Rattle.callers.proofs.placing.placing_calls.Given as goal

abbrev pub invariant-loop-calls : goal.invariant-loop-calls
invariant-loop-calls l = l.count ≡ sum_by (λ calls. count_by can_place calls) (take l.calls-index l.calls-items)
