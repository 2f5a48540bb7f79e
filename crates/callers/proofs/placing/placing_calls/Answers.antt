use Rattle.std.proofs.Common.{◌≡◌, ◌≤◌, ◌<◌, ◌+◌, ℕ, List, length, take, get_or, sum_by, count_by, ap, sym, subst, ◌∙◌, arith}
use Rattle.std.proofs.lemmas.List.Sums.{sum_by_more_le_part, count_by-le-length}
use Rattle.vm_model.specs.Calls.{can_place}
use Rattle.vm_model.specs.declared.calls.Call.{Call}
use Rattle.callers.proofs.placing.placing_calls.Goals as goal

-- no more calls place objects than there are
few_more : (sections : List (List Call)) (i count more : ℕ) (calls : List Call) → calls ≡ get_or sections i calls → i < length sections → sum_by length sections ≤ 100000
    → count ≡ sum_by (λ calls. count_by can_place calls) (take i sections) → more ≡ count_by can_place calls → count + more ≤ 100000
few_more sections i count more calls here inside few so_far own =
    let part = sum_by_more_le_part (λ calls. count_by can_place calls) length sections i calls inside (λ calls. count_by-le-length can_place calls) in
    let low = count_by-le-length can_place calls in
    let same = ap length here in
    omega arith

pub overflow_add-count : goal.overflow_add-count
overflow_add-count c =
    let few = few_more c.as_slice-calls-items.result.now c.loop-calls.calls-index c.loop-calls.count c.placing_in-count.result c.calls-item.result c.calls-item.is c.loop-calls-test.true (subst (λ sections. sum_by length sections ≤ 100000) (sym c.as_slice-calls-items.ensures) c.requires) c.loop-calls.invariant (c.placing_in-count.ensures ∙ ap (count_by can_place) c.as_slice.ensures) in
    omega arith
