use Rattle.std.proofs.Common.{◌≡◌, ℕ, ◌+◌, ◌&&◌, not, Bool, true, List, take}
use Rattle.vm_model.specs.Space.{covers, paint}
use Rattle.augmented_tree.specs.FreeBlocks.{AreFreeRuns}
use Rattle.congruent_areas.specs.GroupsAtBase.{spans_at}
use Rattle.congruent_areas.proofs.search.carve_spans.Given as goal

abbrev pub invariant-loop-group : goal.invariant-loop-group
invariant-loop-group l = record {
  spans : l.spans ≡ spans_at l.base (take l.group-index l.groups);
  cover : (page : ℕ) → covers l.free.blocks page ≡ (covers l.initial.free.blocks page && not (covers (spans_at l.base (take l.group-index l.groups)) page));
  runs : (taken : List Bool) → AreFreeRuns l.initial.free taken → AreFreeRuns l.free (paint (covers (spans_at l.base (take l.group-index l.groups))) true taken);
  spare : l.free.spare + l.group-index ≡ l.initial.free.spare;
}
