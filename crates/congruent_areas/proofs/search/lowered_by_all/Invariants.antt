use Rattle.std.proofs.Common.{◌≡◌, ℕ, ◌%◌, ◌≤◌, All, take}
use Rattle.unit_layout.specs.declared.layout.Group.{Group}
use Rattle.augmented_tree.specs.FreeBlocks.{IsFree}
use Rattle.congruent_areas.specs.GroupsAtBase.{IsBase, span_at}
use Rattle.congruent_areas.proofs.search.lowered_by_all.Given as goal

abbrev pub invariant-loop-group : goal.invariant-loop-group
invariant-loop-group l = record {
  lower : l.base ≤ l.from;
  aligned : l.base % l.align ≡ 0;
  fit : l.base ≡ l.from → All (λ (g : Group). IsFree l.free.blocks (span_at l.from g)) (take l.group-index l.groups);
  above : (b : ℕ) → b ≤ l.from → IsBase l.free.blocks l.groups l.align b → b ≤ l.base;
}
