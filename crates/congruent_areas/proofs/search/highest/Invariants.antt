use Rattle.std.proofs.Common.{◌≡◌, ℕ, ◌%◌, ◌≤◌}
use Rattle.congruent_areas.specs.GroupsAtBase.{IsBase}
use Rattle.congruent_areas.proofs.search.highest.Given as goal

-- no base above this one takes the groups
abbrev pub invariant-loop-lower : goal.invariant-loop-lower
invariant-loop-lower l = record {
  within : l.base ≤ 1048576;
  aligned : l.base % l.align ≡ 0;
  greatest : (b : ℕ) → IsBase l.free.blocks l.groups l.align b → b ≤ l.base;
}

abbrev pub decreases-loop-lower : goal.decreases-loop-lower
decreases-loop-lower l = l.base
