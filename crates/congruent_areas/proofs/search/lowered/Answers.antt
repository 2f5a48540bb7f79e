use Rattle.std.proofs.Common.{ℕ, ◌+◌, ◌≤◌, arith}
use Rattle.std.proofs.lemmas.Bool.{both_ways}
use Rattle.vm_model.specs.Space.{covers}
use Rattle.augmented_tree.specs.FreeBlocks.{IsFree}
use Rattle.congruent_areas.specs.GroupsAtBase.{span_at}
use Rattle.congruent_areas.proofs.Lowering.{first_free, ends_by, IfNone-anyway}
use Rattle.congruent_areas.proofs.search.lowered.Goals as goal

pub returns-in_err-block-clause-none : goal.returns-in_err-block-clause-none
returns-in_err-block-clause-none c =
    IfNone-anyway c.from_residual.result ((b : ℕ) → b ≤ c.args.base → IsFree c.args.free.now.blocks (span_at b c.args.group) → ⊥)
    (λ b le free. both_ways (covers c.args.free.now.blocks (b + c.args.group.offset)) (c.in_err-block.ensures.none (b + c.args.group.offset) (omega arith))
    (first_free c.args.free.now.blocks c.args.group b c.requires.pages free))

pub returns-in_err-high-clause-none : goal.returns-in_err-high-clause-none
returns-in_err-high-clause-none c =
    IfNone-anyway c.from_residual-in_err-high.result ((b : ℕ) → b ≤ c.args.base → IsFree c.args.free.now.blocks (span_at b c.args.group) → ⊥)
    (λ b le free. let short = c.in_err-high.ensures in
    absurd (omega (arith, ends_by c.args.free.now.blocks c.args.group c.args.base b c.in_ok-block.block c.in_ok-block.ensures.found c.requires.pages le free)))

pub returns-clause-above : goal.returns-clause-above
returns-clause-above c b le free =
    omega (arith, ends_by c.args.free.now.blocks c.args.group c.args.base b c.in_ok-block.block c.in_ok-block.ensures.found c.requires.pages le free)
