use Rattle.std.proofs.Common.{◌≡◌, ℕ, List, ap, sym, subst, ◌∙◌, arith}
use Rattle.std.specs.Map.{values_of}
use Rattle.map_blocks.specs.BlockRows.{BlockRows}
use Rattle.map_blocks.specs.KeptBlocks.{KeptRow}
use Rattle.map_blocks.proofs.SortedByNumber.{Holds}
use Rattle.map_blocks.proofs.BlockConditions.{IsApart, IsClear, unused_of, clear_of, clear_apart}
use Rattle.map_blocks.proofs.block_side.BlockSide.is_unused.Goals as goal

pub loop-block-init : goal.loop-block-init
loop-block-init c = ((λ each. each), (λ each. each))

pub loop-block-preserved : goal.loop-block-preserved
loop-block-preserved c = (
  (λ rest. c.loop-block.invariant.0 (subst (λ (rows : List KeptRow). Holds (IsApart c.args.start) rows) (sym c.in-Some.ensures.steps) (c.is_apart_from.ensures.0 c.if-not-is_apart_from.false, rest))),
  (λ all. (subst (λ (rows : List KeptRow). Holds (IsClear c.args.self.now.pages c.args.start) rows) c.in-Some.ensures.steps (c.loop-block.invariant.1 all)).1),
)

pub returns-clause-unused : goal.returns-clause-unused
returns-clause-unused c = λ yes.
    let all = c.into_iter-block-iterator.ensures.into_iter_gives ∙ c.values-block-items.ensures.rest in
    let each = c.loop-block.invariant.0 (subst (λ (rows : List KeptRow). Holds (IsApart c.args.start) rows) (sym c.in-None.ensures.steps.0) tt) in
    rw (← c.self.view_is) (unused_of _ _ _ c.args.start c.self.inside.blocks.entries c.self.invariant.apart (subst (λ (rows : List KeptRow). Holds (IsApart c.args.start) rows) all each))

pub returns-then-not-is_apart_from-clause-only : goal.returns-then-not-is_apart_from-clause-only
returns-then-not-is_apart_from-clause-only c =
    let all = c.into_iter-block-iterator.ensures.into_iter_gives ∙ c.values-block-items.ensures.rest in
    let start = c.args.start in
    let pages = c.args.self.now.pages in
    let same : c.self.inside.pages ≡ pages = ap (λ (v : BlockRows). v.pages) c.self.view_is in
    rw (← c.self.view_is) (λ end unused.
    let clear = subst (λ (n : ℕ). Holds (IsClear n start) (values_of c.self.inside.blocks.entries)) same (clear_of _ _ _ start c.self.inside.blocks.entries c.self.invariant.apart unused) in
    let there = c.loop-block.invariant.1 (subst (λ (rows : List KeptRow). Holds (IsClear pages start) rows) (sym all) clear) in
    let first = (subst (λ (rows : List KeptRow). Holds (IsClear pages start) rows) c.in-Some.ensures.steps there).0 in
    let yes = c.is_apart_from.ensures.1 (clear_apart pages start c.in-Some.block.now (omega (arith, c.self.invariant.least)) first) in
    cc)
