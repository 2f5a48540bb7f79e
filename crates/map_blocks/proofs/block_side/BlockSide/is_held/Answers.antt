use Rattle.std.proofs.Common.{sym, arith}
use Rattle.map_blocks.proofs.BlockConditions.{held_of, held_known, never_held}
use Rattle.map_blocks.proofs.block_side.BlockSide.is_held.Goals as goal

pub returns-in-Some : goal.returns-in-Some
returns-in-Some c =
    let at = rw c.in-Some.is at c.get.ensures.value in
    rw (← c.self.view_is) (
      (λ yes. held_of _ _ _ c.args.part.now.block c.args.part.now.offset c.self.inside.blocks.entries c.in-Some.block.now (omega (arith, c.self.invariant.least)) c.self.invariant.apart (sym at) (c.is_in_hand.ensures.0 yes)),
      (λ held. c.is_in_hand.ensures.1 (held_known _ _ _ c.args.part.now.block c.args.part.now.offset c.self.inside.blocks.entries c.in-Some.block.now (omega (arith, c.self.invariant.least)) c.self.invariant.apart (sym at) held)),
    )

pub returns-in-None : goal.returns-in-None
returns-in-None c =
    let at = rw c.in-None.is at c.get.ensures.value in
    rw (← c.self.view_is) (
      (λ yes. cc),
      (λ held. absurd (never_held _ _ _ c.args.part.now.block c.args.part.now.offset c.self.inside.blocks.entries (omega (arith, c.self.invariant.least)) c.self.invariant.apart (sym at) held)),
    )
