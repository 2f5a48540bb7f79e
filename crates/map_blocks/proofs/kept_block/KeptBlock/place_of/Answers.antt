use Rattle.std.proofs.Common.{◌≡◌, ◌<◌, ◌+◌, ◌-◌, ◌/◌, length, slice_get, Some, ◌∙◌, arith}
use Rattle.map_blocks.proofs.Between.{read_at, between_first, between_up, between_down, between_last}
use Rattle.map_blocks.proofs.kept_block.KeptBlock.place_of.Goals as goal

pub loop-high-init : goal.loop-high-init
loop-high-init c =
    let some = rw (← c.self.view_is) at c.requires in
    let count : c.len-high.result ≡ length c.self.inside.parts.items = c.len-high.ensures ∙ c.self.inside.parts.ok.0 in
    rw (← c.self.view_is) (between_first c.args.offset c.self.inside.parts.items c.len-high.result count (omega arith))

pub index-requires : goal.index-requires
index-requires c =
    let most = rw (← c.self.view_is) at c.loop-high.invariant.most in
    let inside = c.self.inside.parts.ok.0 in
    omega arith

pub loop-high-smaller-then-offset : goal.loop-high-smaller-then-offset
loop-high-smaller-then-offset c = omega arith

pub loop-high-preserved-then-offset : goal.loop-high-preserved-then-offset
loop-high-preserved-then-offset c =
    let between = rw (← c.self.view_is) at c.loop-high.invariant in
    let most = between.most in
    let low : c.loop-high.low + (c.loop-high.high - c.loop-high.low) / 2 < length c.self.inside.parts.items = omega arith in
    let at : slice_get c.self.inside.parts.items (c.loop-high.low + (c.loop-high.high - c.loop-high.low) / 2) ≡ Some c.index.result.now = read_at _ _ _ low c.index.ensures in
    rw (← c.self.view_is) (between_up _ _ _ _ (c.loop-high.low + (c.loop-high.high - c.loop-high.low) / 2) c.index.result.now between c.self.invariant.packed at (omega arith) (omega arith))

pub loop-high-smaller : goal.loop-high-smaller
loop-high-smaller c = omega arith

pub loop-high-preserved : goal.loop-high-preserved
loop-high-preserved c =
    let between = rw (← c.self.view_is) at c.loop-high.invariant in
    let most = between.most in
    let low : c.loop-high.low + (c.loop-high.high - c.loop-high.low) / 2 < length c.self.inside.parts.items = omega arith in
    let at : slice_get c.self.inside.parts.items (c.loop-high.low + (c.loop-high.high - c.loop-high.low) / 2) ≡ Some c.index.result.now = read_at _ _ _ low c.index.ensures in
    rw (← c.self.view_is) (between_down _ _ _ _ (c.loop-high.low + (c.loop-high.high - c.loop-high.low) / 2) c.index.result.now between c.self.invariant.packed at (omega arith) (omega arith) (omega arith))

pub returns-clause-there : goal.returns-clause-there
returns-clause-there c =
    let order = c.loop-high.invariant.order in
    let most = c.loop-high.invariant.most in
    omega arith

pub returns-clause-found : goal.returns-clause-found
returns-clause-found c = between_last _ _ _ _ c.loop-high.invariant c.loop-high-test.false
