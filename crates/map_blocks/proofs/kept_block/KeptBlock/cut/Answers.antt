use Rattle.std.proofs.Common.{◌≤◌, ◌<◌, ◌++◌, ◌∷◌, [], length, vec_capacity, rules, ap, ◌∙◌, arith}
use Rattle.vm_model.specs.Blocks.{rounded}
use Rattle.map_blocks.proofs.OneMorePart.{room_more, few_pages, cut_kept}
use Rattle.map_blocks.proofs.kept_block.KeptBlock.cut.Goals as goal

pub push_reserved-requires : goal.push_reserved-requires
push_reserved-requires c =
    let fits : rounded c.args.pages ≤ c.self.inside.free = omega (arith, (rw (← c.self.view_is) at c.requires.room), c.self.invariant.given) in
    let low : length c.self.inside.parts.items < vec_capacity c.self.inside.parts = room_more _ _ _ _ _ _ c.args.pages c.self.invariant c.requires.least fits c.ranges.pages.fits in
    search rules

pub rounded-requires-clause-high : goal.rounded-requires-clause-high
rounded-requires-clause-high c =
    let fits : rounded c.args.pages ≤ c.self.inside.free = omega (arith, (rw (← c.self.view_is) at c.requires.room), c.self.invariant.given) in
    few_pages _ _ _ _ _ _ c.args.pages c.self.invariant fits c.ranges.pages.fits

pub invariant_of-self : goal.invariant_of-self
invariant_of-self c =
    let fits : rounded c.args.pages ≤ c.self.inside.free = omega (arith, (rw (← c.self.view_is) at c.requires.room), c.self.invariant.given) in
    rw (c.rounded.ensures, c.push_reserved.ensures.capacity)
    (cut_kept _ _ _ _ _ _ c.args.pages c.args.caller _ c.self.invariant c.requires.least fits c.ranges.pages.fits (c.push_reserved.ensures.items ∙ ap (λ x. c.self.inside.parts.items ++ x ∷ []) c.new.ensures))
