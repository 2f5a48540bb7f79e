use Rattle.std.proofs.Common.{refl, ap}
use Rattle.vm_model.specs.PlainMap.{Lives}
use Rattle.map_blocks.proofs.Lives.{some_in, some_parts, hand_at, lived_kept, lived_is}
use Rattle.map_blocks.proofs.kept_block.KeptBlock.settle.Goals as goal

pub place_of-place-requires : goal.place_of-place-requires
place_of-place-requires c = some_parts c.args.offset c.args.self.now.block (some_in c.args.offset c.args.self.now.block c.requires.0 c.requires.1)

pub invariant_of-self : goal.invariant_of-self
invariant_of-self c =
    let hand = rw (← c.self.view_is) at c.requires in
    let found = rw (← c.self.view_is) at c.place_of-place.ensures.found in
    let there = rw (← c.self.view_is) at c.place_of-place.ensures.there in
    lived_kept _ _ _ _ _ _ c.self.invariant c.args.offset _ c.index_mut.result.now (hand_at _ _ _ _ hand found there c.index_mut.ensures.value) (Lives c.args.serial) c.settle.new.self c.settle.ensures refl

pub returns : goal.returns
returns c =
    let hand = rw (← c.self.view_is) at c.requires in
    let found = rw (← c.self.view_is) at c.place_of-place.ensures.found in
    let there = rw (← c.self.view_is) at c.place_of-place.ensures.there in
    rw (← c.self.view_is) (ap (λ ps. record { number = c.self.inside.number; pages = c.self.inside.pages; block = record { start = c.self.inside.start; cpu = c.self.inside.cpu; parts = ps } })
    (lived_is _ _ _ _ _ _ c.self.invariant c.args.offset _ c.index_mut.result.now (hand_at _ _ _ _ hand found there c.index_mut.ensures.value) (Lives c.args.serial) c.settle.new.self c.settle.ensures))
