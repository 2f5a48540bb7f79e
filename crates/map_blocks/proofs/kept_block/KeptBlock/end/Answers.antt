use Rattle.std.proofs.Common.{◌≡◌, ap, ◌∙◌, arith}
use Rattle.vm_model.specs.PlainMap.{Ended}
use Rattle.vm_model.specs.Blocks.{size_of}
use Rattle.map_blocks.proofs.Between.{same_read}
use Rattle.map_blocks.proofs.EndedHull.{range_before}
use Rattle.map_blocks.proofs.Lives.{some_in, some_parts, hand_at, open_some, open_most, open_end, dirty_more, ended_kept, lived_is}
use Rattle.map_blocks.proofs.kept_block.KeptBlock.end.Goals as goal

pub place_of-place-requires : goal.place_of-place-requires
place_of-place-requires c = some_parts c.args.offset c.args.self.now.block (some_in c.args.offset c.args.self.now.block c.requires.0 c.requires.1)

pub size-size-requires-clause-low : goal.size-size-requires-clause-low
size-size-requires-clause-low c =
    let hand = rw (← c.self.view_is) at c.requires in
    let found = rw (← c.self.view_is) at c.place_of-place.ensures.found in
    let there = rw (← c.self.view_is) at c.place_of-place.ensures.there in
    open_some _ _ _ _ _ _ c.self.invariant c.args.offset _ c.index.result.now (hand_at _ _ _ _ hand found there c.index.ensures)

pub size-size-requires-clause-high : goal.size-size-requires-clause-high
size-size-requires-clause-high c =
    let hand = rw (← c.self.view_is) at c.requires in
    let found = rw (← c.self.view_is) at c.place_of-place.ensures.found in
    let there = rw (← c.self.view_is) at c.place_of-place.ensures.there in
    open_most _ _ _ _ _ _ c.self.invariant c.args.offset _ c.index.result.now (hand_at _ _ _ _ hand found there c.index.ensures)

pub overflow_add-self : goal.overflow_add-self
overflow_add-self c =
    let hand = rw (← c.self.view_is) at c.requires in
    let found = rw (← c.self.view_is) at c.place_of-place.ensures.found in
    let there = rw (← c.self.view_is) at c.place_of-place.ensures.there in
    let most = dirty_more _ _ _ _ _ _ c.self.invariant c.args.offset _ c.index.result.now (hand_at _ _ _ _ hand found there c.index.ensures) in
    let pages = c.self.invariant.most in
    omega (arith, c.size-size.ensures)

pub wider-requires-clause-end : goal.wider-requires-clause-end
wider-requires-clause-end c =
    let hand = rw (← c.self.view_is) at c.requires in
    let found = rw (← c.self.view_is) at c.place_of-place.ensures.found in
    let there = rw (← c.self.view_is) at c.place_of-place.ensures.there in
    let end = open_end _ _ _ _ _ _ c.self.invariant c.args.offset _ c.index.result.now (hand_at _ _ _ _ hand found there c.index.ensures) in
    let pages = c.self.invariant.most in
    omega (arith, c.size-size.ensures)

pub wider-requires-clause-ends : goal.wider-requires-clause-ends
wider-requires-clause-ends c = λ s e. let within = range_before _ _ _ _ _ _ c.self.invariant s e in let pages = c.self.invariant.most in omega arith

pub invariant_of-self : goal.invariant_of-self
invariant_of-self c =
    let hand = rw (← c.self.view_is) at c.requires in
    let found = rw (← c.self.view_is) at c.place_of-place.ensures.found in
    let there = rw (← c.self.view_is) at c.place_of-place.ensures.there in
    let same : c.index.result.now ≡ c.index_mut.result.now = same_read _ _ _ _ there c.index.ensures c.index_mut.ensures.value in
    ended_kept _ _ _ _ _ _ c.self.invariant c.args.offset _ c.index_mut.result.now (hand_at _ _ _ _ hand found there c.index_mut.ensures.value) c.end.new.self c.size-size.result c.wider.result c.end.ensures
    (c.size-size.ensures ∙ ap size_of same) c.wider.ensures.wider

pub returns : goal.returns
returns c =
    let hand = rw (← c.self.view_is) at c.requires in
    let found = rw (← c.self.view_is) at c.place_of-place.ensures.found in
    let there = rw (← c.self.view_is) at c.place_of-place.ensures.there in
    rw (← c.self.view_is) (ap (λ ps. record { number = c.self.inside.number; pages = c.self.inside.pages; block = record { start = c.self.inside.start; cpu = c.self.inside.cpu; parts = ps } })
    (lived_is _ _ _ _ _ _ c.self.invariant c.args.offset _ c.index_mut.result.now (hand_at _ _ _ _ hand found there c.index_mut.ensures.value) Ended c.end.new.self c.end.ensures))
