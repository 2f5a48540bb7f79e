use Rattle.std.proofs.Common.{◌≡◌, [], ◌∷◌, refl, sym, ap, ◌∙◌}
use Rattle.vm_model.specs.PlainMap.{Part, InHand, lives_as}
use Rattle.map_blocks.proofs.LivePartRows.{same_bits}
use Rattle.map_blocks.proofs.Lives.{none_named, one_named, live_at, lived_kept, lived_is, open_some, open_most}
use Rattle.map_blocks.specs.KeptBlocks.{part_of}
use Rattle.map_blocks.proofs.kept_block.KeptBlock.take_up.Goals as goal

pub returns-then-offset-clause-none : goal.returns-then-offset-clause-none
returns-then-offset-clause-none c =
    let found = rw (← c.self.view_is) at c.place_of-place.ensures.found in
    let there = rw (← c.self.view_is) at c.place_of-place.ensures.there in
    let other = c.if-offset.true in
    rw (← c.self.view_is) (none_named c.args.offset c.args.serial _ _ c.index_mut-part.result.now c.self.invariant.packed found there c.index_mut-part.ensures.value (λ here. absurd (other (c.offset.ensures ∙ here))))

pub returns-then-not-lives_as-clause-none : goal.returns-then-not-lives_as-clause-none
returns-then-not-lives_as-clause-none c =
    let found = rw (← c.self.view_is) at c.place_of-place.ensures.found in
    let there = rw (← c.self.view_is) at c.place_of-place.ensures.there in
    let same : lives_as c.args.serial c.index_mut-part.result.now.life ≡ c.lives_as.result = same_bits _ _ c.lives_as.ensures in
    rw (← c.self.view_is) (none_named c.args.offset c.args.serial _ _ c.index_mut-part.result.now c.self.invariant.packed found there c.index_mut-part.ensures.value (λ here. same ∙ c.if-not-lives_as.true))

pub invariant_of-self-2 : goal.invariant_of-self-2
invariant_of-self-2 c =
    let there = rw (← c.self.view_is) at c.place_of-place.ensures.there in
    let same : lives_as c.args.serial c.index_mut-part.result.now.life ≡ c.lives_as.result = same_bits _ _ c.lives_as.ensures in
    lived_kept _ _ _ _ _ _ c.self.invariant c.args.offset _ c.index_mut-part.result.now (live_at c.args.offset c.args.serial _ _ _ there c.index_mut-part.ensures.value (sym c.offset.ensures ∙ c.if-offset.false) (same ∙ c.if-not-lives_as.false)) (InHand c.args.caller) c.hold.new.self c.hold.ensures refl

pub returns-clause-some : goal.returns-clause-some
returns-clause-some c =
    let there = rw (← c.self.view_is) at c.place_of-place.ensures.there in
    let same : lives_as c.args.serial c.index_mut-part.result.now.life ≡ c.lives_as.result = same_bits _ _ c.lives_as.ensures in
    rw (← c.self.view_is) (one_named c.args.offset c.args.serial _ _ c.index_mut-part.result.now c.self.invariant.packed there c.index_mut-part.ensures.value (sym c.offset.ensures ∙ c.if-offset.false) (same ∙ c.if-not-lives_as.false)
    ∙ ap (λ n. part_of c.args.offset n (record { start = c.self.inside.start; cpu = c.self.inside.cpu; parts = c.self.inside.parts.items }) ∷ []) (sym (c.pages.ensures ∙ ap (λ (p : Part). p.pages) c.hold.ensures)))

pub returns-clause-held : goal.returns-clause-held
returns-clause-held c =
    let there = rw (← c.self.view_is) at c.place_of-place.ensures.there in
    let same : lives_as c.args.serial c.index_mut-part.result.now.life ≡ c.lives_as.result = same_bits _ _ c.lives_as.ensures in
    rw (← c.self.view_is) (ap (λ ps. record { number = c.self.inside.number; pages = c.self.inside.pages; block = record { start = c.self.inside.start; cpu = c.self.inside.cpu; parts = ps } })
    (lived_is _ _ _ _ _ _ c.self.invariant c.args.offset _ c.index_mut-part.result.now (live_at c.args.offset c.args.serial _ _ _ there c.index_mut-part.ensures.value (sym c.offset.ensures ∙ c.if-offset.false) (same ∙ c.if-not-lives_as.false)) (InHand c.args.caller) c.hold.new.self c.hold.ensures))

pub returns-clause-least : goal.returns-clause-least
returns-clause-least c =
    let there = rw (← c.self.view_is) at c.place_of-place.ensures.there in
    let same : lives_as c.args.serial c.index_mut-part.result.now.life ≡ c.lives_as.result = same_bits _ _ c.lives_as.ensures in
    let bound = open_some _ _ _ _ _ _ c.self.invariant c.args.offset _ c.index_mut-part.result.now (live_at c.args.offset c.args.serial _ _ _ there c.index_mut-part.ensures.value (sym c.offset.ensures ∙ c.if-offset.false) (same ∙ c.if-not-lives_as.false)) in
    rw (c.pages.ensures ∙ ap (λ (p : Part). p.pages) c.hold.ensures) bound

pub returns-clause-most : goal.returns-clause-most
returns-clause-most c =
    let there = rw (← c.self.view_is) at c.place_of-place.ensures.there in
    let same : lives_as c.args.serial c.index_mut-part.result.now.life ≡ c.lives_as.result = same_bits _ _ c.lives_as.ensures in
    let bound = open_most _ _ _ _ _ _ c.self.invariant c.args.offset _ c.index_mut-part.result.now (live_at c.args.offset c.args.serial _ _ _ there c.index_mut-part.ensures.value (sym c.offset.ensures ∙ c.if-offset.false) (same ∙ c.if-not-lives_as.false)) in
    rw (c.pages.ensures ∙ ap (λ (p : Part). p.pages) c.hold.ensures) bound

pub returns-clause-dirty : goal.returns-clause-dirty
returns-clause-dirty c = rw (← c.self.view_is) (sym (invariant_of-self-2 c).ended ∙ c.self.invariant.ended)
