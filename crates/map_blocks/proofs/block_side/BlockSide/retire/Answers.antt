use Rattle.std.proofs.Common.{◌≡◌, true, false, refl, sym, ap, subst, ◌∙◌, arith}
use Rattle.std.specs.Map.{values_of, remove_entry}
use Rattle.vm_model.specs.PlainMap.{Ended}
use Rattle.vm_model.specs.Blocks as model
use Rattle.vm_model.specs.Blocks.{parts_size, is_spent}
use Rattle.map_blocks.specs.BlockRows.{sized, at_of}
use Rattle.map_blocks.specs.KeptBlocks.{KeptRow, IsInHand, with_life_at}
use Rattle.map_blocks.specs.KeptBlockSides.{AreKept, blocks_in}
use Rattle.map_blocks.proofs.LivePartRows.{same_bits}
use Rattle.map_blocks.proofs.BlocksByStart.{at_key, found}
use Rattle.map_blocks.proofs.BlocksInOrder.{hand_in}
use Rattle.map_blocks.proofs.WrittenBlocks.{life_kept, written_blocks}
use Rattle.map_blocks.proofs.Retired.{passes_changed, remove_set, removed_kept, without_one, without_none, spent_full}
use Rattle.map_blocks.proofs.block_side.BlockSide.retire.Goals as goal

pub unreachable-requires : goal.unreachable-requires
unreachable-requires c =
    let held = rw (← c.self.view_is) at c.requires.held in
    let hand = hand_in _ _ _ c.args.part.now.block c.args.part.now.offset held.0 _ (omega (arith, c.self.invariant.least)) c.self.invariant.apart held.1 in
    let none = rw c.in_default.is at c.get_mut.ensures.value in
    let at = hand.at in
    cc

pub end-requires : goal.end-requires
end-requires c =
    let held = rw (← c.self.view_is) at c.requires.held in
    let hand = hand_in _ _ _ c.args.part.now.block c.args.part.now.offset held.0 _ (omega (arith, c.self.invariant.least)) c.self.invariant.apart held.1 in
    let at = rw c.in-Some.is at c.get_mut.ensures.value in
    let is = hand.at in
    let same : hand.row ≡ c.in-Some.block.now = cc in
    subst (λ (r : KeptRow). IsInHand c.args.part.now.offset r.block) same hand.hand

pub invariant_of-self : goal.invariant_of-self
invariant_of-self c =
    let at = rw c.in-Some.is at c.get_mut.ensures.value in
    let own = (found _ _ _ 0 c.args.part.now.block _ c.in-Some.block.now c.self.invariant.apart (sym at)).own in
    let spent : is_spent (sized c.self.inside.pages) (with_life_at c.args.part.now.offset Ended c.in-Some.block.now).block ≡ true =
    ap (λ n. is_spent (sized n) (with_life_at c.args.part.now.offset Ended c.in-Some.block.now).block) (sym own.size) ∙ ap (λ (r : KeptRow). is_spent (sized r.pages) r.block) (sym c.end.ensures) ∙ same_bits _ _ c.is_spent.ensures ∙ c.if-is_spent.true in
    subst (λ es. AreKept c.self.inside.cpu c.self.inside.pages es c.self.inside.queue.items c.self.inside.added)
    (sym (c.remove.ensures.entries ∙ ap (λ es. remove_entry (at_key c.args.part.now.block) es) (c.get_mut.follows.holds c.end.new.self).0 ∙ remove_set c.args.part.now.block c.self.inside.blocks.entries c.end.new.self))
    (removed_kept _ _ _ c.args.part.now.block _ c.in-Some.block.now _ c.self.invariant (sym at) (spent_full c.self.inside.pages c.args.part.now.offset Ended c.in-Some.block.now.block spent))

pub returns-then-is_spent-clause-some : goal.returns-then-is_spent-clause-some
returns-then-is_spent-clause-some c =
    let at = rw c.in-Some.is at c.get_mut.ensures.value in
    let own = (found _ _ _ 0 c.args.part.now.block _ c.in-Some.block.now c.self.invariant.apart (sym at)).own in
    let spent : is_spent (sized c.self.inside.pages) (with_life_at c.args.part.now.offset Ended c.in-Some.block.now).block ≡ true =
    ap (λ n. is_spent (sized n) (with_life_at c.args.part.now.offset Ended c.in-Some.block.now).block) (sym own.size) ∙ ap (λ (r : KeptRow). is_spent (sized r.pages) r.block) (sym c.end.ensures) ∙ same_bits _ _ c.is_spent.ensures ∙ c.if-is_spent.true in
    rw (← c.self.view_is) (passes_changed _ _ _ c.args.part.now.block (model.with_life (at_of c.self.inside.cpu c.args.part.now) Ended) (is_spent (sized c.self.inside.pages)) c.self.inside.blocks.entries c.in-Some.block.now (omega (arith, c.self.invariant.least)) c.self.invariant.apart (sym at) (λ b. refl) ∙ spent)

pub returns-then-is_spent-clause-ended : goal.returns-then-is_spent-clause-ended
returns-then-is_spent-clause-ended c =
    let at = rw c.in-Some.is at c.get_mut.ensures.value in
    let own = (found _ _ _ 0 c.args.part.now.block _ c.in-Some.block.now c.self.invariant.apart (sym at)).own in
    let spent : is_spent (sized c.self.inside.pages) (with_life_at c.args.part.now.offset Ended c.in-Some.block.now).block ≡ true =
    ap (λ n. is_spent (sized n) (with_life_at c.args.part.now.offset Ended c.in-Some.block.now).block) (sym own.size) ∙ ap (λ (r : KeptRow). is_spent (sized r.pages) r.block) (sym c.end.ensures) ∙ same_bits _ _ c.is_spent.ensures ∙ c.if-is_spent.true in
    rw (← c.self.view_is) (ap (λ bs. record { cpu = c.self.inside.cpu; pages = c.self.inside.pages; blocks = bs; next = c.self.inside.next })
    (ap (λ es. blocks_in (values_of es)) (c.remove.ensures.entries ∙ ap (λ es. remove_entry (at_key c.args.part.now.block) es) (c.get_mut.follows.holds c.end.new.self).0 ∙ remove_set c.args.part.now.block c.self.inside.blocks.entries c.end.new.self)
    ∙ without_one _ _ _ c.args.part.now.block (model.with_life (at_of c.self.inside.cpu c.args.part.now) Ended) _ c.in-Some.block.now (omega (arith, c.self.invariant.least)) c.self.invariant.apart (sym at) spent))

pub invariant_of-self-else-is_spent : goal.invariant_of-self-else-is_spent
invariant_of-self-else-is_spent c =
    let at = rw c.in-Some.is at c.get_mut.ensures.value in
    let own = (found _ _ _ 0 c.args.part.now.block _ c.in-Some.block.now c.self.invariant.apart (sym at)).own in
    let unspent : is_spent (sized c.self.inside.pages) (with_life_at c.args.part.now.offset Ended c.in-Some.block.now).block ≡ false =
    ap (λ n. is_spent (sized n) (with_life_at c.args.part.now.offset Ended c.in-Some.block.now).block) (sym own.size) ∙ ap (λ (r : KeptRow). is_spent (sized r.pages) r.block) (sym c.end.ensures) ∙ same_bits _ _ c.is_spent.ensures ∙ c.if-is_spent.false in
    life_kept _ _ _ c.args.part.now.block c.args.part.now.offset Ended _ _ c.in-Some.block.now c.end.new.self _ c.self.invariant (sym at) c.end.ensures unspent (c.get_mut.follows.holds c.end.new.self).0

pub returns-clause-none : goal.returns-clause-none
returns-clause-none c =
    let at = rw c.in-Some.is at c.get_mut.ensures.value in
    let own = (found _ _ _ 0 c.args.part.now.block _ c.in-Some.block.now c.self.invariant.apart (sym at)).own in
    let unspent : is_spent (sized c.self.inside.pages) (with_life_at c.args.part.now.offset Ended c.in-Some.block.now).block ≡ false =
    ap (λ n. is_spent (sized n) (with_life_at c.args.part.now.offset Ended c.in-Some.block.now).block) (sym own.size) ∙ ap (λ (r : KeptRow). is_spent (sized r.pages) r.block) (sym c.end.ensures) ∙ same_bits _ _ c.is_spent.ensures ∙ c.if-is_spent.false in
    rw (← c.self.view_is) (passes_changed _ _ _ c.args.part.now.block (model.with_life (at_of c.self.inside.cpu c.args.part.now) Ended) (is_spent (sized c.self.inside.pages)) c.self.inside.blocks.entries c.in-Some.block.now (omega (arith, c.self.invariant.least)) c.self.invariant.apart (sym at) (λ b. refl) ∙ unspent)

pub returns-clause-ended : goal.returns-clause-ended
returns-clause-ended c =
    let at = rw c.in-Some.is at c.get_mut.ensures.value in
    let kept = invariant_of-self-else-is_spent c in
    rw (← c.self.view_is) (ap (λ bs. record { cpu = c.self.inside.cpu; pages = c.self.inside.pages; blocks = bs; next = c.self.inside.next })
    (sym (without_none _ _ _ _ kept.apart) ∙ ap (model.without_spent (sized c.self.inside.pages))
    (written_blocks _ _ _ c.args.part.now.block (model.with_life (at_of c.self.inside.cpu c.args.part.now) Ended) _ _ c.in-Some.block.now c.end.new.self (omega (arith, c.self.invariant.least)) c.self.invariant.apart (sym at) c.end.ensures (c.get_mut.follows.holds c.end.new.self).0)))
