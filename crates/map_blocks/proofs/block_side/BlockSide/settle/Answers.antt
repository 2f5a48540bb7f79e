use Rattle.std.proofs.Common.{◌≡◌, ◌+◌, ◌==◌, false, refl, sym, ap, subst, ◌∙◌, arith}
use Rattle.vm_model.specs.PlainMap.{Lives}
use Rattle.vm_model.specs.Blocks as model
use Rattle.vm_model.specs.Blocks.{parts_size, is_spent}
use Rattle.map_blocks.specs.BlockRows.{sized, at_of}
use Rattle.map_blocks.specs.KeptBlocks.{KeptRow, IsInHand, with_life_at}
use Rattle.map_blocks.proofs.BlocksByStart.{found}
use Rattle.map_blocks.proofs.BlocksInOrder.{hand_in}
use Rattle.map_blocks.proofs.WrittenBlocks.{open_of, lived_dirty, life_kept, written_blocks}
use Rattle.map_blocks.proofs.block_side.BlockSide.settle.Goals as goal

pub unreachable-requires : goal.unreachable-requires
unreachable-requires c =
    let held = rw (← c.self.view_is) at c.requires.held in
    let hand = hand_in _ _ _ c.args.part.now.block c.args.part.now.offset held.0 _ (omega (arith, c.self.invariant.least)) c.self.invariant.apart held.1 in
    let none = rw c.in_default.is at c.get_mut.ensures.value in
    let at = hand.at in
    cc

pub settle-requires : goal.settle-requires
settle-requires c =
    let held = rw (← c.self.view_is) at c.requires.held in
    let hand = hand_in _ _ _ c.args.part.now.block c.args.part.now.offset held.0 _ (omega (arith, c.self.invariant.least)) c.self.invariant.apart held.1 in
    let at = rw c.in-Some.is at c.get_mut.ensures.value in
    let is = hand.at in
    let same : hand.row ≡ c.in-Some.block.now = cc in
    subst (λ (r : KeptRow). IsInHand c.args.part.now.offset r.block) same hand.hand

pub invariant_of-self : goal.invariant_of-self
invariant_of-self c =
    let held = rw (← c.self.view_is) at c.requires.held in
    let hand = hand_in _ _ _ c.args.part.now.block c.args.part.now.offset held.0 _ (omega (arith, c.self.invariant.least)) c.self.invariant.apart held.1 in
    let at = rw c.in-Some.is at c.get_mut.ensures.value in
    let is = hand.at in
    let same : hand.row ≡ c.in-Some.block.now = cc in
    let own = (found _ _ _ 0 c.args.part.now.block _ c.in-Some.block.now c.self.invariant.apart (sym at)).own in
    let open_at = open_of c.args.part.now.offset c.in-Some.block.now.block (subst (λ (r : KeptRow). IsInHand c.args.part.now.offset r.block) same hand.hand) in
    let unspent : is_spent (sized c.self.inside.pages) (with_life_at c.args.part.now.offset (Lives c.self.inside.next) c.in-Some.block.now).block ≡ false =
    ap (λ ps. parts_size ps == c.self.inside.pages) (lived_dirty c.args.part.now.offset (Lives c.self.inside.next) c.in-Some.block.now.block own.packed open_at refl) ∙ own.unspent in
    life_kept _ _ _ c.args.part.now.block c.args.part.now.offset (Lives c.self.inside.next) _ _ c.in-Some.block.now c.settle.new.self _ c.self.invariant (sym at) c.settle.ensures unspent (c.get_mut.follows.holds c.settle.new.self).0

pub returns-clause-settled : goal.returns-clause-settled
returns-clause-settled c =
    let at = rw c.in-Some.is at c.get_mut.ensures.value in
    rw (← c.self.view_is) (ap (λ bs. record { cpu = c.self.inside.cpu; pages = c.self.inside.pages; blocks = bs; next = c.self.inside.next + 1 })
    (written_blocks _ _ _ c.args.part.now.block (model.with_life (at_of c.self.inside.cpu c.args.part.now) (Lives c.self.inside.next)) _ _ c.in-Some.block.now c.settle.new.self (omega (arith, c.self.invariant.least)) c.self.invariant.apart (sym at) c.settle.ensures (c.get_mut.follows.holds c.settle.new.self).0))
