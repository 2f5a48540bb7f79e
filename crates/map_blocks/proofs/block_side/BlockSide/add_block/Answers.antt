use Rattle.std.proofs.Common.{◌≤◌, ◌<◌, ◌++◌, ◌∷◌, [], sym, ap, subst, ◌∙◌, arith}
use Rattle.std.specs.Map.{values_of}
use Rattle.map_blocks.specs.BlockRows.{BlockRows, IsUnused}
use Rattle.vm_model.specs.Space.{span}
use Rattle.map_blocks.specs.KeptBlockSides.{blocks_in}
use Rattle.vm_model.specs.Blocks.{with_part}
use Rattle.map_blocks.proofs.Added.{bare_room, added_blocks, added_queued, added_full, bare_offset}
use Rattle.map_blocks.proofs.block_side.BlockSide.add_block.Goals as goal

pub cut-requires-clause-room : goal.cut-requires-clause-room
cut-requires-clause-room c =
    let most = rw (← c.self.view_is) at c.requires.most in
    bare_room _ _ _ _ c.args.pages c.in_ok-block.block c.in_ok-block.ensures c.self.invariant.power c.requires.least most

pub invariant_of-self-then-has_room : goal.invariant_of-self-then-has_room
invariant_of-self-then-has_room c =
    let most = rw (← c.self.view_is) at c.requires.most in
    let end = rw (← c.self.view_is) at c.requires.end in
    let unused = subst (λ (r : BlockRows). IsUnused r (span c.args.start r.pages)) (sym c.self.view_is) c.requires.unused in
    let next = rw c.in_ok-added.ensures.ok_part at c.checked_add.ensures in
    let new = c.in_ok-put_block.ensures.ok in
    let count = c.free-has_room.ensures in
    let some : 0 < c.free-has_room.result = c.if-has_room.true in
    rw next.1 (added_queued _ _ _ c.args.start c.args.pages c.args.caller _ _ _ c.in_ok-block.block c.cut.new.self c.self.invariant c.requires.least most end unused c.in_ok-block.ensures c.cut.ensures.part new (omega arith) _ (c.push_reserved.ensures.items ∙ ap (λ q. q ++ c.args.start ∷ []) c.reserve.ensures.items))

pub invariant_of-self-else-has_room : goal.invariant_of-self-else-has_room
invariant_of-self-else-has_room c =
    let most = rw (← c.self.view_is) at c.requires.most in
    let end = rw (← c.self.view_is) at c.requires.end in
    let unused = subst (λ (r : BlockRows). IsUnused r (span c.args.start r.pages)) (sym c.self.view_is) c.requires.unused in
    let next = rw c.in_ok-added.ensures.ok_part at c.checked_add.ensures in
    let new = c.in_ok-put_block.ensures.ok in
    let count = c.free-has_room.ensures in
    let none : c.free-has_room.result ≤ 0 = c.if-has_room.false in
    rw next.1 (added_full _ _ _ c.args.start c.args.pages c.args.caller _ _ _ c.in_ok-block.block c.cut.new.self c.self.invariant c.requires.least most end unused c.in_ok-block.ensures c.cut.ensures.part new (omega arith) _ c.reserve.ensures.items)

pub returns-then-has_room-clause-added : goal.returns-then-has_room-clause-added
returns-then-has_room-clause-added c =
    let most = rw (← c.self.view_is) at c.requires.most in
    let end = rw (← c.self.view_is) at c.requires.end in
    let unused = subst (λ (r : BlockRows). IsUnused r (span c.args.start r.pages)) (sym c.self.view_is) c.requires.unused in
    let next = rw c.in_ok-added.ensures.ok_part at c.checked_add.ensures in
    let new = c.in_ok-put_block.ensures.ok in
    rw (← c.self.view_is) (ap (λ bs. record { cpu = c.self.inside.cpu; pages = c.self.inside.pages; blocks = bs; next = c.self.inside.next })
    (added_blocks _ _ _ c.args.start c.args.pages c.args.caller _ _ _ c.in_ok-block.block c.cut.new.self c.self.invariant c.requires.least most end unused c.in_ok-block.ensures c.cut.ensures.part new ∙ ap (λ n. blocks_in (values_of c.self.inside.blocks.entries) ++ with_part c.args.caller (record { cpu = c.self.inside.cpu; block = c.args.start; offset = n; pages = c.args.pages }) (record { start = c.args.start; cpu = c.self.inside.cpu; parts = [] }) ∷ []) (sym (c.cut.ensures.offset ∙ bare_offset _ _ _ _ c.in_ok-block.block c.in_ok-block.ensures))))

pub returns-else-has_room-clause-added : goal.returns-else-has_room-clause-added
returns-else-has_room-clause-added c =
    let most = rw (← c.self.view_is) at c.requires.most in
    let end = rw (← c.self.view_is) at c.requires.end in
    let unused = subst (λ (r : BlockRows). IsUnused r (span c.args.start r.pages)) (sym c.self.view_is) c.requires.unused in
    let next = rw c.in_ok-added.ensures.ok_part at c.checked_add.ensures in
    let new = c.in_ok-put_block.ensures.ok in
    rw (← c.self.view_is) (ap (λ bs. record { cpu = c.self.inside.cpu; pages = c.self.inside.pages; blocks = bs; next = c.self.inside.next })
    (added_blocks _ _ _ c.args.start c.args.pages c.args.caller _ _ _ c.in_ok-block.block c.cut.new.self c.self.invariant c.requires.least most end unused c.in_ok-block.ensures c.cut.ensures.part new ∙ ap (λ n. blocks_in (values_of c.self.inside.blocks.entries) ++ with_part c.args.caller (record { cpu = c.self.inside.cpu; block = c.args.start; offset = n; pages = c.args.pages }) (record { start = c.args.start; cpu = c.self.inside.cpu; parts = [] }) ∷ []) (sym (c.cut.ensures.offset ∙ bare_offset _ _ _ _ c.in_ok-block.block c.in_ok-block.ensures))))
