use Rattle.std.proofs.Common.{◌≡◌, ◌≤◌, ◌-◌, Some, None, sym, ap, subst, ◌∙◌, arith}
use Rattle.std.specs.Map.{values_of}
use Rattle.vm_model.specs.Blocks as model
use Rattle.vm_model.specs.Blocks.{rounded, free_of, cut_from, with_part}
use Rattle.map_blocks.specs.BlockRows.{sized}
use Rattle.map_blocks.specs.KeptBlocks.{KeptRow}
use Rattle.map_blocks.specs.KeptBlockSides.{AreKnown, blocks_in}
use Rattle.map_blocks.proofs.WrittenBlocks.{written_blocks}
use Rattle.map_blocks.proofs.Taken.{known, first_is, first_none, cut_stays, cut_falls, found_in, cut_is, cut_free}
use Rattle.map_blocks.proofs.block_side.BlockSide.take_part.Goals as goal

pub rounded-requires-clause-high : goal.rounded-requires-clause-high
rounded-requires-clause-high c =
    let few = rw (← c.self.view_is) at c.requires.most in
    let most = c.self.invariant.most in
    omega arith

pub first_with_room-requires : goal.first_with_room-requires
first_with_room-requires c = subst (AreKnown c.self.inside.blocks.entries) (sym c.deref.ensures.value) (known _ _ _ _ _ c.self.invariant)

pub returns-in_err-start-clause-none : goal.returns-in_err-start-clause-none
returns-in_err-start-clause-none c =
    let none = found_in c.self.inside.blocks.entries c.self.inside.queue.items _ _ c.args.pages _ None c.rounded.ensures c.deref.ensures.value c.first_with_room.ensures c.in_err-start.was in
    rw (c.from_residual.ensures, ← c.self.view_is) (first_none _ _ _ _ _ c.self.invariant c.args.pages none)

pub unreachable-requires : goal.unreachable-requires
unreachable-requires c =
    let first = first_is _ _ _ _ _ c.self.invariant c.args.pages c.in_ok-start.start (found_in c.self.inside.blocks.entries c.self.inside.queue.items _ _ c.args.pages _ (Some c.in_ok-start.start) c.rounded.ensures c.deref.ensures.value c.first_with_room.ensures c.in_ok-start.was) in
    let none = rw c.in_default.is at c.get_mut.ensures.value in
    let is = first.at in
    cc

pub cut-offset-requires-clause-room : goal.cut-offset-requires-clause-room
cut-offset-requires-clause-room c =
    let first = first_is _ _ _ _ _ c.self.invariant c.args.pages c.in_ok-start.start (found_in c.self.inside.blocks.entries c.self.inside.queue.items _ _ c.args.pages _ (Some c.in_ok-start.start) c.rounded.ensures c.deref.ensures.value c.first_with_room.ensures c.in_ok-start.was) in
    let at = rw c.in-Some.is at c.get_mut.ensures.value in
    let is = first.at in
    let same : first.row ≡ c.in-Some.block.now = cc in
    subst (λ (r : KeptRow). rounded c.args.pages ≤ free_of (sized r.pages) r.block) same (subst (λ n. rounded c.args.pages ≤ free_of (sized n) first.row.block) (sym first.own.size) first.fits)

pub invariant_of-self : goal.invariant_of-self
invariant_of-self c =
    let first = first_is _ _ _ _ _ c.self.invariant c.args.pages c.in_ok-start.start (found_in c.self.inside.blocks.entries c.self.inside.queue.items _ _ c.args.pages _ (Some c.in_ok-start.start) c.rounded.ensures c.deref.ensures.value c.first_with_room.ensures c.in_ok-start.was) in
    let at = rw c.in-Some.is at c.get_mut.ensures.value in
    let is = first.at in
    let same : first.row ≡ c.in-Some.block.now = cc in
    let size : c.in-Some.block.now.pages ≡ c.self.inside.pages = ap (λ (r : KeptRow). r.pages) (sym same) ∙ first.own.size in
    let fits = subst (λ (r : KeptRow). rounded c.args.pages ≤ free_of (sized c.self.inside.pages) r.block) same first.fits in
    let few = rw (← c.self.view_is) at c.requires.most in
    let most = c.self.invariant.most in
    let cut = cut_is c.self.inside.pages c.args.pages c.args.caller c.in-Some.block.now c.cut-offset.new.self size c.cut-offset.ensures.part in
    let left = cut_free c.self.inside.pages c.args.pages c.args.caller c.in-Some.block.now c.cut-offset.new.self size c.cut-offset.ensures.part in
    rw c.unqueue.ensures (cut_falls _ _ _ c.in_ok-start.start c.args.pages c.args.caller _ _ c.in-Some.block.now c.cut-offset.new.self _ c.self.invariant (sym at) c.requires.least (omega arith) fits cut (c.get_mut.follows.holds c.cut-offset.new.self).0 (sym left ∙ sym c.free.ensures ∙ c.if-free-eq0.true))

pub invariant_of-self-else-free-eq0 : goal.invariant_of-self-else-free-eq0
invariant_of-self-else-free-eq0 c =
    let first = first_is _ _ _ _ _ c.self.invariant c.args.pages c.in_ok-start.start (found_in c.self.inside.blocks.entries c.self.inside.queue.items _ _ c.args.pages _ (Some c.in_ok-start.start) c.rounded.ensures c.deref.ensures.value c.first_with_room.ensures c.in_ok-start.was) in
    let at = rw c.in-Some.is at c.get_mut.ensures.value in
    let is = first.at in
    let same : first.row ≡ c.in-Some.block.now = cc in
    let size : c.in-Some.block.now.pages ≡ c.self.inside.pages = ap (λ (r : KeptRow). r.pages) (sym same) ∙ first.own.size in
    let fits = subst (λ (r : KeptRow). rounded c.args.pages ≤ free_of (sized c.self.inside.pages) r.block) same first.fits in
    let few = rw (← c.self.view_is) at c.requires.most in
    let most = c.self.invariant.most in
    let cut = cut_is c.self.inside.pages c.args.pages c.args.caller c.in-Some.block.now c.cut-offset.new.self size c.cut-offset.ensures.part in
    let left = cut_free c.self.inside.pages c.args.pages c.args.caller c.in-Some.block.now c.cut-offset.new.self size c.cut-offset.ensures.part in
    let some = c.if-free-eq0.false in
    cut_stays _ _ _ c.in_ok-start.start c.args.pages c.args.caller _ _ c.in-Some.block.now c.cut-offset.new.self _ c.self.invariant (sym at) c.requires.least (omega arith) fits cut (c.get_mut.follows.holds c.cut-offset.new.self).0 (omega (arith, c.free.ensures))

pub returns-then-free-eq0-clause-place : goal.returns-then-free-eq0-clause-place
returns-then-free-eq0-clause-place c =
    let first = first_is _ _ _ _ _ c.self.invariant c.args.pages c.in_ok-start.start (found_in c.self.inside.blocks.entries c.self.inside.queue.items _ _ c.args.pages _ (Some c.in_ok-start.start) c.rounded.ensures c.deref.ensures.value c.first_with_room.ensures c.in_ok-start.was) in
    let at = rw c.in-Some.is at c.get_mut.ensures.value in
    let is = first.at in
    let same : first.row ≡ c.in-Some.block.now = cc in
    let size : c.in-Some.block.now.pages ≡ c.self.inside.pages = ap (λ (r : KeptRow). r.pages) (sym same) ∙ first.own.size in
    let offset : c.cut-offset.result ≡ c.self.inside.pages - free_of (sized c.self.inside.pages) c.in-Some.block.now.block = c.cut-offset.ensures.offset ∙ ap (λ n. n - free_of (sized n) c.in-Some.block.now.block) size in
    rw (← c.self.view_is) (first.place ∙ ap (λ n. Some (record { cpu = c.self.inside.cpu; block = c.in_ok-start.start; offset = n; pages = c.args.pages }))
    (ap (λ (r : KeptRow). c.self.inside.pages - free_of (sized c.self.inside.pages) r.block) same ∙ sym offset))

pub returns-then-free-eq0-clause-cut : goal.returns-then-free-eq0-clause-cut
returns-then-free-eq0-clause-cut c =
    let first = first_is _ _ _ _ _ c.self.invariant c.args.pages c.in_ok-start.start (found_in c.self.inside.blocks.entries c.self.inside.queue.items _ _ c.args.pages _ (Some c.in_ok-start.start) c.rounded.ensures c.deref.ensures.value c.first_with_room.ensures c.in_ok-start.was) in
    let at = rw c.in-Some.is at c.get_mut.ensures.value in
    let is = first.at in
    let same : first.row ≡ c.in-Some.block.now = cc in
    let size : c.in-Some.block.now.pages ≡ c.self.inside.pages = ap (λ (r : KeptRow). r.pages) (sym same) ∙ first.own.size in
    let offset : c.cut-offset.result ≡ c.self.inside.pages - free_of (sized c.self.inside.pages) c.in-Some.block.now.block = c.cut-offset.ensures.offset ∙ ap (λ n. n - free_of (sized n) c.in-Some.block.now.block) size in
    let cut = cut_is c.self.inside.pages c.args.pages c.args.caller c.in-Some.block.now c.cut-offset.new.self size c.cut-offset.ensures.part in
    rw (← c.self.view_is) (ap (λ bs. record { cpu = c.self.inside.cpu; pages = c.self.inside.pages; blocks = bs; next = c.self.inside.next })
    (written_blocks _ _ _ c.in_ok-start.start (with_part c.args.caller (cut_from (sized c.self.inside.pages) c.args.pages c.in-Some.block.now.block)) _ _ c.in-Some.block.now c.cut-offset.new.self (omega (arith, c.self.invariant.least)) c.self.invariant.apart (sym at) cut (c.get_mut.follows.holds c.cut-offset.new.self).0
    ∙ ap (λ n. model.change_block c.in_ok-start.start (with_part c.args.caller (record { cpu = c.self.inside.cpu; block = c.in_ok-start.start; offset = n; pages = c.args.pages })) (blocks_in (values_of c.self.inside.blocks.entries))) (sym offset)))

pub returns-else-free-eq0-clause-place : goal.returns-else-free-eq0-clause-place
returns-else-free-eq0-clause-place c =
    let first = first_is _ _ _ _ _ c.self.invariant c.args.pages c.in_ok-start.start (found_in c.self.inside.blocks.entries c.self.inside.queue.items _ _ c.args.pages _ (Some c.in_ok-start.start) c.rounded.ensures c.deref.ensures.value c.first_with_room.ensures c.in_ok-start.was) in
    let at = rw c.in-Some.is at c.get_mut.ensures.value in
    let is = first.at in
    let same : first.row ≡ c.in-Some.block.now = cc in
    let size : c.in-Some.block.now.pages ≡ c.self.inside.pages = ap (λ (r : KeptRow). r.pages) (sym same) ∙ first.own.size in
    let offset : c.cut-offset.result ≡ c.self.inside.pages - free_of (sized c.self.inside.pages) c.in-Some.block.now.block = c.cut-offset.ensures.offset ∙ ap (λ n. n - free_of (sized n) c.in-Some.block.now.block) size in
    rw (← c.self.view_is) (first.place ∙ ap (λ n. Some (record { cpu = c.self.inside.cpu; block = c.in_ok-start.start; offset = n; pages = c.args.pages }))
    (ap (λ (r : KeptRow). c.self.inside.pages - free_of (sized c.self.inside.pages) r.block) same ∙ sym offset))

pub returns-else-free-eq0-clause-cut : goal.returns-else-free-eq0-clause-cut
returns-else-free-eq0-clause-cut c =
    let first = first_is _ _ _ _ _ c.self.invariant c.args.pages c.in_ok-start.start (found_in c.self.inside.blocks.entries c.self.inside.queue.items _ _ c.args.pages _ (Some c.in_ok-start.start) c.rounded.ensures c.deref.ensures.value c.first_with_room.ensures c.in_ok-start.was) in
    let at = rw c.in-Some.is at c.get_mut.ensures.value in
    let is = first.at in
    let same : first.row ≡ c.in-Some.block.now = cc in
    let size : c.in-Some.block.now.pages ≡ c.self.inside.pages = ap (λ (r : KeptRow). r.pages) (sym same) ∙ first.own.size in
    let offset : c.cut-offset.result ≡ c.self.inside.pages - free_of (sized c.self.inside.pages) c.in-Some.block.now.block = c.cut-offset.ensures.offset ∙ ap (λ n. n - free_of (sized n) c.in-Some.block.now.block) size in
    let cut = cut_is c.self.inside.pages c.args.pages c.args.caller c.in-Some.block.now c.cut-offset.new.self size c.cut-offset.ensures.part in
    rw (← c.self.view_is) (ap (λ bs. record { cpu = c.self.inside.cpu; pages = c.self.inside.pages; blocks = bs; next = c.self.inside.next })
    (written_blocks _ _ _ c.in_ok-start.start (with_part c.args.caller (cut_from (sized c.self.inside.pages) c.args.pages c.in-Some.block.now.block)) _ _ c.in-Some.block.now c.cut-offset.new.self (omega (arith, c.self.invariant.least)) c.self.invariant.apart (sym at) cut (c.get_mut.follows.holds c.cut-offset.new.self).0
    ∙ ap (λ n. model.change_block c.in_ok-start.start (with_part c.args.caller (record { cpu = c.self.inside.cpu; block = c.in_ok-start.start; offset = n; pages = c.args.pages })) (blocks_in (values_of c.self.inside.blocks.entries))) (sym offset)))
