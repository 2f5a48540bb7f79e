use Rattle.std.proofs.Common.{◌≡◌, ◌-◌, ◌∷◌, ◌==◌, [], false, sym, ap, subst, ◌∙◌, arith}
use Rattle.std.proofs.lemmas.Map.Steps.{set_value_same}
use Rattle.std.specs.Map.{values_of, set_value}
use Rattle.vm_model.specs.PlainMap.{InHand}
use Rattle.vm_model.specs.Blocks as model
use Rattle.vm_model.specs.Blocks.{PartAt, named_in, dirty_of, is_spent}
use Rattle.map_blocks.specs.BlockRows.{sized}
use Rattle.map_blocks.specs.KeptBlocks.{KeptRow, with_life_at}
use Rattle.map_blocks.specs.KeptBlockSides.{AreKept, blocks_in}
use Rattle.map_blocks.proofs.BlocksByStart.{at_key, found}
use Rattle.map_blocks.proofs.WrittenBlocks.{life_kept, written_blocks}
use Rattle.map_blocks.proofs.NamedParts.{last_up_to, nothing_named, block_named, named_at}
use Rattle.map_blocks.proofs.block_side.BlockSide.begin_unmap.Goals as goal

pub returns-in_err-block-clause-none : goal.returns-in_err-block-clause-none
returns-in_err-block-clause-none c =
    let none = sym (c.range.ensures.between tt) ∙ c.in_err-block.ensures.steps.0 in
    rw (c.from_residual.ensures, ← c.self.view_is) (nothing_named _ _ _ c.args.start c.args.serial c.self.inside.blocks.entries c.self.invariant.apart none)

pub overflow_sub-offset : goal.overflow_sub-offset
overflow_sub-offset c =
    let last = last_up_to _ _ _ 0 c.args.start (c.in_ok-block.block.now, c.in_ok-block.field-0-1.now) c.self.inside.blocks.entries c.next_back.new.self (omega (arith, c.self.invariant.least)) c.self.invariant.apart (sym (c.range.ensures.between tt) ∙ c.in_ok-block.ensures.steps) in
    last.reached

pub unreachable-requires : goal.unreachable-requires
unreachable-requires c =
    let last = last_up_to _ _ _ 0 c.args.start (c.in_ok-block.block.now, c.in_ok-block.field-0-1.now) c.self.inside.blocks.entries c.next_back.new.self (omega (arith, c.self.invariant.least)) c.self.invariant.apart (sym (c.range.ensures.between tt) ∙ c.in_ok-block.ensures.steps) in
    let none = rw c.in_default.is at c.get_mut.ensures.value in
    let at = last.found in
    cc

pub invariant_of-self : goal.invariant_of-self
invariant_of-self c =
    let at = rw c.in-Some.is at c.get_mut.ensures.value in
    let entries = (c.get_mut.follows.holds c.take_up.new.self).0 ∙ ap (set_value (at_key c.in_ok-block.block.now) c.self.inside.blocks.entries) c.in_err-pages.ensures.unchanged ∙ set_value_same (at_key c.in_ok-block.block.now) c.self.inside.blocks.entries c.in-Some.kept.now (sym at) in
    subst (λ es. AreKept c.self.inside.cpu c.self.inside.pages es c.self.inside.queue.items c.self.inside.added) (sym entries) c.self.invariant

pub returns-in_err-pages-clause-none : goal.returns-in_err-pages-clause-none
returns-in_err-pages-clause-none c =
    let last = last_up_to _ _ _ 0 c.args.start (c.in_ok-block.block.now, c.in_ok-block.field-0-1.now) c.self.inside.blocks.entries c.next_back.new.self (omega (arith, c.self.invariant.least)) c.self.invariant.apart (sym (c.range.ensures.between tt) ∙ c.in_ok-block.ensures.steps) in
    let at = rw c.in-Some.is at c.get_mut.ensures.value in
    let is = last.found in
    let same : c.in_ok-block.field-0-1.now ≡ c.in-Some.kept.now = cc in
    let there = found _ _ _ 0 c.in_ok-block.block.now c.self.inside.blocks.entries c.in-Some.kept.now c.self.invariant.apart (sym at) in
    rw (c.from_residual-in_err-pages.ensures, ← c.self.view_is)
    (block_named _ _ _ c.args.start c.args.serial c.self.inside.blocks.entries (c.in_ok-block.block.now, c.in_ok-block.field-0-1.now) (omega (arith, c.self.invariant.least)) c.self.invariant.apart last
    ∙ ap (λ (r : KeptRow). named_in c.args.start c.args.serial r.block) same ∙ sym (named_at c.in_ok-block.block.now c.args.start c.args.serial c.in-Some.kept.now there.start last.reached) ∙ c.in_err-pages.ensures.none)

pub returns-in_err-pages-clause-unchanged : goal.returns-in_err-pages-clause-unchanged
returns-in_err-pages-clause-unchanged c =
    let at = rw c.in-Some.is at c.get_mut.ensures.value in
    let entries = (c.get_mut.follows.holds c.take_up.new.self).0 ∙ ap (set_value (at_key c.in_ok-block.block.now) c.self.inside.blocks.entries) c.in_err-pages.ensures.unchanged ∙ set_value_same (at_key c.in_ok-block.block.now) c.self.inside.blocks.entries c.in-Some.kept.now (sym at) in
    rw (c.from_residual-in_err-pages.ensures, ← c.self.view_is) (ap (λ es. record { cpu = c.self.inside.cpu; pages = c.self.inside.pages; blocks = blocks_in (values_of es); next = c.self.inside.next }) entries)

pub invariant_of-self-2 : goal.invariant_of-self-2
invariant_of-self-2 c =
    let last = last_up_to _ _ _ 0 c.args.start (c.in_ok-block.block.now, c.in_ok-block.field-0-1.now) c.self.inside.blocks.entries c.next_back.new.self (omega (arith, c.self.invariant.least)) c.self.invariant.apart (sym (c.range.ensures.between tt) ∙ c.in_ok-block.ensures.steps) in
    let at = rw c.in-Some.is at c.get_mut.ensures.value in
    let is = last.found in
    let same : c.in_ok-block.field-0-1.now ≡ c.in-Some.kept.now = cc in
    let there = found _ _ _ 0 c.in_ok-block.block.now c.self.inside.blocks.entries c.in-Some.kept.now c.self.invariant.apart (sym at) in
    let unspent : is_spent (sized c.self.inside.pages) (with_life_at (c.args.start - c.in_ok-block.block.now) (InHand c.args.caller) c.in-Some.kept.now).block ≡ false =
    ap (λ n. n == c.self.inside.pages) (ap (λ (r : KeptRow). dirty_of r.block) (sym c.in_ok-pages.ensures.held) ∙ c.in_ok-pages.ensures.dirty) ∙ there.own.unspent in
    life_kept _ _ _ c.in_ok-block.block.now (c.args.start - c.in_ok-block.block.now) (InHand c.args.caller) _ _ c.in-Some.kept.now c.take_up.new.self _ c.self.invariant (sym at) c.in_ok-pages.ensures.held unspent (c.get_mut.follows.holds c.take_up.new.self).0

pub returns-clause-place : goal.returns-clause-place
returns-clause-place c =
    let last = last_up_to _ _ _ 0 c.args.start (c.in_ok-block.block.now, c.in_ok-block.field-0-1.now) c.self.inside.blocks.entries c.next_back.new.self (omega (arith, c.self.invariant.least)) c.self.invariant.apart (sym (c.range.ensures.between tt) ∙ c.in_ok-block.ensures.steps) in
    let at = rw c.in-Some.is at c.get_mut.ensures.value in
    let is = last.found in
    let same : c.in_ok-block.field-0-1.now ≡ c.in-Some.kept.now = cc in
    let there = found _ _ _ 0 c.in_ok-block.block.now c.self.inside.blocks.entries c.in-Some.kept.now c.self.invariant.apart (sym at) in
    rw (← c.self.view_is)
    (block_named _ _ _ c.args.start c.args.serial c.self.inside.blocks.entries (c.in_ok-block.block.now, c.in_ok-block.field-0-1.now) (omega (arith, c.self.invariant.least)) c.self.invariant.apart last
    ∙ ap (λ (r : KeptRow). named_in c.args.start c.args.serial r.block) same ∙ sym (named_at c.in_ok-block.block.now c.args.start c.args.serial c.in-Some.kept.now there.start last.reached) ∙ c.in_ok-pages.ensures.some
    ∙ ap (λ n. (record { cpu = n; block = c.in-Some.kept.now.block.start; offset = c.args.start - c.in_ok-block.block.now; pages = c.in_ok-pages.pages }) ∷ []) there.own.own
    ∙ ap (λ n. (record { cpu = c.self.inside.cpu; block = n; offset = c.args.start - c.in_ok-block.block.now; pages = c.in_ok-pages.pages }) ∷ []) there.start)

pub returns-clause-held : goal.returns-clause-held
returns-clause-held c =
    let at = rw c.in-Some.is at c.get_mut.ensures.value in
    rw (← c.self.view_is) (ap (λ bs. record { cpu = c.self.inside.cpu; pages = c.self.inside.pages; blocks = bs; next = c.self.inside.next })
    (written_blocks _ _ _ c.in_ok-block.block.now (model.with_life (record { cpu = c.self.inside.cpu; block = c.in_ok-block.block.now; offset = c.args.start - c.in_ok-block.block.now; pages = c.in_ok-pages.pages }) (InHand c.args.caller)) _ _ c.in-Some.kept.now c.take_up.new.self (omega (arith, c.self.invariant.least)) c.self.invariant.apart (sym at) c.in_ok-pages.ensures.held (c.get_mut.follows.holds c.take_up.new.self).0))
