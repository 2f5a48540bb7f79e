use Rattle.std.proofs.Common.{◌≡◌, ◌≢◌, ◌==◌, ◌&&◌, not, filter, ℕ, List, [], Err, rules, refl, ap, ◌∙◌}
use Rattle.std.specs.Map.{values_of}
use Rattle.vm_model.specs.Space.{is_among}
use Rattle.vm_model.specs.PlainMap.{Block}
use Rattle.vm_model.specs.Blocks.{fragmented}
use Rattle.map_blocks.specs.BlockRows.{sized}
use Rattle.map_blocks.specs.KeptBlockSides.{is_broken, without_all, blocks_in}
use Rattle.map_blocks.proofs.Fragments.{gone_model, gone_blocks, gone_kept, on_err, err_says}
use Rattle.map_blocks.proofs.block_side.BlockSide.take_fragmented.Goals as goal

pub returns-in_err-gone-clause-memory : goal.returns-in_err-gone-clause-memory
returns-in_err-gone-clause-memory c =
    let starts : filter (is_broken c.self.inside.blocks.entries) c.deref.result.now ≡ fragmented (sized c.self.inside.pages) c.self.inside.cpu (blocks_in (values_of c.self.inside.blocks.entries)) =
    ap (filter (is_broken c.self.inside.blocks.entries)) c.deref.ensures.value ∙ gone_model _ _ _ c.self.inside.blocks.entries _ c.self.inside.queue.items _ _ c.self.invariant refl refl refl in
    let failed : c.fragmented_starts.result ≡ Err c.in_err-gone.field-0.0 = search rules in
    let some = err_says (filter (is_broken c.self.inside.blocks.entries) c.deref.result.now ≢ []) c.fragmented_starts.result _ failed c.fragmented_starts.ensures.memory in
    rw (← c.self.view_is) (on_err _ c.from_residual.result (λ none. some (starts ∙ none)))

pub invariant_of-self : goal.invariant_of-self
invariant_of-self c =
    gone_kept _ _ _ c.self.inside.blocks.entries c.remove_all.new.blocks.entries c.self.inside.queue.items c.in_ok-gone.gone.items c.unqueue_fragmented.new.queue.items c.self.invariant (c.in_ok-gone.ensures.starts ∙ ap (filter (is_broken c.self.inside.blocks.entries)) c.deref.ensures.value)
    c.unqueue_fragmented.ensures (c.remove_all.ensures ∙ ap (λ ks. without_all ks c.self.inside.blocks.entries) c.deref-2.ensures.value)

pub returns-clause-starts : goal.returns-clause-starts
returns-clause-starts c =
    rw (← c.self.view_is) (c.of.ensures ∙ gone_model _ _ _ c.self.inside.blocks.entries c.remove_all.new.blocks.entries c.self.inside.queue.items c.in_ok-gone.gone.items c.unqueue_fragmented.new.queue.items c.self.invariant (c.in_ok-gone.ensures.starts ∙ ap (filter (is_broken c.self.inside.blocks.entries)) c.deref.ensures.value)
    c.unqueue_fragmented.ensures (c.remove_all.ensures ∙ ap (λ ks. without_all ks c.self.inside.blocks.entries) c.deref-2.ensures.value))

pub returns-clause-gone : goal.returns-clause-gone
returns-clause-gone c =
    let gone = gone_model _ _ _ c.self.inside.blocks.entries c.remove_all.new.blocks.entries c.self.inside.queue.items c.in_ok-gone.gone.items c.unqueue_fragmented.new.queue.items c.self.invariant (c.in_ok-gone.ensures.starts ∙ ap (filter (is_broken c.self.inside.blocks.entries)) c.deref.ensures.value)
    c.unqueue_fragmented.ensures (c.remove_all.ensures ∙ ap (λ ks. without_all ks c.self.inside.blocks.entries) c.deref-2.ensures.value) in
    rw (← c.self.view_is) (ap (λ bs. record { cpu = c.self.inside.cpu; pages = c.self.inside.pages; blocks = bs; next = c.self.inside.next })
    (gone_blocks _ _ _ c.self.inside.blocks.entries c.remove_all.new.blocks.entries c.self.inside.queue.items c.in_ok-gone.gone.items c.unqueue_fragmented.new.queue.items c.self.invariant (c.in_ok-gone.ensures.starts ∙ ap (filter (is_broken c.self.inside.blocks.entries)) c.deref.ensures.value)
    c.unqueue_fragmented.ensures (c.remove_all.ensures ∙ ap (λ ks. without_all ks c.self.inside.blocks.entries) c.deref-2.ensures.value)
    ∙ ap (λ (ks : List ℕ). filter (λ (b : Block). not ((b.cpu == c.self.inside.cpu) && is_among ks b.start)) (blocks_in (values_of c.self.inside.blocks.entries))) gone))
