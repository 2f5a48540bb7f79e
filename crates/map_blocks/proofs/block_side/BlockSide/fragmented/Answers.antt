use Rattle.std.proofs.Common.{◌≡◌, filter, length, refl, sym, ap, ◌∙◌}
use Rattle.std.proofs.lemmas.List.Sums.{length-filter}
use Rattle.std.specs.Map.{values_of}
use Rattle.vm_model.specs.Blocks.{fragmented}
use Rattle.map_blocks.specs.BlockRows.{sized}
use Rattle.map_blocks.specs.KeptBlockSides.{is_broken, blocks_in}
use Rattle.map_blocks.proofs.Fragments.{gone_model}
use Rattle.map_blocks.proofs.block_side.BlockSide.fragmented.Goals as goal

pub returns : goal.returns
returns c =
    let starts : filter (is_broken c.self.inside.blocks.entries) c.deref.result.now ≡ fragmented (sized c.self.inside.pages) c.self.inside.cpu (blocks_in (values_of c.self.inside.blocks.entries)) =
    ap (filter (is_broken c.self.inside.blocks.entries)) c.deref.ensures.value ∙ gone_model _ _ _ c.self.inside.blocks.entries _ c.self.inside.queue.items _ _ c.self.invariant refl refl refl in
    rw (← c.self.view_is) (c.fragmented_count.ensures ∙ sym (length-filter (is_broken c.self.inside.blocks.entries) c.deref.result.now) ∙ ap length starts)
