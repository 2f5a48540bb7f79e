use Rattle.std.proofs.Common.{length, sym, ap, ◌∙◌, arith}
use Rattle.std.proofs.lemmas.List.{length-map}
use Rattle.std.proofs.lemmas.Map.Entries.{length-values_of}
use Rattle.std.specs.Map.{values_of}
use Rattle.vm_model.specs.Tables.{block_row}
use Rattle.map_blocks.specs.BlockRows.{sized}
use Rattle.map_blocks.specs.KeptBlocks.{KeptRow}
use Rattle.map_blocks.proofs.TableRows.{few_entries, block_table_is}
use Rattle.map_blocks.proofs.block_side.BlockSide.blocks.Goals as goal

pub overflow_cast-result : goal.overflow_cast-result
overflow_cast-result c =
    let few = few_entries _ _ _ 0 c.self.inside.blocks.entries (omega (arith, c.self.invariant.least)) (omega arith) c.self.invariant.apart in
    let len = c.len.ensures.len in
    omega arith

pub returns : goal.returns
returns c =
    rw (← c.self.view_is) (c.len.ensures.len ∙ sym (ap length (block_table_is _ _ _ c.self.inside.blocks.entries (omega (arith, c.self.invariant.least)) c.self.invariant.apart)
    ∙ length-map (values_of c.self.inside.blocks.entries) (λ (r : KeptRow). block_row (sized c.self.inside.pages) r.block) ∙ length-values_of c.self.inside.blocks.entries))
