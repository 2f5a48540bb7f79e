use Rattle.std.proofs.Common.{rules, sym, subst, arith}
use Rattle.std.proofs.lemmas.Grind.{common_steps}
use Rattle.std.proofs.lemmas.List.Elements.{All-get_or}
use Rattle.kernel_steps.specs.Kernels.{IsOfBlocks}
use Rattle.kernel_steps.proofs.BlockTables.{block_tables_told}
use Rattle.kernel_steps.proofs.tables.block_rows.Goals as goal

pub blocks-requires : goal.blocks-requires
blocks-requires c = subst IsOfBlocks (sym c.region-item.is) (All-get_or IsOfBlocks c.args.regions.now c.loop-region.region-index c.region-item.result c.loop-region-test.true c.requires)

pub returns : goal.returns
returns c = λ s opening calls w is here.
    block_tables_told s opening calls w is c.args.regions.now here c.loop-region.rows.items c.sort_by_key.new.self.items (grind (arith, common_steps))
    c.in_ok-sort_by_key.ensures.sorted c.in_ok-sort_by_key.ensures.stable (λ a r q k. search rules)
