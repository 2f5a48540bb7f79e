use Rattle.std.proofs.Common.{sym, ◌∙◌}
use Rattle.congruent_areas.proofs.TopBlocks.{holding_block, block_below_if_some, nothing_below_if_none, in_space}
use Rattle.congruent_areas.proofs.search.block_up_to.Goals as goal

pub returns-in-Some-clause-found : goal.returns-in-Some-clause-found
returns-in-Some-clause-found c = holding_block c.args.free.now.blocks c.args.page c.enclosing.ensures.blocks c.in-Some.block (sym c.in-Some.is ∙ c.enclosing.ensures.block)

pub returns-in-Some-clause-space : goal.returns-in-Some-clause-space
returns-in-Some-clause-space c = in_space c.args.free.now.blocks c.args.page c.enclosing.ensures.blocks

pub returns-in-None-clause-found : goal.returns-in-None-clause-found
returns-in-None-clause-found c =
    block_below_if_some c.args.free.now.blocks c.args.page c.enclosing.ensures.blocks c.last_ending_by.result (sym c.in-None.is ∙ c.enclosing.ensures.block) c.last_ending_by.ensures.block

pub returns-in-None-clause-none : goal.returns-in-None-clause-none
returns-in-None-clause-none c =
    nothing_below_if_none c.args.free.now.blocks c.args.page c.enclosing.ensures.blocks c.last_ending_by.result (sym c.in-None.is ∙ c.enclosing.ensures.block) c.last_ending_by.ensures.block

pub returns-in-None-clause-space : goal.returns-in-None-clause-space
returns-in-None-clause-space c = in_space c.args.free.now.blocks c.args.page c.enclosing.ensures.blocks
