use Rattle.block_hints.proofs.takes.block_with_taken.Goals as goal

pub returns-in-None : goal.returns-in-None
returns-in-None c = c.scan_block.ensures
