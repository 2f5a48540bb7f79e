use Rattle.std.proofs.Common.{sym, ap, ◌∙◌}
use Rattle.map_blocks.specs.KeptBlockSides.{is_fragment}
use Rattle.map_blocks.proofs.LivePartRows.{same_bits}
use Rattle.map_blocks.proofs.queues.is_fragmented_at.Goals as goal

pub returns-in-Some : goal.returns-in-Some
returns-in-Some c =
    let at = rw c.in-Some.is at c.get.ensures.value in
    sym (ap is_fragment (sym at) ∙ same_bits _ _ c.is_fragmented.ensures)

pub returns-in-None : goal.returns-in-None
returns-in-None c =
    let at = rw c.in-None.is at c.get.ensures.value in
    ap is_fragment at
