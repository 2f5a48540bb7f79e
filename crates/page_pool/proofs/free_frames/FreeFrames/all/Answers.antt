use Rattle.std.proofs.Common.{◌∙◌, ap, arith}
use Rattle.page_pool.specs.FrameList.{lowest_first}
use Rattle.page_pool.proofs.FreeFrames.{lowest_first-all, counted_first}
use Rattle.page_pool.proofs.free_frames.FreeFrames.all.Goals as goal

pub invariant_of-result : goal.invariant_of-result
invariant_of-result c = counted_first c.args.memory _ (omega arith) c.in_ok-clear.ensures

pub returns : goal.returns
returns c = ap lowest_first c.in_ok-clear.ensures ∙ lowest_first-all c.args.memory
