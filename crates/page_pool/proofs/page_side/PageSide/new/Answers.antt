use Rattle.std.proofs.Common.{arith}
use Rattle.page_pool.proofs.KeptBesidePages.{kept_first}
use Rattle.page_pool.proofs.page_side.PageSide.new.Goals as goal

pub invariant_of-result : goal.invariant_of-result
invariant_of-result c =
    kept_first c.args.space c.args.frames (record { frames = c.in_ok-unmapped.field-0; stale = c.in_ok-none.field-0; cells = c.in_ok-zero.field-0 }) c.in_ok-all.field-0 (omega arith)
    c.in_ok-unmapped.ensures c.in_ok-none.ensures c.in_ok-zero.ensures c.in_ok-all.ensures
