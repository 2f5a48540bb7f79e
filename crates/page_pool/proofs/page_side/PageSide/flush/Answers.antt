use Rattle.std.proofs.Common.{length, ap, arith}
use Rattle.page_pool.specs.PageMap.{Pages}
use Rattle.page_pool.proofs.KeptBesidePages.{kept_flushed}
use Rattle.page_pool.proofs.page_side.PageSide.flush.Goals as goal

pub flush-requires : goal.flush-requires
flush-requires c = let same = ap (λ (p : Pages). length p.frames) c.self.view_is in record { inside = omega arith; space = omega arith }

pub invariant_of-self : goal.invariant_of-self
invariant_of-self c =
    kept_flushed (record { frames = c.self.inside.frames; stale = c.self.inside.stale; cells = c.self.inside.cells }) c.self.inside.free c.self.inside.mapped c.args.span _ c.self.invariant c.flush.ensures
