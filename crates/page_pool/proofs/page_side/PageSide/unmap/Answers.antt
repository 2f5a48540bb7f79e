use Rattle.page_pool.proofs.KeptBesidePages.{kept_unmapped}
use Rattle.page_pool.proofs.page_side.PageSide.unmap.Goals as goal

pub invariant_of-self : goal.invariant_of-self
invariant_of-self c =
    kept_unmapped (record { frames = c.self.inside.frames; stale = c.self.inside.stale; cells = c.self.inside.cells }) c.self.inside.free c.take_back.new.free c.self.inside.mapped
    c.args.span c.take_back.new.frames c.mark.new.self c.self.invariant c.take_back.ensures.frames
    c.take_back.ensures.shared c.take_back.ensures.memory c.take_back.ensures.count c.mark.ensures
