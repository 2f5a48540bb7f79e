use Rattle.std.proofs.Common.{◌+◌, ◌*◌, pos, length, ap, ◌∙◌}
use Rattle.vm_model.specs.Space.{span, holds}
use Rattle.vm_model.proofs.Paint.{length-paint_from}
use Rattle.page_pool.proofs.KeptBesidePages.{kept_written}
use Rattle.page_pool.proofs.page_side.PageSide.zero_page.Goals as goal

pub invariant_of-self : goal.invariant_of-self
invariant_of-self c =
    kept_written (record { frames = c.self.inside.frames; stale = c.self.inside.stale; cells = c.self.inside.cells }) c.self.inside.free c.self.inside.mapped c.clear.new.self c.self.invariant
    (ap length c.clear.ensures ∙ length-paint_from (holds (span (1024 * c.frame_at-frame.result + c.args.words.start) c.args.words.pages)) (pos 0) c.self.inside.cells 0)
