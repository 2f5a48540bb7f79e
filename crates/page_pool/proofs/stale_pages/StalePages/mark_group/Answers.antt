use Rattle.std.proofs.Common.{◌≡◌, true, length, ap, ◌∙◌, arith}
use Rattle.vm_model.specs.Space.{end_of}
use Rattle.vm_model.proofs.Paint.{length-paint_from}
use Rattle.page_pool.proofs.Painting.{paint-first, paint-next, paint-last}
use Rattle.page_pool.proofs.stale_pages.StalePages.mark_group.Goals as goal

pub loop-page-init : goal.loop-page-init
loop-page-init c = paint-first c.args.span.start true c.args.self.now

pub mark_page-requires : goal.mark_page-requires
mark_page-requires c = let long = ap length c.loop-page.invariant ∙ length-paint_from _ true c.args.self.now 0 in omega arith

pub loop-page-preserved : goal.loop-page-preserved
loop-page-preserved c = c.mark_page.ensures ∙ paint-next c.args.span.start c.loop-page.page true c.args.self.now c.loop-page.self (omega arith) c.loop-page.invariant

pub returns : goal.returns
returns c = paint-last c.args.span c.loop-page.page true c.args.self.now c.loop-page.self (let e : c.loop-page.page ≡ end_of c.args.span = omega arith in e) c.loop-page.invariant
