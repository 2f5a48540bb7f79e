use Rattle.std.proofs.Common.{true, length, ap, ◌∙◌, arith}
use Rattle.vm_model.proofs.Paint.{length-paint_from}
use Rattle.page_pool.proofs.Painting.{paint-first, paint-on, paint-last}
use Rattle.page_pool.proofs.stale_pages.StalePages.mark.Goals as goal

pub loop-page-init : goal.loop-page-init
loop-page-init c = record {
  from = omega arith;
  to = omega arith;
  pages = paint-first c.args.span.start true c.args.self.now;
}

pub mark_group-requires : goal.mark_group-requires
mark_group-requires c =
    let long = ap length c.loop-page.invariant.pages ∙ length-paint_from _ true c.args.self.now 0 in
    record {
      pages = omega arith;
      inside = omega arith;
      space = omega arith;
      group = omega arith;
    }

pub loop-page-preserved : goal.loop-page-preserved
loop-page-preserved c = record {
  from = omega arith;
  to = omega arith;
  pages = paint-on c.args.span.start c.loop-page.page c.min-pages.result true c.args.self.now c.loop-page.self c.mark_group.new.self c.loop-page.invariant.from c.loop-page.invariant.pages c.mark_group.ensures;
}

pub returns : goal.returns
returns c = paint-last c.args.span c.loop-page.page true c.args.self.now c.loop-page.self (omega arith) c.loop-page.invariant.pages
