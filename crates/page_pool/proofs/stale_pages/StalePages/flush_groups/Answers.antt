use Rattle.std.proofs.Common.{false, length, ap, ◌∙◌, arith}
use Rattle.vm_model.proofs.Paint.{length-paint_from}
use Rattle.page_pool.proofs.Painting.{paint-first, paint-on, paint-last}
use Rattle.page_pool.proofs.stale_pages.StalePages.flush_groups.Goals as goal

pub loop-page-init : goal.loop-page-init
loop-page-init c = record {
  from = omega arith;
  to = omega arith;
  pages = paint-first c.args.span.start false c.args.self.now;
}

pub flush_group-requires : goal.flush_group-requires
flush_group-requires c =
    let long = ap length c.loop-page.invariant.pages ∙ length-paint_from _ false c.args.self.now 0 in
    record {
      pages = omega arith;
      inside = omega arith;
      space = omega arith;
      group = omega arith;
    }

pub loop-page-preserved : goal.loop-page-preserved
loop-page-preserved c = record {
  from = omega arith;
  to = omega arith;
  pages = paint-on c.args.span.start c.loop-page.page c.min-pages.result false c.args.self.now c.loop-page.self c.flush_group.new.self c.loop-page.invariant.from c.loop-page.invariant.pages c.flush_group.ensures;
}

pub returns : goal.returns
returns c = paint-last c.args.span c.loop-page.page false c.args.self.now c.loop-page.self (omega arith) c.loop-page.invariant.pages
