use Rattle.std.proofs.Common.{sym}
use Rattle.vm_model.specs.PageSets.{pages_in}
use Rattle.page_pool.proofs.UnitPageLists.{no_pages}
use Rattle.page_pool.proofs.page_side.units.count_of.Goals as goal

pub returns-then-pages-eq0 : goal.returns-then-pages-eq0
returns-then-pages-eq0 c = sym (no_pages c.args.pages c.if-pages-eq0.true)

pub returns : goal.returns
unfolding pages_in
returns c = c.count.ensures
