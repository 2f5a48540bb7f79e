use Rattle.std.proofs.Common.{◌≡◌, ◌-◌, ◌<◌, ◌≤◌, true, false, slice_get, Some}
use Rattle.vm_model.specs.Space.{span, holds, paint}
use Rattle.page_pool.proofs.stale_pages.StalePages.clear.Given as goal

abbrev pub invariant-loop-page : goal.invariant-loop-page
invariant-loop-page l = record {
  from : l.fn.span.start ≤ l.page;
  to : l.page ≤ l.end;
  stale : l.page < l.end → slice_get l.self l.page ≡ Some true;
  pages : l.self ≡ paint (holds (span l.fn.span.start (l.page - l.fn.span.start))) false l.initial.self;
}

abbrev pub decreases-loop-page : goal.decreases-loop-page
decreases-loop-page l = l.end - l.page
