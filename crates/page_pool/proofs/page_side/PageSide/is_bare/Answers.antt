use Rattle.std.proofs.Common.{length, ap, ℕ, ◌<◌, ◌≤◌, sym, ◌∙◌, subst, arith}
use Rattle.page_pool.specs.PageMap.{Pages, IsBare}
use Rattle.page_pool.proofs.SpanLooks.{looked_more, looked_at, unmapped_at, not_stale_at}
use Rattle.page_pool.proofs.page_side.PageSide.is_bare.Goals as goal

pub loop-page-init : goal.loop-page-init
loop-page-init c = λ page low high. absurd (omega arith)

pub loop-page-preserved : goal.loop-page-preserved
loop-page-preserved c =
    let p : Pages = record { frames = c.self.inside.frames; stale = c.self.inside.stale; cells = c.self.inside.cells } in
    let same = ap (λ (v : Pages). length v.frames) c.self.view_is in
    looked_more (IsBare p) c.args.span.start c.loop-page.page c.loop-page.invariant (record {
      unmapped = unmapped_at c.self.inside.frames c.loop-page.page c.at.result (omega arith) c.at.ensures (sym c.is_some.ensures ∙ c.if-is_some.false);
      not_stale = not_stale_at c.self.inside.stale c.loop-page.page (omega arith) (sym c.contains.ensures ∙ c.if-contains.false);
    })

pub returns-clause-bare : goal.returns-clause-bare
returns-clause-bare c found = looked_at (IsBare c.args.self.now) c.args.span c.loop-page.page (omega arith) (subst (λ (p : Pages). (page : ℕ) → c.args.span.start ≤ page → page < c.loop-page.page → IsBare p page) c.self.view_is c.loop-page.invariant)
