use Rattle.std.proofs.Common.{◌≡◌, true, false, Some, is_some, slice_get, length, ℕ, ◌<◌, ◌≤◌, not, ap, sym, ◌∙◌, subst, arith}
use Rattle.std.proofs.lemmas.Bool.Decides.{nat_tests}
use Rattle.vm_model.specs.Space.{holds}
use Rattle.page_pool.specs.PageMap.{Pages, IsMapped}
use Rattle.page_pool.proofs.SpanLooks.{looked_more, looked_at, mapped_at, some_at}
use Rattle.page_pool.proofs.page_side.PageSide.is_mapped.Goals as goal

pub loop-page-init : goal.loop-page-init
loop-page-init c = λ page low high. absurd (omega arith)

pub loop-page-preserved : goal.loop-page-preserved
loop-page-preserved c =
    let p : Pages = record { frames = c.self.inside.frames; stale = c.self.inside.stale; cells = c.self.inside.cells } in
    let same = ap (λ (v : Pages). length v.frames) c.self.view_is in
    looked_more (IsMapped p) c.args.span.start c.loop-page.page c.loop-page.invariant
    (mapped_at c.self.inside.frames c.loop-page.page c.at.result (omega arith) c.at.ensures (c.is_none.ensures ∙ ap not c.if-is_none.false))

pub returns-clause-mapped : goal.returns-clause-mapped
returns-clause-mapped c found =
    looked_at (IsMapped c.args.self.now) c.args.span c.loop-page.page (omega arith)
    (subst (λ (p : Pages). (page : ℕ) → c.args.span.start ≤ page → page < c.loop-page.page → IsMapped p page) c.self.view_is c.loop-page.invariant)

pub returns-then-is_none-clause-only : goal.returns-then-is_none-clause-only
returns-then-is_none-clause-only c = λ inside each.
    let page = c.loop-page.page in
    let same = ap (λ (v : Pages). length v.frames) c.self.view_is in
    let here : holds c.args.span page ≡ true = grind (arith, nat_tests) in
    let mapped = each page here in
    let at = subst (λ (p : Pages). slice_get p.frames page ≡ Some (Some mapped.0)) (sym c.self.view_is) mapped.1 in
    let some = some_at c.self.inside.frames page mapped.0 c.at.result (omega arith) c.at.ensures at in
    let none : is_some c.at.result ≡ false = c.is_none.ensures ∙ ap not c.if-is_none.true in
    cc
