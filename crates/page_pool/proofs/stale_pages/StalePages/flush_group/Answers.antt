use Rattle.std.proofs.Common.{◌≡◌, ◌/◌, false, length, ap, sym, ◌∙◌, arith}
use Rattle.vm_model.specs.Space.{holds, paint}
use Rattle.page_pool.specs.StaleList.{set_in}
use Rattle.page_pool.proofs.Flags.{group_read, nothing_stale, rest_in_group}
use Rattle.page_pool.proofs.stale_pages.StalePages.flush_group.Goals as goal

pub returns-else-index-gt0 : goal.returns-else-index-gt0
returns-else-index-gt0 c =
    let flags = c.self.inside.flags in
    let group = c.args.span.start / 64 in
    let same = ap (λ fs. length fs) c.self.view_is in
    let read = group_read flags c.self.inside.groups.items c.self.inside.clusters.items c.self.inside.count c.args.span.start c.index.result.now c.self.invariant (omega arith) c.index.ensures in
    let none : set_in 64 group flags ≡ 0 = omega arith in
    sym c.self.view_is ∙ nothing_stale 64 group flags c.args.span (omega arith) none (λ page inside. rest_in_group 64 c.args.span.start c.args.span.pages page (omega arith) (omega arith) inside) ∙ ap (paint (holds c.args.span) false) c.self.view_is
