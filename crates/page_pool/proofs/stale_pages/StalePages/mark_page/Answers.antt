use Rattle.std.proofs.Common.{◌≡◌, ◌+◌, ◌/◌, List, Bool, Some, true, false, slice_get, slice_set, length, ap, sym, subst, ◌∙◌, arith}
use Rattle.vm_model.proofs.Tabulated.{get-value_at}
use Rattle.page_pool.specs.StaleList.{AreCounted}
use Rattle.page_pool.proofs.Painting.{paint_one, set_again}
use Rattle.page_pool.proofs.Flags.{set_count-below, group_read, cluster_read, set_in-below, counts_set}
use Rattle.page_pool.proofs.stale_pages.StalePages.mark_page.Goals as goal

pub overflow_add-index_mut : goal.overflow_add-index_mut
overflow_add-index_mut c =
    let flags = c.self.inside.flags in
    let page = c.args.page in
    let same = ap (λ fs. length fs) c.self.view_is in
    let clear : slice_get flags page ≡ Some false = get-value_at flags page false (omega arith) (sym c.contains.ensures ∙ c.if-contains.false) in
    let read = group_read flags c.self.inside.groups.items c.self.inside.clusters.items c.self.inside.count page c.index_mut.result.now c.self.invariant (omega arith) c.index_mut.ensures.value in
    record { fits = omega (arith, set_in-below 64 page flags (omega arith) clear) }

pub overflow_add-index_mut-2 : goal.overflow_add-index_mut-2
overflow_add-index_mut-2 c =
    let flags = c.self.inside.flags in
    let page = c.args.page in
    let same = ap (λ fs. length fs) c.self.view_is in
    let clear : slice_get flags page ≡ Some false = get-value_at flags page false (omega arith) (sym c.contains.ensures ∙ c.if-contains.false) in
    let read = cluster_read flags c.self.inside.groups.items c.self.inside.clusters.items c.self.inside.count page c.index_mut-2.result.now c.self.invariant (omega arith) c.index_mut-2.ensures.value in
    record { fits = omega (arith, set_in-below 4096 page flags (omega arith) clear) }

pub overflow_add-self : goal.overflow_add-self
overflow_add-self c =
    let flags = c.self.inside.flags in
    let page = c.args.page in
    let same = ap (λ fs. length fs) c.self.view_is in
    let clear : slice_get flags page ≡ Some false = get-value_at flags page false (omega arith) (sym c.contains.ensures ∙ c.if-contains.false) in
    omega (arith, set_count-below flags page clear)

pub invariant_of-self : goal.invariant_of-self
invariant_of-self c =
    let flags = c.self.inside.flags in
    let page = c.args.page in
    let same = ap (λ fs. length fs) c.self.view_is in
    let clear : slice_get flags page ≡ Some false = get-value_at flags page false (omega arith) (sym c.contains.ensures ∙ c.if-contains.false) in
    subst (λ (fs : List Bool). AreCounted fs (slice_set c.self.inside.groups.items (page / 64) (c.index_mut.result.now + 1)) (slice_set c.self.inside.clusters.items (page / 4096) (c.index_mut-2.result.now + 1)) (c.self.inside.count + 1)) (sym (c.put.ensures ∙ paint_one page true flags))
    (counts_set flags c.self.inside.groups.items c.self.inside.clusters.items c.self.inside.count page c.index_mut.result.now c.index_mut-2.result.now c.self.invariant clear (omega arith) c.index_mut.ensures.value c.index_mut-2.ensures.value)

pub returns-then-contains : goal.returns-then-contains
returns-then-contains c =
    let same = ap (λ fs. length fs) c.self.view_is in
    sym c.self.view_is ∙ sym (set_again c.self.inside.flags c.args.page true (omega arith) (sym c.contains.ensures ∙ c.if-contains.true)) ∙ ap (λ fs. slice_set fs c.args.page true) c.self.view_is

pub returns : goal.returns
returns c = c.put.ensures ∙ paint_one c.args.page true c.self.inside.flags ∙ ap (λ fs. slice_set fs c.args.page true) c.self.view_is
