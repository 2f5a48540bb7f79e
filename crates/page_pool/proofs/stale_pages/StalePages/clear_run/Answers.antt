use Rattle.std.proofs.Common.{◌-◌, ◌/◌, List, Bool, true, slice_set, length, ap, sym, subst, arith}
use Rattle.page_pool.specs.StaleList.{AreCounted}
use Rattle.page_pool.proofs.Flags.{group_read, cluster_read}
use Rattle.page_pool.proofs.FlagRuns.{IsRun, in_cluster, group_holds, all_hold, counts_run_cleared}
use Rattle.page_pool.proofs.stale_pages.StalePages.clear_run.Goals as goal

pub overflow_sub-index_mut : goal.overflow_sub-index_mut
overflow_sub-index_mut c =
    let flags = c.self.inside.flags in
    let start = c.args.span.start in
    let same = ap (λ fs. length fs) c.self.view_is in
    let run : IsRun flags start c.args.span.pages true = subst (λ fs. IsRun fs start c.args.span.pages true) (sym c.self.view_is) (λ page low high. c.requires.stale.others page low high) in
    let read = group_read flags c.self.inside.groups.items c.self.inside.clusters.items c.self.inside.count start c.index_mut.result.now c.self.invariant (omega arith) c.index_mut.ensures.value in
    omega (arith, group_holds 64 c.args.span.pages start flags (omega arith) c.requires.group run)

pub overflow_sub-index_mut-2 : goal.overflow_sub-index_mut-2
overflow_sub-index_mut-2 c =
    let flags = c.self.inside.flags in
    let start = c.args.span.start in
    let same = ap (λ fs. length fs) c.self.view_is in
    let run : IsRun flags start c.args.span.pages true = subst (λ fs. IsRun fs start c.args.span.pages true) (sym c.self.view_is) (λ page low high. c.requires.stale.others page low high) in
    let read = cluster_read flags c.self.inside.groups.items c.self.inside.clusters.items c.self.inside.count start c.index_mut-2.result.now c.self.invariant (omega arith) c.index_mut-2.ensures.value in
    omega (arith, group_holds 4096 c.args.span.pages start flags (omega arith) (in_cluster start c.args.span.pages c.requires.group) run)

pub overflow_sub-self : goal.overflow_sub-self
overflow_sub-self c =
    let flags = c.self.inside.flags in
    let start = c.args.span.start in
    let same = ap (λ fs. length fs) c.self.view_is in
    let run : IsRun flags start c.args.span.pages true = subst (λ fs. IsRun fs start c.args.span.pages true) (sym c.self.view_is) (λ page low high. c.requires.stale.others page low high) in
    omega (arith, all_hold c.args.span.pages start flags run)

pub invariant_of-self : goal.invariant_of-self
invariant_of-self c =
    let flags = c.self.inside.flags in
    let start = c.args.span.start in
    let n = c.args.span.pages in
    let same = ap (λ fs. length fs) c.self.view_is in
    let run : IsRun flags start n true = subst (λ fs. IsRun fs start n true) (sym c.self.view_is) (λ page low high. c.requires.stale.others page low high) in
    subst (λ (fs : List Bool). AreCounted fs (slice_set c.self.inside.groups.items (start / 64) (c.index_mut.result.now - n)) (slice_set c.self.inside.clusters.items (start / 4096) (c.index_mut-2.result.now - n)) (c.self.inside.count - n)) (sym c.fill.ensures)
    (counts_run_cleared flags c.self.inside.groups.items c.self.inside.clusters.items c.self.inside.count start n c.index_mut.result.now c.index_mut-2.result.now c.self.invariant run (omega arith) c.requires.group c.index_mut.ensures.value c.index_mut-2.ensures.value)
