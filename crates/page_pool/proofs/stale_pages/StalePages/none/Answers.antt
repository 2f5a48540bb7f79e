use Rattle.std.proofs.Common.{◌≡◌, ◌+◌, ◌/◌, Bool, ℕ, List, false, replicate, rules, ap, sym, ◌∙◌, subst, arith}
use Rattle.page_pool.specs.StaleList.{AreCounted}
use Rattle.page_pool.proofs.Flags.{counts_first}
use Rattle.page_pool.proofs.stale_pages.StalePages.none.Goals as goal

pub invariant_of-result : goal.invariant_of-result
invariant_of-result c =
    let space = c.args.space in
    let of_groups : c.div_ceil.result ≡ (space + 63) / 64 = omega arith in
    let of_clusters : c.div_ceil-2.result ≡ (space + 4095) / 4096 = omega arith in
    let flags : c.in_ok-flags.flags ≡ replicate space false = c.in_ok-flags.ensures in
    let groups : c.in_ok-groups.groups.items ≡ replicate c.div_ceil.result 0 = search rules in
    let clusters : c.in_ok-clusters.clusters.items ≡ replicate c.div_ceil-2.result 0 = search rules in
    subst (λ (fs : List Bool). AreCounted fs c.in_ok-groups.groups.items c.in_ok-clusters.clusters.items 0) (sym flags)
    (subst (λ (gs : List ℕ). AreCounted (replicate space false) gs c.in_ok-clusters.clusters.items 0) (sym (groups ∙ ap (λ n. replicate n 0) of_groups))
    (subst (λ (cs : List ℕ). AreCounted (replicate space false) (replicate ((space + 63) / 64) 0) cs 0) (sym (clusters ∙ ap (λ n. replicate n 0) of_clusters)) (counts_first space)))
