use Rattle.std.proofs.Common.{◌≤◌, ◌++◌, ℕ, List, sym, subst, arith}
use Rattle.vm_model.specs.declared.areas.Span.{Span}
use Rattle.vm_model.specs.Space.{times}
use Rattle.lazy_purge.proofs.Counting.{joined_fit, joined}
use Rattle.lazy_purge.proofs.lazy_side.LazySide.add.Goals as goal

pub pages_of-requires : goal.pages_of-requires
pages_of-requires c =
    let once : (page : ℕ) → times page (c.self.inside.spans.items ++ c.args.spans.now) ≤ 1 = subst (λ (old : List Span). (page : ℕ) → times page (old ++ c.args.spans.now) ≤ 1) (sym c.self.view_is) c.requires.disjoint in
    let fit = joined_fit c.self.inside.spans.items c.args.spans.now c.self.inside.pages c.self.invariant c.requires.some c.requires.ends once in
    omega arith

pub overflow_add-pages : goal.overflow_add-pages
overflow_add-pages c =
    let once : (page : ℕ) → times page (c.self.inside.spans.items ++ c.args.spans.now) ≤ 1 = subst (λ (old : List Span). (page : ℕ) → times page (old ++ c.args.spans.now) ≤ 1) (sym c.self.view_is) c.requires.disjoint in
    let fit = joined_fit c.self.inside.spans.items c.args.spans.now c.self.inside.pages c.self.invariant c.requires.some c.requires.ends once in
    let told = c.pages_of.ensures in
    omega arith

pub invariant_of-self-2 : goal.invariant_of-self-2
invariant_of-self-2 c =
    let once : (page : ℕ) → times page (c.self.inside.spans.items ++ c.args.spans.now) ≤ 1 = subst (λ (old : List Span). (page : ℕ) → times page (old ++ c.args.spans.now) ≤ 1) (sym c.self.view_is) c.requires.disjoint in
    rw (c.in_ok-extend_from_slice.ensures.items, c.pages_of.ensures)
    (joined c.self.inside.spans.items c.args.spans.now c.self.inside.pages c.self.invariant c.requires.some c.requires.ends once)
