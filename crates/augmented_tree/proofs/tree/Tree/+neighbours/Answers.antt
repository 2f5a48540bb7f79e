use Rattle.std.proofs.Common.{◌≡◌, ◌+◌, ◌-◌, ◌∙◌, Some, length, ap, sym, subst, arith}
use Rattle.std.specs.Option.{option_or}
use Rattle.vm_model.specs.Space.{AreSeparateFrom}
use Rattle.augmented_tree.proofs.NodeNumbers.{at_node, slice_get_right}
use Rattle.augmented_tree.proofs.SearchedSides.{separate_left, separate_right, prefix_left, prefix_right, before_right, behind_left, up_to_bound}
use Rattle.augmented_tree.proofs.tree.Tree.+neighbours.Goals as goal

pub neighbours-side-requires : goal.neighbours-side-requires
neighbours-side-requires t c =
    let at = at_node c.self.inside.root c.args.self.now c.in-Some.node c.deref-node.result.now c.self.view_is c.self.invariant c.in-Some.is c.deref-node.ensures in
    (omega arith, separate_left _ _ _ (subst (AreSeparateFrom 0) at.is c.requires))

pub neighbours-side-requires-2 : goal.neighbours-side-requires-2
neighbours-side-requires-2 t c =
    let at = at_node c.self.inside.root c.args.self.now c.in-Some.node c.deref-node.result.now c.self.view_is c.self.invariant c.in-Some.is c.deref-node.ensures in
    (omega arith, separate_right _ _ _ (subst (AreSeparateFrom 0) at.is c.requires))

pub returns-then-page-node-clause-index : goal.returns-then-page-node-clause-index
returns-then-page-node-clause-index t c =
    let at = at_node c.self.inside.root c.args.self.now c.in-Some.node c.deref-node.result.now c.self.view_is c.self.invariant c.in-Some.is c.deref-node.ensures in
    rw at.is (c.neighbours-side.ensures.index ∙ prefix_left _ _ _ (subst (AreSeparateFrom 0) at.is c.requires) c.args.page c.if-page-node.true)

pub returns-then-page-node-clause-behind : goal.returns-then-page-node-clause-behind
returns-then-page-node-clause-behind t c =
    let at = at_node c.self.inside.root c.args.self.now c.in-Some.node c.deref-node.result.now c.self.view_is c.self.invariant c.in-Some.is c.deref-node.ensures in
    let bound = up_to_bound c.args.page c.deref-node.result.now.left c.neighbours-side.result.index c.neighbours-side.ensures.index in
    rw at.is (c.or.ensures ∙ ap (λ o. option_or o (Some c.deref-node.result.now.block)) c.neighbours-side.ensures.behind ∙ behind_left _ _ _ _ bound)

pub returns-clause-index : goal.returns-clause-index
returns-clause-index t c =
    let at = at_node c.self.inside.root c.args.self.now c.in-Some.node c.deref-node.result.now c.self.view_is c.self.invariant c.in-Some.is c.deref-node.ensures in
    let all = prefix_right _ _ _ (subst (AreSeparateFrom 0) at.is c.requires) c.args.page c.if-page-node.false in
    rw at.is (omega (arith, all, c.neighbours-side-2.ensures.index))

pub returns-clause-before : goal.returns-clause-before
returns-clause-before t c =
    let at = at_node c.self.inside.root c.args.self.now c.in-Some.node c.deref-node.result.now c.self.view_is c.self.invariant c.in-Some.is c.deref-node.ensures in
    let node = c.deref-node.result.now in
    let index : node.count - c.len.result + c.neighbours-side-2.result.index ≡ length node.left + 1 + c.neighbours-side-2.result.index = omega arith in
    rw at.is (c.or-2.ensures ∙ ap (λ o. option_or o (Some node.block)) c.neighbours-side-2.ensures.before ∙ before_right node.left node.block node.right _ _ index)

pub returns-clause-behind : goal.returns-clause-behind
returns-clause-behind t c =
    let at = at_node c.self.inside.root c.args.self.now c.in-Some.node c.deref-node.result.now c.self.view_is c.self.invariant c.in-Some.is c.deref-node.ensures in
    let node = c.deref-node.result.now in
    let index : node.count - c.len.result + c.neighbours-side-2.result.index ≡ length node.left + 1 + c.neighbours-side-2.result.index = omega arith in
    rw at.is (c.neighbours-side-2.ensures.behind ∙ sym (slice_get_right node.left node.block node.right _ _ index))
