use Rattle.std.proofs.Common.{◌≡◌, ◌++◌, ◌<◌, ◌^◌, ◌≤◌, ◌∷◌, All, sym, subst, arith}
use Rattle.vm_model.specs.declared.areas.Span.{Span}
use Rattle.vm_model.specs.Space.{end_of}
use Rattle.std.proofs.lemmas.Bool.Decides.{nat_tests}
use Rattle.std.specs.Prelude.{count_ones}
use Rattle.vm_model.proofs.Powers.{power_with}
use Rattle.augmented_tree.proofs.Spread.{first_start-narrow}
use Rattle.augmented_tree.proofs.NodeNumbers.{at_node}
use Rattle.augmented_tree.proofs.SearchedSides.{first_start-small}
use Rattle.augmented_tree.proofs.tree.Tree.may_fit.Goals as goal

pub returns-then-node-pages : goal.returns-then-node-pages
returns-then-node-pages c = λ passed.
    let n = c.deref-node.result.now in
    let at = at_node c.self.inside.root c.args.self.now c.in-Some.node n c.self.view_is c.self.invariant c.in-Some.is c.deref-node.ensures in
    rw at.is (sym (first_start-small c.args.pages c.args.align _ (omega (arith, at.node.numbers.largest))))

pub returns-then-node-align : goal.returns-then-node-align
returns-then-node-align c = λ passed.
    let n = c.deref-node.result.now in
    let at = at_node c.self.inside.root c.args.self.now c.in-Some.node n c.self.view_is c.self.invariant c.in-Some.is c.deref-node.ensures in
    let word : c.args.align < 2 ^ 32 = omega arith in
    let one : count_ones c.args.align ≡ 1 = grind (arith, nat_tests) in
    let (v, low, is) = power_with 32 c.args.align word one in
    let ends = subst (All (λ (b : Span). end_of b ≤ 1048576)) at.is c.requires.ends in
    rw at.is (sym (first_start-narrow c.args.pages c.args.align v (n.left ++ n.block ∷ n.right) c.requires.pages is word ends (omega (arith, at.node.numbers.spread))))
