-- The blocks of a node, and the numbers that it keeps of them.
use Rattle.std.proofs.Common.{◌≡◌, ℕ, zero, suc, slice_get, ◌+◌, ◌-◌, ◌<◌, ◌≤◌, max, Bool, true, false, nat_le, if◌then◌else◌, List, [], ◌∷◌, ◌++◌, length, refl, ap, sym, ◌∙◌, subst, arith, length-append, Option, Some, Box}
use Rattle.std.specs.List.{insert, remove}
use Rattle.std.proofs.Math.ListN.{set}
use Rattle.std.proofs.lemmas.List.{set-append_left, set-append_right}
use Rattle.std.proofs.lemmas.List.Edits.{insert-append_left, insert-append_right, remove-append_left, remove-append_right}
use Rattle.std.proofs.lemmas.Bool.Decides.{nat_tests}
use Rattle.vm_model.specs.declared.areas.Span.{Span}
use Rattle.vm_model.specs.Space.{longest_of}
use Rattle.std.specs.declared.alloc.Global.{Global}
use Rattle.augmented_tree.specs.declared.tree.Node.{Node}
use Rattle.augmented_tree.specs.BlockTrees.{spread_of, widest, blocks_of, blocks_in, HaveSameGreatest, IsNode, IsTree}

pages-longer : (s best : Span) (b : Bool) → nat_le best.pages s.pages ≡ b → (if b then s else best).pages ≡ max s.pages best.pages
pages-longer s best true e = grind (arith, nat_tests)
pages-longer s best false e = grind (arith, nat_tests)

pub largest-cons : (s : Span) (spans : List Span) → (longest_of (s ∷ spans)).pages ≡ max s.pages (longest_of spans).pages
largest-cons s spans = pages-longer s (longest_of spans) _ refl

pub largest-append : (xs ys : List Span) → (longest_of (xs ++ ys)).pages ≡ max (longest_of xs).pages (longest_of ys).pages
largest-append [] ys = omega arith
largest-append (x ∷ xs) ys = omega (arith, largest-cons x (xs ++ ys), largest-cons x xs, largest-append xs ys)

pub largest-sides : (l : List Span) (b : Span) (r : List Span) → (longest_of (l ++ b ∷ r)).pages ≡ max (max b.pages (longest_of l).pages) (longest_of r).pages
largest-sides l b r = omega (arith, largest-append l (b ∷ r), largest-cons b r)

widest-append : (xs ys : List Span) → widest (xs ++ ys) ≡ max (widest xs) (widest ys)
widest-append [] ys = omega arith
widest-append (x ∷ xs) ys = omega (arith, widest-append xs ys)

pub widest-sides : (l : List Span) (b : Span) (r : List Span) → widest (l ++ b ∷ r) ≡ max (max (spread_of b) (widest l)) (widest r)
widest-sides l b r = omega (arith, widest-append l (b ∷ r))

-- A side that has others of as many pages and as wide leaves the node's numbers as they are.

pub left_same : (l new : List Span) (b : Span) (r : List Span) → HaveSameGreatest l new → HaveSameGreatest (l ++ b ∷ r) (new ++ b ∷ r)
left_same l new b r same = record {
  largest = omega (arith, largest-sides l b r, largest-sides new b r, same.largest);
  spread = omega (arith, widest-sides l b r, widest-sides new b r, same.spread);
}

pub right_same : (l : List Span) (b : Span) (r new : List Span) → HaveSameGreatest r new → HaveSameGreatest (l ++ b ∷ r) (l ++ b ∷ new)
right_same l b r new same = record {
  largest = omega (arith, largest-sides l b r, largest-sides l b new, same.largest);
  spread = omega (arith, widest-sides l b r, widest-sides l b new, same.spread);
}

pub left_replaced : (n : Node) (new : List Span) → IsNode n → length new ≡ length n.left → HaveSameGreatest n.left new → IsNode (record n { left = new })
left_replaced n new node long same =
    let all = left_same n.left new n.block n.right same in
    record {
      numbers = record {
        count = omega (arith, node.numbers.count, length-append n.left (n.block ∷ n.right), length-append new (n.block ∷ n.right), long);
        largest = node.numbers.largest ∙ sym all.largest;
        spread = node.numbers.spread ∙ sym all.spread;
      };
      balanced = (omega (arith, node.balanced.0, long), omega (arith, node.balanced.1, long));
    }

pub right_replaced : (n : Node) (new : List Span) → IsNode n → length new ≡ length n.right → HaveSameGreatest n.right new → IsNode (record n { right = new })
right_replaced n new node long same =
    let all = right_same n.left n.block n.right new same in
    record {
      numbers = record {
        count = omega (arith, node.numbers.count, length-append n.left (n.block ∷ n.right), length-append n.left (n.block ∷ new), long);
        largest = node.numbers.largest ∙ sym all.largest;
        spread = node.numbers.spread ∙ sym all.spread;
      };
      balanced = (omega (arith, node.balanced.0, long), omega (arith, node.balanced.1, long));
    }

-- An edit of a node's blocks is one in a side, or at its own block.

module _ (l : List Span) (b : Span) (r : List Span) (i : ℕ) (new : Span) where
  pub insert-in_left : i ≤ length l → insert (l ++ b ∷ r) i new ≡ insert l i new ++ b ∷ r
  insert-in_left h = insert-append_left l (b ∷ r) i new h

  pub insert-in_right : length l < i → insert (l ++ b ∷ r) i new ≡ l ++ b ∷ insert r (i - length l - 1) new
  insert-in_right h = insert-append_right l (b ∷ r) (length l) i new refl (omega arith) ∙ ap (λ ys. l ++ ys) (insert-append_right (b ∷ []) r 1 (i - length l) new refl (omega arith))

  pub set-in_left : i < length l → set (l ++ b ∷ r) i new ≡ set l i new ++ b ∷ r
  set-in_left h = set-append_left l (b ∷ r) i new h

  pub set-in_middle : i ≡ length l → set (l ++ b ∷ r) i new ≡ l ++ new ∷ r
  set-in_middle h = set-append_right l (b ∷ r) (length l) i new refl (omega arith) ∙ (let here : i - length l ≡ 0 = omega arith in ap (λ k. l ++ set (b ∷ r) k new) here)

  pub set-in_right : length l < i → set (l ++ b ∷ r) i new ≡ l ++ b ∷ set r (i - length l - 1) new
  set-in_right h = set-append_right l (b ∷ r) (length l) i new refl (omega arith) ∙ ap (λ ys. l ++ ys) (set-append_right (b ∷ []) r 1 (i - length l) new refl (omega arith))

  pub remove-in_left : i < length l → remove (l ++ b ∷ r) i ≡ remove l i ++ b ∷ r
  remove-in_left h = remove-append_left l (b ∷ r) i h

  pub remove-in_middle : i ≡ length l → remove (l ++ b ∷ r) i ≡ l ++ r
  remove-in_middle h = remove-append_right l (b ∷ r) (length l) i refl (omega arith) ∙ (let here : i - length l ≡ 0 = omega arith in ap (λ k. l ++ remove (b ∷ r) k) here)

  pub remove-in_right : length l < i → remove (l ++ b ∷ r) i ≡ l ++ b ∷ remove r (i - length l - 1)
  remove-in_right h = remove-append_right l (b ∷ r) (length l) i refl (omega arith) ∙ ap (λ ys. l ++ ys) (remove-append_right (b ∷ []) r 1 (i - length l) refl (omega arith))

-- what is known of the blocks of a tree whose root is read
pub record AtNode (blocks : List Span) (n : Node) : Type 0 where
  pub is : blocks ≡ n.left ++ n.block ∷ n.right
  pub node : IsNode n
  pub count : n.count ≡ length n.left + 1 + length n.right
  pub left_shorter : length n.left < length blocks
  pub right_shorter : length n.right < length blocks

pub at_node : (root : Option (Box Node Global)) (blocks : List Span) (b : Box Node Global) (n : Node) → blocks_in root ≡ blocks → IsTree root → root ≡ Some b → n ≡ b.value → AtNode blocks n
at_node root blocks b n view tree same read =
    let e : blocks ≡ n.left ++ n.block ∷ n.right = sym view ∙ ap blocks_in same ∙ sym (ap blocks_of read) in
    let all : length blocks ≡ length n.left + length (n.block ∷ n.right) = ap length e ∙ length-append n.left (n.block ∷ n.right) in
    let node : IsNode n = subst IsNode (sym read) (subst IsTree same tree) in
    record { is = e; node = node; count = omega (arith, node.numbers.count, length-append n.left (n.block ∷ n.right)); left_shorter = omega arith; right_shorter = omega arith }

-- An element by its index.

module _ {X : Type 0} where
  pub slice_get_left : (l ys : List X) (i : ℕ) (x : X) → slice_get l i ≡ Some x → slice_get (l ++ ys) i ≡ Some x
  slice_get_left [] ys i x e = cc
  slice_get_left (y ∷ l) ys zero x e = e
  slice_get_left (y ∷ l) ys (suc i) x e = slice_get_left l ys i x e

  pub slice_get_here : (l : List X) (b : X) (r : List X) → slice_get (l ++ b ∷ r) (length l) ≡ Some b
  slice_get_here [] b r = refl
  slice_get_here (y ∷ l) b r = slice_get_here l b r

  pub slice_get_right : (l : List X) (b : X) (r : List X) (i j : ℕ) → j ≡ length l + 1 + i → slice_get (l ++ b ∷ r) j ≡ slice_get r i
  slice_get_right [] b r i j e = let next : j ≡ suc i = omega arith in ap (slice_get (b ∷ r)) next
  slice_get_right (y ∷ l) b r i zero e = absurd (omega arith)
  slice_get_right (y ∷ l) b r i (suc j) e = slice_get_right l b r i j (omega arith)
