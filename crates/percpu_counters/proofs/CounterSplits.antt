-- Passes that are cut in two, and joined.
use Rattle.std.proofs.Common.{◌≡◌, ◌≢◌, ℕ, ◌+◌, ◌-◌, ◌≤◌, ◌⊎◌, inl, inr, true, false, List, [], ◌∷◌, ◌++◌, length, set, refl, ap, sym, ◌∙◌, subst, ⊎_elim, arith, None, length-append}
use mathlib.Core.Option.{some}
use lib.ListN.{get_elem?}
use Rattle.atomic_table.specs.Table.{State, Splits, Joins}
use Rattle.atomic_table.proofs.Lists.{at_set, at_snoc, set_else}
use Rattle.vm_model.specs.declared.calls.CountLine.{CountLine}
use Rattle.percpu_counters.specs.declared.table.Shape.{Shape}
use Rattle.percpu_counters.specs.declared.table.Tally.{Tally}
use Rattle.percpu_counters.specs.CounterRule.{Kept, IsIdle, IsAlone, IsAlike, AmountsFit, sum_over, recorded, given_to, in_hand, hand_to, row_sum, row_of, with_less, with_room, with_both}
use Rattle.percpu_counters.proofs.Puts.{sum_over-set, sum_over-snoc}
use Rattle.percpu_counters.proofs.Alone.{AmountsFit-append}

sum_over-append : {V : Type 0} (f : V → ℕ) (vs ws : List V) → sum_over f (vs ++ ws) ≡ sum_over f vs + sum_over f ws
sum_over-append f [] ws = omega arith
sum_over-append f (v ∷ vs) ws = let e = sum_over-append f vs ws in omega arith

not_alone : (v : Tally) → v.alone ≡ false → v.alone ≡ true → ⊥
not_alone v dark lit = let e : false ≡ true = sym dark ∙ lit in cc

module _ (s : Shape) (t : State (Unit {0}) Tally) (now : Kept s t) (id room : ℕ) (v : Tally) (at : get_elem? t.views id ≡ some v) (enough : room ≤ v.room) (empty : v.hand ≡ None) where
  abbrev left : Tally
  left = with_less room v

  abbrev views' : List Tally
  views' = set t.views id left ++ with_room room ∷ []

  -- one of the views that are now there is the left half, the right one, or as it was
  among : (j : ℕ) (u : Tally) → get_elem? views' j ≡ some u → ((left ≡ u) ⊎ (with_room room ≡ u)) ⊎ ((j ≢ id) × (get_elem? t.views j ≡ some u))
  among j u here = ⊎_elim
      (λ (front : get_elem? (set t.views id left) j ≡ some u). ⊎_elim (λ (mine : (j ≡ id) × (left ≡ u)). inl (inl mine.1)) (λ (other : (j ≢ id) × (get_elem? t.views j ≡ some u)). inr other) (at_set t.views id j left u front))
      (λ (last : with_room room ≡ u). inl (inr last))
      (at_snoc (set t.views id left) (with_room room) u j here)

  kept_sum : (f : Tally → ℕ) → f left + f (with_room room) ≡ f v → sum_over f views' ≡ sum_over f t.views
  kept_sum f same = let e = sum_over-snoc f (set t.views id left) (with_room room) in let g = sum_over-set f t.views id v left at in omega arith

  hands_of : (j : ℕ) (u : Tally) → get_elem? views' j ≡ some u → u.adds ≡ [] → u.hand ≡ None
  hands_of j u here none = ⊎_elim
      (λ (new : (left ≡ u) ⊎ (with_room room ≡ u)). ⊎_elim (λ (is : left ≡ u). ap (λ (z : Tally). z.hand) (sym is) ∙ empty) (λ (is : with_room room ≡ u). ap (λ (z : Tally). z.hand) (sym is)) new)
      (λ (old : (j ≢ id) × (get_elem? t.views j ≡ some u)). now.hands j u old.1 none) (among j u here)

  small_of : (j : ℕ) (u : Tally) → get_elem? views' j ≡ some u → AmountsFit u.adds
  small_of j u here = ⊎_elim
      (λ (new : (left ≡ u) ⊎ (with_room room ≡ u)). ⊎_elim (λ (is : left ≡ u). subst (λ (z : Tally). AmountsFit z.adds) is (now.small id v at)) (λ (is : with_room room ≡ u). subst (λ (z : Tally). AmountsFit z.adds) is tt) new)
      (λ (old : (j ≢ id) × (get_elem? t.views j ≡ some u)). now.small j u old.1) (among j u here)

  idle_of : (j : ℕ) (u : Tally) → j ≢ id → get_elem? t.views j ≡ some u → u.alone ≡ true → (i : ℕ) (w : Tally) → get_elem? views' i ≡ some w → i ≢ j → IsIdle w
  idle_of j u apart there alone i w here other =
      let others = (now.alone j u there alone).others in
      let mine = others id v at (λ e. apart (sym e)) in
      let none = mine.room in
      ⊎_elim
      (λ (new : (left ≡ w) ⊎ (with_room room ≡ w)). ⊎_elim
      (λ (is : left ≡ w). subst IsIdle is (record { adds = mine.adds; room = omega arith }))
      (λ (is : with_room room ≡ w). subst IsIdle is (record { adds = refl; room = omega arith })) new)
      (λ (old : (i ≢ id) × (get_elem? t.views i ≡ some w)). others i w old.1 other) (among i w here)

  alone_of : (j : ℕ) (u : Tally) → get_elem? views' j ≡ some u → u.alone ≡ true → IsAlone (record { words = t.words; homes = t.homes; views = views' }) j u
  alone_of j u here alone = ⊎_elim
      (λ (new : (left ≡ u) ⊎ (with_room room ≡ u)). ⊎_elim
      (λ (is : left ≡ u). absurd (not_alone u (ap (λ (z : Tally). z.alone) (sym is)) alone))
      (λ (is : with_room room ≡ u). absurd (not_alone u (ap (λ (z : Tally). z.alone) (sym is)) alone)) new)
      (λ (old : (j ≢ id) × (get_elem? t.views j ≡ some u)). record { words = (now.alone j u old.1 alone).words; others = idle_of j u old.0 old.1 alone }) (among j u here)

  pub keeps_split : Kept s record { words = t.words; homes = t.homes; views = views' }
  keeps_split = record {
    wide = now.wide;
    sums = λ k below. subst (λ (z : ℕ × ℕ). IsAlike (row_sum t.words (row_of s k) (s.cpus + 1) + z.0) z.1)
        (λ i. (sym (kept_sum (in_hand k) (let e : in_hand k left + 0 ≡ in_hand k v = omega arith in e)) i, sym (kept_sum (recorded k) (let e : recorded k left + 0 ≡ recorded k v = omega arith in e)) i)) (now.sums k below);
    rooms = kept_sum (λ (u : Tally). length u.adds + u.room) (let e : length v.adds + (v.room - room) + (0 + room) ≡ length v.adds + v.room = omega arith in e) ∙ now.rooms;
    few = now.few;
    hands = hands_of;
    small = small_of;
    alone = alone_of;
  }

pub splits_as : (s s0 : Shape) (id room room0 : ℕ) (v : Tally) → s0 ≡ s → room0 ≡ room → room ≤ v.room → v.hand ≡ None → Splits {S = Unit {0}} (Kept s0) id v (with_less room0 v) (with_room room0)
splits_as s s0 id room room0 v shape same enough empty =
    subst (λ (z : Shape × ℕ). Splits {S = Unit {0}} (Kept z.0) id v (with_less z.1 v) (with_room z.1)) (λ k. (sym shape k, sym same k)) (λ t now at. keeps_split s t now id room v at enough empty)

-- Two passes are one.

module _ (s : Shape) (t : State (Unit {0}) Tally) (now : Kept s t) (id other : ℕ) (v w : Tally) (at : get_elem? t.views id ≡ some v) (apart : other ≢ id) (there : get_elem? (set t.views id (with_both v w)) other ≡ some w) (empty : v.hand ≡ None) (other_empty : w.hand ≡ None) where
  abbrev both : Tally
  both = with_both v w

  abbrev joined : List Tally
  joined = set (set t.views id both) other (with_room 0)

  was_there : get_elem? t.views other ≡ some w
  was_there = sym (set_else t.views id other both apart) ∙ there

  from : (j : ℕ) (u : Tally) → get_elem? joined j ≡ some u → ((with_room 0 ≡ u) ⊎ (both ≡ u)) ⊎ ((j ≢ id) × (j ≢ other) × (get_elem? t.views j ≡ some u))
  from j u here = ⊎_elim
      (λ (spent : (j ≡ other) × (with_room 0 ≡ u)). inl (inl spent.1))
      (λ (rest : (j ≢ other) × (get_elem? (set t.views id both) j ≡ some u)). ⊎_elim
      (λ (mine : (j ≡ id) × (both ≡ u)). inl (inr mine.1))
      (λ (old : (j ≢ id) × (get_elem? t.views j ≡ some u)). inr (old.0, rest.0, old.1))
      (at_set t.views id j both u rest.1))
      (at_set (set t.views id both) other j (with_room 0) u here)

  joined_sum : (f : Tally → ℕ) → f both + f (with_room 0) ≡ f v + f w → sum_over f joined ≡ sum_over f t.views
  joined_sum f same = let e = sum_over-set f t.views id v both at in let g = sum_over-set f (set t.views id both) other w (with_room 0) there in omega arith

  joined_hands : (j : ℕ) (u : Tally) → get_elem? joined j ≡ some u → u.adds ≡ [] → u.hand ≡ None
  joined_hands j u here none = ⊎_elim
      (λ (new : (with_room 0 ≡ u) ⊎ (both ≡ u)). ⊎_elim (λ (is : with_room 0 ≡ u). ap (λ (z : Tally). z.hand) (sym is)) (λ (is : both ≡ u). ap (λ (z : Tally). z.hand) (sym is)) new)
      (λ (old : (j ≢ id) × (j ≢ other) × (get_elem? t.views j ≡ some u)). now.hands j u old.2 none) (from j u here)

  joined_small : (j : ℕ) (u : Tally) → get_elem? joined j ≡ some u → AmountsFit u.adds
  joined_small j u here = ⊎_elim
      (λ (new : (with_room 0 ≡ u) ⊎ (both ≡ u)). ⊎_elim
      (λ (is : with_room 0 ≡ u). subst (λ (z : Tally). AmountsFit z.adds) is tt)
      (λ (is : both ≡ u). subst (λ (z : Tally). AmountsFit z.adds) is (AmountsFit-append v.adds w.adds (now.small id v at) (now.small other w was_there))) new)
      (λ (old : (j ≢ id) × (j ≢ other) × (get_elem? t.views j ≡ some u)). now.small j u old.2) (from j u here)

  joined_idle : (j : ℕ) (u : Tally) → j ≢ id → j ≢ other → get_elem? t.views j ≡ some u → u.alone ≡ true → (i : ℕ) (z : Tally) → get_elem? joined i ≡ some z → i ≢ j → IsIdle z
  joined_idle j u not_id not_other old alone i z here differ =
      let others = (now.alone j u old alone).others in
      let mine = others id v at (λ e. not_id (sym e)) in
      let its = others other w was_there (λ e. not_other (sym e)) in
      ⊎_elim
      (λ (new : (with_room 0 ≡ z) ⊎ (both ≡ z)). ⊎_elim
      (λ (is : with_room 0 ≡ z). subst IsIdle is (record { adds = refl; room = refl }))
      (λ (is : both ≡ z). subst IsIdle is (record {
        adds = ap (λ (ls : List CountLine). ls ++ w.adds) mine.adds ∙ its.adds;
        room = (let p = mine.room in let q = its.room in omega arith);
      })) new)
      (λ (was : (i ≢ id) × (i ≢ other) × (get_elem? t.views i ≡ some z)). others i z was.2 differ) (from i z here)

  joined_alone : (j : ℕ) (u : Tally) → get_elem? joined j ≡ some u → u.alone ≡ true → IsAlone (record { words = t.words; homes = t.homes; views = joined }) j u
  joined_alone j u here alone = ⊎_elim
      (λ (new : (with_room 0 ≡ u) ⊎ (both ≡ u)). ⊎_elim
      (λ (is : with_room 0 ≡ u). absurd (not_alone u (ap (λ (z : Tally). z.alone) (sym is)) alone))
      (λ (is : both ≡ u). absurd (not_alone u (ap (λ (z : Tally). z.alone) (sym is)) alone)) new)
      (λ (old : (j ≢ id) × (j ≢ other) × (get_elem? t.views j ≡ some u)). record { words = (now.alone j u old.2 alone).words; others = joined_idle j u old.0 old.1 old.2 alone }) (from j u here)

  in_hands : (k : ℕ) → in_hand k both + in_hand k (with_room 0) ≡ in_hand k v + in_hand k w
  in_hands k = let p = ap (hand_to k) empty in let q = ap (hand_to k) other_empty in omega arith

  pub keeps_joined : Kept s record { words = t.words; homes = t.homes; views = joined }
  keeps_joined = record {
    wide = now.wide;
    sums = λ k below. subst (λ (z : ℕ × ℕ). IsAlike (row_sum t.words (row_of s k) (s.cpus + 1) + z.0) z.1)
        (λ i. (sym (joined_sum (in_hand k) (in_hands k)) i, sym (joined_sum (recorded k) (let l = sum_over-append (given_to k) v.adds w.adds in let e : recorded k both + 0 ≡ recorded k v + recorded k w = omega arith in e)) i)) (now.sums k below);
    rooms = joined_sum (λ (u : Tally). length u.adds + u.room) (let l = length-append v.adds w.adds in let e : length (v.adds ++ w.adds) + (v.room + w.room) + (0 + 0) ≡ length v.adds + v.room + (length w.adds + w.room) = omega arith in e) ∙ now.rooms;
    few = now.few;
    hands = joined_hands;
    small = joined_small;
    alone = joined_alone;
  }

pub joins_as : (s s0 : Shape) (id other : ℕ) (v w : Tally) → s0 ≡ s → v.hand ≡ None → w.hand ≡ None → Joins {S = Unit {0}} (Kept s0) id v other w (with_both v w) (with_room 0)
joins_as s s0 id other v w shape empty other_empty =
    subst (λ (z : Shape). Joins {S = Unit {0}} (Kept z) id v other w (with_both v w) (with_room 0)) (sym shape) (λ t now at apart there. keeps_joined s t now id other v w at apart there empty other_empty)
