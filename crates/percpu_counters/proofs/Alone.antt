-- A pass that is alone stays so when it makes a step, and no other can make one.
use Rattle.std.proofs.Common.{◌≡◌, ◌≢◌, ℕ, ◌⊎◌, inl, inr, true, List, [], ◌∷◌, ◌++◌, set, sym, ap, ◌∙◌, subst, ⊎_elim, None}
use mathlib.Core.Option.{some}
use lib.ListN.{get_elem?}
use Rattle.atomic_table.specs.Table.{State}
use Rattle.atomic_table.proofs.Lists.{at_set, set_else}
use Rattle.vm_model.specs.declared.calls.CountLine.{CountLine}
use Rattle.percpu_counters.specs.declared.table.Shape.{Shape}
use Rattle.percpu_counters.specs.declared.table.Tally.{Tally}
use Rattle.percpu_counters.specs.CounterRule.{Kept, IsIdle, IsAlone, AmountsFit}

module _ (s : Shape) (t : State (Unit {0}) Tally) (now : Kept s t) (id : ℕ) (v w : Tally) (at : get_elem? t.views id ≡ some v) (place x : ℕ)
    (knows : w.words ≡ set v.words place x) (same : w.alone ≡ v.alone) (busy : IsIdle v → ⊥) where
  abbrev after : State (Unit {0}) Tally
  after = record { words = set t.words place x; homes = t.homes; views = set t.views id w }

  still : (j : ℕ) (u : Tally) → get_elem? after.views j ≡ some u → u.alone ≡ true → (j ≡ id) × (w ≡ u) ⊎ (j ≢ id) × (get_elem? t.views j ≡ some u) → IsAlone after j u
  still j u here alone (inl mine) =
      let was = now.alone id v at (sym same ∙ ap (λ (z : Tally). z.alone) mine.1 ∙ alone) in
      record {
        words = ap (λ (ws : List ℕ). set ws place x) was.words ∙ sym knows ∙ ap (λ (z : Tally). z.words) mine.1;
        others = λ i z there apart. was.others i z (sym (set_else t.views id i w (λ e. apart (e ∙ sym mine.0))) ∙ there) (λ e. apart (e ∙ sym mine.0));
      }
  still j u here alone (inr other) = absurd (busy ((now.alone j u other.1 alone).others id v at (λ e. other.0 (sym e))))

  pub still_alone : (j : ℕ) (u : Tally) → get_elem? after.views j ≡ some u → u.alone ≡ true → IsAlone after j u
  still_alone j u here alone = still j u here alone (at_set t.views id j w u here)

  pub still_hands : (w.adds ≡ [] → w.hand ≡ None) → (j : ℕ) (u : Tally) → get_elem? after.views j ≡ some u → u.adds ≡ [] → u.hand ≡ None
  still_hands mine j u here none = ⊎_elim
      (λ (m : (j ≡ id) × (w ≡ u)). subst (λ (z : Tally). z.adds ≡ [] → z.hand ≡ None) m.1 mine none)
      (λ (o : (j ≢ id) × (get_elem? t.views j ≡ some u)). now.hands j u o.1 none)
      (at_set t.views id j w u here)

  pub still_small : AmountsFit w.adds → (j : ℕ) (u : Tally) → get_elem? after.views j ≡ some u → AmountsFit u.adds
  still_small mine j u here = ⊎_elim
      (λ (m : (j ≡ id) × (w ≡ u)). subst (λ (z : Tally). AmountsFit z.adds) m.1 mine)
      (λ (o : (j ≢ id) × (get_elem? t.views j ≡ some u)). now.small j u o.1)
      (at_set t.views id j w u here)

pub AmountsFit-append : (adds more : List CountLine) → AmountsFit adds → AmountsFit more → AmountsFit (adds ++ more)
AmountsFit-append [] more fit rest = rest
AmountsFit-append (a ∷ adds) more fit rest = (fit.0, AmountsFit-append adds more fit.1 rest)
