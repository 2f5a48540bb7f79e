-- Word 1, which says that a pass has halted.
use Rattle.std.proofs.Common.{◌≡◌, ◌≢◌, ℕ, ◌+◌, ◌<◌, ◌⊎◌, inl, inr, eqb, Bool, true, false, List, length, get_or, set, refl, sym, ap, ◌∙◌, subst, arith, get_or-set_other, get_or-set_same, eq-eqb, ne_eqb}
use mathlib.Core.Logic.{dite}
use native.Mathlib.Decide.{ℕ_discrete}
use mathlib.Core.Option.{some}
use lib.ListN.{get_elem?}
use Rattle.atomic_table.specs.Table.{State, Me, keeps, Allows}
use Rattle.section_table.specs.declared.views.View.{View}
use Rattle.section_table.specs.Meanings.{Meanings}
use Rattle.section_table.specs.PassViews.{flagged}
use Rattle.section_table.specs.TableRule.{IsRuled}
use Rattle.section_table.specs.TableSteps.{Reads}
use Rattle.section_table.proofs.OneView.{IsOneView, keeps_rule}

is_one : (n : ℕ) → eqb n 1 ≡ true → n ≡ 1
is_one n e = dite (ℕ_discrete n 1) (λ z. z) (λ ne. absurd (off (sym (ne_eqb n 1 ne) ∙ e)))
  where
    off : false ≡ true → ⊥
    off e = absurd (cc)

module _ {R L : Type 0} (m : Meanings R L) (regions : List R) (locals : List L) where
  abbrev V : Type 0
  V = View R L

  abbrev Rule : State R V → Type 0
  Rule = IsRuled m regions locals

  -- the word becomes x, and the view has new flags
  flags : (t : State R V) (now : Rule t) (id : ℕ) (v : V) → get_elem? t.views id ≡ some v → (x : ℕ) (saw made : Bool) → x < 2 → (get_or t.words 1 0 ≡ 1 → x ≡ 1) → (saw ≡ true → x ≡ 1) → (made ≡ true → x ≡ 1)
      → (v.made_halt ≡ true → made ≡ true) → (x ≡ 1 → (get_or t.words 1 0 ≡ 1) ⊎ (made ≡ true)) → IsOneView m regions locals t now id v (flagged saw made v) 1 x t.homes now.holder
  flags t now id v at x saw made bit rises saw_is made_is stays risen = record {
    at = at;
    later = λ e. absurd (omega arith);
    deep = refl;
    held = refl;
    floor = refl;
    rises = λ e. is ∙ rises e;
    bit = subst (λ (z : ℕ). z < 2) (sym is) bit;
    risen = λ e. risen (sym is ∙ e);
    made_stays = stays;
    made = λ e. is ∙ made_is e;
    saw = λ e. is ∙ saw_is e;
    hand = λ k r e. let y = (now.each_view id v at).hand k r e in (y.0, get_or-set_other t.words 1 (k + 2) x 0 (λ e. absurd (omega arith)) ∙ y.1, y.2, y.3);
    hand_stays = λ k r ne e. e;
    holders = λ k ne. refl;
    slots = λ k ne. refl;
    hands = λ j u k r apart there e same. absurd (omega arith);
    here = λ k e below. absurd (omega arith);
  }
    where
      is : get_or (set t.words 1 x) 1 0 ≡ x
      is = get_or-set_same t.words 1 x 0 (let e = now.wide in omega arith)

  pub halts_all : (slots id : ℕ) (me : Me R V) → Allows Rule slots id me 1 (λ _. 1) (λ n me'. me' ≡ (flagged true true me.0, me.1))
  halts_all slots id me t now deep at range =
      (flagged true true me.0, keeps, tt, keeps_rule m regions locals t now id me.0 _ 1 1 t.homes now.holder (flags t now id me.0 at 1 true true (omega arith) (λ _. refl) (λ _. refl) (λ _. refl) (λ _. refl) (λ _. inr refl)), refl)

  pub reads_halt : (slots id : ℕ) (me : Me R V) → Allows Rule slots id me 1 (λ n. n) (Reads me)
  reads_halt slots id me t now deep at range =
      let n : ℕ = get_or t.words 1 0 in
      let own = now.each_view id me.0 at in (
        flagged (eqb n 1) me.0.made_halt me.0,
        keeps,
        tt,
        keeps_rule m regions locals t now id me.0 _ 1 n t.homes now.holder (flags t now id me.0 at n (eqb n 1) me.0.made_halt now.halted (λ e. e) (is_one n) own.made (λ e. e) (λ e. inl e)),
        (own.saw, refl),
      )
