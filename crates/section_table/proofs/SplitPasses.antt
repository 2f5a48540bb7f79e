-- A pass is cut in two.
use Rattle.std.proofs.Common.{◌≡◌, ◌≢◌, ℕ, zero, suc, ◌+◌, ◌<◌, ◌≤◌, Bool, true, List, [], ◌∷◌, ◌++◌, length, set, refl, sym, ap, ◌∙◌, subst, ⊎_elim, arith, Option, Some, None, slice_get, get_or, length-set}
use mathlib.Core.Logic.{dite}
use native.Mathlib.Decide.{ℕ_discrete}
use mathlib.Core.Option.{some}
use lib.ListN.{get_elem?}
use Rattle.atomic_table.specs.Table.{State, Splits}
use Rattle.atomic_table.proofs.Lists.{set_else, at_longer, at_last}
use Rattle.vm_model.specs.Run.{state_after}
use Rattle.vm_model.proofs.Elements.{slice_get-set_other}
use Rattle.section_table.specs.declared.views.Held.{Held}
use Rattle.section_table.specs.declared.views.View.{View}
use Rattle.section_table.specs.Meanings.{Meanings}
use Rattle.section_table.specs.PassViews.{Has, HasCaller, only, without, alone}
use Rattle.section_table.specs.TableRule.{IsViewOf, IsKept, IsRegionOf, IsRuled, HasHaltMade}
use Rattle.section_table.proofs.ElementsByPlace.{none≢some, some_is, put, put_here, put_else, set_there, got_set, got_append, each_set, same_there}

module _ {X : Type 0} where
  pub only_that : (place : ℕ) (xs : List (Option X)) (i : ℕ) (x : X) → slice_get (only place xs) i ≡ Some (Some x) → (i ≡ place) × (slice_get xs i ≡ Some (Some x))
  only_that place [] i x e = absurd (none≢some (Some x) e)
  only_that zero (y ∷ ys) zero x e = (refl, e)
  only_that zero (y ∷ ys) (suc i) x e = absurd (none≢some (Some x) e)
  only_that (suc place) (y ∷ ys) zero x e = absurd (none≢some x (some_is None (Some x) e))
  only_that (suc place) (y ∷ ys) (suc i) x e = let t = only_that place ys i x e in ((let s = t.0 in omega arith), t.1)

  pub only_here : (place : ℕ) (xs : List (Option X)) (x : Option X) → slice_get xs place ≡ Some x → slice_get (only place xs) place ≡ Some x
  only_here place [] x e = absurd (none≢some x e)
  only_here zero (y ∷ ys) x e = e
  only_here (suc place) (y ∷ ys) x e = only_here place ys x e

  only_short : (place : ℕ) (xs : List (Option X)) → length (only place xs) ≤ length xs
  only_short place [] = omega arith
  only_short zero (y ∷ ys) = omega arith
  only_short (suc place) (y ∷ ys) = let t = only_short place ys in omega arith

module _ {R L : Type 0} (m : Meanings R L) (regions : List R) (locals : List L) where
  abbrev V : Type 0
  V = View R L

  abbrev Rule : State R V → Type 0
  Rule = IsRuled m regions locals

  module _ (t : State R V) (now : Rule t) (id : ℕ) (v : V) (c : ℕ) (h : Held L) (at : get_elem? t.views id ≡ some v) (has : Has v c h) (rests : v.hand ≡ None) where
    abbrev s : List R × List L
    s = state_after m.wanted m.moves m.after (regions, locals) now.log

    mine : IsViewOf now.owner now.holder t.words now.log s id v
    mine = now.each_view id v at

    abbrev left : V
    left = without c v

    abbrev right : V
    right = alone c v

    abbrev views' : List V
    views' = set t.views id left ++ right ∷ []

    abbrev owner' : ℕ → ℕ
    owner' = put now.owner c (length t.views)

    left_had : (i : ℕ) (u : Held L) → Has left i u → (i ≢ c) × Has v i u
    left_had i u e = ⊎_elim (λ (x : (i ≡ c) × (None ≡ Some u)). absurd (none≢some u x.1)) (λ (x : (i ≢ c) × (slice_get v.held i ≡ Some (Some u))). x) (got_set v.held c i None (Some u) e)

    left_ok : IsViewOf owner' now.holder t.words now.log s id left
    left_ok = record {
      callers = λ i u e. let x = left_had i u e in let y = mine.callers i u x.1 in (put_else now.owner c (length t.views) i x.0 ∙ y.0, y.1, y.2);
      stamps = λ i u e. mine.stamps i u (left_had i u e).1;
      floor = mine.floor;
      short = subst (λ (z : ℕ). z ≤ 32) (sym (length-set v.held c None)) mine.short;
      hand = λ k r e. absurd (none≢some (k, r) (sym rests ∙ e));
      saw = mine.saw;
      made = mine.made;
    }

    right_ok : (j : ℕ) → j ≡ length t.views → IsViewOf owner' now.holder t.words now.log s j right
    right_ok j is = record {
      callers = λ i u e. let x = only_that c v.held i u e in let y = mine.callers i u x.1 in (put_here now.owner c (length t.views) i x.0 ∙ sym is, y.1, y.2);
      stamps = λ i u e. mine.stamps i u (only_that c v.held i u e).1;
      floor = mine.floor;
      short = let a = only_short c v.held in let b = mine.short in omega arith;
      hand = λ k r e. absurd (none≢some (k, r) e);
      saw = mine.saw;
      made = λ e. absurd (cc);
    }

    others : (j : ℕ) (u : V) → j ≢ id → get_elem? t.views j ≡ some u → IsViewOf owner' now.holder t.words now.log s j u
    others j u apart there = let o = now.each_view j u there in record {
      callers = λ i w e. let y = o.callers i w e in (put_else now.owner c (length t.views) i (λ z. apart (sym y.0 ∙ (ap now.owner z ∙ (mine.callers c h has).0))) ∙ y.0, y.1, y.2);
      stamps = o.stamps;
      floor = o.floor;
      short = o.short;
      hand = o.hand;
      saw = o.saw;
      made = o.made;
    }

    each : (j : ℕ) (u : V) → get_elem? views' j ≡ some u → IsViewOf owner' now.holder t.words now.log s j u
    each j u e = ⊎_elim
        (λ (old : get_elem? (set t.views id left) j ≡ some u). each_set (IsViewOf owner' now.holder t.words now.log s) t.views id left left_ok others j u old)
        (λ (new : (j ≡ length (set t.views id left)) × (right ≡ u)). subst (IsViewOf owner' now.holder t.words now.log s j) new.1 (right_ok j (new.0 ∙ length-set t.views id left)))
        (got_append (set t.views id left) right u j e)

    still : (j : ℕ) (u : V) → j ≢ id → get_elem? t.views j ≡ some u → get_elem? views' j ≡ some u
    still j u apart there = at_longer (set t.views id left) (right ∷ []) j u (set_else t.views id j left apart ∙ there)

    left_there : (j : ℕ) → j ≡ id → get_elem? views' j ≡ some left
    left_there j e = subst (λ (z : ℕ). get_elem? views' z ≡ some left) (sym e) (at_longer (set t.views id left) (right ∷ []) id left (set_there t.views id left v at))

    right_there : (j : ℕ) → j ≡ length t.views → get_elem? views' j ≡ some right
    right_there j e = at_last (set t.views id left) right j (length-set t.views id left ∙ sym e)

    kept : (caller : ℕ) → caller < length locals → IsKept owner' views' caller
    kept caller below = dite (ℕ_discrete caller c)
        (λ e. (right, right_there (owner' caller) (put_here now.owner c (length t.views) caller e), (h, subst (λ (z : ℕ). Has right z h) (sym e) (only_here c v.held (Some h) has))))
        (λ ne. let y = now.kept caller below in let same = put_else now.owner c (length t.views) caller ne in dite (ℕ_discrete (now.owner caller) id)
        (λ e. let was : HasCaller caller v = subst (λ (u : V). HasCaller caller u) (sym (same_there t.views id (now.owner caller) v y.0 at e y.1)) y.2 in
        (left, left_there (owner' caller) (same ∙ e), (was.0, slice_get-set_other v.held c caller None (λ z. ne (sym z)) ∙ was.1)))
        (λ apart. (y.0, ap (get_elem? views') same ∙ still (now.owner caller) y.0 apart y.1, y.2)))

    halts' : get_or t.words 1 0 ≡ 1 → HasHaltMade views'
    halts' z = let x = now.halts z in dite (ℕ_discrete x.0 id)
        (λ e. (id, left, left_there id refl, ap (λ (u : V). u.made_halt) (same_there t.views id x.0 v x.1 at e x.2) ∙ x.3))
        (λ ne. (x.0, x.1, still x.0 x.1 ne x.2, x.3))

    keeps_split : Rule record { words = t.words; homes = t.homes; views = views' }
    keeps_split = record {
      log = now.log;
      owner = owner';
      holder = now.holder;
      few = now.few;
      wide = now.wide;
      deep = now.deep;
      next = now.next;
      bounded = now.bounded;
      moving = now.moving;
      law = now.law;
      each_view = each;
      kept = kept;
      each_region = λ k below. let o = now.each_region k below in record {
        turn = o.turn;
        home = o.home;
        away = λ z. let x = o.away z in (x.0, x.1, still (now.holder k) x.0 (λ i. none≢some (k, x.1) (sym rests ∙ (ap (λ (u : V). u.hand) (same_there t.views id (now.holder k) v x.0 at i x.2) ∙ x.3))) x.2, x.3);
      };
      halted = now.halted;
      halts = halts';
    }

  pub cuts : (id : ℕ) (v : V) (c : ℕ) → HasCaller c v → v.hand ≡ None → Splits Rule id v (without c v) (alone c v)
  cuts id v c has rests t now at = keeps_split t now id v c has.0 at has.1 rests
