-- A step that changes one word, one view and at most one region, and draws no stamp, keeps the rule.
use Rattle.std.proofs.Common.{◌≡◌, ◌≢◌, ℕ, ◌+◌, ◌<◌, ◌≤◌, ◌⊎◌, ⊎_elim, true, List, length, get_or, set, sym, ap, ◌∙◌, subst, Option, Some, slice_get, arith, length-set, get_or-set_other}
use mathlib.Core.Logic.{dite}
use native.Mathlib.Decide.{ℕ_discrete}
use mathlib.Core.Option as maybe
use mathlib.Core.Option.{some}
use lib.ListN.{get_elem?}
use Rattle.atomic_table.specs.Table.{State}
use Rattle.atomic_table.proofs.Lists.{set_else}
use Rattle.vm_model.specs.Run.{state_after}
use Rattle.section_table.specs.declared.views.Held.{Held}
use Rattle.section_table.specs.declared.views.View.{View}
use Rattle.section_table.specs.Meanings.{Meanings}
use Rattle.section_table.specs.CallerPlaces.{AreBelow}
use Rattle.section_table.specs.PassViews.{Has, HasCaller}
use Rattle.section_table.specs.TableRule.{IsViewOf, IsKept, IsRegionOf, IsRuled, HasHaltMade}
use Rattle.section_table.proofs.ElementsByPlace.{set_there, each_set, same_there}

module _ {R L : Type 0} (m : Meanings R L) (regions : List R) (locals : List L) where
  abbrev V : Type 0
  V = View R L

  abbrev Rule : State R V → Type 0
  Rule = IsRuled m regions locals

  abbrev pub left_by : List ℕ → List R × List L
  left_by log = state_after m.wanted m.moves m.after (regions, locals) log

  -- the seat's view v becomes w, and the word i becomes x
  abbrev pub changed : State R V → (id : ℕ) (w : V) (i x : ℕ) → List (maybe.Option R) → State R V
  changed t id w i x homes = record { words = set t.words i x; homes = homes; views = set t.views id w }

  pub record IsOneView (t : State R V) (now : Rule t) (id : ℕ) (v w : V) (i x : ℕ) (homes : List (maybe.Option R)) (holder : ℕ → ℕ) : Type 0 where
    pub at : get_elem? t.views id ≡ some v
    pub later : 0 ≢ i
    pub deep : length homes ≡ length t.homes
    pub held : w.held ≡ v.held
    pub floor : w.floor ≡ v.floor
    -- the word of halts
    pub rises : get_or t.words 1 0 ≡ 1 → get_or (set t.words i x) 1 0 ≡ 1
    pub bit : get_or (set t.words i x) 1 0 < 2
    pub risen : get_or (set t.words i x) 1 0 ≡ 1 → (get_or t.words 1 0 ≡ 1) ⊎ (w.made_halt ≡ true)
    pub made_stays : v.made_halt ≡ true → w.made_halt ≡ true
    pub made : w.made_halt ≡ true → get_or (set t.words i x) 1 0 ≡ 1
    pub saw : w.saw_halt ≡ true → get_or (set t.words i x) 1 0 ≡ 1
    -- the region in hand
    pub hand : (k : ℕ) (r : R) → w.hand ≡ Some (k, r) → (holder k ≡ id) × (get_or (set t.words i x) (k + 2) 0 ≡ 1) × (slice_get (left_by now.log).0 k ≡ Some r) × ((caller : ℕ) × HasCaller caller v)
    pub hand_stays : (k : ℕ) (r : R) → k + 2 ≢ i → v.hand ≡ Some (k, r) → w.hand ≡ Some (k, r)
    -- the regions with other words
    pub holders : (k : ℕ) → k + 2 ≢ i → holder k ≡ now.holder k
    pub slots : (k : ℕ) → k + 2 ≢ i → get_elem? homes k ≡ get_elem? t.homes k
    pub hands : (j : ℕ) (u : V) (k : ℕ) (r : R) → j ≢ id → get_elem? t.views j ≡ some u → u.hand ≡ Some (k, r) → k + 2 ≢ i
    pub here : (k : ℕ) → k + 2 ≡ i → k < length regions → IsRegionOf holder (changed t id w i x homes) (left_by now.log) k

  module _ (t : State R V) (now : Rule t) (id : ℕ) (v w : V) (i x : ℕ) (homes : List (maybe.Option R)) (holder : ℕ → ℕ) (q : IsOneView t now id v w i x homes holder) where
    abbrev t' : State R V
    t' = changed t id w i x homes

    abbrev s : List R × List L
    s = left_by now.log

    mine : IsViewOf now.owner now.holder t.words now.log s id v
    mine = now.each_view id v q.at

    same_word : (k : ℕ) → k ≢ i → get_or t'.words k 0 ≡ get_or t.words k 0
    same_word k ne = get_or-set_other t.words i k x 0 ne

    was : (caller : ℕ) (h : Held L) → Has w caller h → Has v caller h
    was caller h e = ap (λ (l : List (Option (Held L))). slice_get l caller) (sym q.held) ∙ e

    is : (caller : ℕ) → HasCaller caller v → HasCaller caller w
    is caller has = (has.0, ap (λ (l : List (Option (Held L))). slice_get l caller) q.held ∙ has.1)

    here_now : get_elem? t'.views id ≡ some w
    here_now = set_there t.views id w v q.at

    others : (j : ℕ) (u : V) → j ≢ id → get_elem? t.views j ≡ some u → IsViewOf now.owner holder t'.words now.log s j u
    others j u apart there = let o = now.each_view j u there in record {
      callers = o.callers;
      stamps = o.stamps;
      floor = o.floor;
      short = o.short;
      hand = λ k r e. let y = o.hand k r e in let ne = q.hands j u k r apart there e in (q.holders k ne ∙ y.0, same_word (k + 2) ne ∙ y.1, y.2, y.3);
      saw = λ e. q.rises (o.saw e);
      made = λ e. q.rises (o.made e);
    }

    own : IsViewOf now.owner holder t'.words now.log s id w
    own = record {
      callers = λ caller h e. mine.callers caller h (was caller h e);
      stamps = λ caller h e. subst (λ (n : ℕ). AreBelow n h.stamps) (sym q.floor) (mine.stamps caller h (was caller h e));
      floor = subst (λ (n : ℕ). n ≤ length now.log) (sym q.floor) mine.floor;
      short = subst (λ (l : List (Option (Held L))). length l ≤ 32) (sym q.held) mine.short;
      hand = λ k r e. let y = q.hand k r e in (y.0, y.1, y.2, (y.3.0, is y.3.0 y.3.1));
      saw = q.saw;
      made = q.made;
    }

    kept : (caller : ℕ) → caller < length locals → IsKept now.owner t'.views caller
    kept caller below = let y = now.kept caller below in dite (ℕ_discrete (now.owner caller) id)
        (λ e. (w, subst (λ (j : ℕ). get_elem? t'.views j ≡ some w) (sym e) here_now, is caller (subst (λ (u : V). HasCaller caller u) (sym (same_there t.views id (now.owner caller) v y.0 q.at e y.1)) y.2)))
        (λ ne. (y.0, set_else t.views id (now.owner caller) w ne ∙ y.1, y.2))

    region : (k : ℕ) → k + 2 ≢ i → k < length regions → IsRegionOf holder t' s k
    region k ne below = let o = now.each_region k below in let e = same_word (k + 2) ne in record {
      turn = subst (λ (z : ℕ). z < 2) (sym e) o.turn;
      home = λ z. let y = o.home (sym e ∙ z) in (y.0, q.slots k ne ∙ y.1, y.2);
      away = λ z. let y = o.away (sym e ∙ z) in dite (ℕ_discrete (now.holder k) id)
          (λ same. (w, y.1, subst (λ (j : ℕ). get_elem? t'.views j ≡ some w) (sym (q.holders k ne ∙ same)) here_now, q.hand_stays k y.1 ne (ap (λ (u : V). u.hand) (same_there t.views id (now.holder k) v y.0 q.at same y.2) ∙ y.3)))
          (λ apart. (y.0, y.1, ap (get_elem? t'.views) (q.holders k ne) ∙ (set_else t.views id (now.holder k) w apart ∙ y.2), y.3));
    }

    halts : get_or t'.words 1 0 ≡ 1 → HasHaltMade t'.views
    halts z = ⊎_elim
        (λ before. let y = now.halts before in dite (ℕ_discrete y.0 id)
        (λ e. (id, w, here_now, q.made_stays (ap (λ (u : V). u.made_halt) (same_there t.views id y.0 v y.1 q.at e y.2) ∙ y.3)))
        (λ ne. (y.0, y.1, set_else t.views id y.0 w ne ∙ y.2, y.3)))
        (λ made. (id, w, here_now, made)) (q.risen z)

    pub keeps_rule : Rule t'
    keeps_rule = record {
      log = now.log;
      owner = now.owner;
      holder = holder;
      few = now.few;
      wide = length-set t.words i x ∙ now.wide;
      deep = q.deep ∙ now.deep;
      next = same_word 0 q.later ∙ now.next;
      bounded = now.bounded;
      moving = now.moving;
      law = now.law;
      each_view = each_set (IsViewOf now.owner holder t'.words now.log s) t.views id w own others;
      kept = kept;
      each_region = λ k below. dite (ℕ_discrete (k + 2) i) (λ e. q.here k e below) (λ ne. region k ne below);
      halted = q.bit;
      halts = halts;
    }
