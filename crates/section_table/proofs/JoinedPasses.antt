-- Two passes are made one.
use Rattle.std.proofs.Common.{◌≡◌, ◌≢◌, ℕ, zero, suc, ◌+◌, ◌<◌, ◌≤◌, ◌⊎◌, inl, inr, eqb, max, ◌||◌, Bool, true, false, List, [], ◌∷◌, length, get_or, set, refl, sym, ap, ◌∙◌, subst, ⊎_elim, arith, Option, Some, None, slice_get, eq-eqb, ne_eqb, if◌then◌else◌}
use mathlib.Core.Logic.{dite}
use native.Mathlib.Decide.{ℕ_discrete}
use mathlib.Core.Option.{some}
use lib.ListN.{get_elem?}
use Rattle.atomic_table.specs.Table.{State, Joins}
use Rattle.atomic_table.proofs.Lists.{set_else}
use Rattle.vm_model.specs.Run.{state_after}
use Rattle.section_table.specs.declared.views.Held.{Held}
use Rattle.section_table.specs.declared.views.View.{View}
use Rattle.section_table.specs.Meanings.{Meanings}
use Rattle.section_table.specs.PassViews.{Has, HasCaller, merged, both_of, spent}
use Rattle.section_table.specs.TableRule.{IsViewOf, IsKept, IsRegionOf, IsRuled, HasHaltMade}
use Rattle.section_table.proofs.ElementsByPlace.{none≢some, some_is, set_there, each_set, same_there}
use Rattle.section_table.proofs.Stamps.{below_more}

one_of : (a b : Bool) → (a || b) ≡ true → (a ≡ true) ⊎ (b ≡ true)
one_of true b e = inl refl
one_of false b e = inr e

or_left : (a b : Bool) → a ≡ true → (a || b) ≡ true
or_left true b e = refl
or_left false b e = absurd (cc)

or_right : (a b : Bool) → b ≡ true → (a || b) ≡ true
or_right true b e = refl
or_right false b e = e

module _ {X : Type 0} where
  pub from_one : (xs ys : List (Option X)) (i : ℕ) (x : X) → slice_get (merged xs ys) i ≡ Some (Some x) → (slice_get xs i ≡ Some (Some x)) ⊎ (slice_get ys i ≡ Some (Some x))
  from_one [] ys i x e = inr e
  from_one (a ∷ xs) [] i x e = inl e
  from_one (Some a ∷ xs) (b ∷ ys) zero x e = inl e
  from_one (None ∷ xs) (b ∷ ys) zero x e = inr e
  from_one (Some a ∷ xs) (b ∷ ys) (suc i) x e = from_one xs ys i x e
  from_one (None ∷ xs) (b ∷ ys) (suc i) x e = from_one xs ys i x e

  -- what the first list has stands in the merged one
  pub in_first : (xs ys : List (Option X)) (i : ℕ) (x : X) → slice_get xs i ≡ Some (Some x) → slice_get (merged xs ys) i ≡ Some (Some x)
  in_first [] ys i x e = absurd (none≢some (Some x) e)
  in_first (a ∷ xs) [] i x e = e
  in_first (Some a ∷ xs) (b ∷ ys) zero x e = e
  in_first (None ∷ xs) (b ∷ ys) zero x e = absurd (none≢some x (some_is None (Some x) e))
  in_first (Some a ∷ xs) (b ∷ ys) (suc i) x e = in_first xs ys i x e
  in_first (None ∷ xs) (b ∷ ys) (suc i) x e = in_first xs ys i x e

  -- so does what the second one has, where the first has nothing
  pub in_second : (xs ys : List (Option X)) (i : ℕ) (x : X) → ((y : X) → slice_get xs i ≡ Some (Some y) → ⊥) → slice_get ys i ≡ Some (Some x) → slice_get (merged xs ys) i ≡ Some (Some x)
  in_second [] ys i x none e = e
  in_second (a ∷ xs) [] i x none e = absurd (none≢some (Some x) e)
  in_second (Some a ∷ xs) (b ∷ ys) zero x none e = absurd (none a refl)
  in_second (None ∷ xs) (b ∷ ys) zero x none e = e
  in_second (Some a ∷ xs) (b ∷ ys) (suc i) x none e = in_second xs ys i x none e
  in_second (None ∷ xs) (b ∷ ys) (suc i) x none e = in_second xs ys i x none e

  merged_short : (n : ℕ) (xs ys : List (Option X)) → length xs ≤ n → length ys ≤ n → length (merged xs ys) ≤ n
  merged_short n [] ys a b = b
  merged_short n (x ∷ xs) [] a b = a
  merged_short zero (x ∷ xs) (y ∷ ys) a b = absurd (omega arith)
  merged_short (suc n) (Some x ∷ xs) (y ∷ ys) a b = let h = merged_short n xs ys (omega arith) (omega arith) in omega arith
  merged_short (suc n) (None ∷ xs) (y ∷ ys) a b = let h = merged_short n xs ys (omega arith) (omega arith) in omega arith

module _ {R L : Type 0} (m : Meanings R L) (regions : List R) (locals : List L) where
  abbrev V : Type 0
  V = View R L

  abbrev Rule : State R V → Type 0
  Rule = IsRuled m regions locals

  module _ (t : State R V) (now : Rule t) (id : ℕ) (v : V) (other : ℕ) (w : V) (at : get_elem? t.views id ≡ some v) (there : get_elem? t.views other ≡ some w) (apart : other ≢ id) (rests : v.hand ≡ None) (bare : w.hand ≡ None) where
    abbrev s : List R × List L
    s = state_after m.wanted m.moves m.after (regions, locals) now.log

    abbrev both : V
    both = both_of v w

    abbrev nothing : V
    nothing = spent

    abbrev views' : List V
    views' = set (set t.views id both) other nothing

    abbrev owner' : ℕ → ℕ
    owner' c = if eqb (now.owner c) other then id else now.owner c

    goes : (c : ℕ) → now.owner c ≡ other → owner' c ≡ id
    goes c e = ap (λ (b : Bool). if b then id else now.owner c) (eq-eqb (now.owner c) other e)

    remains : (c : ℕ) → now.owner c ≢ other → owner' c ≡ now.owner c
    remains c ne = ap (λ (b : Bool). if b then id else now.owner c) (ne_eqb (now.owner c) other ne)

    stays : (c j : ℕ) → now.owner c ≡ j → j ≢ other → owner' c ≡ j
    stays c j e ne = remains c (λ i. ne (sym e ∙ i)) ∙ e

    mine : IsViewOf now.owner now.holder t.words now.log s id v
    mine = now.each_view id v at

    theirs : IsViewOf now.owner now.holder t.words now.log s other w
    theirs = now.each_view other w there

    both_ok : IsViewOf owner' now.holder t.words now.log s id both
    both_ok = record {
      callers = λ c h e. ⊎_elim
          (λ (x : Has v c h). let y = mine.callers c h x in (stays c id y.0 (λ z. apart (sym z)), y.1, y.2))
          (λ (x : Has w c h). let y = theirs.callers c h x in (goes c y.0, y.1, y.2)) (from_one v.held w.held c h e);
      stamps = λ c h e. ⊎_elim
          (λ (x : Has v c h). below_more v.floor (max v.floor w.floor) h.stamps (omega arith) (mine.stamps c h x))
          (λ (x : Has w c h). below_more w.floor (max v.floor w.floor) h.stamps (omega arith) (theirs.stamps c h x)) (from_one v.held w.held c h e);
      floor = let a = mine.floor in let b = theirs.floor in omega arith;
      short = merged_short 32 v.held w.held mine.short theirs.short;
      hand = λ k r e. absurd (none≢some (k, r) e);
      saw = λ e. ⊎_elim mine.saw theirs.saw (one_of v.saw_halt w.saw_halt e);
      made = λ e. ⊎_elim mine.made theirs.made (one_of v.made_halt w.made_halt e);
    }

    spent_ok : IsViewOf owner' now.holder t.words now.log s other nothing
    spent_ok = record {
      callers = λ c h e. absurd (none≢some (Some h) e);
      stamps = λ c h e. absurd (none≢some (Some h) e);
      floor = omega arith;
      short = omega arith;
      hand = λ k r e. absurd (none≢some (k, r) e);
      saw = λ e. absurd (cc);
      made = λ e. absurd (cc);
    }

    others : (j : ℕ) (u : V) → j ≢ id → j ≢ other → get_elem? t.views j ≡ some u → IsViewOf owner' now.holder t.words now.log s j u
    others j u ne ne' e = let o = now.each_view j u e in record {
      callers = λ c h x. let y = o.callers c h x in (stays c j y.0 ne', y.1, y.2);
      stamps = o.stamps;
      floor = o.floor;
      short = o.short;
      hand = o.hand;
      saw = o.saw;
      made = o.made;
    }

    each : (j : ℕ) (u : V) → get_elem? views' j ≡ some u → IsViewOf owner' now.holder t.words now.log s j u
    each = each_set (IsViewOf owner' now.holder t.words now.log s) (set t.views id both) other nothing spent_ok
        (λ j u ne e. each_set (λ (j : ℕ) (u : V). j ≢ other → IsViewOf owner' now.holder t.words now.log s j u) t.views id both (λ _. both_ok) (λ j u ne e ne'. others j u ne ne' e) j u e ne)

    still : (j : ℕ) (u : V) → j ≢ id → j ≢ other → get_elem? t.views j ≡ some u → get_elem? views' j ≡ some u
    still j u ne ne' e = set_else (set t.views id both) other j nothing ne' ∙ (set_else t.views id j both ne ∙ e)

    here : get_elem? views' id ≡ some both
    here = set_else (set t.views id both) other id nothing (λ e. apart (sym e)) ∙ set_there t.views id both v at

    here_as : (j : ℕ) → j ≡ id → get_elem? views' j ≡ some both
    here_as j e = subst (λ (z : ℕ). get_elem? views' z ≡ some both) (sym e) here

    kept : (c : ℕ) → c < length locals → IsKept owner' views' c
    kept c below = let y = now.kept c below in dite (ℕ_discrete (now.owner c) other)
        (λ e. let was : HasCaller c w = subst (λ (u : V). HasCaller c u) (sym (same_there t.views other (now.owner c) w y.0 there e y.1)) y.2 in
        (both, here_as (owner' c) (goes c e), (was.0, in_second v.held w.held c was.0 (λ h x. apart (sym e ∙ (mine.callers c h x).0)) was.1)))
        (λ ne. dite (ℕ_discrete (now.owner c) id)
        (λ e. let was : HasCaller c v = subst (λ (u : V). HasCaller c u) (sym (same_there t.views id (now.owner c) v y.0 at e y.1)) y.2 in
        (both, here_as (owner' c) (remains c ne ∙ e), (was.0, in_first v.held w.held c was.0 was.1)))
        (λ away. (y.0, ap (get_elem? views') (remains c ne) ∙ still (now.owner c) y.0 away ne y.1, y.2)))

    halts' : get_or t.words 1 0 ≡ 1 → HasHaltMade views'
    halts' z = let x = now.halts z in dite (ℕ_discrete x.0 id)
        (λ i. (id, both, here, or_left v.made_halt w.made_halt (ap (λ (u : V). u.made_halt) (same_there t.views id x.0 v x.1 at i x.2) ∙ x.3)))
        (λ ne. dite (ℕ_discrete x.0 other)
        (λ i. (id, both, here, or_right v.made_halt w.made_halt (ap (λ (u : V). u.made_halt) (same_there t.views other x.0 w x.1 there i x.2) ∙ x.3)))
        (λ ne'. (x.0, x.1, still x.0 x.1 ne ne' x.2, x.3)))

    keeps_joined : Rule record { words = t.words; homes = t.homes; views = views' }
    keeps_joined = record {
      log = now.log;
      owner = owner';
      holder = now.holder;
      few = now.few;
      wide = now.wide;
      deep = now.deep;
      next = now.next;
      bounded = now.bounded;
      moving = now.moving;
      law = now.law;
      each_view = each;
      kept = kept;
      each_region = λ k below. let o = now.each_region k below in record {
        turn = o.turn;
        home = o.home;
        away = λ z. let x = o.away z in (
          x.0,
          x.1,
          still (now.holder k) x.0
              (λ i. none≢some (k, x.1) (sym rests ∙ (ap (λ (u : V). u.hand) (same_there t.views id (now.holder k) v x.0 at i x.2) ∙ x.3)))
              (λ i. none≢some (k, x.1) (sym bare ∙ (ap (λ (u : V). u.hand) (same_there t.views other (now.holder k) w x.0 there i x.2) ∙ x.3))) x.2,
          x.3,
        );
      };
      halted = now.halted;
      halts = halts';
    }

  pub unites : (id : ℕ) (v : V) (other : ℕ) (w : V) → v.hand ≡ None → w.hand ≡ None → Joins Rule id v other w (both_of v w) spent
  unites id v other w rests bare t now at apart there = keeps_joined t now id v other w at (sym (set_else t.views id other (both_of v w) apart) ∙ there) apart rests bare
