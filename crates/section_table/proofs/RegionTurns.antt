-- Taking the turn of a region, and giving it back.
use Rattle.std.proofs.Common.{◌≡◌, ◌≢◌, ℕ, ◌+◌, ◌<◌, ◌≤◌, eqb, true, inl, List, [], ◌∷◌, length, get_or, set, refl, sym, ap, ◌∙◌, subst, Option, Some, None, slice_get, arith, length-set, get_or-set_other, get_or-set_same}
use mathlib.Core.Option as maybe
use mathlib.Core.Option.{some, none, some-injective}
use lib.ListN.{get_elem?}
use lib.Seq.{set-get_or}
use prog.Atomic.{either}
use Rattle.atomic_table.specs.Table.{State, Me, Act, keeps, takes, gives, Valid, stepped, carried_after, Allows, rest}
use Rattle.atomic_table.proofs.Lists.{set_here, set_else, set_again, exchanged}
use Rattle.section_table.specs.declared.views.View.{View}
use Rattle.section_table.specs.Meanings.{Meanings}
use Rattle.section_table.specs.PassViews.{HasCaller, holding}
use Rattle.section_table.specs.TableRule.{IsViewOf, IsRegionOf, IsRuled}
use Rattle.section_table.specs.TableSteps.{Meet, Takes}
use Rattle.section_table.proofs.ElementsByPlace.{or_else, some_is, none≢some, put, put_here, put_else, set_there}
use Rattle.section_table.proofs.OneView.{left_by, changed, IsOneView, keeps_rule}

module _ {R L : Type 0} (m : Meanings R L) (regions : List R) (locals : List L) where
  abbrev V : Type 0
  V = View R L

  abbrev Rule : State R V → Type 0
  Rule = IsRuled m regions locals

  module _ (t : State R V) (now : Rule t) (id : ℕ) (v : V) (k : ℕ) (at : get_elem? t.views id ≡ some v) (has : (caller : ℕ) × HasCaller caller v) (rests : v.hand ≡ None) (inside : k < length regions) (free : get_or t.words (k + 2) 0 ≡ 0) where
    abbrev s : List R × List L
    s = left_by m regions locals now.log

    home : (r : R) × (get_elem? t.homes k ≡ some (some r)) × (slice_get s.0 k ≡ Some r)
    home = (now.each_region k inside).home free

    abbrev w : V
    w = holding (Some (k, home.0)) v

    abbrev homes : List (maybe.Option R)
    homes = set t.homes k none

    abbrev holder : ℕ → ℕ
    holder = put now.holder k id

    abbrev words : List ℕ
    words = set t.words (k + 2) 1

    halt_word : get_or words 1 0 ≡ get_or t.words 1 0
    halt_word = get_or-set_other t.words (k + 2) 1 1 0 (λ e. absurd (omega arith))

    turn_now : get_or words (k + 2) 0 ≡ 1
    turn_now = get_or-set_same t.words (k + 2) 1 0 (let e = now.wide in omega arith)

    hand : (j : ℕ) (r : R) → w.hand ≡ Some (j, r) → (holder j ≡ id) × (get_or words (j + 2) 0 ≡ 1) × (slice_get s.0 j ≡ Some r) × ((caller : ℕ) × HasCaller caller v)
    hand j r e = subst (λ (z : ℕ × R). (holder z.0 ≡ id) × (get_or words (z.0 + 2) 0 ≡ 1) × (slice_get s.0 z.0 ≡ Some z.1) × ((caller : ℕ) × HasCaller caller v)) (some_is (k, home.0) (j, r) e)
        (put_here now.holder k id k refl, turn_now, home.2, has)

    here : (j : ℕ) → j + 2 ≡ k + 2 → j < length regions → IsRegionOf holder (changed m regions locals t id w (k + 2) 1 homes) s j
    here j e below = subst (IsRegionOf holder (changed m regions locals t id w (k + 2) 1 homes) s) (let same : k ≡ j = omega arith in same) record {
      turn = let o = turn_now in omega arith;
      home = λ z. absurd (let o = turn_now in omega arith);
      away = λ _. (w, home.0, subst (λ (y : ℕ). get_elem? (set t.views id w) y ≡ some w) (sym (put_here now.holder k id k refl)) (set_there t.views id w v at), refl);
    }

    taken : IsOneView m regions locals t now id v w (k + 2) 1 homes holder
    taken = record {
      at = at;
      later = λ e. absurd (omega arith);
      deep = length-set t.homes k none;
      held = refl;
      floor = refl;
      rises = λ e. halt_word ∙ e;
      bit = subst (λ (z : ℕ). z < 2) (sym halt_word) now.halted;
      risen = λ e. inl (sym halt_word ∙ e);
      made_stays = λ e. e;
      made = λ e. halt_word ∙ (now.each_view id v at).made e;
      saw = λ e. halt_word ∙ (now.each_view id v at).saw e;
      hand = hand;
      hand_stays = λ j r ne e. absurd (none≢some (j, r) (sym rests ∙ e));
      holders = λ j ne. put_else now.holder k id j (λ e. ne (ap (λ (z : ℕ). z + 2) e));
      slots = λ j ne. set_else t.homes k j none (λ e. ne (ap (λ (z : ℕ). z + 2) e));
      hands = λ j u l r apart there e same. absurd (let one = ((now.each_view j u there).hand l r e).1 in let zero_there : get_or t.words (l + 2) 0 ≡ 0 = ap (λ (z : ℕ). get_or t.words z 0) same ∙ free in omega arith);
      here = here;
    }

  -- a step that changes nothing
  unmoved : (t : State R V) (now : Rule t) (i id : ℕ) (v : V) (carried : List (ℕ × R)) → get_elem? t.views id ≡ some v → Rule (stepped t i (get_or t.words i 0) id carried v keeps)
  unmoved t now i id v carried at = subst (λ (ws : List ℕ). Rule record { words = ws; homes = t.homes; views = set t.views id v }) (sym (set-get_or t.words i 0))
      (subst (λ (vs : List V). Rule record { words = t.words; homes = t.homes; views = vs }) (sym (set_again t.views id v at)) now)

  begins_turn : (slots id : ℕ) (v : V) (carried : List (ℕ × R)) (k : ℕ) → ((caller : ℕ) × HasCaller caller v) → v.hand ≡ None → k < slots
      → Allows Rule slots id (v, carried) (k + 2) (λ n. either (eqb n 0) 1 n) (Takes m k (v, carried))
  begins_turn slots id v carried k has rests inside t now deep at range =
      let n : ℕ = get_or t.words (k + 2) 0 in
      let below : k < length regions = (let d = now.deep in omega arith) in
      exchanged n 0 1 (λ (x : ℕ). (w : V) × (a : Act R) × Valid t.homes carried a × Rule (stepped t (k + 2) x id carried w a) × Takes m k (v, carried) n (w, carried_after carried a))
      (λ free. let r = home t now id v k at has rests below free in (
        holding (Some (k, r.0)) v,
        takes k r.0,
        r.1,
        keeps_rule m regions locals t now id v _ (k + 2) 1 _ _ (taken t now id v k at has rests below free),
        ((λ found. absurd (found free)), (λ _. (r.0, refl, λ caller h has'. ((left_by m regions locals now.log).0, (left_by m regions locals now.log).1, now.law, ((now.each_view id v at).callers caller h has').1, r.2)))),
      ))
      (λ busy. (v, keeps, tt, unmoved t now (k + 2) id v carried at, ((λ _. refl), (λ z. absurd (busy z)))))

  pub takes_turn : (slots id : ℕ) (me : Me R V) (i : ℕ) → ((caller : ℕ) × HasCaller caller me.0) → me.0.hand ≡ None → i < slots
      → Allows Rule slots id me (i + 2) (λ n. either (eqb n 0) 1 n) (λ n me'. (k : ℕ) → i + 2 ≡ k + 2 → Takes m k me n me')
  takes_turn slots id me i has rests inside t now deep at range = let x = begins_turn slots id me.0 me.1 i has rests inside t now deep at range in
      (x.0, x.1, x.2, x.3, λ k e. subst (λ (z : ℕ). Takes m z me (get_or t.words (i + 2) 0) (x.0, carried_after me.1 x.1)) (let same : i ≡ k = omega arith in same) x.4)

  -- the turn of the region k is given back, with the value r that is noted
  module _ (t : State R V) (now : Rule t) (id : ℕ) (v : V) (k : ℕ) (r : R) (at : get_elem? t.views id ≡ some v) (holds : v.hand ≡ Some (k, r)) (inside : k < length regions) where
    gripped : (now.holder k ≡ id) × (get_or t.words (k + 2) 0 ≡ 1) × (slice_get (left_by m regions locals now.log).0 k ≡ Some r)
    gripped = let g = (now.each_view id v at).hand k r holds in (g.0, g.1, g.2)

    abbrev words1 : List ℕ
    words1 = set t.words (k + 2) 0

    abbrev homes1 : List (maybe.Option R)
    homes1 = set t.homes k (some r)

    halt_word1 : get_or words1 1 0 ≡ get_or t.words 1 0
    halt_word1 = get_or-set_other t.words (k + 2) 1 0 0 (λ e. absurd (omega arith))

    free_now : get_or words1 (k + 2) 0 ≡ 0
    free_now = get_or-set_same t.words (k + 2) 0 0 (let e = now.wide in omega arith)

    here1 : (j : ℕ) → j + 2 ≡ k + 2 → j < length regions → IsRegionOf now.holder (changed m regions locals t id (holding None v) (k + 2) 0 homes1) (left_by m regions locals now.log) j
    here1 j e below = subst (IsRegionOf now.holder (changed m regions locals t id (holding None v) (k + 2) 0 homes1) (left_by m regions locals now.log)) (let same : k ≡ j = omega arith in same) record {
      turn = let o = free_now in omega arith;
      home = λ _. (r, set_here t.homes k (some r) (let d = now.deep in omega arith), gripped.2);
      away = λ z. absurd (let o = free_now in omega arith);
    }

    given : IsOneView m regions locals t now id v (holding None v) (k + 2) 0 homes1 now.holder
    given = record {
      at = at;
      later = λ e. absurd (omega arith);
      deep = length-set t.homes k (some r);
      held = refl;
      floor = refl;
      rises = λ e. halt_word1 ∙ e;
      bit = subst (λ (z : ℕ). z < 2) (sym halt_word1) now.halted;
      risen = λ e. inl (sym halt_word1 ∙ e);
      made_stays = λ e. e;
      made = λ e. halt_word1 ∙ (now.each_view id v at).made e;
      saw = λ e. halt_word1 ∙ (now.each_view id v at).saw e;
      hand = λ j q e. absurd (none≢some (j, q) e);
      hand_stays = λ j q ne e. absurd (ne (ap (λ (z : Option (ℕ × R)). (or_else {A = ℕ × R} (k, r) z).0 + 2) (sym e ∙ holds)));
      holders = λ j ne. refl;
      slots = λ j ne. set_else t.homes k j (some r) (λ e. ne (ap (λ (z : ℕ). z + 2) e));
      hands = λ j u l q apart there e same. apart (sym ((now.each_view j u there).hand l q e).0 ∙ (ap now.holder (let is : l ≡ k = omega arith in is) ∙ gripped.0));
      here = here1;
    }

  pub gives_turn : (slots id : ℕ) (me : Me R V) (k : ℕ) (r : R) → me.0.hand ≡ Some (k, r) → me.1 ≡ (k, r) ∷ [] → k < slots → Allows Rule slots id me (k + 2) (λ _. 0) (λ n me'. me' ≡ (holding None me.0, []))
  gives_turn slots id me k r holds carries inside t now deep at range =
      let below : k < length regions = (let d = now.deep in omega arith) in
      let w : V = holding None me.0 in (
        w,
        gives,
        tt,
        subst (λ (c : List (ℕ × R)). Rule (stepped t (k + 2) 0 id c w gives)) (sym carries) (keeps_rule m regions locals t now id me.0 w (k + 2) 0 _ now.holder (given t now id me.0 k r at holds below)),
        ap (λ (c : List (ℕ × R)). (w, rest c)) carries,
      )
