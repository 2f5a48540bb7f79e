-- Drawing a stamp for an event.
use Rattle.std.proofs.Common.{◌≡◌, ◌≢◌, ℕ, ◌+◌, ◌*◌, ◌%◌, ◌^◌, ◌<◌, ◌≤◌, eqb, Bool, true, List, [], ◌∷◌, ◌++◌, length, get_or, set, refl, sym, ap, ◌∙◌, subst, ⊎_elim, arith, Option, Some, None, slice_get, length-append, length-set, get_or-set_other, get_or-set_same, mod-eq_of_lt}
use mathlib.Core.Logic.{dite}
use native.Mathlib.Decide.{ℕ_discrete}
use mathlib.Core.Option.{some}
use lib.ListN.{get_elem?}
use Rattle.atomic_table.specs.Table.{State, Me, keeps, Allows}
use Rattle.atomic_table.proofs.Lists.{set_else}
use Rattle.map_parts.specs.SectionRuns.{KeepsLawful}
use Rattle.vm_model.specs.Run.{state_after}
use Rattle.vm_model.proofs.Elements.{slice_get-set_same, slice_get-set_other}
use Rattle.section_laws.specs.MovesInTurn.{AllMove}
use Rattle.section_table.specs.declared.views.Held.{Held}
use Rattle.section_table.specs.declared.views.View.{View}
use Rattle.section_table.specs.Meanings.{Meanings}
use Rattle.section_table.specs.CallerPlaces.{places, AreBelow}
use Rattle.section_table.specs.PassViews.{Has, HasCaller}
use Rattle.section_table.specs.TableRule.{IsViewOf, IsKept, IsRegionOf, IsRuled, HasHaltMade}
use Rattle.section_table.specs.TableSteps.{drawn, Draws}
use Rattle.section_table.proofs.ElementsByPlace.{or_else, some_is, set_there, got_set, each_set, same_there}
use Rattle.section_table.proofs.Stamps.{more_here, more_else, at_most, below_more, below_append}
use Rattle.section_table.proofs.LogMoves.{moved, run_more, all_more, all_below}

module _ {R L : Type 0} (m : Meanings R L) (regions : List R) (locals : List L) where
  abbrev V : Type 0
  V = View R L

  abbrev Rule : State R V → Type 0
  Rule = IsRuled m regions locals

  abbrev left_by : List ℕ → List R × List L
  left_by log = state_after m.wanted m.moves m.after (regions, locals) log

  abbrev Law : Type 0
  Law = KeepsLawful m.wanted m.moves m.after m.lawful

  short_log : (t : State R V) (h : Rule t) → length h.log ≤ 9223372036854775808
  short_log t h = let a = at_most (length locals) (2 ^ 58) h.log (all_below m (regions, locals) h.log (length locals) refl h.moving) h.bounded in let b = h.few in omega arith

  -- where the caller c, with h, moves in the region k, which the seat has in hand with the value r
  module _ (t : State R V) (now : Rule t) (id : ℕ) (v : V) (c : ℕ) (h : Held L) (k : ℕ) (r : R) (at : get_elem? t.views id ≡ some v) (has : Has v c h) (holds : v.hand ≡ Some (k, r)) (wants : m.wanted h.local ≡ Some k) (may : m.moves h.local r ≡ true) where
    abbrev s : List R × List L
    s = left_by now.log

    abbrev s' : List R × List L
    s' = (set s.0 k (m.after h.local r).1, set s.1 c (m.after h.local r).0)

    abbrev n : ℕ
    n = get_or t.words 0 0

    abbrev words' : List ℕ
    words' = set t.words 0 (n + 1)

    abbrev log' : List ℕ
    log' = now.log ++ c ∷ []

    mine : IsViewOf now.owner now.holder t.words now.log s id v
    mine = now.each_view id v at

    own : (now.owner c ≡ id) × (slice_get s.1 c ≡ Some h.local) × (h.stamps ≡ places c now.log)
    own = mine.callers c h has

    gripped : (now.holder k ≡ id) × (get_or t.words (k + 2) 0 ≡ 1) × (slice_get s.0 k ≡ Some r)
    gripped = let g = mine.hand k r holds in (g.0, g.1, g.2)

    as_run : s' ≡ left_by log'
    as_run = sym (run_more m (regions, locals) now.log c ∙ moved m s c k h.local r own.1 wants gripped.2 may)

    same_word : (i : ℕ) → 0 < i → get_or words' i 0 ≡ get_or t.words i 0
    same_word i pos = get_or-set_other t.words 0 i (n + 1) 0 (λ e. absurd (omega arith))

    longer : length log' ≡ length now.log + 1
    longer = omega (arith, length-append now.log (c ∷ []))

    others : (j : ℕ) (u : V) → j ≢ id → get_elem? t.views j ≡ some u → IsViewOf now.owner now.holder words' log' s' j u
    others j u apart there = let o = now.each_view j u there in record {
      callers = λ c' h' e. let y = o.callers c' h' e in let ne : c' ≢ c = λ i. apart (sym y.0 ∙ (ap now.owner i ∙ own.0)) in
          (y.0, slice_get-set_other s.1 c c' (m.after h.local r).0 (λ i. ne (sym i)) ∙ y.1, y.2 ∙ sym (more_else c' c now.log (λ i. ne (sym i))));
      stamps = o.stamps;
      floor = let f = o.floor in let l = longer in omega arith;
      short = o.short;
      hand = λ k' r' e. let y = o.hand k' r' e in let ne : k' ≢ k = λ i. apart (sym y.0 ∙ (ap now.holder i ∙ gripped.0)) in
          (y.0, same_word (k' + 2) (omega arith) ∙ y.1, slice_get-set_other s.0 k k' (m.after h.local r).1 (λ i. ne (sym i)) ∙ y.2, y.3);
      saw = λ e. same_word 1 (omega arith) ∙ o.saw e;
      made = λ e. same_word 1 (omega arith) ∙ o.made e;
    }

    abbrev h' : Held L
    h' = record { local = (m.after h.local r).0; stamps = h.stamps ++ n ∷ [] }

    abbrev r' : R
    r' = (m.after h.local r).1

    abbrev w : V
    w = drawn m v c h k r n

    has' : Has w c h'
    has' = slice_get-set_same v.held c (Some h') (Some h) has

    own' : (now.owner c ≡ id) × (slice_get s'.1 c ≡ Some h'.local) × (h'.stamps ≡ places c log')
    own' = (own.0, slice_get-set_same s.1 c (m.after h.local r).0 h.local own.1, ap (λ (l : List ℕ). l ++ n ∷ []) own.2 ∙ (ap (λ (z : ℕ). places c now.log ++ z ∷ []) now.next ∙ sym (more_here c now.log)))

    past_floor : v.floor ≤ n
    past_floor = let f = mine.floor in let e = now.next in omega arith

    self_callers : (c' : ℕ) (u : Held L) → Has w c' u → (now.owner c' ≡ id) × (slice_get s'.1 c' ≡ Some u.local) × (u.stamps ≡ places c' log')
    self_callers c' u e = ⊎_elim
        (λ (x : (c' ≡ c) × (Some h' ≡ Some u)). subst (λ (z : ℕ × Held L). (now.owner z.0 ≡ id) × (slice_get s'.1 z.0 ≡ Some z.1.local) × (z.1.stamps ≡ places z.0 log')) (λ i. (sym x.0 i, some_is h' u x.1 i)) own')
        (λ (x : (c' ≢ c) × (slice_get v.held c' ≡ Some (Some u))). let y = mine.callers c' u x.1 in
        (y.0, slice_get-set_other s.1 c c' (m.after h.local r).0 (λ i. x.0 (sym i)) ∙ y.1, y.2 ∙ sym (more_else c' c now.log (λ i. x.0 (sym i)))))
        (got_set v.held c c' (Some h') (Some u) e)

    self_stamps : (c' : ℕ) (u : Held L) → Has w c' u → AreBelow (n + 1) u.stamps
    self_stamps c' u e = ⊎_elim
        (λ (x : (c' ≡ c) × (Some h' ≡ Some u)). subst (λ (z : Held L). AreBelow (n + 1) z.stamps) (some_is h' u x.1)
        (below_append (n + 1) h.stamps (n ∷ []) (below_more v.floor (n + 1) h.stamps (let p = past_floor in omega arith) (mine.stamps c h has)) (omega arith, tt)))
        (λ (x : (c' ≢ c) × (slice_get v.held c' ≡ Some (Some u))). below_more v.floor (n + 1) u.stamps (let p = past_floor in omega arith) (mine.stamps c' u x.1))
        (got_set v.held c c' (Some h') (Some u) e)

    self_ok : IsViewOf now.owner now.holder words' log' s' id w
    self_ok = record {
      callers = self_callers;
      stamps = self_stamps;
      floor = let f = now.next in let l = longer in omega arith;
      short = subst (λ (z : ℕ). z ≤ 32) (sym (length-set v.held c (Some h'))) mine.short;
      hand = λ k' u e. subst (λ (z : ℕ × R). (now.holder z.0 ≡ id) × (get_or words' (z.0 + 2) 0 ≡ 1) × (slice_get s'.0 z.0 ≡ Some z.1) × ((caller : ℕ) × HasCaller caller w)) (some_is (k, r') (k', u) e)
          (gripped.0, same_word (k + 2) (omega arith) ∙ gripped.1, slice_get-set_same s.0 k r' r gripped.2, (c, (h', has')));
      saw = λ e. same_word 1 (omega arith) ∙ mine.saw e;
      made = λ e. same_word 1 (omega arith) ∙ mine.made e;
    }

    abbrev t' : State R V
    t' = record { words = words'; homes = t.homes; views = set t.views id w }

    here : get_elem? t'.views id ≡ some w
    here = set_there t.views id w v at

    here_as : (j : ℕ) → j ≡ id → get_elem? t'.views j ≡ some w
    here_as j e = subst (λ (z : ℕ). get_elem? t'.views z ≡ some w) (sym e) here

    region_ok : (j : ℕ) → j < length regions → IsRegionOf now.holder t' s' j
    region_ok j below = let o = now.each_region j below in let e = same_word (j + 2) (omega arith) in record {
      turn = subst (λ (z : ℕ). z < 2) (sym e) o.turn;
      home = λ z. let x = o.home (sym e ∙ z) in let ne : k ≢ j = λ i. absurd (let one = gripped.1 in let none_here : get_or t.words (k + 2) 0 ≡ 0 = ap (λ (y : ℕ). get_or t.words (y + 2) 0) i ∙ (sym e ∙ z) in omega arith) in
          (x.0, x.1, slice_get-set_other s.0 k j r' ne ∙ x.2);
      away = λ z. let x = o.away (sym e ∙ z) in dite (ℕ_discrete j k)
          (λ i. (w, r', here_as (now.holder j) (ap now.holder i ∙ gripped.0), ap (λ (y : ℕ). Some (y, r')) (sym i)))
          (λ ne. let apart : now.holder j ≢ id = λ i. ne (ap (λ (z : Option (ℕ × R)). (or_else {A = ℕ × R} (k, r) z).0) (sym x.3 ∙ (ap (λ (z : V). z.hand) (sym (same_there t.views id (now.holder j) v x.0 at i x.2)) ∙ holds))) in
          (x.0, x.1, set_else t.views id (now.holder j) w apart ∙ x.2, x.3));
    }

    kept : (caller : ℕ) → caller < length locals → IsKept now.owner t'.views caller
    kept caller below = let y = now.kept caller below in dite (ℕ_discrete (now.owner caller) id)
        (λ e. (w, here_as (now.owner caller) e, still caller (subst (λ (u : V). HasCaller caller u) (sym (same_there t.views id (now.owner caller) v y.0 at e y.1)) y.2)))
        (λ ne. (y.0, set_else t.views id (now.owner caller) w ne ∙ y.1, y.2))
      where
        still : (caller : ℕ) → HasCaller caller v → HasCaller caller w
        still caller x = dite (ℕ_discrete caller c)
            (λ e. (h', subst (λ (z : ℕ). Has w z h') (sym e) has'))
            (λ ne. (x.0, slice_get-set_other v.held c caller (Some h') (λ i. ne (sym i)) ∙ x.1))

    halts' : get_or words' 1 0 ≡ 1 → HasHaltMade t'.views
    halts' e = let x = now.halts (sym (same_word 1 (omega arith)) ∙ e) in dite (ℕ_discrete x.0 id)
        (λ i. (id, w, here, ap (λ (z : V). z.made_halt) (same_there t.views id x.0 v x.1 at i x.2) ∙ x.3))
        (λ ne. (x.0, x.1, set_else t.views id x.0 w ne ∙ x.2, x.3))

    bounded' : length h.stamps < 2 ^ 58 → (caller : ℕ) → length (places caller log') ≤ 2 ^ 58
    bounded' room caller = dite (ℕ_discrete caller c)
        (λ e. subst (λ (z : ℕ). length (places z log') ≤ 2 ^ 58) (sym e) (subst (λ (l : List ℕ). length l ≤ 2 ^ 58) own'.2 (let x = room in omega (arith, length-append h.stamps (n ∷ [])))))
        (λ ne. subst (λ (l : List ℕ). length l ≤ 2 ^ 58) (sym (more_else caller c now.log (λ i. ne (sym i)))) (now.bounded caller))

    keeps_drawn : Law → length h.stamps < 2 ^ 58 → Rule t'
    keeps_drawn law room = record {
      log = log';
      owner = now.owner;
      holder = now.holder;
      few = now.few;
      wide = length-set t.words 0 (n + 1) ∙ now.wide;
      deep = now.deep;
      next = get_or-set_same t.words 0 (n + 1) 0 (let e = now.wide in omega arith) ∙ (let e = now.next in let l = longer in omega arith);
      bounded = bounded' room;
      moving = all_more m (regions, locals) now.log c now.moving (h.local, k, r, own.1, wants, gripped.2, may);
      law = subst (λ (z : List R × List L). m.lawful z.0 z.1) as_run (law s.0 s.1 c k h.local r now.law own.1 wants gripped.2 may);
      each_view = subst (λ (z : List R × List L). (j : ℕ) (u : V) → get_elem? t'.views j ≡ some u → IsViewOf now.owner now.holder words' log' z j u) as_run
          (each_set (IsViewOf now.owner now.holder words' log' s') t.views id w self_ok others);
      kept = kept;
      each_region = subst (λ (z : List R × List L). (j : ℕ) → j < length regions → IsRegionOf now.holder t' z j) as_run region_ok;
      halted = subst (λ (z : ℕ). z < 2) (sym (same_word 1 (omega arith))) now.halted;
      halts = halts';
    }

  pub draws : Law → (slots id : ℕ) (v : V) (carried : List (ℕ × R)) (c : ℕ) (h : Held L) (k : ℕ) (r : R) → Has v c h → v.hand ≡ Some (k, r) → m.wanted h.local ≡ Some k → m.moves h.local r ≡ true → length h.stamps < 2 ^ 58
      → Allows Rule slots id (v, carried) 0 (λ n. (n + 1) % 2 ^ 64) (Draws m c (v, carried))
  draws law slots id v carried c h k r has holds wants may room t now deep at range =
      let n : ℕ = get_or t.words 0 0 in
      let no_wrap : (n + 1) % 2 ^ 64 ≡ n + 1 = mod-eq_of_lt (let a = short_log t now in let e = now.next in omega arith) in
      let new : V = drawn m v c h k r n in
      let own = now.each_view id v at in (
        new,
        keeps,
        tt,
        subst (λ (x : ℕ). Rule record { words = set t.words 0 x; homes = t.homes; views = set t.views id new }) (sym no_wrap) (keeps_drawn t now id v c h k r at has holds wants may law room),
        (
          refl,
          (λ c' h' has'. below_more v.floor n h'.stamps (let f = own.floor in let e = now.next in omega arith) (own.stamps c' h' has')),
          (λ h2 k2 r2 has2 holds2. subst (λ (z : Held L × (ℕ × R)). new ≡ drawn m v c z.0 z.1.0 z.1.1 n)
              (λ i. (or_else h (or_else (Some h) ((sym has ∙ has2) i)), or_else {A = ℕ × R} (k, r) ((sym holds ∙ holds2) i))) refl),
        ),
      )
