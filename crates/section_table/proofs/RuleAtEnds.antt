-- The rule at the start, and what it says at the end.
use Rattle.std.proofs.Common.{◌≡◌, ◌≢◌, ℕ, zero, suc, ◌+◌, ◌<◌, ◌≤◌, List, [], ◌∷◌, length, map, replicate, get_or, refl, sym, ap, ◌∙◌, subst, arith, Option, Some, None, slice_get, true}
use Rattle.std.proofs.lemmas.List.{length-map}
use mathlib.Core.Logic.{dite}
use native.Mathlib.Decide.{ℕ_discrete}
use mathlib.Core.Option as maybe
use mathlib.Core.Option.{some, some-injective, some-ne-none}
use lib.ListN.{get_elem?, length-replicate, get_or-replicate}
use Rattle.atomic_table.specs.Table.{State, opening, Final, Seen}
use Rattle.vm_model.specs.Run.{state_after}
use Rattle.section_laws.specs.MovesInTurn.{AllMove}
use Rattle.section_table.specs.declared.views.Held.{Held}
use Rattle.section_table.specs.declared.views.View.{View}
use Rattle.section_table.specs.Meanings.{Meanings}
use Rattle.section_table.specs.CallerPlaces.{places, AreBelow}
use Rattle.section_table.specs.PassViews.{Has, HasCaller, HasAll, newcomer, starting}
use Rattle.section_table.specs.TableRule.{IsViewOf, IsKept, IsRegionOf, IsRuled}
use Rattle.section_table.proofs.ElementsByPlace.{or_else, some_is, none≢some, within, map_got, got_map, same_there}
use Rattle.section_table.proofs.LogMoves.{all_lengths}
use Rattle.section_table.proofs.Stamps.{below_more}

module _ {A : Type 0} where
  there : (l : List A) (i : ℕ) → i < length l → (a : A) × (slice_get l i ≡ Some a) × (get_elem? (map some l) i ≡ some (some a))
  there [] i h = absurd (omega arith)
  there (x ∷ xs) zero h = (x, refl, refl)
  there (x ∷ xs) (suc i) h = there xs i (omega arith)

  alike : (l m : List A) → length l ≡ length m → ((i : ℕ) → i < length m → (a : A) × (get_elem? l i ≡ some a) × (slice_get m i ≡ Some a)) → l ≡ m
  alike [] [] e h = refl
  alike [] (y ∷ ys) e h = absurd (omega arith)
  alike (x ∷ xs) [] e h = absurd (omega arith)
  alike (x ∷ xs) (y ∷ ys) e h = let z = h 0 (omega arith) in let same : x ≡ y = some-injective x z.0 z.1 ∙ sym (some_is y z.0 z.2) in
      let tail : xs ≡ ys = alike xs ys (omega arith) (λ i l. h (suc i) (omega arith)) in λ k. same k ∷ tail k

-- a caller at the start
pub fresh : {L : Type 0} (ls : List L) (c : ℕ) (h : Held L) → slice_get (map newcomer ls) c ≡ Some (Some h) → (slice_get ls c ≡ Some h.local) × (h.stamps ≡ [])
fresh ls c h e = let x = map_got newcomer ls c (Some h) e in let same = some_is (record { local = x.0; stamps = [] }) h x.2 in
    (x.1 ∙ ap (λ (z : Held _). Some z.local) same, sym (ap (λ (z : Held _). z.stamps) same))

module _ {R L : Type 0} (m : Meanings R L) (regions : List R) (locals : List L) where
  abbrev V : Type 0
  V = View R L

  abbrev Rule : State R V → Type 0
  Rule = IsRuled m regions locals

  abbrev left_by : List ℕ → List R × List L
  left_by log = state_after m.wanted m.moves m.after (regions, locals) log

  pub begins : length locals ≤ 32 → m.lawful regions locals → Rule (opening (replicate (length regions + 2) 0) regions (starting locals))
  begins few law = record {
    log = [];
    owner = λ _. 0;
    holder = λ _. 0;
    few = few;
    wide = length-replicate (length regions + 2) 0;
    deep = length-map regions some;
    next = at 0 (omega arith);
    bounded = λ c. omega arith;
    moving = tt;
    law = law;
    each_view = one;
    kept = λ c below. let x = there locals c below in (starting locals, refl, (record { local = x.0; stamps = [] }, got_map newcomer locals c x.0 x.1));
    each_region = λ k below. record {
      turn = let z = at (k + 2) (omega arith) in omega arith;
      home = λ _. let x = there regions k below in (x.0, x.2, x.1);
      away = λ z. absurd (let y = at (k + 2) (omega arith) in omega arith);
    };
    halted = let z = at 1 (omega arith) in omega arith;
    halts = λ z. absurd (let y = at 1 (omega arith) in omega arith);
  }
    where
      at : (i : ℕ) → i < length regions + 2 → get_or {A = ℕ} (replicate (length regions + 2) 0) i 0 ≡ 0
      at i below = get_or-replicate (length regions + 2) i 0 0 below

      ok : IsViewOf (λ _. 0) (λ _. 0) (replicate (length regions + 2) 0) [] (regions, locals) 0 (starting locals)
      ok = record {
        callers = λ c h e. let x = fresh locals c h e in (refl, x.0, x.1);
        stamps = λ c h e. subst (AreBelow 0) (sym (fresh locals c h e).1) tt;
        floor = omega arith;
        short = let z = length-map locals newcomer in omega arith;
        hand = λ k r e. absurd (none≢some (k, r) e);
        saw = λ e. absurd (cc);
        made = λ e. absurd (cc);
      }

      one : (j : ℕ) (v : V) → get_elem? (starting locals ∷ []) j ≡ some v → IsViewOf (λ _. 0) (λ _. 0) (replicate (length regions + 2) 0) [] (regions, locals) j v
      one zero v e = subst (IsViewOf (λ _. 0) (λ _. 0) (replicate (length regions + 2) 0) [] (regions, locals) 0) (some-injective _ _ e) ok
      one (suc j) v e = absurd (some-ne-none v (sym e))

  -- the log of a table whose last seat has all callers and nothing in hand
  pub record IsEndOf (words : List ℕ) (slots : List R) (v : V) (log : List ℕ) : Type 0 where
    pub few : length locals ≤ 32
    pub short : length v.held ≤ 32
    pub moving : AllMove m.wanted m.moves m.after (regions, locals) log
    pub next : get_or words 0 0 ≡ length log
    pub regions_are : slots ≡ (left_by log).0
    pub callers : (c : ℕ) (h : Held L) → Has v c h → (slice_get (left_by log).1 c ≡ Some h.local) × (h.stamps ≡ places c log)
    pub stamps : (c : ℕ) (h : Held L) → Has v c h → AreBelow (length log) h.stamps

  pub closes : (words : List ℕ) (slots : List R) (id : ℕ) (v : V) → v.hand ≡ None → HasAll (length locals) v → Final (Seen Rule id v) words slots
      → (log : List ℕ) × IsEndOf words slots v log
  closes words slots id v rests all last = (
    log,
    record {
      few = now.few;
      short = own.short;
      moving = now.moving;
      next = ap (λ (l : List ℕ). get_or l 0 0) (sym last.2) ∙ now.next;
      regions_are = alike slots (left_by log).0 as_long each;
      callers = λ c h has. let x = own.callers c h has in (x.1, x.2);
      stamps = λ c h has. below_more v.floor (length log) h.stamps own.floor (own.stamps c h has);
    },
  )
    where
      t : State R V
      t = last.0

      now : Rule t
      now = last.1.0

      at : get_elem? t.views id ≡ some v
      at = last.1.1

      log : List ℕ
      log = now.log

      own : IsViewOf now.owner now.holder t.words log (left_by log) id v
      own = now.each_view id v at

      lengths : (length (left_by log).0 ≡ length regions) × (length (left_by log).1 ≡ length locals)
      lengths = all_lengths m (regions, locals) log now.moving

      as_long : length slots ≡ length (left_by log).0
      as_long = let a = last.3 in let b = now.deep in let c = lengths.0 in omega arith

      no_hand : (k : ℕ) (u : V) (r : R) → get_elem? t.views (now.holder k) ≡ some u → u.hand ≡ Some (k, r) → ⊥
      no_hand k u r where_is hand =
          let ok = now.each_view (now.holder k) u where_is in
          let x = ok.hand k r hand in
          let o = ok.callers x.3.0 x.3.1.0 x.3.1.1 in
          let mine = all x.3.0 (subst (λ (z : ℕ). x.3.0 < z) lengths.1 (within (left_by log).1 x.3.0 x.3.1.0.local o.1)) in
          let p = own.callers x.3.0 mine.0 mine.1 in
          let same : now.holder k ≡ id = sym o.0 ∙ p.0 in
          none≢some (k, r) (sym rests ∙ (ap (λ (z : V). z.hand) (same_there t.views id (now.holder k) v u at same where_is) ∙ hand))

      each : (i : ℕ) → i < length (left_by log).0 → (a : R) × (get_elem? slots i ≡ some a) × (slice_get (left_by log).0 i ≡ Some a)
      each i below =
          let o = now.each_region i (let c = lengths.0 in omega arith) in
          let free : get_or t.words (i + 2) 0 ≡ 0 = dite (ℕ_discrete (get_or t.words (i + 2) 0) 0) (λ z. z) (λ ne. absurd (let x = o.away (let b = o.turn in omega arith) in no_hand i x.0 x.1 x.2 x.3)) in
          let x = o.home free in (x.0, last.4 i x.0 x.1, x.2)
