-- Each event of a history was legal in the map that the events before it left.
use Rattle.std.proofs.Common.{◌≡◌, ℕ, zero, suc, ◌+◌, inl, inr, Bool, true, false, ◌==◌, List, [], ◌∷◌, ◌++◌, length, take, drop, slice_get, Some, refl, ap, sym, ◌∙◌, subst, arith}
use Rattle.std.proofs.lemmas.Bool.Decides.{nat_tests}
use Rattle.std.proofs.lemmas.Option.{slice_get_within, same_Some}
use Rattle.vm_model.specs.declared.calls.Call.{Call}
use Rattle.vm_model.specs.Setup.{Setup}
use Rattle.vm_model.specs.PlainMap.{PlainMap, at_first}
use Rattle.vm_model.specs.Events.{Section, Event}
use Rattle.vm_model.specs.Legal.{IsLegal, IsLegalAs}
use Rattle.vm_model.specs.Effects.{effect_as}
use Rattle.vm_model.specs.History.{World, Local, made_by, placing_calls}
use Rattle.vm_model.specs.LegalHistory.{IsReached}
use Rattle.vm_model.specs.Laws.{map_after, map_at}
use Rattle.map_laws.proofs.KeptThroughSteps.{append_cases, IsFramed}
use Rattle.map_laws.proofs.areas.AreaWorlds.{IsLegalStep, legally_lasts}
use Rattle.map_laws.proofs.waits.WaitStories.{map_after-append, map_at-before, map_at-last}
use Rattle.call_laws.specs.Histories.{OwnSection, own_if, own_from, own_sections}
use Rattle.call_laws.specs.Causes.{WereLegal, EachEventIsLegal}

pub record IsLegalWorld (c : Setup) (first : PlainMap) (w : World) : Type 0 where
  pub story : w.map ≡ map_after c first w.events
  pub legal : WereLegal c first w.events

module _ (c : Setup) (first : PlainMap) where
  legal_more : (events : List Event) (e : Event) → WereLegal c first events → IsLegal c (map_after c first events) e → WereLegal c first (events ++ e ∷ [])
  legal_more events e were now i x h = elim (append_cases events (e ∷ []) i x h) [ inl old ↦ before old | inr new ↦ last new.0 new.1 new.2 ]
    where
      before : slice_get events i ≡ Some x → IsLegal c (map_at c first (events ++ e ∷ []) i) x
      before old = let inside = slice_get_within events i x old in subst (λ m. IsLegal c m x) (sym (map_at-before c first events e i (omega arith))) (were i x old)

      last : (j : ℕ) → i ≡ length events + j → slice_get (e ∷ []) j ≡ Some x → IsLegal c (map_at c first (events ++ e ∷ []) i) x
      last zero n at =
          let number : length events ≡ i = omega arith in
          subst (λ y. IsLegal c (map_at c first (events ++ e ∷ []) i) y) (same_Some _ _ at)
          (subst (λ n. IsLegal c (map_at c first (events ++ e ∷ []) n) e) number (subst (λ m. IsLegal c m e) (sym (map_at-last c first events e)) now))
      last (suc j) n at = cc

  legal_step : (w : World) (k : ℕ) (l : Local) (s : Section) → IsFramed c w → IsLegalWorld c first w → IsLegalStep w k l s → IsLegalWorld c first (made_by w l s)
  legal_step w k l s framed is step =
      let own = framed.own k l step.step.here in
      let legal : IsLegalAs c w.map l.caller s = subst (λ d. IsLegalAs d w.map l.caller s) own.setup (subst (λ i. IsLegalAs l.setup w.map i s) (sym own.caller) step.legal) in record {
        story = ap (λ d. effect_as d w.map l.caller s) own.setup ∙ ap (λ m. effect_as c m l.caller s) is.story ∙ sym (map_after-append c first w.events ((record { caller = l.caller; section = s }) ∷ []));
        legal = legal_more w.events (record { caller = l.caller; section = s }) is.legal (subst (λ m. IsLegalAs c m l.caller s) is.story legal);
      }

pub legal_reached : (c : Setup) (opening : List Call) (calls : List (List Call)) (w : World) → IsReached c opening calls w → IsLegalWorld c (at_first c (placing_calls (opening ∷ calls))) w
legal_reached c opening calls w reached = (legally_lasts c calls (IsLegalWorld c (at_first c (placing_calls (opening ∷ calls)))) (record {
  steps = λ v k l s framed is step. legal_step c (at_first c (placing_calls (opening ∷ calls))) v k l s framed is step;
  joins = λ v framed one is over. record { story = is.story; legal = is.legal };
}) opening (record { story = refl; legal = λ i e h. cc }) w reached).1

pub each_event_legal : EachEventIsLegal
each_event_legal c opening calls w trace reached = (legal_reached c opening calls w reached).legal

-- A caller's own sections among the events.

pub record IsOneOf (own : List OwnSection) (o : OwnSection) : Type 0 where
  pub place : ℕ
  pub at : slice_get own place ≡ Some o

own_there : (k before : ℕ) (events : List Event) (i : ℕ) (o : OwnSection) → slice_get (own_from k before events) i ≡ Some o → (j : ℕ) × (o.before ≡ before + j) × (slice_get events j ≡ Some (record { caller = k; section = o.section }))
own_there k before [] i o h = cc
own_there k before (e ∷ events) i o h = by_test (e.caller == k) refl (λ j at. own_there k (suc before) events j o at) i h
  where
    caller_is : (a b : ℕ) → (a == b) ≡ true → a ≡ b
    caller_is a b e = grind (arith, nat_tests)

    by_test : (b : Bool) → (e.caller == k) ≡ b → ((j : ℕ) → slice_get (own_from k (suc before) events) j ≡ Some o → (j : ℕ) × (o.before ≡ suc before + j) × (slice_get events j ≡ Some (record { caller = k; section = o.section })))
        → (n : ℕ) → slice_get (own_if b (record { before = before; section = e.section }) (own_from k (suc before) events)) n ≡ Some o
        → (j : ℕ) × (o.before ≡ before + j) × (slice_get (e ∷ events) j ≡ Some (record { caller = k; section = o.section }))
    by_test true t more zero at =
        let same : (record { before = before; section = e.section }) ≡ o = same_Some _ _ at in
        (0, (let n : before ≡ o.before = ap (λ (x : OwnSection). x.before) same in omega arith), ap Some (ap (λ n. record { caller = n; section = e.section }) (caller_is e.caller k t) ∙ ap (λ (x : OwnSection). record { caller = k; section = x.section }) same))
    by_test true t more (suc n) at = let is = more n at in (suc is.0, (let n = is.1 in omega arith), is.2)
    by_test false t more n at = let is = more n at in (suc is.0, (let n = is.1 in omega arith), is.2)

pub own_legal : (c : Setup) (first : PlainMap) (events : List Event) (k : ℕ) → WereLegal c first events → (o : OwnSection) → IsOneOf (own_sections k events) o → IsLegalAs c (map_at c first events o.before) k o.section
own_legal c first events k were o is =
    let at = own_there k 0 events is.place o is.at in
    let number : at.0 ≡ o.before = (let n = at.1 in omega arith) in
    subst (λ n. IsLegalAs c (map_at c first events n) k o.section) number (were at.0 (record { caller = k; section = o.section }) at.2)

in_drop : (n : ℕ) (own : List OwnSection) (i : ℕ) (o : OwnSection) → slice_get (drop n own) i ≡ Some o → IsOneOf own o
in_drop zero own i o h = record { place = i; at = h }
in_drop (suc n) [] i o h = cc
in_drop (suc n) (x ∷ own) i o h = let is = in_drop n own i o h in record { place = suc is.place; at = is.at }

in_take : (n : ℕ) (own : List OwnSection) (i : ℕ) (o : OwnSection) → slice_get (take n own) i ≡ Some o → IsOneOf own o
in_take (suc n) (x ∷ own) zero o h = record { place = 0; at = h }
in_take (suc n) (x ∷ own) (suc i) o h = let is = in_take n own i o h in record { place = suc is.place; at = is.at }
in_take _ _ i o h = cc

-- those of one call are some of all
pub one_between : (first last : ℕ) (own : List OwnSection) (o : OwnSection) → IsOneOf (drop first (take last own)) o → IsOneOf own o
one_between first last own o is = let at = in_drop first (take last own) is.place o is.at in in_take last own at.place o at.at

pub one_middle : (before : List OwnSection) (o : OwnSection) (after : List OwnSection) → IsOneOf (before ++ o ∷ after) o
one_middle [] o after = record { place = 0; at = refl }
one_middle (x ∷ before) o after = let is = one_middle before o after in record { place = suc is.place; at = is.at }
