-- The opening comes first, in every world that a legal history leads to.
use Rattle.std.proofs.Common.{◌≡◌, ℕ, suc, ◌<◌, ◌≤◌, inl, inr, List, [], ◌∷◌, ◌++◌, length, slice_get, Some, ap, sym, ◌∙◌, subst, arith, length-set}
use Rattle.std.proofs.lemmas.Option.{slice_get_within, same_Some}
use Rattle.vm_model.specs.declared.calls.Call.{Call}
use Rattle.vm_model.specs.Setup.{Setup, cpus}
use Rattle.vm_model.specs.Events.{Section, Event}
use Rattle.vm_model.specs.Places.{Over}
use Rattle.vm_model.specs.Next.{next}
use Rattle.vm_model.specs.History.{World, Local, moved_to, made_by, opening_answers, callers_from}
use Rattle.map_laws.proofs.KeptThroughSteps.{there, append_cases, append_first, IsFramed, not_over}
use Rattle.map_laws.proofs.areas.AreaWorlds.{IsLegalStep, legally_lasts}
use Rattle.call_laws.specs.Opening.{TheOpeningComesFirst}
use Rattle.call_laws.proofs.CallWorlds.{IsOpenedBy, IsShapedWorld, shaped_step, shaped_joins, shaped_first, histories_have_shapes}

pub record IsOrderedWorld (c : Setup) (lists : List (List Call)) (w : World) : Type 0 where
  pub shaped : IsShapedWorld c lists w
  pub before : (i j : ℕ) (e other : Event) → slice_get w.events i ≡ Some e → slice_get w.events j ≡ Some other → e.caller ≡ 0 → 1 ≤ other.caller → i < j
  pub whose : (i : ℕ) (e : Event) → slice_get w.events i ≡ Some e → (l : Local) × (slice_get w.locals e.caller ≡ Some l)

opened_over : (locals : List Local) (k : ℕ) (l : Local) → 1 ≤ k → IsOpenedBy locals k l → (first : Local) × (slice_get locals 0 ≡ Some first) × (first.place ≡ Over)
opened_over locals k l later is = grind arith

module _ (c : Setup) (lists : List (List Call)) (some : 1 ≤ cpus c) (w : World) (k : ℕ) (l : Local) (s : Section) (framed : IsFramed c w) (is : IsOrderedWorld c lists w) (step : IsLegalStep w k l s) where
  abbrev now : Event
  now = record { caller = l.caller; section = s }

  here : slice_get w.locals l.caller ≡ Some l
  here = subst (λ n. slice_get w.locals n ≡ Some l) (sym (framed.own k l step.step.here).caller) step.step.here

  -- the opening's caller makes no event behind another's
  opening_over : l.caller ≡ 0 → (j : ℕ) (other : Event) → slice_get w.events j ≡ Some other → 1 ≤ other.caller → ⊥
  opening_over e j other h later =
      let x = is.whose j other h in
      let over = opened_over w.locals other.caller x.0 later (is.shaped.opened other.caller x.0 x.1) in
      not_over l.setup w.map l.place s step.step.gives (ap (λ (y : Local). y.place) (same_Some _ _ (sym (subst (λ n. slice_get w.locals n ≡ Some l) e here) ∙ over.1)) ∙ over.2)

  at_last : (n : ℕ) (e : Event) → slice_get (now ∷ []) n ≡ Some e → (n ≡ 0) × (now ≡ e)
  at_last n e h = grind (arith, same_Some)

  before_step : (i j : ℕ) (e other : Event) → slice_get (w.events ++ now ∷ []) i ≡ Some e → slice_get (w.events ++ now ∷ []) j ≡ Some other → e.caller ≡ 0 → 1 ≤ other.caller → i < j
  before_step i j e other at then first later = elim (append_cases w.events (now ∷ []) i e at) [
    | inl old ↦ elim (append_cases w.events (now ∷ []) j other then) [
      | inl also ↦ is.before i j e other old also first later
      | inr new ↦ (let inside = slice_get_within w.events i e old in let number = new.1 in omega arith)
    ]
    | inr new ↦
        let mine : l.caller ≡ 0 = ap (λ (x : Event). x.caller) (at_last new.0 e new.2).1 ∙ first in
        elim (append_cases w.events (now ∷ []) j other then) [
          | inl also ↦ absurd (opening_over mine j other also later)
          | inr both ↦ (let theirs : l.caller ≡ other.caller = ap (λ (x : Event). x.caller) (at_last both.0 other both.2).1 in omega arith)
        ]
  ]

  moved_there : (n : ℕ) → n < length w.locals → (x : Local) × (slice_get (made_by w l s).locals n ≡ Some x)
  moved_there n low = there (made_by w l s).locals n (omega (arith, length-set w.locals l.caller (moved_to l (next l.setup l.place s))))

  ordered_step : IsOrderedWorld c lists (made_by w l s)
  ordered_step = record {
    shaped = shaped_step c lists some w k l s framed is.shaped step;
    before = before_step;
    whose = λ i e h. elim (append_cases w.events (now ∷ []) i e h) [
      | inl old ↦ (let x = is.whose i e old in moved_there e.caller (slice_get_within w.locals e.caller x.0 x.1))
      | inr new ↦ moved_there e.caller (subst (λ (x : Event). x.caller < length w.locals) (at_last new.0 e new.2).1 (slice_get_within w.locals l.caller l here))
    ];
  }

pub the_opening_first : TheOpeningComesFirst
the_opening_first c opening calls w trace reached =
    let is = (legally_lasts c calls (IsOrderedWorld c (opening ∷ calls)) (record {
      steps = λ v k l s framed is step. ordered_step c (opening ∷ calls) trace.setup.units.some v k l s framed is step;
      joins = λ v framed one is over. record {
        shaped = shaped_joins c opening calls v one over is.shaped;
        before = is.before;
        whose = λ i e h. let x = is.whose i e h in (x.0, append_first v.locals (callers_from c (opening_answers v.locals) 1 calls) e.caller x.0 x.1);
      };
    }) opening (record { shaped = shaped_first c opening calls; before = λ i j e other at. cc; whose = λ i e at. cc }) w reached).1 in
    record {
      answered = λ k l at. let first = is.shaped.opened (suc k) l at in (first.0, first.1, (histories_have_shapes c opening calls w trace reached 0 first.0 first.1).ended first.2);
      before = is.before;
      whose = is.whose;
    }
