-- Histories have the shapes of calls, in every world that a legal history leads to.
use Rattle.std.proofs.Common.{◌≡◌, ◌≢◌, ℕ, zero, suc, ◌+◌, ◌<◌, ◌≤◌, inl, inr, List, [], ◌∷◌, ◌++◌, length, slice_get, Option, Some, None, refl, ap, sym, ◌∙◌, subst, arith, length-append, length-set}
use Rattle.std.proofs.lemmas.Option.{slice_get_within, same_Some}
use Rattle.vm_model.specs.declared.calls.Call.{Call}
use Rattle.vm_model.specs.Setup.{Setup, cpus}
use Rattle.vm_model.specs.Events.{Section}
use Rattle.vm_model.specs.Places.{Over, ask}
use Rattle.vm_model.specs.Next.{Go, next}
use Rattle.vm_model.specs.Calls.{Answered, begin, begin_call}
use Rattle.vm_model.specs.History.{World, Local, started, moved_to, made_by, opening_world, opening_answers, callers_from, with_callers}
use Rattle.vm_model.specs.LegalHistory.{Meets, IsReached, AllOver}
use Rattle.vm_model.specs.Rules.{IsTrace}
use Rattle.map_laws.proofs.KeptThroughSteps.{same_or, set_cases, set_other, append_cases, append_first, IsFramed, not_over, has_call}
use Rattle.map_laws.proofs.areas.AreaWorlds.{IsLegalStep, legally_lasts}
use Rattle.call_laws.proofs.Dues.{IsDue, due_led, call_due}
use Rattle.call_laws.specs.Histories.{OwnSection, own_sections, sections, sections_since, Leads, answers_before, HistoriesHaveTheShapesOfCalls}
use Rattle.call_laws.proofs.Owns.{last, own_more, own_same}
use Rattle.vm_model.specs.declared.calls.Reply.{Reply}
use Rattle.vm_model.specs.ObjectShapes.{HasShape}
use Rattle.vm_model.proofs.CallShapes.{calls_have_shapes}
use Rattle.call_laws.proofs.Ending.{can_end, led_then, over_leads}
use Rattle.call_laws.proofs.CallMoves.{IsShapedBy, shaped_moved, shaped_started, moved_list, moved_opening}

-- the first caller is over before any other begins, with the answers that these have of the opening
abbrev pub IsOpenedBy : List Local → ℕ → Local → Type 0
IsOpenedBy locals zero l = l.opening ≡ []
IsOpenedBy locals (suc k) l = (first : Local) × (slice_get locals 0 ≡ Some first) × (first.place ≡ Over) × (l.opening ≡ first.answers)

pub record IsShapedWorld (c : Setup) (lists : List (List Call)) (w : World) : Type 0 where
  pub each : (k : ℕ) (l : Local) → slice_get w.locals k ≡ Some l → IsShapedBy c (own_sections k w.events) l
  pub list : (k : ℕ) (l : Local) → slice_get w.locals k ≡ Some l → slice_get lists k ≡ Some l.calls
  pub opened : (k : ℕ) (l : Local) → slice_get w.locals k ≡ Some l → IsOpenedBy w.locals k l
  pub others : (k : ℕ) → length w.locals ≤ k → own_sections k w.events ≡ []

opened_same : (locals : List Local) (k : ℕ) (l x : Local) → l.opening ≡ x.opening → IsOpenedBy locals k l → IsOpenedBy locals k x
opened_same locals k l x e is = grind arith

module _ (c : Setup) (lists : List (List Call)) (some : 1 ≤ cpus c) (w : World) (k : ℕ) (l : Local) (s : Section) (framed : IsFramed c w) (is : IsShapedWorld c lists w) (step : IsLegalStep w k l s) where
  abbrev moved : Local
  moved = moved_to l (next l.setup l.place s)

  setup : l.setup ≡ c
  setup = (framed.own k l step.step.here).setup

  caller : l.caller ≡ k
  caller = (framed.own k l step.step.here).caller

  not_ended : l.place ≢ Over
  not_ended = not_over l.setup w.map l.place s step.step.gives

  own_moved : IsShapedBy c (own_sections k (made_by w l s).events) moved
  own_moved = subst (λ own. IsShapedBy c own moved) (sym (own_more k l.caller w.events s caller))
      (shaped_moved c some (own_sections k w.events) (last k l.caller w.events s) l setup (is.each k l step.step.here) (has_call c k l (framed.own k l step.step.here) not_ended) (subst (λ d. Meets d (ask d l.place) s) setup step.meets))

  -- the opening's caller doesn't move again
  still_first : (first : Local) → slice_get w.locals 0 ≡ Some first → first.place ≡ Over → slice_get (made_by w l s).locals 0 ≡ Some first
  still_first first at over = elim (same_or 0 l.caller) [
    | inl e ↦ absurd (not_ended (let here : slice_get w.locals 0 ≡ Some l = subst (λ i. slice_get w.locals i ≡ Some l) (sym (e ∙ caller)) step.step.here in ap (λ (x : Local). x.place) (same_Some _ _ (sym here ∙ at)) ∙ over))
    | inr n ↦ set_other w.locals l.caller 0 moved n ∙ at
  ]

  still_opened : (j : ℕ) (x : Local) → IsOpenedBy w.locals j x → IsOpenedBy (made_by w l s).locals j x
  still_opened j x e = grind (arith, still_first)

  by_local : (P : ℕ → Local → Type 0) → P k moved → ((j : ℕ) (x : Local) → j ≢ k → slice_get w.locals j ≡ Some x → P j x) → (j : ℕ) (x : Local) → slice_get (made_by w l s).locals j ≡ Some x → P j x
  by_local P own other j x h = grind (arith, set_cases, caller)

  pub shaped_step : IsShapedWorld c lists (made_by w l s)
  shaped_step = record {
    each = by_local (λ j x. IsShapedBy c (own_sections j (made_by w l s).events) x) own_moved
        (λ j x n h. subst (λ own. IsShapedBy c own x) (sym (own_same j l.caller w.events s (λ e. n (sym e ∙ caller)))) (is.each j x h));
    list = by_local (λ j x. slice_get lists j ≡ Some x.calls) (is.list k l step.step.here ∙ ap Some (sym (moved_list l (next l.setup l.place s)))) (λ j x n h. is.list j x h);
    opened = by_local (λ j x. IsOpenedBy (made_by w l s).locals j x)
        (opened_same (made_by w l s).locals k l moved (sym (moved_opening l (next l.setup l.place s))) (still_opened k l (is.opened k l step.step.here)))
        (λ j x n h. still_opened j x (is.opened j x h));
    others = λ j far.
        let inside = slice_get_within w.locals k l step.step.here in
        let long : length (made_by w l s).locals ≡ length w.locals = length-set w.locals l.caller moved in
        let apart : l.caller ≢ j = (λ e. (let f = caller in omega arith)) in
        own_same j l.caller w.events s apart ∙ is.others j (omega arith);
  }

module _ (c : Setup) (opening : List Call) (calls : List (List Call)) where
  -- a caller that begins behind the opening
  begins_at : (answers : List Answered) (first : ℕ) (more : List (List Call)) (j : ℕ) (l : Local) → slice_get (callers_from c answers first more) j ≡ Some l
      → (own : List Call) × (slice_get more j ≡ Some own) × (l ≡ started c answers (first + j) own)
  begins_at answers first [] j l h = cc
  begins_at answers first (own ∷ more) zero l h = (own, refl, sym (same_Some _ _ h) ∙ ap (λ n. started c answers n own) (let e : first ≡ first + 0 = omega arith in e))
  begins_at answers first (own ∷ more) (suc j) l h = grind (arith, begins_at answers (suc first) more j l h)

  module _ (w : World) (one : length w.locals ≡ 1) (over : AllOver w.locals) (is : IsShapedWorld c (opening ∷ calls) w) where
    abbrev joined : World
    joined = with_callers c calls w

    first_over : (locals : List Local) → length locals ≡ 1 → AllOver locals → (first : Local) × (slice_get locals 0 ≡ Some first) × (first.place ≡ Over) × (opening_answers locals ≡ first.answers)
    first_over [] short all = cc
    first_over (first ∷ locals) short all = grind (arith, setup)

    opens : (first : Local) × (slice_get w.locals 0 ≡ Some first) × (first.place ≡ Over) × (opening_answers w.locals ≡ first.answers)
    opens = first_over w.locals one over

    opened_joins : (k : ℕ) (l : Local) → IsOpenedBy w.locals k l → IsOpenedBy joined.locals k l
    opened_joins k l e = grind (arith, append_first)

    by_start : (P : ℕ → Local → Type 0) → ((k : ℕ) (l : Local) → slice_get w.locals k ≡ Some l → P k l)
        → ((j : ℕ) (own : List Call) → slice_get calls j ≡ Some own → P (suc j) (started c (opening_answers w.locals) (suc j) own)) → (k : ℕ) (l : Local) → slice_get joined.locals k ≡ Some l → P k l
    by_start P old new k l h = elim (append_cases w.locals (callers_from c (opening_answers w.locals) 1 calls) k l h) [ inl e ↦ old k l e | inr e ↦ behind e.0 e.1 e.2 ]
      where
        behind : (j : ℕ) → k ≡ length w.locals + j → slice_get (callers_from c (opening_answers w.locals) 1 calls) j ≡ Some l → P k l
        behind j n at =
            let begun = begins_at (opening_answers w.locals) 1 calls j l at in
            let number : suc j ≡ k = omega arith in
            let same : 1 + j ≡ suc j = omega arith in
            subst (λ i. P i l) number (subst (P (suc j)) (sym (begun.2 ∙ ap (λ i. started c (opening_answers w.locals) i begun.0) same)) (new j begun.0 begun.1))

    pub shaped_joins : IsShapedWorld c (opening ∷ calls) joined
    shaped_joins = record {
      each = by_start (λ k l. IsShapedBy c (own_sections k w.events) l) is.each
          (λ j own at. subst (λ x. IsShapedBy c x (started c (opening_answers w.locals) (suc j) own)) (sym (is.others (suc j) (omega arith))) (shaped_started c (opening_answers w.locals) (suc j) own));
      list = by_start (λ k l. slice_get (opening ∷ calls) k ≡ Some l.calls) is.list (λ j own at. at);
      opened = by_start (λ k l. IsOpenedBy joined.locals k l) (λ k l at. opened_joins k l (is.opened k l at))
          (λ j own at. (opens.0, append_first w.locals (callers_from c (opening_answers w.locals) 1 calls) 0 opens.0 opens.1, opens.2, opens.3));
      others = λ k far. is.others k (omega (arith, length-append w.locals (callers_from c (opening_answers w.locals) 1 calls)));
    }

  pub shaped_first : IsShapedWorld c (opening ∷ calls) (opening_world c opening calls)
  shaped_first = grind (arith, shaped_started, same_Some)

  pub shaped_reached : IsTrace c opening calls → (w : World) → IsReached c opening calls w → IsShapedWorld c (opening ∷ calls) w
  shaped_reached trace w reached = (legally_lasts c calls (IsShapedWorld c (opening ∷ calls)) (record {
    steps = λ v k l s framed is step. shaped_step c (opening ∷ calls) trace.setup.units.some v k l s framed is step;
    joins = λ v framed one is over. shaped_joins v one over is;
  }) opening shaped_first w reached).1

answers_opened : (locals : List Local) (k : ℕ) (l : Local) → IsOpenedBy locals k l → l.opening ≡ answers_before locals k
answers_opened locals k l is = grind (arith, same_Some)

-- a caller that has ended has no call at hand
module _ (c : Setup) (own : List OwnSection) (l : Local) (is : IsShapedBy c own l) where
  none_left : (n : ℕ) (calls : List Call) → slice_get calls n ≡ None → length calls ≤ n
  none_left n [] e = omega arith
  none_left zero (call ∷ calls) e = cc
  none_left (suc n) (call ∷ calls) e = let more = none_left n calls e in omega arith

  all_answered : (n : ℕ) (answers : List Answered) → ((i : ℕ) (a : Answered) → slice_get answers i ≡ Some a → i < n) → length answers ≤ n
  all_answered n [] each = omega arith
  all_answered zero (a ∷ answers) each = let no = each 0 a refl in omega arith
  all_answered (suc n) (a ∷ answers) each = let more = all_answered n answers (λ i b h. (let low = each (suc i) b h in omega arith)) in omega arith

  ended_by : (o : Option Call) → slice_get l.calls (length l.answers) ≡ o → l.place ≡ Over → length l.answers ≡ length l.calls
  ended_by (Some call) e over =
      absurd (subst (IsDue ([] ++ sections (sections_since own l.answers))) over
      (due_led c [] (Go (begin_call c l.opening l.answers call)) (sections (sections_since own l.answers)) (Go l.place) (call_due c l.opening l.answers call)
      (subst (λ x. Leads c (Go (begin c l.opening l.answers x)) (sections (sections_since own l.answers)) (Go l.place)) e is.at_hand)))
  ended_by None e over =
      let none = none_left (length l.answers) l.calls e in
      let all = all_answered (length l.calls) l.answers (λ i a h. slice_get_within l.calls i a.call (is.answers i a h).call) in
      omega arith

  pub ended_is : l.place ≡ Over → length l.answers ≡ length l.calls
  ended_is over = ended_by (slice_get l.calls (length l.answers)) refl over

-- what is made of the call at hand is a beginning of one of its shapes
module _ (c : Setup) (some : 1 ≤ cpus c) (own : List OwnSection) (l : Local) (is : IsShapedBy c own l) where
  at_call : (call : Call) → slice_get l.calls (length l.answers) ≡ Some call → Leads c (Go (begin_call c l.opening l.answers call)) (sections (sections_since own l.answers)) (Go l.place)
  at_call call e = subst (λ x. Leads c (Go (begin c l.opening l.answers x)) (sections (sections_since own l.answers)) (Go l.place)) e is.at_hand

  pub unfinished_is : (call : Call) → slice_get l.calls (length l.answers) ≡ Some call → (rest : List Section) × (answer : Reply) × HasShape c l.opening l.answers call answer (sections (sections_since own l.answers) ++ rest)
  unfinished_is call e =
      let due = due_led c [] (Go (begin_call c l.opening l.answers call)) (sections (sections_since own l.answers)) (Go l.place) (call_due c l.opening l.answers call) (at_call call e) in
      let end = can_end c l.place (λ over. subst (IsDue ([] ++ sections (sections_since own l.answers))) over due) in (
        end.rest,
        end.answer,
        calls_have_shapes c l.opening l.answers call (sections (sections_since own l.answers) ++ end.rest) end.answer end.made some
            (led_then c (Go (begin_call c l.opening l.answers call)) (sections (sections_since own l.answers)) (Go l.place) end.rest end.answer end.made (at_call call e) end.makes),
      )

  pub none_left_is : slice_get l.calls (length l.answers) ≡ None → sections (sections_since own l.answers) ≡ []
  none_left_is e = over_leads c (sections (sections_since own l.answers)) (Go l.place) (subst (λ x. Leads c (Go (begin c l.opening l.answers x)) (sections (sections_since own l.answers)) (Go l.place)) e is.at_hand)

pub histories_have_shapes : HistoriesHaveTheShapesOfCalls
histories_have_shapes c opening calls w trace reached k l here =
    let is = shaped_reached c opening calls trace w reached in
    let own = is.each k l here in record {
      list = is.list k l here;
      opening = answers_opened w.locals k l (is.opened k l here);
      answers = own.answers;
      at_hand = own.at_hand;
      unfinished = unfinished_is c trace.setup.units.some (own_sections k w.events) l own;
      none_left = none_left_is c trace.setup.units.some (own_sections k w.events) l own;
      ended = ended_is c (own_sections k w.events) l own;
    }
