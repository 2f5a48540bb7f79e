-- Pages wait before they are used again, in every trace.
use Rattle.std.proofs.Common.{◌≡◌, ℕ, zero, suc, inl, inr, true, List, [], ◌∷◌, ◌++◌, slice_get, slice_set, Some, refl, ap, sym, ◌∙◌, subst, arith}
use Rattle.vm_model.specs.declared.calls.Call.{Call}
use Rattle.vm_model.specs.Space.{covers}
use Rattle.vm_model.specs.Setup.{Setup}
use Rattle.vm_model.specs.PlainMap.{PlainMap, Free, at_first}
use Rattle.vm_model.specs.Events.{Section}
use Rattle.vm_model.specs.Legal.{IsMarked, IsLegalAs}
use Rattle.vm_model.specs.Effects.{effect_as}
use Rattle.vm_model.specs.Carried.{flushed}
use Rattle.vm_model.specs.Places.{Place, ask}
use Rattle.vm_model.specs.Next.{Go, next}
use Rattle.vm_model.specs.Calls.{Answered}
use Rattle.vm_model.specs.LegalHistory.{Meets, IsReached}
use Rattle.vm_model.specs.History.{World, Local, started, made_by, moved_to, placing_calls, opening_world, opening_answers, callers_from, with_callers}
use Rattle.vm_model.specs.Rules.{IsTrace}
use Rattle.vm_model.specs.Laws.{IsFreedAt, PagesWaitBeforeReuse}
use Rattle.map_laws.specs.WaitingPages.{FreedPagesHaveWaited}
use Rattle.map_laws.proofs.KeptThroughSteps.{append_cases, append_first, IsFramed, not_over, has_call}
use Rattle.map_laws.proofs.ProperPlaces.{OnNext, HaveBeginnings, begins_with, moved_has}
use Rattle.map_laws.proofs.areas.AreaWorlds.{IsAreaWorld, IsLegalStep, IsLegallyLasting, legally_lasts}
use Rattle.map_laws.proofs.TraceWorlds.{IsTraceWorld, trace_lasts, trace_first}
use Rattle.map_laws.proofs.waits.WaitStories.{map_at-end, IsStoried}
use Rattle.map_laws.proofs.waits.WaitWorlds.{Follows, Waiting, Taken, IsWaiting, IsWaitWorld, is_idle, idle_storied, idle_flushed, wait_section}

idle_begins : (P : Place → Type 0) (c : Setup) → ((p : Place) → is_idle p ≡ true → P p) → HaveBeginnings P c
idle_begins P c have p opens = grind (arith, is_idle)

pub record IsWaitedWorld (c : Setup) (first : PlainMap) (w : World) : Type 0 where
  pub traced : IsTraceWorld c w
  pub waits : IsWaitWorld c first w

-- Each legal section keeps it.

module _ (c : Setup) (opening : List Call) (calls : List (List Call)) (trace : IsTrace c opening calls) (first : PlainMap) where
  module _ (w : World) (k : ℕ) (l : Local) (s : Section) (framed : IsFramed c w) (kept : IsWaitedWorld c first w) (legal : IsLegalStep w k l s) where
    setup : l.setup ≡ c
    setup = (framed.own k l legal.step.here).setup

    caller : l.caller ≡ k
    caller = (framed.own k l legal.step.here).caller

    abbrev moved : Local
    moved = moved_to l (next l.setup l.place s)

    abbrev by : Setup → ℕ → World
    by d i = record { map = effect_as d w.map i s; locals = slice_set w.locals i (moved_to l (next l.setup l.place s)); events = w.events ++ (record { caller = i; section = s }) ∷ [] }

    same : made_by w l s ≡ by c k
    same = ap (λ d. by d l.caller) setup ∙ ap (by c) caller

    traced_now : IsTraceWorld c (made_by w l s)
    traced_now = (trace_lasts c opening calls trace).steps w k l s framed kept.traced legal

    placed : (P : Place → Type 0) → OnNext P (next c l.place s) → ((p : Place) → is_idle p ≡ true → P p) → P moved.place
    placed P on have = moved_has P l (idle_begins P l.setup have) (has_call c k l (framed.own k l legal.step.here) (not_over l.setup w.map l.place s legal.step.gives)) (next l.setup l.place s) (subst (λ d. OnNext P (next d l.place s)) (sym setup) on)

    goes : (q : Place) → next c l.place s ≡ Go q → moved.place ≡ q
    goes q e = ap (λ n. (moved_to l n).place) (ap (λ d. next d l.place s) setup ∙ e)

    wait_step : IsWaitedWorld c first (made_by w l s)
    wait_step = record {
      traced = traced_now;
      waits = subst (IsWaitWorld c first) (sym same)
          (wait_section c first w kept.traced.area kept.waits k l s legal.step.here (subst (λ d. Meets d (ask d l.place) s) setup legal.meets) (subst (λ d. IsLegalAs d w.map k s) setup legal.legal) moved goes placed
          (subst IsAreaWorld same traced_now.area));
    }

  -- More callers begin without any of this.

  idle_starts : (answers : List Answered) (number : ℕ) (more : List (List Call)) (j : ℕ) (l : Local) → slice_get (callers_from c answers number more) j ≡ Some l → is_idle l.place ≡ true
  idle_starts answers number [] j l h = cc
  idle_starts answers number (own ∷ more) zero l h = let e : started c answers number own ≡ l = cc in
      subst (λ (x : Local). is_idle x.place ≡ true) e (begins_with (λ p. is_idle p ≡ true) c (idle_begins (λ p. is_idle p ≡ true) c (λ p idle. idle)) answers [] (slice_get own 0))
  idle_starts answers number (own ∷ more) (suc j) l h = idle_starts answers (suc number) more j l h

  module _ (w : World) (kept : IsWaitWorld c first w) where
    abbrev joined : World
    joined = with_callers c calls w

    by_local : (P : ℕ → Place → Type 0) → ((k : ℕ) (l : Local) → slice_get w.locals k ≡ Some l → P k l.place) → ((k : ℕ) (p : Place) → is_idle p ≡ true → P k p) → (k : ℕ) (l : Local) → slice_get joined.locals k ≡ Some l → P k l.place
    by_local P old new k l at = elim (append_cases w.locals (callers_from c (opening_answers w.locals) 1 calls) k l at) [ inl e ↦ old k l e | inr e ↦ new k l.place (idle_starts (opening_answers w.locals) 1 calls e.0 l e.2) ]

    follows_more : (i page : ℕ) → Follows w i page → Follows joined i page
    follows_more i page (Waiting on) = Waiting on
    follows_more i page (Taken k l at is) = Taken k l (append_first w.locals (callers_from c (opening_answers w.locals) 1 calls) k l at) is

    waiting_joins : (page : ℕ) → IsWaiting c first w page → IsWaiting c first joined page
    waiting_joins page is = record { wait = is.wait; waits = is.waits; since = is.since }

    wait_joins : IsWaitWorld c first joined
    wait_joins = record {
      story = kept.story;
      storied = by_local (IsStoried c first w.events) kept.storied (λ k p idle. idle_storied c first w.events k p idle);
      followed = λ i page waits since. follows_more i page (kept.followed i page waits since);
      waited = λ page on. waiting_joins page (kept.waited page on);
      flushed = by_local (λ k p. (page : ℕ) → covers (flushed p) page ≡ true → IsWaiting c first joined page) (λ k l at page on. waiting_joins page (kept.flushed k l at page on))
          (λ k p idle page on. (let none = idle_flushed page p idle in cc));
      waits = kept.waits;
      freed = kept.freed;
    }

  pub wait_lasts : IsLegallyLasting c calls (IsWaitedWorld c first)
  wait_lasts = record {
    steps = wait_step;
    joins = λ w framed one kept over. record { traced = (trace_lasts c opening calls trace).joins w framed one kept.traced over; waits = wait_joins w kept.waits };
  }

-- The first world.

module _ (c : Setup) (opening : List Call) (calls : List (List Call)) (trace : IsTrace c opening calls) where
  abbrev at_start : PlainMap
  at_start = at_first c (placing_calls (opening ∷ calls))

  first_idle : (P : ℕ → Place → Type 0) → ((k : ℕ) (p : Place) → is_idle p ≡ true → P k p) → (k : ℕ) (l : Local) → slice_get (opening_world c opening calls).locals k ≡ Some l → P k l.place
  first_idle P have zero l h = let e : started c [] 0 opening ≡ l = cc in subst (λ (x : Local). P 0 x.place) e (begins_with (P 0) c (idle_begins (P 0) c (have 0)) [] [] (slice_get opening 0))
  first_idle P have (suc k) l h = cc

  none_freed : (page k : ℕ) → IsFreedAt c at_start [] page k → ⊥
  none_freed page k at = at.0 (subst (λ x. IsMarked x Free page) (map_at-end c at_start [] (suc k) (omega arith) ∙ sym (map_at-end c at_start [] k (omega arith))) at.1)

  pub wait_first : IsWaitedWorld c at_start (opening_world c opening calls)
  wait_first = record {
    traced = trace_first c opening calls trace;
    waits = record {
      story = refl;
      storied = first_idle (IsStoried c at_start []) (λ k p idle. idle_storied c at_start [] k p idle);
      followed = λ i page waits since. (let at = waits.waits in cc);
      waited = λ page on. cc;
      flushed = first_idle (λ k p. (page : ℕ) → covers (flushed p) page ≡ true → IsWaiting c at_start (opening_world c opening calls) page) (λ k p idle page on. (let none = idle_flushed page p idle in cc));
      waits = λ page i k less waits since at. absurd (none_freed page k at);
      freed = λ page k at. absurd (none_freed page k at);
    };
  }

  wait_reached : (w : World) → IsReached c opening calls w → IsWaitWorld c at_start w
  wait_reached w reached = (legally_lasts c calls (IsWaitedWorld c at_start) (wait_lasts c opening calls trace at_start) opening wait_first w reached).1.waits

pub pages_wait : PagesWaitBeforeReuse
pages_wait c opening calls w trace reached =
    let is = wait_reached c opening calls trace w reached in record {
      waits = λ page i k caller waiting spans less at on since freed. is.waits page i k less (record { caller = caller; waiting = waiting; spans = spans; waits = at; waited = on }) since freed;
      else_dropped = λ page k freed. elim (is.freed page k freed) [ inl has ↦ inl (has.0, has.1.returned) | inr has ↦ inr has ];
    }

pub freed_pages_waited : FreedPagesHaveWaited
freed_pages_waited c opening calls w trace reached = (wait_reached c opening calls trace w reached).freed
