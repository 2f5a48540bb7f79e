-- Every reached world keeps apart: the first one does, each legal event is a step, and the callers begin without pages.
use Rattle.std.proofs.Common.{◌≡◌, ℕ, zero, suc, ◌+◌, inl, inr, Bool, List, [], ◌∷◌, ◌++◌, length, slice_get, Option, Some, refl, ap, sym, subst, arith}
use Rattle.std.proofs.lemmas.List.{length-replicate, length-set}
use Rattle.std.proofs.lemmas.List.Sums.{sum_by-cons, sum_by-append}
use Rattle.std.proofs.lemmas.Option.{same_Some}
use Rattle.vm_model.specs.declared.calls.Call.{Call}
use Rattle.vm_model.specs.Setup.{Setup}
use Rattle.vm_model.specs.PlainMap.{PlainMap, at_first}
use Rattle.vm_model.specs.Events.{Event}
use Rattle.vm_model.specs.Calls.{Answered, begin}
use Rattle.vm_model.specs.History.{World, Local, started, step_of, placing_calls, opening_world, opening_answers, callers_from, with_callers}
use Rattle.vm_model.specs.LegalHistory.{IsNext, IsNextOf, after_event, after_event_of, world_after, IsRun, callers_world}
use Rattle.vm_model.specs.Rules.{IsSetup, IsTrace, AreRuled}
use Rattle.vm_model.proofs.OneNext.{at_most_one}
use Rattle.map_parts.specs.Owners.{pool_of, of_place, of_locals, HaveOneOwner}
use Rattle.map_parts.specs.KeptByEvents.{AreSoundAnswers, IsSoundCall, IsSoundLocal, IsWhole, KeepsApart, ReachedWorldsKeepApart}
use Rattle.map_parts.proofs.Beginnings.{IsBeginning, begins}
use Rattle.map_parts.proofs.StepKeeps.{steps_keep_apart}
use Rattle.map_parts.proofs.Tests.{one_at_most}
use Rattle.map_parts.proofs.Filters.{append_at}

sound_calls : (c : Setup) (opening before calls : List Call) → AreRuled c opening before calls → (i : ℕ) (call : Call) → slice_get calls i ≡ Some call → IsSoundCall c call
sound_calls c opening before [] ruled i call at = absurd cc
sound_calls c opening before (first ∷ calls) ruled zero call at = grind arith
sound_calls c opening before (first ∷ calls) ruled (suc i) call at = sound_calls c opening (before ++ first ∷ []) calls ruled.1 i call at

-- a caller at its start
pub record IsStarted (c : Setup) (m : PlainMap) (k : ℕ) (l : Local) : Type 0 where
  pub sound : IsSoundLocal c m k l
  pub none : (counts : ℕ → Bool) (page : ℕ) → of_place c l.place counts page ≡ 0

starts : (c : Setup) (m : PlainMap) (opening : List Answered) (k : ℕ) (calls : List Call) → IsSetup c → AreSoundAnswers c m opening
    → ((i : ℕ) (call : Call) → slice_get calls i ≡ Some call → IsSoundCall c call) → IsStarted c m k (started c opening k calls)
starts c m opening k calls is answers sound =
    let begun : IsBeginning c m k (begin c opening [] (slice_get calls 0)) = begins c m k is opening [] calls 0 answers (λ i answer at. absurd cc) sound (slice_get calls 0) refl in
    record {
      sound = record {
        setup = refl;
        caller = refl;
        calls = sound;
        opening = answers;
        answers = λ i answer at. absurd cc;
        place = begun.sound;
        at_hand = λ none. ap (begin c opening []) none;
      };
      none = begun.none;
    }

-- The first world.

first_whole : (c : Setup) (room : ℕ) → IsWhole c (at_first c room)
first_whole c room = grind (arith, length-replicate)

first_owners : (c : Setup) (room : ℕ) (l : Local) → ((counts : ℕ → Bool) (page : ℕ) → of_place c l.place counts page ≡ 0) → HaveOneOwner c (pool_of (at_first c room)) (of_locals c (l ∷ []))
first_owners c room l none = grind (arith, one_at_most)

first_locals : (c : Setup) (m : PlainMap) (l : Local) → IsSoundLocal c m 0 l → (j : ℕ) (x : Local) → slice_get (l ∷ []) j ≡ Some x → IsSoundLocal c m j x
first_locals c m l sound j x at = grind arith

pub opening_keeps : (c : Setup) (opening : List Call) (calls : List (List Call)) → IsTrace c opening calls → KeepsApart c (opening_world c opening calls)
opening_keeps c opening calls trace =
    let room : ℕ = placing_calls (opening ∷ calls) in
    let start : IsStarted c (at_first c room) 0 (started c [] 0 opening) = starts c (at_first c room) [] 0 opening trace.setup (λ i answer at. absurd cc) (sound_calls c [] [] opening trace.opening_ruled) in
    record {
      whole = first_whole c room;
      owners = first_owners c room (started c [] 0 opening) start.none;
      locals = first_locals c (at_first c room) (started c [] 0 opening) start.sound;
    }

-- Legal events are steps.

event_is_step : (w : World) (e : Event) (o : Option Local) → IsNextOf w e o → after_event_of w e o ≡ step_of w o
event_is_step w e o h = grind (arith, at_most_one)

event_keeps : (c : Setup) (w : World) (e : Event) → IsSetup c → KeepsApart c w → IsNext w e → KeepsApart c (after_event w e)
event_keeps c w e is kept h = subst (KeepsApart c) (sym (event_is_step w e (slice_get w.locals e.caller) h)) (steps_keep_apart c w e.caller is kept)

pub run_keeps : (c : Setup) (w : World) (events : List Event) → IsSetup c → KeepsApart c w → IsRun w events → KeepsApart c (world_after w events) × (length (world_after w events).locals ≡ length w.locals)
run_keeps c w [] is kept run = (kept, refl)
run_keeps c w (e ∷ events) is kept run = grind (arith, run_keeps c (after_event w e) events is (event_keeps c w e is kept run.0) run.1, steps_keep_apart, length-set, at_most_one)

-- The callers after the opening.

from_callers : (c : Setup) (opening : List Answered) (k : ℕ) (lists : List (List Call)) (i : ℕ) (l : Local) → slice_get (callers_from c opening k lists) i ≡ Some l
    → (own : List Call) × (slice_get lists i ≡ Some own) × (l ≡ started c opening (k + i) own)
from_callers c opening k [] i l at = absurd cc
from_callers c opening k (own ∷ lists) zero l at = grind (arith, same_Some)
from_callers c opening k (own ∷ lists) (suc i) l at = grind (arith, from_callers c opening (suc k) lists i l at)

none_yet : (c : Setup) (counts : ℕ → Bool) (page : ℕ) (locals : List Local) → ((i : ℕ) (l : Local) → slice_get locals i ≡ Some l → of_place c l.place counts page ≡ 0) → of_locals c locals counts page ≡ 0
none_yet c counts page [] h = refl
none_yet c counts page (l ∷ locals) h =
    omega (arith, sum_by-cons (λ (l : Local). of_place c l.place counts page) l locals, h 0 l refl, none_yet c counts page locals (λ i x at. h (suc i) x at))

opening_sound : (c : Setup) (m : PlainMap) (locals : List Local) → ((k : ℕ) (l : Local) → slice_get locals k ≡ Some l → IsSoundLocal c m k l) → AreSoundAnswers c m (opening_answers locals)
opening_sound c m [] h = λ i answer at. absurd cc
opening_sound c m (l ∷ locals) h = (h 0 l refl).answers

module _ (c : Setup) (opening : List Call) (calls : List (List Call)) (w : World) (trace : IsTrace c opening calls) (kept : KeepsApart c w) (one : length w.locals ≡ 1) where
  caller_started : (i : ℕ) (l : Local) → slice_get (callers_from c (opening_answers w.locals) 1 calls) i ≡ Some l → IsStarted c w.map (1 + i) l
  caller_started i l at =
      let from = from_callers c (opening_answers w.locals) 1 calls i l at in
      subst (IsStarted c w.map (1 + i)) (sym from.2)
      (starts c w.map (opening_answers w.locals) (1 + i) from.0 trace.setup (opening_sound c w.map w.locals kept.locals) (sound_calls c opening [] from.0 (trace.callers_ruled i from.0 from.1)))

  all_owners : (counts : ℕ → Bool) (page : ℕ) → of_locals c w.locals counts page ≡ of_locals c (w.locals ++ callers_from c (opening_answers w.locals) 1 calls) counts page
  all_owners counts page =
      omega (
        arith,
        sum_by-append (λ (l : Local). of_place c l.place counts page) w.locals (callers_from c (opening_answers w.locals) 1 calls),
        none_yet c counts page (callers_from c (opening_answers w.locals) 1 calls) (λ i l at. (caller_started i l at).none counts page),
      )

  all_sound : (j : ℕ) (l : Local) → slice_get (w.locals ++ callers_from c (opening_answers w.locals) 1 calls) j ≡ Some l → IsSoundLocal c w.map j l
  all_sound j l at = elim (append_at w.locals (callers_from c (opening_answers w.locals) 1 calls) j l at) [
    | inl here ↦ kept.locals j l here
    | inr v ↦ let number : 1 + v.0 ≡ j = omega arith in subst (λ n. IsSoundLocal c w.map n l) number (caller_started v.0 l v.2).sound
  ]

  pub callers_keep : KeepsApart c (with_callers c calls w)
  callers_keep = record { whole = kept.whole; owners = subst (HaveOneOwner c (pool_of w.map)) (λ i counts page. all_owners counts page i) kept.owners; locals = all_sound }

pub reached_worlds_keep_apart : ReachedWorldsKeepApart
reached_worlds_keep_apart c opening calls w trace (inl r) = subst (KeepsApart c) (sym r.2) (run_keeps c (opening_world c opening calls) r.0 trace.setup (opening_keeps c opening calls trace) r.1).0
reached_worlds_keep_apart c opening calls w trace (inr r) =
    let first = run_keeps c (opening_world c opening calls) r.0 trace.setup (opening_keeps c opening calls trace) r.2.0 in
    let callers = callers_keep c opening calls (world_after (opening_world c opening calls) r.0) trace first.0 first.1 in
    subst (KeepsApart c) (sym r.3) (run_keeps c (callers_world c opening calls r.0) r.1 trace.setup callers r.2.2).0
