-- A caller has made as many events as stand in the history under its number.
use Rattle.std.proofs.Common.{◌≡◌, ◌≢◌, ℕ, zero, suc, ◌+◌, ◌<◌, ◌≤◌, ◌==◌, Bool, true, false, inl, inr, List, [], ◌∷◌, ◌++◌, length, slice_get, Option, Some, None, refl, ap, sym, ◌∙◌, arith, length-append, length-set}
use Rattle.vm_model.specs.Tables.{noted, numbers_of}
use Rattle.std.proofs.lemmas.Bool.Decides.{nat_tests}
use Rattle.std.proofs.lemmas.Option.{slice_get_within, slice_get_cases}
use Rattle.vm_model.specs.Space.{one_if}
use Rattle.vm_model.specs.declared.calls.Call.{Call}
use Rattle.vm_model.specs.Setup.{Setup}
use Rattle.vm_model.specs.Events.{Section, Event}
use Rattle.vm_model.specs.Next.{Next, Go, Answer, next}
use Rattle.vm_model.specs.Calls.{Answered}
use Rattle.vm_model.specs.History.{Local, World, started, answered_of, moved_to, made_by, opening_world, opening_answers, callers_from}
use Rattle.vm_model.specs.LegalHistory.{IsReached}
use Rattle.map_laws.proofs.KeptThroughSteps.{set_cases, append_cases, IsFramed, IsStep, IsLasting, lasts, not_over, has_call}

-- how many of the events are the caller's
abbrev pub events_of : ℕ → List Event → ℕ
events_of k [] = 0
events_of k (e ∷ events) = one_if (e.caller == k) + events_of k events

few_by : (b : Bool) → one_if b ≤ 1
few_by true = omega arith
few_by false = omega arith

pub events_of-le : (k : ℕ) (events : List Event) → events_of k events ≤ length events
events_of-le k [] = omega arith
events_of-le k (e ∷ events) = omega (arith, few_by (e.caller == k), events_of-le k events)

length-noted : (b : Bool) (p : ℕ) (numbers : List ℕ) → length (noted b p numbers) ≡ one_if b + length numbers
length-noted true p numbers = omega arith
length-noted false p numbers = omega arith

pub length-numbers_of : (k p : ℕ) (events : List Event) → length (numbers_of k p events) ≡ events_of k events
length-numbers_of k p [] = refl
length-numbers_of k p (e ∷ events) = length-noted (e.caller == k) p (numbers_of k (suc p) events) ∙ ap (λ n. one_if (e.caller == k) + n) (length-numbers_of k (suc p) events)

pub record AreCounted (w : World) : Type 0 where
  pub own : (k : ℕ) (l : Local) → slice_get w.locals k ≡ Some l → l.events ≡ events_of k w.events
  pub others : (k : ℕ) → length w.locals ≤ k → events_of k w.events ≡ 0

one_more : (k : ℕ) (events : List Event) (e : Event) → events_of k (events ++ e ∷ []) ≡ events_of k events + one_if (e.caller == k)
one_more k [] e = omega arith
one_more k (x ∷ events) e = omega (arith, one_more k events e)

is_same : (a : ℕ) → one_if (a == a) ≡ 1
is_same a = ap one_if (let e : (a == a) ≡ true = grind (arith, nat_tests) in e)

is_other : (a b : ℕ) → a ≢ b → one_if (a == b) ≡ 0
is_other a b n = ap one_if (let e : (a == b) ≡ false = grind (arith, nat_tests) in e)

-- a section is one event of the caller
answered_once : (l : Local) (o : Option Call) (answer : Call → Answered) → slice_get l.calls (length l.answers) ≡ o → length l.answers < length l.calls → (answered_of l o answer).events ≡ suc l.events
answered_once l None answer e more = absurd (let none = slice_get_cases l.calls (length l.answers) in elim none.1 [ inl h ↦ (let no : Some h.0 ≡ None = sym h.2 ∙ e in cc) | inr h ↦ (let low = h.0 in omega arith) ])
answered_once l (Some call) answer e more = refl

moved_once : (l : Local) (n : Next) → length l.answers < length l.calls → (moved_to l n).events ≡ suc l.events
moved_once l (Go place) more = refl
moved_once l (Answer reply made) more = answered_once l (slice_get l.calls (length l.answers)) _ refl more

counted_step : (c : Setup) (w : World) (k : ℕ) (l : Local) (s : Section) → IsFramed c w → AreCounted w → IsStep w k l s → AreCounted (made_by w l s)
counted_step c w k l s framed is step =
    let own = framed.own k l step.here in
    let more = has_call c k l own (not_over l.setup w.map l.place s step.gives) in
    let wide = length-set w.locals l.caller (moved_to l (next l.setup l.place s)) in
    let within = slice_get_within w.locals k l step.here in
    record {
      own = λ j l' h. elim (set_cases w.locals l.caller j _ l' h) [
        | inl e ↦
            ap (λ (x : Local). x.events) e.1 ∙ moved_once l (next l.setup l.place s) more
            ∙ (let had = is.own k l step.here in let same : one_if (l.caller == j) ≡ 1 = ap (λ i. one_if (l.caller == i)) e.0 ∙ is_same l.caller in
            let there : events_of j w.events ≡ events_of k w.events = ap (λ i. events_of i w.events) (e.0 ∙ own.caller) in
            omega (arith, one_more j w.events (record { caller = l.caller; section = s })))
        | inr e ↦ is.own j l' e.1 ∙ (let other : one_if (l.caller == j) ≡ 0 = is_other l.caller j (λ h. e.0 (sym h)) in omega (arith, one_more j w.events (record { caller = l.caller; section = s })))
      ];
      others = λ j past.
          let other : one_if (l.caller == j) ≡ 0 = is_other l.caller j (λ h. absurd (let k = own.caller in omega arith)) in
          let none = is.others j (omega arith) in
          omega (arith, one_more j w.events (record { caller = l.caller; section = s }));
    }

counted_callers : (c : Setup) (answers : List Answered) (first : ℕ) (calls : List (List Call)) (j : ℕ) (l : Local) → slice_get (callers_from c answers first calls) j ≡ Some l → l.events ≡ 0
counted_callers c answers first [] j l h = cc
counted_callers c answers first (own ∷ calls) zero l h = let e : started c answers first own ≡ l = cc in ap (λ (x : Local). x.events) (sym e)
counted_callers c answers first (own ∷ calls) (suc j) l h = counted_callers c answers (suc first) calls j l h

counted_lasts : (c : Setup) (calls : List (List Call)) → IsLasting c calls AreCounted
counted_lasts c calls = record {
  steps = counted_step c;
  joins = λ w framed one is over. record {
    own = λ k l h. elim (append_cases w.locals (callers_from c (opening_answers w.locals) 1 calls) k l h) [
      | inl e ↦ is.own k l e
      | inr e ↦ counted_callers c (opening_answers w.locals) 1 calls e.0 l e.2 ∙ sym (is.others k (let n = e.1 in omega arith))
    ];
    others = λ k past. is.others k (let n = length-append w.locals (callers_from c (opening_answers w.locals) 1 calls) in omega arith);
  };
}

counted_first : (c : Setup) (opening : List Call) (calls : List (List Call)) → AreCounted (opening_world c opening calls)
counted_first c opening calls = record { own = first; others = λ k past. refl }
  where
    first : (k : ℕ) (l : Local) → slice_get (started c [] 0 opening ∷ []) k ≡ Some l → l.events ≡ 0
    first zero l h = let e : started c [] 0 opening ≡ l = cc in ap (λ (x : Local). x.events) (sym e)
    first (suc k) l h = cc

pub reached_counted : (c : Setup) (opening : List Call) (calls : List (List Call)) (w : World) → IsReached c opening calls w → AreCounted w
reached_counted c opening calls w reached = (lasts c opening calls AreCounted (counted_first c opening calls) (counted_lasts c calls) w reached).1
