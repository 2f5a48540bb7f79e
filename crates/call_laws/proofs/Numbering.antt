-- The number that a report tells with a reply is that of the call's last own event.
use Rattle.std.proofs.Common.{◌≡◌, ℕ, zero, suc, ◌-◌, ◌<◌, ◌≤◌, List, [], ◌∷◌, length, map, take, drop, slice_get, slice_index, Some, refl, ap, ◌∙◌, arith}
use Rattle.std.proofs.lemmas.Option.{same_Some, get_or_from_slice_get}
use Rattle.vm_model.specs.Setup.{last_of}
use Rattle.vm_model.specs.Events.{Event}
use Rattle.vm_model.specs.Tables.{numbers_of}
use Rattle.vm_model.specs.History.{World, Local}
use Rattle.vm_model.specs.Calls.{Answered}
use Rattle.map_laws.proofs.KeptThroughSteps.{there}
use Rattle.map_laws.proofs.TurnProofs.{turns_proper}
use Rattle.call_laws.specs.Histories.{OwnSection, own_from, own_sections, events_at}
use Rattle.call_laws.specs.ReplyNumbers.{IsNumbered, ReportsTellLastEvents}
use Rattle.call_laws.proofs.CallWorlds.{histories_have_shapes}

numbers_are : (k before : ℕ) (events : List Event) → numbers_of k (suc before) events ≡ map (λ (o : OwnSection). suc o.before) (own_from k before events)
numbers_are k before [] = refl
numbers_are k before (e ∷ events) = grind (arith, numbers_are k (suc before) events)

map_at : (own : List OwnSection) (i : ℕ) (o : OwnSection) → slice_get own i ≡ Some o → slice_get (map (λ (x : OwnSection). suc x.before) own) i ≡ Some (suc o.before)
map_at [] i o h = cc
map_at (x ∷ own) zero o h = ap (λ (y : OwnSection). Some (suc y.before)) (same_Some _ _ h)
map_at (x ∷ own) (suc i) o h = map_at own i o h

last_take : {X : Type 0} (xs : List X) (n : ℕ) → suc n ≤ length xs → last_of (take (suc n) xs) ≡ slice_get xs n
last_take (x ∷ y ∷ xs) (suc n) h = last_take (y ∷ xs) n (omega arith)
last_take _ _ h = grind arith

last_drop : {X : Type 0} (ys : List X) (n : ℕ) → n < length ys → last_of (drop n ys) ≡ last_of ys
last_drop (y ∷ z ∷ ys) (suc n) h = last_drop (z ∷ ys) n (omega arith)
last_drop _ _ h = grind arith

length_take : {X : Type 0} (xs : List X) (n : ℕ) → n ≤ length xs → length (take n xs) ≡ n
length_take xs zero h = refl
length_take [] (suc n) h = absurd (omega arith)
length_take (x ∷ xs) (suc n) h = ap suc (length_take xs n (omega arith))

last_between : {X : Type 0} (xs : List X) (first n : ℕ) → first < suc n → suc n ≤ length xs → last_of (drop first (take (suc n) xs)) ≡ slice_get xs n
last_between xs first n low high = last_drop (take (suc n) xs) first (omega (arith, length_take xs (suc n) high)) ∙ last_take xs n high

module _ (w : World) (k : ℕ) (l : Local) (caller : l.caller ≡ k) (before : List Answered) (answer : Answered) where
  numbered : (n : ℕ) → answer.own_event ≡ suc n → events_at before < answer.own_event → answer.own_event ≤ length (own_sections k w.events) → IsNumbered w k l before answer
  numbered n e later by_then =
      let at = there (own_sections k w.events) n (omega arith) in record {
        last = at.0;
        is_last = ap (λ m. last_of (drop (events_at before) (take m (own_sections k w.events)))) e ∙ last_between (own_sections k w.events) (events_at before) n (omega arith) (omega arith) ∙ at.1;
        number = ap (λ j. slice_index (numbers_of j 1 w.events) (answer.own_event - 1)) caller
            ∙ ap (λ ns. slice_index ns (answer.own_event - 1)) (numbers_are k 0 w.events)
            ∙ ap (slice_index (map (λ (o : OwnSection). suc o.before) (own_sections k w.events))) (let m : answer.own_event - 1 ≡ n = omega arith in m)
            ∙ get_or_from_slice_get (map (λ (o : OwnSection). suc o.before) (own_sections k w.events)) n (suc at.0.before) 0 (map_at (own_sections k w.events) n at.0 at.1);
      }

  numbered_by : (n : ℕ) → answer.own_event ≡ n → events_at before < answer.own_event → answer.own_event ≤ length (own_sections k w.events) → IsNumbered w k l before answer
  numbered_by zero e later by_then = absurd (omega arith)
  numbered_by (suc n) e later by_then = numbered n e later by_then

pub reports_tell : ReportsTellLastEvents
reports_tell c opening calls w trace reached k i l answer here at =
    let is = (histories_have_shapes c opening calls w trace reached k l here).answers i answer at in
    numbered_by w k l ((turns_proper c opening calls w reached).0.own k l here).caller (take i l.answers) answer answer.own_event refl is.later is.by_then
