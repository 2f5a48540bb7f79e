-- A caller's own sections, where one more event comes behind.
use Rattle.std.proofs.Common.{◌≡◌, ◌≢◌, ℕ, suc, ◌+◌, ◌≤◌, List, [], ◌∷◌, ◌++◌, length, drop, Some, refl, ap, ◌∙◌, arith, append-nil, length-append}
use Rattle.std.proofs.lemmas.Bool.Decides.{nat_tests}
use Rattle.std.proofs.lemmas.List.{take-append-le, drop-append-le, take_all, drop_all, map-append}
use Rattle.vm_model.specs.Setup.{last_of}
use Rattle.vm_model.specs.Events.{Section, Event}
use Rattle.vm_model.specs.Calls.{Answered}
use Rattle.call_laws.specs.Histories.{OwnSection, own_from, own_sections, sections, ended_at, events_at, sections_for, sections_since}

own_append : (k before : ℕ) (events more : List Event) → own_from k before (events ++ more) ≡ own_from k before events ++ own_from k (before + length events) more
own_append k before [] more = ap (λ n. own_from k n more) (let e : before ≡ before + 0 = omega arith in e)
own_append k before (e ∷ events) more = grind (arith, own_append k (suc before) events more, nat_tests)

-- one more event is the caller's own, or another's
module _ (k caller : ℕ) (events : List Event) (s : Section) where
  abbrev pub last : OwnSection
  last = record { before = length events; section = s }

  pub own_more : caller ≡ k → own_sections k (events ++ (record { caller = caller; section = s }) ∷ []) ≡ own_sections k events ++ last ∷ []
  own_more e = grind (arith, own_append, nat_tests)

  pub own_same : caller ≢ k → own_sections k (events ++ (record { caller = caller; section = s }) ∷ []) ≡ own_sections k events
  own_same n = grind (arith, own_append, append-nil, nat_tests)

last_of-append : {X : Type 0} (xs : List X) (x : X) → last_of (xs ++ x ∷ []) ≡ Some x
last_of-append (y ∷ z ∷ xs) x = last_of-append (z ∷ xs) x
last_of-append _ x = refl

-- one more answer
pub events_at-more : (answers : List Answered) (answer : Answered) → events_at (answers ++ answer ∷ []) ≡ answer.own_event
events_at-more answers answer = ap ended_at (last_of-append answers answer)

module _ (own : List OwnSection) (o : OwnSection) where
  pub more_own : length (own ++ o ∷ []) ≡ suc (length own)
  more_own = omega (arith, length-append own (o ∷ []))

  -- an answer that was given before
  pub for-more : (before : List Answered) (answer : Answered) → answer.own_event ≤ length own → sections_for (own ++ o ∷ []) before answer ≡ sections_for own before answer
  for-more before answer low = ap (drop (events_at before)) (take-append-le answer.own_event own (o ∷ []) low)

  -- the call at hand
  pub since-more : (answers : List Answered) → events_at answers ≤ length own → sections (sections_since (own ++ o ∷ []) answers) ≡ sections (sections_since own answers) ++ o.section ∷ []
  since-more answers low = ap sections (drop-append-le (events_at answers) own (o ∷ []) low) ∙ map-append (λ (x : OwnSection). x.section) (drop (events_at answers) own) (o ∷ [])

  -- an answer with the last section
  pub for-last : (answers : List Answered) (answer : Answered) → answer.own_event ≡ suc (length own) → sections_for (own ++ o ∷ []) answers answer ≡ sections_since (own ++ o ∷ []) answers
  for-last answers answer e = ap (drop (events_at answers)) (take_all answer.own_event (own ++ o ∷ []) (omega (arith, more_own)))

  pub since-none : (answers : List Answered) (answer : Answered) → answer.own_event ≡ suc (length own) → sections_since (own ++ o ∷ []) (answers ++ answer ∷ []) ≡ []
  since-none answers answer e = drop_all (events_at (answers ++ answer ∷ [])) (own ++ o ∷ []) (omega (arith, more_own, events_at-more answers answer))
