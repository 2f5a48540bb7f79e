-- The code's callers as those of the definitions.
use Rattle.std.specs.Prelude.{◌≡◌, ℕ, zero, suc, ◌+◌, ◌-◌, ◌<◌, ◌≤◌, true, All, List, [], ◌∷◌, length, map, slice_get, Option, Some, vec_capacity}
use Rattle.std.specs.Arc.{arc_value}
use Rattle.vm_model.specs.declared.calls.Call.{Call}
use Rattle.unit_layout.specs.Config.{setup_of}
use Rattle.vm_model.specs.Setup.{Setup, cpus, groups_at}
use Rattle.vm_model.specs.Rules.{IsSetup}
use Rattle.vm_model.specs.Calls as model
use Rattle.vm_model.specs.Places as places
use Rattle.vm_model.specs.Places.{Waiting, SpareAgain}
use Rattle.vm_model.specs.History as history
use Rattle.vm_model.specs.declared.calls.Call.TheVariants.{MapRam, FreePercpu, Add, Sum}
use Rattle.vm_model.specs.declared.calls.Reply.{Reply}
use Rattle.vm_model.specs.declared.calls.Reply.TheVariants.{Done}
use Rattle.history_book.specs.declared.noted.Noted.{Noted}
use Rattle.callers.specs.declared.answers.Outcome.{Outcome}
use Rattle.callers.specs.declared.answers.Answered.{Answered}
use Rattle.callers.specs.declared.place.Place.{Place}
use Rattle.callers.specs.declared.place.Place.TheVariants.{Over, WaitingForGroups}
use Rattle.callers.specs.declared.local.Local.TheInside.{Inside}
use Rattle.callers.specs.CarriedPlaces.{Carried, place_of, carried_at, groups_carried, filled_by, made_of, IsSized, IsWhole}

-- an answer of the opening, as all callers share it
abbrev pub answer_of : Answered → model.Answered
answer_of a = record { call = a.call; reply = a.reply; made = made_of a.outcome.made; own_event = a.own_event }

abbrev pub answer_with : Call → Noted → Outcome → model.Answered
answer_with call n o = record { call = call; reply = n.reply; made = made_of o.made; own_event = n.own_event }

-- the calls that were answered, with what was noted of each and what each made
abbrev pub answers_with : List Call → List Noted → List Outcome → List model.Answered
answers_with (call ∷ calls) (n ∷ rows) (o ∷ outcomes) = answer_with call n o ∷ answers_with calls rows outcomes
answers_with _ _ _ = []

-- the lists that it carries
abbrev pub carried_of : Inside → Carried
carried_of a = record { gone = a.gone.items; waited = a.waited; ranges = a.ranges.items; groups = groups_carried (setup_of (arc_value a.config)) a.place }

abbrev pub local_of : Inside → history.Local
local_of a = record {
  setup = setup_of (arc_value a.config);
  caller = a.caller;
  opening = map answer_of (arc_value a.opening);
  calls = a.calls;
  answers = answers_with a.calls a.book.rows a.outcomes.items;
  events = a.events;
  place = place_of a.place (carried_of a);
}

-- the outcomes tell which calls were freed, counted from 1
abbrev pub TellFreed : List Outcome → List model.Answered → Type 0
TellFreed outcomes answers = (i : ℕ) (o : Outcome) → slice_get outcomes i ≡ Some o → o.freed ≡ model.was_freed answers (suc i)

-- what each of these answered calls made, and which of them were freed
pub record MadeBy (outcomes : List Outcome) (answers : List model.Answered) : Type 0 where
  pub made : map (λ (o : Outcome). made_of o.made) outcomes ≡ map (λ (a : model.Answered). a.made) answers
  pub freed : TellFreed outcomes answers

-- with the outcome at a place freed
abbrev pub with_freed : ℕ → List Outcome → List Outcome
with_freed n [] = []
with_freed zero (o ∷ outcomes) = record o { freed = true } ∷ outcomes
with_freed (suc n) (o ∷ outcomes) = o ∷ with_freed n outcomes

-- after a call with this reply: a free that is done frees what its target made
abbrev pub after_reply : Option Call → Reply → List Outcome → List Outcome
after_reply (Some (FreePercpu t)) Done outcomes = with_freed (t.call - 1) outcomes
after_reply _ _ outcomes = outcomes

-- the opening's answers tell which of its calls were freed
abbrev pub OpeningTellsFreed : List Answered → Type 0
OpeningTellsFreed opening = TellFreed (map (λ (a : Answered). a.outcome) opening) (map answer_of opening)

-- calls as each trace has them: a processor can be, a target has a number, and a call frees one before it
abbrev pub IsSoundCall : (index : ℕ) → Call → Type 0
IsSoundCall index (MapRam cpu pages) = cpu < 64
IsSoundCall index (FreePercpu t) = (1 ≤ t.call) × (t.call ≤ index)
IsSoundCall index (Add t cpu word amount) = (1 ≤ t.call) × (cpu < 64)
IsSoundCall index (Sum t word) = 1 ≤ t.call
IsSoundCall index _ = Unit {0}

abbrev pub AreSound : List Call → Type 0
AreSound calls = (i : ℕ) (call : Call) → slice_get calls i ≡ Some call → IsSoundCall i call

-- who isn't over has a call at hand
abbrev pub HasCall : Place → ℕ → List Call → Type 0
HasCall Over answered calls = Unit {0}
HasCall _ answered calls = answered < length calls

-- a caller's parts fit together, and there is room for the answers to come and for a range of each processor
pub record IsOrderly (a : Inside) : Type 0 where
  pub setup : IsSetup (setup_of (arc_value a.config))
  pub sound : AreSound a.calls
  pub few : length a.calls ≤ 100000
  pub made : length a.outcomes.items ≡ length a.book.rows
  pub room : length a.book.rows + a.book.spare ≡ length a.calls
  pub made_room : length a.calls ≤ vec_capacity a.outcomes
  pub freed : TellFreed a.outcomes.items (answers_with a.calls a.book.rows a.outcomes.items)
  pub opening_freed : OpeningTellsFreed (arc_value a.opening)
  pub own : a.book.caller ≡ a.caller
  pub noted : All (λ (n : Noted). n.own_event ≤ a.events) a.book.rows
  pub sized : IsSized a.place
  pub whole : IsWhole (setup_of (arc_value a.config)) (place_of a.place (carried_of a))
  pub filled : filled_by a.place ≤ a.events
  pub range_room : cpus (setup_of (arc_value a.config)) ≤ vec_capacity a.ranges
  pub at_hand : HasCall a.place (length a.book.rows) a.calls

-- the spans that wait there are those of the groups at the base of the code's place
abbrev pub WaitsForGroups : Setup → Place → places.Place → Type 0
WaitsForGroups c (WaitingForGroups base) at = at ≡ Waiting (groups_at c base) SpareAgain
WaitsForGroups c _ at = Unit {0}

-- a caller stands at this place of the code, with what it needs there: what it carries is whole, and a call is at hand unless it is over
pub record IsAt (p : Place) (l : history.Local) : Type 0 where
  pub place : l.place ≡ place_of p (carried_at l.place)
  pub groups : WaitsForGroups l.setup p l.place
  pub sized : IsSized p
  pub whole : IsWhole l.setup l.place
  pub filled : filled_by p ≤ l.events
  pub setup : IsSetup l.setup
  pub at_hand : HasCall p (length l.answers) l.calls
