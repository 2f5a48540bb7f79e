-- Histories have the shapes of calls: each answer is that of the next call of its caller, and was made by the caller's own events since the answer before.
use Rattle.std.specs.Prelude.{◌≡◌, ℕ, zero, suc, ◌<◌, ◌≤◌, ◌⊎◌, Bool, true, false, ◌==◌, List, [], ◌∷◌, ◌++◌, length, map, take, drop, slice_get, Option, Some, None}
use Rattle.vm_model.specs.declared.calls.Call.{Call}
use Rattle.vm_model.specs.declared.calls.Reply.{Reply}
use Rattle.vm_model.specs.declared.calls.Reply.TheVariants as reply
use Rattle.vm_model.specs.declared.areas.Span.{Span}
use Rattle.vm_model.specs.declared.areas.AreaKind.{AreaKind}
use Rattle.vm_model.specs.Space.{address_of}
use Rattle.vm_model.specs.Setup.{Setup, last_of}
use Rattle.vm_model.specs.Blocks.{PartAt, first_page}
use Rattle.vm_model.specs.Events.{Section, Event, Settle, SettlePart, SettleObject, GiveAlloc}
use Rattle.vm_model.specs.Places.{Over, ask, Made, MadeNothing, MadeArea, MadePart, MadeObject}
use Rattle.vm_model.specs.Next.{Next, Go, Answer, next, object_address}
use Rattle.vm_model.specs.Calls.{Answered, begin, begin_call}
use Rattle.vm_model.specs.History.{World, Local, opening_answers}
use Rattle.vm_model.specs.LegalHistory.{Meets, Makes, IsReached}
use Rattle.vm_model.specs.ObjectShapes.{HasShape}
use Rattle.vm_model.specs.Rules.{IsTrace}

-- an own section of a caller, and how many events the history has before it
pub record OwnSection : Type 0 where
  pub before : ℕ
  pub section : Section

abbrev pub own_if : Bool → OwnSection → List OwnSection → List OwnSection
own_if true own more = own ∷ more
own_if false own more = more

abbrev pub own_from : (k before : ℕ) → List Event → List OwnSection
own_from k before [] = []
own_from k before (e ∷ events) = own_if (e.caller == k) (record { before = before; section = e.section }) (own_from k (suc before) events)

-- a caller's own sections in a history, in order
abbrev pub own_sections : (k : ℕ) → List Event → List OwnSection
own_sections k events = own_from k 0 events

abbrev pub sections : List OwnSection → List Section
sections own = map (λ (o : OwnSection). o.section) own

-- how many own events a caller had made when the last of these answers came
abbrev pub ended_at : Option Answered → ℕ
ended_at None = 0
ended_at (Some answer) = answer.own_event

abbrev pub events_at : List Answered → ℕ
events_at answers = ended_at (last_of answers)

-- the own sections of an answer's call: from the event after the answer before it to the answer's own event
abbrev pub sections_for : List OwnSection → (before : List Answered) → Answered → List OwnSection
sections_for own before answer = drop (events_at before) (take answer.own_event own)

-- the own sections of the call at hand, after all answers
abbrev pub sections_since : List OwnSection → List Answered → List OwnSection
sections_since own answers = drop (events_at answers) own

-- the sections lead from there to here
abbrev pub Leads : Setup → Next → List Section → Next → Type 0
Leads c from [] to = from ≡ to
Leads c (Answer reply made) (s ∷ es) to = ⊥
Leads c (Go place) (s ∷ es) to = Meets c (ask c place) s × Leads c (next c place s) es to

-- what a call made is what its own settling event settled, with the serial that the map gave there, and the reply tells where it begins; a call that made nothing is answered without an address
abbrev pub IsNoAddress : Reply → Type 0
IsNoAddress (reply.Address address) = ⊥
IsNoAddress _ = Unit {0}

abbrev pub IsSettled : List Section → Reply → Made → Type 0
IsSettled es answer MadeNothing = IsNoAddress answer
IsSettled es answer (MadeArea start serial) = (before : List Section) × (s : Span) × (k : AreaKind) × (s.start ≡ start) × (answer ≡ reply.Address (address_of start)) × (es ≡ before ++ Settle ((s, k) ∷ []) serial ∷ [])
IsSettled es answer (MadePart cpu page serial) = (before : List Section) × (at : PartAt) × (at.cpu ≡ cpu) × (first_page at ≡ page) × (answer ≡ reply.Address (address_of page)) × (es ≡ before ++ SettlePart at serial ∷ [])
IsSettled es answer (MadeObject at serial) = (before : List Section) × (after : List Section) × ((after ≡ []) ⊎ (after ≡ GiveAlloc ∷ [])) × (answer ≡ object_address at) × (es ≡ before ++ SettleObject at serial ∷ after)

-- an answer behind some others: that of the call with its number, which the caller's own events make from the one after the answer before it to its own event
pub record IsAnswerOf (c : Setup) (opening : List Answered) (calls : List Call) (own : List OwnSection) (i : ℕ) (before : List Answered) (answer : Answered) : Type 0 where
  pub call : slice_get calls i ≡ Some answer.call
  pub later : events_at before < answer.own_event
  pub by_then : answer.own_event ≤ length own
  pub makes : Makes c (Go (begin_call c opening before answer.call)) (sections (sections_for own before answer)) answer.reply answer.made
  pub shape : HasShape c opening before answer.call answer.reply (sections (sections_for own before answer))
  pub settled : IsSettled (sections (sections_for own before answer)) answer.reply answer.made

-- the opening's answers, which each caller behind it was started with
abbrev pub answers_before : List Local → ℕ → List Answered
answers_before locals zero = []
answers_before locals (suc k) = opening_answers locals

-- of one caller
pub record HasShapesOfCalls (c : Setup) (lists : List (List Call)) (w : World) (k : ℕ) (l : Local) : Type 0 where
  pub list : slice_get lists k ≡ Some l.calls
  pub opening : l.opening ≡ answers_before w.locals k
  pub answers : (i : ℕ) (answer : Answered) → slice_get l.answers i ≡ Some answer → IsAnswerOf c l.opening l.calls (own_sections k w.events) i (take i l.answers) answer
  -- the sections since the last answer lead from the beginning of the next call to where the caller stands: they are a beginning of a shape of that call, and none where no call is left
  pub at_hand : Leads c (Go (begin c l.opening l.answers (slice_get l.calls (length l.answers)))) (sections (sections_since (own_sections k w.events) l.answers)) (Go l.place)
  pub unfinished : (call : Call) → slice_get l.calls (length l.answers) ≡ Some call → (rest : List Section) × (answer : Reply) × HasShape c l.opening l.answers call answer (sections (sections_since (own_sections k w.events) l.answers) ++ rest)
  pub none_left : slice_get l.calls (length l.answers) ≡ None → sections (sections_since (own_sections k w.events) l.answers) ≡ []
  pub ended : l.place ≡ Over → length l.answers ≡ length l.calls

-- In every world that a legal history of a trace leads to, each caller's answers are those of the first calls of its list, in order,
-- and its own events are the shapes of these calls one after another, and then a beginning of the call at hand.
abbrev pub HistoriesHaveTheShapesOfCalls : Type 0
HistoriesHaveTheShapesOfCalls = (c : Setup) (opening : List Call) (calls : List (List Call)) (w : World) → IsTrace c opening calls → IsReached c opening calls w
    → (k : ℕ) (l : Local) → slice_get w.locals k ≡ Some l → HasShapesOfCalls c (opening ∷ calls) w k l
