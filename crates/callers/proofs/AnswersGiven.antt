-- A caller's answers, as its book and what its calls made tell them.
use Rattle.std.proofs.Common.{None, Option, take, option_map, map, ◌-◌, false, Vec, Global, add-one, ◌≡◌, ℕ, zero, suc, ◌+◌, ◌<◌, ◌≤◌, All, List, [], ◌∷◌, ◌++◌, length, slice_get, Some, refl, ap, sym, ◌∙◌, subst, arith, length-append}
use Rattle.std.proofs.lemmas.List.{map-append}
use Rattle.std.proofs.lemmas.List.Elements.{All-weaker, All-push}
use Rattle.std.specs.Vec.{vec_capacity}
use Rattle.unit_layout.specs.Config.{setup_of}
use Rattle.vm_model.specs.Setup.{Setup, cpus}
use Rattle.vm_model.specs.Next.{Answer}
use Rattle.std.specs.Arc.{arc_value}
use Rattle.callers.specs.declared.answers.Answered.{Answered as Code}
use Rattle.callers.specs.CallerParts.{answer_of}
use Rattle.unit_layout.specs.declared.config.Config.{Config}
use Rattle.vm_model.specs.History.{started, Local, answered_of, moved_to}
use Rattle.history_book.specs.BookRows.{BookRows}
use Rattle.history_book.specs.BookEntries.{note_of}
use Rattle.vm_model.specs.declared.calls.Call.{Call}
use Rattle.vm_model.specs.declared.calls.Reply.{Reply}
use Rattle.vm_model.specs.declared.areas.Span.{Span}
use Rattle.callers.specs.declared.place.Place.TheVariants as place
use Rattle.vm_model.specs.Places.{Place as Stood}
use Rattle.vm_model.specs.Calls.{Answered, begin, made_in, was_freed}
use Rattle.vm_model.specs.Places as model
use Rattle.vm_model.specs.Places.{MadeNothing, Waiting, SpareAgain}
use Rattle.std.proofs.lemmas.Option.{slice_get-map, slice_get_within}
use Rattle.history_book.specs.declared.noted.Noted.{Noted}
use Rattle.callers.specs.declared.answers.Made.{Made}
use Rattle.callers.specs.declared.answers.Outcome.{Outcome}
use Rattle.callers.specs.declared.place.Place.{Place}
use Rattle.callers.specs.declared.local.Local.TheInside.{Inside}
use Rattle.callers.specs.CarriedPlaces.{Carried, carried_at, groups_carried, filled_by, IsSized, IsWhole, IsEmptyHanded, CarriesNoSpans, place_of, nothing, made_of}
use Rattle.callers.specs.CallerParts.{answer_with, answers_with, carried_of, local_of, HasCall, WaitsForGroups, IsOrderly, IsAt, MadeBy, TellFreed, after_reply, IsSoundCall}
use Rattle.callers.proofs.FreedTold.{length-after_reply, answers_after_reply, unfreed, freed_more}

pub length-answers_with : (calls : List Call) (rows : List Noted) (made : List Outcome) → length made ≡ length rows → length rows ≤ length calls → length (answers_with calls rows made) ≡ length rows
length-answers_with [] [] made h low = refl
length-answers_with [] (n ∷ rows) made h low = absurd (omega arith)
length-answers_with (call ∷ calls) [] made h low = refl
length-answers_with (call ∷ calls) (n ∷ rows) [] h low = absurd (omega arith)
length-answers_with (call ∷ calls) (n ∷ rows) (m ∷ made) h low = ap suc (length-answers_with calls rows made (omega arith) (omega arith))

-- one more call is answered
pub answers_with-more : (calls : List Call) (rows : List Noted) (made : List Outcome) (call : Call) (n : Noted) (m : Outcome) → length made ≡ length rows → slice_get calls (length rows) ≡ Some call
    → answers_with calls (rows ++ n ∷ []) (made ++ m ∷ []) ≡ answers_with calls rows made ++ answer_with call n m ∷ []
answers_with-more [] rows made call n m h at = cc
answers_with-more (own ∷ calls) [] [] call n m h at = let same : own ≡ call = cc in ap (λ x. answer_with x n m ∷ answers_with calls [] []) same ∙ none calls
  where
    none : (calls : List Call) → (answer_with call n m ∷ answers_with calls [] []) ≡ answer_with call n m ∷ []
    none [] = refl
    none (x ∷ calls) = refl
answers_with-more (own ∷ calls) [] (x ∷ made) call n m h at = absurd (omega arith)
answers_with-more (own ∷ calls) (r ∷ rows) [] call n m h at = absurd (omega arith)
answers_with-more (own ∷ calls) (r ∷ rows) (x ∷ made) call n m h at = ap (λ answers. answer_with own r x ∷ answers) (answers_with-more calls rows made call n m (omega arith) at)

pub count_is : (a : Inside) → IsOrderly a → length (local_of a).answers ≡ length a.book.rows
count_is a is = let room = is.room in length-answers_with a.calls a.book.rows a.outcomes.items is.made (omega arith)

-- the lists that are carried beside a place are those that it tells
carried_told : (p : Place) (carried : Carried) → place_of p carried ≡ place_of p (carried_at (place_of p carried))
carried_told (place.PurgeFragmenting cpu extra after) carried = refl
carried_told (place.PurgeUnlinking extra after) carried = refl
carried_told (place.PurgeWaiting extra after) carried = refl
carried_told (place.PurgeFlushing hull after) carried = refl
carried_told (place.PurgeReturning after) carried = refl
carried_told (place.LookingAtDirty cpu) carried = refl
carried_told (place.WaitingForGroups base) carried = refl
carried_told _ carried = refl

-- the groups that wait are those that it carries there
groups_told : (c : Setup) (p : Place) (carried : Carried) → carried.groups ≡ groups_carried c p → WaitsForGroups c p (place_of p carried)
groups_told c (place.WaitingForGroups base) carried same = ap (λ groups. Waiting groups SpareAgain) same
groups_told c _ carried same = tt

pub at_place : (a : Inside) → IsOrderly a → IsAt a.place (local_of a)
at_place a is = record {
  place = carried_told a.place (carried_of a);
  groups = groups_told (setup_of (arc_value a.config)) a.place (carried_of a) refl;
  sized = is.sized;
  whole = is.whole;
  filled = is.filled;
  setup = is.setup;
  at_hand = subst (λ n. HasCall a.place n a.calls) (sym (count_is a is)) is.at_hand;
}

-- what was noted tells what the calls made
pub made_told : (calls : List Call) (rows : List Noted) (made : List Outcome) → length made ≡ length rows → length rows ≤ length calls → map (λ (o : Outcome). made_of o.made) made ≡ map (λ (a : Answered). a.made) (answers_with calls rows made)
made_told [] [] [] h low = refl
made_told [] [] (m ∷ made) h low = absurd (omega arith)
made_told [] (n ∷ rows) made h low = absurd (omega arith)
made_told (call ∷ calls) [] [] h low = refl
made_told (call ∷ calls) [] (m ∷ made) h low = absurd (omega arith)
made_told (call ∷ calls) (n ∷ rows) [] h low = absurd (omega arith)
made_told (call ∷ calls) (n ∷ rows) (m ∷ made) h low = ap (λ more. made_of m.made ∷ more) (made_told calls rows made (omega arith) (omega arith))

-- it is the place before the call with this index, after these answers of the opening and what the caller's own calls made
abbrev pub IsPlacedFor : Config → List Code → List Outcome → List Call → ℕ → Place → Type 0
IsPlacedFor config opening outcomes calls index p = (answers : List Answered) → MadeBy outcomes answers → place_of p nothing ≡ begin (setup_of config) (map answer_of opening) answers (slice_get calls index)

-- an event later the caller stands elsewhere
noted_later : (rows : List Noted) (events : ℕ) → All (λ (n : Noted). n.own_event ≤ events) rows → All (λ (n : Noted). n.own_event ≤ events + 1) rows
noted_later rows events h = All-weaker (λ (n : Noted). n.own_event ≤ events) (λ (n : Noted). n.own_event ≤ events + 1) (λ n low. omega arith) rows h

-- the lists that are carried in place of others
abbrev pub carrying : Setup → Place → Vec ℕ Global → List Span → Vec Span Global → Carried
carrying c p gone waited ranges = record { gone = gone.items; waited = waited; ranges = ranges.items; groups = groups_carried c p }

pub orderly_there : (a : Inside) (p : Place) (gone : Vec ℕ Global) (waited : List Span) (ranges : Vec Span Global) → IsOrderly a → IsSized p → IsWhole (setup_of (arc_value a.config)) (place_of p (carrying (setup_of (arc_value a.config)) p gone waited ranges))
    → filled_by p ≤ a.events + 1 → HasCall p (length a.book.rows) a.calls → cpus (setup_of (arc_value a.config)) ≤ vec_capacity ranges
    → IsOrderly (record a { events = a.events + 1; place = p; gone = gone; waited = waited; ranges = ranges })
orderly_there a p gone waited ranges is sized whole filled at_hand range_room = record {
  setup = is.setup;
  sound = is.sound;
  few = is.few;
  made = is.made;
  room = is.room;
  made_room = is.made_room;
  freed = is.freed;
  opening_freed = is.opening_freed;
  own = is.own;
  noted = noted_later a.book.rows a.events is.noted;
  sized = sized;
  whole = whole;
  filled = filled;
  range_room = range_room;
  at_hand = at_hand;
}

abbrev pub made_or : Option model.Made → model.Made
made_or None = MadeNothing
made_or (Some m) = m

-- where no list is carried, none is told
pub begins_anew : (p : Place) (carried : Carried) → CarriesNoSpans p → carried.ranges ≡ [] → place_of p carried ≡ place_of p nothing
begins_anew (place.PurgeFragmenting cpu extra after) carried is none = absurd is
begins_anew (place.PurgeUnlinking extra after) carried is none = absurd is
begins_anew (place.PurgeWaiting extra after) carried is none = absurd is
begins_anew (place.PurgeFlushing hull after) carried is none = absurd is
begins_anew (place.PurgeReturning after) carried is none = absurd is
begins_anew (place.WaitingForGroups base) carried is none = absurd is
begins_anew (place.LookingAtDirty cpu) carried is none = ap (model.LookingAtDirty cpu) none
begins_anew _ carried is none = refl

pub empty_handed : (p : Place) (carried : Carried) → IsEmptyHanded p → place_of p carried ≡ place_of p nothing
empty_handed (place.PurgeFragmenting cpu extra after) carried is = absurd is
empty_handed (place.PurgeUnlinking extra after) carried is = absurd is
empty_handed (place.PurgeWaiting extra after) carried is = absurd is
empty_handed (place.PurgeFlushing hull after) carried is = absurd is
empty_handed (place.PurgeReturning after) carried is = absurd is
empty_handed (place.WaitingForGroups base) carried is = absurd is
empty_handed (place.LookingAtDirty cpu) carried is = absurd is
empty_handed _ carried is = refl

-- one more call is answered, at an event of the caller's
module _ (a : Inside) (is : IsOrderly a) (reply : Reply) (m : Made) (call : Call) (at : slice_get a.calls (length a.book.rows) ≡ Some call) (book : BookRows) (outcomes : Vec Outcome Global) (p : Place) (ranges : Vec Span Global)
    (noted : book ≡ record (a.book) { rows = a.book.rows ++ (record { reply = reply; own_event = a.events + 1 }) ∷ []; spare = a.book.spare - 1 })
    (pushed : outcomes.items ≡ after_reply (Some call) reply a.outcomes.items ++ record { made = m; freed = false } ∷ []) (cleared : ranges.items ≡ []) (kept_room : vec_capacity ranges ≡ vec_capacity a.ranges) where
  abbrev c : Setup
  c = setup_of (arc_value a.config)

  abbrev carried : Carried
  carried = carrying c p a.gone a.waited ranges

  abbrev answer : Answered
  answer = record { call = call; reply = reply; made = made_of m; own_event = a.events + 1 }

  new_rows : book.rows ≡ a.book.rows ++ (record { reply = reply; own_event = a.events + 1 }) ∷ []
  new_rows = ap (λ (b : BookRows). b.rows) noted

  rows_longer : length book.rows ≡ length a.book.rows + 1
  rows_longer = ap length new_rows ∙ length-append a.book.rows (record { reply = reply; own_event = a.events + 1 } ∷ [])

  kept_count : length (after_reply (Some call) reply a.outcomes.items) ≡ length a.book.rows
  kept_count = length-after_reply call reply a.outcomes.items ∙ is.made

  outcomes_longer : length outcomes.items ≡ length a.book.rows + 1
  outcomes_longer = ap length pushed ∙ length-append (after_reply (Some call) reply a.outcomes.items) (record { made = m; freed = false } ∷ []) ∙ ap (λ n. n + 1) kept_count

  answers_then : answers_with a.calls book.rows outcomes.items ≡ (local_of a).answers ++ answer ∷ []
  answers_then =
      ap (λ rows. answers_with a.calls rows outcomes.items) new_rows ∙ ap (answers_with a.calls (a.book.rows ++ (record { reply = reply; own_event = a.events + 1 }) ∷ [])) pushed
      ∙ answers_with-more a.calls a.book.rows (after_reply (Some call) reply a.outcomes.items) call (record { reply = reply; own_event = a.events + 1 }) (record { made = m; freed = false }) kept_count at
      ∙ ap (λ answers. answers ++ answer ∷ []) (answers_after_reply call reply a.calls a.book.rows a.outcomes.items)

  freed_then : TellFreed outcomes.items ((local_of a).answers ++ answer ∷ [])
  freed_then =
      let own : IsSoundCall (length a.outcomes.items) call = subst (λ n. IsSoundCall n call) (sym is.made) (is.sound (length a.book.rows) call at) in
      let fresh : was_freed (local_of a).answers (suc (length a.outcomes.items)) ≡ false = unfreed (length a.outcomes.items) a.calls a.book.rows a.outcomes.items is.sound (let same = is.made in omega arith) in
      subst (λ os. TellFreed os ((local_of a).answers ++ answer ∷ [])) (sym pushed) (freed_more a.outcomes.items (local_of a).answers answer m is.freed own fresh)

  pub answered_orderly : length a.calls ≤ vec_capacity outcomes → IsSized p → CarriesNoSpans p → IsWhole c (place_of p nothing) → filled_by p ≡ 0 → HasCall p (length outcomes.items) a.calls
      → IsOrderly (record a { book = book; outcomes = outcomes; events = a.events + 1; place = p; ranges = ranges })
  answered_orderly room sized empty whole unfilled at_hand = record {
    setup = is.setup;
    sound = is.sound;
    few = is.few;
    made = outcomes_longer ∙ sym rows_longer;
    room = let spare = ap (λ (b : BookRows). b.spare) noted in let had = is.room in let more = slice_get_within a.calls (length a.book.rows) call at in omega (arith, rows_longer);
    made_room = room;
    freed = subst (TellFreed outcomes.items) (sym answers_then) freed_then;
    opening_freed = is.opening_freed;
    own = ap (λ (b : BookRows). b.caller) noted ∙ is.own;
    noted = subst (All (λ (n : Noted). n.own_event ≤ a.events + 1)) (sym new_rows)
        (All-push (λ (n : Noted). n.own_event ≤ a.events + 1) a.book.rows (record { reply = reply; own_event = a.events + 1 }) (noted_later a.book.rows a.events is.noted) (omega arith));
    sized = sized;
    whole = subst (IsWhole c) (sym (begins_anew p carried empty cleared)) whole;
    filled = let none = unfilled in omega arith;
    range_room = subst (λ n. cpus c ≤ n) (sym kept_room) is.range_room;
    at_hand = subst (λ n. HasCall p n a.calls) (outcomes_longer ∙ sym rows_longer) at_hand;
  }

  -- the caller with other answers, events and place
  abbrev told_with : List Answered → ℕ → Stood → Local
  told_with answers events place = record (local_of a) { answers = answers; events = events; place = place }

  made_then : MadeBy outcomes.items ((local_of a).answers ++ answer ∷ [])
  made_then = record {
    made = (let room = is.room in let more = slice_get_within a.calls (length a.book.rows) call at in made_told a.calls book.rows outcomes.items (outcomes_longer ∙ sym rows_longer) (omega (arith, rows_longer))) ∙ ap (map (λ (x : Answered). x.made)) answers_then;
    freed = freed_then;
  }

  place_then : IsPlacedFor (arc_value a.config) (arc_value a.opening) outcomes.items a.calls (length outcomes.items) p
      → place_of p nothing ≡ begin c (local_of a).opening ((local_of a).answers ++ answer ∷ []) (slice_get a.calls (suc (length (local_of a).answers)))
  place_then place = place ((local_of a).answers ++ answer ∷ []) made_then
      ∙ ap (λ n. begin c (local_of a).opening ((local_of a).answers ++ answer ∷ []) (slice_get a.calls n)) (outcomes_longer ∙ add-one (length a.book.rows) ∙ ap suc (sym (count_is a is)))

  pub answered_view : CarriesNoSpans p → IsPlacedFor (arc_value a.config) (arc_value a.opening) outcomes.items a.calls (length outcomes.items) p
      → local_of (record a { book = book; outcomes = outcomes; events = a.events + 1; place = p; ranges = ranges }) ≡ moved_to (local_of a) (Answer reply (made_of m))
  answered_view empty place =
      ap (λ answers. told_with answers (a.events + 1) (place_of p carried)) answers_then
      ∙ ap (told_with ((local_of a).answers ++ answer ∷ []) (a.events + 1)) (begins_anew p carried empty cleared ∙ place_then place)
      ∙ ap (λ n. told_with ((local_of a).answers ++ record answer { own_event = n } ∷ []) n (begin c (local_of a).opening ((local_of a).answers ++ record answer { own_event = n } ∷ []) (slice_get a.calls (suc (length (local_of a).answers))))) (add-one a.events)
      ∙ ap (λ o. answered_of (local_of a) o (λ (x : Call). record { call = x; reply = reply; made = made_of m; own_event = suc a.events })) (sym (ap (slice_get a.calls) (count_is a is) ∙ at))

pub more_to_answer : (a : Inside) (l : Local) → IsOrderly a → local_of a ≡ l → length l.answers < length l.calls → length a.book.rows < length a.calls
more_to_answer a l is e h = let mine : length (local_of a).answers < length a.calls = subst (λ (x : Local). length x.answers < length x.calls) (sym e) h in let n = count_is a is in omega arith

pub has_call_at : (calls : List Call) (n : ℕ) → n < length calls → (call : Call) × (slice_get calls n ≡ Some call)
has_call_at [] n h = absurd (omega arith)
has_call_at (call ∷ calls) zero h = (call, refl)
has_call_at (call ∷ calls) (suc n) h = has_call_at calls n (omega arith)

no_answers : (calls : List Call) (made : List Outcome) → answers_with calls [] made ≡ []
no_answers [] made = refl
no_answers (call ∷ calls) made = refl

-- a caller before its first call
pub started_view : (a : Inside) → a.book ≡ record { caller = a.caller; rows = []; spare = length a.calls } → a.events ≡ 0 → a.ranges.items ≡ [] → CarriesNoSpans a.place → IsPlacedFor (arc_value a.config) (arc_value a.opening) [] a.calls 0 a.place
    → local_of a ≡ started (setup_of (arc_value a.config)) (map answer_of (arc_value a.opening)) a.caller a.calls
started_view a new first none empty place =
    ap (λ (b : BookRows). local_of (record a { book = b })) new
    ∙ ap (λ n. record (local_of a) { answers = answers_with a.calls [] a.outcomes.items; events = n }) first
    ∙ ap (λ answers. record (started (setup_of (arc_value a.config)) (map answer_of (arc_value a.opening)) a.caller a.calls) { answers = answers; place = place_of a.place (carried_of a) }) (no_answers a.calls a.outcomes.items)
    ∙ ap (λ q. record (started (setup_of (arc_value a.config)) (map answer_of (arc_value a.opening)) a.caller a.calls) { place = q }) (begins_anew a.place (carried_of a) empty none ∙ place [] (record { made = refl; freed = λ i o h. cc }))

-- what was noted of the answers is the book
pub noted_again : (calls : List Call) (rows : List Noted) (made : List Outcome) → length made ≡ length rows → length rows ≤ length calls → map note_of (answers_with calls rows made) ≡ rows
noted_again [] [] made h low = refl
noted_again [] (n ∷ rows) made h low = absurd (omega arith)
noted_again (call ∷ calls) [] made h low = refl
noted_again (call ∷ calls) (n ∷ rows) [] h low = absurd (omega arith)
noted_again (call ∷ calls) (n ∷ rows) (m ∷ made) h low = ap (λ rows. n ∷ rows) (noted_again calls rows made (omega arith) (omega arith))

pub answers_at : (calls : List Call) (rows : List Noted) (made : List Outcome) (i : ℕ) (call : Call) (n : Noted) (m : Outcome) → slice_get calls i ≡ Some call → slice_get rows i ≡ Some n → slice_get made i ≡ Some m
    → slice_get (answers_with calls rows made) i ≡ Some (answer_with call n m)
answers_at [] rows made i call n m c r d = cc
answers_at (x ∷ calls) [] made i call n m c r d = cc
answers_at (x ∷ calls) (y ∷ rows) [] i call n m c r d = cc
answers_at (x ∷ calls) (y ∷ rows) (z ∷ made) zero call n m c r d =
    let a : x ≡ call = cc in let b : y ≡ n = cc in let e : z ≡ m = cc in
    ap (λ call. Some (answer_with call y z)) a ∙ ap (λ n. Some (answer_with call n z)) b ∙ ap (λ m. Some (answer_with call n m)) e
answers_at (x ∷ calls) (y ∷ rows) (z ∷ made) (suc i) call n m c r d = answers_at calls rows made i call n m c r d

pub take_one : {X : Type 0} (xs : List X) (i : ℕ) (x : X) → slice_get xs i ≡ Some x → take (suc i) xs ≡ take i xs ++ x ∷ []
take_one [] i x h = cc
take_one (y ∷ xs) zero x h = let same : y ≡ x = cc in ap (λ z. z ∷ []) same
take_one (y ∷ xs) (suc i) x h = ap (λ zs. y ∷ zs) (take_one xs i x h)

-- a row by its two numbers
pub row_by : (o : Option Noted) (reply : Reply) (own : ℕ) → option_map (λ (n : Noted). n.reply) o ≡ Some reply → option_map (λ (n : Noted). n.own_event) o ≡ Some own → o ≡ Some (record { reply = reply; own_event = own })
row_by None reply own a b = cc
row_by (Some n) reply own a b = let x : n.reply ≡ reply = cc in let y : n.own_event ≡ own = cc in
    ap (λ r. Some (record { reply = r; own_event = n.own_event })) x ∙ ap (λ e. Some (record { reply = reply; own_event = e })) y

-- one answer more is told
pub told_more : (items : List Code) (x : Code) (items' : List Code) (answers : List Answered) (i : ℕ) → items' ≡ items ++ x ∷ [] → map answer_of items ≡ take i answers → slice_get answers i ≡ Some (answer_of x)
    → map answer_of items' ≡ take (i + 1) answers
told_more items x items' answers i pushed told at =
    ap (map answer_of) pushed ∙ map-append answer_of items (x ∷ []) ∙ ap (λ xs. xs ++ answer_of x ∷ []) told ∙ sym (take_one answers i (answer_of x) at) ∙ ap (λ n. take n answers) (sym (add-one i))

pub kept_more : (items : List Code) (x : Code) (items' : List Code) (outcomes : List Outcome) (i : ℕ) → items' ≡ items ++ x ∷ [] → map (λ (a : Code). a.outcome) items ≡ take i outcomes → slice_get outcomes i ≡ Some x.outcome
    → map (λ (a : Code). a.outcome) items' ≡ take (i + 1) outcomes
kept_more items x items' outcomes i pushed kept at =
    ap (map (λ (a : Code). a.outcome)) pushed ∙ map-append (λ (a : Code). a.outcome) items (x ∷ []) ∙ ap (λ xs. xs ++ x.outcome ∷ []) kept ∙ sym (take_one outcomes i x.outcome at) ∙ ap (λ n. take n outcomes) (sym (add-one i))

-- what a call made, of the opening's answers and of the caller's own calls
pub made_by_opening : (opening : List Code) (i : ℕ) → made_in (slice_get (map answer_of opening) i) ≡ made_or (option_map (λ (a : Code). made_of a.outcome.made) (slice_get opening i))
made_by_opening opening i = ap made_in (slice_get-map answer_of opening i) ∙ by (slice_get opening i)
  where
    by : (o : Option Code) → made_in (option_map answer_of o) ≡ made_or (option_map (λ (a : Code). made_of a.outcome.made) o)
    by None = refl
    by (Some a) = refl

pub made_by_own : (own : List Outcome) (answers : List Answered) (i : ℕ) → MadeBy own answers → made_in (slice_get answers i) ≡ made_or (option_map (λ (o : Outcome). made_of o.made) (slice_get own i))
made_by_own own answers i is =
    by (slice_get answers i) ∙ ap made_or (sym (slice_get-map (λ (a : Answered). a.made) answers i) ∙ ap (λ xs. slice_get xs i) (sym is.made) ∙ slice_get-map (λ (o : Outcome). made_of o.made) own i)
  where
    by : (o : Option Answered) → made_in o ≡ made_or (option_map (λ (a : Answered). a.made) o)
    by None = refl
    by (Some a) = refl
