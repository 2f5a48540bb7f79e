-- What a page that waits, is taken, is flushed or was carved has behind it in the events so far.
use Rattle.std.proofs.Common.{◌≡◌, ℕ, suc, ◌<◌, ◌≤◌, List, [], ◌∷◌, ◌++◌, length, slice_get, Some, refl, ap, ◌∙◌, arith, ◌⊎◌, Bool, true, false, sym, subst}
use Rattle.std.proofs.lemmas.List.{take-append-le, take_all}
use Rattle.std.proofs.lemmas.Option.{slice_get_within, same_Some}
use Rattle.vm_model.specs.Setup.{Setup, groups_at}
use Rattle.vm_model.specs.PlainMap.{PlainMap, Mark, Free, Held, Live, Waits, Flushing, is_free}
use Rattle.vm_model.specs.Events.{Section, Event, Carve, CarveGroups, Drop, Return, Settle, Remove, Unlink, Wait, TakeWaiting, Flush}
use Rattle.vm_model.specs.Effects.{effect, effect_as}
use Rattle.vm_model.specs.Laws.{map_after, map_at, IsEvent, IsTakenFrom, IsFreedAt, IsReturned, IsDropped, Carves}
use Rattle.map_laws.proofs.KeptThroughSteps.{append_first, append_cases}
use Rattle.vm_model.specs.declared.areas.Span.{Span}
use Rattle.vm_model.specs.declared.areas.Area.{Area}
use Rattle.vm_model.specs.Space.{holds, covers, paint}
use Rattle.vm_model.specs.Areas.{areas_starting, spans_of, areas_of, mark_live}
use Rattle.vm_model.specs.Legal.{IsMarked, IsUnmapped}
use Rattle.vm_model.proofs.Paint.{slice_get-paint}
use Rattle.map_laws.proofs.TestsAndFilters.{or_right, or_left, covers_append}
use Rattle.map_laws.proofs.areas.AreaFacts.{unpainted}
use Rattle.vm_model.specs.declared.areas.AreaKind.{AreaKind}
use Rattle.vm_model.specs.Carried.{flushed}
use Rattle.vm_model.specs.Places.{Place, MappingArea, Dropping, PurgeFlushing, PurgeReturning}

-- The maps that the first events of a history leave, where one more event comes behind.

pub map_after-append : (c : Setup) (m : PlainMap) (xs ys : List Event) → map_after c m (xs ++ ys) ≡ map_after c (map_after c m xs) ys
map_after-append c m [] ys = refl
map_after-append c m (x ∷ xs) ys = map_after-append c (effect c m x) xs ys

longer : {X : Type 0} (xs : List X) (y : X) → length (xs ++ y ∷ []) ≡ suc (length xs)
longer [] y = refl
longer (x ∷ xs) y = ap suc (longer xs y)

-- behind all events nothing changes any more
pub map_at-end : (c : Setup) (m : PlainMap) (events : List Event) (n : ℕ) → length events ≤ n → map_at c m events n ≡ map_after c m events
map_at-end c m events n h = ap (map_after c m) (take_all n events h)

module _ (c : Setup) (m : PlainMap) (events : List Event) (e : Event) where
  pub more_events : length (events ++ e ∷ []) ≡ suc (length events)
  more_events = longer events e

  pub map_at-before : (n : ℕ) → n ≤ length events → map_at c m (events ++ e ∷ []) n ≡ map_at c m events n
  map_at-before n h = ap (map_after c m) (take-append-le n events (e ∷ []) h)

  -- up to the last event, and with it
  pub map_at-last : map_at c m (events ++ e ∷ []) (length events) ≡ map_after c m events
  map_at-last = map_at-before (length events) (omega arith) ∙ map_at-end c m events (length events) (omega arith)

  pub map_at-more : (n : ℕ) → length events < n → map_at c m (events ++ e ∷ []) n ≡ effect c (map_after c m events) e
  map_at-more n h = map_at-end c m (events ++ e ∷ []) n (omega (arith, more_events)) ∙ map_after-append c m events (e ∷ [])

pub event_first : (events : List Event) (e : Event) (i k : ℕ) (s : Section) → IsEvent events i k s → IsEvent (events ++ e ∷ []) i k s
event_first events e i k s h = append_first events (e ∷ []) i (record { caller = k; section = s }) h

pub event_low : (events : List Event) (i k : ℕ) (s : Section) → IsEvent events i k s → i < length events
event_low events i k s h = slice_get_within events i (record { caller = k; section = s }) h

at_end : {X : Type 0} (xs : List X) (y : X) → slice_get (xs ++ y ∷ []) (length xs) ≡ Some y
at_end [] y = refl
at_end (x ∷ xs) y = at_end xs y

pub event_last : (events : List Event) (k : ℕ) (s : Section) → IsEvent (events ++ (record { caller = k; section = s }) ∷ []) (length events) k s
event_last events k s = at_end events (record { caller = k; section = s })

-- an event was there before, or is the last one
pub data WhichEvent (events : List Event) (own : ℕ) (last : Section) (i k : ℕ) (s : Section) : Type 0 where
  Before : i < length events → IsEvent events i k s → WhichEvent events own last i k s
  Last : i ≡ length events → own ≡ k → last ≡ s → WhichEvent events own last i k s

pub which_event : (events : List Event) (own : ℕ) (last : Section) (i k : ℕ) (s : Section) → IsEvent (events ++ (record { caller = own; section = last }) ∷ []) i k s → WhichEvent events own last i k s
which_event events own last i k s h = grind (arith, append_cases, event_low, same_Some)

-- What sections leave of free pages and of waiting ones.

free_left : (test : ℕ → Bool) (mark : Mark) (marks : List Mark) (page : ℕ) → is_free mark ≡ false → slice_get (paint test mark marks) page ≡ Some Free → slice_get marks page ≡ Some Free
free_left test mark marks page f h = grind (arith, slice_get-paint)

free_settled : (areas : List Area) (marks : List Mark) (page : ℕ) → slice_get (mark_live areas marks) page ≡ Some Free → slice_get marks page ≡ Some Free
free_settled [] marks page h = h
free_settled (a ∷ areas) marks page h = free_left (holds a.span) (Live a.serial) marks page refl (free_settled areas (paint (holds a.span) (Live a.serial) marks) page h)

-- a page that is free after a section was so before, or the section frees it
pub data IsFreed (m : PlainMap) (page : ℕ) : Section → Type 0 where
  Still : (s : Section) → IsMarked m Free page → IsFreed m page s
  Dropped : (s : Span) → holds s page ≡ true → IsFreed m page (Drop s)
  Returned : (spans : List Span) → covers spans page ≡ true → IsFreed m page (Return spans)

drop_by : (c : Setup) (m : PlainMap) (k : ℕ) (s : Span) (page : ℕ) (b : Bool) → holds s page ≡ b → IsMarked (effect_as c m k (Drop s)) Free page → IsFreed m page (Drop s)
drop_by c m k s page true e h = Dropped s e
drop_by c m k s page false e h = Still (Drop s) (sym (unpainted (holds s) Free m.marks page e) ∙ h)

return_by : (c : Setup) (m : PlainMap) (k : ℕ) (spans : List Span) (page : ℕ) (b : Bool) → covers spans page ≡ b → IsMarked (effect_as c m k (Return spans)) Free page → IsFreed m page (Return spans)
return_by c m k spans page true e h = Returned spans e
return_by c m k spans page false e h = Still (Return spans) (sym (unpainted (covers spans) Free m.marks page e) ∙ h)

pub freed : (c : Setup) (m : PlainMap) (k : ℕ) (s : Section) (page : ℕ) → IsMarked (effect_as c m k s) Free page → IsFreed m page s
freed c m k (Drop s) page h = drop_by c m k s page (holds s page) refl h
freed c m k (Return spans) page h = return_by c m k spans page (covers spans page) refl h
freed c m k (Carve place align) page h = Still (Carve place align) (free_left (holds place) (Held k) m.marks page refl h)
freed c m k (CarveGroups base) page h = Still (CarveGroups base) (free_left (covers (groups_at c base)) (Held k) m.marks page refl h)
freed c m k (Settle areas first) page h = Still (Settle areas first) (free_settled (areas_of k first areas) m.marks page h)
freed c m k (Remove start serial area) page h = Still (Remove start serial area) (free_left (holds area.span) (Held k) m.marks page refl h)
freed c m k (Unlink starts) page h = Still (Unlink starts) (free_left (covers (spans_of (areas_starting starts m.areas))) (Held k) m.marks page refl h)
freed c m k (Wait spans waiting) page h = Still (Wait spans waiting) (free_left (covers spans) Waits m.marks page refl h)
freed c m k (TakeWaiting all) page h = Still (TakeWaiting all) (free_left (covers all) (Flushing k) m.marks page refl h)
freed c m k s page h = Still s h

-- What waits.

pub waiting_from : (c : Setup) (m : PlainMap) (k : ℕ) (s : Section) (page : ℕ) → covers (effect_as c m k s).waiting page ≡ true → (covers m.waiting page ≡ true) ⊎ ((spans : List Span) × (waiting : ℕ) × (s ≡ Wait spans waiting) × (covers spans page ≡ true))
waiting_from c m k s page h = grind (arith, covers_append)

pub waiting_to : (c : Setup) (m : PlainMap) (k : ℕ) (s : Section) (page : ℕ) → covers m.waiting page ≡ true → (covers (effect_as c m k s).waiting page ≡ true) ⊎ ((all : List Span) × (s ≡ TakeWaiting all))
waiting_to c m k s page h = grind (arith, covers_append, or_left)

pub waits_now : (c : Setup) (m : PlainMap) (k : ℕ) (spans : List Span) (waiting page : ℕ) → covers spans page ≡ true → covers (effect_as c m k (Wait spans waiting)).waiting page ≡ true
waits_now c m k spans waiting page h = covers_append page m.waiting spans ∙ or_right (covers m.waiting page) (covers spans page) h

-- What a page that waits, is taken, is flushed or was carved has behind it in the events so far.

-- a caller took the page after event i, and flushed it since
pub record IsTakenSince (events : List Event) (i k page : ℕ) : Type 0 where
  pub taken : ℕ
  pub all : List Span
  pub after : i < taken
  pub takes : IsEvent events taken k (TakeWaiting all)
  pub took : covers all page ≡ true

pub record IsFlushedSince (events : List Event) (i k page : ℕ) : Type 0 where
  pub since : IsTakenSince events i k page
  pub flush : ℕ
  pub flushed : Span
  pub after : since.taken < flush
  pub flushes : IsEvent events flush k (Flush flushed)
  pub flushed_page : holds flushed page ≡ true

-- the caller stands behind such an event, with the page to flush or to return
abbrev pub IsBehind : List Event → (i k page : ℕ) → Place → Type 0
IsBehind events i k page (PurgeFlushing s waited after) = (covers waited page ≡ true) × (holds s page ≡ true) × IsTakenSince events i k page
IsBehind events i k page (PurgeReturning waited after) = (covers waited page ≡ true) × IsFlushedSince events i k page
IsBehind events i k page _ = ⊥

pub behind_flushed : (events : List Event) (i k page : ℕ) (p : Place) → IsBehind events i k page p → covers (flushed p) page ≡ true
behind_flushed events i k page p is = grind arith

-- a caller carved the span, and none of its pages was mapped since
pub record IsCarvedBy (c : Setup) (m : PlainMap) (events : List Event) (k : ℕ) (s : Span) : Type 0 where
  pub carve : ℕ
  pub section : Section
  pub carves : IsEvent events carve k section
  pub pages : (page : ℕ) → holds s page ≡ true → Carves c page section
  pub unmapped : (page n : ℕ) → holds s page ≡ true → carve < n → n ≤ length events → IsUnmapped (map_at c m events n) page

abbrev pub IsStoried : Setup → PlainMap → List Event → ℕ → Place → Type 0
IsStoried c m events k (MappingArea s kd) = IsCarvedBy c m events k s
IsStoried c m events k (Dropping s) = IsCarvedBy c m events k s
IsStoried c m events k _ = Unit {0}

-- One more event.

module _ (events : List Event) (e : Event) where
  abbrev pub taken_more : (i k page : ℕ) → IsTakenSince events i k page → IsTakenSince (events ++ e ∷ []) i k page
  taken_more i k page is = record { taken = is.taken; all = is.all; after = is.after; takes = event_first events e is.taken k (TakeWaiting is.all) is.takes; took = is.took }

  flushed_more : (i k page : ℕ) → IsFlushedSince events i k page → IsFlushedSince (events ++ e ∷ []) i k page
  flushed_more i k page is = record {
    since = taken_more i k page is.since;
    flush = is.flush;
    flushed = is.flushed;
    after = is.after;
    flushes = event_first events e is.flush k (Flush is.flushed) is.flushes;
    flushed_page = is.flushed_page;
  }

  pub behind_more : (i k page : ℕ) (p : Place) → IsBehind events i k page p → IsBehind (events ++ e ∷ []) i k page p
  behind_more i k page (PurgeFlushing s waited after) is = (is.0, is.1, taken_more i k page is.2)
  behind_more i k page (PurgeReturning waited after) is = (is.0, flushed_more i k page is.1)
  behind_more i k page _ is = absurd is

  pub returned_more : (page i k : ℕ) → IsReturned events page i k → IsReturned (events ++ e ∷ []) page i k
  returned_more page i k is = grind (arith, event_first)

module _ (c : Setup) (m : PlainMap) (events : List Event) (e : Event) where
  pub taken_before : (page first last : ℕ) → last ≤ length events → IsTakenFrom c m (events ++ e ∷ []) page first last → IsTakenFrom c m events page first last
  taken_before page first last low is n a b free = is n a b (subst (λ x. IsMarked x Free page) (sym (map_at-before c m events e n (omega arith))) free)

  pub freed_before : (page k : ℕ) → k < length events → IsFreedAt c m (events ++ e ∷ []) page k → IsFreedAt c m events page k
  freed_before page k low is = grind (arith, map_at-before)

  pub dropped_more : (page k : ℕ) → k < length events → IsDropped c m events page k → IsDropped c m (events ++ e ∷ []) page k
  dropped_more page k low is = grind (arith, event_first, map_at-before)

  -- the pages of a carved span stay unmapped
  pub carved_more : (k : ℕ) (s : Span) → ((page : ℕ) → holds s page ≡ true → IsUnmapped (effect c (map_after c m events) e) page) → IsCarvedBy c m events k s → IsCarvedBy c m (events ++ e ∷ []) k s
  carved_more k s now is = grind (arith, event_first, map_at-before, map_at-more)

  pub storied_more : (k : ℕ) (p : Place) → ((s : Span) → IsCarvedBy c m events k s → (p ≡ Dropping s) ⊎ ((kd : AreaKind) × (p ≡ MappingArea s kd)) → (page : ℕ) → holds s page ≡ true → IsUnmapped (effect c (map_after c m events) e) page)
      → IsStoried c m events k p → IsStoried c m (events ++ e ∷ []) k p
  storied_more k p now is = grind (arith, carved_more)
