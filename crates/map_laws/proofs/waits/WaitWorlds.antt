-- Pages wait before they are used again, in each reached world.
use Rattle.std.proofs.Common.{◌≡◌, ℕ, zero, suc, ◌<◌, ◌≤◌, ◌⊎◌, inl, inr, Bool, true, false, List, [], ◌∷◌, ◌++◌, length, slice_get, slice_set, Some, refl, ap, sym, ◌∙◌, subst, arith}
use Rattle.std.proofs.lemmas.Option.{same_Some}
use Rattle.vm_model.specs.declared.areas.Span.{Span}
use Rattle.vm_model.specs.declared.areas.AreaKind.{AreaKind}
use Rattle.vm_model.specs.Space.{holds, covers, times}
use Rattle.vm_model.specs.Setup.{Setup}
use Rattle.vm_model.specs.PlainMap.{PlainMap, Free}
use Rattle.vm_model.specs.Events.{Section, Event, Wait, TakeWaiting, Drop, Return, Flush}
use Rattle.vm_model.specs.Legal.{IsMarked, IsUnmapped, IsLegalAs}
use Rattle.vm_model.specs.Effects.{effect_as}
use Rattle.vm_model.specs.Carried.{held, flushed}
use Rattle.vm_model.specs.Places.{Place, MappingArea, Dropping, PurgeCollecting, PurgeFlushing, PurgeReturning, Then, ask}
use Rattle.vm_model.specs.Next.{Go, next}
use Rattle.vm_model.specs.LegalHistory.{Meets}
use Rattle.vm_model.specs.History.{World, Local}
use Rattle.vm_model.specs.Laws.{map_after, map_at, IsEvent, IsTakenFrom, IsFreedAt, IsReturned, IsDropped}
use Rattle.map_laws.specs.WaitingPages.{IsWaitOf, HasWaited, IsFreedWell}
use Rattle.map_laws.proofs.KeptThroughSteps.{same_or, set_cases, set_same, set_other}
use Rattle.map_laws.proofs.TestsAndFilters.{covers_times, covers_one, sum_has}
use Rattle.map_laws.proofs.OutMoves.{sum_two}
use Rattle.map_laws.proofs.ProperPlaces.{OnNext}
use Rattle.map_laws.proofs.Deeds.{drops_at, returns_at, collects_at}
use Rattle.map_laws.proofs.waits.WaitStories.{map_after-append, map_at-last, map_at-before, map_at-more, more_events, event_first, event_last, event_low, WhichEvent, Before, Last, which_event, IsFreed, Still, Dropped, Returned, freed, waiting_from, waiting_to, waits_now, IsBehind, behind_flushed, IsCarvedBy, IsStoried, behind_more, returned_more, taken_before, freed_before, dropped_more, storied_more}
use Rattle.map_laws.proofs.areas.AreaFacts.{bare_at}
use Rattle.map_laws.proofs.areas.AreaWorlds.{IsAreaWorld}
use Rattle.map_laws.proofs.Quiet.{free_one}
use Rattle.map_laws.proofs.waits.WaitNext.{storied_next, IsLedTo, collected_next, behind_next, flushed_next}

-- a page that waits, or that a caller is about to flush or to return since event i
pub data Follows (w : World) (i page : ℕ) : Type 0 where
  Waiting : covers w.map.waiting page ≡ true → Follows w i page
  Taken : (k : ℕ) (l : Local) → slice_get w.locals k ≡ Some l → IsBehind w.events i k page l.place → Follows w i page

-- the page waits since event i
pub record IsWaiting (c : Setup) (first : PlainMap) (w : World) (page : ℕ) : Type 0 where
  pub wait : ℕ
  pub waits : IsWaitOf w.events wait page
  pub since : IsTakenFrom c first w.events page (suc wait) (length w.events)

-- what each event keeps of the pages that wait, are taken or were carved
pub record IsWaitWorld (c : Setup) (first : PlainMap) (w : World) : Type 0 where
  pub story : w.map ≡ map_after c first w.events
  pub storied : (k : ℕ) (l : Local) → slice_get w.locals k ≡ Some l → IsStoried c first w.events k l.place
  pub followed : (i page : ℕ) → IsWaitOf w.events i page → IsTakenFrom c first w.events page (suc i) (length w.events) → Follows w i page
  pub waited : (page : ℕ) → covers w.map.waiting page ≡ true → IsWaiting c first w page
  pub flushed : (k : ℕ) (l : Local) → slice_get w.locals k ≡ Some l → (page : ℕ) → covers (flushed l.place) page ≡ true → IsWaiting c first w page
  pub waits : (page i k : ℕ) → i < k → IsWaitOf w.events i page → IsTakenFrom c first w.events page (suc i) k → IsFreedAt c first w.events page k → IsReturned w.events page i k
  pub freed : (page k : ℕ) → IsFreedAt c first w.events page k → IsFreedWell c first w.events page k

-- Who has a page has it alone.

module _ (w : World) (area : IsAreaWorld w) where
  abbrev holdings : ℕ → Local → ℕ
  holdings page x = times page (held x.setup x.place)

  abbrev flushings : ℕ → Local → ℕ
  flushings page x = times page (flushed x.place)

  waiting_free : (page : ℕ) → covers w.map.waiting page ≡ true → IsMarked w.map Free page → ⊥
  waiting_free page on free = let once = area.once page in omega (arith, covers_times page w.map.waiting on, free_one w.map page free)

  flushed_free : (k : ℕ) (l : Local) (page : ℕ) → slice_get w.locals k ≡ Some l → covers (flushed l.place) page ≡ true → IsMarked w.map Free page → ⊥
  flushed_free k l page here on free = grind (arith, sum_has, covers_times, free_one)

  -- and a page that a caller flushes is followed by that caller alone
  follows_own : (k : ℕ) (l : Local) (i page : ℕ) → slice_get w.locals k ≡ Some l → covers (flushed l.place) page ≡ true → Follows w i page → IsBehind w.events i k page l.place
  follows_own k l i page here on x6 = grind (arith, sum_has, covers_times, same_or, same_Some, sum_two, behind_flushed)

-- Places of callers that have none of this.

abbrev pub is_idle : Place → Bool
is_idle (MappingArea s kd) = false
is_idle (Dropping s) = false
is_idle (PurgeFlushing h waited after) = false
is_idle (PurgeReturning waited after) = false
is_idle _ = true

pub idle_storied : (c : Setup) (m : PlainMap) (events : List Event) (k : ℕ) (p : Place) → is_idle p ≡ true → IsStoried c m events k p
idle_storied c m events k p h = grind arith

pub idle_flushed : (page : ℕ) (p : Place) → is_idle p ≡ true → covers (flushed p) page ≡ false
idle_flushed page p e = grind arith

le_or : (a b : ℕ) → (a ≤ b) ⊎ (b < a)
le_or zero b = inl (omega arith)
le_or (suc a) zero = inr (omega arith)
le_or (suc a) (suc b) = elim (le_or a b) [ inl h ↦ inl (omega arith) | inr h ↦ inr (omega arith) ]

pub data Order (a b : ℕ) : Type 0 where
  Below : a < b → Order a b
  Same : a ≡ b → Order a b
  Above : b < a → Order a b

order : (a b : ℕ) → Order a b
order a b = grind (arith, le_or)

-- A legal section of one caller, over the setup itself and under its number.

module _ (c : Setup) (first : PlainMap) (w : World) (area : IsAreaWorld w) (kept : IsWaitWorld c first w) (k : ℕ) (l : Local) (s : Section) (here : slice_get w.locals k ≡ Some l) (meets : Meets c (ask c l.place) s)
    (legal : IsLegalAs c w.map k s) (moved : Local) where
  abbrev event : Event
  event = record { caller = k; section = s }

  abbrev pub made : World
  made = record { map = effect_as c w.map k s; locals = slice_set w.locals k moved; events = w.events ++ (record { caller = k; section = s }) ∷ [] }

  story_now : made.map ≡ map_after c first made.events
  story_now = ap (λ m. effect_as c m k s) kept.story ∙ sym (map_after-append c first w.events (event ∷ []))

  -- the maps before the event and behind it
  map_was : map_at c first made.events (length w.events) ≡ w.map
  map_was = map_at-last c first w.events event ∙ sym kept.story

  map_now : (n : ℕ) → length w.events < n → map_at c first made.events n ≡ made.map
  map_now n h = map_at-more c first w.events event n h ∙ ap (λ m. effect_as c m k s) (sym kept.story)

  -- a page that isn't free now either
  not_free_since : (i page : ℕ) → (IsMarked made.map Free page → ⊥) → IsTakenFrom c first w.events page (suc i) (length w.events) → IsTakenFrom c first made.events page (suc i) (length made.events)
  not_free_since i page never since n a b free = grind (arith, le_or, map_at-before, map_now)

  waiting_more : (page : ℕ) → (IsMarked made.map Free page → ⊥) → IsWaiting c first w page → IsWaiting c first made page
  waiting_more page never was = record {
    wait = was.wait;
    waits = record {
      caller = was.waits.caller;
      waiting = was.waits.waiting;
      spans = was.waits.spans;
      waits = event_first w.events event was.wait was.waits.caller (Wait was.waits.spans was.waits.waiting) was.waits.waits;
      waited = was.waits.waited;
    };
    since = not_free_since was.wait page never was.since;
  }

  -- What is followed.

  module _ (goes : (q : Place) → next c l.place s ≡ Go q → moved.place ≡ q) where
    here_now : slice_get made.locals k ≡ Some moved
    here_now = set_same w.locals k l moved here

    led_now : (i page : ℕ) → IsLedTo (IsBehind made.events i k page) (next c l.place s) → Follows made i page
    led_now i page led = Taken k moved here_now (subst (IsBehind made.events i k page) (sym (goes led.place led.goes)) led.there)

    collected_now : (i page : ℕ) (all : List Span) → i < length w.events → covers w.map.waiting page ≡ true → s ≡ TakeWaiting all → Follows made i page
    collected_now i page all low on e =
        let at = collects_at c l.place all (subst (Meets c (ask c l.place)) e meets) in
        led_now i page (subst (λ p. IsLedTo (IsBehind made.events i k page) (next c p s)) (sym at.2)
        (subst (λ t. IsLedTo (IsBehind (w.events ++ (record { caller = k; section = t }) ∷ []) i k page) (next c (PurgeCollecting at.0 at.1) t)) (sym e)
        (collected_next c w.map w.events k i page at.0 at.1 all low on (subst (IsLegalAs c w.map k) e legal))))

    followed_more : (i page : ℕ) → i < length w.events → (IsMarked made.map Free page → ⊥) → Follows w i page → Follows made i page
    followed_more i page low never (Waiting on) = elim (waiting_to c w.map k s page on) [ inl now ↦ Waiting now | inr e ↦ collected_now i page e.0 low on e.1 ]
    followed_more i page low never (Taken j x at is) = elim (same_or j k) [
      | inl same ↦ (
          let e : x ≡ l = same_Some x l (sym at ∙ ap (slice_get w.locals) same ∙ here) in
          led_now i page (behind_next c w.map w.events k i page l.place s meets legal never (subst (λ n. IsBehind w.events i n page l.place) same (subst (λ (y : Local). IsBehind w.events i j page y.place) e is)))
          )
      | inr apart ↦ Taken j x (set_other w.locals k j moved apart ∙ at) (behind_more w.events event i j page x.place is)
    ]

    followed_now : (i page : ℕ) → IsWaitOf made.events i page → IsTakenFrom c first made.events page (suc i) (length made.events) → Follows made i page
    followed_now i page waits since = by_event (which_event w.events k s i waits.caller (Wait waits.spans waits.waiting) waits.waits)
      where
        never : i ≤ length w.events → IsMarked made.map Free page → ⊥
        never low free = since (length made.events) (omega (arith, more_events c first w.events event)) (omega arith)
            (subst (λ x. IsMarked x Free page) (sym (map_now (length made.events) (omega (arith, more_events c first w.events event)))) free)

        by_event : WhichEvent w.events k s i waits.caller (Wait waits.spans waits.waiting) → Follows made i page
        by_event (Before low was) = followed_more i page low (never (omega arith))
            (kept.followed i page (record { caller = waits.caller; waiting = waits.waiting; spans = waits.spans; waits = was; waited = waits.waited })
            (taken_before c first w.events event page (suc i) (length w.events) (omega arith) (λ n a b. since n a (omega (arith, more_events c first w.events event)))))
        by_event (Last end own same) = Waiting (subst (λ t. covers (effect_as c w.map k t).waiting page ≡ true) (sym same) (waits_now c w.map k waits.spans waits.waiting page waits.waited))

  -- A page that is freed.

  wait_before : (i page : ℕ) → i < length w.events → IsWaitOf made.events i page → IsWaitOf w.events i page
  wait_before i page low waits = grind (arith, which_event)

  last_event : (t : Section) → s ≡ t → IsEvent made.events (length w.events) k t
  last_event t e = subst (IsEvent made.events (length w.events) k) e (event_last w.events k s)

  return_now : (i page : ℕ) (spans : List Span) (after : Then) → s ≡ Return spans → covers spans page ≡ true → IsBehind w.events i k page (PurgeReturning spans after) → IsReturned made.events page i (length w.events)
  return_now i page spans after e on is = let behind = is.1 in record {
    caller = k;
    taken = behind.since.taken;
    flush = behind.flush;
    all = behind.since.all;
    flushed_span = behind.flushed;
    spans = spans;
    after_wait = behind.since.after;
    after_take = behind.after;
    before = event_low w.events behind.flush k (Flush behind.flushed) behind.flushes;
    takes = event_first w.events event behind.since.taken k (TakeWaiting behind.since.all) behind.since.takes;
    took_page = behind.since.took;
    flushes = event_first w.events event behind.flush k (Flush behind.flushed) behind.flushes;
    flushed_page = behind.flushed_page;
    returns = last_event (Return spans) e;
    returned_page = on;
  }

  -- the caller returns it, or drops it
  pub data IsFreeing (page : ℕ) : Type 0 where
    Returns : (spans : List Span) (after : Then) → s ≡ Return spans → l.place ≡ PurgeReturning spans after → covers spans page ≡ true → IsFreeing page
    Drops : (dropped : Span) → s ≡ Drop dropped → l.place ≡ Dropping dropped → holds dropped page ≡ true → IsFreeing page

  freeing : (page : ℕ) → (IsMarked w.map Free page → ⊥) → IsMarked made.map Free page → IsFreeing page
  freeing page never now = by_section s refl (freed c w.map k s page now)
    where
      by_section : (t : Section) → s ≡ t → IsFreed w.map page t → IsFreeing page
      by_section r e (Still t was) = absurd (never was)
      by_section r e (Dropped dropped on) = Drops dropped e (drops_at c l.place dropped (subst (Meets c (ask c l.place)) e meets)) on
      by_section r e (Returned spans on) = let at = returns_at c l.place spans (subst (Meets c (ask c l.place)) e meets) in Returns spans at.0 e at.1 on

  followed_returns : (i page : ℕ) → Follows w i page → IsFreeing page → IsReturned made.events page i (length w.events)
  followed_returns i page follows (Returns spans after e at on) =
      return_now i page spans after e on (subst (IsBehind w.events i k page) at (follows_own w area k l i page here (ap (λ p. covers (flushed p) page) at ∙ on) follows))
  followed_returns i page follows (Drops dropped e at on) = grind (arith, covers_one, sum_has, covers_times, behind_flushed)

  dropped_now : (page : ℕ) (dropped : Span) → s ≡ Drop dropped → holds dropped page ≡ true → IsCarvedBy c first w.events k dropped → IsDropped c first made.events page (length w.events)
  dropped_now page dropped e on carved = record {
    caller = k;
    carve = carved.carve;
    section = carved.section;
    dropped = dropped;
    before = event_low w.events carved.carve k carved.section carved.carves;
    carves = event_first w.events event carved.carve k carved.section carved.carves;
    carved_page = carved.pages page on;
    unmapped = λ n a b. subst (λ x. IsUnmapped x page) (sym (map_at-before c first w.events event n b)) (carved.unmapped page n on a b);
    drops = last_event (Drop dropped) e;
    dropped_page = on;
  }

  freed_well : (page : ℕ) → IsFreeing page → IsFreedWell c first made.events page (length w.events)
  freed_well page (Returns spans after e at on) =
      let was = kept.flushed k l here page (ap (λ p. covers (flushed p) page) at ∙ on) in
      inl (
        was.wait,
        record {
          waits = wait_more was;
          since = λ n a b free. was.since n a b (subst (λ x. IsMarked x Free page) (map_at-before c first w.events event n b) free);
          returned = followed_returns was.wait page (kept.followed was.wait page was.waits was.since) (Returns spans after e at on);
        },
      )
    where
      wait_more : (was : IsWaiting c first w page) → IsWaitOf made.events was.wait page
      wait_more was = record {
        caller = was.waits.caller;
        waiting = was.waits.waiting;
        spans = was.waits.spans;
        waits = event_first w.events event was.wait was.waits.caller (Wait was.waits.spans was.waits.waiting) was.waits.waits;
        waited = was.waits.waited;
      }
  freed_well page (Drops dropped e at on) = inr (dropped_now page dropped e on (subst (IsStoried c first w.events k) at (kept.storied k l here)))

  none_behind : (page n : ℕ) → length w.events < n → IsFreedAt c first made.events page n → ⊥
  none_behind page n high at = at.0 (subst (λ x. IsMarked x Free page) (map_now (suc n) (omega arith) ∙ sym (map_now n high)) at.1)

  freed_last : (page : ℕ) → IsFreedAt c first made.events page (length w.events) → IsFreeing page
  freed_last page at = freeing page (λ was. at.0 (subst (λ x. IsMarked x Free page) (sym map_was) was)) (subst (λ x. IsMarked x Free page) (map_now (suc (length w.events)) (omega arith)) at.1)

  waits_last : (page i : ℕ) → i < length w.events → IsWaitOf made.events i page → IsTakenFrom c first made.events page (suc i) (length w.events) → IsFreedAt c first made.events page (length w.events)
      → IsReturned made.events page i (length w.events)
  waits_last page i low waits since at =
      followed_returns i page (kept.followed i page (wait_before i page low waits) (taken_before c first w.events event page (suc i) (length w.events) (omega arith) since)) (freed_last page at)

  waits_by : (page i n : ℕ) → Order n (length w.events) → i < n → IsWaitOf made.events i page → IsTakenFrom c first made.events page (suc i) n → IsFreedAt c first made.events page n → IsReturned made.events page i n
  waits_by page i n (Below low) less waits since at =
      returned_more w.events event page i n
      (kept.waits page i n less (wait_before i page (omega arith) waits) (taken_before c first w.events event page (suc i) n (omega arith) since) (freed_before c first w.events event page n low at))
  waits_by page i n (Same e) less waits since at =
      subst (IsReturned made.events page i) (sym e) (waits_last page i (omega arith) waits (subst (IsTakenFrom c first made.events page (suc i)) e since) (subst (IsFreedAt c first made.events page) e at))
  waits_by page i n (Above high) less waits since at = absurd (none_behind page n high at)

  waited_more : (page i n : ℕ) → n < length w.events → HasWaited c first w.events page i n → HasWaited c first made.events page i n
  waited_more page i n low has = record {
    waits = record {
      caller = has.waits.caller;
      waiting = has.waits.waiting;
      spans = has.waits.spans;
      waits = event_first w.events event i has.waits.caller (Wait has.waits.spans has.waits.waiting) has.waits.waits;
      waited = has.waits.waited;
    };
    since = λ j a b free. has.since j a b (subst (λ x. IsMarked x Free page) (map_at-before c first w.events event j (omega arith)) free);
    returned = returned_more w.events event page i n has.returned;
  }

  freed_by : (page n : ℕ) → Order n (length w.events) → IsFreedAt c first made.events page n → IsFreedWell c first made.events page n
  freed_by page n (Below low) at = elim (kept.freed page n (freed_before c first w.events event page n low at)) [
    | inl has ↦ inl (has.0, waited_more page has.0 n low has.1)
    | inr has ↦ inr (dropped_more c first w.events event page n low has)
  ]
  freed_by page n (Same e) at = subst (IsFreedWell c first made.events page) (sym e) (freed_well page (freed_last page (subst (IsFreedAt c first made.events page) e at)))
  freed_by page n (Above high) at = absurd (none_behind page n high at)

  -- What waits, and what is flushed.

  waited_now : IsAreaWorld made → (page : ℕ) → covers made.map.waiting page ≡ true → IsWaiting c first made page
  waited_now later page on = elim (waiting_from c w.map k s page on) [
    | inl was ↦ waiting_more page (waiting_free made later page on) (kept.waited page was)
    | inr now ↦ record {
      wait = length w.events;
      waits = record { caller = k; waiting = now.1; spans = now.0; waits = last_event (Wait now.0 now.1) now.2; waited = now.3 };
      since = λ n a b free. waiting_free made later page on (subst (λ x. IsMarked x Free page) (map_now n a) free);
    }
  ]

  module _ (goes : (q : Place) → next c l.place s ≡ Go q → moved.place ≡ q) (placed : (P : Place → Type 0) → OnNext P (next c l.place s) → ((p : Place) → is_idle p ≡ true → P p) → P moved.place) (later : IsAreaWorld made) where
    flushed_had : (j : ℕ) (x : Local) → slice_get made.locals j ≡ Some x → (page : ℕ) → covers (flushed x.place) page ≡ true → IsWaiting c first w page
    flushed_had j x at page on = elim (set_cases w.locals k j moved x at) [
      | inl e ↦ placed (λ p. covers (flushed p) page ≡ true → IsWaiting c first w page)
          (flushed_next c w.map k page (IsWaiting c first w page) (kept.waited page) l.place s meets legal (kept.flushed k l here page)) (λ p idle e. (let none = idle_flushed page p idle in cc))
          (ap (λ (y : Local). covers (flushed y.place) page) (sym e.1) ∙ on)
      | inr e ↦ kept.flushed j x e.1 page on
    ]

    storied_own : IsStoried c first made.events k moved.place
    storied_own = placed (IsStoried c first made.events k) (storied_next c first w.map w.events kept.story (λ page. (area.fine.pages page).free) k l.place s meets legal (kept.storied k l here)) (idle_storied c first made.events k)

    -- what another caller carved is bare still
    storied_other : (j : ℕ) (x : Local) → slice_get made.locals j ≡ Some x → slice_get w.locals j ≡ Some x → IsStoried c first made.events j x.place
    storied_other j x at was = storied_more c first w.events event j x.place (λ place carved e page on. subst (λ m. IsUnmapped (effect_as c m k s) page) kept.story (carved_bare e page (covers_one place page ∙ on))) (kept.storied j x was)
      where
        carved_bare : {place : Span} → (x.place ≡ Dropping place) ⊎ ((kd : AreaKind) × (x.place ≡ MappingArea place kd)) → (page : ℕ) → covers (place ∷ []) page ≡ true → IsUnmapped made.map page
        carved_bare (inl e) page on = ((later.each j x at).bare page (ap (λ p. covers (bare_at x.setup p) page) e ∙ on)).unmapped
        carved_bare (inr e) page on = ((later.each j x at).bare page (ap (λ p. covers (bare_at x.setup p) page) e.1 ∙ on)).unmapped

    storied_now : (j : ℕ) (x : Local) → slice_get made.locals j ≡ Some x → IsStoried c first made.events j x.place
    storied_now j x at = elim (set_cases w.locals k j moved x at) [
      | inl e ↦ subst (λ (y : Local). IsStoried c first made.events j y.place) (sym e.1) (subst (λ i. IsStoried c first made.events i moved.place) (sym e.0) storied_own)
      | inr e ↦ storied_other j x at e.1
    ]

    pub wait_section : IsWaitWorld c first made
    wait_section = record {
      story = story_now;
      storied = storied_now;
      followed = followed_now goes;
      waited = waited_now later;
      flushed = λ j x at page on. waiting_more page (flushed_free made later j x page at on) (flushed_had j x at page on);
      waits = λ page i n less waits since at. waits_by page i n (order n (length w.events)) less waits since at;
      freed = λ page n at. freed_by page n (order n (length w.events)) at;
    }
