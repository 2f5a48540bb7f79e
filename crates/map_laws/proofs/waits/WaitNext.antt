-- Where a caller goes with pages that it carved, took or flushed.
use Rattle.std.proofs.Common.{◌≡◌, ℕ, ◌<◌, Bool, true, false, List, [], ◌∷◌, ◌++◌, length, Option, refl, ap, sym, ◌∙◌, subst, arith, option_to_list}
use Rattle.vm_model.specs.declared.areas.Span.{Span}
use Rattle.vm_model.specs.Space.{span, holds, covers}
use Rattle.vm_model.specs.Setup.{Setup}
use Rattle.vm_model.specs.PlainMap.{PlainMap, Free}
use Rattle.vm_model.specs.Events.{Section, Event, Carve, TakeWaiting, Flush}
use Rattle.vm_model.specs.Legal.{IsMarked, IsUnmapped, IsBare, IsLegalAs}
use Rattle.vm_model.specs.Effects.{effect_as}
use Rattle.vm_model.specs.Carried.{flushed}
use Rattle.vm_model.specs.Places.{Place, Finding, FindingAgain, MappingArea, PurgeCollecting, PurgeFlushing, PurgeReturning, Aim, Then, ask}
use Rattle.vm_model.specs.Next.{Next, Go, next, with_span, with_base, after_collecting, after_flush}
use Rattle.vm_model.specs.LegalHistory.{Meets}
use Rattle.vm_model.specs.Laws.{map_after}
use Rattle.map_laws.proofs.PlaceRows.{place_row}
use Rattle.map_laws.proofs.ProperPlaces.{OnNext}
use Rattle.map_laws.proofs.TestsAndFilters.{hull_is, covers_append, or_left}
use Rattle.map_laws.proofs.areas.AreaFacts.{painted}
use Rattle.map_laws.proofs.PlaceMoves.{place_free}
use Rattle.map_laws.proofs.waits.WaitStories.{map_at-more, map_at-end, event_last, event_low, IsTakenSince, IsBehind, IsCarvedBy, IsStoried, taken_more, carved_more}

-- over a map to which the events so far led, and in which free pages are bare
module _ (c : Setup) (first m : PlainMap) (events : List Event) (story : m ≡ map_after c first events) (clean : (page : ℕ) → IsMarked m Free page → IsBare m page) (k : ℕ) where
  abbrev more : Section → List Event
  more s = events ++ (record { caller = k; section = s }) ∷ []

  -- A place that was found.

  found_unmapped : (start pages align page : ℕ) → IsLegalAs c m k (Carve (span start pages) align) → holds (span start pages) page ≡ true → IsUnmapped m page
  found_unmapped start pages align page legal on = (clean page (place_free m (span start pages) align page legal on)).unmapped

  carved_now : (start pages align : ℕ) → IsLegalAs c m k (Carve (span start pages) align) → IsCarvedBy c first (more (Carve (span start pages) align)) k (span start pages)
  carved_now start pages align legal = record {
    carve = length events;
    section = Carve (span start pages) align;
    carves = event_last events k (Carve (span start pages) align);
    pages = λ page on. on;
    unmapped = λ page n on a b. subst (λ x. IsUnmapped x page) (sym (map_at-more c first events (record { caller = k; section = Carve (span start pages) align }) n a))
        (subst (λ x. IsUnmapped (effect_as c x k (Carve (span start pages) align)) page) story (found_unmapped start pages align page legal on));
  }

  span_storied : (aim : Aim) (start pages align : ℕ) → IsLegalAs c m k (Carve (span start pages) align) → OnNext (IsStoried c first (more (Carve (span start pages) align)) k) (with_span aim (span start pages))
  span_storied aim start pages align legal = grind (arith, carved_now)

  base_storied : (aim : Aim) (base : ℕ) (es : List Event) → OnNext (IsStoried c first es k) (with_base aim base)
  base_storied aim base es = grind arith

  -- A place that gets no frames.

  pub still_unmapped : (place : Span) → IsCarvedBy c first events k place → (page : ℕ) → holds place page ≡ true → IsUnmapped m page
  still_unmapped place is page on = grind (arith, event_low, map_at-end)

  pub storied_next : (p : Place) (s : Section) → Meets c (ask c p) s → IsLegalAs c m k s → IsStoried c first events k p → OnNext (IsStoried c first (more s) k) (next c p s)
  storied_next (Finding search aim) s meets legal is = grind (arith, span_storied, base_storied)
  storied_next (FindingAgain search aim) s meets legal is = grind (arith, span_storied, base_storied)
  storied_next (MappingArea place kd) s meets legal is = grind (arith, carved_more, still_unmapped)
  storied_next p s meets legal is = grind (arith, place_row)

-- Where pages go that were taken.

-- a place behind a section, with what holds there
pub record IsLedTo (P : Place → Type 0) (n : Next) : Type 0 where
  pub place : Place
  pub goes : n ≡ Go place
  pub there : P place

module _ (c : Setup) (m : PlainMap) (events : List Event) (k i page : ℕ) where
  collected_by : (all : List Span) (extra : Option Span) (after : Then) → i < length events → covers all page ≡ true
      → IsLedTo (IsBehind (events ++ (record { caller = k; section = TakeWaiting all }) ∷ []) i k page) (next c (PurgeCollecting extra after) (TakeWaiting all))
  collected_by all extra after low on =
      let h = (hull_is (all ++ option_to_list extra)).covered page (covers_append page all (option_to_list extra) ∙ or_left (covers all page) (covers (option_to_list extra) page) on) in
      record {
        place = PurgeFlushing h.0 all after;
        goes = ap (λ o. after_collecting all o after) h.1;
        there = (on, h.2, record { taken = length events; all = all; after = low; takes = event_last events k (TakeWaiting all); took = on });
      }

  -- the waiting pages are taken
  pub collected_next : (extra : Option Span) (after : Then) (all : List Span) → i < length events → covers m.waiting page ≡ true → IsLegalAs c m k (TakeWaiting all)
      → IsLedTo (IsBehind (events ++ (record { caller = k; section = TakeWaiting all }) ∷ []) i k page) (next c (PurgeCollecting extra after) (TakeWaiting all))
  collected_next extra after all low on legal = collected_by all extra after low (ap (λ l. covers l page) legal ∙ on)

  flush_by : (h : Span) (waited : List Span) (after : Then) → covers waited page ≡ true → holds h page ≡ true → IsTakenSince events i k page
      → IsLedTo (IsBehind (events ++ (record { caller = k; section = Flush h }) ∷ []) i k page) (after_flush waited after)
  flush_by h [] after on inside since = cc
  flush_by h (x ∷ waited) after on inside since = record {
    place = PurgeReturning (x ∷ waited) after;
    goes = refl;
    there = (
      on,
      record {
        since = taken_more events (record { caller = k; section = Flush h }) i k page since;
        flush = length events;
        flushed = h;
        after = event_low events since.taken k (TakeWaiting since.all) since.takes;
        flushes = event_last events k (Flush h);
        flushed_page = inside;
      },
    );
  }

  -- taken pages are flushed, and then returned
  pub behind_next : (p : Place) (s : Section) → Meets c (ask c p) s → IsLegalAs c m k s → (IsMarked (effect_as c m k s) Free page → ⊥) → IsBehind events i k page p
      → IsLedTo (IsBehind (events ++ (record { caller = k; section = s }) ∷ []) i k page) (next c p s)
  behind_next (PurgeFlushing h waited after) s meets legal taken is =
      subst (λ x. IsLedTo (IsBehind (events ++ (record { caller = k; section = x }) ∷ []) i k page) (next c (PurgeFlushing h waited after) x)) (sym meets) (flush_by h waited after is.0 is.1 is.2)
  behind_next (PurgeReturning waited after) s meets legal taken is = grind (arith, painted)
  behind_next _ s meets legal taken is = absurd is

-- Which pages a caller flushes behind a section: those that it took, or flushed before.

module _ (c : Setup) (m : PlainMap) (k page : ℕ) (Q : Type 0) (of_waiting : covers m.waiting page ≡ true → Q) where
  abbrev IsFlushed : Next → Type 0
  IsFlushed n = OnNext (λ p. covers (flushed p) page ≡ true → Q) n

  pub flushed_next : (p : Place) (s : Section) → Meets c (ask c p) s → IsLegalAs c m k s → (covers (flushed p) page ≡ true → Q) → IsFlushed (next c p s)
  flushed_next (PurgeCollecting extra after) s meets legal was = grind arith
  flushed_next (PurgeFlushing h waited after) s meets legal was = grind arith
  flushed_next p s meets legal was = grind (arith, place_row)
