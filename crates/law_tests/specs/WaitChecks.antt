-- Pages wait before they are used again: as tests on the events of a history.
use Rattle.std.specs.Prelude.{ℕ, suc, ◌-◌, Bool, false, not, ◌&&◌, ◌||◌, ◌==◌, List, [], ◌∷◌, length, slice_get, Option, Some, None}
use Rattle.std.specs.List.{list_all, list_any}
use Rattle.vm_model.specs.Space.{holds, covers, count_from}
use Rattle.vm_model.specs.Setup.{Setup, groups_at}
use Rattle.vm_model.specs.PlainMap.{PlainMap, Free}
use Rattle.vm_model.specs.Events.{Section, Event, Carve, CarveGroups, Drop, Return, Wait, TakeWaiting, Flush}
use Rattle.law_tests.specs.Machines.{Machine}
use Rattle.law_tests.specs.PageChecks.{on_pages, unmapped, marked}

-- the maps before the first event, and behind each
abbrev pub maps_from : Machine → Setup → PlainMap → List Event → List PlainMap
maps_from d c m [] = m ∷ []
maps_from d c m (e ∷ events) = m ∷ maps_from d c (d.does c m e.caller e.section) events

-- a test on the event, or on the map, with a number
abbrev pub event_is : (ℕ → Section → Bool) → Option Event → Bool
event_is test None = false
event_is test (Some e) = test e.caller e.section

abbrev pub map_is : (PlainMap → Bool) → Option PlainMap → Bool
map_is test None = false
map_is test (Some m) = test m

-- sections that name the page
abbrev pub waits_with : ℕ → Section → Bool
waits_with page (Wait spans waiting) = covers spans page
waits_with page _ = false

abbrev pub takes_with : ℕ → Section → Bool
takes_with page (TakeWaiting all) = covers all page
takes_with page _ = false

abbrev pub flushes_with : ℕ → Section → Bool
flushes_with page (Flush s) = holds s page
flushes_with page _ = false

abbrev pub returns_with : ℕ → Section → Bool
returns_with page (Return spans) = covers spans page
returns_with page _ = false

abbrev pub drops_with : ℕ → Section → Bool
drops_with page (Drop s) = holds s page
drops_with page _ = false

abbrev pub carves_with : Setup → ℕ → Section → Bool
carves_with c page (Carve place align) = holds place page
carves_with c page (CarveGroups base) = covers (groups_at c base) page
carves_with c page _ = false

-- the numbers from one on that are below another
abbrev pub between : ℕ → ℕ → List ℕ
between low high = count_from (high - low) low

module _ (c : Setup) (events : List Event) (maps : List PlainMap) where
  abbrev pub does_at : ℕ → (ℕ → Section → Bool) → Bool
  does_at i test = event_is test (slice_get events i)

  abbrev pub by : ℕ → (Section → Bool) → ℕ → Section → Bool
  by own test caller s = (caller == own) && test s

  abbrev pub is_free_after : ℕ → ℕ → Bool
  is_free_after page n = map_is (λ m. marked m Free page) (slice_get maps n)

  abbrev pub is_freed_at : ℕ → ℕ → Bool
  is_freed_at page k = not (is_free_after page k) && is_free_after page (suc k)

  -- a caller took the page after event i, then flushed it, and returns it by event k
  abbrev pub is_returned_by : (page i k caller : ℕ) → Bool
  is_returned_by page i k caller = does_at k (by caller (returns_with page))
      && list_any (λ taken. does_at taken (by caller (takes_with page)) && list_any (λ flush. does_at flush (by caller (flushes_with page))) (between (suc taken) k)) (between (suc i) k)

  abbrev pub returner : Option Event → (ℕ → Bool) → Bool
  returner None test = false
  returner (Some e) test = test e.caller

  abbrev pub is_returned : (page i k : ℕ) → Bool
  is_returned page i k = returner (slice_get events k) (is_returned_by page i k)

  abbrev pub is_dropped_by : (page k caller : ℕ) → Bool
  is_dropped_by page k caller = does_at k (by caller (drops_with page))
      && list_any (λ carve. does_at carve (by caller (carves_with c page)) && list_all (λ n. map_is (λ m. unmapped m page) (slice_get maps n)) (between (suc carve) (suc k))) (between 0 k)

  abbrev pub is_dropped : (page k : ℕ) → Bool
  is_dropped page k = returner (slice_get events k) (is_dropped_by page k)

  -- event i makes the page wait, and it isn't free from there up to event k
  abbrev pub waits_from : (page i k : ℕ) → Bool
  waits_from page i k = does_at i (λ caller s. waits_with page s) && list_all (λ n. not (is_free_after page n)) (between (suc i) (suc k))

  abbrev pub is_freed_well : (page k : ℕ) → Bool
  is_freed_well page k = (is_dropped page k || list_any (λ i. waits_from page i k && is_returned page i k) (between 0 k)) && list_all (λ i. not (waits_from page i k) || is_returned page i k) (between 0 k)

  abbrev pub are_freed_well : Bool
  are_freed_well = list_all (λ k. on_pages c (λ page. not (is_freed_at page k) || is_freed_well page k)) (count_from (length events) 0)
