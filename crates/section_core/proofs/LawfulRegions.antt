-- What a caller that wants the free pages, the live areas, the page map or the waiting spans needs of them, in a world of a run.
use Rattle.std.proofs.Common.{None, ◌∷◌, option_to_list, ◌++◌, All, [], ◌*◌, ◌≡◌, ℕ, ◌+◌, ◌-◌, ◌<◌, ◌≤◌, ◌^◌, true, false, List, length, slice_get, Some, refl, ap, sym, ◌∙◌, subst, arith}
use Rattle.std.proofs.lemmas.Bool.Decides.{nat_tests}
use Rattle.vm_model.specs.Carried.{held, flushed, fresh, leaving}
use Rattle.vm_model.specs.Legal.{OnEach}
use Rattle.std.proofs.lemmas.Option.{slice_get_within}
use Rattle.vm_model.specs.declared.calls.Call.{Call}
use Rattle.vm_model.specs.declared.areas.Span.{Span}
use Rattle.vm_model.specs.Space.{times, span, holds, covers, end_of}
use Rattle.vm_model.specs.Setup.{Setup}
use Rattle.vm_model.specs.PlainMap.{PlainMap, Mark, Held, Flushing, is_free, free_runs}
use Rattle.vm_model.specs.Legal.{IsMarked}
use Rattle.vm_model.specs.Places.{Place, Then, Dropping, MappingArea, SettlingArea, SettlingBlock, UnmappingArea, MappingPart, UnmappingPart, Waiting, PurgeWaiting, PurgeFlushing, PurgeReturning, block_spans}
use Rattle.vm_model.specs.History.{World, Local, most_events}
use Rattle.vm_model.specs.Carried.{IsKept}
use Rattle.vm_model.specs.Parts.{Region, FreeRuns, LiveAreas, WaitingSpans, Pages, regions_of, wants}
use Rattle.vm_model.specs.Run.{StandTogether}
use Rattle.map_parts.specs.KeptByEvents.{IsSoundLocal}
use Rattle.map_laws.proofs.MapLaws.{areas_apart}
use Rattle.map_laws.proofs.TestsAndFilters.{sum_has, covers_one, holds_times, none_covers, times-one, times-append}
use Rattle.vm_model.specs.Areas.{spans_of}
use Rattle.vm_model.specs.declared.areas.Area.{Area}
use Rattle.map_laws.proofs.EndProofs.{histories_short}
use Rattle.callers.specs.CarriedPlaces.{IsWhole, IsFlushed, EndsWithin}
use Rattle.vm_model.specs.Space.{HasEnd}
use Rattle.lazy_purge.specs.WaitingSet.{HasPage}
use Rattle.std.proofs.lemmas.List.Elements.{All-nil, All-cons, All-weaker, All-append}
use Rattle.vm_model.specs.Areas.{mapped_part}
use Rattle.vm_model.specs.declared.areas.AreaKind.{AreaKind}
use Rattle.section_core.specs.StandsWell.{AreRunsOf, IsDroppable, IsDroppedWell, AreReturnable, AreReturnedWell, IsMappable, IsMappedWell, IsUnmappable, IsUnmappedWell, IsFlushedWell, CanWait, IsWaitingWell, IsSettledWell}
use Rattle.section_laws.proofs.NextAreas.{few_areas}
use Rattle.section_laws.proofs.Memory.{memory_reached, pages_reached}
use Rattle.page_pool.specs.PageMap as page_pool
use Rattle.vm_model.specs.Legal as map_bare
use Rattle.vm_model.specs.declared.areas.AreaKind.TheVariants as kind
use Rattle.section_laws.specs.Lawful.{IsRunning, IsLawful}
use Rattle.vm_model.specs.Blocks.{PartAt, first_page, mapped_pages, rounded}
use Rattle.map_parts.specs.KeptByEvents.{IsSoundPlace}
use Rattle.section_core.proofs.LawfulCallers as callers
use Rattle.callers.proofs.Hulls.{hull_within}
use Rattle.section_core.proofs.LawfulCallers.{AreInOneState, in_one_state, region_number, holds_last, holds_front}
use Rattle.section_core.proofs.LawfulBlocks.{part_fits}

-- the part of an area that is mapped lies in it
part_end : (kd : AreaKind) (s : Span) → end_of (mapped_part kd s) ≤ end_of s
part_end kind.Vmalloc s = omega arith
part_end kind.MapRam s = omega arith
part_end (kind.Block cpu) s = omega arith
part_end (kind.Chunk chunk group) s = omega arith

part_in : (kd : AreaKind) (s : Span) (page : ℕ) → holds (mapped_part kd s) page ≡ true → holds s page ≡ true
part_in kind.Vmalloc s page h = holds_front s page h
part_in kind.MapRam s page h = h
part_in (kind.Block cpu) s page h = h
part_in (kind.Chunk chunk group) s page h = h

-- a part's pages are among those that it has of its block
pages_in : (first pages size page : ℕ) → pages ≤ size → holds (span first pages) page ≡ true → holds (span first size) page ≡ true
pages_in first pages size page low h = grind (arith, nat_tests)

-- the spans of blocks have pages
blocks_have_pages : (c : Setup) (gone : List ℕ) → 1 ≤ c.block_pages → All HasPage (block_spans c gone)
blocks_have_pages c [] some = All-nil HasPage
blocks_have_pages c (start ∷ gone) some = All-cons HasPage (span start c.block_pages) (block_spans c gone) some (blocks_have_pages c gone some)

-- a caller of a run
module _ (c : Setup) (opening : List Call) (calls : List (List Call)) (w : World) (is : IsRunning c opening calls w) (k : ℕ) (l : Local) (here : slice_get w.locals k ≡ Some l) where
  sound : IsSoundLocal c w.map k l
  sound = callers.sound c opening calls w is k l here

  kept : IsKept c w
  kept = callers.kept c opening calls w is k l here

  held_here : (page : ℕ) → covers (held l.setup l.place) page ≡ true → slice_get w.map.marks page ≡ Some (Held l.caller)
  held_here = callers.held_here c opening calls w is k l here

  flushed_here : (page : ℕ) → covers (flushed l.place) page ≡ true → slice_get w.map.marks page ≡ Some (Flushing l.caller)
  flushed_here = callers.flushed_here c opening calls w is k l here

  marked_taken : (page : ℕ) (mark : Mark) → slice_get w.map.marks page ≡ Some mark → is_free mark ≡ false → covers (free_runs w.map) page ≡ false
  marked_taken = callers.marked_taken c opening calls w is k l here

  marked_within : (s : Span) (mark : Mark) → 1 ≤ s.pages → ((page : ℕ) → holds s page ≡ true → slice_get w.map.marks page ≡ Some mark) → end_of s ≤ l.setup.space
  marked_within = callers.marked_within c opening calls w is k l here

  all_within : (spans : List Span) (mark : Mark) → All HasPage spans → ((page : ℕ) → covers spans page ≡ true → slice_get w.map.marks page ≡ Some mark) → All (λ (s : Span). end_of s ≤ l.setup.space) spans
  all_within = callers.all_within c opening calls w is k l here

  -- what is dropped is held
  droppable : (s : Span) → l.place ≡ Dropping s → 1 ≤ s.pages → IsDroppable l.setup s (free_runs w.map)
  droppable s at some =
      let marked : (page : ℕ) → holds s page ≡ true → slice_get w.map.marks page ≡ Some (Held l.caller)
      = λ page h. held_here page (ap (λ p. covers (held l.setup p) page) at ∙ covers_one s page ∙ h) in
      record {
        within = marked_within s (Held l.caller) some marked;
        taken = λ page h. marked_taken page (Held l.caller) (marked page h) refl;
      }

  pub dropped_well : IsWhole l.setup l.place → IsDroppedWell l.setup l.place (free_runs w.map)
  dropped_well = by_place l.place refl
    where
      by_place : (p : Place) → l.place ≡ p → IsWhole l.setup p → IsDroppedWell l.setup p (free_runs w.map)
      by_place (Dropping s) at some = droppable s at some
      by_place _ at some = tt

  -- what is returned is being flushed
  returnable : (waited : List Span) (after : Then) → l.place ≡ PurgeReturning waited after → All HasPage waited → AreReturnable l.setup waited (free_runs w.map)
  returnable waited after at some =
      let marked : (page : ℕ) → covers waited page ≡ true → slice_get w.map.marks page ≡ Some (Flushing l.caller)
      = λ page h. flushed_here page (ap (λ p. covers (flushed p) page) at ∙ h) in
      record {
        within = all_within waited (Flushing l.caller) some marked;
        disjoint = λ page.
            let once = (areas_apart c opening calls w is.trace is.reached).once page in
            let mine : times page (flushed l.place) ≡ times page waited = ap (λ p. times page (flushed p)) at in
            omega (arith, sum_has (λ (x : Local). times page (flushed x.place)) w.locals l k here);
        taken = λ page h. marked_taken page (Flushing l.caller) (marked page h) refl;
      }

  pub returned_well : IsWhole l.setup l.place → AreReturnedWell l.setup l.place (free_runs w.map)
  returned_well = by_place l.place refl
    where
      by_place : (p : Place) → l.place ≡ p → IsWhole l.setup p → AreReturnedWell l.setup p (free_runs w.map)
      by_place (PurgeReturning waited after) at some = returnable waited after at some
      by_place _ at some = tt

  abbrev pages : page_pool.Pages
  pages = record { frames = w.map.frames; stale = w.map.stale; cells = w.map.cells }

  pub wide_pages : length w.map.frames ≡ l.setup.space
  wide_pages = pages_reached c opening calls w is.reached ∙ ap (λ (d : Setup). d.space) (sym sound.setup)

  -- what is mapped for an area, and for a part, is bare
  mappable : (s : Span) (kd : AreaKind) → l.place ≡ MappingArea s kd → 1 ≤ s.pages → IsMappable (mapped_part kd s) pages
  mappable s kd at some =
      let bare : (page : ℕ) → holds s page ≡ true → map_bare.IsBare w.map page
      = λ page h. (kept.carried k l here).fresh_bare page (ap (λ p. covers (fresh l.setup p) page) at ∙ covers_one s page ∙ h) in
      record {
        inside =
            let last = slice_get_within w.map.frames (end_of s - 1) None (bare (end_of s - 1) (holds_last s some)).unmapped in
            omega (arith, part_end kd s);
        bare = λ page h. let is = bare page (part_in kd s page h) in record { unmapped = is.unmapped; not_stale = is.not_stale };
      }

  part_mappable : (at : PartAt) → l.place ≡ MappingPart at → IsMappable (mapped_pages at) pages
  part_mappable at e =
      let bare : (page : ℕ) → holds (span (first_page at) (rounded at.pages)) page ≡ true → map_bare.IsBare w.map page
      = λ page h. (kept.carried k l here).fresh_bare page (ap (λ p. covers (fresh l.setup p) page) e ∙ covers_one (span (first_page at) (rounded at.pages)) page ∙ h) in
      let part = subst (IsSoundPlace c w.map k) e sound.place in
      let fits = part_fits c opening calls w is k l here at part in
      record {
        inside = let within = fits.1 in subst (λ n. first_page at + at.pages ≤ n) (sym wide_pages) (subst (λ (d : Setup). first_page at + at.pages ≤ d.space) (sym sound.setup) within);
        bare = λ page h. let is = bare page (pages_in (first_page at) at.pages (rounded at.pages) page fits.0 h) in record { unmapped = is.unmapped; not_stale = is.not_stale };
      }

  pub mapped_well : IsWhole l.setup l.place → IsMappedWell l.place pages
  mapped_well = by_place l.place refl
    where
      by_place : (p : Place) → l.place ≡ p → IsWhole l.setup p → IsMappedWell p pages
      by_place (MappingArea s kd) at some = mappable s kd at some
      by_place (MappingPart part) at some = part_mappable part at
      by_place _ at some = tt

  -- what is unmapped for an area, and for a part, is mapped
  unmappable : (a : Area) → l.place ≡ UnmappingArea a → 1 ≤ a.span.pages → IsUnmappable (mapped_part a.kind a.span) pages
  unmappable a at some =
      let marked : (page : ℕ) → holds a.span page ≡ true → slice_get w.map.marks page ≡ Some (Held l.caller)
      = λ page h. held_here page (ap (λ p. covers (held l.setup p) page) at ∙ covers_one a.span page ∙ h) in
      record {
        inside = let within = marked_within a.span (Held l.caller) some marked in omega (arith, part_end a.kind a.span, wide_pages);
        mapped = λ page h. (kept.carried k l here).leaving_mapped page (ap (λ p. covers (leaving p) page) at ∙ covers_one (mapped_part a.kind a.span) page ∙ h);
      }

  part_unmappable : (at : PartAt) → l.place ≡ UnmappingPart at → IsUnmappable (mapped_pages at) pages
  part_unmappable at e =
      let part = subst (IsSoundPlace c w.map k) e sound.place in
      let fits = part_fits c opening calls w is k l here at part in
      record {
        inside = let within = fits.1 in subst (λ n. first_page at + at.pages ≤ n) (sym wide_pages) (subst (λ (d : Setup). first_page at + at.pages ≤ d.space) (sym sound.setup) within);
        mapped = λ page h. (kept.carried k l here).leaving_mapped page (ap (λ p. covers (leaving p) page) e ∙ covers_one (mapped_pages at) page ∙ h);
      }

  pub unmapped_well : IsWhole l.setup l.place → IsUnmappedWell l.place pages
  unmapped_well = by_place l.place refl
    where
      by_place : (p : Place) → l.place ≡ p → IsWhole l.setup p → IsUnmappedWell p pages
      by_place (UnmappingArea a) at some = (some, unmappable a at some)
      by_place (UnmappingPart part) at some = part_unmappable part at
      by_place _ at some = tt

  -- what is flushed lies in the space
  flushable : (s : Span) (waited : List Span) (after : Then) → l.place ≡ PurgeFlushing s waited after → IsFlushed l.setup.space s waited → end_of s ≤ length pages.frames
  flushable s waited after at whole =
      let marked : (page : ℕ) → covers waited page ≡ true → slice_get w.map.marks page ≡ Some (Flushing l.caller)
      = λ page h. flushed_here page (ap (λ p. covers (flushed p) page) at ∙ h) in
      subst (λ n. end_of s ≤ n) (sym wide_pages)
      (hull_within l.setup.space (waited ++ option_to_list whole.extra) s (All-append (EndsWithin l.setup.space) waited (option_to_list whole.extra) (all_within waited (Flushing l.caller) whole.pages marked) whole.within) whole.hull)

  pub flushed_well : IsWhole l.setup l.place → IsFlushedWell l.place pages
  flushed_well = by_place l.place refl
    where
      by_place : (p : Place) → l.place ≡ p → IsWhole l.setup p → IsFlushedWell p pages
      by_place (PurgeFlushing s waited after) at whole = flushable s waited after at whole
      by_place _ at some = tt

  -- what is settled is no live area's yet
  unused : (s : Span) → held l.setup l.place ≡ s ∷ [] → (page : ℕ) → holds s page ≡ true → covers (spans_of w.map.areas) page ≡ false
  unused s at page h =
      let once = (areas_apart c opening calls w is.trace is.reached).once page in
      let mine : times page (held l.setup l.place) ≡ 1 = ap (times page) at ∙ times-one page s ∙ holds_times s page h in
      none_covers page (spans_of w.map.areas) (omega (arith, sum_has (λ (x : Local). times page (held x.setup x.place)) w.locals l k here))

  pub settled_well : IsSettledWell l.place w.map.areas
  settled_well = by_place l.place refl
    where
      by_place : (p : Place) → l.place ≡ p → IsSettledWell p w.map.areas
      by_place (SettlingArea s kd) at = unused s (ap (held l.setup) at)
      by_place (SettlingBlock s cpu own) at = unused s (ap (held l.setup) at)
      by_place _ at = tt

  -- what is to wait is held, and shares no page with what waits
  waitable : (spans : List Span) → held l.setup l.place ≡ spans → All HasPage spans → CanWait spans w.map.waiting
  waitable spans at some =
      let marked : (page : ℕ) → covers spans page ≡ true → slice_get w.map.marks page ≡ Some (Held l.caller)
      = λ page h. held_here page (ap (λ own. covers own page) at ∙ h) in
      record {
        some = some;
        ends = let space : l.setup.space ≤ 1048576 = subst (λ (d : Setup). d.space ≤ 1048576) (sym sound.setup) is.trace.setup.space_high in
            All-weaker (λ (s : Span). end_of s ≤ l.setup.space) HasEnd (λ s low. omega arith) spans (all_within spans (Held l.caller) some marked);
        disjoint = λ page.
            let once = (areas_apart c opening calls w is.trace is.reached).once page in
            let mine : times page (held l.setup l.place) ≡ times page spans = ap (times page) at in
            omega (arith, times-append page w.map.waiting spans, sum_has (λ (x : Local). times page (held x.setup x.place)) w.locals l k here);
      }

  pub waiting_well : IsWhole l.setup l.place → IsWaitingWell l.setup l.place w.map.waiting
  waiting_well = by_place l.place refl
    where
      by_place : (p : Place) → l.place ≡ p → IsWhole l.setup p → IsWaitingWell l.setup p w.map.waiting
      by_place (Waiting spans after) at some = waitable spans (ap (held l.setup) at) some
      by_place (PurgeWaiting gone extra after) at some = waitable (block_spans l.setup gone) (ap (held l.setup) at) (blocks_have_pages l.setup gone (let low : 8 ≤ l.setup.block_pages = subst (λ (d : Setup). 8 ≤ d.block_pages) (sym sound.setup) is.trace.setup.block_low in omega arith))
      by_place _ at some = tt

  pub memory_here : length w.map.cells ≡ 1024 * l.setup.frames
  memory_here = memory_reached c opening calls w is.reached ∙ ap (λ (d : Setup). 1024 * d.frames) (sym sound.setup)

-- the region that has the free blocks has those of the world
pub free_there : (c : Setup) (m : PlainMap) (n : ℕ) (blocks : List Span) → slice_get (regions_of c m) n ≡ Some (FreeRuns blocks) → free_runs m ≡ blocks
free_there c m n blocks h =
    let e = region_number c m n (FreeRuns blocks) h in
    let at : Some (FreeRuns (free_runs m)) ≡ Some (FreeRuns blocks) = sym (ap (slice_get (regions_of c m)) e) ∙ h in
    cc

pub runs_there : (l : Local) (blocks : List Span) → StandTogether wants IsLawful l (FreeRuns blocks) → AreRunsOf l.setup blocks
runs_there l blocks st = let s = in_one_state l (FreeRuns blocks) st in
    subst (AreRunsOf l.setup) (free_there s.c s.w.map s.number blocks s.there) (callers.free_blocks s.c s.opening s.calls s.w s.running s.k l s.here)

pub dropped_there : (l : Local) (blocks : List Span) → StandTogether wants IsLawful l (FreeRuns blocks) → IsWhole l.setup l.place → IsDroppedWell l.setup l.place blocks
dropped_there l blocks st whole = let s = in_one_state l (FreeRuns blocks) st in
    subst (IsDroppedWell l.setup l.place) (free_there s.c s.w.map s.number blocks s.there) (dropped_well s.c s.opening s.calls s.w s.running s.k l s.here whole)

pub returned_there : (l : Local) (blocks : List Span) → StandTogether wants IsLawful l (FreeRuns blocks) → IsWhole l.setup l.place → AreReturnedWell l.setup l.place blocks
returned_there l blocks st whole = let s = in_one_state l (FreeRuns blocks) st in
    subst (AreReturnedWell l.setup l.place) (free_there s.c s.w.map s.number blocks s.there) (returned_well s.c s.opening s.calls s.w s.running s.k l s.here whole)

abbrev pages_held : Region → page_pool.Pages
pages_held (Pages frames stale cells) = record { frames = frames; stale = stale; cells = cells }
pages_held _ = record { frames = []; stale = []; cells = [] }

-- the region that has the page map has that of the world
pub pages_there : (c : Setup) (m : PlainMap) (n : ℕ) (p : page_pool.Pages) → slice_get (regions_of c m) n ≡ Some (Pages p.frames p.stale p.cells) → record { frames = m.frames; stale = m.stale; cells = m.cells } ≡ p
pages_there c m n p h =
    let e = region_number c m n (Pages p.frames p.stale p.cells) h in
    let at : Some (Pages m.frames m.stale m.cells) ≡ Some (Pages p.frames p.stale p.cells) = sym (ap (slice_get (regions_of c m)) e) ∙ h in
    let same : Pages m.frames m.stale m.cells ≡ Pages p.frames p.stale p.cells = cc in
    ap pages_held same

-- of the place and the pages, whatever the world's facts give
module _ (l : Local) (pages : page_pool.Pages) (st : StandTogether wants IsLawful l (Pages pages.frames pages.stale pages.cells)) (whole : IsWhole l.setup l.place) where
  pub mapped_there : IsMappedWell l.place pages
  mapped_there = let s = in_one_state l (Pages pages.frames pages.stale pages.cells) st in
      subst (IsMappedWell l.place) (pages_there s.c s.w.map s.number pages s.there) (mapped_well s.c s.opening s.calls s.w s.running s.k l s.here whole)

  pub unmapped_there : IsUnmappedWell l.place pages
  unmapped_there = let s = in_one_state l (Pages pages.frames pages.stale pages.cells) st in
      subst (IsUnmappedWell l.place) (pages_there s.c s.w.map s.number pages s.there) (unmapped_well s.c s.opening s.calls s.w s.running s.k l s.here whole)

  pub flushed_there : IsFlushedWell l.place pages
  flushed_there = let s = in_one_state l (Pages pages.frames pages.stale pages.cells) st in
      subst (IsFlushedWell l.place) (pages_there s.c s.w.map s.number pages s.there) (flushed_well s.c s.opening s.calls s.w s.running s.k l s.here whole)

pub memory_there : (l : Local) (pages : page_pool.Pages) → StandTogether wants IsLawful l (Pages pages.frames pages.stale pages.cells) → length pages.cells ≡ 1024 * l.setup.frames
memory_there l pages st = let s = in_one_state l (Pages pages.frames pages.stale pages.cells) st in
    ap (λ (p : page_pool.Pages). length p.cells) (sym (pages_there s.c s.w.map s.number pages s.there)) ∙ memory_here s.c s.opening s.calls s.w s.running s.k l s.here

pub pages_wide_there : (l : Local) (pages : page_pool.Pages) → StandTogether wants IsLawful l (Pages pages.frames pages.stale pages.cells) → length pages.frames ≡ l.setup.space
pages_wide_there l pages st = let s = in_one_state l (Pages pages.frames pages.stale pages.cells) st in
    ap (λ (p : page_pool.Pages). length p.frames) (sym (pages_there s.c s.w.map s.number pages s.there)) ∙ wide_pages s.c s.opening s.calls s.w s.running s.k l s.here

abbrev pub areas_held : Region → List Area
areas_held (LiveAreas areas next) = areas
areas_held _ = []

-- the region that has the live areas has those of the world
pub areas_there : (c : Setup) (m : PlainMap) (n : ℕ) (areas : List Area) (next : ℕ) → slice_get (regions_of c m) n ≡ Some (LiveAreas areas next) → m.areas ≡ areas
areas_there c m n areas next h =
    let e = region_number c m n (LiveAreas areas next) h in
    let at : Some (LiveAreas m.areas m.next_area) ≡ Some (LiveAreas areas next) = sym (ap (slice_get (regions_of c m)) e) ∙ h in
    let same : LiveAreas m.areas m.next_area ≡ LiveAreas areas next = cc in
    ap areas_held same

abbrev next_held : Region → ℕ
next_held (LiveAreas areas next) = next
next_held _ = 0

-- there are serials left for the areas to come
pub serials_there : (l : Local) (areas : List Area) (next : ℕ) → StandTogether wants IsLawful l (LiveAreas areas next) → next + 1 < 2 ^ 32
serials_there l areas next st = let s = in_one_state l (LiveAreas areas next) st in
    let e = region_number s.c s.w.map s.number (LiveAreas areas next) s.there in
    let at : Some (LiveAreas s.w.map.areas s.w.map.next_area) ≡ Some (LiveAreas areas next) = sym (ap (slice_get (regions_of s.c s.w.map)) e) ∙ s.there in
    let same : LiveAreas s.w.map.areas s.w.map.next_area ≡ LiveAreas areas next = cc in
    let is : s.w.map.next_area ≡ next = ap next_held same in
    let few = few_areas s.c s.opening s.calls s.w s.running.trace.setup s.running.reached in
    let short : length s.w.events < most_events = histories_short s.c s.opening s.calls s.w s.running.trace s.running.reached in
    omega arith

pub settled_there : (l : Local) (areas : List Area) (next : ℕ) → StandTogether wants IsLawful l (LiveAreas areas next) → IsSettledWell l.place areas
settled_there l areas next st = let s = in_one_state l (LiveAreas areas next) st in
    subst (IsSettledWell l.place) (areas_there s.c s.w.map s.number areas next s.there) (settled_well s.c s.opening s.calls s.w s.running s.k l s.here)

abbrev waiting_held : Region → List Span
waiting_held (WaitingSpans spans) = spans
waiting_held _ = []

-- the region that has the waiting spans has those of the world
pub waiting_there : (c : Setup) (m : PlainMap) (n : ℕ) (spans : List Span) → slice_get (regions_of c m) n ≡ Some (WaitingSpans spans) → m.waiting ≡ spans
waiting_there c m n spans h =
    let e = region_number c m n (WaitingSpans spans) h in
    let at : Some (WaitingSpans m.waiting) ≡ Some (WaitingSpans spans) = sym (ap (slice_get (regions_of c m)) e) ∙ h in
    let same : WaitingSpans m.waiting ≡ WaitingSpans spans = cc in
    ap waiting_held same

pub can_wait_there : (l : Local) (spans : List Span) → StandTogether wants IsLawful l (WaitingSpans spans) → IsWhole l.setup l.place → IsWaitingWell l.setup l.place spans
can_wait_there l spans st whole = let s = in_one_state l (WaitingSpans spans) st in
    subst (IsWaitingWell l.setup l.place) (waiting_there s.c s.w.map s.number spans s.there) (waiting_well s.c s.opening s.calls s.w s.running s.k l s.here whole)
