-- Sections that leave areas and what waits, and the places that they lead to.
use Rattle.std.proofs.Common.{◌≡◌, ℕ, ◌+◌, ◌≤◌, Bool, true, false, not, if◌then◌else◌, List, [], ◌∷◌, length, filter, slice_get, sum_by, Option, Some, refl, ap, sym, ◌∙◌, arith}
use Rattle.std.proofs.lemmas.List.Sums.{sum_by-cons}
use Rattle.std.proofs.lemmas.List.Filters.{sum_by-filter_both}
use Rattle.vm_model.specs.declared.areas.Area.{Area}
use Rattle.vm_model.specs.Space.{holds, covers, one_if, times, paint}
use Rattle.vm_model.specs.Setup.{Setup}
use Rattle.vm_model.specs.PlainMap.{PlainMap, Mark, Free, Held, Live, Waits, Flushing, is_free}
use Rattle.vm_model.specs.Areas.{spans_of}
use Rattle.vm_model.specs.Legal.{IsMarked, IsUnmapped, IsBare}
use Rattle.vm_model.specs.Events.{Section, Carve, CarveGroups, Drop, Return, Settle, Remove, Unlink, Wait, TakeWaiting, MapPages, Populate, Fill, Unmap, Depopulate, Flush}
use Rattle.vm_model.specs.Effects.{effect_as}
use Rattle.vm_model.specs.Places.{Place, UnlinkingGroups, UnlinkingBlock, PurgeUnlinking, UnmappingArea, Finding, FindingAgain, MappingArea, Removing, PurgeCollecting, PurgeFlushing, Ask, AskSearch, AskDrop, AskReturn, AskSettle, AskRemove, AskUnlink, AskWait, AskTakeWaiting, AskMap, AskPopulate, AskFill, AskUnmap, AskDepopulate}
use Rattle.vm_model.specs.Carried.{held, flushed}
use Rattle.vm_model.specs.Laws.{as_free}
use Rattle.vm_model.proofs.Paint.{slice_get-paint, length-paint_from}
use Rattle.map_laws.proofs.TestsAndFilters.{by_test, not_true, sum_has, times-cons, covers_times, covers_one}
use Rattle.map_laws.proofs.areas.AreaFacts.{touch, IsSame, untouched, IsPageFine, IsMapFine, own_uses, area_stays, page_stays, IsUnbearing}
use Rattle.vm_model.specs.Next.{next}
use Rattle.vm_model.specs.LegalHistory.{Meets}
use Rattle.map_laws.proofs.PlaceRows.{place_row}
use Rattle.map_laws.proofs.AskRows.{ask_row}
use Rattle.map_laws.proofs.ProperPlaces.{OnNext}

-- What a section keeps of the map where it touches pages that its caller holds, flushes, or finds free.

-- Pages by their marks.

pub held_fine : (m : PlainMap) (k page : ℕ) → IsMarked m (Held k) page → IsPageFine m page
held_fine m k page h = record { free = λ e. cc; waiting = λ e. cc; flushing = λ j e. cc }

pub live_fine : (m : PlainMap) (serial page : ℕ) → IsMarked m (Live serial) page → IsPageFine m page
live_fine m serial page h = record { free = λ e. cc; waiting = λ e. cc; flushing = λ j e. cc }

pub free_fine : (m : PlainMap) (page : ℕ) → IsMarked m Free page → IsBare m page → IsPageFine m page
free_fine m page h bare = record { free = λ e. bare; waiting = λ e. cc; flushing = λ j e. cc }

pub waits_fine : (m : PlainMap) (page : ℕ) → IsMarked m Waits page → IsUnmapped m page → IsPageFine m page
waits_fine m page h none = record { free = λ e. cc; waiting = λ e. none; flushing = λ j e. cc }

pub flushing_fine : (m : PlainMap) (k page : ℕ) → IsMarked m (Flushing k) page → IsUnmapped m page → IsPageFine m page
flushing_fine m k page h none = record { free = λ e. cc; waiting = λ e. cc; flushing = λ j e. none }

pub free_one : (m : PlainMap) (page : ℕ) → IsMarked m Free page → as_free (slice_get m.marks page) ≡ 1
free_one m page h = ap as_free h

-- painting with another mark than Free takes pages from the free ones
pub painted_free : (test : ℕ → Bool) (mark : Mark) (marks : List Mark) (page : ℕ) → is_free mark ≡ false
    → as_free (slice_get (paint test mark marks) page) ≡ (if test page then 0 else as_free (slice_get marks page))
painted_free test mark marks page e = grind (arith, slice_get-paint)

-- painting with Free frees at most the pages that are painted
pub freed_le : (test : ℕ → Bool) (marks : List Mark) (page : ℕ) → as_free (slice_get (paint test Free marks) page) ≤ one_if (test page) + as_free (slice_get marks page)
freed_le test marks page = grind (arith, slice_get-paint)

-- Areas.

pub times_areas : (page : ℕ) (areas : List Area) → times page (spans_of areas) ≡ sum_by (λ (a : Area). one_if (holds a.span page)) areas
times_areas page [] = refl
times_areas page (a ∷ areas) = omega (arith, times-cons page a.span (spans_of areas), sum_by-cons (λ (a : Area). one_if (holds a.span page)) a areas, times_areas page areas)

pub area_times : (page : ℕ) (areas : List Area) (i : ℕ) (a : Area) → slice_get areas i ≡ Some a → covers (a.span ∷ []) page ≡ true → 1 ≤ times page (spans_of areas)
area_times page areas i a h e = grind (arith, covers_one, sum_has, times_areas)

-- what a filter keeps and what it leaves out
pub times_both : (page : ℕ) (p q : Area → Bool) (other : (a : Area) → q a ≡ not (p a)) (areas : List Area)
    → times page (spans_of (filter p areas)) + times page (spans_of (filter q areas)) ≡ times page (spans_of areas)
times_both page p q other areas = grind (arith, times_areas, sum_by-filter_both)

-- Sections that leave the areas and what waits.

module _ (c : Setup) (m : PlainMap) (k : ℕ) (p : Place) (s : Section) (fine : IsMapFine m) (once : (page : ℕ) → own_uses c m p page ≤ 1) where
  -- the pages that it touches are held, flushed or free
  pub record IsOuter : Type 0 where
    pub areas : (effect_as c m k s).areas ≡ m.areas
    pub waiting : (effect_as c m k s).waiting ≡ m.waiting
    pub long : length (effect_as c m k s).stale ≡ length (effect_as c m k s).frames
    pub source : (page : ℕ) → touch c m s page ≡ true → 1 ≤ times page (held c p) + times page (flushed p) + as_free (slice_get m.marks page)
    pub touched : (page : ℕ) → touch c m s page ≡ true → IsPageFine (effect_as c m k s) page

  pub page_by : (page : ℕ) → (touch c m s page ≡ true → IsPageFine (effect_as c m k s) page) → IsPageFine (effect_as c m k s) page
  page_by page touched = by_test (touch c m s page) touched (λ e. page_stays m (effect_as c m k s) page (untouched c m k s page e) (fine.pages page))

  -- a page that is touched and counts elsewhere too would count twice
  pub outer_map : IsOuter → IsMapFine (effect_as c m k s)
  outer_map is = record {
    areas = λ i a h. let was : slice_get m.areas i ≡ Some a = ap (λ l. slice_get l i) (sym is.areas) ∙ h in
        area_stays m (effect_as c m k s) a (λ page e. untouched c m k s page (not_true _ (λ t. let n = is.source page t in let o = once page in let q = area_times page m.areas i a was e in omega arith))) (fine.areas i a was);
    waits = λ page e. let was : covers m.waiting page ≡ true = ap (λ l. covers l page) (sym is.waiting) ∙ e in
        (untouched c m k s page (not_true _ (λ t. let n = is.source page t in let o = once page in let q = covers_times page m.waiting was in omega arith))).mark ∙ fine.waits page was;
    long = is.long;
    pages = λ page. page_by page (is.touched page);
  }

-- The places behind which nothing is held or flushed, and the sections that leave marks, frames, areas and what waits.

abbrev pub leads_bearing : Place → Bool
leads_bearing (Finding search aim) = true
leads_bearing (FindingAgain search aim) = true
leads_bearing (MappingArea place own) = true
leads_bearing (Removing start serial) = true
leads_bearing (UnmappingArea area) = true
leads_bearing (PurgeUnlinking gone extra after) = true
leads_bearing (UnlinkingBlock start reply) = true
leads_bearing (UnlinkingGroups base) = true
leads_bearing (PurgeCollecting extra after) = true
leads_bearing (PurgeFlushing hull waited after) = true
leads_bearing _ = false

-- sections that leave marks, frames, areas and what waits
abbrev pub is_quiet : Section → Bool
is_quiet (Carve place align) = false
is_quiet (CarveGroups base) = false
is_quiet (Drop p) = false
is_quiet (Return spans) = false
is_quiet (Settle areas first) = false
is_quiet (Remove start serial area) = false
is_quiet (Unlink starts) = false
is_quiet (Wait spans waiting) = false
is_quiet (TakeWaiting all) = false
is_quiet (MapPages p) = false
is_quiet (Populate at missing) = false
is_quiet (Fill base page) = false
is_quiet (Unmap p) = false
is_quiet (Depopulate base pages) = false
is_quiet _ = true

pub record IsQuiet (c : Setup) (m m' : PlainMap) (s : Section) : Type 0 where
  pub marks : m'.marks ≡ m.marks
  pub areas : m'.areas ≡ m.areas
  pub waiting : m'.waiting ≡ m.waiting
  pub long : length m.stale ≡ length m.frames → length m'.stale ≡ length m'.frames
  pub untouching : (page : ℕ) → touch c m s page ≡ false

pub quiet : (c : Setup) (m : PlainMap) (k : ℕ) (s : Section) → is_quiet s ≡ true → IsQuiet c m (effect_as c m k s) s
quiet c m k s h = grind (arith, length-paint_from)

abbrev pub asks_quiet : Ask → Bool
asks_quiet (AskSearch search) = false
asks_quiet (AskDrop p) = false
asks_quiet (AskReturn spans) = false
asks_quiet (AskSettle areas) = false
asks_quiet (AskRemove start serial) = false
asks_quiet (AskUnlink starts) = false
asks_quiet (AskWait spans) = false
asks_quiet AskTakeWaiting = false
asks_quiet (AskMap p) = false
asks_quiet (AskPopulate at missing) = false
asks_quiet (AskFill base page) = false
asks_quiet (AskUnmap p) = false
asks_quiet (AskDepopulate base pages) = false
asks_quiet _ = true

module _ (c : Setup) where
  pub unbearing_next : (p : Place) (s : Section) → leads_bearing p ≡ false → OnNext IsUnbearing (next c p s)
  unbearing_next p s h = grind (arith, place_row)

  pub given_quiet : (a : Ask) (s : Section) → asks_quiet a ≡ true → Meets c a s → is_quiet s ≡ true
  given_quiet a s h w = grind (arith, ask_row)
