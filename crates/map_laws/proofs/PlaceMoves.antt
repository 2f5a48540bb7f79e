-- What the sections of searches, areas and waits do to the pages that their caller holds, and to the map.
use Rattle.std.proofs.Common.{◌≡◌, ℕ, zero, suc, ◌+◌, ◌-◌, ◌<◌, ◌≤◌, ◌⊎◌, inl, inr, Bool, true, false, not, if◌then◌else◌, List, [], ◌∷◌, length, slice_get, slice_set, Option, Some, option_map, refl, ap, sym, ◌∙◌, arith, drop, length-set, ◌||◌, ◌++◌, None, option_to_list, subst}
use Rattle.std.proofs.lemmas.Bool.Decides.{nat_tests}
use Rattle.std.proofs.lemmas.Option.{slice_get-map, slice_get_within}
pub use Rattle.vm_model.proofs.FramesGiven.{length-give_frames}
use Rattle.vm_model.proofs.Elements.{slice_get-drop}
use Rattle.vm_model.proofs.FreePlaces.{begins_free-at}
use Rattle.vm_model.proofs.Search.{length-count_from}
use Rattle.vm_model.specs.declared.areas.Span.{Span}
use Rattle.vm_model.specs.declared.areas.AreaKind.TheVariants as kind
use Rattle.vm_model.specs.declared.areas.AreaKind.{AreaKind}
use Rattle.vm_model.specs.Space.{span, holds, covers, is_among, one_if, times, paint, pages_of, count_from, lowest, begins_free, hull}
use Rattle.vm_model.specs.Setup.{Setup, groups_at}
use Rattle.vm_model.specs.PlainMap.{PlainMap, Mark, Free, Held, is_free, taken, Waits, Flushing}
use Rattle.vm_model.specs.Areas.{spans_of, mapped_part}
use Rattle.vm_model.specs.Legal.{OnEach, IsMarked, IsBare, IsLegalAs, IsUnmapped}
use Rattle.vm_model.specs.Events.{Section, Carve, CarveGroups, Drop, Return, Wait, TakeWaiting, MapPages, Unmap, Flush, NoFrames}
use Rattle.vm_model.specs.Effects.{effect_as}
use Rattle.vm_model.specs.Places.{Place, MappingArea, Dropping, SettlingBlock, SettlingGroups, PurgeReturning, Then, SettlingArea, UnmappingArea, Waiting, PurgeFlushing, PurgeGiving, PurgeCollecting}
use Rattle.vm_model.specs.Next.{Next, Go, after_flush, after_collecting}
use Rattle.vm_model.specs.Laws.{as_free}
use Rattle.vm_model.specs.Frames.{give_frames, free_frames}
use Rattle.map_laws.proofs.KeptThroughSteps.{same_or, set_same, set_other, there}
use Rattle.map_laws.proofs.ProperPlaces.{OnNext}
use Rattle.map_laws.proofs.TestsAndFilters.{not_true, times-one, covers_times, in_spans, InSpans, covers_one, holds_to, hull_is, covers_append, times-append, holds_from}
use Rattle.map_laws.proofs.areas.AreaFacts.{touch, painted, IsSame, ungiven, outside_row, untouched, painted_still, IsHolding, IsMapFine, own_uses, next_uses, holds_nothing, nothing_claimed, IsUnbearing, guard_part, mapped_within, mapped_covers, guard_covers, guard_apart, area_stays}
use Rattle.map_laws.proofs.Quiet.{IsOuter, outer_map, held_fine, free_fine, free_one, painted_free, freed_le, is_quiet, quiet, page_by, waits_fine, flushing_fine, area_times}
use Rattle.map_laws.proofs.SearchEnds.{lowest_fit}
use Rattle.vm_model.specs.declared.areas.Area.{Area}
use Rattle.vm_model.specs.Carried.{held, flushed}
use Rattle.vm_model.proofs.Paint.{length-paint_from}

-- what a section at a place does, where its caller goes on to the given next
pub record IsMoved (c : Setup) (m : PlainMap) (k : ℕ) (p : Place) (s : Section) (n : Next) : Type 0 where
  pub source : (page : ℕ) → touch c m s page ≡ true → 1 ≤ own_uses c m p page
  pub uses : (page : ℕ) → next_uses c (effect_as c m k s) n page ≤ own_uses c m p page
  pub own : OnNext (IsHolding c (effect_as c m k s) k) n
  pub fine : IsMapFine (effect_as c m k s)

-- The pages that a search finds are free.

free_mark : (o : Option Mark) → option_map (λ mark. not (is_free mark)) o ≡ Some false → o ≡ Some Free
free_mark o h = grind (arith, nat_tests)

-- a row of free places in the map
pub free_row : (m : PlainMap) (start n page : ℕ) → begins_free n (drop start (taken m)) ≡ true → holds (span start n) page ≡ true → IsMarked m Free page
free_row m start n page h e =
    let r = holds_to (span start n) page e in
    let i : start + (page - start) ≡ page = omega arith in
    let there = begins_free-at n (drop start (taken m)) (page - start) h (omega arith) in
    free_mark (slice_get m.marks page) (sym (slice_get-map (λ mark. not (is_free mark)) m.marks page) ∙ ap (slice_get (taken m)) (sym i) ∙ sym (slice_get-drop start (taken m) (page - start)) ∙ there)

pub place_free : (m : PlainMap) (place : Span) (align page : ℕ) → lowest (taken m) place.pages align ≡ Some place.start → holds place page ≡ true → IsMarked m Free page
place_free m place align page e h = free_row m place.start place.pages page (lowest_fit (taken m) place.pages align place.start e).1 h

pub free_there : (o : Option Mark) → 1 ≤ as_free o → o ≡ Some Free
free_there o h = grind (arith, nat_tests)

-- frames that pages get
pub given_still : (pages free : List ℕ) (frames : List (Option ℕ)) (page f : ℕ) → slice_get frames page ≡ Some (Some f) → (g : ℕ) × (slice_get (give_frames pages free frames) page ≡ Some (Some g))
given_still [] free frames page f h = (f, h)
given_still (p ∷ pages) [] frames page f h = (f, h)
given_still (p ∷ pages) (frame ∷ free) frames page f h =
    grind (arith, given_still pages free (slice_set frames p (Some frame)) page frame, given_still pages free (slice_set frames p (Some frame)) page f, same_or, set_same, set_other, nat_tests)

in_cons : (page p : ℕ) (pages : List ℕ) → is_among (p ∷ pages) page ≡ true → (page ≡ p) ⊎ (is_among pages page ≡ true)
in_cons page p pages h = grind (arith, nat_tests)

pub given_all : (pages free : List ℕ) (frames : List (Option ℕ)) (page : ℕ) (x : Option ℕ) → is_among pages page ≡ true → length pages ≤ length free → slice_get frames page ≡ Some x
    → (g : ℕ) × (slice_get (give_frames pages free frames) page ≡ Some (Some g))
given_all [] free frames page x h l e = cc
given_all (p ∷ pages) [] frames page x h l e = absurd (omega arith)
given_all (p ∷ pages) (frame ∷ free) frames page x h l e = elim (same_or page p) [
  | inl is ↦ given_still pages free (slice_set frames p (Some frame)) page frame (ap (slice_get (slice_set frames p (Some frame))) is ∙ set_same frames p x (Some frame) (ap (slice_get frames) (sym is) ∙ e))
  | inr n ↦ given_all pages free (slice_set frames p (Some frame)) page x (elim (in_cons page p pages h) [ inl is ↦ absurd (n is) | inr more ↦ more ]) (omega arith) (set_other frames p page (Some frame) n ∙ e)
]

pub row_in : (n first page : ℕ) → first ≤ page → page < first + n → is_among (count_from n first) page ≡ true
row_in zero first page a b = absurd (omega arith)
row_in (suc n) first page a b = grind (arith, row_in n (suc first) page, nat_tests)

pub held_in_row : (s : Span) (page : ℕ) → holds s page ≡ true → is_among (pages_of s) page ≡ true
held_in_row s page h = let r = holds_to s page h in row_in s.pages s.start page r.0 r.1

module _ (c : Setup) (m : PlainMap) (k : ℕ) (fine : IsMapFine m) where
  -- Nothing held behind the section.

  pub unbearing_uses : (m' : PlainMap) (n : Next) (page : ℕ) → OnNext IsUnbearing n → next_uses c m' n page ≡ times page (spans_of m'.areas) + times page m'.waiting + as_free (slice_get m'.marks page)
  unbearing_uses m' n page h = grind (arith, nothing_claimed, nat_tests)

  pub unbearing_own : (m' : PlainMap) (n : Next) → OnNext IsUnbearing n → OnNext (IsHolding c m' k) n
  unbearing_own m' n h = grind (arith, holds_nothing, nat_tests)

  module _ (p : Place) (once : (page : ℕ) → own_uses c m p page ≤ 1) where
    quiet_outer : (s : Section) → is_quiet s ≡ true → IsOuter c m k p s fine once
    quiet_outer s h = grind (arith, quiet, nat_tests)

    pub quiet_moved : (s : Section) (n : Next) → is_quiet s ≡ true → OnNext IsUnbearing n → IsMoved c m k p s n
    quiet_moved s n h none = let is = quiet c m k s h in record {
      source = λ page t. (let no = is.untouching page in cc);
      uses = λ page. (grind arith);
      own = unbearing_own (effect_as c m k s) n none;
      fine = outer_map c m k p s fine once (quiet_outer s h);
    }

    -- A carve.

    carve_uses : (place : Span) (page : ℕ) (b : Bool) → holds place page ≡ b → (holds place page ≡ true → IsMarked m Free page)
        → one_if (holds place page) + as_free (slice_get (paint (holds place) (Held k) m.marks) page) ≤ as_free (slice_get m.marks page)
    carve_uses place page b e free = grind (arith, painted_free)

    carve_outer : (place : Span) (align : ℕ) → IsLegalAs c m k (Carve place align) → IsOuter c m k p (Carve place align) fine once
    carve_outer place align legal = grind (arith, place_free, painted, painted_still)

    carve_held : (place : Span) (align : ℕ) → IsLegalAs c m k (Carve place align) → OnEach (place ∷ []) (IsMarked (effect_as c m k (Carve place align)) (Held k))
    carve_held place align legal page e = let t = sym (covers_one place page) ∙ e in painted (holds place) (Held k) Free m.marks page t (place_free m place align page legal t)

    carve_bare : (place : Span) (align : ℕ) → IsLegalAs c m k (Carve place align) → OnEach (place ∷ []) (IsBare (effect_as c m k (Carve place align)))
    carve_bare place align legal page e = let t = sym (covers_one place page) ∙ e in let was = (fine.pages page).free (place_free m place align page legal t) in record { unmapped = was.unmapped; not_stale = was.not_stale }

    pub carve_area : (place : Span) (align : ℕ) (kd : AreaKind) → IsUnbearing p → IsLegalAs c m k (Carve place align) → IsMoved c m k p (Carve place align) (Go (MappingArea place kd))
    carve_area place align kd none legal = record {
      source = λ page t. (let n = (carve_outer place align legal).source page t in omega arith);
      uses = λ page. (omega (arith, carve_uses place page _ refl (place_free m place align page legal), times-one page place));
      own = record { held = carve_held place align legal; flushed = λ page e. cc; bare = carve_bare place align legal; mapped = λ page e. cc; unmapped = λ page e. cc; hull = tt };
      fine = outer_map c m k p (Carve place align) fine once (carve_outer place align legal);
    }

    pub carve_block : (place : Span) (align cpu pages : ℕ) → IsUnbearing p → IsLegalAs c m k (Carve place align) → IsMoved c m k p (Carve place align) (Go (SettlingBlock place cpu pages))
    carve_block place align cpu pages none legal = let is = carve_area place align kind.Vmalloc none legal in grind arith

    -- A carve of groups, each page of which is free and in one of them.

    groups_uses : (spans : List Span) (page : ℕ) → InSpans page spans → times page spans ≤ as_free (slice_get m.marks page)
        → times page spans + as_free (slice_get (paint (covers spans) (Held k) m.marks) page) ≤ as_free (slice_get m.marks page)
    groups_uses spans page either free = grind (arith, painted_free, nat_tests)

    group_free : (spans : List Span) (page : ℕ) → times page spans ≤ as_free (slice_get m.marks page) → covers spans page ≡ true → IsMarked m Free page
    group_free spans page free e = let n = covers_times page spans e in free_there (slice_get m.marks page) (omega arith)

    groups_outer : (base : ℕ) → ((page : ℕ) → times page (groups_at c base) ≤ as_free (slice_get m.marks page)) → IsOuter c m k p (CarveGroups base) fine once
    groups_outer base free = grind (arith, painted, in_spans)

    pub carve_groups : (base chunk bytes align : ℕ) → IsUnbearing p → ((page : ℕ) → times page (groups_at c base) ≤ as_free (slice_get m.marks page)) → IsMoved c m k p (CarveGroups base) (Go (SettlingGroups base chunk bytes align))
    carve_groups base chunk bytes align none free = record {
      source = λ page t. (let n = (groups_outer base free).source page t in omega arith);
      uses = λ page. (omega (arith, groups_uses (groups_at c base) page (in_spans page (groups_at c base)) (free page)));
      own = record {
        held = λ page e. painted (covers (groups_at c base)) (Held k) Free m.marks page e (group_free (groups_at c base) page (free page) e);
        flushed = λ page e. cc;
        bare = λ page e. (let was = (fine.pages page).free (group_free (groups_at c base) page (free page) e) in record { unmapped = was.unmapped; not_stale = was.not_stale });
        mapped = λ page e. cc;
        unmapped = λ page e. cc;
        hull = tt;
      };
      fine = outer_map c m k p (CarveGroups base) fine once (groups_outer base free);
    }

  -- Pages given back.

  drop_outer : (s : Span) (once : (page : ℕ) → own_uses c m (Dropping s) page ≤ 1) → IsLegalAs c m k (Drop s) → IsOuter c m k (Dropping s) (Drop s) fine once
  drop_outer s once legal = grind (arith, times-one, covers_one, free_fine, painted, nat_tests)

  pub drop_moved : (s : Span) (once : (page : ℕ) → own_uses c m (Dropping s) page ≤ 1) (n : Next) → OnNext IsUnbearing n → IsLegalAs c m k (Drop s) → IsMoved c m k (Dropping s) (Drop s) n
  drop_moved s once n none legal = record {
    source = λ page t. (let o = (drop_outer s once legal).source page t in omega arith);
    uses = λ page. omega (arith, unbearing_uses (effect_as c m k (Drop s)) n page none, freed_le (holds s) m.marks page, times-one page s);
    own = unbearing_own (effect_as c m k (Drop s)) n none;
    fine = outer_map c m k (Dropping s) (Drop s) fine once (drop_outer s once legal);
  }

  return_outer : (waited : List Span) (after : Then) (once : (page : ℕ) → own_uses c m (PurgeReturning waited after) page ≤ 1) → IsLegalAs c m k (Return waited) → IsOuter c m k (PurgeReturning waited after) (Return waited) fine once
  return_outer waited after once legal = grind (arith, covers_times, free_fine, painted, nat_tests)

  covers_le : (page : ℕ) (spans : List Span) → InSpans page spans → one_if (covers spans page) ≤ times page spans
  covers_le page spans either = grind (arith, nat_tests)

  pub return_moved : (waited : List Span) (after : Then) (once : (page : ℕ) → own_uses c m (PurgeReturning waited after) page ≤ 1) (n : Next) → OnNext IsUnbearing n
      → IsLegalAs c m k (Return waited) → IsMoved c m k (PurgeReturning waited after) (Return waited) n
  return_moved waited after once n none legal = record {
    source = λ page t. (let o = (return_outer waited after once legal).source page t in omega arith);
    uses = λ page. omega (arith, unbearing_uses (effect_as c m k (Return waited)) n page none, freed_le (covers waited) m.marks page, covers_le page waited (in_spans page waited));
    own = unbearing_own (effect_as c m k (Return waited)) n none;
    fine = outer_map c m k (PurgeReturning waited after) (Return waited) fine once (return_outer waited after once legal);
  }

-- What the sections that map, unmap, make wait and flush pages do to the pages that their caller holds, and to the map.

module _ (c : Setup) (m : PlainMap) (k : ℕ) (fine : IsMapFine m) where
  -- An area's pages get frames.

  module _ (place : Span) (kd : AreaKind) (own : IsHolding c m k (MappingArea place kd)) (once : (page : ℕ) → own_uses c m (MappingArea place kd) page ≤ 1)
      (legal : IsLegalAs c m k (MapPages (mapped_part kd place))) where
    mapping_outer : IsOuter c m k (MappingArea place kd) (MapPages (mapped_part kd place)) fine once
    mapping_outer = grind (arith, length-give_frames, times-one, held_fine, covers_one, mapped_within, nat_tests)

    pub mapping_moved : IsMoved c m k (MappingArea place kd) (MapPages (mapped_part kd place)) (Go (SettlingArea place kd))
    mapping_moved = record {
      source = λ page t. (let n = mapping_outer.source page t in omega arith);
      uses = λ page. omega arith;
      own = grind (arith, given_all, held_in_row, length-count_from, ungiven, outside_row);
      fine = outer_map c m k (MappingArea place kd) (MapPages (mapped_part kd place)) fine once mapping_outer;
    }

  -- There are no frames for it.
  pub unmapping_none : (place : Span) (kd : AreaKind) (asked : ℕ) → IsHolding c m k (MappingArea place kd) → ((page : ℕ) → own_uses c m (MappingArea place kd) page ≤ 1) → IsMoved c m k (MappingArea place kd) (NoFrames asked) (Go (Dropping place))
  unmapping_none place kd asked own once = grind (arith, outer_map, nat_tests)

  -- An area's pages lose their frames.

  -- a page of an area is mapped or its guard
  split_area : (kd : AreaKind) (s : Span) (page : ℕ) → holds s page ≡ true → (holds (mapped_part kd s) page ≡ true) ⊎ (covers (guard_part kd s ∷ []) page ≡ true)
  split_area kd s page h = grind (arith, guard_part, holds_to, covers_one, holds_from, nat_tests)

  module _ (area : Area) (own : IsHolding c m k (UnmappingArea area)) (once : (page : ℕ) → own_uses c m (UnmappingArea area) page ≤ 1) where
    unmap_outer : IsOuter c m k (UnmappingArea area) (Unmap (mapped_part area.kind area.span)) fine once
    unmap_outer = grind (arith, length-paint_from, times-one, mapped_within, held_fine, covers_one, nat_tests)

    unmap_frames : (page : ℕ) → (holds (mapped_part area.kind area.span) page ≡ true) ⊎ (covers (guard_part area.kind area.span ∷ []) page ≡ true)
        → IsUnmapped (effect_as c m k (Unmap (mapped_part area.kind area.span))) page
    unmap_frames page either = grind (arith, covers_one, painted, painted_still, nat_tests)

    pub unmap_moved : (after : Then) → IsMoved c m k (UnmappingArea area) (Unmap (mapped_part area.kind area.span)) (Go (Waiting (area.span ∷ []) after))
    unmap_moved after = record {
      source = λ page t. (let n = unmap_outer.source page t in omega arith);
      uses = λ page. omega arith;
      own = grind (arith, unmap_frames, split_area);
      fine = outer_map c m k (UnmappingArea area) (Unmap (mapped_part area.kind area.span)) fine once unmap_outer;
    }

  -- Spans wait.

  module _ (p : Place) (spans : List Span) (waiting : ℕ) (once : (page : ℕ) → own_uses c m p page ≤ 1) (here : held c p ≡ spans) (none : flushed p ≡ [])
      (marked : OnEach spans (IsMarked m (Held k))) (unmapped : OnEach spans (IsUnmapped m)) where
    held_times : (page : ℕ) → times page (held c p) ≡ times page spans
    held_times page = ap (times page) here

    -- a touched page is in no area
    wait_area : (page : ℕ) (i : ℕ) (a : Area) → slice_get m.areas i ≡ Some a → covers (a.span ∷ []) page ≡ true → IsSame m (effect_as c m k (Wait spans waiting)) page
    wait_area page i a h e = untouched c m k (Wait spans waiting) page (not_true _ (λ t. (let n = covers_times page spans t in let o = once page in let q = area_times page m.areas i a h e in omega (arith, held_times page))))

    wait_marked : (page : ℕ) → (b : Bool) → covers m.waiting page ≡ b → (b || covers spans page) ≡ true → IsMarked (effect_as c m k (Wait spans waiting)) Waits page
    wait_marked page b w e = grind (arith, painted_still, painted)

    pub wait_moved : (n : Next) → OnNext IsUnbearing n → IsMoved c m k p (Wait spans waiting) n
    wait_moved n none_next = record {
      source = λ page t. (let q = covers_times page spans t in omega (arith, held_times page));
      uses = λ page. (grind (arith, in_spans, times-append, painted_free, nat_tests));
      own = unbearing_own c m k fine (effect_as c m k (Wait spans waiting)) n none_next;
      fine = record {
        areas = λ i a h. area_stays m (effect_as c m k (Wait spans waiting)) a (λ page e. wait_area page i a h e) (fine.areas i a h);
        waits = λ page e. wait_marked page _ refl (sym (covers_append page m.waiting spans) ∙ e);
        long = fine.long;
        pages = λ page. page_by c m k p (Wait spans waiting) fine once page (λ t. waits_fine _ page (painted (covers spans) Waits (Held k) m.marks page t (marked page t)) (unmapped page t));
      };
    }

  -- All that waits is taken.

  module _ (extra : Option Span) (after : Then) (once : (page : ℕ) → own_uses c m (PurgeCollecting extra after) page ≤ 1) where
    take_area : (page : ℕ) (i : ℕ) (a : Area) → slice_get m.areas i ≡ Some a → covers (a.span ∷ []) page ≡ true → IsSame m (effect_as c m k (TakeWaiting m.waiting)) page
    take_area page i a h e = untouched c m k (TakeWaiting m.waiting) page (not_true _ (λ t. (let n = covers_times page m.waiting t in let o = once page in let q = area_times page m.areas i a h e in omega arith)))

    take_fine : IsMapFine (effect_as c m k (TakeWaiting m.waiting))
    take_fine = record {
      areas = λ i a h. area_stays m (effect_as c m k (TakeWaiting m.waiting)) a (λ page e. take_area page i a h e) (fine.areas i a h);
      waits = λ page e. cc;
      long = fine.long;
      pages = λ page. page_by c m k (PurgeCollecting extra after) (TakeWaiting m.waiting) fine once page
          (λ t. flushing_fine _ k page (painted (covers m.waiting) (Flushing k) Waits m.marks page t (fine.waits page t)) ((fine.pages page).waiting (fine.waits page t)));
    }

    take_free : (page : ℕ) → InSpans page m.waiting → as_free (slice_get (paint (covers m.waiting) (Flushing k) m.marks) page) ≤ as_free (slice_get m.marks page)
    take_free page either = grind (arith, painted_free, nat_tests)

    -- the hull covers what waited
    in_hull : (s : Span) → hull (m.waiting ++ option_to_list extra) ≡ Some s → (page : ℕ) → covers m.waiting page ≡ true → holds s page ≡ true
    in_hull s e page w =
        let all : covers (m.waiting ++ option_to_list extra) page ≡ true = covers_append page m.waiting (option_to_list extra) ∙ ap (λ b. b || covers (option_to_list extra) page) w in
        let is = (hull_is (m.waiting ++ option_to_list extra)).covered page all in
        let same : is.0 ≡ s = (let g = is.1 in cc) in subst (λ (x : Span). holds x page ≡ true) same is.2

    pub take_moved : (o : Option Span) → hull (m.waiting ++ option_to_list extra) ≡ o → IsMoved c m k (PurgeCollecting extra after) (TakeWaiting m.waiting) (after_collecting m.waiting o after)
    take_moved None e = grind (arith, covers_times, take_free, in_spans, take_fine)
    take_moved (Some s) e = record {
      source = λ page t. (let n = covers_times page m.waiting t in omega arith);
      uses = λ page. omega (arith, take_free page (in_spans page m.waiting));
      own = record {
        held = λ page e. cc;
        flushed = λ page t. painted (covers m.waiting) (Flushing k) Waits m.marks page t (fine.waits page t);
        bare = λ page e. cc;
        mapped = λ page e. cc;
        unmapped = λ page t. (fine.pages page).waiting (fine.waits page t);
        hull = in_hull s e;
      };
      fine = take_fine;
    }

  -- What was taken is flushed.

  module _ (s : Span) (waited : List Span) (after : Then) (own : IsHolding c m k (PurgeFlushing s waited after)) (once : (page : ℕ) → own_uses c m (PurgeFlushing s waited after) page ≤ 1) where
    flush_outer : IsOuter c m k (PurgeFlushing s waited after) (Flush s) fine once
    flush_outer = record { areas = refl; waiting = refl; long = length-paint_from (holds s) false m.stale 0 ∙ fine.long; source = λ page t. cc; touched = λ page t. cc }

    flush_clean : (page : ℕ) → covers waited page ≡ true → slice_get (paint (holds s) false m.stale) page ≡ Some false
    flush_clean page e =
        let within = slice_get_within m.frames page None (own.unmapped page e) in
        let was = there m.stale page (omega (arith, fine.long)) in
        painted (holds s) false was.0 m.stale page (own.hull page e) was.1

    pub flush_moved : (list : List Span) → waited ≡ list → IsMoved c m k (PurgeFlushing s waited after) (Flush s) (after_flush list after)
    flush_moved [] e = search (holds_nothing, outer_map, flush_outer, arith) depth 6
    flush_moved (t ∷ list) e = subst (λ spans. IsMoved c m k (PurgeFlushing s waited after) (Flush s) (Go (PurgeReturning spans after))) e (record {
      source = λ page t. cc;
      uses = λ page. omega arith;
      own = grind (arith, flush_clean);
      fine = outer_map c m k (PurgeFlushing s waited after) (Flush s) fine once flush_outer;
    })
