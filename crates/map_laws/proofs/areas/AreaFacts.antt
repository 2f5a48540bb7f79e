-- Which pages a section touches; all others are as before.
use Rattle.std.proofs.Common.{Bool, List, Option, Some, [], ap, arith, false, if◌then◌else◌, map, option_map, refl, slice_get, slice_set, suc, true, zero, ℕ, ◌+◌, ◌<◌, ◌==◌, ◌||◌, ◌∙◌, ◌∷◌, ◌≡◌, ◌≤◌, ◌-◌, length, sym}
use Rattle.std.proofs.lemmas.Bool.Decides.{nat_tests}
use Rattle.vm_model.proofs.Paint.{slice_get-paint}
use Rattle.vm_model.specs.Areas.{areas_of, areas_starting, mark_live, spans_of, mapped_part}
use Rattle.vm_model.specs.Effects.{effect_as}
use Rattle.vm_model.specs.Events.{Carve, CarveGroups, Depopulate, Drop, Fill, Flush, MapPages, Populate, Remove, Return, Section, Settle, TakeWaiting, Unlink, Unmap, Wait}
use Rattle.vm_model.specs.Frames.{free_frames, give_frames}
use Rattle.vm_model.specs.PlainMap.{Live, Mark, PlainMap, Free, Held, Waits, Flushing}
use Rattle.vm_model.specs.Setup.{Setup, groups_at, pages_in_units}
use Rattle.vm_model.specs.Space.{count_from, covers, holds, is_among, pages_of, paint, span, times}
use Rattle.vm_model.specs.declared.areas.Area.{Area}
use Rattle.vm_model.specs.declared.areas.AreaKind.{AreaKind}
use Rattle.vm_model.specs.declared.areas.Span.{Span}
use Rattle.map_laws.proofs.KeptThroughSteps.{set_other}
use Rattle.map_laws.proofs.TestsAndFilters.{or_none, holds_from, covers_times, covers_one, holds_to}
use Rattle.vm_model.specs.declared.areas.AreaKind.TheVariants as kind
use Rattle.vm_model.specs.Legal.{OnEach, IsMarked, IsUnmapped, IsMapped, IsBare}
use Rattle.vm_model.specs.Places.{Place, Over, MappingArea, Dropping, SettlingArea, UnmappingArea, Waiting, PurgeWaiting, PurgeFlushing, PurgeReturning, SettlingBlock, SettlingGroups, block_spans}
use Rattle.vm_model.specs.Next.{Next, Go, Answer}
use Rattle.vm_model.specs.Carried.{held, flushed}
use Rattle.vm_model.specs.Laws.{as_free}
use Rattle.map_laws.proofs.ProperPlaces.{IsPlainKind}

abbrev pub touch : Setup → PlainMap → Section → ℕ → Bool
touch c m (Carve place align) page = holds place page
touch c m (CarveGroups base) page = covers (groups_at c base) page
touch c m (Drop s) page = holds s page
touch c m (Return spans) page = covers spans page
touch c m (Settle areas first) page = covers (map (λ a. a.0) areas) page
touch c m (Remove start serial area) page = holds area.span page
touch c m (Unlink starts) page = covers (spans_of (areas_starting starts m.areas)) page
touch c m (Wait spans waiting) page = covers spans page
touch c m (TakeWaiting all) page = covers all page
touch c m (MapPages s) page = holds s page
touch c m (Populate at missing) page = is_among (pages_in_units c at.base missing) page
touch c m (Fill base own) page = is_among (pages_in_units c base (own ∷ [])) page
touch c m (Unmap s) page = holds s page
touch c m (Depopulate base pages) page = is_among (pages_in_units c base pages) page
touch c m _ page = false

-- the page is as before, or is no longer stale
pub record IsSame (m m' : PlainMap) (page : ℕ) : Type 0 where
  pub mark : slice_get m'.marks page ≡ slice_get m.marks page
  pub frame : slice_get m'.frames page ≡ slice_get m.frames page
  pub clean : slice_get m.stale page ≡ Some false → slice_get m'.stale page ≡ Some false

-- Painting.

pub unpainted : {X : Type 0} (test : ℕ → Bool) (x : X) (xs : List X) (page : ℕ) → test page ≡ false → slice_get (paint test x xs) page ≡ slice_get xs page
unpainted test x xs page e = grind (arith, slice_get-paint, nat_tests)

pub painted : {X : Type 0} (test : ℕ → Bool) (x y : X) (xs : List X) (page : ℕ) → test page ≡ true → slice_get xs page ≡ Some y → slice_get (paint test x xs) page ≡ Some x
painted test x y xs page e f = slice_get-paint test x xs page ∙ ap (option_map (λ y. if test page then x else y)) f ∙ ap (λ b. Some (if b then x else y)) e

-- what is painted with the value that it had
pub painted_still : {X : Type 0} (test : ℕ → Bool) (x : X) (xs : List X) (page : ℕ) → slice_get xs page ≡ Some x → slice_get (paint test x xs) page ≡ Some x
painted_still test x xs page f = grind (arith, slice_get-paint, nat_tests)

pub unmarked_live : (areas : List Area) (marks : List Mark) (page : ℕ) → covers (spans_of areas) page ≡ false → slice_get (mark_live areas marks) page ≡ slice_get marks page
unmarked_live [] marks page e = refl
unmarked_live (a ∷ areas) marks page e = grind (arith, unmarked_live areas (paint (holds a.span) (Live a.serial) marks) page, or_none, unpainted, nat_tests)

pub spans_of-areas_of : (k first : ℕ) (areas : List (Span × AreaKind)) → spans_of (areas_of k first areas) ≡ map (λ a. a.0) areas
spans_of-areas_of k first [] = refl
spans_of-areas_of k first (a ∷ areas) = ap (λ spans. a.0 ∷ spans) (spans_of-areas_of k (suc first) areas)

pub ungiven : (pages free : List ℕ) (frames : List (Option ℕ)) (page : ℕ) → is_among pages page ≡ false → slice_get (give_frames pages free frames) page ≡ slice_get frames page
ungiven [] free frames page e = refl
ungiven (p ∷ pages) [] frames page e = refl
ungiven (p ∷ pages) (frame ∷ free) frames page e = grind (arith, ungiven pages free (slice_set frames p (Some frame)) page, or_none, set_other, nat_tests)

pub in_row : (n first page : ℕ) → is_among (count_from n first) page ≡ true → (first ≤ page) × (page < first + n)
in_row zero first page h = cc
in_row (suc n) first page h = grind (arith, in_row n (suc first) page, nat_tests)

pub outside_row : (s : Span) (page : ℕ) → holds s page ≡ false → is_among (pages_of s) page ≡ false
outside_row s page e = grind (arith, in_row, holds_from, nat_tests)

-- a page that isn't touched is as before
pub untouched : (c : Setup) (m : PlainMap) (k : ℕ) (s : Section) (page : ℕ) → touch c m s page ≡ false → IsSame m (effect_as c m k s) page
untouched c m k (Carve place align) page e = record { mark = unpainted (holds place) _ m.marks page e; frame = refl; clean = λ h. h }
untouched c m k (CarveGroups base) page e = record { mark = unpainted (covers (groups_at c base)) _ m.marks page e; frame = refl; clean = λ h. h }
untouched c m k (Drop s) page e = record { mark = unpainted (holds s) _ m.marks page e; frame = refl; clean = λ h. h }
untouched c m k (Return spans) page e = record { mark = unpainted (covers spans) _ m.marks page e; frame = refl; clean = λ h. h }
untouched c m k (Settle areas first) page e = grind (arith, unmarked_live, spans_of-areas_of, nat_tests)
untouched c m k (Remove start serial area) page e = record { mark = unpainted (holds area.span) _ m.marks page e; frame = refl; clean = λ h. h }
untouched c m k (Unlink starts) page e = record { mark = unpainted (covers (spans_of (areas_starting starts m.areas))) _ m.marks page e; frame = refl; clean = λ h. h }
untouched c m k (Wait spans waiting) page e = record { mark = unpainted (covers spans) _ m.marks page e; frame = refl; clean = λ h. h }
untouched c m k (TakeWaiting all) page e = record { mark = unpainted (covers all) _ m.marks page e; frame = refl; clean = λ h. h }
untouched c m k (MapPages s) page e = record { mark = refl; frame = ungiven (pages_of s) (free_frames c m.frames) m.frames page (outside_row s page e); clean = λ h. h }
untouched c m k (Populate at missing) page e = record { mark = refl; frame = ungiven (pages_in_units c at.base missing) (free_frames c m.frames) m.frames page e; clean = λ h. h }
untouched c m k (Fill base own) page e = record { mark = refl; frame = ungiven (pages_in_units c base (own ∷ [])) (free_frames c m.frames) m.frames page e; clean = λ h. h }
untouched c m k (Unmap s) page e = grind (arith, unpainted, nat_tests)
untouched c m k (Depopulate base pages) page e = grind (arith, unpainted, nat_tests)
untouched c m k (Flush s) page e = record { mark = refl; frame = refl; clean = λ h. painted_still (holds s) false m.stale page h }
untouched c m k _ page e = record { mark = refl; frame = refl; clean = λ h. h }

-- What is kept of areas, of waiting and of free pages between two events, and of the pages that a caller holds or flushes.

-- the pages of an area that never get frames
abbrev pub guard_part : AreaKind → Span → Span
guard_part kind.Vmalloc s = span (s.start + (s.pages - 1)) (s.pages - (s.pages - 1))
guard_part kind.MapRam s = span s.start 0
guard_part (kind.Block cpu) s = span s.start 0
guard_part (kind.Chunk chunk group) s = span s.start 0

-- of what a caller holds or flushes: what is bare, what is mapped, and what is unmapped
abbrev pub bare_at : Setup → Place → List Span
bare_at c (MappingArea s k) = s ∷ []
bare_at c (Dropping s) = s ∷ []
bare_at c (SettlingBlock s cpu pages) = s ∷ []
bare_at c (SettlingGroups base chunk bytes align) = groups_at c base
bare_at c (PurgeReturning waited after) = waited
bare_at c _ = []

abbrev pub mapped_at : Place → List Span
mapped_at (SettlingArea s k) = mapped_part k s ∷ []
mapped_at (UnmappingArea area) = mapped_part area.kind area.span ∷ []
mapped_at _ = []

abbrev pub unmapped_at : Setup → Place → List Span
unmapped_at c (SettlingArea s k) = guard_part k s ∷ []
unmapped_at c (UnmappingArea area) = guard_part area.kind area.span ∷ []
unmapped_at c (Waiting spans after) = spans
unmapped_at c (PurgeWaiting gone extra after) = block_spans c gone
unmapped_at c (PurgeFlushing s waited after) = waited
unmapped_at c _ = []

-- what is flushed lies in the span of the flush
abbrev pub IsInHull : Place → Type 0
IsInHull (PurgeFlushing s waited after) = (page : ℕ) → covers waited page ≡ true → holds s page ≡ true
IsInHull _ = Unit {0}

-- of one caller
pub record IsHolding (c : Setup) (m : PlainMap) (k : ℕ) (p : Place) : Type 0 where
  pub held : OnEach (held c p) (IsMarked m (Held k))
  pub flushed : OnEach (flushed p) (IsMarked m (Flushing k))
  pub bare : OnEach (bare_at c p) (IsBare m)
  pub mapped : OnEach (mapped_at p) (IsMapped m)
  pub unmapped : OnEach (unmapped_at c p) (IsUnmapped m)
  pub hull : IsInHull p

-- of a live area
pub record IsAreaFine (m : PlainMap) (a : Area) : Type 0 where
  pub marked : OnEach (a.span ∷ []) (IsMarked m (Live a.serial))
  pub mapped : IsPlainKind a.kind → OnEach (mapped_part a.kind a.span ∷ []) (IsMapped m)
  pub guard : IsPlainKind a.kind → OnEach (guard_part a.kind a.span ∷ []) (IsUnmapped m)

-- of a page by its mark
pub record IsPageFine (m : PlainMap) (page : ℕ) : Type 0 where
  pub free : IsMarked m Free page → IsBare m page
  pub waiting : IsMarked m Waits page → IsUnmapped m page
  pub flushing : (k : ℕ) → IsMarked m (Flushing k) page → IsUnmapped m page

-- of the map
pub record IsMapFine (m : PlainMap) : Type 0 where
  pub areas : (i : ℕ) (a : Area) → slice_get m.areas i ≡ Some a → IsAreaFine m a
  pub waits : OnEach m.waiting (IsMarked m Waits)
  pub long : length m.stale ≡ length m.frames
  pub pages : (page : ℕ) → IsPageFine m page

-- how often a page is live, waiting or free, or held or flushed at a place
abbrev pub own_uses : Setup → PlainMap → Place → ℕ → ℕ
own_uses c m p page = times page (spans_of m.areas) + times page (held c p) + times page m.waiting + times page (flushed p) + as_free (slice_get m.marks page)

abbrev pub next_uses : Setup → PlainMap → Next → ℕ → ℕ
next_uses c m (Go p) page = own_uses c m p page
next_uses c m (Answer reply made) page = own_uses c m Over page

-- Inclusions.

pub mapped_within : (k : AreaKind) (s : Span) (page : ℕ) → holds (mapped_part k s) page ≡ true → holds s page ≡ true
mapped_within k s page h = grind (arith, holds_to, holds_from)

none_in_empty : (start page : ℕ) → holds (span start 0) page ≡ true → ⊥
none_in_empty start page h = let r = holds_to (span start 0) page h in omega arith

pub mapped_covers : (k : AreaKind) (s : Span) (page : ℕ) → covers (mapped_part k s ∷ []) page ≡ true → covers (s ∷ []) page ≡ true
mapped_covers k s page h = covers_one s page ∙ mapped_within k s page (sym (covers_one (mapped_part k s) page) ∙ h)

pub guard_covers : (k : AreaKind) (s : Span) (page : ℕ) → covers (guard_part k s ∷ []) page ≡ true → covers (s ∷ []) page ≡ true
guard_covers k s page h = grind (arith, covers_one, holds_to, holds_from, none_in_empty)

-- a page of an area is mapped or in the guard
pub guard_apart : (k : AreaKind) (s : Span) (page : ℕ) → covers (guard_part k s ∷ []) page ≡ true → holds (mapped_part k s) page ≡ false
guard_apart k s page h = grind (arith, covers_one, holds_to, none_in_empty)

-- what a place says of a page, it says of one that the caller holds or flushes
abbrev pub IsClaimed : Setup → Place → ℕ → Type 0
IsClaimed c p page = 1 ≤ times page (held c p) + times page (flushed p)

claimed_held : (page : ℕ) (xs ys : List Span) → covers xs page ≡ true → 1 ≤ times page xs + times page ys
claimed_held page xs ys h = let n = covers_times page xs h in omega arith

claimed_flushed : (page : ℕ) (xs ys : List Span) → covers ys page ≡ true → 1 ≤ times page xs + times page ys
claimed_flushed page xs ys h = let n = covers_times page ys h in omega arith

pub bare_claimed : (c : Setup) (p : Place) (page : ℕ) → covers (bare_at c p) page ≡ true → IsClaimed c p page
bare_claimed c p page h = grind (arith, claimed_held, claimed_flushed)

pub mapped_claimed : (c : Setup) (p : Place) (page : ℕ) → covers (mapped_at p) page ≡ true → IsClaimed c p page
mapped_claimed c p page h = grind (arith, claimed_held, mapped_covers)

pub unmapped_claimed : (c : Setup) (p : Place) (page : ℕ) → covers (unmapped_at c p) page ≡ true → IsClaimed c p page
unmapped_claimed c p page h = grind (arith, claimed_held, guard_covers, claimed_flushed)

-- What stays of pages that are as before.

pub same_marked : (m m' : PlainMap) (mark : Mark) (page : ℕ) → IsSame m m' page → IsMarked m mark page → IsMarked m' mark page
same_marked m m' mark page is h = is.mark ∙ h

pub same_bare : (m m' : PlainMap) (page : ℕ) → IsSame m m' page → IsBare m page → IsBare m' page
same_bare m m' page is h = record { unmapped = is.frame ∙ h.unmapped; not_stale = is.clean h.not_stale }

pub same_mapped : (m m' : PlainMap) (page : ℕ) → IsSame m m' page → IsMapped m page → IsMapped m' page
same_mapped m m' page is h = (h.0, is.frame ∙ h.1)

pub same_unmapped : (m m' : PlainMap) (page : ℕ) → IsSame m m' page → IsUnmapped m page → IsUnmapped m' page
same_unmapped m m' page is h = is.frame ∙ h

-- a caller keeps what it holds where its pages are as before
pub holding_stays : (c : Setup) (m m' : PlainMap) (k : ℕ) (p : Place) → ((page : ℕ) → IsClaimed c p page → IsSame m m' page) → IsHolding c m k p → IsHolding c m' k p
holding_stays c m m' k p same is = grind (arith, same_marked, claimed_held, claimed_flushed, same_bare, bare_claimed, same_mapped, mapped_claimed, same_unmapped, unmapped_claimed)

-- an area is fine still where its pages are as before
pub area_stays : (m m' : PlainMap) (a : Area) → ((page : ℕ) → covers (a.span ∷ []) page ≡ true → IsSame m m' page) → IsAreaFine m a → IsAreaFine m' a
area_stays m m' a same is = grind (arith, same_marked, same_mapped, mapped_covers, same_unmapped, guard_covers)

pub page_stays : (m m' : PlainMap) (page : ℕ) → IsSame m m' page → IsPageFine m page → IsPageFine m' page
page_stays m m' page is fine = grind (arith, same_bare, same_unmapped)

-- Places at which nothing is held or flushed.

abbrev pub is_bearing : Place → Bool
is_bearing (MappingArea s k) = true
is_bearing (Dropping s) = true
is_bearing (SettlingArea s k) = true
is_bearing (UnmappingArea area) = true
is_bearing (Waiting spans after) = true
is_bearing (PurgeWaiting gone extra after) = true
is_bearing (PurgeFlushing s waited after) = true
is_bearing (PurgeReturning waited after) = true
is_bearing (SettlingBlock s cpu pages) = true
is_bearing (SettlingGroups base chunk bytes align) = true
is_bearing _ = false

abbrev pub IsUnbearing : Place → Type 0
IsUnbearing p = is_bearing p ≡ false

pub nothing_held : (c : Setup) (p : Place) → IsUnbearing p → held c p ≡ []
nothing_held c p h = grind arith

pub nothing_flushed : (p : Place) → IsUnbearing p → flushed p ≡ []
nothing_flushed p h = grind arith

pub nothing_claimed : (c : Setup) (p : Place) (page : ℕ) → IsUnbearing p → times page (held c p) + times page (flushed p) ≡ 0
nothing_claimed c p page h = let a : times page (held c p) ≡ 0 = ap (times page) (nothing_held c p h) in let b : times page (flushed p) ≡ 0 = ap (times page) (nothing_flushed p h) in omega arith

pub holds_nothing : (c : Setup) (m : PlainMap) (k : ℕ) (p : Place) → IsUnbearing p → IsHolding c m k p
holds_nothing c m k p h = grind (arith, claimed_held, claimed_flushed, bare_claimed, mapped_claimed, unmapped_claimed, nothing_claimed)
