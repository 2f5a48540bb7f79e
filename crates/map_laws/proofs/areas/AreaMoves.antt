-- What each section does at its place, as to areas, to what waits and to free pages.
use Rattle.std.proofs.Common.{◌≡◌, ℕ, zero, suc, ◌≤◌, inl, inr, true, false, List, [], ◌∷◌, ◌++◌, map, slice_get, Option, Some, None, option_to_list, refl, ap, sym, ◌∙◌, subst, arith}
use Rattle.vm_model.specs.declared.areas.Span.{Span}
use Rattle.vm_model.specs.declared.areas.Area.{Area}
use Rattle.vm_model.specs.declared.areas.AreaKind.{AreaKind}
use Rattle.vm_model.specs.Space.{span, hull, covers, is_among, times, lowest, pages_of}
use Rattle.vm_model.specs.Setup.{Setup, groups_at, pages_in_units, highest}
use Rattle.vm_model.specs.PlainMap.{PlainMap, taken}
use Rattle.vm_model.specs.Areas.{named_areas, mapped_part, areas_of, group_kinds, group_areas}
use Rattle.vm_model.specs.Frames.{free_frames}
use Rattle.vm_model.specs.Blocks.{mapped_pages}
use Rattle.vm_model.specs.Legal.{OnEach, OnPages, IsMapped, IsUnmapped, IsLegalAs}
use Rattle.vm_model.specs.Events.{Section, Search, ForPages, ForGroups, NoHole, AreaNotLive, Wait, TakeWaiting, MapPages, Populate, Fill, NoFrames, Unmap, Depopulate}
use Rattle.vm_model.specs.Told.{carved, carved_base, removed}
use Rattle.vm_model.specs.Places.{Place, Over, Refusing, Finding, FindingAgain, MappingArea, Dropping, SettlingArea, Removing, UnmappingArea, Waiting, PurgeTaking, PurgeFragmenting, PurgeUnlinking, PurgeWaiting, PurgeCollecting, PurgeFlushing, PurgeReturning, PurgeGiving, CuttingPart, SettlingBlock, AddingBlock, MappingPart, SettlingPart, BeginningUnmap, UnmappingPart, Retiring, UnlinkingBlock, LookingAtDirty, TakingAlloc, Choosing, SettlingGroups, AddingChunk, Populating, SettlingObject, Unplacing, GivingAlloc, ChoosingAtomic, Zeroing, SettlingAtomic, FreeingObject, Adding, Summing, TakingToBalance, Sparing, Depopulating, UnlinkingGroups, NextFill, Filling, NotingFilled, Aim, ForArea, ForBlock, ForChunk, ReplyWith, SpareAgain, AskSearch, ask, block_spans, group_starts}
use Rattle.vm_model.specs.Next.{Next, next, found, without_space, after_remove}
use Rattle.vm_model.specs.Given.{given, carving, carving_groups, removal}
use Rattle.vm_model.specs.Laws.{as_free}
use Rattle.vm_model.specs.LegalHistory.{Meets}
use Rattle.vm_model.proofs.Paint.{length-paint_from}
use Rattle.map_laws.proofs.ProperPlaces.{OnNext, IsPlainKind, IsAimed, IsProper}
use Rattle.map_laws.proofs.areas.AreaFacts.{in_row, IsHolding, IsMapFine, own_uses, IsUnbearing, guard_part}
use Rattle.map_laws.proofs.TestsAndFilters.{covers_one, holds_from}
use Rattle.map_laws.proofs.PlaceMoves.{IsMoved, quiet_moved, carve_area, carve_block, carve_groups, drop_moved, return_moved, length-give_frames, mapping_moved, unmapping_none, unmap_moved, wait_moved, take_moved, flush_moved}
use Rattle.map_laws.proofs.OutMoves.{IsInside, IsUnlinked, settle_moved, remove_moved, unlink_moved, to_purge, to_waiting, inner_moved}
use Rattle.map_laws.proofs.Quiet.{leads_bearing, asks_quiet, given_quiet, unbearing_next}
use Rattle.vm_model.specs.declared.areas.AreaKind.TheVariants as kind

-- the groups at a base are free, each page in one of them
abbrev pub AreGroupsFree : Setup → PlainMap → Search → Type 0
AreGroupsFree c m (ForPages pages align) = Unit {0}
AreGroupsFree c m ForGroups = (base : ℕ) → highest c (taken m) ≡ Some base → (page : ℕ) → times page (groups_at c base) ≤ as_free (slice_get m.marks page)

-- what a place promises of blocks, chunks and the areas that it names
abbrev pub IsOutside : Setup → PlainMap → Place → Type 0
IsOutside c m (Finding search aim) = AreGroupsFree c m search
IsOutside c m (FindingAgain search aim) = AreGroupsFree c m search
IsOutside c m (Removing start serial) = (area : Area) → named_areas start serial m.areas ≡ area ∷ [] → IsPlainKind area.kind
IsOutside c m (PurgeUnlinking gone extra after) = IsUnlinked c m gone (block_spans c gone)
IsOutside c m (UnlinkingBlock start reply) = IsUnlinked c m (start ∷ []) (block_spans c (start ∷ []))
IsOutside c m (UnlinkingGroups base) = IsUnlinked c m (group_starts c base) (groups_at c base)
IsOutside c m (MappingPart at) = OnEach (mapped_pages at ∷ []) (IsInside m)
IsOutside c m (UnmappingPart at) = OnEach (mapped_pages at ∷ []) (IsInside m)
IsOutside c m (Populating at missing) = OnPages (pages_in_units c at.base missing) (IsInside m)
IsOutside c m (Filling chunk base page filled) = OnPages (pages_in_units c base (page ∷ [])) (IsInside m)
IsOutside c m (Depopulating base populated) = OnPages (pages_in_units c base populated) (IsInside m)
IsOutside c m _ = Unit {0}

-- Groups as areas.

pub group_spans : (chunk group : ℕ) (spans : List Span) → map (λ (a : Span × AreaKind). a.0) (group_kinds chunk group spans) ≡ spans
group_spans chunk group [] = refl
group_spans chunk group (s ∷ spans) = ap (λ l. s ∷ l) (group_spans chunk (suc group) spans)

group_inner : (k first chunk group : ℕ) (spans : List Span) (i : ℕ) (a : Area) → slice_get (areas_of k first (group_kinds chunk group spans)) i ≡ Some a → IsPlainKind a.kind → ⊥
group_inner k first chunk group [] i a h plain = cc
group_inner k first chunk group (s ∷ spans) zero a h plain = let same : kind.Chunk chunk group ≡ a.kind = cc in subst IsPlainKind (sym same) plain
group_inner k first chunk group (s ∷ spans) (suc i) a h plain = group_inner k (suc first) chunk (suc group) spans i a h plain

module _ (c : Setup) (m : PlainMap) (k : ℕ) (fine : IsMapFine m) where
  module _ (p : Place) (once : (page : ℕ) → own_uses c m p page ≤ 1) (none : IsUnbearing p) where
    found_pages : (pages align : ℕ) (aim : Aim) (otherwise : Next) (o : Option ℕ) → lowest (taken m) pages align ≡ o → IsAimed c (ForPages pages align) aim → OnNext IsUnbearing otherwise
        → IsMoved c m k p (carving pages align o) (found aim (carved (carving pages align o)) (carved_base (carving pages align o)) otherwise)
    found_pages pages align aim otherwise None e is un = quiet_moved c m k fine p once (NoHole (ForPages pages align)) otherwise refl un
    found_pages pages align (ForArea kd) otherwise (Some start) e is un = carve_area c m k fine p once (span start pages) align kd none e
    found_pages pages align (ForBlock cpu asked) otherwise (Some start) e is un = carve_block c m k fine p once (span start pages) align cpu asked none e
    found_pages pages align (ForChunk chunk bytes to) otherwise (Some start) e is un = absurd is

    found_groups : (chunk bytes align : ℕ) (otherwise : Next) (o : Option ℕ) → highest c (taken m) ≡ o → AreGroupsFree c m ForGroups → OnNext IsUnbearing otherwise
        → IsMoved c m k p (carving_groups o) (found (ForChunk chunk bytes align) (carved (carving_groups o)) (carved_base (carving_groups o)) otherwise)
    found_groups chunk bytes align otherwise None e free un = quiet_moved c m k fine p once (NoHole ForGroups) otherwise refl un
    found_groups chunk bytes align otherwise (Some base) e free un = carve_groups c m k fine p once base chunk bytes align none (free base e)

    -- the section is the one that the option holds
    told : (s t : Section) (f : Section → Next) → Some t ≡ Some s → IsMoved c m k p t (f t) → IsMoved c m k p s (f s)
    told s t f e h = let same : t ≡ s = cc in subst (λ (x : Section). IsMoved c m k p x (f x)) same h

    search_moved : (search : Search) (aim : Aim) (otherwise : Next) (s : Section) → IsAimed c search aim → AreGroupsFree c m search → OnNext IsUnbearing otherwise → given c m (AskSearch search) ≡ Some s
        → IsMoved c m k p s (found aim (carved s) (carved_base s) otherwise)
    search_moved search aim otherwise s is free un e = grind (arith, told, found_pages, found_groups)

  no_space_un : (aim : Aim) → OnNext IsUnbearing (without_space aim)
  no_space_un aim = grind arith

  removal_moved : (start serial : ℕ) (once : (page : ℕ) → own_uses c m (Removing start serial) page ≤ 1) → IsOutside c m (Removing start serial) → (list : List Area) → IsLegalAs c m k (removal start serial list)
      → IsMoved c m k (Removing start serial) (removal start serial list) (after_remove (removed (removal start serial list)))
  removal_moved start serial once out [] legal = quiet_moved c m k fine (Removing start serial) once (AreaNotLive start serial) _ refl tt
  removal_moved start serial once out (a ∷ list) legal = remove_moved c m k fine (Removing start serial) start serial a once legal (out a legal)

  module _ (p : Place) where
    -- the section is the given one
    as_section : (s t : Section) → s ≡ t → IsLegalAs c m k s → (IsLegalAs c m k t → IsMoved c m k p t (next c p t)) → IsMoved c m k p s (next c p s)
    as_section s t e legal f = subst (λ (x : Section). IsMoved c m k p x (next c p x)) (sym e) (f (subst (IsLegalAs c m k) e legal))

    plain_moved : (s : Section) → ((page : ℕ) → own_uses c m p page ≤ 1) → leads_bearing p ≡ false → asks_quiet (ask c p) ≡ true → Meets c (ask c p) s → IsMoved c m k p s (next c p s)
    plain_moved s once h q w = quiet_moved c m k fine p once s (next c p s) (given_quiet c (ask c p) s q w) (unbearing_next c p s h)

  -- a span's page by the list of its pages
  in_pages : (s : Span) (page : ℕ) → is_among (pages_of s) page ≡ true → covers (s ∷ []) page ≡ true
  in_pages s page h = let r = in_row s.pages s.start page h in covers_one s page ∙ holds_from s page r.0 r.1

  pub moved_by : (p : Place) (s : Section) → IsProper c p → IsHolding c m k p → ((page : ℕ) → own_uses c m p page ≤ 1) → IsOutside c m p → given c m (ask c p) ≡ Some s → Meets c (ask c p) s → IsLegalAs c m k s
      → IsMoved c m k p s (next c p s)
  moved_by (Finding search aim) s is own once out e w legal = search_moved (Finding search aim) once refl search aim _ s is out refl e
  moved_by (FindingAgain search aim) s is own once out e w legal = search_moved (FindingAgain search aim) once refl search aim _ s is out (no_space_un aim) e
  moved_by (MappingArea place kd) s is own once out e (inl w) legal = as_section (MappingArea place kd) s _ w legal (λ l. mapping_moved c m k fine place kd own once l)
  moved_by (MappingArea place kd) s is own once out e (inr w) legal = as_section (MappingArea place kd) s _ w legal (λ l. unmapping_none c m k fine place kd _ own once)
  moved_by (Dropping place) s is own once out e w legal = as_section (Dropping place) s _ w legal (λ l. drop_moved c m k fine place once _ tt l)
  moved_by (SettlingArea place kd) s is own once out e w legal = as_section (SettlingArea place kd) s _ w.1 legal
      (λ l. settle_moved c m k fine (SettlingArea place kd) ((place, kd) ∷ []) w.0 once refl refl own.held (settled_news place kd w.0 own) _ tt)
    where
      settled_news : (place : Span) (kd : AreaKind) (first : ℕ) → IsHolding c m k (SettlingArea place kd) → (i : ℕ) (a : Area) → slice_get (areas_of k first ((place, kd) ∷ [])) i ≡ Some a → IsPlainKind a.kind
          → OnEach (mapped_part a.kind a.span ∷ []) (IsMapped m) × OnEach (guard_part a.kind a.span ∷ []) (IsUnmapped m)
      settled_news place kd first own zero a h plain = let ks : kd ≡ a.kind = cc in let ss : place ≡ a.span = cc in (
        (λ page g. own.mapped page (ap (λ kd. covers (mapped_part kd place ∷ []) page) ks ∙ ap (λ s. covers (mapped_part a.kind s ∷ []) page) ss ∙ g)),
        (λ page g. own.unmapped page (ap (λ kd. covers (guard_part kd place ∷ []) page) ks ∙ ap (λ s. covers (guard_part a.kind s ∷ []) page) ss ∙ g)),
      )
      settled_news place kd first own (suc i) a h plain = cc
  moved_by (SettlingBlock place cpu pages) s is own once out e w legal = as_section (SettlingBlock place cpu pages) s _ w.1 legal
      (λ l. settle_moved c m k fine (SettlingBlock place cpu pages) ((place, kind.Block cpu) ∷ []) w.0 once refl refl own.held (block_news place cpu w.0) _ refl)
    where
      block_news : (place : Span) (cpu first : ℕ) (i : ℕ) (a : Area) → slice_get (areas_of k first ((place, kind.Block cpu) ∷ [])) i ≡ Some a → IsPlainKind a.kind
          → OnEach (mapped_part a.kind a.span ∷ []) (IsMapped m) × OnEach (guard_part a.kind a.span ∷ []) (IsUnmapped m)
      block_news place cpu first zero a h plain = let ks : kind.Block cpu ≡ a.kind = cc in absurd (subst IsPlainKind (sym ks) plain)
      block_news place cpu first (suc i) a h plain = cc
  moved_by (SettlingGroups base chunk bytes align) s is own once out e w legal = as_section (SettlingGroups base chunk bytes align) s _ w.1 legal
      (λ l. settle_moved c m k fine (SettlingGroups base chunk bytes align) (group_areas c chunk base) w.0 once (sym (group_spans chunk 0 (groups_at c base))) refl own.held
      (λ i a h plain. absurd (group_inner k w.0 chunk 0 (groups_at c base) i a h plain)) _ refl)
  moved_by (Removing start serial) s is own once out e w legal =
      let same : removal start serial (named_areas start serial m.areas) ≡ s = cc in
      subst (λ (x : Section). IsMoved c m k (Removing start serial) x (after_remove (removed x))) same (removal_moved start serial once out (named_areas start serial m.areas) (subst (IsLegalAs c m k) (sym same) legal))
  moved_by (UnmappingArea area) s is own once out e w legal = as_section (UnmappingArea area) s _ w legal (λ l. unmap_moved c m k fine area own once _)
  moved_by (Waiting spans after) s is own once out e w legal = as_section (Waiting spans after) s _ w.1 legal
      (λ l. wait_moved c m k fine (Waiting spans after) spans w.0 once refl refl own.held own.unmapped _ (unbearing_next c (Waiting spans after) (Wait spans w.0) refl))
  moved_by (PurgeWaiting gone extra after) s is own once out e w legal = as_section (PurgeWaiting gone extra after) s _ w.1 legal
      (λ l. wait_moved c m k fine (PurgeWaiting gone extra after) (block_spans c gone) w.0 once refl refl own.held own.unmapped _ refl)
  moved_by (PurgeCollecting extra after) s is own once out e w legal = as_section (PurgeCollecting extra after) s (TakeWaiting m.waiting) (w.1 ∙ ap (λ l. TakeWaiting l) (subst (IsLegalAs c m k) w.1 legal)) legal
      (λ l. take_moved c m k fine extra after once (hull (m.waiting ++ option_to_list extra)) refl)
  moved_by (PurgeFlushing hull waited after) s is own once out e w legal = as_section (PurgeFlushing hull waited after) s _ w legal (λ l. flush_moved c m k fine hull waited after own once waited refl)
  moved_by (PurgeReturning waited after) s is own once out e w legal = as_section (PurgeReturning waited after) s _ w legal (λ l. return_moved c m k fine waited after once _ refl l)
  moved_by (PurgeUnlinking gone extra after) s is own once out e w legal = as_section (PurgeUnlinking gone extra after) s _ w legal
      (λ l. unlink_moved c m k fine (PurgeUnlinking gone extra after) gone (block_spans c gone) once out refl (PurgeWaiting gone extra after) (to_purge c m k fine (PurgeUnlinking gone extra after) gone (block_spans c gone) once out extra after gone refl))
  moved_by (UnlinkingBlock start reply) s is own once out e w legal = as_section (UnlinkingBlock start reply) s _ w legal
      (λ l. unlink_moved c m k fine (UnlinkingBlock start reply) (start ∷ []) (block_spans c (start ∷ [])) once out refl _ (to_waiting c m k fine (UnlinkingBlock start reply) (start ∷ []) (block_spans c (start ∷ [])) once out (ReplyWith reply)))
  moved_by (UnlinkingGroups base) s is own once out e w legal = as_section (UnlinkingGroups base) s _ w legal
      (λ l. unlink_moved c m k fine (UnlinkingGroups base) (group_starts c base) (groups_at c base) once out refl _ (to_waiting c m k fine (UnlinkingGroups base) (group_starts c base) (groups_at c base) once out SpareAgain))
  moved_by (MappingPart at) s is own once out e (inl w) legal = as_section (MappingPart at) s _ w legal
      (λ l. inner_moved c m k fine (MappingPart at) (MapPages (mapped_pages at)) once refl refl refl (fine.long ∙ sym (length-give_frames (pages_of (mapped_pages at)) (free_frames c m.frames) m.frames))
      (λ page t. out page (covers_one (mapped_pages at) page ∙ t)) refl _ (unbearing_next c (MappingPart at) (MapPages (mapped_pages at)) refl))
  moved_by (MappingPart at) s is own once out e (inr w) legal = as_section (MappingPart at) s _ w legal (λ l. quiet_moved c m k fine (MappingPart at) once (NoFrames at.pages) _ refl (unbearing_next c (MappingPart at) (NoFrames at.pages) refl))
  moved_by (UnmappingPart at) s is own once out e w legal = as_section (UnmappingPart at) s _ w legal
      (λ l. inner_moved c m k fine (UnmappingPart at) (Unmap (mapped_pages at)) once refl refl refl (length-paint_from _ true m.stale 0 ∙ fine.long ∙ sym (length-paint_from _ None m.frames 0))
      (λ page t. out page (covers_one (mapped_pages at) page ∙ t)) refl _ refl)
  moved_by (Populating at missing) s is own once out e (inl w) legal = as_section (Populating at missing) s _ w legal
      (λ l. inner_moved c m k fine (Populating at missing) (Populate at missing) once refl refl refl (fine.long ∙ sym (length-give_frames (pages_in_units c at.base missing) (free_frames c m.frames) m.frames))
      (λ page t. out page t) refl _ (unbearing_next c (Populating at missing) (Populate at missing) refl))
  moved_by (Populating at missing) s is own once out e (inr w) legal = grind (arith, quiet_moved, unbearing_next)
  moved_by (Filling chunk base page filled) s is own once out e (inl w) legal = as_section (Filling chunk base page filled) s _ w legal
      (λ l. inner_moved c m k fine (Filling chunk base page filled) (Fill base page) once refl refl refl (fine.long ∙ sym (length-give_frames (pages_in_units c base (page ∷ [])) (free_frames c m.frames) m.frames))
      (λ q t. out q t) refl _ (unbearing_next c (Filling chunk base page filled) (Fill base page) refl))
  moved_by (Filling chunk base page filled) s is own once out e (inr w) legal = grind (arith, quiet_moved, unbearing_next)
  moved_by (Depopulating base populated) s is own once out e w legal = as_section (Depopulating base populated) s _ w legal
      (λ l. inner_moved c m k fine (Depopulating base populated) (Depopulate base populated) once refl refl refl (length-paint_from _ true m.stale 0 ∙ fine.long ∙ sym (length-paint_from _ None m.frames 0))
      (λ page t. out page t) refl _ refl)
  moved_by Over s is own once out e w legal = absurd w
  moved_by (Refusing reply) s is own once out e w legal = plain_moved (Refusing reply) s once refl refl w
  moved_by (PurgeTaking extra after) s is own once out e w legal = plain_moved (PurgeTaking extra after) s once refl refl w
  moved_by (PurgeFragmenting cpu gone extra after) s is own once out e w legal = plain_moved (PurgeFragmenting cpu gone extra after) s once refl refl w
  moved_by (PurgeGiving after) s is own once out e w legal = plain_moved (PurgeGiving after) s once refl refl w
  moved_by (CuttingPart cpu pages) s is own once out e w legal = plain_moved (CuttingPart cpu pages) s once refl refl w
  moved_by (AddingBlock at) s is own once out e w legal = plain_moved (AddingBlock at) s once refl refl w
  moved_by (SettlingPart at) s is own once out e w legal = plain_moved (SettlingPart at) s once refl refl w
  moved_by (BeginningUnmap cpu page serial) s is own once out e w legal = plain_moved (BeginningUnmap cpu page serial) s once refl refl w
  moved_by (Retiring at reply) s is own once out e w legal = plain_moved (Retiring at reply) s once refl refl w
  moved_by (LookingAtDirty cpu ranges) s is own once out e w legal = plain_moved (LookingAtDirty cpu ranges) s once refl refl w
  moved_by (TakingAlloc bytes align) s is own once out e w legal = plain_moved (TakingAlloc bytes align) s once refl refl w
  moved_by (Choosing bytes align) s is own once out e w legal = plain_moved (Choosing bytes align) s once refl refl w
  moved_by (AddingChunk base chunk bytes align) s is own once out e w legal = plain_moved (AddingChunk base chunk bytes align) s once refl refl w
  moved_by (SettlingObject at) s is own once out e w legal = plain_moved (SettlingObject at) s once refl refl w
  moved_by (Unplacing at) s is own once out e w legal = plain_moved (Unplacing at) s once refl refl w
  moved_by (GivingAlloc reply made) s is own once out e w legal = plain_moved (GivingAlloc reply made) s once refl refl w
  moved_by (ChoosingAtomic bytes align) s is own once out e w legal = plain_moved (ChoosingAtomic bytes align) s once refl refl w
  moved_by (Zeroing at) s is own once out e w legal = plain_moved (Zeroing at) s once refl refl w
  moved_by (SettlingAtomic at) s is own once out e w legal = plain_moved (SettlingAtomic at) s once refl refl w
  moved_by (FreeingObject at serial) s is own once out e w legal = plain_moved (FreeingObject at serial) s once refl refl w
  moved_by (Adding at serial cpu index amount) s is own once out e w legal = plain_moved (Adding at serial cpu index amount) s once refl refl w
  moved_by (Summing at serial index) s is own once out e w legal = plain_moved (Summing at serial index) s once refl refl w
  moved_by TakingToBalance s is own once out e w legal = plain_moved TakingToBalance s once refl refl w
  moved_by Sparing s is own once out e w legal = plain_moved Sparing s once refl refl w
  moved_by (NextFill filled) s is own once out e w legal = plain_moved (NextFill filled) s once refl refl w
  moved_by (NotingFilled chunk page filled) s is own once out e w legal = plain_moved (NotingFilled chunk page filled) s once refl refl w
