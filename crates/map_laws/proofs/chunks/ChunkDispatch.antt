-- Chunks whose areas and pages stay, and those that are given up.
use Rattle.std.proofs.Common.{◌≡◌, ◌≢◌, ℕ, zero, suc, ◌≤◌, Bool, true, false, not, List, [], ◌∷◌, slice_get, Some, refl, ap, sym, ◌∙◌, subst, arith, ◌⊎◌, inl, inr, ◌+◌, ◌<◌, ◌==◌, None, length}
use Rattle.vm_model.specs.declared.areas.Area.{Area}
use Rattle.vm_model.specs.declared.areas.Span.{Span}
use Rattle.map_laws.proofs.TestsAndFilters.{by_test, not_true, IsIn, filter_in, filter_has, among_in, count_from-below, count_at, in_among, covers_one, holds_from, InSpans, Inside, Outside, in_spans, holds_to}
use Rattle.map_laws.proofs.chunks.ChunkFacts.{NumberStays, AreGroupsLive, start_of, IsChunkFine, IsChunkAt, chunk_stays, group_in, starts_at, live_stays, unit_page, group_page, page_in_units, unit_covered, chunk_at_stays}
use Rattle.vm_model.specs.PlainMap.{Held, PlainMap, Chunk, Block}
use Rattle.vm_model.specs.Events.{Remove, Unlink, Section, Depopulate, Spare, AddChunk, AreaNotLive, Enough, Fill, Filled, MapPages, NextPage, NoAtomic, NoFrames, NoPlace, NoSpare, PlaceAtomic, PlaceObject, Populate, Settle, SettleObject, Unmap, Unplace, Zero}
use Rattle.map_laws.proofs.blocks.BlockPlaces.{IsInChunk, in_one_kind}
use Rattle.map_laws.proofs.areas.AreaFacts.{IsMapFine, IsHolding, mapped_within, touch, untouched, unpainted, in_row, painted}
use Rattle.vm_model.specs.Legal.{IsMarked, IsUnmapped, OnEach, IsLegalAs}
use Rattle.map_laws.proofs.blocks.BlockFacts.{IsOut, IsStill, IsBlockAt, IsBlockFine, IsPartIn}
use Rattle.map_laws.proofs.ProperPlaces.{IsPlainKind, OnNext, IsObjectSize, IsProper}
use Rattle.vm_model.specs.Setup.{Setup, groups_at, pages_in_units}
use Rattle.map_laws.proofs.blocks.BlockMoves.{area_holds, part_within, row_of}
use Rattle.vm_model.specs.Effects.{effect_as}
use Rattle.vm_model.specs.Places.{group_starts, UnlinkingGroups, Depopulating, Sparing, AddingChunk, Ask, Choosing, ChoosingAtomic, Filling, NextFill, NotingFilled, Place, Populating, SettlingAtomic, SettlingGroups, SettlingObject, Unplacing, Zeroing, MappingArea, MappingPart, PurgeUnlinking, Removing, UnlinkingBlock, UnmappingArea, UnmappingPart, ask}
use Rattle.vm_model.specs.Space.{is_among, times, holds, covers, count_from}
use Rattle.vm_model.specs.Areas.{is_area, named_areas, spans_of, areas_starting, group_areas, mapped_part}
use Rattle.map_laws.proofs.chunks.ChunkMoves.{number_once, IsChunkMoved, later_places, quiet_chunks, groups_once}
use Rattle.vm_model.specs.Rules.{AreGroups, AreUnits}
use Rattle.map_laws.proofs.chunks.ChunkRows.{AreNumbered, same_row, populated_at, is_chunky, plain_rows, plain_stays, rows_kept}
use Rattle.vm_model.specs.Carried.{IsBeingPopulated, has_alloc}
use Rattle.map_laws.proofs.OutMoves.{IsUnlinked}
use Rattle.vm_model.specs.Next.{Next, Go, next}
use Rattle.map_laws.proofs.Quiet.{area_times}
use Rattle.std.proofs.lemmas.Bool.Decides.{nat_tests}
use Rattle.map_laws.proofs.KeptThroughSteps.{there as there_at}
use Rattle.std.proofs.lemmas.Option.{get_or_from_slice_get}
use Rattle.vm_model.specs.Chunks.{populated_pages, is_populated}
use Rattle.vm_model.specs.declared.areas.AreaKind.TheVariants as kind
use Rattle.vm_model.specs.LegalHistory.{Meets}
use Rattle.map_laws.proofs.PlaceRows.{place_row}
use Rattle.map_laws.proofs.AskRows.{ask_row}
use Rattle.vm_model.specs.Blocks.{PartAt, mapped_pages}
use Rattle.map_laws.proofs.blocks.BlockWorlds.{IsRemovedPlain, only_one}
use Rattle.map_laws.proofs.chunks.ChunkAdded.{chunk_added, atomic_lives, atomic_moved}
use Rattle.map_laws.proofs.chunks.ChunkNoted.{fill_moved, place_moved, populate_moved, filled_moved, groups_moved, lives_moved, next_moved}

-- The areas and pages of chunks stay where areas, blocks and parts change, and where another chunk's areas are unlinked.

-- where a group of a chunk starts is a page of that chunk
pub group_there : (c : Setup) (m : PlainMap) → ((a : Area) → IsIn a m.areas → 1 ≤ a.span.pages) → (number base : ℕ) → AreGroupsLive c m number base
    → (start : ℕ) → is_among (group_starts c base) start ≡ true → (is : IsInChunk m start) × (is.chunk ≡ number)
group_there c m full number base live start f =
    let s = start_of c base start f in let area = live s.0 s.1 s.2 in let wide = full area.area area.there in
    let at : area.area.span.start ≡ start = ap (λ (x : Span). x.start) area.span ∙ s.3 in
    (record { area = area.area; there = area.there; holds = holds_from area.area.span start (omega arith) (omega arith); chunk = number; group = s.0; kind = area.kind }, refl)

module _ (c : Setup) (m : PlainMap) (k : ℕ) (once : (page : ℕ) → times page (spans_of m.areas) ≤ 1) where
  -- frames of pages that are in no chunk's area
  pub framed_stays : (s : Section) (number : ℕ) → (effect_as c m k s).areas ≡ m.areas → ((page : ℕ) → touch c m s page ≡ true → IsInChunk m page → ⊥) → NumberStays m (effect_as c m k s) number
  framed_stays s number areas apart = record {
    areas = λ a group there e. subst (IsIn a) (sym areas) there;
    still = λ page is e. by_test (touch c m s page) (λ t. absurd (apart page t is)) (λ t. (let same = untouched c m k s page t in record { frame = same.frame; clean = same.clean }));
  }

  -- a page of a chunk's area is not held
  pub not_held_page : (fine : IsMapFine m) (page : ℕ) → IsInChunk m page → IsMarked m (Held k) page → ⊥
  not_held_page fine page is held = let live = (fine.areas is.there.place is.area is.there.at).marked page (covers_one is.area.span page ∙ is.holds) in cc

  -- a plain area is removed
  pub removed_stays : (start serial : ℕ) (area : Area) (number : ℕ) → named_areas start serial m.areas ≡ area ∷ [] → IsPlainKind area.kind → NumberStays m (effect_as c m k (Remove start serial area)) number
  removed_stays start serial area number legal plain = record {
    areas = λ a group there e. filter_in (λ x. not (is_area start serial x)) m.areas a there.place there.at (ap not (not_true (is_area start serial a) (λ f. (
        let named = subst (IsIn a) legal (filter_in (is_area start serial) m.areas a there.place there.at f) in
        let same : a ≡ area = grind arith in
        let chunk : IsPlainKind (kind.Chunk number group) = subst IsPlainKind (ap (λ (x : Area). x.kind) (sym same) ∙ e) plain in absurd chunk))));
    still = λ page is e. record { frame = refl; clean = λ h. h };
  }

  -- areas are unlinked whose starts are in no area of the chunk
  pub unlinked_stays : (starts : List ℕ) (number : ℕ) → ((a : Area) (group : ℕ) → IsIn a m.areas → a.kind ≡ kind.Chunk number group → is_among starts a.span.start ≡ false) → NumberStays m (effect_as c m k (Unlink starts)) number
  unlinked_stays starts number apart = grind (arith, filter_in, nat_tests)

  module _ (full : (a : Area) → IsIn a m.areas → 1 ≤ a.span.pages) (some : 1 ≤ c.block_pages) where
    -- blocks that are out start at no chunk's area
    pub blocks_apart : (starts : List ℕ) (number : ℕ) → ((start : ℕ) → is_among starts start ≡ true → IsOut c m start) → (a : Area) (group : ℕ) → IsIn a m.areas → a.kind ≡ kind.Chunk number group → is_among starts a.span.start ≡ false
    blocks_apart starts number outs a group there e = not_true (is_among starts a.span.start) (λ f. (
        let block = (outs a.span.start f).area in let wide = full a there in
        in_one_kind m a.span.start once (record { area = a; there = there; holds = holds_from a.span a.span.start (omega arith) (omega arith); chunk = number; group = group; kind = e })
        block.area block.there (area_holds c m a.span.start block a.span.start (omega arith) (omega arith)) block.cpu block.kind))

    -- nor do the groups of another chunk
    pub groups_apart : (base gone number : ℕ) → AreGroupsLive c m gone base → number ≢ gone → (a : Area) (group : ℕ) → IsIn a m.areas → a.kind ≡ kind.Chunk number group → is_among (group_starts c base) a.span.start ≡ false
    groups_apart base gone number live apart a group there e = not_true (is_among (group_starts c base) a.span.start) (λ f. (
        let is = group_there c m full gone base live a.span.start f in let wide = full a there in
        apart (number_once m a.span.start (once a.span.start) (record { area = a; there = there; holds = holds_from a.span a.span.start (omega arith) (omega arith); chunk = number; group = group; kind = e }) is.0 ∙ is.1)))

    -- and no block's area starts where a chunk's group does
    pub groups_no_block : (base gone : ℕ) → AreGroupsLive c m gone base → (a : Area) (cpu : ℕ) → IsIn a m.areas → a.kind ≡ kind.Block cpu → is_among (group_starts c base) a.span.start ≡ false
    groups_no_block base gone live a cpu there e = not_true (is_among (group_starts c base) a.span.start) (λ f. (
        let wide = full a there in in_one_kind m a.span.start once (group_there c m full gone base live a.span.start f).0 a there (holds_from a.span a.span.start (omega arith) (omega arith)) cpu e))

-- The areas of a chunk that was given up are unlinked.

module _ (c : Setup) (m : PlainMap) (once : (page : ℕ) → times page (spans_of m.areas) ≤ 1) (groups : AreGroups c) (number base : ℕ) (live : AreGroupsLive c m number base) where
  -- each page of the groups is in an area that starts where a group does
  groups_less : (page : ℕ) → InSpans page (groups_at c base) → times page (groups_at c base) ≤ times page (spans_of (areas_starting (group_starts c base) m.areas))
  groups_less page (Outside e n) = omega arith
  groups_less page (Inside e n) =
      let is = group_in base page c.groups e in let area = live is.0 is.1 is.2 in
      let starts : is_among (group_starts c base) area.area.span.start ≡ true = ap (λ (s : Span). is_among (group_starts c base) s.start) area.span ∙ starts_at base is.0 is.1 c.groups is.2 in
      let kept = filter_in (λ (a : Area). is_among (group_starts c base) a.span.start) m.areas area.area area.there.place area.there.at starts in
      let there = area_times page (areas_starting (group_starts c base) m.areas) kept.place area.area kept.at (covers_one area.area.span page ∙ ap (λ s. holds s page) area.span ∙ is.3) in
      let low = groups_once c base page groups in omega arith

  -- its groups can be unlinked
  pub groups_unlinked : OnEach (groups_at c base) (IsUnmapped m) → IsUnlinked c m (group_starts c base) (groups_at c base)
  groups_unlinked bare = record { less = λ page. groups_less page (in_spans page (groups_at c base)); unmapped = bare }

module _ (c : Setup) (units : AreUnits c) (m : PlainMap) (k : ℕ) (numbered : AreNumbered m) (once : (page : ℕ) → times page (spans_of m.areas) ≤ 1) (full : (a : Area) → IsIn a m.areas → 1 ≤ a.span.pages) (some : 1 ≤ c.block_pages)
    (busy : ℕ → ℕ → Type 0) (base : ℕ) (all : (h : Chunk) → IsIn h m.chunks → IsChunkFine c m (λ number page. busy number page ⊎ IsBeingPopulated number page (UnlinkingGroups base)) h) (at : IsChunkAt c m (UnlinkingGroups base)) where
  pub ungrouped : (n : Next) → OnNext (IsChunkAt c (effect_as c m k (Unlink (group_starts c base)))) n → IsChunkMoved c m k busy (UnlinkingGroups base) (Unlink (group_starts c base)) n
  ungrouped n own = record {
    chunks = λ h there. chunk_stays c units m (effect_as c m k (Unlink (group_starts c base))) _ _ h h (same_row h)
        (unlinked_stays c m k once (group_starts c base) h.number (groups_apart c m k once full some base at.0 h.number at.1.live (at.1.gone h there)))
        (λ page b. elim b [ inl other ↦ inl other | inr mine ↦ absurd mine ]) (all h there);
    numbered = record { low = numbered.low; same = numbered.same };
    own = own;
    others = λ q apart is. later_places c m (effect_as c m k (Unlink (group_starts c base))) (record { next = omega arith; back = λ h there low. (h, there, refl, (λ page e. e)) }) q (apart refl) is;
  }

-- Chunks that a balance gives up: taken out of the map, depopulated, and their areas unlinked.

module _ (c : Setup) (units : AreUnits c) (m : PlainMap) (k : ℕ) (numbered : AreNumbered m) (once : (page : ℕ) → times page (spans_of m.areas) ≤ 1) (busy : ℕ → ℕ → Type 0) (none : (number page : ℕ) → busy number page → ⊥) where
  -- the chunk is no longer in the map
  module _ (all : (h : Chunk) → IsIn h m.chunks → IsChunkFine c m (λ number page. busy number page ⊎ IsBeingPopulated number page Sparing) h) (spare : Chunk) (there : IsIn spare m.chunks) where
    abbrev spared_map : PlainMap
    spared_map = effect_as c m k (Spare spare.number spare.base (populated_pages c spare))

    left : (h : Chunk) → IsIn h spared_map.chunks → IsIn h m.chunks × (h.number ≢ spare.number)
    left h is = let was = filter_has (λ (x : Chunk). not (x.number == spare.number)) m.chunks is.place h is.at in
        (was.there, (λ e. (let t : (h.number == spare.number) ≡ true = grind (arith, nat_tests) in let f : not (h.number == spare.number) ≡ false = ap not t in let g = was.passes in cc)))

    left_stays : (number : ℕ) → NumberStays m spared_map number
    left_stays number = record { areas = λ a group is e. is; still = λ page is e. record { frame = refl; clean = λ f. f } }

    populated_is : (page : ℕ) → is_among (populated_pages c spare) page ≡ true → (page < c.unit_pages) × (slice_get spare.populated page ≡ Some true)
    populated_is page h =
        let at = among_in page (populated_pages c spare) h in
        let was = filter_has (is_populated spare) (count_from c.unit_pages 0) at.place page at.at in
        grind (arith, count_from-below, populated_at)

    unpopulated : (page cpu unit : ℕ) → slice_get c.units cpu ≡ Some unit → page < c.unit_pages → is_among (pages_in_units c spare.base (populated_pages c spare)) (spare.base + unit + page) ≡ false → IsUnmapped m (spare.base + unit + page)
    unpopulated page cpu unit at low out = let fine = all spare there in let is = there_at spare.populated page (omega (arith, fine.long)) in by_value is.0 is.1
      where
        by_value : (b : Bool) → slice_get spare.populated page ≡ Some b → IsUnmapped m (spare.base + unit + page)
        by_value true e =
            let p : is_populated spare page ≡ true = get_or_from_slice_get spare.populated page true false e in
            let kept = filter_in (is_populated spare) (count_from c.unit_pages 0) page page (count_at c.unit_pages 0 page low ∙ ap (λ i. Some i) (let e : 0 + page ≡ page = omega arith in e)) p in
            let yes = page_in_units c spare.base page cpu unit (populated_pages c spare) at (in_among page (populated_pages c spare) kept) in cc
        by_value false e = elim ((all spare there).spare page e) [ inl bare ↦ bare cpu unit at | inr b ↦ absurd (elim b [ inl other ↦ none spare.number page other | inr mine ↦ mine ]) ]

    rest_unmapped : (x : ℕ) → covers (groups_at c spare.base) x ≡ true → is_among (pages_in_units c spare.base (populated_pages c spare)) x ≡ false → (t : Bool) → is_among (pages_in_units c spare.base (count_from c.unit_pages 0)) x ≡ t → IsUnmapped m x
    rest_unmapped x h out true e = let u = unit_page c spare.base x (count_from c.unit_pages 0) e in let row = in_row c.unit_pages 0 u.page u.among in
        subst (IsUnmapped m) (sym u.same) (unpopulated u.page u.cpu u.unit u.at (let r = row.1 in omega arith) (ap (is_among (pages_in_units c spare.base (populated_pages c spare))) (sym u.same) ∙ out))
    rest_unmapped x h out false e = (all spare there).outer x h e

    pub spared : IsChunkMoved c m k busy Sparing (Spare spare.number spare.base (populated_pages c spare)) (Go (Depopulating spare.base (populated_pages c spare)))
    spared = record {
      chunks = λ h is. (let was = left h is in chunk_stays c units m spared_map _ _ h h (same_row h) (left_stays h.number) (λ page b. elim b [ inl other ↦ inl other | inr mine ↦ absurd mine ]) (all h was.0));
      numbered = record {
        low = λ h is. numbered.low h (left h is).0;
        same = λ h h' is is' e. numbered.same h h' (left h is).0 (left h' is').0 e;
      };
      own = (
        spare.number,
        record { live = live_stays c m spared_map spare.number spare.base (left_stays spare.number) (all spare there).live; old = numbered.low spare there; gone = λ h is. (left h is).1 },
        (λ page h. (let is = populated_is page h in (is.0, (λ cpu unit at. (all spare there).populated page is.1 cpu unit at)))),
        (λ x h out. rest_unmapped x h out _ refl),
      );
      others = λ q apart at. later_places c m spared_map (record { next = omega arith; back = λ h is low. (h, (left h is).0, refl, (λ page e. e)) }) q (apart refl) at;
    }

  -- its populated pages lose their frames
  module _ (base : ℕ) (populated : List ℕ) (all : (h : Chunk) → IsIn h m.chunks → IsChunkFine c m (λ number page. busy number page ⊎ IsBeingPopulated number page (Depopulating base populated)) h) (at : IsChunkAt c m (Depopulating base populated)) where
    abbrev bared_map : PlainMap
    bared_map = effect_as c m k (Depopulate base populated)

    bared_still : (n : ℕ) → n ≢ at.0 → NumberStays m bared_map n
    bared_still n apart = record {
      areas = λ a group there e. there;
      still = λ x is e. by_test (is_among (pages_in_units c base populated) x)
          (λ f. absurd (let u = unit_page c base x populated f in
          let own = group_page c m at.0 base x at.1.live (ap (covers (groups_at c base)) u.same ∙ unit_covered c base u.page u.cpu u.unit units u.at (at.2 u.page u.among).0) in
          apart (sym e ∙ number_once m x (once x) is own.0 ∙ own.1)))
          (λ f. record { frame = unpainted (is_among (pages_in_units c base populated)) None m.frames x f; clean = λ h. unpainted (is_among (pages_in_units c base populated)) true m.stale x f ∙ h });
    }

    all_unmapped : (x : ℕ) → covers (groups_at c base) x ≡ true → (t : Bool) → is_among (pages_in_units c base populated) x ≡ t → IsUnmapped bared_map x
    all_unmapped x h false f = unpainted (is_among (pages_in_units c base populated)) None m.frames x f ∙ at.3 x h f
    all_unmapped x h true f = let u = unit_page c base x populated f in let was = (at.2 u.page u.among).1 u.cpu u.unit u.at in
        painted (is_among (pages_in_units c base populated)) None (Some was.0) m.frames x f (ap (slice_get m.frames) u.same ∙ was.1)

    pub bared : IsChunkMoved c m k busy (Depopulating base populated) (Depopulate base populated) (Go (UnlinkingGroups base))
    bared = record {
      chunks = λ h there. chunk_stays c units m bared_map _ _ h h (same_row h) (bared_still h.number (at.1.gone h there)) (λ page b. elim b [ inl other ↦ inl other | inr mine ↦ absurd mine ]) (all h there);
      numbered = record { low = numbered.low; same = numbered.same };
      own = (
        at.0,
        record { live = λ group g e. (let is = at.1.live group g e in record { area = is.area; there = is.there; span = is.span; kind = is.kind }); old = at.1.old; gone = at.1.gone },
        (λ x h. all_unmapped x h _ refl),
      );
      others = λ q apart is. later_places c m bared_map (record { next = omega arith; back = λ h there low. (h, there, refl, (λ page e. e)) }) q (apart refl) is;
    }

-- What each section keeps of chunks.

-- The places of which nothing is said as to chunks and their objects, and the sections that change no chunk but for its objects.

abbrev pub is_chunked : Place → Bool
is_chunked (AddingChunk base chunk bytes align) = true
is_chunked (Populating at missing) = true
is_chunked (SettlingObject at) = true
is_chunked (Unplacing at) = true
is_chunked (Zeroing at) = true
is_chunked (SettlingAtomic at) = true
is_chunked (Depopulating base populated) = true
is_chunked (UnlinkingGroups base) = true
is_chunked (Filling chunk base page filled) = true
is_chunked (NotingFilled chunk page filled) = true
is_chunked _ = false

abbrev pub IsUnchunked : Place → Type 0
IsUnchunked p = is_chunked p ≡ false

pub unchunked_at : (c : Setup) (m : PlainMap) (p : Place) → IsUnchunked p → IsChunkAt c m p
unchunked_at c m p h = grind arith

pub unchunked_idle : (p : Place) → IsUnchunked p → (number page : ℕ) → IsBeingPopulated number page p → ⊥
unchunked_idle p h number page b = grind arith

pub unchunked_next : (c : Setup) (m : PlainMap) (n : Next) → OnNext IsUnchunked n → OnNext (IsChunkAt c m) n
unchunked_next c m n h = grind (arith, unchunked_at)

-- Each section at its place, as to chunks.

module _ (c : Setup) (units : AreUnits c) (m : PlainMap) (k : ℕ) (numbered : AreNumbered m) (once : (page : ℕ) → times page (spans_of m.areas) ≤ 1) (busy : ℕ → ℕ → Type 0) (fine : IsMapFine m)
    (full : (a : Area) → IsIn a m.areas → 1 ≤ a.span.pages) (some : 1 ≤ c.block_pages) (blocks : (b : Block) → IsIn b m.blocks → IsBlockFine c m b) where
  -- a part's pages are in no chunk
  part_apart : (at : PartAt) → IsPartIn m k at → (page : ℕ) → holds (mapped_pages at) page ≡ true → IsInChunk m page → ⊥
  part_apart at hand page h is =
      let r = holds_to (mapped_pages at) page h in
      let area = (blocks hand.block hand.there).area in let v = part_within c m hand.block hand.part (blocks hand.block hand.there) hand.part_there in let q = row_of m k at hand in
      in_one_kind m page once is area.area area.there
      (area_holds c m hand.block.start area page (let a = q.0 in let b = r.0 in omega arith) (let a = q.0 in let b = r.1 in let e = q.2 in let f = v.0 in let g = v.1 in omega arith)) area.cpu area.kind

  module _ (p : Place) (all : (h : Chunk) → IsIn h m.chunks → IsChunkFine c m (λ number page. busy number page ⊎ IsBeingPopulated number page p) h) where
    as_c : (s t : Section) → s ≡ t → IsLegalAs c m k s → (IsLegalAs c m k t → IsChunkMoved c m k busy p t (next c p t)) → IsChunkMoved c m k busy p s (next c p s)
    as_c s t e legal f = subst (λ (x : Section). IsChunkMoved c m k busy p x (next c p x)) (sym e) (f (subst (IsLegalAs c m k) e legal))

    -- chunks, areas and pages of chunks stay
    still_c : (s : Section) (n : Next) → ((number page : ℕ) → IsBeingPopulated number page p → ⊥) → is_chunky s ≡ false → OnNext (IsChunkAt c (effect_as c m k s)) n → IsChunkMoved c m k busy p s n
    still_c s n idle h own = quiet_chunks c units m k numbered once busy p all s n (plain_rows c m k s h) (λ number. plain_stays c m k s number h) (λ number page mine. absurd (idle number page mine)) own

    plain_c : (s : Section) → is_chunky s ≡ false → OnNext IsUnchunked (next c p s) → IsUnchunked p → IsChunkMoved c m k busy p s (next c p s)
    plain_c s plain leads un = still_c s (next c p s) (unchunked_idle p un) plain (unchunked_next c (effect_as c m k s) (next c p s) leads)

    -- areas or pages change that are no chunk's
    apart_c : (s : Section) (n : Next) → IsUnchunked p → OnNext IsUnchunked n → (effect_as c m k s).chunks ≡ m.chunks → (effect_as c m k s).next_chunk ≡ m.next_chunk → ((number : ℕ) → NumberStays m (effect_as c m k s) number) → IsChunkMoved c m k busy p s n
    apart_c s n un next_un chunks next stays = quiet_chunks c units m k numbered once busy p all s n (rows_kept m (effect_as c m k s) chunks next) stays (λ number page mine. absurd (unchunked_idle p un number page mine))
        (unchunked_next c (effect_as c m k s) n next_un)

    framed_c : (s : Section) (n : Next) → IsUnchunked p → OnNext IsUnchunked n → (effect_as c m k s).chunks ≡ m.chunks → (effect_as c m k s).next_chunk ≡ m.next_chunk → (effect_as c m k s).areas ≡ m.areas
        → ((page : ℕ) → touch c m s page ≡ true → IsInChunk m page → ⊥) → IsChunkMoved c m k busy p s n
    framed_c s n un next_un chunks next areas apart = apart_c s n un next_un chunks next (λ number. framed_stays c m k once s number areas apart)

    unlinked_c : (starts : List ℕ) (n : Next) → IsUnchunked p → OnNext IsUnchunked n → ((start : ℕ) → is_among starts start ≡ true → IsOut c m start) → IsChunkMoved c m k busy p (Unlink starts) n
    unlinked_c starts n un next_un outs = apart_c (Unlink starts) n un next_un refl refl (λ number. unlinked_stays c m k once starts number (blocks_apart c m k once full some starts number outs))

  -- a chunk that is given up
  spared_c : (none : (number page : ℕ) → busy number page → ⊥) (all : (h : Chunk) → IsIn h m.chunks → IsChunkFine c m (λ number page. busy number page ⊎ IsBeingPopulated number page Sparing) h) (chunk base : ℕ) (populated : List ℕ)
      → IsLegalAs c m k (Spare chunk base populated) → IsChunkMoved c m k busy Sparing (Spare chunk base populated) (Go (Depopulating base populated))
  spared_c none all chunk base populated legal =
      let was = (filter_has (λ (h : Chunk). length h.objects == 0) m.chunks 1 legal.0 legal.1).there in
      subst (λ i. IsChunkMoved c m k busy Sparing (Spare i base populated) (Go (Depopulating base populated))) (sym legal.2)
      (subst (λ b. IsChunkMoved c m k busy Sparing (Spare legal.0.number b populated) (Go (Depopulating b populated))) (sym legal.3)
      (subst (λ l. IsChunkMoved c m k busy Sparing (Spare legal.0.number legal.0.base l) (Go (Depopulating legal.0.base l))) (sym legal.4) (spared c units m k numbered once busy none all legal.0 was)))

  pub chunk_by : (p : Place) (s : Section) (none : has_alloc p ≡ true → (number page : ℕ) → busy number page → ⊥) (all : (h : Chunk) → IsIn h m.chunks → IsChunkFine c m (λ number page. busy number page ⊎ IsBeingPopulated number page p) h)
      → IsProper c p → IsHolding c m k p → IsRemovedPlain m p → IsBlockAt c m k p → IsChunkAt c m p → Meets c (ask c p) s → IsLegalAs c m k s → IsChunkMoved c m k busy p s (next c p s)
  chunk_by (MappingArea place kd) s none all proper own plain block at (inl w) legal = as_c (MappingArea place kd) all s (MapPages (mapped_part kd place)) w legal (λ l. framed_c (MappingArea place kd) all (MapPages (mapped_part kd place)) _ refl refl refl refl refl
      (λ page t is. not_held_page c m k once fine page is (own.held page (covers_one place page ∙ mapped_within kd place page t))))
  chunk_by (MappingArea place kd) s none all proper own plain block at (inr w) legal = as_c (MappingArea place kd) all s (NoFrames (mapped_part kd place).pages) w legal (λ l. still_c (MappingArea place kd) all (NoFrames (mapped_part kd place).pages) _ (λ number page mine. mine) refl tt)
  chunk_by (UnmappingArea area) s none all proper own plain block at w legal = as_c (UnmappingArea area) all s (Unmap (mapped_part area.kind area.span)) w legal (λ l. framed_c (UnmappingArea area) all (Unmap (mapped_part area.kind area.span)) _ refl refl refl refl refl
      (λ page t is. not_held_page c m k once fine page is (own.held page (covers_one area.span page ∙ mapped_within area.kind area.span page t))))
  chunk_by (MappingPart part) s none all proper own plain block at (inl w) legal = as_c (MappingPart part) all s (MapPages (mapped_pages part)) w legal (λ l. framed_c (MappingPart part) all (MapPages (mapped_pages part)) _ refl refl refl refl refl (part_apart part block.0))
  chunk_by (MappingPart part) s none all proper own plain block at (inr w) legal = as_c (MappingPart part) all s (NoFrames part.pages) w legal (λ l. still_c (MappingPart part) all (NoFrames part.pages) _ (λ number page mine. mine) refl tt)
  chunk_by (UnmappingPart part) s none all proper own plain block at w legal = as_c (UnmappingPart part) all s (Unmap (mapped_pages part)) w legal (λ l. framed_c (UnmappingPart part) all (Unmap (mapped_pages part)) _ refl refl refl refl refl (part_apart part block.0))
  chunk_by (Removing start serial) s none all proper own plain block at (inl w) legal = search (as_c, apart_c, removed_stays)
  chunk_by (Removing start serial) s none all proper own plain block at (inr w) legal = as_c (Removing start serial) all s (AreaNotLive start serial) w legal (λ l. still_c (Removing start serial) all (AreaNotLive start serial) _ (λ number page mine. mine) refl tt)
  chunk_by (PurgeUnlinking gone extra after) s none all proper own plain block at w legal = as_c (PurgeUnlinking gone extra after) all s (Unlink gone) w legal (λ l. unlinked_c (PurgeUnlinking gone extra after) all gone _ refl refl block)
  chunk_by (UnlinkingBlock start r) s none all proper own plain block at w legal = as_c (UnlinkingBlock start r) all s (Unlink (start ∷ [])) w legal
      (λ l. unlinked_c (UnlinkingBlock start r) all (start ∷ []) _ refl refl (λ n h. subst (IsOut c m) (only_one start n h) block))
  chunk_by (UnlinkingGroups base) s none all proper own plain block at w legal = as_c (UnlinkingGroups base) all s (Unlink (group_starts c base)) w legal (λ l. ungrouped c units m k numbered once full some busy base all at _ tt)
  chunk_by (SettlingGroups base chunk bytes align) s none all proper own plain block at w legal = as_c (SettlingGroups base chunk bytes align) all s (Settle (group_areas c chunk base) w.0) w.1 legal (λ l. groups_moved c units m k numbered once busy base chunk bytes align all own w.0)
  chunk_by (Choosing bytes align) s none all proper own plain block at (inl w) legal = as_c (Choosing bytes align) all s (PlaceObject w.0 align w.1) w.3 legal
      (λ l. place_moved c units m k numbered once busy bytes align all w.0 w.1 (subst IsObjectSize (sym w.2) proper) l)
  chunk_by (Choosing bytes align) s none all proper own plain block at (inr w) legal = as_c (Choosing bytes align) all s (NoPlace bytes align w.0) w.1 legal (λ l. still_c (Choosing bytes align) all (NoPlace bytes align w.0) _ (λ number page mine. mine) refl tt)
  chunk_by (AddingChunk base chunk bytes align) s none all proper own plain block at w legal = as_c (AddingChunk base chunk bytes align) all s (AddChunk chunk base w.0 align w.1) w.3 legal
      (λ l. chunk_added c units m k numbered busy base chunk bytes align all at w.0 w.1 (subst IsObjectSize (sym w.2) proper) l)
  chunk_by (Populating object missing) s none all proper own plain block at (inl w) legal = as_c (Populating object missing) all s (Populate object missing) w legal (λ l. populate_moved c units m k numbered once busy (none refl) object missing all at l)
  chunk_by (Populating object missing) s none all proper own plain block at (inr w) legal = search as_c
  chunk_by (SettlingObject object) s none all proper own plain block at w legal = as_c (SettlingObject object) all s (SettleObject object w.0) w.1 legal (λ l. lives_moved c units m k numbered once busy (none refl) object w.0 _ all at tt)
  chunk_by (Unplacing object) s none all proper own plain block at w legal = as_c (Unplacing object) all s (Unplace object) w legal (λ l. still_c (Unplacing object) all (Unplace object) _ (λ number page mine. mine) refl tt)
  chunk_by (ChoosingAtomic bytes align) s none all proper own plain block at (inl w) legal = as_c (ChoosingAtomic bytes align) all s (PlaceAtomic w.0 align) w.2 legal
      (λ l. atomic_moved c units m k numbered once busy bytes align all w.0 (subst IsObjectSize (sym w.1) proper) l)
  chunk_by (ChoosingAtomic bytes align) s none all proper own plain block at (inr w) legal = as_c (ChoosingAtomic bytes align) all s (NoAtomic bytes align) w legal (λ l. still_c (ChoosingAtomic bytes align) all (NoAtomic bytes align) _ (λ number page mine. mine) refl tt)
  chunk_by (Zeroing object) s none all proper own plain block at w legal = search (as_c, still_c, chunk_at_stays, plain_rows)
  chunk_by (SettlingAtomic object) s none all proper own plain block at w legal = as_c (SettlingAtomic object) all s (SettleObject object w.0) w.1 legal (λ l. atomic_lives c units m k numbered once busy object all at w.0 _ tt)
  chunk_by Sparing s none all proper own plain block at (inl w) legal = as_c Sparing all s (Spare w.0 w.1 w.2) w.3 legal (λ l. spared_c (none refl) all w.0 w.1 w.2 l)
  chunk_by Sparing s none all proper own plain block at (inr w) legal = as_c Sparing all s NoSpare w legal (λ l. still_c Sparing all NoSpare _ (λ number page mine. mine) refl tt)
  chunk_by (Depopulating base populated) s none all proper own plain block at w legal = as_c (Depopulating base populated) all s (Depopulate base populated) w legal (λ l. bared c units m k numbered once busy (none refl) base populated all at)
  chunk_by (NextFill filled) s none all proper own plain block at (inl w) legal = as_c (NextFill filled) all s (NextPage w.0 w.1 w.2) w.3 legal (λ l. next_moved c units m k numbered once busy filled all w.0 w.1 w.2 l)
  chunk_by (NextFill filled) s none all proper own plain block at (inr w) legal = as_c (NextFill filled) all s Enough w legal (λ l. still_c (NextFill filled) all Enough _ (λ number page mine. mine) refl tt)
  chunk_by (Filling chunk base page filled) s none all proper own plain block at (inl w) legal = as_c (Filling chunk base page filled) all s (Fill base page) w legal (λ l. fill_moved c units m k numbered once busy (none refl) chunk base page filled all at l)
  chunk_by (Filling chunk base page filled) s none all proper own plain block at (inr w) legal = search as_c
  chunk_by (NotingFilled chunk page filled) s none all proper own plain block at w legal = as_c (NotingFilled chunk page filled) all s (Filled chunk page) w legal (λ l. filled_moved c units m k numbered once busy (none refl) chunk page filled _ all at tt)
  chunk_by p s none all proper own plain block at w legal = plain_c p all s (grind (arith, ask_row)) (grind (arith, place_row)) refl
