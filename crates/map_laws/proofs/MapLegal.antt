-- Each section that the map gives is legal, where what it needs of chunks and objects holds.
use Rattle.std.proofs.Common.{Bool, List, None, Option, Some, [], ap, arith, cond, false, filter, flat_map, if◌then◌else◌, length, nat_lt, not, option_map, refl, slice_get, subst, suc, sum_by, sym, true, zero, ℕ, ◌++◌, ◌+◌, ◌<◌, ◌==◌, ◌∙◌, ◌∷◌, ◌≡◌, ◌≤◌}
use Rattle.std.proofs.lemmas.Bool.Decides.{nat_tests}
use Rattle.std.proofs.lemmas.List.Sums.{sum_by-cons}
use Rattle.std.proofs.lemmas.Option.{get_or_from_slice_get}
use Rattle.vm_model.specs.Areas.{areas_at, is_area, mapped_part, named_areas, spans_of}
use Rattle.vm_model.specs.Blocks.{PartAt, blocks_of, first_page, is_named, life_of_part, mapped_pages, named_in, named_parts, parts_size, rounded, size_of}
use Rattle.vm_model.specs.Carried.{count_of, has_alloc, has_purge}
use Rattle.vm_model.specs.Chunks.{ObjectAt, atomic_bits, atomic_fit, is_populated, life_of_object, new_chunk, object_pages, pages_of_object, placement, plain_fit}
use Rattle.vm_model.specs.Events.{ForGroups, ForPages, MapPages, NoFrames, Section, TakeAlloc, TakePurge}
use Rattle.vm_model.specs.Frames.{free_frames}
use Rattle.vm_model.specs.Given.{beginning, given, placing_atomic, placing_new, removal}
use Rattle.vm_model.specs.Legal.{AreStarts, CanFill, HasGroups, IsBare, IsLegalAs, IsMapped, IsMarked, OnEach, OnPages}
use Rattle.vm_model.specs.Places.{Adding, AddingBlock, AddingChunk, BeginningUnmap, Choosing, ChoosingAtomic, CuttingPart, Depopulating, Dropping, Filling, Finding, FindingAgain, FreeingObject, GivingAlloc, LookingAtDirty, MappingArea, MappingPart, NextFill, NotingFilled, Over, Place, Populating, PurgeCollecting, PurgeFlushing, PurgeFragmenting, PurgeGiving, PurgeReturning, PurgeTaking, PurgeUnlinking, PurgeWaiting, Refusing, Removing, Retiring, SettlingArea, SettlingAtomic, SettlingBlock, SettlingGroups, SettlingObject, SettlingPart, Sparing, Summing, TakingAlloc, TakingToBalance, UnlinkingBlock, UnlinkingGroups, UnmappingArea, UnmappingPart, Unplacing, Waiting, Zeroing, ask, block_spans, group_starts}
use Rattle.vm_model.specs.PlainMap.{Block, Held, InHand, Lives, Part, PlainMap, lives_as}
use Rattle.vm_model.specs.Setup.{Setup, groups_at, pages_in_units}
use Rattle.vm_model.specs.Space.{covers, holds, hull, is_among, one_if, span, times}
use Rattle.vm_model.specs.declared.areas.Area.{Area}
use Rattle.vm_model.specs.declared.areas.Span.{Span}
use Rattle.map_laws.proofs.areas.AreaFacts.{IsHolding, mapped_covers}
use Rattle.map_laws.proofs.areas.AreaMoves.{group_spans}
use Rattle.map_laws.proofs.blocks.BlockFacts.{AreStacked, IsBlockArea, IsBlockAt, IsBlockFine, IsOut, IsPartIn, among_count, block_out, block_starts, counted_block, size_cons, to_same}
use Rattle.map_laws.proofs.blocks.BlockMoves.{area_start, part_within, row_of, same_start}
use Rattle.map_laws.proofs.blocks.BlockWorlds.{covered_start, only_one, row_covers, times_count}
use Rattle.map_laws.proofs.TestsAndFilters.{IsIn, filter_has, filter_in, find_has, in_among, in_more, sum_by-filter-le, InSpans, Inside, Outside, covers_one, holds_from, holds_to, in_spans, times-cons}
use Rattle.map_laws.proofs.chunks.ChunkAdded.{atomic_pages}
use Rattle.map_laws.proofs.chunks.ChunkRows.{fitting, placement_is}
use Rattle.map_laws.proofs.chunks.ChunkFalls.{new_chunk_has_room}
use Rattle.map_laws.proofs.SearchEnds.{and_both, find_some, flat_has, length_flat, length_map, sum_le}
use Rattle.map_laws.proofs.GivenMeets.{begun_of, cut_of, flat_in, taking_is}
use Rattle.map_laws.proofs.KeptThroughSteps.{there}
use Rattle.map_laws.proofs.Quiet.{times_both}
use Rattle.map_laws.proofs.blocks.PartMoves.{own_is}
use Rattle.map_laws.proofs.ProperPlaces.{IsObjectSize, IsProper}
use Rattle.vm_model.proofs.RoundedPages.{rounded_some}
use Rattle.map_laws.proofs.TraceWorlds.{AreFull}
use Rattle.vm_model.specs.declared.areas.AreaKind.TheVariants as kind

-- what a section needs of chunks and objects
abbrev pub IsReady : Setup → PlainMap → ℕ → Place → Type 0
IsReady c m k (AddingChunk base chunk bytes align) = HasGroups c m chunk base × (chunk ≡ m.next_chunk)
IsReady c m k (Populating at missing) = OnPages (pages_in_units c at.base missing) (IsBare m)
IsReady c m k (SettlingObject at) = life_of_object at m.chunks ≡ Some (InHand k)
IsReady c m k (Unplacing at) = life_of_object at m.chunks ≡ Some (InHand k)
IsReady c m k (Zeroing at) = (life_of_object at m.chunks ≡ Some (InHand k)) × OnPages (object_pages c at) (IsMapped m)
IsReady c m k (SettlingAtomic at) = life_of_object at m.chunks ≡ Some (InHand k)
IsReady c m k (Adding at serial cpu index amount) = (life_of_object at m.chunks ≡ Some (Lives serial)) × OnPages (object_pages c at) (IsMapped m)
IsReady c m k (Summing at serial index) = (life_of_object at m.chunks ≡ Some (Lives serial)) × OnPages (object_pages c at) (IsMapped m)
IsReady c m k (Depopulating base populated) = OnPages (pages_in_units c base populated) (IsMapped m)
IsReady c m k (UnlinkingGroups base) = AreStarts m (group_starts c base)
IsReady c m k (Filling chunk base page filled) = OnPages (pages_in_units c base (page ∷ [])) (IsBare m)
IsReady c m k (NotingFilled chunk page filled) = CanFill m chunk page
IsReady c m k _ = Unit {0}

-- Areas of a start.

module _ (c : Setup) (m : PlainMap) (k : ℕ) (once : (page : ℕ) → times page (spans_of m.areas) ≤ 1) (full : AreFull m) where
  at_start : (start : ℕ) (a : Area) → IsIn a m.areas → a.span.start ≡ start → one_if (holds a.span start) ≡ 1
  at_start start a there e = let some = full.each a there in ap one_if (holds_from a.span start (omega arith) (omega arith))

  -- of areas that pass a test for a start there is at most one
  two_never : (q : Area → Bool) (start : ℕ) (a b : Area) (list : List Area) → filter q m.areas ≡ a ∷ b ∷ list → ((x : Area) → q x ≡ true → x.span.start ≡ start) → ⊥
  two_never q start a b list e starts =
      let first = filter_has q m.areas 0 a (ap (λ l. slice_get l 0) e) in let second = filter_has q m.areas 1 b (ap (λ l. slice_get l 1) e) in
      let o = once start in let all : times start (spans_of (filter q m.areas)) ≡ times start (spans_of (a ∷ b ∷ list)) = ap (λ l. times start (spans_of l)) e in
      omega (
        arith,
        times_both start q (λ x. not (q x)) (λ x. refl) m.areas,
        times-cons start a.span (b.span ∷ spans_of list),
        times-cons start b.span (spans_of list),
        at_start start a first.there (starts a first.passes),
        at_start start b second.there (starts b second.passes),
      )

  removal_by : (start serial : ℕ) (list : List Area) → named_areas start serial m.areas ≡ list → IsLegalAs c m k (removal start serial list)
  removal_by start serial (a ∷ b ∷ list) e = absurd (two_never (is_area start serial) start a b list e (λ x h. to_same x.span.start start (and_both (x.span.start == start) (x.serial == serial) h).0))
  removal_by start serial _ e = e

  pub one_at : (start : ℕ) (area : Area) → IsIn area m.areas → area.span.start ≡ start → (list : List Area) → areas_at start m.areas ≡ list → areas_at start m.areas ≡ area ∷ []
  one_at start area there e [] f = absurd (let kept = filter_in (λ (a : Area). a.span.start == start) m.areas area there.place there.at (let t : (area.span.start == start) ≡ true = grind (arith, nat_tests) in t) in
      let no : slice_get (areas_at start m.areas) kept.place ≡ None = ap (λ l. slice_get l kept.place) f in let yes = kept.at in cc)
  one_at start area there e (a ∷ []) f =
      let kept = filter_in (λ (a : Area). a.span.start == start) m.areas area there.place there.at (let t : (area.span.start == start) ≡ true = grind (arith, nat_tests) in t) in
      let only : slice_get (a ∷ []) kept.place ≡ Some area = sym (ap (λ l. slice_get l kept.place) f) ∙ kept.at in
      f ∙ ap (λ x. x ∷ []) (first_is a kept.place only)
    where
      first_is : (a : Area) (i : ℕ) → slice_get (a ∷ []) i ≡ Some area → a ≡ area
      first_is a zero h = cc
      first_is a (suc i) h = cc
  one_at start area there e (a ∷ b ∷ list) f = absurd (two_never (λ (x : Area). x.span.start == start) start a b list f (λ x h. to_same x.span.start start h))

  pub block_at : (start : ℕ) → (is : IsBlockArea c m start) → areas_at start m.areas ≡ is.area ∷ []
  block_at start is = one_at start is.area is.there (area_start c m start is) (areas_at start m.areas) refl

  legal_starts : (starts : List ℕ) → ((start : ℕ) → is_among starts start ≡ true → IsOut c m start) → ((start : ℕ) → count_of start starts ≤ 1) → AreStarts m starts
  legal_starts starts outs few = λ start h. ((let n = among_count start starts h in let f = few start in omega arith), ((outs start h).area.area, block_at start (outs start h).area))

  -- Parts.

  module _ (all : (b : Block) → IsIn b m.blocks → IsBlockFine c m b) (names : (start : ℕ) → count_of start (block_starts m.blocks) ≤ 1) where
    in_part : (at : PartAt) → Block → List Part
    in_part at b = if b.start == at.block then b.parts else []

    in_if : (b : Block) (at : PartAt) (p : Part) (t : Bool) → (b.start == at.block) ≡ t → IsIn p (if t then b.parts else []) → (b.start ≡ at.block) × IsIn p b.parts
    in_if b at p true e there = (to_same b.start at.block e, there)
    in_if b at p false e there = (let no = there.at in cc)

    pub held_life : (at : PartAt) → IsPartIn m k at → life_of_part at m.blocks ≡ Some (InHand k)
    held_life at hand =
        let inside : IsIn hand.part (if hand.block.start == at.block then hand.block.parts else []) = subst (λ t. IsIn hand.part (if t then hand.block.parts else [])) (sym (let t : (hand.block.start == at.block) ≡ true = (let e = hand.start in grind (arith, nat_tests)) in t)) hand.part_there in
        let flat = flat_has (λ (b : Block). if b.start == at.block then b.parts else []) m.blocks hand.there.place hand.block hand.part hand.there.at inside in
        let found = find_some (λ (p : Part). p.offset == at.offset) (flat_map (λ (b : Block). if b.start == at.block then b.parts else []) m.blocks) hand.part flat.place flat.at (let t : (hand.part.offset == at.offset) ≡ true = (let e = hand.offset in grind (arith, nat_tests)) in t) in
        let is = find_has (λ (p : Part). p.offset == at.offset) (flat_map (λ (b : Block). if b.start == at.block then b.parts else []) m.blocks) found.0 found.1 in
        let from = flat_in (λ (b : Block). if b.start == at.block then b.parts else []) m.blocks found.0 is.0 in
        let own = in_if from.0 at found.0 _ refl from.2 in
        let one = (own_is c m k all at hand names from.0 found.0 from.1 own.0 own.1 (to_same found.0.offset at.offset is.1)).1 in
        ap (option_map (λ (p : Part). p.life)) found.1 ∙ ap (λ (p : Part). Some p.life) one ∙ ap (λ l. Some l) hand.life

    -- of a block at most one part is named, and only where the page is in the block
    named_by : (b : Block) (page serial off : ℕ) (p : Part) (ps : List Part) (t : Bool) → is_named page serial b p ≡ t → p.offset ≡ off → (rest : length (filter (is_named page serial b) ps) ≤ one_if (holds (span (b.start + (off + size_of p)) (parts_size ps)) page))
        → length (cond t (p ∷ filter (is_named page serial b) ps) (filter (is_named page serial b) ps)) ≤ one_if (holds (span (b.start + off) (size_of p + parts_size ps)) page)
    named_by b page serial off p ps true e at rest =
        let first = to_same (b.start + p.offset) page (and_both (b.start + p.offset == page) (lives_as serial p.life) e).0 in
        let size = rounded_some p.pages in
        let whole : one_if (holds (span (b.start + off) (size_of p + parts_size ps)) page) ≡ 1 = ap one_if (holds_from (span (b.start + off) (size_of p + parts_size ps)) page (omega arith) (omega arith)) in
        let out : one_if (holds (span (b.start + (off + size_of p)) (parts_size ps)) page) ≡ 0 = outside (holds (span (b.start + (off + size_of p)) (parts_size ps)) page) refl in omega arith
      where
        outside : (u : Bool) → holds (span (b.start + (off + size_of p)) (parts_size ps)) page ≡ u → one_if (holds (span (b.start + (off + size_of p)) (parts_size ps)) page) ≡ 0
        outside true f = absurd (let r = holds_to (span (b.start + (off + size_of p)) (parts_size ps)) page f in let first = to_same (b.start + p.offset) page (and_both (b.start + p.offset == page) (lives_as serial p.life) e).0 in let size = rounded_some p.pages in omega arith)
        outside false f = ap one_if f
    named_by b page serial off p ps false e at rest = grind (arith, holds_to, holds_from, nat_tests)

    named_few : (b : Block) (page serial off : ℕ) (ps : List Part) → AreStacked off ps → length (filter (is_named page serial b) ps) ≤ one_if (holds (span (b.start + off) (parts_size ps)) page)
    named_few b page serial off [] st = omega arith
    named_few b page serial off (p ∷ ps) st =
        subst (λ n. length (filter (is_named page serial b) (p ∷ ps)) ≤ one_if (holds (span (b.start + off) n) page)) (sym (size_cons p ps)) (named_by b page serial off p ps _ refl st.0 (named_few b page serial (off + size_of p) ps st.2))

    named_block : (page serial : ℕ) (b : Block) → IsIn b m.blocks → length (named_in page serial b) ≤ one_if (holds (span b.start c.block_pages) page)
    named_block page serial b there =
        let fine = all b there in
        let few = named_few b page serial 0 b.parts fine.stacked in
        omega (arith, length_map {Y = PartAt} (λ (p : Part). record { cpu = b.cpu; block = b.start; offset = p.offset; pages = p.pages }) (filter (is_named page serial b) b.parts), few, wide fine.within (holds (span (b.start + 0) (parts_size b.parts)) page) refl)
      where
        wide : parts_size b.parts ≤ c.block_pages → (u : Bool) → holds (span (b.start + 0) (parts_size b.parts)) page ≡ u → one_if (holds (span (b.start + 0) (parts_size b.parts)) page) ≤ one_if (holds (span b.start c.block_pages) page)
        wide w true f = let r = holds_to (span (b.start + 0) (parts_size b.parts)) page f in omega (arith, ap one_if f, ap one_if (holds_from (span b.start c.block_pages) page (omega arith) (omega arith)))
        wide w false f = omega (arith, ap one_if f)

    blocks_times : (page : ℕ) (blocks : List Block) → sum_by (λ (b : Block). one_if (holds (span b.start c.block_pages) page)) blocks ≡ times page (block_spans c (block_starts blocks))
    blocks_times page [] = refl
    blocks_times page (b ∷ blocks) = omega (arith, sum_by-cons (λ (b : Block). one_if (holds (span b.start c.block_pages) page)) b blocks, times-cons page (span b.start c.block_pages) (block_spans c (block_starts blocks)), blocks_times page blocks)

    start_area : (start : ℕ) → is_among (block_starts m.blocks) start ≡ true → IsBlockArea c m start
    start_area start h = let is = counted_block start m.blocks (among_count start (block_starts m.blocks) h) in subst (IsBlockArea c m) is.2 (all is.0 is.1).area

    blocks_once : (page : ℕ) → InSpans page (block_spans c (block_starts m.blocks)) → times page (block_spans c (block_starts m.blocks)) ≤ 1
    blocks_once page (Inside e n) =
        let is = covered_start c m once (block_starts m.blocks) page e in let r = row_covers c m once is.0 page is.2 in
        let low = times_count c m once is.0 page (block_starts m.blocks) (λ x g f. (let v = row_covers c m once x page f in same_start c m page x is.0 (once page) (start_area x g) (start_area is.0 is.1) v.0 v.1 r.0 r.1)) in
        let one = names is.0 in omega arith
    blocks_once page (Outside e n) = omega arith

    few_named : (cpu page serial : ℕ) → length (named_parts cpu page serial m.blocks) ≤ 1
    few_named cpu page serial =
        let each = sum_le (λ (b : Block). length (named_in page serial b)) (λ (b : Block). one_if (holds (span b.start c.block_pages) page)) (blocks_of cpu m.blocks)
        (λ b there. named_block page serial b (filter_has (λ (b : Block). b.cpu == cpu) m.blocks there.place b there.at).there) in
        let less = sum_by-filter-le (λ (b : Block). one_if (holds (span b.start c.block_pages) page)) (λ (b : Block). b.cpu == cpu) m.blocks in
        omega (arith, length_flat (named_in page serial) (blocks_of cpu m.blocks), blocks_times page m.blocks, blocks_once page (in_spans page (block_spans c (block_starts m.blocks))))

    legal_beginning : (cpu page serial : ℕ) (list : List PartAt) → named_parts cpu page serial m.blocks ≡ list → IsLegalAs c m k (beginning cpu page serial list)
    legal_beginning cpu page serial [] e = e
    legal_beginning cpu page serial (at ∷ []) e =
        let is = begun_of cpu page serial m.blocks at (record { place = 0; at = ap (λ l. slice_get l 0) e }) in
        subst (λ n. named_parts n (first_page at) serial m.blocks ≡ at ∷ []) (sym is.0) (subst (λ n. named_parts cpu n serial m.blocks ≡ at ∷ []) (sym is.1) e)
    legal_beginning cpu page serial (at ∷ other ∷ list) e = absurd (let few = few_named cpu page serial in omega (arith, ap length e))

    told_legal : (s t : Section) → Some t ≡ Some s → IsLegalAs c m k t → IsLegalAs c m k s
    told_legal s t e h = let same : t ≡ s = cc in subst (IsLegalAs c m k) same h

    frames_legal : (p : Span) (b : Bool) → nat_lt (length (free_frames c m.frames)) p.pages ≡ b → OnEach (p ∷ []) (IsBare m) → IsLegalAs c m k (if b then NoFrames p.pages else MapPages p)
    frames_legal p true e bare = grind (arith, nat_tests)
    frames_legal p false e bare = (bare, (let enough : p.pages ≤ length (free_frames c m.frames) = grind (arith, nat_tests) in enough))

    row_in : (at : PartAt) (page : ℕ) → covers (mapped_pages at ∷ []) page ≡ true → (first_page at ≤ page) × (page < first_page at + at.pages)
    row_in at page e = holds_to (mapped_pages at) page (sym (covers_one (mapped_pages at) page) ∙ e)

    low_size : (at : PartAt) → IsPartIn m k at → at.pages ≤ rounded at.pages
    low_size at hand = let z = (part_within c m hand.block hand.part (all hand.block hand.there) hand.part_there).1 in let r = row_of m k at hand in omega (arith, r.1, r.2)

    module _ (wide : 8 ≤ c.unit_pages) where
      new_legal : (base chunk bytes align : ℕ) → HasGroups c m chunk base → chunk ≡ m.next_chunk → IsObjectSize bytes → (o : Option (ObjectAt × List ℕ)) → placement c (plain_fit c bytes align) bytes (m.chunks ++ new_chunk c chunk base ∷ []) ≡ o
          → IsLegalAs c m k (placing_new chunk base bytes align o)
      new_legal base chunk bytes align groups number size None e = (let room = new_chunk_has_room c chunk base bytes align m.chunks wide size.0 in let no = room.1 in cc)
      new_legal base chunk bytes align groups number size (Some p) e = grind (arith, placement_is, nat_tests)

      none_kept : (pages : List ℕ) (test : ℕ → Bool) → ((page : ℕ) → IsIn page pages → test page ≡ false) → filter test pages ≡ []
      none_kept [] test none = refl
      none_kept (p ∷ pages) test none = ap (λ b. cond b (p ∷ filter test pages) (filter test pages)) (none p (record { place = 0; at = refl })) ∙ none_kept pages test (λ page there. none page (in_more page p pages there))

      atomic_legal : (bytes align : ℕ) → IsObjectSize bytes → (o : Option (ObjectAt × List ℕ)) → placement c (atomic_fit c bytes align) bytes m.chunks ≡ o → IsLegalAs c m k (placing_atomic bytes align o)
      atomic_legal bytes align size None e = e
      atomic_legal bytes align size (Some p) e =
          let is = placement_is c (atomic_fit c bytes align) bytes m.chunks p.0 p.1 e in
          let sized : IsObjectSize p.0.bytes = subst IsObjectSize (sym is.sized) size in
          let fits : atomic_fit c p.0.bytes align is.chunk ≡ Some p.0.off = subst (λ n. atomic_fit c n align is.chunk ≡ Some p.0.off) (sym is.sized) is.fits in
          let none : p.1 ≡ [] = is.lacks ∙ none_kept (pages_of_object p.0) (λ page. not (is_populated is.chunk page)) (λ page there.
          ap not (get_or_from_slice_get is.chunk.populated page true false (atomic_pages c is.chunk p.0 sized (fitting p.0.bytes align p.0.off (atomic_bits c is.chunk) fits) page (in_among page (pages_of_object p.0) there)))) in
          subst (λ n. placement c (atomic_fit c n align) n m.chunks ≡ Some (p.0, [])) (sym is.sized) (subst (λ missing. placement c (atomic_fit c bytes align) bytes m.chunks ≡ Some (p.0, missing)) none e)

      pub legal_section : (p : Place) (s : Section) → IsReady c m k p → IsProper c p → IsHolding c m k p → IsBlockAt c m k p → ((start : ℕ) → count_of start (block_out p) ≤ 1) → (has_purge p ≡ true → m.purge_turn ≡ Some k) → (has_alloc p ≡ true → m.alloc_turn ≡ Some k) → given c m (ask c p) ≡ Some s → IsLegalAs c m k s
      legal_section Over s is proper own at few turn alloc e = cc
      legal_section (Refusing r) s is proper own at few turn alloc e = told_legal s _ e tt
      legal_section (Finding (ForPages pages align) aim) s is proper own at few turn alloc e = grind (arith, nat_tests)
      legal_section (FindingAgain (ForPages pages align) aim) s is proper own at few turn alloc e = grind (arith, nat_tests)
      legal_section (MappingArea place kd) s is proper own at few turn alloc e = told_legal s _ e (frames_legal (mapped_part kd place) _ refl (λ page h. own.bare page (mapped_covers kd place page h)))
      legal_section (Dropping place) s is proper own at few turn alloc e = told_legal s _ e (own.held, own.bare)
      legal_section (SettlingArea place kd) s is proper own at few turn alloc e = told_legal s _ e (own.held, refl)
      legal_section (Removing start serial) s is proper own at few turn alloc e = told_legal s _ e (removal_by start serial (named_areas start serial m.areas) refl)
      legal_section (UnmappingArea area) s is proper own at few turn alloc e = told_legal s _ e own.mapped
      legal_section (Waiting spans after) s is proper own at few turn alloc e = told_legal s _ e (own.held, refl)
      legal_section (PurgeTaking extra after) s is proper own at few turn alloc e = let v = taking_is m.purge_turn TakePurge s e in subst (IsLegalAs c m k) (sym v.1) v.0
      legal_section (PurgeFragmenting cpu gone extra after) s is proper own at few turn alloc e = told_legal s _ e refl
      legal_section (PurgeUnlinking gone extra after) s is proper own at few turn alloc e = told_legal s _ e (legal_starts gone at few)
      legal_section (PurgeWaiting gone extra after) s is proper own at few turn alloc e = told_legal s _ e (own.held, refl)
      legal_section (PurgeCollecting extra after) s is proper own at few turn alloc e = told_legal s _ e refl
      legal_section (PurgeFlushing hull waited after) s is proper own at few turn alloc e = told_legal s _ e tt
      legal_section (PurgeReturning waited after) s is proper own at few turn alloc e = told_legal s _ e (own.flushed, own.bare)
      legal_section (PurgeGiving after) s is proper own at few turn alloc e = told_legal s _ e (turn refl)
      legal_section (CuttingPart cpu pages) s is proper own at few turn alloc e = grind (arith, cut_of, nat_tests)
      legal_section (SettlingBlock place cpu pages) s is proper own at few turn alloc e = told_legal s _ e (own.held, refl)
      legal_section (AddingBlock part) s is proper own at few turn alloc e = told_legal s _ e
          ((at.0.area, block_at part.block at.0, ap (λ (v : Span). v.pages) at.0.span, at.0.kind ∙ ap (λ n. kind.Block n) at.1), proper.0)
      legal_section (MappingPart part) s is proper own at few turn alloc e = told_legal s _ e
          (frames_legal (mapped_pages part) _ refl (λ page h. (let r = row_in part page h in let l = low_size part at.0 in at.1 page r.0 (let b = r.1 in omega arith))))
      legal_section (SettlingPart part) s is proper own at few turn alloc e = told_legal s _ e (held_life part at.0, refl)
      legal_section (BeginningUnmap cpu page serial) s is proper own at few turn alloc e = told_legal s _ e (legal_beginning cpu page serial (named_parts cpu page serial m.blocks) refl)
      legal_section (UnmappingPart part) s is proper own at few turn alloc e = told_legal s _ e (λ page h. (let r = row_in part page h in at.1 page r.0 r.1))
      legal_section (Retiring part r) s is proper own at few turn alloc e = told_legal s _ e (held_life part at.0, refl)
      legal_section (UnlinkingBlock start r) s is proper own at few turn alloc e = told_legal s _ e (legal_starts (start ∷ []) (λ n h. subst (IsOut c m) (only_one start n h) at) few)
      legal_section (LookingAtDirty cpu ranges) s is proper own at few turn alloc e = told_legal s _ e refl
      legal_section (Finding ForGroups aim) s is proper own at few turn alloc e = grind (arith, nat_tests)
      legal_section (FindingAgain ForGroups aim) s is proper own at few turn alloc e = grind (arith, nat_tests)
      legal_section (TakingAlloc bytes align) s is proper own at few turn alloc e = let v = taking_is m.alloc_turn TakeAlloc s e in subst (IsLegalAs c m k) (sym v.1) v.0
      legal_section TakingToBalance s is proper own at few turn alloc e = let v = taking_is m.alloc_turn TakeAlloc s e in subst (IsLegalAs c m k) (sym v.1) v.0
      legal_section (GivingAlloc r made) s is proper own at few turn alloc e = told_legal s _ e (alloc refl)
      legal_section (Choosing bytes align) s is proper own at few turn alloc e = grind (arith, placement_is, nat_tests)
      legal_section (SettlingGroups base chunk bytes align) s is proper own at few turn alloc e = told_legal s _ e (subst (λ spans. OnEach spans (IsMarked m (Held k))) (sym (group_spans chunk 0 (groups_at c base))) own.held, refl)
      legal_section (AddingChunk base chunk bytes align) s is proper own at few turn alloc e = told_legal s _ e (new_legal base chunk bytes align is.0 is.1 proper (placement c (plain_fit c bytes align) bytes (m.chunks ++ new_chunk c chunk base ∷ [])) refl)
      legal_section (Populating object missing) s is proper own at few turn alloc e = grind (arith, nat_tests)
      legal_section (SettlingObject object) s is proper own at few turn alloc e = told_legal s _ e (is, refl)
      legal_section (Unplacing object) s is proper own at few turn alloc e = told_legal s _ e is
      legal_section (ChoosingAtomic bytes align) s is proper own at few turn alloc e = told_legal s _ e (atomic_legal bytes align proper (placement c (atomic_fit c bytes align) bytes m.chunks) refl)
      legal_section (Zeroing object) s is proper own at few turn alloc e = told_legal s _ e is
      legal_section (SettlingAtomic object) s is proper own at few turn alloc e = told_legal s _ e (is, refl)
      legal_section (FreeingObject object serial) s is proper own at few turn alloc e = grind (arith, nat_tests)
      legal_section (Adding object serial cpu index amount) s is proper own at few turn alloc e = told_legal s _ e is
      legal_section (Summing object serial index) s is proper own at few turn alloc e = told_legal s _ e (is.0, is.1, refl)
      legal_section Sparing s is proper own at few turn alloc e = grind (arith, nat_tests)
      legal_section (Depopulating base populated) s is proper own at few turn alloc e = told_legal s _ e is
      legal_section (UnlinkingGroups base) s is proper own at few turn alloc e = told_legal s _ e is
      legal_section (NextFill filled) s is proper own at few turn alloc e = grind (arith, nat_tests)
      legal_section (Filling chunk base page filled) s is proper own at few turn alloc e = grind (arith, nat_tests)
      legal_section (NotingFilled chunk page filled) s is proper own at few turn alloc e = told_legal s _ e is
