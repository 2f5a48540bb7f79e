-- Chunks whose pages are populated and noted, and whose objects are settled.
use Rattle.vm_model.proofs.Tabulated.{length-tabulated}
use Rattle.std.proofs.Common.{◌≡◌, ◌≢◌, ℕ, ◌⊎◌, inl, inr, Bool, true, false, List, length, slice_get, Option, Some, refl, ap, sym, ◌∙◌, subst, arith, [], map, suc, zero, ◌+◌, ◌<◌, ◌∷◌, ◌≤◌, ◌==◌}
use Rattle.map_laws.proofs.TestsAndFilters.{IsIn, in_among, first_or, put_new}
use Rattle.map_laws.proofs.chunks.ChunkFacts.{IsChunkFine, IsChunkAt, IsChunkOf, AreGroupsLive, IsSameRow, NumberStays, OnUnits, chunk_stays, IsLacking, of_stays, page_in_units}
use Rattle.map_laws.proofs.chunks.ChunkMoves.{IsChunkMoved, AreGrown, later_places, next_busy, given_chunks, given_mapped, mapped_still, quiet_chunks}
use Rattle.map_laws.proofs.chunks.ChunkRows.{AreNumbered, same_row, keyed_is, fitting, object_low, placed_lacking, placement_is, plain_rows, plain_stays, rows_kept}
use Rattle.vm_model.specs.Rules.{AreUnits}
use Rattle.vm_model.specs.PlainMap.{Chunk, PlainMap, Lives}
use Rattle.vm_model.specs.Carried.{IsBeingPopulated, has_alloc}
use Rattle.vm_model.specs.Legal.{IsMapped, IsUnmapped, OnEach, IsLegalAs}
use Rattle.vm_model.specs.Next.{Next, Go, next}
use Rattle.map_laws.proofs.ProperPlaces.{OnNext, IsObjectSize}
use Rattle.vm_model.specs.Places.{Place, Choosing, Filling, NotingFilled, Populating, SettlingObject, AddingChunk, NextFill, SettlingGroups}
use Rattle.vm_model.specs.Events.{Section, Fill, PlaceObject, Populate, Filled, NextPage, Settle, SettleObject}
use Rattle.vm_model.specs.Setup.{Setup, groups_at, pages_in_units, unit_bits}
use Rattle.vm_model.specs.Chunks.{change_chunk, ObjectAt, bit_list, plain_fit, pages_of_object, with_live_object, with_page}
use Rattle.vm_model.specs.Space.{count_from, covers, is_among, paint, times, span}
use Rattle.vm_model.specs.Effects.{effect_as}
use Rattle.vm_model.proofs.Paint.{length-paint_from, slice_get-paint}
use Rattle.map_laws.proofs.areas.AreaFacts.{painted_still, unpainted, painted, IsHolding}
use Rattle.vm_model.specs.Areas.{spans_of, areas_of, group_areas, group_kinds, with_areas}
use Rattle.map_laws.proofs.blocks.BlockWorlds.{only_one}
use Rattle.std.proofs.lemmas.Option.{slice_get_within}
use Rattle.vm_model.specs.declared.areas.Area.{Area}
use Rattle.vm_model.specs.declared.areas.Span.{Span}
use Rattle.map_laws.proofs.blocks.BlockFacts.{same_test, to_same}
use Rattle.map_laws.proofs.blocks.BlockPlaces.{with_keeps}
use Rattle.map_laws.proofs.chunks.ChunkFalls.{page_fillable}
use Rattle.map_laws.proofs.KeptThroughSteps.{there}
use Rattle.vm_model.specs.declared.areas.AreaKind.TheVariants as kind

-- Pages that are noted as populated, and chunks that are added.

-- what painted says of a place
pub painted_true : (test : ℕ → Bool) (xs : List Bool) (page : ℕ) → slice_get (paint test true xs) page ≡ Some true → (test page ≡ true) ⊎ (slice_get xs page ≡ Some true)
painted_true test xs page h = grind (arith, unpainted)

pub painted_false : (test : ℕ → Bool) (xs : List Bool) (page : ℕ) → slice_get (paint test true xs) page ≡ Some false → (test page ≡ false) × (slice_get xs page ≡ Some false)
painted_false test xs page h = grind (arith, slice_get-paint, painted, unpainted)

module _ (c : Setup) (units : AreUnits c) (m : PlainMap) (k : ℕ) (numbered : AreNumbered m) (busy : ℕ → ℕ → Type 0) (none : (number page : ℕ) → busy number page → ⊥) (p : Place) (alloc : has_alloc p ≡ true)
    (all : (h : Chunk) → IsIn h m.chunks → IsChunkFine c m (λ number page. busy number page ⊎ IsBeingPopulated number page p) h)
    (number base : ℕ) (of : IsChunkOf m number base) (test : ℕ → Bool) (mapped : (page : ℕ) → test page ≡ true → OnUnits c base page (IsMapped m))
    (mine : (page : ℕ) → IsBeingPopulated number page p → test page ≡ true) (only : (other page : ℕ) → IsBeingPopulated other page p → other ≡ number)
    (s : Section) (change : Chunk → Chunk) (numbers : (h : Chunk) → (change h).number ≡ h.number) (bases : (h : Chunk) → (change h).base ≡ h.base) (paints : (h : Chunk) → (change h).populated ≡ paint test true h.populated)
    (chunks : (effect_as c m k s).chunks ≡ change_chunk number change m.chunks) (next : (effect_as c m k s).next_chunk ≡ m.next_chunk) (stays : (number : ℕ) → NumberStays m (effect_as c m k s) number) where
  abbrev noted_map : PlainMap
  noted_map = effect_as c m k s

  noted_base : (h : Chunk) → IsIn h m.chunks → h.number ≡ number → h.base ≡ base
  noted_base h there e = (numbered.same of.chunk h of.there there (of.numbered ∙ sym e)).base ∙ of.based

  -- the chunk with its new pages, before anything else is looked at
  noted_fine : (h : Chunk) → IsIn h m.chunks → h.number ≡ number → IsChunkFine c m (λ i page. busy i page ⊎ ⊥) (change h)
  noted_fine h there e = let fine = all h there in (grind (arith, length-paint_from, painted_true, noted_base, painted_false))

  pub noted_grown : AreGrown m noted_map
  noted_grown = record {
    next = omega (arith, next);
    back = λ h there low. (let was = keyed_is (λ (x : Chunk). x.number) number change m.chunks h (subst (IsIn h) chunks there) in
        let r : (was.0.number ≡ h.number) × ((page : ℕ) → slice_get was.0.populated page ≡ Some true → slice_get h.populated page ≡ Some true) = (
        grind (arith, slice_get-paint)) in (was.0, was.1, r.0, r.1));
  }

  noted_number : (h : Chunk) → IsIn h noted_map.chunks → (was : Chunk) × IsIn was m.chunks × (h.number ≡ was.number) × (((was.number ≡ number) × (h ≡ change was)) ⊎ ((was.number ≢ number) × (h ≡ was)))
  noted_number h there = let was = keyed_is (λ (x : Chunk). x.number) number change m.chunks h (subst (IsIn h) chunks there) in (grind arith)

  both_changed : (h h' : Chunk) → IsSameRow h h' → IsSameRow (change h) (change h')
  both_changed h h' row = grind (arith, length-paint_from, slice_get-paint)

  pub noted : (n : Next) → OnNext (IsChunkAt c noted_map) n → IsChunkMoved c m k busy p s n
  noted n own = record {
    chunks = λ h there. (let was = noted_number h there in elim was.3 [
      | inl mine ↦ subst (IsChunkFine c noted_map (λ i page. busy i page ⊎ next_busy n i page)) (sym mine.1)
          (chunk_stays c units m noted_map _ _ (change was.0) (change was.0) (same_row (change was.0)) (stays (change was.0).number) (λ page b. elim b [ inl other ↦ inl other | inr never ↦ absurd never ]) (noted_fine was.0 was.1 mine.0))
      | inr other ↦ subst (IsChunkFine c noted_map (λ i page. busy i page ⊎ next_busy n i page)) (sym other.1)
          (chunk_stays c units m noted_map _ _ was.0 was.0 (same_row was.0) (stays was.0.number) (λ page b. elim b [ inl others ↦ inl others | inr own ↦ absurd (other.0 (only was.0.number page own)) ]) (all was.0 was.1))
    ]);
    numbered = record {
      low = λ h there. (let was = noted_number h there in let l = numbered.low was.0 was.1 in let e = was.2 in omega (arith, next));
      same = λ h h' there there' e. (let was = noted_number h there in let was' = noted_number h' there' in
          let row = numbered.same was.0 was'.0 was.1 was'.1 (sym was.2 ∙ e ∙ was'.2) in (grind (arith, both_changed)));
    };
    own = own;
    others = λ q apart at. later_places c m noted_map noted_grown q (apart alloc) at;
  }

-- An object is placed in a chunk that has room, and its missing pages get frames.

module _ (c : Setup) (units : AreUnits c) (m : PlainMap) (k : ℕ) (numbered : AreNumbered m) (once : (page : ℕ) → times page (spans_of m.areas) ≤ 1) (busy : ℕ → ℕ → Type 0) (bytes align : ℕ)
    (all : (h : Chunk) → IsIn h m.chunks → IsChunkFine c m (λ number page. busy number page ⊎ IsBeingPopulated number page (Choosing bytes align)) h) where
  pub place_moved : (at : ObjectAt) (missing : List ℕ) → IsObjectSize at.bytes → IsLegalAs c m k (PlaceObject at align missing) → IsChunkMoved c m k busy (Choosing bytes align) (PlaceObject at align missing) (Go (Populating at missing))
  place_moved at missing size legal =
      let is = placement_is c (plain_fit c at.bytes align) at.bytes m.chunks at missing legal in
      let rows = plain_rows c m k (PlaceObject at align missing) refl in
      let of : IsChunkOf m at.chunk at.base = record { chunk = is.chunk; there = is.there; numbered = sym is.numbered; based = sym is.based } in
      let after = of_stays m (effect_as c m k (PlaceObject at align missing)) at.chunk at.base rows of in
      quiet_chunks c units m k numbered once busy (Choosing bytes align) all (PlaceObject at align missing) (Go (Populating at missing)) rows (λ number. plain_stays c m k (PlaceObject at align missing) number refl) (λ number page mine. absurd mine)
      (placed_lacking c (plain_fit c at.bytes align) at.bytes m.chunks (effect_as c m k (PlaceObject at align missing)) at missing is (all is.chunk is.there).long after.0 after.1
      (λ page h. (object_low c (bit_list c is.chunk) at at.bytes (length-tabulated _ (unit_bits c) 0) size refl (fitting at.bytes align at.off (bit_list c is.chunk) is.fits) page h).0))

-- Its missing pages get frames.
module _ (c : Setup) (units : AreUnits c) (m : PlainMap) (k : ℕ) (numbered : AreNumbered m) (once : (page : ℕ) → times page (spans_of m.areas) ≤ 1) (busy : ℕ → ℕ → Type 0) (none : (number page : ℕ) → busy number page → ⊥)
    (at : ObjectAt) (missing : List ℕ) (all : (h : Chunk) → IsIn h m.chunks → IsChunkFine c m (λ number page. busy number page ⊎ IsBeingPopulated number page (Populating at missing)) h) (lack : IsLacking c m at missing)
    (legal : IsLegalAs c m k (Populate at missing)) where
  low_missing : (page : ℕ) → is_among missing page ≡ true → page < c.unit_pages
  low_missing page h = lack.low page (lack.within page h)

  now_mapped : (page cpu unit : ℕ) → slice_get c.units cpu ≡ Some unit → (is_among missing page ≡ true) ⊎ (slice_get lack.here.chunk.populated page ≡ Some true) → IsMapped (effect_as c m k (Populate at missing)) (at.base + unit + page)
  now_mapped page cpu unit e (inl lacks) = given_mapped c units m k numbered once busy (Populating at missing) all none (λ number page mine. absurd mine) refl at.chunk at.base missing lack.here low_missing legal (Populate at missing) refl refl refl refl refl
      (at.base + unit + page) (page_in_units c at.base page cpu unit missing e lacks)
  now_mapped page cpu unit e (inr has) = mapped_still c units m k numbered once busy (Populating at missing) all none (λ number page mine. absurd mine) refl at.chunk at.base missing lack.here low_missing legal (Populate at missing) refl refl refl refl refl
      (at.base + unit + page) (subst (λ b. IsMapped m (b + unit + page)) lack.here.based ((all lack.here.chunk lack.here.there).populated page has cpu unit e))

  pub populate_moved : IsChunkMoved c m k busy (Populating at missing) (Populate at missing) (Go (SettlingObject at))
  populate_moved = given_chunks c units m k numbered once busy (Populating at missing) all none (λ number page mine. absurd mine) refl at.chunk at.base missing lack.here low_missing legal (Populate at missing) refl refl refl refl refl (Go (SettlingObject at))
      (λ page h. (refl, lack.within page h))
      ((of_stays m (effect_as c m k (Populate at missing)) at.chunk at.base (rows_kept m (effect_as c m k (Populate at missing)) refl refl) lack.here).0, (λ page h. (lack.low page h, (λ cpu unit e. now_mapped page cpu unit e (lack.either page h)))))

-- A page that a balance fills gets frames.
module _ (c : Setup) (units : AreUnits c) (m : PlainMap) (k : ℕ) (numbered : AreNumbered m) (once : (page : ℕ) → times page (spans_of m.areas) ≤ 1) (busy : ℕ → ℕ → Type 0) (none : (number page : ℕ) → busy number page → ⊥)
    (chunk base page filled : ℕ) (all : (h : Chunk) → IsIn h m.chunks → IsChunkFine c m (λ number own. busy number own ⊎ IsBeingPopulated number own (Filling chunk base page filled)) h) (at : IsChunkAt c m (Filling chunk base page filled))
    (legal : IsLegalAs c m k (Fill base page)) where
  low_page : (own : ℕ) → is_among (page ∷ []) own ≡ true → own < c.unit_pages
  low_page own h = subst (λ i. i < c.unit_pages) (only_one page own h) at.low

  pub fill_moved : IsChunkMoved c m k busy (Filling chunk base page filled) (Fill base page) (Go (NotingFilled chunk page filled))
  fill_moved = given_chunks c units m k numbered once busy (Filling chunk base page filled) all none (λ number own mine. absurd mine) refl chunk base (page ∷ []) at.of low_page legal (Fill base page) refl refl refl refl refl (Go (NotingFilled chunk page filled))
      (λ own h. (refl, only_one page own h)) (
        base,
        (let of = of_stays m (effect_as c m k (Fill base page)) chunk base (rows_kept m (effect_as c m k (Fill base page)) refl refl) at.of in record { of = of.0; low = at.low; unpopulated = of.1.populated page ∙ at.unpopulated }),
        (λ cpu unit e. given_mapped c units m k numbered once busy (Filling chunk base page filled) all none (λ number own mine. absurd mine) refl chunk base (page ∷ []) at.of low_page legal (Fill base page) refl refl refl refl refl
            (base + unit + page) (page_in_units c base page cpu unit (page ∷ []) e (in_among page (page ∷ []) (record { place = 0; at = refl })))),
      )

-- A chunk's areas are settled, a page is chosen to be filled, and populated pages are noted.

-- Areas that are put among others are there.

pub with_new : (xs areas : List Area) (a : Area) → IsIn a xs → IsIn a (with_areas xs areas)
with_new [] areas a there = (let no = there.at in cc)
with_new (x ∷ xs) areas a there = grind (arith, with_new xs, first_or, there, with_keeps, put_new)

-- the area of a group among those of its chunk
group_settled : (k first chunk group base : ℕ) (groups : List Span) (i : ℕ) (g : Span) → slice_get groups i ≡ Some g
    → (serial : ℕ) × (slice_get (areas_of k first (group_kinds chunk group (map (λ (g : Span). span (base + g.start) g.pages) groups))) i ≡ Some (record { span = span (base + g.start) g.pages; kind = kind.Chunk chunk (group + i); caller = k; serial = serial }))
group_settled k first chunk group base [] i g e = cc
group_settled k first chunk group base (x ∷ groups) zero g e = let same : x ≡ g = cc in
    (first, ap (λ (y : Span). group_area y group) same ∙ ap (group_area g) (let f : group ≡ group + 0 = omega arith in f))
  where
    group_area : Span → ℕ → Option Area
    group_area y n = Some (record { span = span (base + y.start) y.pages; kind = kind.Chunk chunk n; caller = k; serial = first })
group_settled k first chunk group base (x ∷ groups) (suc i) g e = grind (arith, group_settled k (suc first) chunk (suc group) base groups i g e)

module _ (c : Setup) (units : AreUnits c) (m : PlainMap) (k : ℕ) (numbered : AreNumbered m) (once : (page : ℕ) → times page (spans_of m.areas) ≤ 1) (busy : ℕ → ℕ → Type 0) where
  module _ (base chunk bytes align : ℕ) (all : (h : Chunk) → IsIn h m.chunks → IsChunkFine c m (λ number page. busy number page ⊎ IsBeingPopulated number page (SettlingGroups base chunk bytes align)) h)
      (own : IsHolding c m k (SettlingGroups base chunk bytes align)) (first : ℕ) where
    abbrev settled_map : PlainMap
    settled_map = effect_as c m k (Settle (group_areas c chunk base) first)

    settled_live : AreGroupsLive c settled_map chunk base
    settled_live group g e = let is = group_settled k first chunk 0 base c.groups group g e in record {
      area = record { span = span (base + g.start) g.pages; kind = kind.Chunk chunk (0 + group); caller = k; serial = is.0 };
      there = with_new (areas_of k first (group_areas c chunk base)) m.areas _ (record { place = group; at = is.1 });
      span = refl;
      kind = ap (λ n. kind.Chunk chunk n) (let f : 0 + group ≡ group = omega arith in f);
    }

    pub groups_moved : IsChunkMoved c m k busy (SettlingGroups base chunk bytes align) (Settle (group_areas c chunk base) first) (Go (AddingChunk base chunk bytes align))
    groups_moved = quiet_chunks c units m k numbered once busy (SettlingGroups base chunk bytes align) all (Settle (group_areas c chunk base) first) (Go (AddingChunk base chunk bytes align))
        (plain_rows c m k (Settle (group_areas c chunk base) first) refl) (λ number. plain_stays c m k (Settle (group_areas c chunk base) first) number refl) (λ number page mine. absurd mine)
        (settled_live, (λ page e. (let was = own.bare page e in record { unmapped = was.unmapped; not_stale = was.not_stale })))

  -- a page is chosen
  module _ (filled : ℕ) (all : (h : Chunk) → IsIn h m.chunks → IsChunkFine c m (λ number page. busy number page ⊎ IsBeingPopulated number page (NextFill filled)) h) where
    pub next_moved : (chunk base page : ℕ) → IsLegalAs c m k (NextPage chunk base page) → IsChunkMoved c m k busy (NextFill filled) (NextPage chunk base page) (Go (Filling chunk base page filled))
    next_moved chunk base page legal =
        let is = page_fillable c m.chunks (legal.0, page) (λ i h e. (all h (record { place = i; at = e })).long) legal.1 in
        let of : IsChunkOf (effect_as c m k (NextPage chunk base page)) chunk base = record { chunk = legal.0; there = is.there; numbered = sym legal.2; based = sym legal.3 } in
        quiet_chunks c units m k numbered once busy (NextFill filled) all (NextPage chunk base page) (Go (Filling chunk base page filled)) (plain_rows c m k (NextPage chunk base page) refl)
        (λ number. plain_stays c m k (NextPage chunk base page) number refl) (λ number page mine. absurd mine)
        (record { of = of; low = (let l = slice_get_within legal.0.populated page false is.unpopulated in omega (arith, (all legal.0 is.there).long)); unpopulated = is.unpopulated })

  -- the pages of an object, or a filled page, are noted
  module _ (none : (number page : ℕ) → busy number page → ⊥) where
    pub lives_moved : (at : ObjectAt) (serial : ℕ) (n : Next) (all : (h : Chunk) → IsIn h m.chunks → IsChunkFine c m (λ number page. busy number page ⊎ IsBeingPopulated number page (SettlingObject at)) h) → IsChunkAt c m (SettlingObject at)
        → OnNext (IsChunkAt c (effect_as c m k (SettleObject at serial))) n → IsChunkMoved c m k busy (SettlingObject at) (SettleObject at serial) n
    lives_moved at serial n all own next = noted c units m k numbered busy none (SettlingObject at) refl all at.chunk at.base own.0 (is_among (pages_of_object at)) (λ page e. (own.1 page e).1) (λ page mine. mine.1) (λ other page mine. sym mine.0)
        (SettleObject at serial) (with_live_object at (Lives serial)) (λ h. refl) (λ h. refl) (λ h. refl) refl refl (λ number. record { areas = λ a group is e. is; still = λ page is e. record { frame = refl; clean = λ f. f } }) n next

    pub filled_moved : (chunk page filled : ℕ) (n : Next) (all : (h : Chunk) → IsIn h m.chunks → IsChunkFine c m (λ number own. busy number own ⊎ IsBeingPopulated number own (NotingFilled chunk page filled)) h) → IsChunkAt c m (NotingFilled chunk page filled)
        → OnNext (IsChunkAt c (effect_as c m k (Filled chunk page))) n → IsChunkMoved c m k busy (NotingFilled chunk page filled) (Filled chunk page) n
    filled_moved chunk page filled n all own next = noted c units m k numbered busy none (NotingFilled chunk page filled) refl all chunk own.0 own.1.of (λ other. other == page) (λ other e. subst (λ i. OnUnits c own.0 i (IsMapped m)) (sym (to_same other page e)) own.2)
        (λ other mine. ap (λ i. i == page) (sym mine.1) ∙ same_test page) (λ other at mine. sym mine.0)
        (Filled chunk page) (with_page page) (λ h. refl) (λ h. refl) (λ h. refl) refl refl (λ number. record { areas = λ a group is e. is; still = λ page is e. record { frame = refl; clean = λ f. f } }) n next
