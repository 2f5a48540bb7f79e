-- What sections do to chunks and their pages: those that change no chunk's pages, and those that give pages frames.
use Rattle.std.proofs.lemmas.Bool.{cases_lt}
use Rattle.std.proofs.Common.{Bool, List, None, Some, ap, arith, false, inl, inr, refl, slice_get, subst, suc, sym, true, zero, ℕ, ◌+◌, ◌<◌, ◌==◌, ◌||◌, ◌∙◌, ◌≡◌, ◌≢◌, ◌≤◌, ◌⊎◌, ◌-◌, nat_le, [], ◌∷◌, map, drop, slice_index}
use Rattle.std.proofs.lemmas.Option.{slice_get_within}
use Rattle.vm_model.specs.Areas.{spans_of}
use Rattle.vm_model.specs.Carried.{IsBeingPopulated, has_alloc}
use Rattle.vm_model.specs.Chunks.{ObjectAt}
use Rattle.vm_model.specs.Effects.{effect_as}
use Rattle.vm_model.specs.Events.{Section}
use Rattle.vm_model.specs.Frames.{free_frames, give_frames}
use Rattle.vm_model.specs.Legal.{CanMap, IsMapped, IsUnmapped}
use Rattle.vm_model.specs.Next.{Answer, Go, Next}
use Rattle.vm_model.specs.Places.{Place}
use Rattle.vm_model.specs.PlainMap.{Chunk, PlainMap, taken}
use Rattle.vm_model.specs.Rules.{AreUnits, AreApart, AreDisjoint, AreGroups}
use Rattle.vm_model.specs.Setup.{Setup, pages_in_units, groups_at, highest}
use Rattle.vm_model.specs.Space.{count_from, is_among, times, span, holds, one_if, begins_free, free_from, one_longer}
use Rattle.map_laws.proofs.blocks.BlockFacts.{IsStill, same_test, still_unmapped}
use Rattle.map_laws.proofs.blocks.BlockPlaces.{IsInChunk}
use Rattle.map_laws.proofs.TestsAndFilters.{IsIn, or_right, times-cons, holds_to, holds_from, not_true, by_test}
use Rattle.map_laws.proofs.chunks.ChunkFacts.{AreGroupsLive, AreSameRows, IsChunkAt, IsChunkFine, IsChunkOf, IsPlacedAt, NumberStays, OnUnits, chunk_at_stays, chunk_stays, group_page, page_in_units, same_page, unit_covered, unit_page}
use Rattle.map_laws.proofs.chunks.ChunkRows.{AreNumbered, rows_kept, rows_numbered, same_row}
use Rattle.map_laws.proofs.KeptThroughSteps.{same_or}
use Rattle.map_laws.proofs.OutMoves.{same_area}
use Rattle.map_laws.proofs.PlaceMoves.{given_all, given_still, free_row, row_in}
use Rattle.map_laws.proofs.ProperPlaces.{OnNext}
use Rattle.map_laws.proofs.areas.AreaFacts.{ungiven}
use Rattle.std.specs.List.{list_all}
use Rattle.std.proofs.lemmas.Bool.Decides.{nat_tests}
use Rattle.vm_model.specs.declared.areas.Span.{Span}
use Rattle.vm_model.specs.Laws.{as_free}
use Rattle.map_laws.proofs.SearchEnds.{and_both, highest_fit}
use Rattle.map_laws.proofs.Quiet.{free_one}

-- the pages that the place behind a section is populating
abbrev pub next_busy : Next → ℕ → ℕ → Type 0
next_busy (Go p) number page = IsBeingPopulated number page p
next_busy (Answer reply made) number page = ⊥

-- what a section does to chunks, where its caller goes on to the given next and others are populating pages
pub record IsChunkMoved (c : Setup) (m : PlainMap) (k : ℕ) (busy : ℕ → ℕ → Type 0) (p : Place) (s : Section) (n : Next) : Type 0 where
  pub chunks : (h : Chunk) → IsIn h (effect_as c m k s).chunks → IsChunkFine c (effect_as c m k s) (λ number page. busy number page ⊎ next_busy n number page) h
  pub numbered : AreNumbered (effect_as c m k s)
  pub own : OnNext (IsChunkAt c (effect_as c m k s)) n
  pub others : (q : Place) → (has_alloc p ≡ true → has_alloc q ≡ false) → IsChunkAt c m q → IsChunkAt c (effect_as c m k s) q

-- each chunk with an older number was there before, and its populated pages were no more
pub record AreGrown (m m' : PlainMap) : Type 0 where
  pub next : m.next_chunk ≤ m'.next_chunk
  pub back : (h : Chunk) → IsIn h m'.chunks → h.number < m.next_chunk → (was : Chunk) × IsIn was m.chunks × (was.number ≡ h.number) × ((page : ℕ) → slice_get was.populated page ≡ Some true → slice_get h.populated page ≡ Some true)

-- a caller without the alloc turn has at most an object that was placed at once
pub later_places : (c : Setup) (m m' : PlainMap) → AreGrown m m' → (q : Place) → has_alloc q ≡ false → IsChunkAt c m q → IsChunkAt c m' q
later_places c m m' grown q h is = grind arith

pub rows_grown : (m m' : PlainMap) → AreSameRows m m' → AreGrown m m'
rows_grown m m' rows = record {
  next = let e = rows.next in omega arith;
  back = λ h there low. (let was = rows.back h there in (was.0, was.1, sym was.2.number, (λ page e. was.2.populated page ∙ e)));
}

-- two pages in one: the areas are one, so the chunks' numbers are
pub number_once : (m : PlainMap) (page : ℕ) → times page (spans_of m.areas) ≤ 1 → (a b : IsInChunk m page) → a.chunk ≡ b.chunk
number_once m page once a b = grind (arith, same_area)

module _ (c : Setup) (units : AreUnits c) (m : PlainMap) (k : ℕ) (numbered : AreNumbered m) (once : (page : ℕ) → times page (spans_of m.areas) ≤ 1) (busy : ℕ → ℕ → Type 0) (p : Place)
    (all : (h : Chunk) → IsIn h m.chunks → IsChunkFine c m (λ number page. busy number page ⊎ IsBeingPopulated number page p) h) where
  -- no chunk is changed but for its objects, and the areas and pages of chunks stay
  pub quiet_chunks : (s : Section) (n : Next) → AreSameRows m (effect_as c m k s) → ((number : ℕ) → NumberStays m (effect_as c m k s) number) → ((number page : ℕ) → IsBeingPopulated number page p → next_busy n number page)
      → OnNext (IsChunkAt c (effect_as c m k s)) n → IsChunkMoved c m k busy p s n
  quiet_chunks s n rows stays more own = record {
    chunks = λ h there. (let was = rows.back h there in chunk_stays c units m (effect_as c m k s) _ _ was.0 h was.2 (stays was.0.number) (λ page b. elim b [ inl other ↦ inl other | inr mine ↦ inr (more was.0.number page mine) ]) (all was.0 was.1));
    numbered = rows_numbered m (effect_as c m k s) rows numbered;
    own = own;
    others = λ q apart at. chunk_at_stays c units m (effect_as c m k s) rows stays (λ h there. (all h there).live) q at;
  }

  -- Pages of one chunk get frames.

  module _ (none : (number page : ℕ) → busy number page → ⊥) (idle : (number page : ℕ) → IsBeingPopulated number page p → ⊥) (alloc : has_alloc p ≡ true) (number base : ℕ) (pages : List ℕ) (of : IsChunkOf m number base)
      (low : (page : ℕ) → is_among pages page ≡ true → page < c.unit_pages) (legal : CanMap c m (pages_in_units c base pages)) (s : Section) (areas : (effect_as c m k s).areas ≡ m.areas) (chunks : (effect_as c m k s).chunks ≡ m.chunks)
      (next : (effect_as c m k s).next_chunk ≡ m.next_chunk) (stale : (effect_as c m k s).stale ≡ m.stale) (frames : (effect_as c m k s).frames ≡ give_frames (pages_in_units c base pages) (free_frames c m.frames) m.frames) where
    abbrev given_map : PlainMap
    given_map = effect_as c m k s

    given_rows : AreSameRows m given_map
    given_rows = rows_kept m given_map chunks next

    own_live : AreGroupsLive c m number base
    own_live = subst (λ n. AreGroupsLive c m n base) of.numbered (subst (AreGroupsLive c m of.chunk.number) of.based (all of.chunk of.there).live)

    -- a page that gets a frame is one of the chunk's
    given_in : (x : ℕ) → is_among (pages_in_units c base pages) x ≡ true → (is : IsInChunk m x) × (is.chunk ≡ number)
    given_in x h = let u = unit_page c base x pages h in
        subst (λ y. (is : IsInChunk m y) × (is.chunk ≡ number)) (sym u.same) (group_page c m number base (base + u.unit + u.page) own_live (unit_covered c base u.page u.cpu u.unit units u.at (low u.page u.among)))

    pub given_mapped : (x : ℕ) → is_among (pages_in_units c base pages) x ≡ true → IsMapped given_map x
    given_mapped x h = let is = given_all (pages_in_units c base pages) (free_frames c m.frames) m.frames x None h legal.1 (legal.0 x h).unmapped in (is.0, ap (λ l. slice_get l x) frames ∙ is.1)

    pub mapped_still : (x : ℕ) → IsMapped m x → IsMapped given_map x
    mapped_still x is = let g = given_still (pages_in_units c base pages) (free_frames c m.frames) m.frames x is.0 is.1 in (g.0, ap (λ l. slice_get l x) frames ∙ g.1)

    among_by : (x : ℕ) (t : Bool) → is_among (pages_in_units c base pages) x ≡ t → (is_among (pages_in_units c base pages) x ≡ true → ⊥) → IsStill m given_map x
    among_by x t e never = grind (arith, ungiven)

    other_stays : (n : ℕ) → n ≢ number → NumberStays m given_map n
    other_stays n apart = record {
      areas = λ a group there e. subst (IsIn a) (sym areas) there;
      still = λ page is e. among_by page _ refl (λ h. (let own = given_in page h in apart (sym e ∙ number_once m page (once page) is own.0 ∙ own.1)));
    }

    not_given : (page cpu unit : ℕ) → slice_get c.units cpu ≡ Some unit → page < c.unit_pages → (is_among pages page ≡ true → ⊥) → is_among (pages_in_units c base pages) (base + unit + page) ≡ true → ⊥
    not_given page cpu unit at less never h = let u = unit_page c base (base + unit + page) pages h in let f = u.same in
        never (subst (λ q. is_among pages q ≡ true) (sym (same_page c page u.page cpu u.cpu unit u.unit units at u.at less (low u.page u.among) (omega arith))) u.among)

    in_all : (x : ℕ) → is_among (pages_in_units c base pages) x ≡ true → is_among (pages_in_units c base (count_from c.unit_pages 0)) x ≡ true
    in_all x h = let u = unit_page c base x pages h in
        ap (is_among (pages_in_units c base (count_from c.unit_pages 0))) u.same ∙ page_in_units c base u.page u.cpu u.unit (count_from c.unit_pages 0) u.at (row_in c.unit_pages 0 u.page (omega arith) (let l = low u.page u.among in omega arith))

    module _ (n : Next) (noted : (page : ℕ) → is_among pages page ≡ true → next_busy n number page) where
      own_spare : (h : Chunk) → IsIn h m.chunks → h.number ≡ number → h.base ≡ base → (page : ℕ) → slice_get h.populated page ≡ Some false → (t : Bool) → is_among pages page ≡ t
          → OnUnits c base page (IsUnmapped given_map) ⊎ (busy number page ⊎ next_busy n number page)
      own_spare h there e f page g true a = inr (inr (noted page a))
      own_spare h there e f page g false a = elim ((all h there).spare page g) [
        | inl bare ↦ inl (grind (arith, among_by, not_given, slice_get_within))
        | inr b ↦ absurd (elim b [ inl other ↦ none h.number page other | inr mine ↦ idle h.number page mine ])
      ]

      own_fine : (h : Chunk) → IsIn h m.chunks → h.number ≡ number → h.base ≡ base → IsChunkFine c given_map (λ i page. busy i page ⊎ next_busy n i page) h
      own_fine h there e f = let fine = all h there in record {
        live = λ group g at. (let is = fine.live group g at in record { area = is.area; there = subst (IsIn is.area) (sym areas) is.there; span = is.span; kind = is.kind });
        long = fine.long;
        clean = λ page g. ap (λ l. slice_get l page) stale ∙ fine.clean page g;
        populated = λ page g cpu unit at. mapped_still (h.base + unit + page) (fine.populated page g cpu unit at);
        outer = λ page g out. still_unmapped m given_map page (among_by page _ refl (λ inside. (let all_in = in_all page inside in let out' = ap (λ b. is_among (pages_in_units c b (count_from c.unit_pages 0)) page) (sym f) ∙ out in cc))) (fine.outer page g out);
        spare = λ page g. subst (λ b. OnUnits c b page (IsUnmapped given_map) ⊎ (busy h.number page ⊎ next_busy n h.number page)) (sym f)
            (subst (λ i. OnUnits c base page (IsUnmapped given_map) ⊎ (busy i page ⊎ next_busy n i page)) (sym e) (own_spare h there e f page g _ refl));
      }

      pub given_chunks : OnNext (IsChunkAt c given_map) n → IsChunkMoved c m k busy p s n
      given_chunks own = record {
        chunks = λ h there. (let was = subst (IsIn h) chunks there in elim (same_or h.number number) [
          | inl e ↦ own_fine h was e ((numbered.same of.chunk h of.there was (of.numbered ∙ sym e)).base ∙ of.based)
          | inr apart ↦ chunk_stays c units m given_map _ _ h h (same_row h) (other_stays h.number apart) (λ page b. elim b [ inl other ↦ absurd (none h.number page other) | inr mine ↦ absurd (idle h.number page mine) ]) (all h was)
        ]);
        numbered = rows_numbered m given_map given_rows numbered;
        own = own;
        others = λ q apart at. later_places c m given_map (rows_grown m given_map given_rows) q (apart alloc) at;
      }

-- The groups of a chunk, where a search finds their base: each of their pages is free, and in one group.

-- how many free places a list begins with
count_first : List ℕ → ℕ
count_first [] = 0
count_first (n ∷ counts) = n

longer_is : (counts : List ℕ) → one_longer counts ≡ suc (count_first counts) ∷ counts
unfolding count_first
longer_is counts = grind (arith, nat_tests)

begins_by : (n : ℕ) (taken : List Bool) → n ≤ count_first (free_from taken) → begins_free n taken ≡ true
unfolding count_first
begins_by (suc n) (false ∷ taken) h = begins_by n taken (let e : count_first (one_longer (free_from taken)) ≡ suc (count_first (free_from taken)) = ap count_first (longer_is (free_from taken)) in omega arith)
begins_by _ _ h = grind arith

-- the count at a place is that of what is left there
count_at : (taken : List Bool) (k : ℕ) → slice_index (free_from taken) k ≡ count_first (free_from (drop k taken))
unfolding count_first
count_at [] zero = refl
count_at [] (suc k) = refl
count_at (true ∷ taken) zero = refl
count_at (false ∷ taken) zero = ap (λ l. slice_index l 0) (longer_is (free_from taken)) ∙ sym (ap count_first (longer_is (free_from taken)))
count_at (b ∷ taken) (suc k) = grind (arith, count_at taken k, longer_is, nat_tests)

fit_begins : (taken : List Bool) (s : Span) → nat_le s.pages (slice_index (free_from taken) s.start) ≡ true → begins_free s.pages (drop s.start taken) ≡ true
fit_begins taken s h = let low : s.pages ≤ slice_index (free_from taken) s.start = grind (arith, nat_tests) in begins_by s.pages (drop s.start taken) (omega (arith, count_at taken s.start))

-- spans that fit are free
free_by : (m : PlainMap) (s : Span) (spans : List Span) (page : ℕ) (t : Bool) → holds s page ≡ t → begins_free s.pages (drop s.start (taken m)) ≡ true → (1 ≤ times page spans → 1 ≤ as_free (slice_get m.marks page)) → 1 ≤ times page (s ∷ spans)
    → 1 ≤ as_free (slice_get m.marks page)
free_by m s spans page t e fit more n = grind (arith, free_row)

all_free : (m : PlainMap) (spans : List Span) (page : ℕ) → list_all (λ (s : Span). nat_le s.pages (slice_index (free_from (taken m)) s.start)) spans ≡ true → 1 ≤ times page spans → 1 ≤ as_free (slice_get m.marks page)
all_free m [] page h n = absurd (omega arith)
all_free m (s ∷ spans) page h n = let both = and_both (nat_le s.pages (slice_index (free_from (taken m)) s.start)) (list_all (λ (s : Span). nat_le s.pages (slice_index (free_from (taken m)) s.start)) spans) h in
    free_by m s spans page _ refl (fit_begins (taken m) s both.0) (all_free m spans page both.1) n

-- spans that are apart have each page once
none_more : (s : Span) (spans : List Span) (page : ℕ) → holds s page ≡ true → ((j : ℕ) (t : Span) → slice_get spans j ≡ Some t → AreApart s t) → times page spans ≡ 0
none_more s [] page h apart = refl
none_more s (t ∷ spans) page h apart = omega (arith, times-cons page t spans, ap one_if (not_true (holds t page) (apart 0 t refl page h)), none_more s spans page h (λ j x e. apart (suc j) x e))

once_by : (s : Span) (spans : List Span) (page : ℕ) (t : Bool) → holds s page ≡ t → ((j : ℕ) (u : Span) → slice_get spans j ≡ Some u → AreApart s u) → times page spans ≤ 1 → times page (s ∷ spans) ≤ 1
once_by s spans page t e apart more = grind (arith, times-cons, none_more)

apart_once : (spans : List Span) (page : ℕ) → AreDisjoint spans → times page spans ≤ 1
apart_once [] page apart = omega arith
apart_once (s ∷ spans) page apart = once_by s spans page _ refl (λ j u e. apart 0 (suc j) s u (omega arith) refl e) (apart_once spans page (λ i j x y l e f. apart (suc i) (suc j) x y (omega arith) e f))

-- a page of the groups at a base is one of the groups themselves
shifted : (base page : ℕ) (groups : List Span) → base ≤ page → times page (map (λ (g : Span). span (base + g.start) g.pages) groups) ≤ times (page - base) groups
shifted base page [] low = omega arith
shifted base page (g ∷ groups) low =
    let hold : one_if (holds (span (base + g.start) g.pages) page) ≤ one_if (holds g (page - base)) = by_test (holds (span (base + g.start) g.pages) page)
    (λ e. (let r = holds_to (span (base + g.start) g.pages) page e in omega (arith, ap one_if e, ap one_if (holds_from g (page - base) (omega arith) (omega arith))))) (λ e. omega (arith, ap one_if e)) in
    omega (arith, times-cons page (span (base + g.start) g.pages) (map (λ (g : Span). span (base + g.start) g.pages) groups), times-cons (page - base) g groups, shifted base page groups low)

below_none : (base page : ℕ) (groups : List Span) → page < base → times page (map (λ (g : Span). span (base + g.start) g.pages) groups) ≡ 0
below_none base page [] low = refl
below_none base page (g ∷ groups) low = grind (arith, below_none base page groups low, times-cons, holds_to, nat_tests)

pub groups_once : (c : Setup) (base page : ℕ) → AreGroups c → times page (groups_at c base) ≤ 1
groups_once c base page groups = elim (cases_lt page base) [
  | inl high ↦ omega (arith, below_none base page c.groups high)
  | inr low ↦ omega (arith, shifted base page c.groups low, apart_once c.groups (page - base) groups.apart)
]

free_or : (page : ℕ) (spans : List Span) (free n : ℕ) → times page spans ≡ n → times page spans ≤ 1 → (1 ≤ times page spans → 1 ≤ free) → times page spans ≤ free
free_or page spans free n e once h = grind (arith, nat_tests)

-- the groups that a search finds are free, each page in one of them
pub groups_free : (c : Setup) (m : PlainMap) (base page : ℕ) → AreGroups c → highest c (taken m) ≡ Some base → times page (groups_at c base) ≤ as_free (slice_get m.marks page)
groups_free c m base page groups e =
    free_or page (groups_at c base) (as_free (slice_get m.marks page)) _ refl (groups_once c base page groups) (all_free m (groups_at c base) page (highest_fit c (taken m) base e).1)
