-- What is kept of chunks, of their areas and of their pages between two events, and of the chunks at callers' places.
use Rattle.map_laws.proofs.SearchEnds.{flat_has}
use Rattle.map_laws.proofs.GivenMeets.{flat_in}
use Rattle.map_laws.proofs.chunks.ChunkFalls.{mapped_at}
use Rattle.std.proofs.lemmas.Bool.{cases_lt}
use Rattle.std.proofs.Common.{Bool, List, Some, [], ap, arith, false, flat_map, inl, inr, length, map, nat_lt, option_map, refl, slice_get, subst, suc, sym, true, zero, ℕ, ◌++◌, ◌+◌, ◌<◌, ◌==◌, ◌||◌, ◌∙◌, ◌∷◌, ◌≡◌, ◌≢◌, ◌≤◌, ◌⊎◌}
use Rattle.std.proofs.lemmas.Bool.Decides.{nat_tests}
use Rattle.std.proofs.lemmas.Option.{slice_get-map, slice_get_within}
use Rattle.vm_model.specs.Chunks.{ObjectAt, pages_of_object}
use Rattle.vm_model.specs.Legal.{IsBare, IsMapped, IsUnmapped, OnEach}
use Rattle.vm_model.specs.Places.{AddingChunk, Depopulating, Filling, NotingFilled, Place, Populating, SettlingAtomic, SettlingObject, UnlinkingGroups, Zeroing, group_starts}
use Rattle.vm_model.specs.PlainMap.{Chunk, PlainMap}
use Rattle.vm_model.specs.Rules.{AreUnits}
use Rattle.vm_model.specs.Setup.{Setup, groups_at, pages_in_units}
use Rattle.vm_model.specs.Space.{count_from, covers, holds, is_among, span}
use Rattle.vm_model.specs.declared.areas.Area.{Area}
use Rattle.vm_model.specs.declared.areas.Span.{Span}
use Rattle.map_laws.proofs.blocks.BlockFacts.{IsStill, same_test, still_bare, still_mapped, still_unmapped, to_same}
use Rattle.map_laws.proofs.blocks.BlockPlaces.{IsInChunk}
use Rattle.map_laws.proofs.TestsAndFilters.{IsIn, or_assoc, or_either, or_right, holds_from, among_in, in_among, covers_in, in_covers}
use Rattle.map_laws.proofs.KeptThroughSteps.{same_or}
use Rattle.vm_model.specs.declared.areas.AreaKind.TheVariants as kind

-- the live area of a chunk's group
pub record IsGroupArea (m : PlainMap) (chunk base group : ℕ) (g : Span) : Type 0 where
  pub area : Area
  pub there : IsIn area m.areas
  pub span : area.span ≡ span (base + g.start) g.pages
  pub kind : area.kind ≡ kind.Chunk chunk group

abbrev pub AreGroupsLive : Setup → PlainMap → (chunk base : ℕ) → Type 0
AreGroupsLive c m chunk base = (group : ℕ) (g : Span) → slice_get c.groups group ≡ Some g → IsGroupArea m chunk base group g

-- on a page of the unit of every processor
abbrev pub OnUnits : Setup → (base page : ℕ) → (ℕ → Type 0) → Type 0
OnUnits c base page P = (cpu unit : ℕ) → slice_get c.units cpu ≡ Some unit → P (base + unit + page)

-- of a chunk, where some of its pages are being populated
pub record IsChunkFine (c : Setup) (m : PlainMap) (busy : ℕ → ℕ → Type 0) (h : Chunk) : Type 0 where
  pub live : AreGroupsLive c m h.number h.base
  pub long : length h.populated ≡ c.unit_pages
  pub clean : OnEach (groups_at c h.base) (λ page. slice_get m.stale page ≡ Some false)
  pub populated : (page : ℕ) → slice_get h.populated page ≡ Some true → OnUnits c h.base page (IsMapped m)
  pub outer : (page : ℕ) → covers (groups_at c h.base) page ≡ true → is_among (pages_in_units c h.base (count_from c.unit_pages 0)) page ≡ false → IsUnmapped m page
  pub spare : (page : ℕ) → slice_get h.populated page ≡ Some false → OnUnits c h.base page (IsUnmapped m) ⊎ busy h.number page

-- a chunk of the map, by its number and its base
pub record IsChunkOf (m : PlainMap) (number base : ℕ) : Type 0 where
  pub chunk : Chunk
  pub there : IsIn chunk m.chunks
  pub numbered : chunk.number ≡ number
  pub based : chunk.base ≡ base

-- a chunk that was taken out of the map
pub record IsGone (c : Setup) (m : PlainMap) (number base : ℕ) : Type 0 where
  pub live : AreGroupsLive c m number base
  pub old : number < m.next_chunk
  pub gone : (h : Chunk) → IsIn h m.chunks → h.number ≢ number

-- the pages of an object that was placed at once, if its chunk is there
pub record IsPlacedAt (m : PlainMap) (at : ObjectAt) : Type 0 where
  pub old : at.chunk < m.next_chunk
  pub populated : (h : Chunk) → IsIn h m.chunks → h.number ≡ at.chunk → (page : ℕ) → is_among (pages_of_object at) page ≡ true → slice_get h.populated page ≡ Some true

-- an object whose missing pages get frames
pub record IsLacking (c : Setup) (m : PlainMap) (at : ObjectAt) (missing : List ℕ) : Type 0 where
  pub here : IsChunkOf m at.chunk at.base
  pub low : (page : ℕ) → is_among (pages_of_object at) page ≡ true → page < c.unit_pages
  pub either : (page : ℕ) → is_among (pages_of_object at) page ≡ true → (is_among missing page ≡ true) ⊎ (slice_get here.chunk.populated page ≡ Some true)
  pub within : (page : ℕ) → is_among missing page ≡ true → is_among (pages_of_object at) page ≡ true
  pub lacks : (page : ℕ) → is_among missing page ≡ true → slice_get here.chunk.populated page ≡ Some false

-- a page of a chunk that isn't populated
pub record IsOpenPage (c : Setup) (m : PlainMap) (number base page : ℕ) : Type 0 where
  pub of : IsChunkOf m number base
  pub low : page < c.unit_pages
  pub unpopulated : slice_get of.chunk.populated page ≡ Some false

-- of the chunk at a caller's place
abbrev pub IsChunkAt : Setup → PlainMap → Place → Type 0
IsChunkAt c m (AddingChunk base chunk bytes align) = AreGroupsLive c m chunk base × OnEach (groups_at c base) (IsBare m)
IsChunkAt c m (Populating at missing) = IsLacking c m at missing
IsChunkAt c m (SettlingObject at) = IsChunkOf m at.chunk at.base × ((page : ℕ) → is_among (pages_of_object at) page ≡ true → (page < c.unit_pages) × OnUnits c at.base page (IsMapped m))
IsChunkAt c m (Zeroing at) = IsPlacedAt m at
IsChunkAt c m (SettlingAtomic at) = IsPlacedAt m at
IsChunkAt c m (Depopulating base populated) = (number : ℕ) × IsGone c m number base
    × ((page : ℕ) → is_among populated page ≡ true → (page < c.unit_pages) × OnUnits c base page (IsMapped m))
    × OnEach (groups_at c base) (λ page. is_among (pages_in_units c base populated) page ≡ false → IsUnmapped m page)
IsChunkAt c m (UnlinkingGroups base) = (number : ℕ) × IsGone c m number base × OnEach (groups_at c base) (IsUnmapped m)
IsChunkAt c m (Filling chunk base page filled) = IsOpenPage c m chunk base page
IsChunkAt c m (NotingFilled chunk page filled) = (base : ℕ) × IsOpenPage c m chunk base page × OnUnits c base page (IsMapped m)
IsChunkAt c m _ = Unit {0}

-- Pages in units and in groups.

-- a page of a unit, by its number there
pub record IsUnitPage (c : Setup) (base : ℕ) (pages : List ℕ) (x : ℕ) : Type 0 where
  pub cpu : ℕ
  pub unit : ℕ
  pub at : slice_get c.units cpu ≡ Some unit
  pub page : ℕ
  pub among : is_among pages page ≡ true
  pub same : x ≡ base + unit + page

pub unit_page : (c : Setup) (base x : ℕ) (pages : List ℕ) → is_among (pages_in_units c base pages) x ≡ true → IsUnitPage c base pages x
unit_page c base x pages h =
    let from = flat_in (λ unit. map (λ page. base + unit + page) pages) c.units x (among_in x (pages_in_units c base pages) h) in let at = mapped_at (λ page. base + from.0 + page) pages from.2.place x from.2.at in
    record { cpu = from.1.place; unit = from.0; at = from.1.at; page = at.0; among = in_among at.0 pages (record { place = from.2.place; at = at.1 }); same = sym at.2 }

pub page_in_units : (c : Setup) (base page cpu unit : ℕ) (pages : List ℕ) → slice_get c.units cpu ≡ Some unit → is_among pages page ≡ true → is_among (pages_in_units c base pages) (base + unit + page) ≡ true
page_in_units c base page cpu unit pages e h =
    let there = among_in page pages h in in_among (base + unit + page) (pages_in_units c base pages) (flat_has (λ unit. map (λ page. base + unit + page) pages) c.units cpu unit (base + unit + page) e
    (record { place = there.place; at = slice_get-map (λ page. base + unit + page) pages there.place ∙ ap (option_map (λ page. base + unit + page)) there.at }))

-- the group of a page of the groups at a base
pub group_in : (base page : ℕ) (groups : List Span) → covers (map (λ (g : Span). span (base + g.start) g.pages) groups) page ≡ true
    → (group : ℕ) × (g : Span) × (slice_get groups group ≡ Some g) × (holds (span (base + g.start) g.pages) page ≡ true)
group_in base page groups h =
    let from = covers_in page (map (λ (g : Span). span (base + g.start) g.pages) groups) h in let at = mapped_at (λ (g : Span). span (base + g.start) g.pages) groups from.1.place from.0 from.1.at in
    (from.1.place, at.0, at.1, ap (λ s. holds s page) at.2 ∙ from.2)

shifted_at : (base group : ℕ) (g : Span) (groups : List Span) → slice_get groups group ≡ Some g → slice_get (map (λ (g : Span). span (base + g.start) g.pages) groups) group ≡ Some (span (base + g.start) g.pages)
shifted_at base group g groups e = slice_get-map (λ (g : Span). span (base + g.start) g.pages) groups group ∙ ap (option_map (λ (g : Span). span (base + g.start) g.pages)) e

-- the group whose span starts there
pub start_of : (c : Setup) (base start : ℕ) → is_among (group_starts c base) start ≡ true → (group : ℕ) × (g : Span) × (slice_get c.groups group ≡ Some g) × (base + g.start ≡ start)
start_of c base start h =
    let there = among_in start (group_starts c base) h in let one = mapped_at (λ (s : Span). s.start) (groups_at c base) there.place start there.at in
    let two = mapped_at (λ (g : Span). span (base + g.start) g.pages) c.groups there.place one.0 one.1 in (there.place, two.0, two.1, ap (λ (s : Span). s.start) two.2 ∙ one.2)

pub starts_at : (base group : ℕ) (g : Span) (groups : List Span) → slice_get groups group ≡ Some g → is_among (map (λ (s : Span). s.start) (map (λ (g : Span). span (base + g.start) g.pages) groups)) (base + g.start) ≡ true
starts_at base group g groups e = in_among (base + g.start) _ (record {
  place = group;
  at = slice_get-map (λ (s : Span). s.start) (map (λ (g : Span). span (base + g.start) g.pages) groups) group ∙ ap (option_map (λ (s : Span). s.start)) (shifted_at base group g groups e);
})

-- a page of a live group
pub group_page : (c : Setup) (m : PlainMap) (chunk base page : ℕ) → AreGroupsLive c m chunk base → covers (groups_at c base) page ≡ true
    → (is : IsInChunk m page) × (is.chunk ≡ chunk)
group_page c m chunk base page live h =
    let is = group_in base page c.groups h in let area = live is.0 is.1 is.2 in
    (record { area = area.area; there = area.there; holds = ap (λ s. holds s page) area.span ∙ is.3; chunk = chunk; group = is.0; kind = area.kind }, refl)

pub unit_covered : (c : Setup) (base page cpu unit : ℕ) → AreUnits c → slice_get c.units cpu ≡ Some unit → page < c.unit_pages → covers (groups_at c base) (base + unit + page) ≡ true
unit_covered c base page cpu unit units at low =
    let is = units.within cpu unit at in let low' = is.3 in let high' = is.4 in
    in_covers (base + unit + page) (groups_at c base) is.0 (span (base + is.1.start) is.1.pages) (shifted_at base is.0 is.1 c.groups is.2) (holds_from (span (base + is.1.start) is.1.pages) (base + unit + page) (omega arith) (omega arith))

-- a page stands in one place of one unit
unit_apart : (c : Setup) (page other cpu cpu' unit unit' : ℕ) → AreUnits c → slice_get c.units cpu ≡ Some unit → slice_get c.units cpu' ≡ Some unit' → page < c.unit_pages → other < c.unit_pages → cpu < cpu' → unit + page ≡ unit' + other → ⊥
unit_apart c page other cpu cpu' unit unit' units at at' low low' less e =
    units.apart cpu cpu' (span unit c.unit_pages) (span unit' c.unit_pages) less (slice_get-map (λ unit. span unit c.unit_pages) c.units cpu ∙ ap (option_map (λ unit. span unit c.unit_pages)) at)
    (slice_get-map (λ unit. span unit c.unit_pages) c.units cpu' ∙ ap (option_map (λ unit. span unit c.unit_pages)) at') (unit + page) (holds_from (span unit c.unit_pages) (unit + page) (omega arith) (omega arith))
    (holds_from (span unit' c.unit_pages) (unit + page) (omega arith) (omega arith))

pub same_page : (c : Setup) (page other cpu cpu' unit unit' : ℕ) → AreUnits c → slice_get c.units cpu ≡ Some unit → slice_get c.units cpu' ≡ Some unit' → page < c.unit_pages → other < c.unit_pages → unit + page ≡ unit' + other → page ≡ other
same_page c page other cpu cpu' unit unit' units at at' low low' e = elim (same_or cpu cpu') [
  | inl same ↦ let u : unit ≡ unit' = (let f : slice_get c.units cpu ≡ Some unit' = ap (slice_get c.units) same ∙ at' in cc) in omega arith
  | inr apart ↦ elim (cases_lt cpu cpu') [
    | inl less ↦ absurd (unit_apart c page other cpu cpu' unit unit' units at at' low low' less e)
    | inr more ↦ absurd (unit_apart c other page cpu' cpu unit' unit units at' at low' low (omega arith) (sym e))
  ]
]

-- What stays.

-- the areas of the chunks with a number, and their pages
pub record NumberStays (m m' : PlainMap) (number : ℕ) : Type 0 where
  pub areas : (a : Area) (group : ℕ) → IsIn a m.areas → a.kind ≡ kind.Chunk number group → IsIn a m'.areas
  pub still : (page : ℕ) (is : IsInChunk m page) → is.chunk ≡ number → IsStill m m' page

pub record IsSameRow (h h' : Chunk) : Type 0 where
  pub number : h'.number ≡ h.number
  pub base : h'.base ≡ h.base
  pub long : length h'.populated ≡ length h.populated
  pub populated : (page : ℕ) → slice_get h'.populated page ≡ slice_get h.populated page

pub live_stays : (c : Setup) (m m' : PlainMap) (chunk base : ℕ) → NumberStays m m' chunk → AreGroupsLive c m chunk base → AreGroupsLive c m' chunk base
live_stays c m m' chunk base stays live group g e = let is = live group g e in record { area = is.area; there = stays.areas is.area group is.there is.kind; span = is.span; kind = is.kind }

module _ (c : Setup) (units : AreUnits c) (m m' : PlainMap) (chunk base : ℕ) (stays : NumberStays m m' chunk) (live : AreGroupsLive c m chunk base) where
  pub groups_still : OnEach (groups_at c base) (IsStill m m')
  groups_still page e = let is = group_page c m chunk base page live e in stays.still page is.0 is.1

  pub units_still : (page : ℕ) → page < c.unit_pages → OnUnits c base page (IsStill m m')
  units_still page low cpu unit at = groups_still (base + unit + page) (unit_covered c base page cpu unit units at low)

-- a chunk is fine still where its areas and pages stay
pub chunk_stays : (c : Setup) (units : AreUnits c) (m m' : PlainMap) (busy busy' : ℕ → ℕ → Type 0) (h h' : Chunk) → IsSameRow h h' → NumberStays m m' h.number → ((page : ℕ) → busy h.number page → busy' h.number page)
    → IsChunkFine c m busy h → IsChunkFine c m' busy' h'
chunk_stays c units m m' busy busy' h h' row stays more is = record {
  live = subst (λ n. AreGroupsLive c m' n h'.base) (sym row.number) (subst (AreGroupsLive c m' h.number) (sym row.base) (live_stays c m m' h.number h.base stays is.live));
  long = row.long ∙ is.long;
  clean = λ page e. (let f = ap (λ b. covers (groups_at c b) page) (sym row.base) ∙ e in (groups_still c units m m' h.number h.base stays is.live page f).clean (is.clean page f));
  populated = λ page e. (let was = sym (row.populated page) ∙ e in subst (λ b. OnUnits c b page (IsMapped m')) (sym row.base) (λ cpu unit at. still_mapped m m' (h.base + unit + page) (still page true was cpu unit at) (is.populated page was cpu unit at)));
  outer = λ page e f. (grind (arith, groups_still));
  spare = λ page e. (let was = sym (row.populated page) ∙ e in elim (is.spare page was) [
    | inl bare ↦ inl (subst (λ b. OnUnits c b page (IsUnmapped m')) (sym row.base) (λ cpu unit at. still_unmapped m m' (h.base + unit + page) (still page false was cpu unit at) (bare cpu unit at)))
    | inr b ↦ inr (subst (λ n. busy' n page) (sym row.number) (more page b))
  ]);
}
  where
    still : (page : ℕ) (b : Bool) → slice_get h.populated page ≡ Some b → OnUnits c h.base page (IsStill m m')
    still page b e cpu unit at = units_still c units m m' h.number h.base stays is.live page (let l = slice_get_within h.populated page b e in omega (arith, is.long)) cpu unit at

-- the chunks of two maps are the same but for their objects
pub record AreSameRows (m m' : PlainMap) : Type 0 where
  pub back : (h : Chunk) → IsIn h m'.chunks → (was : Chunk) × IsIn was m.chunks × IsSameRow was h
  pub forth : (h : Chunk) → IsIn h m.chunks → (is : Chunk) × IsIn is m'.chunks × IsSameRow h is
  pub next : m'.next_chunk ≡ m.next_chunk

pub of_stays : (m m' : PlainMap) (number base : ℕ) → AreSameRows m m' → (of : IsChunkOf m number base) → (of' : IsChunkOf m' number base) × IsSameRow of.chunk of'.chunk
of_stays m m' number base rows of = let is = rows.forth of.chunk of.there in (record { chunk = is.0; there = is.1; numbered = is.2.number ∙ of.numbered; based = is.2.base ∙ of.based }, is.2)

module _ (c : Setup) (units : AreUnits c) (m m' : PlainMap) (rows : AreSameRows m m') (stays : (number : ℕ) → NumberStays m m' number) (live_of : (h : Chunk) → IsIn h m.chunks → AreGroupsLive c m h.number h.base) where
  gone_stays : (number base : ℕ) → IsGone c m number base → IsGone c m' number base
  gone_stays number base is = record {
    live = live_stays c m m' number base (stays number) is.live;
    old = let o = is.old in let e = rows.next in omega arith;
    gone = λ h there e. (let was = rows.back h there in is.gone was.0 was.1 (sym was.2.number ∙ e));
  }

  of_still : (number base page : ℕ) → IsChunkOf m number base → page < c.unit_pages → OnUnits c base page (IsStill m m')
  of_still number base page of low = units_still c units m m' of.chunk.number base (stays of.chunk.number) (subst (AreGroupsLive c m of.chunk.number) of.based (live_of of.chunk of.there)) page low

  open_stays : (number base page : ℕ) → IsOpenPage c m number base page → IsOpenPage c m' number base page
  open_stays number base page at = let of = of_stays m m' number base rows at.of in record { of = of.0; low = at.low; unpopulated = of.1.populated page ∙ at.unpopulated }

  -- what is kept at a place
  pub chunk_at_stays : (p : Place) → IsChunkAt c m p → IsChunkAt c m' p
  chunk_at_stays (AddingChunk base chunk bytes align) at = (
    live_stays c m m' chunk base (stays chunk) at.0,
    (λ page e. still_bare m m' page (groups_still c units m m' chunk base (stays chunk) at.0 page e) (at.1 page e)),
  )
  chunk_at_stays (Populating object missing) at = let of = of_stays m m' object.chunk object.base rows at.here in record {
    here = of.0;
    low = at.low;
    either = λ page e. elim (at.either page e) [ inl f ↦ inl f | inr f ↦ inr (of.1.populated page ∙ f) ];
    within = at.within;
    lacks = λ page e. of.1.populated page ∙ at.lacks page e;
  }
  chunk_at_stays (SettlingObject object) at = (
    (of_stays m m' object.chunk object.base rows at.0).0,
    (λ page e. (let is = at.1 page e in (is.0, (λ cpu unit f. still_mapped m m' (object.base + unit + page) (of_still object.chunk object.base page at.0 is.0 cpu unit f) (is.1 cpu unit f))))),
  )
  chunk_at_stays (Zeroing object) at = grind (arith, nat_tests)
  chunk_at_stays (SettlingAtomic object) at = grind (arith, nat_tests)
  chunk_at_stays (Depopulating base populated) at = (
    at.0,
    gone_stays at.0 base at.1,
    (λ page e. (let is = at.2 page e in (is.0, (λ cpu unit f. still_mapped m m' (base + unit + page) (units_still c units m m' at.0 base (stays at.0) at.1.live page is.0 cpu unit f) (is.1 cpu unit f))))),
    (λ page e f. still_unmapped m m' page (groups_still c units m m' at.0 base (stays at.0) at.1.live page e) (at.3 page e f)),
  )
  chunk_at_stays (UnlinkingGroups base) at =
      (at.0, gone_stays at.0 base at.1, (λ page e. still_unmapped m m' page (groups_still c units m m' at.0 base (stays at.0) at.1.live page e) (at.2 page e)))
  chunk_at_stays (Filling chunk base page filled) at = open_stays chunk base page at
  chunk_at_stays (NotingFilled chunk page filled) at =
      (at.0, open_stays chunk at.0 page at.1, (λ cpu unit f. still_mapped m m' (at.0 + unit + page) (of_still chunk at.0 page at.1.of at.1.low cpu unit f) (at.2 cpu unit f)))
  chunk_at_stays _ at = tt
