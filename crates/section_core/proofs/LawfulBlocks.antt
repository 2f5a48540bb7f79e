-- What the blocks of a processor and a caller that wants them are, in a world of a run.
use Rattle.std.proofs.Common.{filter_map, ◌==◌, ◌||◌, option_map, ◌≡◌, ℕ, zero, suc, ◌+◌, ◌<◌, ◌≤◌, Bool, true, false, All, List, [], ◌∷◌, length, map, slice_get, slice_index, Option, Some, None, refl, ap, sym, ◌∙◌, subst, arith}
use Rattle.std.proofs.lemmas.Bool.Decides.{nat_tests}
use Rattle.std.proofs.lemmas.Option.{slice_get_within}
use Rattle.std.proofs.lemmas.List.{length-map}
use Rattle.std.proofs.lemmas.List.Elements.{All-nil, All-cons}
use Rattle.vm_model.specs.declared.calls.Call.{Call}
use Rattle.vm_model.specs.declared.areas.Span.{Span}
use Rattle.vm_model.specs.Space.{holds, covers, span, end_of, hull, one_if, count_from}
use Rattle.vm_model.specs.Setup.{Setup, cpus}
use Rattle.vm_model.specs.PlainMap.{PlainMap, Block, Part, Live, is_ended}
use Rattle.vm_model.specs.Blocks.{PartAt, first_page, rounded, size_of, range_of, ended_parts, dirty_range, dirty_hull, blocks_of}
use Rattle.vm_model.specs.Carried.{count_of}
use Rattle.vm_model.specs.Legal.{IsBare}
use Rattle.vm_model.specs.Places.{Place, PurgeFragmenting, CuttingPart, AddingBlock, SettlingPart, BeginningUnmap, Retiring, LookingAtDirty}
use Rattle.vm_model.specs.History.{World, Local, most_events}
use Rattle.vm_model.specs.Parts.{Region, CpuBlocks, regions_of, cpu_blocks, wants}
use Rattle.vm_model.specs.Run.{StandTogether}
use Rattle.map_parts.specs.KeptByEvents.{IsSoundLocal, IsSoundPart, IsSoundPlace}
use Rattle.map_parts.proofs.Filters.{filter_twice}
use Rattle.map_laws.proofs.blocks.BlockFacts.{IsBlockArea, IsPartFine, IsBlockFine, IsBlockAt, IsPartIn, block_out, block_starts, count_cons, stacked_at, same_test, to_same}
use Rattle.map_laws.proofs.blocks.BlockMoves.{same_start, part_within}
use Rattle.map_laws.proofs.TestsAndFilters.{IsIn, filter_has, filter_in, covers_one, holds_to, covers_append}
use Rattle.map_laws.proofs.EndProofs.{histories_short}
use Rattle.map_laws.proofs.KeptThroughSteps.{IsFramed}
use Rattle.map_laws.proofs.MapLegal.{held_life}
use Rattle.map_laws.proofs.ProperPlaces.{IsProper}
use Rattle.vm_model.proofs.RoundedPages.{rounded_some}
use Rattle.map_laws.proofs.TraceWorlds.{IsTraceWorld, trace_reached, own_names, areas_once, proper_here}
use Rattle.map_blocks.specs.BlockRows.{BlockRows, IsHeld}
use Rattle.map_blocks.specs.BlockRows.{IsUnused as IsNoBlocks}
use Rattle.section_laws.specs.Lawful.{IsRunning, IsLawful}
use Rattle.section_core.specs.StandsWell.{AreOwn, IsBlocksWell, IsOfProcessor}
use Rattle.section_core.proofs.LawfulCallers.{AreInOneState, in_one_state, sound, marked_within, region_number, blocks_at}
use Rattle.callers.proofs.Hulls.{hull_within}
use Rattle.section_core.proofs.NextParts.{few_parts}

-- the side of a processor in a map
abbrev pub side_of : PlainMap → (pages cpu : ℕ) → BlockRows
side_of m pages cpu = record { cpu = cpu; pages = pages; blocks = blocks_of cpu m.blocks; next = slice_index m.next_part cpu }

same_cpu : (cpu : ℕ) (b : Block) → (b.cpu == cpu) ≡ true → b.cpu ≡ cpu
same_cpu cpu b h = to_same b.cpu cpu h

-- a page in a list of blocks is in one of them
abbrev IsCovering : (pages page : ℕ) → List Block → Type 0
IsCovering pages page blocks = (b : Block) × IsIn b blocks × (holds (span b.start pages) page ≡ true)

covering_by : (pages page : ℕ) (b : Block) (blocks : List Block) (t : Bool) → holds (span b.start pages) page ≡ t → covers (map (λ (x : Block). span x.start pages) (b ∷ blocks)) page ≡ true
    → (covers (map (λ (x : Block). span x.start pages) blocks) page ≡ true → IsCovering pages page blocks) → IsCovering pages page (b ∷ blocks)
covering_by pages page b blocks true e h more = (b, record { place = 0; at = refl }, e)
covering_by pages page b blocks false e h more =
    let rest : covers (map (λ (x : Block). span x.start pages) blocks) page ≡ true =
    sym (ap (λ t. t || covers (map (λ (x : Block). span x.start pages) blocks) page) (covers_one (span b.start pages) page ∙ e)) ∙ sym (covers_append page (span b.start pages ∷ []) (map (λ (x : Block). span x.start pages) blocks)) ∙ h in
    let found = more rest in
    (found.0, record { place = suc found.1.place; at = found.1.at }, found.2)

covering : (pages page : ℕ) (blocks : List Block) → covers (map (λ (b : Block). span b.start pages) blocks) page ≡ true → IsCovering pages page blocks
covering pages page [] h = cc
covering pages page (b ∷ blocks) h = covering_by pages page b blocks (holds (span b.start pages) page) refl h (covering pages page blocks)

-- what is in a list is counted
counted : (b : Block) (blocks : List Block) → IsIn b blocks → 1 ≤ count_of b.start (block_starts blocks)
counted b blocks there = by blocks there.place there.at
  where
    by : (list : List Block) (i : ℕ) → slice_get list i ≡ Some b → 1 ≤ count_of b.start (block_starts list)
    by [] i h = cc
    by (x ∷ list) zero h = let same : x ≡ b = cc in omega (arith, count_cons b.start x.start (block_starts list), ap (λ (y : Block). one_if (y.start == b.start)) same, ap one_if (same_test b.start))
    by (x ∷ list) (suc i) h = omega (arith, count_cons b.start x.start (block_starts list), by list i h)

-- ended parts lie in their block
all_parts : (limit off : ℕ) (parts : List Part) → ((p : Part) → IsIn p parts → p.offset + size_of p ≤ limit) → All (λ (s : Span). end_of s ≤ limit) (map (λ (p : Part). span p.offset (size_of p)) parts)
all_parts limit off [] each = All-nil (λ (s : Span). end_of s ≤ limit)
all_parts limit off (p ∷ parts) each =
    All-cons (λ (s : Span). end_of s ≤ limit) (span p.offset (size_of p)) (map (λ (p : Part). span p.offset (size_of p)) parts) (each p (record { place = 0; at = refl }))
    (all_parts limit off parts (λ q there. each q (record { place = suc there.place; at = there.at })))

ranges_by : (limit : ℕ) (b : Block) (blocks : List Block) (o : Option Span) → dirty_range b ≡ o → ((s : Span) → o ≡ Some s → end_of s ≤ limit) → All (λ (s : Span). end_of s ≤ limit) (filter_map dirty_range blocks)
    → All (λ (s : Span). end_of s ≤ limit) (filter_map dirty_range (b ∷ blocks))
ranges_by limit b blocks None e each rest = subst (All (λ (s : Span). end_of s ≤ limit)) (let left : filter_map dirty_range blocks ≡ filter_map dirty_range (b ∷ blocks) = grind arith in left) rest
ranges_by limit b blocks (Some s) e each rest =
    subst (All (λ (t : Span). end_of t ≤ limit)) (let kept : s ∷ filter_map dirty_range blocks ≡ filter_map dirty_range (b ∷ blocks) = grind arith in kept)
    (All-cons (λ (t : Span). end_of t ≤ limit) s (filter_map dirty_range blocks) (each s refl) rest)

all_ranges : (limit : ℕ) (blocks : List Block) → ((b : Block) → IsIn b blocks → (s : Span) → dirty_range b ≡ Some s → end_of s ≤ limit) → All (λ (s : Span). end_of s ≤ limit) (filter_map dirty_range blocks)
all_ranges limit [] each = All-nil (λ (s : Span). end_of s ≤ limit)
all_ranges limit (b ∷ blocks) each =
    ranges_by limit b blocks (dirty_range b) refl (each b (record { place = 0; at = refl })) (all_ranges limit blocks (λ x there. each x (record { place = suc there.place; at = there.at })))

-- of the blocks of one processor there are no more with a start than of all
kept_by : (cpu start : ℕ) (b : Block) (blocks : List Block) (t : Bool) → (b.cpu == cpu) ≡ t → count_of start (block_starts (blocks_of cpu blocks)) ≤ count_of start (block_starts blocks)
    → count_of start (block_starts (blocks_of cpu (b ∷ blocks))) ≤ count_of start (block_starts (b ∷ blocks))
kept_by cpu start b blocks true e less = subst (λ list. count_of start (block_starts list) ≤ count_of start (block_starts (b ∷ blocks))) (let kept : b ∷ blocks_of cpu blocks ≡ blocks_of cpu (b ∷ blocks) = grind arith in kept)
    (omega (arith, count_cons start b.start (block_starts (blocks_of cpu blocks)), count_cons start b.start (block_starts blocks)))
kept_by cpu start b blocks false e less = subst (λ list. count_of start (block_starts list) ≤ count_of start (block_starts (b ∷ blocks))) (let left : blocks_of cpu blocks ≡ blocks_of cpu (b ∷ blocks) = grind arith in left)
    (omega (arith, count_cons start b.start (block_starts blocks)))

fewer_of : (cpu start : ℕ) (blocks : List Block) → count_of start (block_starts (blocks_of cpu blocks)) ≤ count_of start (block_starts blocks)
fewer_of cpu start [] = omega arith
fewer_of cpu start (b ∷ blocks) = kept_by cpu start b blocks (b.cpu == cpu) refl (fewer_of cpu start blocks)

-- what is kept of a block says nothing of the other blocks
module _ (c : Setup) (m : PlainMap) (blocks : List Block) where
  same_area : (start : ℕ) → IsBlockArea c m start → IsBlockArea c (record m { blocks = blocks }) start
  same_area start is = record { area = is.area; cpu = is.cpu; there = is.there; span = is.span; kind = is.kind }

  same_bare : (page : ℕ) → IsBare m page → IsBare (record m { blocks = blocks }) page
  same_bare page is = record { unmapped = is.unmapped; not_stale = is.not_stale }

  same_part_fine : (start : ℕ) (p : Part) → IsPartFine m start p → IsPartFine (record m { blocks = blocks }) start p
  same_part_fine start p is = record { lives = is.lives; ended = is.ended; tail = λ page low high. same_bare page (is.tail page low high) }

  same_fine : (b : Block) → IsBlockFine c m b → IsBlockFine c (record m { blocks = blocks }) b
  same_fine b is = record {
    area = same_area b.start is.area;
    stacked = is.stacked;
    within = is.within;
    parts = λ p there. same_part_fine b.start p (is.parts p there);
    rest = λ page low high. same_bare page (is.rest page low high);
  }

-- a caller of a run
module _ (c : Setup) (opening : List Call) (calls : List (List Call)) (w : World) (is : IsRunning c opening calls w) (k : ℕ) (l : Local) (here : slice_get w.locals k ≡ Some l) where
  framed : IsFramed c w
  framed = (trace_reached c opening calls is.trace w is.reached).0

  world : IsTraceWorld c w
  world = (trace_reached c opening calls is.trace w is.reached).1

  mine : IsSoundLocal c w.map k l
  mine = sound c opening calls w is k l here

  same_setup : l.setup ≡ c
  same_setup = mine.setup

  -- a block's area lies in the space
  area_within : (start : ℕ) → IsBlockArea c w.map start → start + c.block_pages ≤ c.space
  area_within start area =
      let s : Span = area.area.span in
      let marked : (page : ℕ) → holds area.area.span page ≡ true → slice_get w.map.marks page ≡ Some (Live area.area.serial)
      = λ page h. (world.area.fine.areas area.there.place area.area area.there.at).marked page (covers_one area.area.span page ∙ h) in
      let some : 1 ≤ area.area.span.pages = (let low = is.trace.setup.block_low in let e = ap (λ (t : Span). t.pages) area.span in omega arith) in
      let low : end_of area.area.span ≤ c.space = subst (λ (d : Setup). end_of area.area.span ≤ d.space) same_setup (marked_within c opening calls w is k l here area.area.span (Live area.area.serial) some marked) in
      subst (λ t. end_of t ≤ c.space) area.span low

  fine : (b : Block) → IsIn b w.map.blocks → IsBlockFine c w.map b
  fine = world.blocks.blocks

  -- the pages of a part in hand are among those of its block, which lies in the space
  pub part_fits : (at : PartAt) → IsSoundPart c w.map k at → (at.pages ≤ rounded at.pages) × (first_page at + at.pages ≤ c.space) × (first_page at < c.space)
  part_fits at part =
      let has = part.1 in
      let is_fine = fine has.block (record { place = has.number; at = has.there }) in
      let within = part_within c w.map has.block has.part is_fine (record { place = has.place; at = has.within }) in
      let low : has.part.pages ≤ rounded has.part.pages = within.1 in
      let off : has.part.offset + rounded has.part.pages ≤ c.block_pages = within.0 in
      let area = area_within has.block.start is_fine.area in
      let start = has.start in let offset = has.offset in let pages = has.pages in
      (subst (λ n. n ≤ rounded n) pages low, omega arith, (let some = rounded_some has.part.pages in omega arith))

  module _ (cpu : ℕ) (there : cpu < cpus c) where
    own_in : (b : Block) → IsIn b (blocks_of cpu w.map.blocks) → IsIn b w.map.blocks × (b.cpu ≡ cpu)
    own_in b inside = let kept = filter_has (λ (x : Block). x.cpu == cpu) w.map.blocks inside.place b inside.at in (kept.there, same_cpu cpu b kept.passes)

    pub are_own : AreOwn l.setup (side_of w.map c.block_pages cpu)
    are_own = subst (λ d. AreOwn d (side_of w.map c.block_pages cpu)) (sym same_setup) (record {
      cpu = there;
      pages = refl;
      own = filter_twice (λ (b : Block). b.cpu == cpu) w.map.blocks;
      next = let few = few_parts c opening calls w is.reached cpu in let short : length w.events < most_events = histories_short c opening calls w is.trace is.reached in omega arith;
    })

    -- a new block's pages are in no other
    no_blocks : (at : PartAt) → l.place ≡ AddingBlock at → IsNoBlocks (side_of w.map c.block_pages cpu) (span at.block c.block_pages)
    no_blocks at e page h = by_test (covers (map (λ (b : Block). span b.start c.block_pages) (blocks_of cpu w.map.blocks)) page) refl
      where
        by_test : (t : Bool) → covers (map (λ (b : Block). span b.start c.block_pages) (blocks_of cpu w.map.blocks)) page ≡ t → covers (map (λ (b : Block). span b.start c.block_pages) (blocks_of cpu w.map.blocks)) page ≡ false
        by_test false f = f
        by_test true f = absurd (
            let found = covering c.block_pages page (blocks_of cpu w.map.blocks) f in
            let there = (own_in found.0 found.1).0 in
            let stands : IsBlockAt c w.map l.caller (AddingBlock at) = subst (IsBlockAt c w.map l.caller) e (world.blocks.each k l here) in
            let one = holds_to (span at.block c.block_pages) page h in
            let other = holds_to (span found.0.start c.block_pages) page found.2 in
            let same : found.0.start ≡ at.block = same_start c w.map page found.0.start at.block (areas_once c w framed world k l here page) (fine found.0 there).area stands.0 other.0 other.1 one.0 one.1 in
            let names = own_names c w framed world k l here found.0.start in
            let out : count_of found.0.start (block_out l.place) ≡ 1 = ap (λ p. count_of found.0.start (block_out p)) e ∙ count_cons found.0.start at.block [] ∙ ap (λ n. one_if (n == found.0.start) + 0) (sym same) ∙ ap (λ t. one_if t + 0) (same_test found.0.start) in
            omega (arith, counted found.0 w.map.blocks there))

    -- a part in hand is held among the blocks of its processor
    held_here : (at : PartAt) → at.cpu ≡ cpu → IsSoundPart c w.map k at → IsHeld at (blocks_of cpu w.map.blocks)
    held_here at own part =
        let has = part.1 in
        let block_there : IsIn has.block w.map.blocks = record { place = has.number; at = has.there } in
        let inside = filter_in (λ (b : Block). b.cpu == cpu) w.map.blocks has.block has.number has.there (let e = has.cpu in grind (arith, nat_tests)) in
        let hand : IsPartIn (record (w.map) { blocks = blocks_of cpu w.map.blocks }) k at = record { block = has.block; there = inside; start = has.start; part = has.part; part_there = record { place = has.place; at = has.within }; offset = has.offset; pages = has.pages; life = has.lives } in (
          k,
          held_life c (record (w.map) { blocks = blocks_of cpu w.map.blocks }) k (λ page. areas_once c w framed world k l here page) (record { each = world.full.each }) (λ b b_in. same_fine c w.map (blocks_of cpu w.map.blocks) b (fine b (own_in b b_in).0))
              (λ start. (let names = own_names c w framed world k l here start in omega (arith, fewer_of cpu start w.map.blocks))) at hand,
        )

    -- what is dirty lies in the space
    range_within : (b : Block) → IsIn b (blocks_of cpu w.map.blocks) → (s : Span) → dirty_range b ≡ Some s → end_of s ≤ c.space
    range_within b inside s e =
        let is_fine = fine b (own_in b inside).0 in
        let each : (p : Part) → IsIn p (ended_parts b) → p.offset + size_of p ≤ c.block_pages
        = λ p p_in. (let kept = filter_has (λ (x : Part). is_ended x.life) b.parts p_in.place p p_in.at in let row = stacked_at b.parts 0 kept.there.place p is_fine.stacked kept.there.at in let within = is_fine.within in let high = row.1 in omega arith) in
        by (range_of b) refl (all_parts c.block_pages 0 (ended_parts b) each) e
      where
        by : (o : Option Span) → range_of b ≡ o → All (λ (s : Span). end_of s ≤ c.block_pages) (map (λ (p : Part). span p.offset (size_of p)) (ended_parts b)) → option_map (λ (t : Span). span (b.start + t.start) t.pages) o ≡ Some s → end_of s ≤ c.space
        by None r all h = cc
        by (Some t) r all h =
            let same : span (b.start + t.start) t.pages ≡ s = cc in
            let low = hull_within c.block_pages (map (λ (p : Part). span p.offset (size_of p)) (ended_parts b)) t all r in
            let area = area_within b.start (fine b (own_in b inside).0).area in
            subst (λ u. end_of u ≤ c.space) same (omega arith)

    dirty_within : (s : Span) → dirty_hull cpu (blocks_of cpu w.map.blocks) ≡ Some s → end_of s ≤ c.space
    dirty_within s e =
        let twice = filter_twice (λ (b : Block). b.cpu == cpu) w.map.blocks in
        hull_within c.space (filter_map dirty_range (blocks_of cpu w.map.blocks)) s (all_ranges c.space (blocks_of cpu w.map.blocks) range_within)
        (sym (ap (λ blocks. hull (filter_map dirty_range blocks)) twice) ∙ e)

    -- a place that wants these blocks names their processor
    number : wants l ≡ Some (8 + cpu) → (p : Place) → l.place ≡ p → (n : ℕ) → wants (record l { place = p }) ≡ Some (8 + n) → n ≡ cpu
    number wanted p e n is =
        let same : Some (8 + n) ≡ Some (8 + cpu) = sym is ∙ ap (λ q. wants (record l { place = q })) (sym e) ∙ wanted in
        let eight : 8 + n ≡ 8 + cpu = cc in omega arith

    pub own_processor : wants l ≡ Some (8 + cpu) → IsOfProcessor l.place cpu
    own_processor wanted = by_place l.place refl
      where
        by_place : (p : Place) → l.place ≡ p → IsOfProcessor p cpu
        by_place (PurgeFragmenting own gone extra after) e = number wanted (PurgeFragmenting own gone extra after) e own refl
        by_place (CuttingPart own pages) e = number wanted (CuttingPart own pages) e own refl
        by_place (AddingBlock at) e = number wanted (AddingBlock at) e at.cpu refl
        by_place (SettlingPart at) e = number wanted (SettlingPart at) e at.cpu refl
        by_place (BeginningUnmap own page serial) e = number wanted (BeginningUnmap own page serial) e own refl
        by_place (Retiring at r) e = number wanted (Retiring at r) e at.cpu refl
        by_place (LookingAtDirty own ranges) e = number wanted (LookingAtDirty own ranges) e own refl
        by_place _ e = tt

    pub blocks_well : wants l ≡ Some (8 + cpu) → IsBlocksWell l.setup l.place (side_of w.map c.block_pages cpu)
    blocks_well wanted = subst (λ d. IsBlocksWell d l.place (side_of w.map c.block_pages cpu)) (sym same_setup) (by_place l.place refl)
      where
        by_place : (p : Place) → l.place ≡ p → IsBlocksWell c p (side_of w.map c.block_pages cpu)
        by_place (CuttingPart own pages) e =
            let proper = subst (λ p. IsProper c p) e (proper_here c is.trace.setup w framed world k l here) in
            let high = is.trace.setup.part_high in let fits = proper.1 in omega arith
        by_place (AddingBlock at) e =
            let proper = subst (λ p. IsProper c p) e (proper_here c is.trace.setup w framed world k l here) in
            let stands : IsBlockAt c w.map l.caller (AddingBlock at) = subst (IsBlockAt c w.map l.caller) e (world.blocks.each k l here) in
            let high = is.trace.setup.part_high in let fits = proper.2 in let space = is.trace.setup.space_high in
            (omega arith, (let within = area_within at.block stands.0 in omega arith), no_blocks at e)
        by_place (SettlingPart at) e =
            let part = subst (IsSoundPlace c w.map k) e mine.place in let space = is.trace.setup.space_high in
            (held_here at (number wanted (SettlingPart at) e at.cpu refl) part, (let fits = (part_fits at part).2 in omega arith))
        by_place (Retiring at r) e = held_here at (number wanted (Retiring at r) e at.cpu refl) (subst (IsSoundPlace c w.map k) e mine.place)
        by_place (LookingAtDirty own ranges) e = λ s h. dirty_within s h
        by_place _ e = tt

abbrev side_held : Region → BlockRows
side_held (CpuBlocks cpu pages blocks next) = record { cpu = cpu; pages = pages; blocks = blocks; next = next }
side_held _ = record { cpu = 0; pages = 0; blocks = []; next = 0 }

length-count_from : (n first : ℕ) → length (count_from n first) ≡ n
length-count_from zero first = refl
length-count_from (suc n) first = ap suc (length-count_from n (suc first))

-- the region that has a processor's blocks has those of the world
pub blocks_there : (c : Setup) (m : PlainMap) (n cpu pages next : ℕ) (blocks : List Block) → slice_get (regions_of c m) n ≡ Some (CpuBlocks cpu pages blocks next)
    → (cpu < cpus c) × (n ≡ 8 + cpu) × (record { cpu = cpu; pages = pages; blocks = blocks; next = next } ≡ side_of m c.block_pages cpu)
blocks_there c m n cpu pages next blocks h =
    let e = region_number c m n (CpuBlocks cpu pages blocks next) h in
    let eight : 8 + cpu ≡ suc (suc (suc (suc (suc (suc (suc (suc cpu))))))) = omega arith in
    let at : slice_get (map (cpu_blocks m c.block_pages) (count_from (cpus c) 0)) cpu ≡ Some (CpuBlocks cpu pages blocks next) = sym (ap (slice_get (regions_of c m)) (e ∙ eight)) ∙ h in
    let is : CpuBlocks cpu pages blocks next ≡ cpu_blocks m c.block_pages (0 + cpu) = blocks_at m c.block_pages (cpus c) 0 cpu (CpuBlocks cpu pages blocks next) at in
    let low = slice_get_within (map (cpu_blocks m c.block_pages) (count_from (cpus c) 0)) cpu (CpuBlocks cpu pages blocks next) at in
    let first : 0 + cpu ≡ cpu = omega arith in
    ((let wide = length-map (count_from (cpus c) 0) (cpu_blocks m c.block_pages) in let long = length-count_from (cpus c) 0 in omega arith), e, ap side_held (is ∙ ap (cpu_blocks m c.block_pages) first))

-- of the place and the blocks, whatever the world's facts give
module _ (l : Local) (side : BlockRows) (st : StandTogether wants IsLawful l (CpuBlocks side.cpu side.pages side.blocks side.next)) where
  state : AreInOneState l (CpuBlocks side.cpu side.pages side.blocks side.next)
  state = in_one_state l (CpuBlocks side.cpu side.pages side.blocks side.next) st

  found : (side.cpu < cpus state.c) × (state.number ≡ 8 + side.cpu) × (side ≡ side_of state.w.map state.c.block_pages side.cpu)
  found = blocks_there state.c state.w.map state.number side.cpu side.pages side.next side.blocks state.there

  pub own_there : AreOwn l.setup side
  own_there = subst (AreOwn l.setup) (sym found.2) (are_own state.c state.opening state.calls state.w state.running state.k l state.here side.cpu found.0)

  wanted_blocks : wants l ≡ Some (8 + side.cpu)
  wanted_blocks = state.wanted ∙ ap (λ n. Some n) found.1

  pub processor_there : IsOfProcessor l.place side.cpu
  processor_there = own_processor state.c state.opening state.calls state.w state.running state.k l state.here side.cpu found.0 wanted_blocks

  pub blocks_well_there : IsBlocksWell l.setup l.place side
  blocks_well_there = subst (IsBlocksWell l.setup l.place) (sym found.2) (blocks_well state.c state.opening state.calls state.w state.running state.k l state.here side.cpu found.0 wanted_blocks)
