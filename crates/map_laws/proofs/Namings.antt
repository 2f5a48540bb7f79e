-- Blocks, chunks and callers name each live area at most once.
-- the starts of the areas of a chunk that a caller took out, or hasn't added yet
use Rattle.std.proofs.Common.{Bool, List, Some, [], ap, arith, false, flat_map, map, refl, slice_get, subst, suc, sum_by, sym, true, zero, ℕ, ◌+◌, ◌==◌, ◌∙◌, ◌∷◌, ◌≡◌, ◌≢◌, ◌≤◌}
use Rattle.std.proofs.lemmas.List.Sums.{sum_by-cons}
use Rattle.vm_model.specs.Areas.{spans_of}
use Rattle.vm_model.specs.Carried.{count_of, has_alloc, namings, starts_out}
use Rattle.vm_model.specs.History.{Local, World}
use Rattle.vm_model.specs.Next.{next}
use Rattle.vm_model.specs.Places.{AddingChunk, Depopulating, Place, UnlinkingGroups, group_starts}
use Rattle.vm_model.specs.PlainMap.{Chunk, PlainMap}
use Rattle.vm_model.specs.Rules.{AreGroups}
use Rattle.vm_model.specs.Setup.{Setup}
use Rattle.vm_model.specs.Space.{one_if, span, times}
use Rattle.vm_model.specs.declared.areas.Area.{Area}
use Rattle.vm_model.specs.declared.areas.Span.{Span}
use Rattle.map_laws.proofs.blocks.BlockFacts.{IsBlockArea, block_out, block_starts, count_among, count_append, count_cons, counted_block, same_test, to_same}
use Rattle.map_laws.proofs.blocks.BlockMoves.{area_holds}
use Rattle.map_laws.proofs.blocks.BlockPlaces.{IsInChunk, in_one_kind}
use Rattle.map_laws.proofs.blocks.BlockWorlds.{IsBlockWorld, out_area, sum_some}
use Rattle.map_laws.proofs.TestsAndFilters.{one_of_two, some_of_two, IsIn, one_if_le, holds_from}
use Rattle.map_laws.proofs.chunks.ChunkFacts.{AreGroupsLive, IsChunkAt, start_of}
use Rattle.map_laws.proofs.chunks.ChunkMoves.{number_once}
use Rattle.map_laws.proofs.chunks.ChunkAdded.{IsNumberNext}
use Rattle.map_laws.proofs.chunks.ChunkDispatch.{group_there}
use Rattle.map_laws.proofs.chunks.ChunkWorlds.{IsChunkWorld, alone}
use Rattle.map_laws.proofs.KeptThroughSteps.{IsFramed, there}
use Rattle.map_laws.proofs.objects.ObjectFacts.{count_sum, same_place}
use Rattle.map_laws.proofs.MapLaws.{sum_once}
use Rattle.map_laws.proofs.TraceWorlds.{IsObjectWorld}
use Rattle.map_laws.specs.TwoTurns.{AreTurnsKept}

abbrev pub chunk_out : Setup → Place → List ℕ
chunk_out c (AddingChunk base chunk bytes align) = group_starts c base
chunk_out c (Depopulating base populated) = group_starts c base
chunk_out c (UnlinkingGroups base) = group_starts c base
chunk_out c _ = []

pub outs_count : (c : Setup) (p : Place) (start : ℕ) → count_of start (starts_out c p) ≡ count_of start (block_out p) + count_of start (chunk_out c p)
outs_count c p start = grind arith

count_flat : {X : Type 0} (f : X → List ℕ) (n : ℕ) (xs : List X) → count_of n (flat_map f xs) ≡ sum_by (λ x. count_of n (f x)) xs
count_flat f n [] = refl
count_flat f n (x ∷ xs) = omega (arith, count_append n (f x) (flat_map f xs), count_flat f n xs, sum_by-cons (λ x. count_of n (f x)) x xs)

-- The groups at a base start at different pages.

count_groups : (base start : ℕ) (groups : List Span) → count_of start (map (λ (s : Span). s.start) (map (λ (g : Span). span (base + g.start) g.pages) groups)) ≡ sum_by (λ (g : Span). one_if (base + g.start == start)) groups
count_groups base start [] = refl
count_groups base start (g ∷ groups) = search (count_groups base start groups, count_cons, sum_by-cons)

same_if : (a b : ℕ) (t : Bool) → (a == b) ≡ t → 1 ≤ one_if (a == b) → a ≡ b
same_if a b t e h = grind arith

pub starts_once : (c : Setup) → AreGroups c → (base start : ℕ) → count_of start (group_starts c base) ≤ 1
starts_once c groups base start = omega (
  arith,
  count_groups base start c.groups,
  sum_once (λ (g : Span). one_if (base + g.start == start)) c.groups (λ i g e. one_if_le (base + g.start == start))
      (λ i j g g' less e f hit hit'. (let a = same_if (base + g.start) start _ refl hit in let b = same_if (base + g'.start) start _ refl hit' in let wide = groups.pages i g e in let wide' = groups.pages j g' f in
      groups.apart i j g g' less e f g.start (holds_from g g.start (omega arith) (omega arith)) (holds_from g' g.start (omega arith) (omega arith)))),
)

-- a start of a group that is live lies in the chunk
start_in : (c : Setup) (m : PlainMap) (full : (a : Area) → IsIn a m.areas → 1 ≤ a.span.pages) (number base start : ℕ) → AreGroupsLive c m number base → 1 ≤ count_of start (group_starts c base) → (is : IsInChunk m start) × (is.chunk ≡ number)
start_in c m full number base start live n = group_there c m full number base live start (count_among start (group_starts c base) n)

module _ (c : Setup) (groups : AreGroups c) (w : World) (once : (page : ℕ) → times page (spans_of w.map.areas) ≤ 1) (full : (a : Area) → IsIn a w.map.areas → 1 ≤ a.span.pages) (turns : AreTurnsKept w) (chunks : IsChunkWorld c w) (objects : IsObjectWorld c w)
    (start : ℕ) where
  abbrev own_starts : Chunk → ℕ
  own_starts h = count_of start (group_starts c h.base)

  abbrev out_starts : Local → ℕ
  out_starts l = count_of start (chunk_out c l.place)

  -- a chunk of the map that has the start
  chunk_in : (h : Chunk) → IsIn h w.map.chunks → 1 ≤ own_starts h → (is : IsInChunk w.map start) × (is.chunk ≡ h.number)
  chunk_in h there hit = start_in c w.map full h.number h.base start (chunks.chunks h there).live hit

  same_index : (i j : ℕ) (h h' : Chunk) → slice_get w.map.chunks i ≡ Some h → slice_get w.map.chunks j ≡ Some h' → 1 ≤ own_starts h → 1 ≤ own_starts h' → i ≡ j
  same_index i j h h' e f hit hit' =
      let is = chunk_in h (record { place = i; at = e }) hit in let is' = chunk_in h' (record { place = j; at = f }) hit' in
      let same : h.number ≡ h'.number = sym is.1 ∙ number_once w.map start (once start) is.0 is'.0 ∙ is'.1 in
      same_place (λ (x : Chunk). one_if (x.number == h.number)) w.map.chunks i j h h' (omega (arith, count_sum (λ (x : Chunk). x.number) h.number w.map.chunks)) e f
      (omega (arith, ap one_if (same_test h.number))) (omega (arith, ap one_if (ap (λ n. n == h.number) (sym same) ∙ same_test h.number)))

  chunks_once : count_of start (flat_map (λ (h : Chunk). group_starts c h.base) w.map.chunks) ≤ 1
  chunks_once = omega (
    arith,
    count_flat (λ (h : Chunk). group_starts c h.base) start w.map.chunks,
    sum_once own_starts w.map.chunks (λ i h e. starts_once c groups h.base start) (λ i j h h' less e f hit hit'. (let same : i ≡ j = same_index i j h h' e f hit hit' in omega arith)),
  )

  -- a chunk that a caller has out is not in the map
  out_in : (p : Place) → IsChunkAt c w.map p → IsNumberNext w.map p → 1 ≤ count_of start (chunk_out c p) → (is : IsInChunk w.map start) × ((h : Chunk) → IsIn h w.map.chunks → h.number ≢ is.chunk)
  out_in (AddingChunk base chunk bytes align) at next hit = let is = start_in c w.map full chunk base start at.0 hit in
      (is.0, (λ h there e. (let l = chunks.numbered.low h there in let n = next chunk refl in let f = is.1 in omega arith)))
  out_in (Depopulating base populated) at next hit = let is = start_in c w.map full at.0 base start at.1.live hit in (is.0, (λ h there e. at.1.gone h there (e ∙ is.1)))
  out_in (UnlinkingGroups base) at next hit = let is = start_in c w.map full at.0 base start at.1.live hit in (is.0, (λ h there e. at.1.gone h there (e ∙ is.1)))
  out_in _ at next hit = absurd (omega arith)

  out_alloc : (p : Place) → 1 ≤ count_of start (chunk_out c p) → has_alloc p ≡ true
  out_alloc p hit = grind arith

  out_few : (p : Place) → count_of start (chunk_out c p) ≤ 1
  out_few (AddingChunk base chunk bytes align) = starts_once c groups base start
  out_few (Depopulating base populated) = starts_once c groups base start
  out_few (UnlinkingGroups base) = starts_once c groups base start
  out_few _ = omega arith

  outs_once : sum_by out_starts w.locals ≤ 1
  outs_once = sum_once out_starts w.locals (λ i l e. out_few l.place)
      (λ i j l x less e f hit hit'. (let no = alone w i l e turns j x f (λ same. omega arith) (out_alloc l.place hit) in let yes = out_alloc x.place hit' in cc))

  abbrev chunk_names : ℕ
  chunk_names = count_of start (flat_map (λ (h : Chunk). group_starts c h.base) w.map.chunks) + sum_by out_starts w.locals

  -- a start that is named is in a chunk
  some_chunk : 1 ≤ count_of start (flat_map (λ (h : Chunk). group_starts c h.base) w.map.chunks) → (h : Chunk) × IsIn h w.map.chunks × (1 ≤ own_starts h)
  some_chunk n = let is = sum_some own_starts w.map.chunks (omega (arith, count_flat (λ (h : Chunk). group_starts c h.base) start w.map.chunks)) in (is.1, record { place = is.0; at = is.2 }, is.3)

  some_out : 1 ≤ sum_by out_starts w.locals → (is : IsInChunk w.map start) × ((h : Chunk) → IsIn h w.map.chunks → h.number ≢ is.chunk)
  some_out n = let is = sum_some out_starts w.locals n in out_in is.1.place (chunks.each is.0 is.1 is.2) (objects.numbers is.0 is.1 is.2) is.3

  names_once : chunk_names ≤ 1
  names_once = one_of_two _ _ chunks_once outs_once
      (λ a b. (let h = some_chunk a in let is = chunk_in h.0 h.1 h.2 in let out = some_out b in out.1 h.0 h.1 (sym is.1 ∙ number_once w.map start (once start) is.0 out.0)))

  named_in : 1 ≤ chunk_names → IsInChunk w.map start
  named_in n = some_of_two (count_of start (flat_map (λ (h : Chunk). group_starts c h.base) w.map.chunks)) _ n (λ a. (let h = some_chunk a in (chunk_in h.0 h.1 h.2).0)) (λ b. (some_out b).0)

  module _ (some : 1 ≤ c.block_pages) (blocks : IsBlockWorld c w) where
    abbrev block_names : ℕ
    block_names = count_of start (block_starts w.map.blocks) + sum_by (λ (l : Local). count_of start (block_out l.place)) w.locals

    block_named : 1 ≤ block_names → IsBlockArea c w.map start
    block_named n = some_of_two (count_of start (block_starts w.map.blocks)) _ n
        (λ a. (let is = counted_block start w.map.blocks a in subst (IsBlockArea c w.map) is.2 (blocks.blocks is.0 is.1).area))
        (λ b. (let is = sum_some (λ (l : Local). count_of start (block_out l.place)) w.locals b in out_area c w.map is.1.caller is.1.place start (blocks.each is.0 is.1 is.2) (count_among start (block_out is.1.place) is.3)))

    outs_sum : (locals : List Local) → sum_by (λ (l : Local). count_of start (starts_out c l.place)) locals ≡ sum_by (λ (l : Local). count_of start (block_out l.place)) locals + sum_by out_starts locals
    outs_sum [] = omega arith
    outs_sum (l ∷ locals) = search (outs_sum locals, sum_by-cons, outs_count, arith) depth 6

    all_once : block_names + chunk_names ≤ 1
    all_once = one_of_two _ _ (blocks.named start) names_once
        (λ a b. (let area = block_named a in in_one_kind w.map start once (named_in b) area.area area.there (area_holds c w.map start area start (omega arith) (omega arith)) area.cpu area.kind))

    setups : IsFramed c w → (locals : List Local) → ((k : ℕ) (l : Local) → slice_get locals k ≡ Some l → l.setup ≡ c)
        → sum_by (λ (l : Local). count_of start (starts_out l.setup l.place)) locals ≡ sum_by (λ (l : Local). count_of start (starts_out c l.place)) locals
    setups framed [] same = refl
    setups framed (l ∷ locals) same = omega (
      arith,
      sum_by-cons (λ (l : Local). count_of start (starts_out l.setup l.place)) l locals,
      sum_by-cons (λ (l : Local). count_of start (starts_out c l.place)) l locals,
      ap (λ d. count_of start (starts_out d l.place)) (same 0 l refl),
      setups framed locals (λ k x e. same (suc k) x e),
    )

    pub namings_once : IsFramed c w → namings c w start ≤ 1
    namings_once framed = let all = all_once in omega (arith, setups framed w.locals (λ k l e. (framed.own k l e).setup), outs_sum w.locals)
