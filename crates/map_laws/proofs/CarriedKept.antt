-- What callers carry is kept.
use Rattle.std.proofs.Common.{Bool, IfSome, List, Some, [], ap, arith, false, inl, inr, map, nat_lt, refl, slice_get, subst, suc, sym, true, zero, ℕ, ◌+◌, ◌-◌, ◌<◌, ◌∙◌, ◌∷◌, ◌≡◌, ◌≤◌}
use Rattle.std.proofs.lemmas.Bool.Decides.{nat_tests}
use Rattle.vm_model.specs.Areas.{areas_at, spans_of}
use Rattle.vm_model.specs.Blocks.{PartAt, life_of_part, parts_size, size_of}
use Rattle.vm_model.specs.Carried.{IsAreaKept, IsBlockKept, IsCarried, IsChunkKept, IsChunkOut, IsKept, IsPartKept, SomeoneIsPopulating, emptied, fresh, leaving, object_in_hand, part_in_hand, part_spans, starts_out}
use Rattle.vm_model.specs.Chunks.{ObjectAt, life_of_object}
use Rattle.vm_model.specs.History.{Local, World}
use Rattle.vm_model.specs.Laws.{WhatIsCarriedIsKept}
use Rattle.vm_model.specs.Legal.{IsBare, IsMapped, IsUnmapped, OnEach}
use Rattle.vm_model.specs.Places.{AddingBlock, AddingChunk, Depopulating, Place, PurgeFragmenting, PurgeUnlinking, UnlinkingBlock, UnlinkingGroups, block_spans, group_starts}
use Rattle.vm_model.specs.PlainMap.{Block, Chunk, InHand, Life, Part, PlainMap}
use Rattle.vm_model.specs.Rules.{AreGroups}
use Rattle.vm_model.specs.Setup.{Setup}
use Rattle.vm_model.specs.Space.{covers, holds, is_among, span, times}
use Rattle.vm_model.specs.declared.areas.Area.{Area}
use Rattle.vm_model.specs.declared.areas.AreaKind.{AreaKind}
use Rattle.vm_model.specs.declared.areas.Span.{Span}
use Rattle.map_laws.proofs.areas.AreaFacts.{IsAreaFine, IsHolding}
use Rattle.map_laws.proofs.blocks.BlockFacts.{IsBlockAt, IsBlockFine, IsOut, IsPartFine, IsPartIn, OnRow, block_out, stacked_at, stacked_covers}
use Rattle.map_laws.proofs.blocks.BlockWorlds.{covered_start, only_one, out_area, row_covers}
use Rattle.map_laws.proofs.chunks.ChunkFacts.{AreGroupsLive, IsChunkAt, IsChunkFine, start_of, unit_page}
use Rattle.map_laws.proofs.chunks.ChunkRows.{populated_at}
use Rattle.map_laws.proofs.KeptThroughSteps.{IsFramed}
use Rattle.map_laws.proofs.MapLegal.{block_at, held_life, one_at}
use Rattle.map_laws.proofs.Namings.{namings_once}
use Rattle.map_laws.proofs.objects.ObjectFacts.{IsObject, IsObjectAt, object_life}
use Rattle.map_laws.proofs.TraceWorlds.{SomeonePlaces, AreFull, IsTraceWorld, areas_once, has_parts, own_names, trace_reached}
use Rattle.map_laws.proofs.TestsAndFilters.{or_right, covers_one, holds_from, holds_to}

-- a row's pages by its span
row_each : (P : ℕ → Type 0) (s : Span) → OnRow s.start s.pages P → OnEach (s ∷ []) P
row_each P s row page e = let r = holds_to s page (sym (covers_one s page) ∙ e) in row page r.0 r.1

module _ (c : Setup) (m : PlainMap) (k : ℕ) where
  fresh_bare : (p : Place) → IsHolding c m k p → IsBlockAt c m k p → IsChunkAt c m p → OnEach (fresh c p) (IsBare m)
  fresh_bare p own at chunk = grind (arith, row_each, nat_tests)

  leaving_mapped : (p : Place) → IsHolding c m k p → IsBlockAt c m k p → OnEach (leaving p) (IsMapped m)
  leaving_mapped p own at = grind (arith, row_each, nat_tests)

  chunk_left : (p : Place) → IsChunkAt c m p → IsChunkOut c m p
  chunk_left (Depopulating base populated) at = λ page e. (
    (λ h. (let u = unit_page c base page populated h in subst (IsMapped m) (sym u.same) ((at.2 u.page u.among).1 u.cpu u.unit u.at))),
    at.3 page e,
  )
  chunk_left _ at = tt

  object_held : ((at : ObjectAt) → IsObject m.chunks at (InHand k) → life_of_object at m.chunks ≡ Some (InHand k)) → (p : Place) → IsObjectAt m k p → IfSome (object_in_hand p) (λ at. life_of_object at m.chunks ≡ Some (InHand k))
  object_held life p at = grind (arith, nat_tests)

  part_held : ((at : PartAt) → IsPartIn m k at → life_of_part at m.blocks ≡ Some (InHand k)) → (p : Place) → IsBlockAt c m k p → IfSome (part_in_hand p) (λ at. life_of_part at m.blocks ≡ Some (InHand k))
  part_held life p at = grind (arith, nat_tests)

  module _ (once : (page : ℕ) → times page (spans_of m.areas) ≤ 1) where
    -- the rows of blocks that are out
    out_each : (starts : List ℕ) → ((start : ℕ) → is_among starts start ≡ true → IsOut c m start) → OnEach (block_spans c starts) (IsUnmapped m)
    out_each starts outs page e = let is = covered_start c m once starts page e in let r = row_covers c m once is.0 page is.2 in (outs is.0 is.1).unmapped page r.0 r.1

    emptied_unmapped : (p : Place) → IsHolding c m k p → IsBlockAt c m k p → IsChunkAt c m p → OnEach (emptied c p) (IsUnmapped m)
    emptied_unmapped p own at chunk = grind (arith, out_each, row_each, only_one, nat_tests)

  module _ (once : (page : ℕ) → times page (spans_of m.areas) ≤ 1) (full : AreFull m) where
    group_live : (number base start : ℕ) → AreGroupsLive c m number base → is_among (group_starts c base) start ≡ true → (a : Area) × (areas_at start m.areas ≡ a ∷ [])
    group_live number base start live h = let s = start_of c base start h in let area = live s.0 s.1 s.2 in
        (area.area, one_at c m k once full start area.area area.there (ap (λ (x : Span). x.start) area.span ∙ s.3) (areas_at start m.areas) refl)

    block_live : (p : Place) (start : ℕ) → IsBlockAt c m k p → is_among (block_out p) start ≡ true → (a : Area) × (areas_at start m.areas ≡ a ∷ [])
    block_live p start at h = let area = out_area c m k p start at h in (area.area, block_at c m k once full start area)

    out_live : (p : Place) (start : ℕ) → IsBlockAt c m k p → IsChunkAt c m p → is_among (starts_out c p) start ≡ true → (a : Area) × (areas_at start m.areas ≡ a ∷ [])
    out_live (PurgeFragmenting cpu gone extra after) start at chunk h = block_live (PurgeFragmenting cpu gone extra after) start at h
    out_live (PurgeUnlinking gone extra after) start at chunk h = block_live (PurgeUnlinking gone extra after) start at h
    out_live (AddingBlock part) start at chunk h = block_live (AddingBlock part) start at h
    out_live (UnlinkingBlock s r) start at chunk h = block_live (UnlinkingBlock s r) start at h
    out_live (AddingChunk base number bytes align) start at chunk h = group_live number base start chunk.0 h
    out_live (Depopulating base populated) start at chunk h = group_live chunk.0 base start chunk.1.live h
    out_live (UnlinkingGroups base) start at chunk h = group_live chunk.0 base start chunk.1.live h
    out_live _ start at chunk h = cc

-- Blocks.

rows_cover : (b : Block) (ps : List Part) (p : Part) (i page : ℕ) → slice_get ps i ≡ Some p → b.start + p.offset ≤ page → page < b.start + p.offset + size_of p → covers (map (λ (p : Part). span (b.start + p.offset) (size_of p)) ps) page ≡ true
rows_cover b [] p i page h low high = cc
rows_cover b (x ∷ ps) p zero page h low high = grind (arith, holds_from, nat_tests)
rows_cover b (x ∷ ps) p (suc i) page h low high = or_right (holds (span (b.start + x.offset) (size_of x)) page) _ (rows_cover b ps p i page h low high)

life_kept : (c : Setup) (m : PlainMap) (b : Block) (p : Part) → IsPartFine m b.start p → (life : Life) → p.life ≡ life → IsPartKept m b p life
life_kept c m b p fine life e = grind (arith, row_each, nat_tests)

block_kept : (c : Setup) (m : PlainMap) (b : Block) → IsBlockFine c m b → IsBlockKept c m b
block_kept c m b fine = record {
  parts = λ i p h. life_kept c m b p (fine.parts p (record { place = i; at = h })) p.life refl;
  tails = λ i p h page e. (let r = holds_to (span (b.start + p.offset + p.pages) (size_of p - p.pages)) page (sym (covers_one (span (b.start + p.offset + p.pages) (size_of p - p.pages)) page) ∙ e) in
      (fine.parts p (record { place = i; at = h })).tail page r.0 (let n = (stacked_at b.parts 0 i p fine.stacked h).2 in let q = r.1 in omega arith));
  rest = λ page e out. (let r = holds_to (span b.start c.block_pages) page e in by_end page r.0 r.1 out (nat_lt page (b.start + parts_size b.parts)) refl);
}
  where
    by_end : (page : ℕ) → b.start ≤ page → page < b.start + c.block_pages → covers (part_spans b) page ≡ false → (t : Bool) → nat_lt page (b.start + parts_size b.parts) ≡ t → IsBare m page
    by_end page low high out true e =
        let inside : page < b.start + parts_size b.parts = grind (arith, nat_tests) in
        let at = stacked_covers b.parts 0 (page - b.start) fine.stacked (omega arith) (omega arith) in
        let yes = rows_cover b b.parts at.0 at.1.place page at.1.at (let a = at.2 in omega arith) (let a = at.3 in omega arith) in cc
    by_end page low high out false e = fine.rest page (let past : b.start + parts_size b.parts ≤ page = grind (arith, nat_tests) in past) high

area_kept : (m : PlainMap) (a : Area) → IsAreaFine m a → (kd : AreaKind) → a.kind ≡ kd → IsAreaKept m a kd
area_kept m a fine kd e = grind (arith, nat_tests)

chunk_kept : (c : Setup) (w : World) (h : Chunk) → IsChunkFine c w.map (SomeoneIsPopulating w) h → IsChunkKept c w h
chunk_kept c w h fine = record {
  not_stale = fine.clean;
  populated = λ page e x f. (let u = unit_page c h.base x (page ∷ []) f in
      subst (IsMapped w.map) (sym u.same) (fine.populated u.page (subst (λ n. slice_get h.populated n ≡ Some true) (only_one page u.page u.among) (populated_at h page e)) u.cpu u.unit u.at));
  unpopulated = λ page e. elim (fine.spare page e) [
    | inl bare ↦ inl (λ x f. (let u = unit_page c h.base x (page ∷ []) f in
        subst (IsUnmapped w.map) (sym u.same) (subst (λ n. IsUnmapped w.map (h.base + u.unit + n)) (only_one page u.page u.among) (bare u.cpu u.unit u.at))))
    | inr b ↦ inr b
  ];
}

module _ (c : Setup) (groups : AreGroups c) (some : 1 ≤ c.block_pages) (w : World) (framed : IsFramed c w) (is : IsTraceWorld c w) where
  caller_kept : (k : ℕ) (l : Local) → slice_get w.locals k ≡ Some l → IsCarried w.map l
  caller_kept k l here =
      let own = framed.own k l here in
      let holding : IsHolding c w.map l.caller l.place = subst (λ d. IsHolding d w.map l.caller l.place) own.setup (is.area.each k l here) in
      let at = is.blocks.each k l here in let chunk = is.chunks.each k l here in
      let once = areas_once c w framed is k l here in
      let life = held_life c w.map l.caller once is.full is.blocks.blocks (λ start. (let n = own_names c w framed is k l here start in omega arith)) in record {
        held_marked = (is.area.each k l here).held;
        flushed_marked = holding.flushed;
        fresh_bare = subst (λ d. OnEach (fresh d l.place) (IsBare w.map)) (sym own.setup) (fresh_bare c w.map l.caller l.place holding at chunk);
        leaving_mapped = leaving_mapped c w.map l.caller l.place holding at;
        emptied_unmapped = subst (λ d. OnEach (emptied d l.place) (IsUnmapped w.map)) (sym own.setup) (emptied_unmapped c w.map l.caller once l.place holding at chunk);
        chunk_out = subst (λ d. IsChunkOut d w.map l.place) (sym own.setup) (chunk_left c w.map l.caller l.place chunk);
        part_held = part_held c w.map l.caller life l.place at;
        object_held = object_held c w.map l.caller (λ object. object_life c (SomeonePlaces w) w.map.chunks is.objects.fine object (InHand l.caller)) l.place (is.objects.hands k l here);
        out_live = subst (λ d. (start : ℕ) → is_among (starts_out d l.place) start ≡ true → (a : Area) × (areas_at start w.map.areas ≡ a ∷ [])) (sym own.setup) (λ start h. out_live c w.map l.caller once is.full l.place start at chunk h);
      }

  pub world_kept : IsKept c w
  world_kept = record {
    purge_turn = is.turns.turns.purge;
    alloc_turn = is.turns.turns.alloc;
    carried = caller_kept;
    named_once = λ start. namings_once c groups w (λ page. (let o = is.area.once page in omega arith)) is.full.each is.turns.turns is.chunks is.objects start some is.blocks framed;
    waiting_unmapped = λ page h. (is.area.fine.pages page).waiting h;
    flushing_unmapped = λ page caller h. (is.area.fine.pages page).flushing caller h;
    areas = λ i a h. area_kept w.map a (is.area.fine.areas i a h) a.kind refl;
    blocks = λ i b h. block_kept c w.map b (is.blocks.blocks b (record { place = i; at = h }));
    chunks = λ i h e. chunk_kept c w h (is.chunks.chunks h (record { place = i; at = e }));
  }

pub carried_kept : WhatIsCarriedIsKept
carried_kept c opening calls w trace reached =
    let at = trace_reached c opening calls trace w reached in world_kept c trace.setup.groups (has_parts c trace.setup).some w at.0 at.1
