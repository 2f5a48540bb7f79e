use Rattle.std.proofs.Common.{◌≡◌, ℕ, ◌<◌, length, slice_get, Option, Some, option_map, ap, sym, ◌∙◌, subst, arith}
use Rattle.std.specs.Prelude.{IfSome}
use Rattle.std.proofs.lemmas.Option.{slice_get-get_or}
use Rattle.vm_model.specs.PlainMap.{Chunk}
use Rattle.vm_model.specs.PageSets.{pages_in, has_page}
use Rattle.vm_model.specs.Chunks.{populated_pages, is_populated}
use Rattle.chunk_slots.specs.KeptObjects.{holder_in}
use Rattle.chunk_slots.specs.KeptChunkSides.{chunk_in, IsKeptRow}
use Rattle.chunk_slots.specs.ChunkRegion.{ChunkRegion, unit_of, setup_of}
use Rattle.chunk_slots.proofs.RowLists.{each_at, get_in_view, length_in_view}
use Rattle.chunk_slots.proofs.ChunkViews.{populated_in_view}
use Rattle.chunk_slots.proofs.pcpu_side.PcpuSide.populated_at.Goals as goal

pub returns-clause-pages : goal.returns-clause-pages
returns-clause-pages c =
    let i = c.self.inside in let h = holder_in i.holders in
    let few : c.args.index < length i.chunks.items = let long = length_in_view h i.chunks.items in let same = ap (λ (r : ChunkRegion). length r.chunks) c.self.view_is in let low = c.requires in omega arith in
    let there : slice_get i.chunks.items c.args.index ≡ Some c.index.result.now = slice_get-get_or i.chunks.items c.args.index c.index.result.now few ∙ ap Some (sym c.index.ensures) in
    let kept = each_at (IsKeptRow i.unit_pages i.next_chunk h) c.args.index i.chunks.items c.index.result.now c.self.invariant.rows_are there in
    let value : pages_in c.populated.result ≡ populated_pages (unit_of i.unit_pages) (chunk_in h c.index.result.now) = c.populated.ensures.pages ∙ sym (populated_in_view i.unit_pages h c.index.result.now kept.pages_are) in
    subst (λ (r : ChunkRegion). IfSome (slice_get r.chunks c.args.index) (λ k. pages_in c.populated.result ≡ populated_pages (setup_of r) k)) c.self.view_is
    (subst (λ (o : Option Chunk). IfSome o (λ k. pages_in c.populated.result ≡ populated_pages (unit_of i.unit_pages) k)) (sym (get_in_view h c.args.index i.chunks.items ∙ ap (option_map (chunk_in h)) there)) value)

pub returns-clause-each : goal.returns-clause-each
returns-clause-each c =
    let i = c.self.inside in let h = holder_in i.holders in
    let few : c.args.index < length i.chunks.items = let long = length_in_view h i.chunks.items in let same = ap (λ (r : ChunkRegion). length r.chunks) c.self.view_is in let low = c.requires in omega arith in
    let there : slice_get i.chunks.items c.args.index ≡ Some c.index.result.now = slice_get-get_or i.chunks.items c.args.index c.index.result.now few ∙ ap Some (sym c.index.ensures) in
    let kept = each_at (IsKeptRow i.unit_pages i.next_chunk h) c.args.index i.chunks.items c.index.result.now c.self.invariant.rows_are there in
    let value : (page : ℕ) → page < i.unit_pages → has_page c.populated.result page ≡ is_populated (chunk_in h c.index.result.now) page = λ page low. c.populated.ensures.each page (omega (arith, kept.pages_are)) in
    subst (λ (r : ChunkRegion). IfSome (slice_get r.chunks c.args.index) (λ k. (page : ℕ) → page < r.unit_pages → has_page c.populated.result page ≡ is_populated k page)) c.self.view_is
    (subst (λ (o : Option Chunk). IfSome o (λ k. (page : ℕ) → page < i.unit_pages → has_page c.populated.result page ≡ is_populated k page)) (sym (get_in_view h c.args.index i.chunks.items ∙ ap (option_map (chunk_in h)) there)) value)
