use Rattle.std.proofs.Common.{◌≡◌, ℕ, zero, suc, [], ◌∷◌, ◌<◌, List, length, map, slice_get, Some, option_map, refl, ap, sym, ◌∙◌, arith}
use Rattle.std.proofs.lemmas.Option.{slice_get-get_or}
use Rattle.vm_model.specs.declared.rows.ChunkRow.{ChunkRow}
use Rattle.vm_model.specs.PlainMap.{Chunk}
use Rattle.vm_model.specs.Tables.{chunk_row}
use Rattle.chunk_slots.specs.KeptObjects.{holder_in}
use Rattle.chunk_slots.specs.KeptChunkSides.{chunk_in, chunks_in, IsKeptRow}
use Rattle.chunk_slots.specs.ChunkRegion.{ChunkRegion, unit_of, chunk_table}
use Rattle.chunk_slots.proofs.RowLists.{each_at, get_in_view, length_in_view}
use Rattle.chunk_slots.proofs.ChunkViews.{row_in_view}
use Rattle.chunk_slots.proofs.pcpu_side.PcpuSide.chunk_at.Goals as goal

get_mapped : (f : Chunk → ChunkRow) (i : ℕ) (cs : List Chunk) → slice_get (map f cs) i ≡ option_map f (slice_get cs i)
get_mapped f i [] = refl
get_mapped f zero (x ∷ xs) = refl
get_mapped f (suc i) (x ∷ xs) = get_mapped f i xs

pub returns : goal.returns
returns c =
    let i = c.self.inside in let h = holder_in i.holders in
    let few : c.args.index < length i.chunks.items = let long = length_in_view h i.chunks.items in let same = ap (λ (r : ChunkRegion). length r.chunks) c.self.view_is in let low = c.requires in omega arith in
    let there : slice_get i.chunks.items c.args.index ≡ Some c.index.result.now = slice_get-get_or i.chunks.items c.args.index c.index.result.now few ∙ ap Some (sym c.index.ensures) in
    let kept = each_at (IsKeptRow i.unit_pages i.next_chunk h) c.args.index i.chunks.items c.index.result.now c.self.invariant.rows_are there in
    sym (ap (λ (r : ChunkRegion). slice_get (chunk_table r) c.args.index) c.self.view_is)
    ∙ get_mapped (chunk_row (unit_of i.unit_pages)) c.args.index (chunks_in h i.chunks.items)
    ∙ ap (option_map (chunk_row (unit_of i.unit_pages))) (get_in_view h c.args.index i.chunks.items ∙ ap (option_map (chunk_in h)) there)
    ∙ ap Some (row_in_view i.unit_pages i.next_chunk h c.index.result.now kept ∙ sym c.row.ensures)
