-- What a balance is told.
use Rattle.std.specs.Prelude.{ℕ, ◌==◌, List, find, Option, option_and_then}
use Rattle.vm_model.specs.Setup.{Setup}
use Rattle.vm_model.specs.PlainMap.{Chunk}
use Rattle.vm_model.specs.PageSets.{pages_in}
use Rattle.vm_model.specs.Chunks.{page_in, populated_pages}
use Rattle.chunk_slots.specs.ChunkRegion.{ChunkRegion, setup_of}
use Rattle.populate_balance.specs.declared.fill.UnpopulatedPage.{UnpopulatedPage}
use Rattle.populate_balance.specs.declared.spare.SpareChunk.{SpareChunk}

-- a chunk's number and a page of it, without its base and with it, and as they are told
abbrev pub page_of : Chunk × ℕ → ℕ × ℕ
page_of p = (p.0.number, p.1)

abbrev pub placed_page : Chunk × ℕ → ℕ × ℕ × ℕ
placed_page p = (p.0.number, p.0.base, p.1)

abbrev pub told_page : UnpopulatedPage → ℕ × ℕ × ℕ
told_page next = (next.chunk, next.base, next.page)

-- the lowest unpopulated page of the chunk with a number
abbrev pub page_in_chunk : (chunk : ℕ) → ChunkRegion → Option (Chunk × ℕ)
page_in_chunk chunk r = option_and_then (page_in (setup_of r)) (find (λ (h : Chunk). h.number == chunk) r.chunks)

-- a chunk's number, base and populated pages, as they are and as they are told
abbrev pub spare_in : Setup → Chunk → ℕ × ℕ × List ℕ
spare_in c h = (h.number, h.base, populated_pages c h)

abbrev pub told_of : SpareChunk → ℕ × ℕ × List ℕ
told_of spare = (spare.chunk, spare.base, pages_in spare.populated)
