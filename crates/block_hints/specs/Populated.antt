-- The pages of a set, and the bits that an object in them may not take.
use Rattle.std.specs.Prelude.{ℕ, ◌*◌, ◌/◌, not, Bool, List, ◌++◌, map, filter}
use Rattle.vm_model.specs.PageSets.{has_page}
use Rattle.vm_model.specs.declared.areas.Span.{Span}
use Rattle.vm_model.specs.declared.areas.PageSet.{PageSet}
use Rattle.vm_model.specs.Space.{span, count_from, taken_by}
use Rattle.chunk_bitmaps.specs.ChunkMap.{ChunkMap}

-- the bits of the pages that are not in the set
abbrev pub missing_bits : PageSet → (bits : ℕ) → List Span
missing_bits pages bits = map (λ page. span (1024 * page) 1024) (filter (λ page. not (has_page pages page)) (count_from (bits / 1024) 0))

-- the bits of objects, and those of the pages that are not in the set
abbrev pub blocked_bits : PageSet → ChunkMap → List Bool
blocked_bits pages m = taken_by (m.objects ++ missing_bits pages m.bits) m.bits
