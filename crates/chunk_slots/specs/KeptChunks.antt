-- A chunk as it is kept, with the bits of its objects and without the objects themselves.
use Rattle.std.specs.Prelude.{◌≡◌, ℕ, ◌*◌, ◌≤◌, ◌==◌, Bool, true, false, not, if◌then◌else◌, List, ◌++◌, length, map, filter, drop, replicate, slice_index_or, find, Option, option_map}
use Rattle.vm_model.specs.declared.areas.PageSet.{PageSet}
use Rattle.vm_model.specs.declared.areas.Span.{Span}
use Rattle.vm_model.specs.declared.rows.ChunkRow.{ChunkRow}
use Rattle.vm_model.specs.declared.rows.ChunkAudit.{ChunkAudit}
use Rattle.vm_model.specs.declared.rows.HintRow.{HintRow}
use Rattle.vm_model.specs.Space.{span, count_from, begins_free, longest, paint, taken_by}
use Rattle.vm_model.specs.Bits.{slot_of, free_count}
use Rattle.vm_model.specs.Tables.{hint_row}
use Rattle.chunk_bitmaps.specs.ChunkMap.{ChunkMap, taken_bits, empty_chunk, with_object_at, without_object_at}
use Rattle.vm_model.specs.PageSets.{has_page}

pub record KeptRow : Type 0 where
  pub number : ℕ
  pub base : ℕ
  pub populated : List Bool
  pub bits : ChunkMap

-- of so many pages of a set, which are in it
abbrev pub pages_as : (pages : ℕ) → PageSet → List Bool
pages_as pages set = map (has_page set) (count_from pages 0)

-- nothing of it is populated, and nothing is taken
abbrev pub fresh_row : (number base pages : ℕ) → KeptRow
fresh_row number base pages = record { number = number; base = base; populated = replicate pages false; bits = empty_chunk (1024 * pages) }

abbrev pub has_populated : KeptRow → ℕ → Bool
has_populated row page = slice_index_or row.populated page false

abbrev pub populated_in : KeptRow → List ℕ
populated_in row = filter (has_populated row) (count_from (length row.populated) 0)

abbrev pub unpopulated_in : KeptRow → List ℕ
unpopulated_in row = filter (λ page. not (has_populated row page)) (count_from (length row.populated) 0)

-- the bits that a call may not take, an atomic one not those of pages that are not populated either
abbrev pub taken_for : (atomic : Bool) → KeptRow → List Bool
taken_for atomic row = if atomic then taken_by (row.bits.objects ++ map (λ page. span (1024 * page) 1024) (unpopulated_in row)) row.bits.bits else taken_bits row.bits

-- no bit of the page is taken
abbrev pub page_is_free : ChunkMap → ℕ → Bool
page_is_free bits page = begins_free 1024 (drop (1024 * page) (taken_bits bits))

-- the populated pages without a taken bit
abbrev pub empty_in : KeptRow → List ℕ
empty_in row = filter (page_is_free row.bits) (populated_in row)

abbrev pub slot_in : KeptRow → ℕ
slot_in row = slot_of (taken_bits row.bits)

abbrev pub row_of : KeptRow → ChunkRow
row_of row = record {
  chunk = row.number;
  base = row.base;
  slot = slot_in row;
  free = 4 * free_count (taken_bits row.bits);
  populated = length (populated_in row);
  empty = length (empty_in row);
  run_start = (longest (taken_bits row.bits)).start;
  run = (longest (taken_bits row.bits)).pages;
}

-- the numbers of its audit, and the hints of its pages of bits
abbrev pub audit_of : KeptRow → ChunkAudit
audit_of row = record {
  chunk = row.number;
  run_start = (longest (taken_bits row.bits)).start;
  run = (longest (taken_bits row.bits)).pages;
  slot = slot_in row;
  empty = length (empty_in row);
}

abbrev pub hints_of : KeptRow → List HintRow
hints_of row = map (hint_row row.number (taken_bits row.bits)) (count_from (length row.populated) 0)

-- how many bytes the object has that begins at an offset
abbrev pub bytes_at : (off : ℕ) → KeptRow → Option ℕ
bytes_at off row = option_map (λ (s : Span). 4 * s.pages) (find (λ (s : Span). 4 * s.start == off) row.bits.objects)

-- with an object's bits taken, or free again, and with more pages populated
abbrev pub with_bits : (at bits : ℕ) → KeptRow → KeptRow
with_bits at bits row = record row { bits = with_object_at at bits row.bits }

abbrev pub without_bits : (at : ℕ) → KeptRow → KeptRow
without_bits at row = record row { bits = without_object_at at row.bits }

abbrev pub with_pages : (ℕ → Bool) → KeptRow → KeptRow
with_pages test row = record row { populated = paint test true row.populated }

-- what is kept beside the bits and the populated pages
pub record IsKept (pages : ℕ) (set : PageSet) (bits : ChunkMap) (row : KeptRow) (slot empty : ℕ) : Type 0 where
  pub least : 1 ≤ pages
  pub most : pages ≤ 64
  pub size : bits.bits ≡ 1024 * pages
  pub slot_is : slot ≡ slot_of (taken_bits bits)
  pub empty_is : empty ≡ length (empty_in row)
