-- The chunks and objects of a machine, which one section reads and writes at a time.
use Rattle.std.specs.Prelude.{◌≡◌, ℕ, suc, ◌-◌, ◌&&◌, not, ◌==◌, if◌then◌else◌, Bool, false, List, [], ◌∷◌, ◌++◌, map, filter, find, flat_map, slice_get, Option, Some, option_map, All, length}
use Rattle.std.specs.List.{list_any}
use Rattle.vm_model.specs.declared.rows.ChunkRow.{ChunkRow}
use Rattle.vm_model.specs.declared.rows.ObjectRow.{ObjectRow}
use Rattle.vm_model.specs.declared.rows.ChunkAudit.{ChunkAudit}
use Rattle.vm_model.specs.declared.rows.HintRow.{HintRow}
use Rattle.vm_model.specs.Setup.{Setup}
use Rattle.vm_model.specs.PlainMap.{Chunk, Object, InHand, Lives, lives_as}
use Rattle.vm_model.specs.Chunks as model
use Rattle.vm_model.specs.Chunks.{ObjectAt, slot, chunks_numbered, change_chunk, with_object, without_object, with_live_object, with_page, new_chunk, find_object, placement, plain_fit, atomic_fit}
use Rattle.vm_model.specs.Tables.{chunk_row, chunk_audit, hint_rows, object_rows}
use Rattle.chunk_slots.specs.declared.placed.Placed.{Placed}
use Rattle.vm_model.specs.PageSets.{pages_in}
use Rattle.vm_model.specs.Space.{sort_by}
use Rattle.chunk_slots.specs.ChunksBySlot.{slot_key}

-- so many pages in each unit, the chunks by number, the next serial and number, and how many more objects can be placed
pub record ChunkRegion : Type 0 where
  pub unit_pages : ℕ
  pub chunks : List Chunk
  pub next_object : ℕ
  pub next_chunk : ℕ
  pub room : ℕ

-- a machine whose units have so many pages; chunks read nothing else of it
abbrev pub unit_of : ℕ → Setup
unit_of pages = record { space = 0; frames = 0; lazy = 0; block_pages = 0; part_limit = 0; unit_pages = pages; atom = 0; groups = []; units = [] }

abbrev pub setup_of : ChunkRegion → Setup
setup_of r = unit_of r.unit_pages

-- each chunk has so many pages in each unit
abbrev pub AreOfUnits : (unit_pages : ℕ) → List Chunk → Type 0
AreOfUnits unit_pages chunks = All (λ (h : Chunk). length h.populated ≡ unit_pages) chunks

abbrev pub empty_region : (unit_pages room : ℕ) → ChunkRegion
empty_region unit_pages room = record { unit_pages = unit_pages; chunks = []; next_object = 1; next_chunk = 0; room = room }

-- where a placed object lies, and what a place says of it
abbrev pub at_of : Placed → ObjectAt
at_of placed = record { chunk = placed.chunk; base = placed.base; off = placed.off; bytes = placed.bytes }

abbrev pub told_of : Placed → ObjectAt × List ℕ
told_of placed = (at_of placed, pages_in placed.missing)

-- where the next object of so many bytes is placed, by either kind of call
abbrev pub place_for : (atomic : Bool) (bytes align : ℕ) → ChunkRegion → Option (ObjectAt × List ℕ)
place_for atomic bytes align r = placement (setup_of r) (if atomic then atomic_fit (setup_of r) bytes align else plain_fit (setup_of r) bytes align) bytes r.chunks

abbrev pub with_placed : (caller : ℕ) → ObjectAt → ChunkRegion → ChunkRegion
with_placed caller at r = record r { chunks = change_chunk at.chunk (with_object caller at) r.chunks; room = r.room - 1 }

abbrev pub with_new_chunk : (base : ℕ) → ChunkRegion → ChunkRegion
with_new_chunk base r = record r { chunks = r.chunks ++ new_chunk (setup_of r) r.next_chunk base ∷ []; next_chunk = suc r.next_chunk }

abbrev pub with_settled : ObjectAt → ChunkRegion → ChunkRegion
with_settled at r = record r { chunks = change_chunk at.chunk (with_live_object at (Lives r.next_object)) r.chunks; next_object = suc r.next_object }

abbrev pub without_placed : ObjectAt → ChunkRegion → ChunkRegion
without_placed at r = record r { chunks = change_chunk at.chunk (without_object at) r.chunks }

abbrev pub with_populated : (chunk page : ℕ) → ChunkRegion → ChunkRegion
with_populated chunk page r = record r { chunks = change_chunk chunk (with_page page) r.chunks }

abbrev pub without_chunk : (chunk : ℕ) → ChunkRegion → ChunkRegion
without_chunk chunk r = record r { chunks = filter (λ (h : Chunk). not (h.number == chunk)) r.chunks }

-- some caller has just this object in hand
pub record IsHeld (at : ObjectAt) (chunks : List Chunk) : Type 0 where
  pub object : Object
  pub found : find_object at chunks ≡ Some object
  pub caller : ℕ
  pub life : object.life ≡ InHand caller
  pub bytes : object.bytes ≡ at.bytes

-- the page is not populated, and no object has a byte of it
pub record CanPopulate (chunk page : ℕ) (r : ChunkRegion) : Type 0 where
  pub row : Chunk
  pub found : slice_get (chunks_numbered chunk r.chunks) 0 ≡ Some row
  pub unpopulated : slice_get row.populated page ≡ Some false
  pub unused : list_any (model.touches page) row.objects ≡ false

-- the chunk is there, and has no object
pub record IsWhollyFree (chunk : ℕ) (r : ChunkRegion) : Type 0 where
  pub row : Chunk
  pub found : slice_get (chunks_numbered chunk r.chunks) 0 ≡ Some row
  pub free : row.objects ≡ []

-- the bytes of the live object with this chunk, offset and serial
abbrev pub live_bytes : (chunk off serial : ℕ) → ChunkRegion → Option ℕ
live_bytes chunk off serial r =
    option_map (λ (o : Object). o.bytes) (find (λ (o : Object). (o.off == off) && lives_as serial o.life) (flat_map (λ (h : Chunk). h.objects) (chunks_numbered chunk r.chunks)))

-- an offset of a chunk, for an object whose base and bytes nothing asks for
abbrev pub at_offset : (chunk off : ℕ) → ObjectAt
at_offset chunk off = record { chunk = chunk; base = 0; off = off; bytes = 0 }

-- the rows of the chunks, their audits and hints, and the rows of the live objects
abbrev pub chunk_table : ChunkRegion → List ChunkRow
chunk_table r = map (chunk_row (setup_of r)) r.chunks

abbrev pub audit_table : ChunkRegion → List ChunkAudit
audit_table r = map (chunk_audit (setup_of r)) r.chunks

abbrev pub hint_table : ChunkRegion → List HintRow
hint_table r = flat_map (hint_rows (setup_of r)) r.chunks

abbrev pub object_table : ChunkRegion → List ObjectRow
object_table r = flat_map object_rows r.chunks

-- the numbers of the chunks in a slot
abbrev pub numbers_in_slot : ℕ → ChunkRegion → List ℕ
numbers_in_slot n r = map (λ (h : Chunk). h.number) (filter (λ h. slot (setup_of r) h == n) r.chunks)

-- the chunks by slot and then by number, and their numbers
abbrev pub in_order : ChunkRegion → List Chunk
in_order r = sort_by (λ h. slot_key (slot (setup_of r) h) h.number) r.chunks

abbrev pub numbers_in_order : ChunkRegion → List ℕ
numbers_in_order r = map (λ (h : Chunk). h.number) (in_order r)
