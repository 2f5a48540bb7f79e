-- The rows of live objects, one after another.
use Rattle.std.specs.Prelude.{ℕ, zero, suc, ◌*◌, ◌==◌, if◌then◌else◌, List, [], ◌∷◌, Option, None, Some}
use Rattle.vm_model.specs.declared.areas.Span.{Span}
use Rattle.vm_model.specs.declared.rows.ObjectRow.{ObjectRow}
use Rattle.vm_model.specs.Tables.{object_rows}
use Rattle.chunk_slots.specs.declared.holders.Holder.{Holder}
use Rattle.chunk_slots.specs.declared.object_rows.Sought.{Sought}
use Rattle.chunk_slots.specs.declared.object_rows.Sought.TheVariants.{Found, Past}
use Rattle.chunk_slots.specs.KeptObjects.{object_key}
use Rattle.chunk_slots.specs.KeptChunks.{KeptRow}
use Rattle.chunk_slots.specs.KeptChunkSides.{chunk_in}

-- the row of an object whose holder is known, where it lives
abbrev pub live_with : (chunk : ℕ) → Span → Option Holder → Option ObjectRow
live_with chunk s None = None
live_with chunk s (Some holder) = if holder.serial == 0 then None else Some (record { chunk = chunk; off = 4 * s.start; bytes = 4 * s.pages; caller = holder.caller; serial = holder.serial })

abbrev pub live_of : (ℕ → Option Holder) → (chunk : ℕ) → Span → Option ObjectRow
live_of holders chunk s = live_with chunk s (holders (object_key chunk (4 * s.start)))

abbrev pub live_rows : (ℕ → Option Holder) → KeptRow → List ObjectRow
live_rows holders row = object_rows (chunk_in holders row)

-- the row behind so many others, or how many are left to pass over
abbrev pub seek : List ObjectRow → ℕ → Sought
seek [] skip = Past skip
seek (row ∷ rows) zero = Found row
seek (row ∷ rows) (suc skip) = seek rows skip
