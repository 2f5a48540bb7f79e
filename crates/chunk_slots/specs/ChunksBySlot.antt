-- The chunks by slot and number.
use Rattle.std.specs.Prelude.{ℕ, ◌+◌, ◌*◌, Bool, not, ◌==◌, List, map, filter, Option}
use Rattle.vm_model.specs.Space.{put_by, sort_by, lowest}
use Rattle.chunk_slots.specs.declared.slots.InSlot.{InSlot}
use Rattle.chunk_slots.specs.KeptChunks.{KeptRow, slot_in, taken_for}

abbrev pub slot_key : (slot chunk : ℕ) → ℕ
slot_key slot chunk = 4294967296 * slot + chunk

abbrev pub key_of_slot : InSlot → ℕ
key_of_slot s = slot_key s.slot s.chunk

abbrev pub in_slot_of : KeptRow → InSlot
in_slot_of row = record { slot = slot_in row; chunk = row.number }

-- all chunks, by slot and then by number
abbrev pub slots_of : List KeptRow → List InSlot
slots_of rows = sort_by key_of_slot (map in_slot_of rows)

-- with one chunk in another slot
abbrev pub moved : (chunk from to : ℕ) → List InSlot → List InSlot
moved chunk from to slots = put_by key_of_slot (record { slot = to; chunk = chunk }) (filter (λ (s : InSlot). not (key_of_slot s == slot_key from chunk)) slots)

-- where a chunk has room for so many bits
abbrev pub fit_in : (atomic : Bool) (bits align : ℕ) → KeptRow → Option ℕ
fit_in atomic bits align row = lowest (taken_for atomic row) bits align
