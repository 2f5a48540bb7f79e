-- What the side of the per-CPU chunks keeps.
use Rattle.std.specs.Prelude.{◌≡◌, ℕ, ◌+◌, ◌*◌, ◌<◌, ◌≤◌, List, [], ◌∷◌, length, map, sum_by, Option, IsSome}
use Rattle.vm_model.specs.declared.areas.Span.{Span}
use Rattle.vm_model.specs.PlainMap.{Chunk}
use Rattle.chunk_slots.specs.declared.holders.Holder.{Holder}
use Rattle.chunk_slots.specs.declared.slots.InSlot.{InSlot}
use Rattle.chunk_slots.specs.Rising.{IsRising}
use Rattle.chunk_slots.specs.KeptObjects.{object_key, objects_by}
use Rattle.chunk_slots.specs.KeptChunks.{KeptRow, empty_in}
use Rattle.chunk_slots.specs.ChunksBySlot.{key_of_slot, slots_of}

abbrev pub number_of : KeptRow → ℕ
number_of row = row.number

-- a chunk with its objects
abbrev pub chunk_in : (ℕ → Option Holder) → KeptRow → Chunk
chunk_in holders row = record { number = row.number; base = row.base; populated = row.populated; objects = objects_by holders row.number row.bits.objects }

abbrev pub chunks_in : (ℕ → Option Holder) → List KeptRow → List Chunk
chunks_in holders rows = map (chunk_in holders) rows

-- of every element
abbrev pub Each : {X : Type 0} → (X → Type 0) → List X → Type 0
Each P [] = Unit {0}
Each P (x ∷ xs) = P x × Each P xs

-- an object has a bit, lies in its chunk, and has a holder
pub record IsKeptSpan (holders : ℕ → Option Holder) (chunk bits : ℕ) (s : Span) : Type 0 where
  pub some : 1 ≤ s.pages
  pub within : s.start + s.pages ≤ bits
  pub held : IsSome (holders (object_key chunk (4 * s.start)))

-- a chunk has a number that was given, and as many pages as each unit
pub record IsKeptRow (pages next : ℕ) (holders : ℕ → Option Holder) (row : KeptRow) : Type 0 where
  pub given : row.number < next
  pub pages_are : length row.populated ≡ pages
  pub bits_are : row.bits.bits ≡ 1024 * pages
  pub spans_are : Each (IsKeptSpan holders row.number (1024 * pages)) row.bits.objects

pub record AreKept (pages : ℕ) (rows : List KeptRow) (slots : List InSlot) (holders : ℕ → Option Holder) (empty next_object next_chunk spare slot_capacity holder_room : ℕ) : Type 0 where
  pub least : 8 ≤ pages
  pub most : pages ≤ 64
  pub numbers : IsRising number_of rows
  pub rows_are : Each (IsKeptRow pages next_chunk holders) rows
  pub slots_are : slots ≡ slots_of rows
  pub slots_rise : IsRising key_of_slot slots
  pub slots_room : length slots ≤ slot_capacity
  pub empty_is : empty ≡ sum_by (λ row. length (empty_in row)) rows
  pub few : sum_by (λ row. length row.bits.objects) rows + spare < 4294967296
  pub room : spare ≤ holder_room
  pub serials : 1 ≤ next_object
  pub given : next_chunk < 4294967296
