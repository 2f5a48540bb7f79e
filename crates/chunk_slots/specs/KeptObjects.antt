-- Objects as they are kept: the bits of each in its chunk, and its holder by chunk and offset.
use Rattle.std.specs.Prelude.{ℕ, ◌+◌, ◌*◌, ◌==◌, if◌then◌else◌, List, map, Option, None, Some}
use Rattle.std.specs.Prelude.{nat_eq}
use Rattle.std.specs.HashMap.{get, spare}
use Rattle.vm_model.specs.declared.areas.Span.{Span}
use Rattle.vm_model.specs.PlainMap.{Object, Life, InHand, Lives}
use Rattle.chunk_slots.specs.declared.holders.Holder.{Holder}
use Rattle.chunk_slots.specs.declared.holders.Holders.{Holders}
pub use Rattle.std.specs.Prelude.{nat_eq}

abbrev pub object_key : (chunk off : ℕ) → ℕ
object_key chunk off = 4294967296 * chunk + off

-- the holder with a key, and for how many more there is room
abbrev pub holder_in : Holders → ℕ → Option Holder
holder_in holders key = get nat_eq holders.by_place key

abbrev pub room_in : Holders → ℕ
room_in holders = spare holders.by_place

-- it is in hand until it has a serial
abbrev pub life_by : Option Holder → Life
life_by None = InHand 0
life_by (Some holder) = if holder.serial == 0 then InHand holder.caller else Lives holder.serial

abbrev pub caller_by : Option Holder → ℕ
caller_by None = 0
caller_by (Some holder) = holder.caller

-- the object of a chunk with these bits
abbrev pub object_by : (ℕ → Option Holder) → (chunk : ℕ) → Span → Object
object_by holders chunk s = record {
  off = 4 * s.start;
  bytes = 4 * s.pages;
  caller = caller_by (holders (object_key chunk (4 * s.start)));
  life = life_by (holders (object_key chunk (4 * s.start)));
}

abbrev pub objects_by : (ℕ → Option Holder) → (chunk : ℕ) → List Span → List Object
objects_by holders chunk spans = map (object_by holders chunk) spans
