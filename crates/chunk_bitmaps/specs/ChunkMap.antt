-- The bits of a chunk: how many there are, and the objects, each with its bits.
use Rattle.std.specs.Prelude.{◌≡◌, ℕ, suc, ◌+◌, ◌-◌, ◌≤◌, Bool, true, not, ◌&&◌, ◌==◌, nat_le, List, [], length, map, filter, find, drop, Option, option_map}
use Rattle.vm_model.specs.declared.areas.Span.{Span}
use Rattle.vm_model.specs.Space.{span, count_from, put_by, taken_by, fits}
use Rattle.vm_model.specs.Bits.{leading_free}
use Rattle.vm_model.specs.Bits.{value_at}

-- so many bits, and the bits of each object, by rising place
pub record ChunkMap : Type 0 where
  pub bits : ℕ
  pub objects : List Span

abbrev pub empty_chunk : ℕ → ChunkMap
empty_chunk bits = record { bits = bits; objects = [] }

-- which bits are taken: those of the objects
abbrev pub taken_bits : ChunkMap → List Bool
taken_bits m = taken_by m.objects m.bits

-- with one more object
abbrev pub with_object_at : (at bits : ℕ) → ChunkMap → ChunkMap
with_object_at at bits m = record m { objects = put_by (λ (s : Span). s.start) (span at bits) m.objects }

-- without the object that begins at the place
abbrev pub without_object_at : (at : ℕ) → ChunkMap → ChunkMap
without_object_at at m = record m { objects = filter (λ (s : Span). not (s.start == at)) m.objects }

-- how many bits the object has that begins at the place
abbrev pub object_bits_at : (at : ℕ) → ChunkMap → Option ℕ
object_bits_at at m = option_map (λ (s : Span). s.pages) (find (λ (s : Span). s.start == at) m.objects)

-- the objects that begin at a place or behind it
abbrev pub objects_from : (from : ℕ) → ChunkMap → List Span
objects_from from m = filter (λ (s : Span). nat_le from s.start) m.objects

-- the lowest fit at or after a place
abbrev pub first_fit : List Bool → (from bits align : ℕ) → Option ℕ
first_fit taken from bits align = find (fits taken bits align) (count_from (length taken - from) from)

-- The objects in two bit lists: an object begins at a taken place with a boundary, and goes up to the next boundary.

abbrev pub begins : (taken bounds : List Bool) → ℕ → Bool
begins taken bounds place = value_at taken place && value_at bounds place

abbrev pub up_to_next : (bounds : List Bool) → ℕ → ℕ
up_to_next bounds place = suc (leading_free (drop (suc place) bounds))

abbrev pub object_from : (bounds : List Bool) → ℕ → Span
object_from bounds place = span place (up_to_next bounds place)

abbrev pub objects_in : (taken bounds : List Bool) → List Span
objects_in taken bounds = map (object_from bounds) (filter (begins taken bounds) (count_from (length taken) 0))

abbrev pub chunk_map : (taken bounds : List Bool) → ChunkMap
chunk_map taken bounds = record { bits = length taken; objects = objects_in taken bounds }

-- just the bits of the objects are taken, no object goes past the end, and there are few bits
pub record AreMaps (taken bounds : List Bool) : Type 0 where
  pub longer : length bounds ≡ suc (length taken)
  pub covered : taken ≡ taken_by (objects_in taken bounds) (length taken)
  pub within : (place : ℕ) → begins taken bounds place ≡ true → place + up_to_next bounds place ≤ length taken
  pub small : length taken ≤ 65536
