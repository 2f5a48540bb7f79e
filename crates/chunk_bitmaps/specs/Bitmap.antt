-- Bits in words, and the next bit with a value.
use Rattle.std.specs.Prelude.{◌≡◌, ℕ, ◌-◌, ◌*◌, ◌/◌, ◌%◌, ◌^◌, ◌<◌, ◌≤◌, Bool, if◌then◌else◌, not, ◌==◌, List, length, map, slice_get, slice_index, Some}
use Rattle.std.specs.Int.{bit_at}
use Rattle.vm_model.specs.Space.{count_from, one_if}
use Rattle.vm_model.specs.Bits.{value_at}

-- the bit at a place of words of 64 bits
abbrev pub bit_of : List ℕ → ℕ → Bool
bit_of words place = bit_at (slice_index words (place / 64)) (place % 64) == 1

abbrev pub bits_of : List ℕ → ℕ → List Bool
bits_of words bits = map (bit_of words) (count_from bits 0)

-- so many bits have places in the words
pub record HasRoom (words : List ℕ) (bits : ℕ) : Type 0 where
  pub room : bits ≤ 64 * length words
  pub small : bits ≤ 2 ^ 31

-- the place is the first one with the value from a place on, or the end where none before the end has it
pub record IsNextBit (bits : List Bool) (value : Bool) (from end place : ℕ) : Type 0 where
  pub after : from ≤ place
  pub within : place ≤ end
  pub others : (other : ℕ) → from ≤ other → other < place → slice_get bits other ≡ Some (not value)
  pub here : place < end → slice_get bits place ≡ Some value

-- the place is behind the last one with the value before the end, or the first one where none has it
pub record IsLastBit (bits : List Bool) (value : Bool) (from end place : ℕ) : Type 0 where
  pub after : from ≤ place
  pub within : place ≤ end
  pub others : (other : ℕ) → place ≤ other → other < end → slice_get bits other ≡ Some (not value)
  pub here : from < place → slice_get bits (place - 1) ≡ Some value

-- the set bits of a word are those with the value in the word of a place, up to the place
pub record IsWordUpTo (bits : List Bool) (place : ℕ) (value : Bool) (word : ℕ) : Type 0 where
  pub rest : (other : ℕ) → other / 64 ≡ place / 64 → other ≤ place → bit_at word (other % 64) ≡ one_if (if value then value_at bits other else not (value_at bits other))
  pub above : (i : ℕ) → place % 64 < i → bit_at word i ≡ 0
