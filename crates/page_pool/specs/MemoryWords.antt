-- The words of memory.
use Rattle.std.specs.Prelude.{◌≡◌, ℕ, ◌<◌, List, length, slice_index_or, ℤ, pos}

-- each of the words is 0
abbrev pub AreBlank : List ℤ → Type 0
AreBlank words = (cell : ℕ) → cell < length words → slice_index_or words cell (pos 0) ≡ pos 0
