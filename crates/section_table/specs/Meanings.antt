-- What sections over regions do, as plain data.
use Rattle.std.specs.Prelude.{ℕ, Bool, List, Option}

pub record Meanings (R L : Type 0) : Type 1 where
  -- the number of the region that a caller wants, if any
  pub wanted : L → Option ℕ
  -- what a caller may want lies below it
  pub reach : L → ℕ
  -- whether the section moves
  pub moves : L → R → Bool
  -- the two values that a section leaves
  pub after : L → R → L × R
  -- of all regions and all locals
  pub lawful : List R → List L → Type 0
