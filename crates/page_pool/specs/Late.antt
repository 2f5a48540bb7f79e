-- Lists of which only the first so many elements were ever written.
use Rattle.std.specs.Prelude.{ℕ, ◌-◌, List, ◌++◌, length, replicate}

-- what was written, and blanks up to a length
abbrev pub with_blanks : {X : Type 0} → X → List X → ℕ → List X
with_blanks blank written n = written ++ replicate (n - length written) blank
