-- The places of a list of callers at which a caller stands.
use Rattle.std.specs.Prelude.{ℕ, ◌+◌, ◌<◌, ◌==◌, if◌then◌else◌, List, [], ◌∷◌}

-- where the list's first place has this number
abbrev pub places_from : (first caller : ℕ) → List ℕ → List ℕ
places_from first caller [] = []
places_from first caller (x ∷ xs) = if x == caller then first ∷ places_from (1 + first) caller xs else places_from (1 + first) caller xs

abbrev pub places : (caller : ℕ) → List ℕ → List ℕ
places caller log = places_from 0 caller log

-- each number is below n
abbrev pub AreBelow : ℕ → List ℕ → Type 0
AreBelow n [] = Unit {0}
AreBelow n (x ∷ xs) = (x < n) × AreBelow n xs
