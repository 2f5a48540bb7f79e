-- Words stay small: no cell holds more than all adds of a trace come to.
use Rattle.std.specs.Prelude.{◌≡◌, ℕ, Bool, List, slice_get, Option, Some, ℤ, pos, neg_ℤ, ◌≤ℤ◌}
use Rattle.vm_model.specs.Chunks.{ObjectAt}
use Rattle.vm_model.specs.Places.{Adding}
use Rattle.vm_model.specs.History.{Local}
use Rattle.vm_model.specs.Parts.{Region, Pages, wants}
use Rattle.vm_model.specs.Run.{StandTogether}
use Rattle.section_laws.specs.Lawful.{IsLawful}

abbrev pub IsWithin : ℕ → ℤ → Type 0
IsWithin most z = (neg_ℤ (pos most) ≤ℤ z) × (z ≤ℤ pos most)

-- the most that one add comes to, and 100,000 of them
abbrev pub most_amount : ℕ
most_amount = 2147483648

abbrev pub most_word : ℕ
most_word = 214748364800000

abbrev pub CellsAreSmall : Type 0
CellsAreSmall = (l : Local) (frames : List (Option ℕ)) (stale : List Bool) (cells : List ℤ) → StandTogether wants IsLawful l (Pages frames stale cells) → (i : ℕ) (z : ℤ) → slice_get cells i ≡ Some z → IsWithin most_word z

abbrev pub AmountsAreSmall : Type 0
AmountsAreSmall = (l : Local) (r : Region) (at : ObjectAt) (serial cpu index : ℕ) (amount : ℤ) → StandTogether wants IsLawful l r → l.place ≡ Adding at serial cpu index amount → IsWithin most_amount amount
