-- Worked layouts.
use Rattle.std.specs.Prelude.{◌≡◌, ℕ, List, [], ◌∷◌, Some, None}
use Rattle.unit_layout.specs.declared.request.GroupSpec.{GroupSpec}
use Rattle.unit_layout.specs.declared.request.LayoutSpec.{LayoutSpec}
use Rattle.unit_layout.specs.declared.layout.Group.{Group}
use Rattle.unit_layout.specs.declared.errors.LayoutError.TheVariants.{NoCpu, TooManyGroups, Overlap, TooWide}
use Rattle.unit_layout.specs.LayoutRule.{Numbers, layout_of}
use Rattle.unit_layout.specs.Refusals.{refusal}

abbrev pub layout_spec : (unit atom : ℕ) → List GroupSpec → LayoutSpec
layout_spec unit atom groups = record { unit = unit; atom = atom; groups = groups }

-- so many processors from an offset on
abbrev pub from : (offset cpus : ℕ) → GroupSpec
from offset cpus = record { cpus = cpus; offset = offset }

abbrev pub laid : (offset pages : ℕ) → Group
laid offset pages = record { offset = offset; pages = pages }

-- a layout that stands, with these numbers
pub record Stands (s : LayoutSpec) (numbers : Numbers) : Type 0 where
  pub accepted : refusal s ≡ None
  pub layout : layout_of s ≡ numbers

abbrev pub OneProcessor : Type 0
OneProcessor = Stands (layout_spec 8 1 (from 0 1 ∷ [])) (record { unit_pages = 8; atom = 1; groups = laid 0 8 ∷ []; units = 0 ∷ [] })

-- four units in an allocation waste 2 of 6 processors' units, and two would take more allocations
abbrev pub SixShareTwoAllocations : Type 0
SixShareTwoAllocations = Stands (layout_spec 8 32 (from 0 6 ∷ [])) (record { unit_pages = 8; atom = 32; groups = laid 0 64 ∷ []; units = 0 ∷ 8 ∷ 16 ∷ 24 ∷ 32 ∷ 40 ∷ [] })

-- four units in an allocation would waste 3 for 5 processors, and two waste one
abbrev pub FiveShareThreeAllocations : Type 0
FiveShareThreeAllocations = Stands (layout_spec 8 32 (from 0 5 ∷ [])) (record { unit_pages = 16; atom = 32; groups = laid 0 96 ∷ []; units = 0 ∷ 16 ∷ 32 ∷ 48 ∷ 64 ∷ [] })

abbrev pub TwoGroups : Type 0
TwoGroups = Stands (layout_spec 8 1 (from 0 1 ∷ from 16 1 ∷ [])) (record { unit_pages = 8; atom = 1; groups = laid 0 8 ∷ laid 16 8 ∷ []; units = 0 ∷ 16 ∷ [] })

abbrev pub NoProcessor : Type 0
NoProcessor = refusal (layout_spec 8 1 (from 0 0 ∷ [])) ≡ Some (NoCpu 0)

abbrev pub NineGroups : Type 0
NineGroups = refusal (layout_spec 8 1 (from 0 1 ∷ from 8 1 ∷ from 16 1 ∷ from 24 1 ∷ from 32 1 ∷ from 40 1 ∷ from 48 1 ∷ from 56 1 ∷ from 64 1 ∷ [])) ≡ Some (TooManyGroups 9)

abbrev pub SharedPages : Type 0
SharedPages = refusal (layout_spec 8 1 (from 0 1 ∷ from 4 1 ∷ [])) ≡ Some (Overlap 0 1)

-- of two pairs that share pages, the one with the lower first group
abbrev pub TheFirstPair : Type 0
TheFirstPair = refusal (layout_spec 8 1 (from 0 1 ∷ from 40 1 ∷ from 20 1 ∷ from 27 1 ∷ from 41 1 ∷ [])) ≡ Some (Overlap 1 4)

abbrev pub AboveTheSpace : Type 0
AboveTheSpace = refusal (layout_spec 8 1 (from 0 1 ∷ from 1048570 1 ∷ [])) ≡ Some (TooWide 1048578)

-- Groups against which two reasons or more stand: the first one is told.

-- the ninth group has no processor
abbrev pub NoProcessorOfNine : Type 0
NoProcessorOfNine = refusal (layout_spec 8 1 (from 0 1 ∷ from 8 1 ∷ from 16 1 ∷ from 24 1 ∷ from 32 1 ∷ from 40 1 ∷ from 48 1 ∷ from 56 1 ∷ from 64 0 ∷ [])) ≡ Some (NoCpu 8)

abbrev pub NoProcessorAndSharedPages : Type 0
NoProcessorAndSharedPages = refusal (layout_spec 8 1 (from 0 1 ∷ from 4 1 ∷ from 64 0 ∷ [])) ≡ Some (NoCpu 2)

abbrev pub NineGroupsShare : Type 0
NineGroupsShare = refusal (layout_spec 8 1 (from 0 1 ∷ from 4 1 ∷ from 16 1 ∷ from 24 1 ∷ from 32 1 ∷ from 40 1 ∷ from 48 1 ∷ from 56 1 ∷ from 64 1 ∷ [])) ≡ Some (TooManyGroups 9)

abbrev pub NineGroupsAboveTheSpace : Type 0
NineGroupsAboveTheSpace = refusal (layout_spec 8 1 (from 0 1 ∷ from 8 1 ∷ from 16 1 ∷ from 24 1 ∷ from 32 1 ∷ from 40 1 ∷ from 48 1 ∷ from 56 1 ∷ from 1048576 1 ∷ [])) ≡ Some (TooManyGroups 9)

abbrev pub SharedAboveTheSpace : Type 0
SharedAboveTheSpace = refusal (layout_spec 8 1 (from 0 1 ∷ from 1048570 1 ∷ from 1048571 1 ∷ [])) ≡ Some (Overlap 1 2)

-- a group without a processor, nine groups, shared pages, and an end above the space
abbrev pub FirstOfFour : Type 0
FirstOfFour = refusal (layout_spec 8 1 (from 0 1 ∷ from 4 1 ∷ from 16 1 ∷ from 24 1 ∷ from 32 1 ∷ from 40 1 ∷ from 48 1 ∷ from 56 0 ∷ from 1048576 1 ∷ [])) ≡ Some (NoCpu 7)
