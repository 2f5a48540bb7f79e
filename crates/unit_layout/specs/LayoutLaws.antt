-- What holds of each layout that isn't refused.
use Rattle.std.specs.Prelude.{ℕ, ◌+◌, ◌<◌, ◌⊎◌, true, List, take, Some, slice_get, ◌≡◌, ◌≤◌, None}
use Rattle.vm_model.specs.Space.{holds}
use Rattle.vm_model.specs.Setup.{Setup}
use Rattle.vm_model.specs.Rules.{AreApart, IsPower, AreGroups, AreUnits}
use Rattle.unit_layout.specs.declared.errors.LayoutError.TheVariants.{Overlap}
use Rattle.unit_layout.specs.declared.layout.Group.{Group}
use Rattle.unit_layout.specs.declared.request.GroupSpec.{GroupSpec}
use Rattle.unit_layout.specs.declared.request.LayoutSpec.{LayoutSpec}
use Rattle.unit_layout.specs.LayoutRule.{Numbers, processors, division_of, span_of, layout_of, with_layout}
use Rattle.unit_layout.specs.NumberRanges.{IsInRange}
use Rattle.unit_layout.specs.Refusals.{refusal}

-- a machine's layout is in its ranges: its groups are apart, and each processor has a unit of its own in one of them
pub record IsLaidOut (c : Setup) : Type 0 where
  pub unit_low : 8 ≤ c.unit_pages
  pub unit_high : c.unit_pages ≤ 64
  pub atom : IsPower c.atom
  pub atom_high : c.atom ≤ 64
  pub groups : AreGroups c
  pub units : AreUnits c

abbrev pub LayoutsStand : Type 0
LayoutsStand = (s : LayoutSpec) (c : Setup) → IsInRange s → refusal s ≡ None → IsLaidOut (with_layout (layout_of s) c)

-- processors are numbered group by group: those of a group follow those of the groups before it
abbrev pub first_processor : List GroupSpec → ℕ → ℕ
first_processor groups i = processors (take i groups)

-- the whole unit of a processor lies in the pages of a group
pub record HasUnitIn (layout : Numbers) (cpu i : ℕ) : Type 0 where
  pub group : Group
  pub unit : ℕ
  pub is_group : slice_get layout.groups i ≡ Some group
  pub is_unit : slice_get layout.units cpu ≡ Some unit
  pub low : group.offset ≤ unit
  pub high : unit + layout.unit_pages ≤ group.offset + group.pages

abbrev pub UnitsLieInTheirGroup : Type 0
UnitsLieInTheirGroup = (s : LayoutSpec) → IsInRange s → refusal s ≡ None → (i k : ℕ) (g : GroupSpec) → slice_get s.groups i ≡ Some g → k < g.cpus → HasUnitIn (layout_of s) (first_processor s.groups i + k) i

-- a page is in the spans of two groups, and no two groups with a lower first, or the same first and a lower second, share one
pub record IsLeastOverlap (s : LayoutSpec) (i j : ℕ) : Type 0 where
  pub order : i < j
  pub one : GroupSpec
  pub other : GroupSpec
  pub first : slice_get s.groups i ≡ Some one
  pub second : slice_get s.groups j ≡ Some other
  pub page : ℕ
  pub in_one : holds (span_of (division_of s) one) page ≡ true
  pub in_other : holds (span_of (division_of s) other) page ≡ true
  pub before : (k l : ℕ) (x y : GroupSpec) → k < l → (k < i) ⊎ ((k ≡ i) × (l < j)) → slice_get s.groups k ≡ Some x → slice_get s.groups l ≡ Some y → AreApart (span_of (division_of s) x) (span_of (division_of s) y)

abbrev pub OverlapsAreTheLeast : Type 0
OverlapsAreTheLeast = (s : LayoutSpec) → IsInRange s → (i j : ℕ) → refusal s ≡ Some (Overlap i j) → IsLeastOverlap s i j
