-- The ranges of the numbers that a layout is asked for.
use Rattle.std.specs.Prelude.{◌≡◌, ℕ, ◌%◌, ◌^◌, ◌<◌, ◌≤◌, length, slice_get, Some, All}
use Rattle.vm_model.specs.Rules.{IsPower}
use Rattle.unit_layout.specs.declared.request.GroupSpec.{GroupSpec}
use Rattle.unit_layout.specs.declared.request.LayoutSpec.{LayoutSpec}
use Rattle.unit_layout.specs.declared.division.Division.{Division}
use Rattle.unit_layout.specs.LayoutRule.{processors}

-- a group has at most 64 processors, and its offset is a number of at most ten digits
pub record IsGroupInRange (g : GroupSpec) : Type 0 where
  pub cpus : g.cpus ≤ 64
  pub offset : g.offset < 10 ^ 10

-- the group's offset is a multiple of the atom
abbrev pub IsAligned : (atom : ℕ) → GroupSpec → Type 0
IsAligned atom g = g.offset % atom ≡ 0

pub record IsInRange (s : LayoutSpec) : Type 0 where
  pub unit_low : 8 ≤ s.unit
  pub unit_high : s.unit ≤ 64
  pub atom : IsPower s.atom
  pub atom_high : s.atom ≤ 64
  pub some : 1 ≤ length s.groups
  pub groups : All IsGroupInRange s.groups
  pub aligned : All (IsAligned s.atom) s.groups
  pub first : (g : GroupSpec) → slice_get s.groups 0 ≡ Some g → g.offset ≡ 0
  pub processors : processors s.groups ≤ 64

-- an allocation has 1 to 8 units
pub record IsCount (units : ℕ) : Type 0 where
  pub low : 1 ≤ units
  pub high : units ≤ 8

-- an allocation has 1 to 8 units of at most 64 pages
pub record IsDivision (d : Division) : Type 0 where
  pub units : IsCount d.units
  pub pages : d.unit_pages ≤ 64
