-- The rule of the layout: how units share allocations, and where the units of a group lie. All sizes are in pages.
use Rattle.std.specs.Prelude.{ℕ, zero, suc, ◌+◌, ◌-◌, ◌*◌, ◌/◌, ◌%◌, nat_lt, nat_le, ◌==◌, if◌then◌else◌, List, [], ◌∷◌, map, filter, flat_map, sum_by, Option, Some, None}
use Rattle.std.specs.Int.{div_ceil}
use Rattle.vm_model.specs.declared.areas.Span.{Span}
use Rattle.vm_model.specs.Setup.{Setup}
use Rattle.vm_model.specs.Space.{span, count_from}
use Rattle.unit_layout.specs.declared.request.GroupSpec.{GroupSpec}
use Rattle.unit_layout.specs.declared.request.LayoutSpec.{LayoutSpec}
use Rattle.unit_layout.specs.declared.division.Division.{Division}
use Rattle.unit_layout.specs.declared.layout.Group.{Group}

-- how many processors the groups have together
abbrev pub processors : List GroupSpec → ℕ
processors groups = sum_by (λ (g : GroupSpec). g.cpus) groups

-- an allocation is the unit that is asked for, rounded up to a multiple of the atom
abbrev pub allocation : (unit atom : ℕ) → ℕ
allocation unit atom = atom * div_ceil unit atom

-- so many numbers down to 1
abbrev pub down_to_one : ℕ → List ℕ
down_to_one zero = []
down_to_one (suc n) = suc n ∷ down_to_one n

-- the candidates for the number of units in an allocation: from as many as it has room for down, those that divide it
abbrev pub candidates : (pages unit : ℕ) → List ℕ
candidates pages unit = filter (λ k. pages % k == 0) (down_to_one (pages / unit))

-- how many allocations the groups take together, at so many units in each
abbrev pub allocations : List GroupSpec → ℕ → ℕ
allocations groups k = sum_by (λ (g : GroupSpec). div_ceil g.cpus k) groups

-- how many units of those allocations no processor has
abbrev pub wasted : List GroupSpec → ℕ → ℕ
wasted groups k = k * allocations groups k - processors groups

-- a candidate that wastes more than a third of the processors is passed over
abbrev pub kept : List GroupSpec → List ℕ → List ℕ
kept groups ks = filter (λ k. nat_le (wasted groups k) (processors groups / 3)) ks

-- each candidate takes the place of the one before it, and the first that takes more allocations ends the search
abbrev pub taken_after : List GroupSpec → (taken : ℕ) → List ℕ → ℕ
taken_after groups taken [] = taken
taken_after groups taken (k ∷ more) = if nat_lt (allocations groups taken) (allocations groups k) then taken else taken_after groups k more

-- the first candidate is taken; with no candidate there would be one unit in an allocation
abbrev pub taken_from : List GroupSpec → (taken : Option ℕ) → List ℕ → ℕ
taken_from groups (Some taken) more = taken_after groups taken more
taken_from groups None [] = 1
taken_from groups None (k ∷ more) = taken_after groups k more

-- how many units an allocation of so many pages has
abbrev pub units_in : List GroupSpec → (pages unit : ℕ) → ℕ
units_in groups pages unit = taken_from groups None (kept groups (candidates pages unit))

-- an allocation's pages are parted among its units
abbrev pub parted : (pages units : ℕ) → Division
parted pages units = record { units = units; unit_pages = pages / units }

abbrev pub division_of : LayoutSpec → Division
division_of s = parted (allocation s.unit s.atom) (units_in s.groups (allocation s.unit s.atom) s.unit)

-- a group has the units of as many allocations as hold its processors, and so many pages
abbrev pub pages_of_group : Division → GroupSpec → ℕ
pages_of_group d g = d.unit_pages * (d.units * div_ceil g.cpus d.units)

-- from its offset on
abbrev pub span_of : Division → GroupSpec → Span
span_of d g = span g.offset (pages_of_group d g)

abbrev pub group_of : Division → GroupSpec → Group
group_of d g = record { offset = g.offset; pages = pages_of_group d g }

-- the units of a group's processors begin one after another from the group's offset on
abbrev pub units_of : Division → GroupSpec → List ℕ
units_of d g = map (λ i. g.offset + i * d.unit_pages) (count_from g.cpus 0)

-- the numbers of a layout: pages of a unit and of the base's alignment, the groups, and each processor's unit
pub record Numbers : Type 0 where
  pub unit_pages : ℕ
  pub atom : ℕ
  pub groups : List Group
  pub units : List ℕ

abbrev pub layout_of : LayoutSpec → Numbers
layout_of s = record {
  unit_pages = (division_of s).unit_pages;
  atom = s.atom;
  groups = map (group_of (division_of s)) s.groups;
  units = flat_map (units_of (division_of s)) s.groups;
}

-- the machine with the numbers of a layout
abbrev pub with_layout : Numbers → Setup → Setup
with_layout n c = record c {
  unit_pages = n.unit_pages;
  atom = n.atom;
  groups = map (λ (g : Group). span g.offset g.pages) n.groups;
  units = n.units;
}
