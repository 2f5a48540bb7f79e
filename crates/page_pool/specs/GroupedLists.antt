-- Lists in groups of 128 elements, of which those that were never written share the elements of one.
use Rattle.std.specs.Prelude.{◌≡◌, ℕ, ◌+◌, ◌*◌, ◌/◌, ◌%◌, ◌^◌, ◌<◌, ◌≤◌, ◌==◌, Bool, List, length, map, count_by, slice_index_or}
use Rattle.vm_model.specs.Space.{count_from}

-- the element at a place, whose group has a number; those without one have 0
abbrev pub in_groups : {X : Type 0} → X → List ℕ → List X → ℕ → X
in_groups blank numbers written place = slice_index_or written (128 * slice_index_or numbers (place / 128) 0 + place % 128) blank

-- the list of so many elements
abbrev pub with_groups : {X : Type 0} → X → List ℕ → List X → ℕ → List X
with_groups blank numbers written n = map (in_groups blank numbers written) (count_from n 0)

abbrev pub is_unwritten : ℕ → Bool
is_unwritten number = number == 0

-- each group that was written has a number of its own, there is room for the others, and the elements of number 0 are blank
pub record AreGroups (X : Type 0) (blank : X) (numbers : List ℕ) (written : List X) (capacity : ℕ) : Type 0 where
  pub full : length written + 128 * count_by is_unwritten numbers ≡ 128 * (length numbers + 1)
  pub room : 128 * (length numbers + 1) ≤ capacity
  pub small : length numbers < 2 ^ 32
  pub within : (group : ℕ) → 128 * slice_index_or numbers group 0 + 128 ≤ length written
  pub apart : (group other : ℕ) → 0 < slice_index_or numbers group 0 → slice_index_or numbers group 0 ≡ slice_index_or numbers other 0 → group ≡ other
  pub unwritten : (place : ℕ) → place < 128 → slice_index_or written place blank ≡ blank

-- so many elements have their groups
pub record HasGroups (X : Type 0) (blank : X) (n : ℕ) (numbers : List ℕ) (written : List X) (capacity : ℕ) : Type 0 where
  pub groups : AreGroups X blank numbers written capacity
  pub places : n ≤ 128 * length numbers

-- a group has a number of its own, and no element has changed
pub record IsOwn (X : Type 0) (blank : X) (numbers : List ℕ) (written : List X) (new_numbers : List ℕ) (new_written : List X) (capacity group first : ℕ) : Type 0 where
  pub groups : AreGroups X blank new_numbers new_written capacity
  pub count : length new_numbers ≡ length numbers
  pub at : first ≡ 128 * slice_index_or new_numbers group 0
  pub own : 0 < slice_index_or new_numbers group 0
  pub same : (place : ℕ) → in_groups blank new_numbers new_written place ≡ in_groups blank numbers written place
