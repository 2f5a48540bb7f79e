-- Stale pages, as flags by page, and how many of them are set by 64 pages and by 4,096.
use Rattle.std.specs.Prelude.{◌≡◌, ℕ, ◌+◌, ◌-◌, ◌*◌, ◌/◌, Bool, false, List, length, take, drop, count_by, slice_index_or, Option, Some, None}

-- whether the page has a flag that is set
abbrev pub is_set : Option Bool → Bool
is_set None = false
is_set (Some b) = b

-- how many flags are set
abbrev pub set_count : List Bool → ℕ
set_count flags = count_by (λ b. b) flags

-- how many flags of a group are set, where each group has so many pages
unfoldable pub set_in : (size group : ℕ) → List Bool → ℕ
set_in size group flags = set_count (take size (drop (size * group) flags))

-- each group of so many pages has its count
pub record AreCountedBy (size : ℕ) (flags : List Bool) (counts : List ℕ) : Type 0 where
  pub groups : length counts ≡ (length flags + (size - 1)) / size
  pub each : (group : ℕ) → slice_index_or counts group 0 ≡ set_in size group flags

-- the flags that are set are counted: all of them, those of each 64 pages and those of each 4,096
pub record AreCounted (flags : List Bool) (groups clusters : List ℕ) (count : ℕ) : Type 0 where
  pub all : count ≡ set_count flags
  pub by_group : AreCountedBy 64 flags groups
  pub by_cluster : AreCountedBy 4096 flags clusters
