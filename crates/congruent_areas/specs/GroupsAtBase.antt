-- The groups of a layout at a base, over free blocks.
use Rattle.std.specs.Prelude.{◌≡◌, ℕ, ◌+◌, ◌%◌, ◌≤◌, Bool, false, max, List, length, map, All, Option, IsSome}
use Rattle.vm_model.specs.declared.areas.Span.{Span}
use Rattle.vm_model.specs.Space.{span, end_of, covers}
use Rattle.vm_model.specs.Setup.{Setup, highest}
use Rattle.vm_model.specs.Rules.{AreDisjoint}
use Rattle.augmented_tree.specs.FreeBlocks.{FreeBlocks, AreFreeRuns, IsFree}
use Rattle.unit_layout.specs.declared.layout.Group.{Group}

-- where the groups lie in a chunk, and at a base
abbrev pub spans_of : List Group → List Span
spans_of groups = map (λ (g : Group). span g.offset g.pages) groups

abbrev pub span_at : ℕ → Group → Span
span_at base g = span (base + g.offset) g.pages

abbrev pub spans_at : ℕ → List Group → List Span
spans_at base groups = map (span_at base) groups

-- groups as each layout has them: 1 to 8, with pages, in the largest space and apart
pub record AreLaidOut (groups : List Group) : Type 0 where
  pub some : 1 ≤ length groups
  pub few : length groups ≤ 8
  pub pages : All (λ (g : Group). 1 ≤ g.pages) groups
  pub within : All (λ (g : Group). g.offset + g.pages ≤ 1048576) groups
  pub apart : AreDisjoint (spans_of groups)

-- the chunks of a machine have these groups, and their bases this alignment
pub record HasGroups (c : Setup) (laid : List Group) (align : ℕ) : Type 0 where
  pub groups : c.groups ≡ spans_of laid
  pub atom : c.atom ≡ align

-- the base is a multiple of the alignment, and each group's span there is free
pub record IsBase (blocks : List Span) (groups : List Group) (align base : ℕ) : Type 0 where
  pub aligned : base % align ≡ 0
  pub free : All (λ (g : Group). IsFree blocks (span_at base g)) groups

-- there is a base
abbrev pub HasBase : List Span → List Group → (align : ℕ) → Type 0
HasBase blocks groups align = (base : ℕ) × IsBase blocks groups align base

-- the number is a base, and no greater one is
pub record IsGreatestBase (blocks : List Span) (groups : List Group) (align base : ℕ) : Type 0 where
  pub is_base : IsBase blocks groups align base
  pub greatest : (b : ℕ) → IsBase blocks groups align b → b ≤ base

-- what the plain map finds for each machine with these groups
abbrev pub IsBaseOfTheMap : FreeBlocks → List Group → (align : ℕ) → Option ℕ → Type 0
IsBaseOfTheMap side groups align found = (c : Setup) (taken : List Bool) → HasGroups c groups align → AreFreeRuns side taken → found ≡ highest c taken

-- the plain map finds a base for each machine with these groups
abbrev pub HasBaseOfTheMap : FreeBlocks → List Group → (align : ℕ) → Type 0
HasBaseOfTheMap side groups align = (c : Setup) (taken : List Bool) → HasGroups c groups align → AreFreeRuns side taken → IsSome (highest c taken)

-- the pages of a block are free, it begins at a page or before, and from its end up to that page nothing is free
pub record IsLastUpTo (blocks : List Span) (page : ℕ) (block : Span) : Type 0 where
  pub free : IsFree blocks block
  pub from : block.start ≤ page
  pub end : end_of block ≤ 1048576
  pub behind : (p : ℕ) → end_of block ≤ p → p ≤ max page (end_of block) → covers blocks p ≡ false
