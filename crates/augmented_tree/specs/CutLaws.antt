-- The four ways of cutting a place out of a block: what stands where the block was.
use Rattle.std.specs.Prelude.{ℕ, ◌+◌, ◌-◌, ◌<◌, ◌≤◌, List, [], ◌∷◌, ◌++◌}
use Rattle.vm_model.specs.declared.areas.Span.{Span}
use Rattle.vm_model.specs.Space.{span, end_of, AreSeparateFrom}
use Rattle.augmented_tree.specs.BlockLists.{LeavesOut}

-- with these parts in the place of the block, its place is cut out of all blocks, whatever is before and behind it
abbrev pub Leaves : (block place : Span) → (parts : List Span) → Type 0
Leaves block place parts = (before behind : List Span) → AreSeparateFrom 0 (before ++ block ∷ behind) → LeavesOut (before ++ block ∷ behind) (before ++ (parts ++ behind)) place

abbrev pub WholeBlockLeavesNothing : Type 0
WholeBlockLeavesNothing = (b : Span) → Leaves b b []

abbrev pub LeftEdgeLeavesTheRest : Type 0
LeftEdgeLeavesTheRest = (b : Span) (pages : ℕ) → 1 ≤ pages → pages < b.pages → Leaves b (span b.start pages) (span (b.start + pages) (b.pages - pages) ∷ [])

abbrev pub RightEdgeLeavesTheRest : Type 0
RightEdgeLeavesTheRest = (b : Span) (pages : ℕ) → 1 ≤ pages → pages < b.pages → Leaves b (span (end_of b - pages) pages) (span b.start (b.pages - pages) ∷ [])

-- so many pages before the place stay, and those after it
abbrev pub MiddleLeavesTwo : Type 0
MiddleLeavesTwo = (b : Span) (before pages : ℕ) → 1 ≤ before → 1 ≤ pages → before + pages < b.pages
    → Leaves b (span (b.start + before) pages) (span b.start before ∷ span (b.start + before + pages) (b.pages - before - pages) ∷ [])
