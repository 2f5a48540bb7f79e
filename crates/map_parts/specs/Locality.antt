-- A section reads and changes the region that its ask names, and no other.
use Rattle.std.specs.Prelude.{◌≡◌, ℕ, ◌<◌, false, List, map, length, Some, IfSome, slice_get, slice_set}
use Rattle.vm_model.specs.declared.areas.Span.{Span}
use Rattle.vm_model.specs.Space.{is_free_at}
use Rattle.vm_model.specs.Setup.{Setup, cpus}
use Rattle.vm_model.specs.PlainMap.{PlainMap, Block, taken}
use Rattle.vm_model.specs.Areas.{named_areas, areas_starting, spans_of}
use Rattle.vm_model.specs.Blocks.{is_spent}
use Rattle.vm_model.specs.Legal.{OnEach}
use Rattle.vm_model.specs.Effects.{effect_as}
use Rattle.vm_model.specs.Places.{Ask, AskSettle, AskRemove, AskUnlink, AskWait, AskTakeWaiting, AskPart, AskAddBlock, AskSettlePart, AskBegin, AskRetire, AskFragment, AskDirty}
use Rattle.vm_model.specs.Given.{can_move, given}
use Rattle.vm_model.specs.Parts.{Region, regions_of, map_with, region_in, number_of}

-- no page of the spans is free
abbrev pub AreTaken : PlainMap → List Span → Type 0
AreTaken m spans = OnEach spans (λ page. is_free_at (taken m) page ≡ false)

-- a block that begins at this page is one of the processor's
abbrev pub IsOfCpu : (start cpu : ℕ) → List Block → Type 0
IsOfCpu start cpu blocks = (i : ℕ) (b : Block) → slice_get blocks i ≡ Some b → b.start ≡ start → b.cpu ≡ cpu

-- the map falls apart into its regions: there is a mark for each page and a next serial for each processor, no block is spent, and blocks of two processors begin at different pages
pub record FallsApart (c : Setup) (m : PlainMap) : Type 0 where
  pub marks : length m.marks ≡ c.space
  pub next_parts : length m.next_part ≡ cpus c
  pub unspent : (i : ℕ) (b : Block) → slice_get m.blocks i ≡ Some b → is_spent c b ≡ false
  pub own_starts : (i : ℕ) (b : Block) → slice_get m.blocks i ≡ Some b → IsOfCpu b.start b.cpu m.blocks

-- the pages that an ask outside of the free ones names aren't free, its processor is there, and its part is in a block of that processor
abbrev pub StaysWithin : Setup → PlainMap → Ask → Type 0
StaysWithin c m (AskSettle areas) = AreTaken m (map (λ a. a.0) areas)
StaysWithin c m (AskRemove start serial) = AreTaken m (spans_of (named_areas start serial m.areas))
StaysWithin c m (AskUnlink starts) = AreTaken m (spans_of (areas_starting starts m.areas))
StaysWithin c m (AskWait spans) = AreTaken m spans
StaysWithin c m AskTakeWaiting = AreTaken m m.waiting
StaysWithin c m (AskPart cpu pages) = cpu < cpus c
StaysWithin c m (AskAddBlock at) = at.cpu < cpus c
StaysWithin c m (AskSettlePart at) = (at.cpu < cpus c) × IsOfCpu at.block at.cpu m.blocks
StaysWithin c m (AskBegin cpu page serial) = cpu < cpus c
StaysWithin c m (AskRetire at) = (at.cpu < cpus c) × IsOfCpu at.block at.cpu m.blocks
StaysWithin c m (AskFragment cpu) = cpu < cpus c
StaysWithin c m (AskDirty cpu) = cpu < cpus c
StaysWithin c m _ = Unit {0}

-- over that region alone the ask moves alike and gets the same section, and the section leaves there what it leaves in the map, and all other regions as they were
pub record IsOverOneRegion (c : Setup) (m : PlainMap) (caller : ℕ) (a : Ask) (number : ℕ) : Type 0 where
  pub region : Region
  pub here : slice_get (regions_of c m) number ≡ Some region
  pub moves_alike : can_move (map_with c region) a ≡ can_move m a
  pub gives_alike : given c (map_with c region) a ≡ given c m a
  pub leaves_alike : IfSome (given c m a) (λ s. regions_of c (effect_as c m caller s) ≡ slice_set (regions_of c m) number (region_in (effect_as c (map_with c region) caller s) region))

abbrev pub SectionsAreOverOneRegion : Type 0
SectionsAreOverOneRegion = (c : Setup) (m : PlainMap) (caller : ℕ) (a : Ask) (number : ℕ) → FallsApart c m → StaysWithin c m a → number_of a ≡ Some number → IsOverOneRegion c m caller a number
