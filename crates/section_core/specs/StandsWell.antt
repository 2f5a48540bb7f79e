-- What a section asks of its caller: a call at hand, an event to spare, and that what the place carries stands well in the region.
use Rattle.std.specs.Prelude.{◌+◌, ◌*◌, ◌≤◌, ◌<◌, ◌^◌, ◌≡◌, ◌++◌, ℕ, Bool, true, false, All, List, length, slice_get, Some, ℤ}
use Rattle.vm_model.specs.declared.areas.Span.{Span}
use Rattle.vm_model.specs.declared.areas.Area.{Area}
use Rattle.vm_model.specs.Space.{HasEnd, span, end_of, holds, covers, runs, times}
use Rattle.vm_model.specs.Setup.{Setup, cpus, groups_at}
use Rattle.vm_model.specs.Areas.{mapped_part}
use Rattle.vm_model.specs.Blocks.{first_page, mapped_pages, blocks_of, dirty_hull}
use Rattle.vm_model.specs.Places.{Place, MappingArea, SettlingArea, Dropping, UnmappingArea, Waiting, PurgeFragmenting, PurgeWaiting, PurgeFlushing, PurgeReturning, CuttingPart, SettlingBlock, AddingBlock, MappingPart, SettlingPart, BeginningUnmap, UnmappingPart, Retiring, LookingAtDirty, Adding, UnlinkingGroups, block_spans}
use Rattle.vm_model.specs.PlainMap.{Chunk}
use Rattle.vm_model.specs.History.{Local}
use Rattle.vm_model.specs.Parts.{Region, FreeRuns, LiveAreas, WaitingSpans, CpuBlocks, moves}
use Rattle.vm_model.specs.Parts as parts
use Rattle.busy_areas.specs.KeptAreas.{IsUnused}
use Rattle.lazy_purge.specs.WaitingSet.{HasPage}
use Rattle.map_blocks.specs.BlockRows.{BlockRows, IsHeld}
use Rattle.map_blocks.specs.BlockRows.{IsUnused as IsNoBlocks}
use Rattle.page_pool.specs.PageMap.{Pages, IsBare, IsMapped}
use Rattle.chunk_slots.specs.ChunkRegion.{AreOfUnits}
use Rattle.section_laws.specs.Needs.{AreAreasReady, ArePagesReady, IsPercpuReady}
use Rattle.section_laws.specs.WordBounds.{IsWithin, most_amount, most_word}
use Rattle.callers.specs.declared.place.Place.{Place as Code}
use Rattle.callers.specs.CarriedPlaces.{place_of, carried_at}
use Rattle.callers.specs.CallerParts.{IsAt}

-- the blocks are the free runs of the space
abbrev pub AreRunsOf : Setup → List Span → Type 0
AreRunsOf c blocks = (taken : List Bool) × (length taken ≡ c.space) × (blocks ≡ runs taken)

-- what is dropped lies in the space, and none of its pages is free
pub record IsDroppable (c : Setup) (s : Span) (blocks : List Span) : Type 0 where
  pub within : end_of s ≤ c.space
  pub taken : (page : ℕ) → holds s page ≡ true → covers blocks page ≡ false

abbrev pub IsDroppedWell : Setup → Place → List Span → Type 0
IsDroppedWell c (Dropping s) blocks = IsDroppable c s blocks
IsDroppedWell c _ blocks = Unit {0}

-- what is to be mapped lies in the space, and is bare
pub record IsMappable (s : Span) (p : Pages) : Type 0 where
  pub inside : end_of s ≤ length p.frames
  pub bare : (page : ℕ) → holds s page ≡ true → IsBare p page

abbrev pub IsMappedWell : Place → Pages → Type 0
IsMappedWell (MappingArea s k) p = IsMappable (mapped_part k s) p
IsMappedWell (MappingPart at) p = IsMappable (mapped_pages at) p
IsMappedWell _ p = Unit {0}

-- what is to be unmapped lies in the space, and is mapped
pub record IsUnmappable (s : Span) (p : Pages) : Type 0 where
  pub inside : end_of s ≤ length p.frames
  pub mapped : (page : ℕ) → holds s page ≡ true → IsMapped p page

abbrev pub IsUnmappedWell : Place → Pages → Type 0
IsUnmappedWell (UnmappingArea a) p = HasPage a.span × IsUnmappable (mapped_part a.kind a.span) p
IsUnmappedWell (UnmappingPart at) p = IsUnmappable (mapped_pages at) p
IsUnmappedWell _ p = Unit {0}

-- what is flushed lies in the space
abbrev pub IsFlushedWell : Place → Pages → Type 0
IsFlushedWell (PurgeFlushing hull waited after) p = end_of hull ≤ length p.frames
IsFlushedWell _ p = Unit {0}

-- no page is twice among what is returned, none of them is free, and all lie in the space
pub record AreReturnable (c : Setup) (spans : List Span) (blocks : List Span) : Type 0 where
  pub within : All (λ (s : Span). end_of s ≤ c.space) spans
  pub disjoint : (page : ℕ) → times page spans ≤ 1
  pub taken : (page : ℕ) → covers spans page ≡ true → covers blocks page ≡ false

abbrev pub AreReturnedWell : Setup → Place → List Span → Type 0
AreReturnedWell c (PurgeReturning waited after) blocks = AreReturnable c waited blocks
AreReturnedWell c _ blocks = Unit {0}

-- spans of the largest space, which share no page with each other or with those that wait
pub record CanWait (spans waiting : List Span) : Type 0 where
  pub some : All HasPage spans
  pub ends : All HasEnd spans
  pub disjoint : (page : ℕ) → times page (waiting ++ spans) ≤ 1

abbrev pub IsWaitingWell : Setup → Place → List Span → Type 0
IsWaitingWell c (Waiting spans after) waiting = CanWait spans waiting
IsWaitingWell c (PurgeWaiting gone extra after) waiting = CanWait (block_spans c gone) waiting
IsWaitingWell c _ waiting = Unit {0}

-- no live area has a page of what is settled
abbrev pub IsSettledWell : Place → List Area → Type 0
IsSettledWell (SettlingArea s k) areas = IsUnused areas s
IsSettledWell (SettlingBlock s cpu pages) areas = IsUnused areas s
IsSettledWell _ areas = Unit {0}

-- the groups that are unlinked lie in the largest space
abbrev pub AreUnlinkedWell : Setup → Place → Type 0
AreUnlinkedWell c (UnlinkingGroups base) = All HasEnd (groups_at c base)
AreUnlinkedWell c _ = Unit {0}

-- a processor's blocks have the pages that the header names, and none of another processor is among them
pub record AreOwn (c : Setup) (side : BlockRows) : Type 0 where
  pub cpu : side.cpu < cpus c
  pub pages : side.pages ≡ c.block_pages
  pub own : blocks_of side.cpu side.blocks ≡ side.blocks
  pub next : side.next + 1 < 2 ^ 32

-- a part fits in a block, a new block's pages are in none, a part is in the caller's hand, and it and what is dirty lie in the space
abbrev pub IsBlocksWell : Setup → Place → BlockRows → Type 0
IsBlocksWell c (CuttingPart cpu pages) side = pages ≤ c.block_pages
IsBlocksWell c (AddingBlock at) side = (at.pages ≤ c.block_pages) × (at.block + c.block_pages ≤ 1048576) × IsNoBlocks side (span at.block c.block_pages)
IsBlocksWell c (SettlingPart at) side = IsHeld at side.blocks × (first_page at < 1048576)
IsBlocksWell c (Retiring at reply) side = IsHeld at side.blocks
IsBlocksWell c (LookingAtDirty cpu ranges) side = (hull : Span) → dirty_hull side.cpu side.blocks ≡ Some hull → end_of hull ≤ c.space
IsBlocksWell c _ side = Unit {0}

-- a place that wants a processor's blocks wants those of this one
abbrev pub IsOfProcessor : Place → (cpu : ℕ) → Type 0
IsOfProcessor (PurgeFragmenting own gone extra after) cpu = own ≡ cpu
IsOfProcessor (CuttingPart own pages) cpu = own ≡ cpu
IsOfProcessor (AddingBlock at) cpu = at.cpu ≡ cpu
IsOfProcessor (SettlingPart at) cpu = at.cpu ≡ cpu
IsOfProcessor (BeginningUnmap own page serial) cpu = own ≡ cpu
IsOfProcessor (Retiring at reply) cpu = at.cpu ≡ cpu
IsOfProcessor (LookingAtDirty own ranges) cpu = own ≡ cpu
IsOfProcessor _ cpu = Unit {0}

-- no word, and no amount that is added, is more than all adds of a trace come to
abbrev pub IsAmountWell : Place → Type 0
IsAmountWell (Adding at serial cpu index amount) = IsWithin most_amount amount
IsAmountWell _ = Unit {0}

pub record AreSmallSums (p : Place) (cells : List ℤ) : Type 0 where
  pub words : (i : ℕ) (z : ℤ) → slice_get cells i ≡ Some z → IsWithin most_word z
  pub amount : IsAmountWell p

-- the same by region
pub record StandsOverFree (c : Setup) (p : Place) (blocks : List Span) : Type 0 where
  pub runs : AreRunsOf c blocks
  pub dropped : IsDroppedWell c p blocks
  pub returned : AreReturnedWell c p blocks

pub record StandsOverAreas (c : Setup) (p : Place) (areas : List Area) (next : ℕ) : Type 0 where
  pub settled : IsSettledWell p areas
  pub unlinked : AreUnlinkedWell c p
  pub ready : AreAreasReady c p areas next
  pub serials : next + 1 < 2 ^ 32

pub record StandsOverPages (c : Setup) (p : Place) (pages : Pages) : Type 0 where
  pub mapped : IsMappedWell p pages
  pub unmapped : IsUnmappedWell p pages
  pub flushed : IsFlushedWell p pages
  pub ready : ArePagesReady c p pages.frames pages.stale
  pub small : AreSmallSums p pages.cells
  pub wide : length pages.frames ≡ c.space
  pub memory : length pages.cells ≡ 1024 * c.frames

-- chunks have the pages of the units, and there are serials and numbers left
pub record StandsOverChunks (c : Setup) (caller : ℕ) (p : Place) (chunks : List Chunk) (next_object next_chunk room : ℕ) : Type 0 where
  pub ready : IsPercpuReady c caller p chunks next_object next_chunk room
  pub units : AreOfUnits c.unit_pages chunks
  pub objects : next_object + 1 < 2 ^ 32
  pub numbers : next_chunk + 1 < 2 ^ 32

pub record StandsOverBlocks (c : Setup) (p : Place) (side : BlockRows) : Type 0 where
  pub own : AreOwn c side
  pub cpu : IsOfProcessor p side.cpu
  pub well : IsBlocksWell c p side

-- what a caller's place carries stands well in the region
abbrev pub StandsWell : Setup → (caller : ℕ) → Place → Region → Type 0
StandsWell c k p (FreeRuns blocks) = StandsOverFree c p blocks
StandsWell c k p (LiveAreas areas next) = StandsOverAreas c p areas next
StandsWell c k p (WaitingSpans waiting) = IsWaitingWell c p waiting
StandsWell c k p (parts.Pages frames stale cells) = StandsOverPages c p (record { frames = frames; stale = stale; cells = cells })
StandsWell c k p (parts.Percpu chunks next_object next_chunk room) = StandsOverChunks c k p chunks next_object next_chunk room
StandsWell c k p (CpuBlocks cpu pages blocks next) = StandsOverBlocks c p (record { cpu = cpu; pages = pages; blocks = blocks; next = next })
StandsWell c k p _ = Unit {0}

-- a caller at this place can make its section over this region
pub record CanMake (p : Code) (l : Local) (r : Region) : Type 0 where
  pub at : IsAt p l
  pub at_hand : length l.answers < length l.calls
  pub events : l.events + 1 < 2 ^ 32
  pub moves : moves l r ≡ true
  pub stands : StandsWell l.setup l.caller (place_of p (carried_at l.place)) r
