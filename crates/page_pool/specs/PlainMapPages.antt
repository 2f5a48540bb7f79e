-- The pages of the plain map, and what its sections do to them.
use Rattle.std.specs.Prelude.{◌≡◌, ℕ, ◌+◌, ◌*◌, List, [], ◌∷◌, length, slice_index, ℤ}
use Rattle.vm_model.specs.declared.areas.Span.{Span}
use Rattle.vm_model.specs.Setup.{Setup}
use Rattle.vm_model.specs.PlainMap.{PlainMap, at_first}
use Rattle.vm_model.specs.Frames.{free_frames}
use Rattle.vm_model.specs.Chunks.{ObjectAt}
use Rattle.vm_model.specs.Legal as legal
use Rattle.vm_model.specs.Events.{MapPages, Populate, Fill, Unmap, Depopulate, Flush, Zero, AddWord}
use Rattle.vm_model.specs.Effects.{effect_as}
use Rattle.page_pool.specs.PageMap.{Pages, free_of, first_pages, with_mapped, with_unmapped, with_flushed}
use Rattle.page_pool.specs.Units.{pages_at, bytes_at, with_frames_for, without_frames_for, with_zeroed, with_added, sum_of}

-- the pages of a map
abbrev pub pages_in : PlainMap → Pages
pages_in m = record { frames = m.frames; stale = m.stale; cells = m.cells }

-- the map has 1,024 cells for each frame of the machine
abbrev pub HasCells : Setup → PlainMap → Type 0
HasCells c m = length m.cells ≡ 1024 * c.frames

abbrev pub BeginsAsTheMap : Type 0
BeginsAsTheMap = (c : Setup) (room : ℕ) → first_pages c.space c.frames ≡ pages_in (at_first c room)

abbrev pub FreeAreFreeFrames : Type 0
FreeAreFreeFrames = (c : Setup) (m : PlainMap) → HasCells c m → free_of (pages_in m) ≡ free_frames c m.frames

abbrev pub MapsAsTheSection : Type 0
MapsAsTheSection = (c : Setup) (m : PlainMap) (caller : ℕ) (s : Span) → HasCells c m → with_mapped s (pages_in m) ≡ pages_in (effect_as c m caller (MapPages s))

abbrev pub UnmapsAsTheSection : Type 0
UnmapsAsTheSection = (c : Setup) (m : PlainMap) (caller : ℕ) (s : Span) → with_unmapped s (pages_in m) ≡ pages_in (effect_as c m caller (Unmap s))

abbrev pub FlushesAsTheSection : Type 0
FlushesAsTheSection = (c : Setup) (m : PlainMap) (caller : ℕ) (s : Span) → with_flushed s (pages_in m) ≡ pages_in (effect_as c m caller (Flush s))

-- a population maps pages in the units of all processors, and then makes the words of the object 0
abbrev pub PopulatesAsTheSection : Type 0
PopulatesAsTheSection = (c : Setup) (m : PlainMap) (caller : ℕ) (at : ObjectAt) (missing : List ℕ) → HasCells c m
    → with_zeroed at.base c.units at.off at.bytes (with_frames_for (pages_at at.base c.units missing) (pages_in m)) ≡ pages_in (effect_as c m caller (Populate at missing))

abbrev pub FillsAsTheSection : Type 0
FillsAsTheSection = (c : Setup) (m : PlainMap) (caller base page : ℕ) → HasCells c m → with_frames_for (pages_at base c.units (page ∷ [])) (pages_in m) ≡ pages_in (effect_as c m caller (Fill base page))

abbrev pub DepopulatesAsTheSection : Type 0
DepopulatesAsTheSection = (c : Setup) (m : PlainMap) (caller base : ℕ) (pages : List ℕ) → without_frames_for (pages_at base c.units pages) (pages_in m) ≡ pages_in (effect_as c m caller (Depopulate base pages))

abbrev pub ZeroesAsTheSection : Type 0
ZeroesAsTheSection = (c : Setup) (m : PlainMap) (caller : ℕ) (at : ObjectAt) → with_zeroed at.base c.units at.off at.bytes (pages_in m) ≡ pages_in (effect_as c m caller (Zero at))

-- a word of an object is one at an offset of a unit, and so are the words of the same index
abbrev pub AddsAsTheSection : Type 0
AddsAsTheSection = (c : Setup) (m : PlainMap) (caller : ℕ) (at : ObjectAt) (serial cpu index : ℕ) (amount : ℤ)
    → with_added (4096 * (at.base + slice_index c.units cpu) + (at.off + 4 * index)) amount (pages_in m) ≡ pages_in (effect_as c m caller (AddWord at serial cpu index amount))

abbrev pub SumsAsTheSection : Type 0
SumsAsTheSection = (c : Setup) (m : PlainMap) (at : ObjectAt) (index : ℕ) → sum_of (pages_in m) (bytes_at at.base c.units (at.off + 4 * index)) ≡ legal.sum_of c m at index
