-- What stands in one state of a run with a caller has what its section asks for.
use Rattle.std.specs.Prelude.{◌≡◌, ℕ, ◌+◌, ◌^◌, ◌<◌, Bool, List, length, slice_get, Option, Some, ℤ}
use Rattle.vm_model.specs.declared.areas.Span.{Span}
use Rattle.vm_model.specs.declared.areas.Area.{Area}
use Rattle.vm_model.specs.PlainMap.{Chunk}
use Rattle.vm_model.specs.History.{Local}
use Rattle.vm_model.specs.Parts.{LiveAreas, WaitingSpans, Pages, Percpu, wants}
use Rattle.vm_model.specs.Run.{StandTogether}
use Rattle.section_laws.specs.Lawful.{IsLawful}
use Rattle.section_laws.specs.Needs.{ArePagesReady, AreAreasReady, AreWaitsReady, IsPercpuReady}

abbrev pub PagesAreReady : Type 0
PagesAreReady = (l : Local) (frames : List (Option ℕ)) (stale : List Bool) (cells : List ℤ) → StandTogether wants IsLawful l (Pages frames stale cells) → ArePagesReady l.setup l.place frames stale

abbrev pub AreasAreReady : Type 0
AreasAreReady = (l : Local) (areas : List Area) (next : ℕ) → StandTogether wants IsLawful l (LiveAreas areas next) → AreAreasReady l.setup l.place areas next

abbrev pub WaitsAreReady : Type 0
WaitsAreReady = (l : Local) (waiting : List Span) → StandTogether wants IsLawful l (WaitingSpans waiting) → AreWaitsReady l.setup l.place waiting

abbrev pub PercpuIsReady : Type 0
PercpuIsReady = (l : Local) (chunks : List Chunk) (object chunk room : ℕ) → StandTogether wants IsLawful l (Percpu chunks object chunk room) → IsPercpuReady l.setup l.caller l.place chunks object chunk room

-- there are serials left for objects, and numbers for chunks
abbrev pub NumbersAreLeft : Type 0
NumbersAreLeft = (l : Local) (chunks : List Chunk) (object chunk room : ℕ) → StandTogether wants IsLawful l (Percpu chunks object chunk room) → (object + 1 < 2 ^ 32) × (chunk + 1 < 2 ^ 32)

-- each chunk tells of each page of a unit whether it is populated
abbrev pub ChunksHaveUnits : Type 0
ChunksHaveUnits = (l : Local) (chunks : List Chunk) (object chunk room : ℕ) → StandTogether wants IsLawful l (Percpu chunks object chunk room) → (i : ℕ) (h : Chunk) → slice_get chunks i ≡ Some h → length h.populated ≡ l.setup.unit_pages
