-- What the section of a caller may ask of the region that it wants, by the caller's place.
use Rattle.std.specs.Prelude.{◌≡◌, ℕ, suc, ◌+◌, ◌*◌, ◌^◌, ◌<◌, ◌≤◌, ◌⊎◌, true, false, Bool, List, [], ◌∷◌, ◌++◌, length, slice_get, Option, Some, None}
use Rattle.std.specs.List.{list_any}
use Rattle.vm_model.specs.declared.areas.Span.{Span}
use Rattle.vm_model.specs.declared.areas.Area.{Area}
use Rattle.vm_model.specs.Space.{end_of, covers, times, is_among}
use Rattle.vm_model.specs.Setup.{Setup, cpus, groups_at, pages_in_units}
use Rattle.vm_model.specs.PlainMap.{Chunk, Object, Life, InHand}
use Rattle.vm_model.specs.Areas.{spans_of, areas_at}
use Rattle.vm_model.specs.Chunks.{ObjectAt, object_pages, chunks_numbered, touches, find_object}
use Rattle.vm_model.specs.Legal.{OnPages}
use Rattle.vm_model.specs.Carried.{count_of}
use Rattle.vm_model.specs.Rules.{IsPower}
use Rattle.vm_model.specs.Places.{Place, Choosing, SettlingGroups, AddingChunk, Populating, SettlingObject, Unplacing, ChoosingAtomic, Zeroing, SettlingAtomic, Adding, Summing, Depopulating, UnlinkingGroups, Filling, NotingFilled, Waiting, PurgeWaiting, block_spans, group_starts}

-- Pages.

abbrev pub HasNoFrame : List (Option ℕ) → ℕ → Type 0
HasNoFrame frames page = slice_get frames page ≡ Some None

abbrev pub HasFrame : List (Option ℕ) → ℕ → Type 0
HasFrame frames page = (frame : ℕ) × (slice_get frames page ≡ Some (Some frame))

-- these pages of the space are bare, and each stands once
pub record CanGetFrames (c : Setup) (frames : List (Option ℕ)) (stale : List Bool) (pages : List ℕ) : Type 0 where
  pub once : (page : ℕ) → count_of page pages ≤ 1
  pub inside : OnPages pages (λ page. page < c.space)
  pub unmapped : OnPages pages (HasNoFrame frames)
  pub not_stale : OnPages pages (λ page. slice_get stale page ≡ Some false)

-- these pages of the space are mapped, and each stands once
pub record CanLoseFrames (c : Setup) (frames : List (Option ℕ)) (pages : List ℕ) : Type 0 where
  pub once : (page : ℕ) → count_of page pages ≤ 1
  pub inside : OnPages pages (λ page. page < c.space)
  pub mapped : OnPages pages (HasFrame frames)

-- an object is of whole words, and lies in the unit of each processor
pub record LiesInUnits (c : Setup) (at : ObjectAt) : Type 0 where
  pub bit : ℕ
  pub more : ℕ
  pub off : at.off ≡ 4 * bit
  pub bytes : at.bytes ≡ 4 * suc more
  pub within : at.off + at.bytes ≤ 4096 * c.unit_pages
  pub inside : OnPages (object_pages c at) (λ page. page < c.space)

-- its words can be reached
pub record IsReachable (c : Setup) (frames : List (Option ℕ)) (at : ObjectAt) : Type 0 where
  pub lies : LiesInUnits c at
  pub mapped : OnPages (object_pages c at) (HasFrame frames)

abbrev pub ArePagesReady : Setup → Place → (frames : List (Option ℕ)) → (stale : List Bool) → Type 0
ArePagesReady c (Populating at missing) frames stale = CanGetFrames c frames stale (pages_in_units c at.base missing) × LiesInUnits c at
    × OnPages (object_pages c at) (λ page. (is_among (pages_in_units c at.base missing) page ≡ true) ⊎ HasFrame frames page)
ArePagesReady c (Filling chunk base page filled) frames stale = CanGetFrames c frames stale (pages_in_units c base (page ∷ [])) × (page < c.unit_pages)
ArePagesReady c (Depopulating base populated) frames stale = CanLoseFrames c frames (pages_in_units c base populated) × OnPages populated (λ page. page < c.unit_pages)
ArePagesReady c (Zeroing at) frames stale = IsReachable c frames at
ArePagesReady c (Adding at serial cpu index amount) frames stale = IsReachable c frames at × (cpu < cpus c) × (4 * index < at.bytes)
ArePagesReady c (Summing at serial index) frames stale = IsReachable c frames at × (4 * index < at.bytes)
ArePagesReady c _ frames stale = Unit {0}

-- Live areas.

-- spans of the space that have pages, and share none with each other or with a live area
pub record CanSettle (c : Setup) (areas : List Area) (next : ℕ) (spans : List Span) : Type 0 where
  pub some : (i : ℕ) (s : Span) → slice_get spans i ≡ Some s → 1 ≤ s.pages
  pub inside : (i : ℕ) (s : Span) → slice_get spans i ≡ Some s → end_of s ≤ c.space
  pub disjoint : (page : ℕ) → times page spans ≤ 1
  pub unused : (page : ℕ) → covers spans page ≡ true → covers (spans_of areas) page ≡ false
  pub serials : next + length spans < 2 ^ 32

-- each of these is the start of one live area, and each stands once
pub record CanUnlink (areas : List Area) (starts : List ℕ) : Type 0 where
  pub once : (start : ℕ) → count_of start starts ≤ 1
  pub live : (start : ℕ) → is_among starts start ≡ true → (a : Area) × (areas_at start areas ≡ a ∷ [])

abbrev pub AreAreasReady : Setup → Place → List Area → (next : ℕ) → Type 0
AreAreasReady c (SettlingGroups base chunk bytes align) areas next = CanSettle c areas next (groups_at c base)
AreAreasReady c (UnlinkingGroups base) areas next = CanUnlink areas (group_starts c base)
AreAreasReady c _ areas next = Unit {0}

-- Waiting spans.

-- spans of the space that have pages, and share none with each other or with those that wait
pub record CanWaitThere (c : Setup) (waiting spans : List Span) : Type 0 where
  pub some : (i : ℕ) (s : Span) → slice_get spans i ≡ Some s → 1 ≤ s.pages
  pub inside : (i : ℕ) (s : Span) → slice_get spans i ≡ Some s → end_of s ≤ c.space
  pub disjoint : (page : ℕ) → times page (waiting ++ spans) ≤ 1

abbrev pub AreWaitsReady : Setup → Place → List Span → Type 0
AreWaitsReady c (Waiting spans after) waiting = CanWaitThere c waiting spans
AreWaitsReady c (PurgeWaiting gone extra after) waiting = CanWaitThere c waiting (block_spans c gone)
AreWaitsReady c _ waiting = Unit {0}

-- Chunks and objects.

-- an object of so many bytes, at a multiple of so many, can be asked for
pub record CanBeAsked (bytes align : ℕ) : Type 0 where
  pub more : ℕ
  pub whole : bytes ≡ 4 * suc more
  pub high : bytes ≤ 32768
  pub power : IsPower align
  pub align_low : 4 ≤ align
  pub align_high : align ≤ 4096

-- one of the chunks has the object, as far as it has come, and no other is at its place
pub record HasObject (chunks : List Chunk) (at : ObjectAt) (life : Life) : Type 0 where
  pub number : ℕ
  pub chunk : Chunk
  pub there : slice_get chunks number ≡ Some chunk
  pub numbered : chunk.number ≡ at.chunk
  pub based : chunk.base ≡ at.base
  pub place : ℕ
  pub object : Object
  pub object_there : slice_get chunk.objects place ≡ Some object
  pub off : object.off ≡ at.off
  pub bytes : object.bytes ≡ at.bytes
  pub lives : object.life ≡ life
  pub found : find_object at chunks ≡ Some object

-- a chunk has this page, unpopulated, and no object has a byte in it
pub record CanNoteFilled (chunks : List Chunk) (number page : ℕ) : Type 0 where
  pub chunk : Chunk
  pub first : slice_get (chunks_numbered number chunks) 0 ≡ Some chunk
  pub unpopulated : slice_get chunk.populated page ≡ Some false
  pub untouched : list_any (touches page) chunk.objects ≡ false

abbrev pub IsPercpuReady : Setup → (caller : ℕ) → Place → List Chunk → (next_object next_chunk room : ℕ) → Type 0
IsPercpuReady c k (Choosing bytes align) chunks object chunk room = CanBeAsked bytes align × (1 ≤ room)
IsPercpuReady c k (ChoosingAtomic bytes align) chunks object chunk room = CanBeAsked bytes align × (1 ≤ room)
IsPercpuReady c k (AddingChunk base number bytes align) chunks object chunk room = CanBeAsked bytes align × (1 ≤ room) × (number ≡ chunk)
IsPercpuReady c k (SettlingObject at) chunks object chunk room = HasObject chunks at (InHand k)
IsPercpuReady c k (SettlingAtomic at) chunks object chunk room = HasObject chunks at (InHand k)
IsPercpuReady c k (Unplacing at) chunks object chunk room = HasObject chunks at (InHand k)
IsPercpuReady c k (NotingFilled number page filled) chunks object chunk room = CanNoteFilled chunks number page
IsPercpuReady c k _ chunks object chunk room = Unit {0}
