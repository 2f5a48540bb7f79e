-- What every event keeps of the map and of the callers, so that the map falls apart into its regions.
use Rattle.std.specs.Prelude.{◌≡◌, ℕ, ◌+◌, ◌<◌, ◌≤◌, true, false, List, [], ◌∷◌, length, Some, None, slice_get}
use Rattle.vm_model.specs.declared.areas.Area.{Area}
use Rattle.vm_model.specs.declared.calls.Call.{Call}
use Rattle.vm_model.specs.declared.calls.Call.TheVariants.{MapRam}
use Rattle.vm_model.specs.Setup.{Setup, cpus}
use Rattle.vm_model.specs.PlainMap.{PlainMap, Block, Part, Life, InHand}
use Rattle.vm_model.specs.Blocks.{PartAt, rounded, size_of, parts_size, is_spent}
use Rattle.vm_model.specs.Events.{Search, ForPages}
use Rattle.vm_model.specs.Places.{Made, MadeArea, MadePart, Aim, ForArea, ForBlock, Then, SearchAgain, Place, Over, Finding, FindingAgain, MappingArea, SettlingArea, Removing, Waiting, PurgeTaking, PurgeFragmenting, PurgeUnlinking, PurgeWaiting, PurgeCollecting, PurgeFlushing, PurgeReturning, PurgeGiving, CuttingPart, SettlingBlock, AddingBlock, MappingPart, SettlingPart, BeginningUnmap, UnmappingPart, Retiring, LookingAtDirty, GivingAlloc, ask}
use Rattle.vm_model.specs.Calls.{Answered}
use Rattle.vm_model.specs.History.{World, Local, step}
use Rattle.vm_model.specs.LegalHistory.{IsReached}
use Rattle.vm_model.specs.Rules.{IsSetup, IsTrace}
use Rattle.map_parts.specs.Locality.{FallsApart, StaysWithin}
use Rattle.map_parts.specs.Owners.{is_plain, pool_of, of_locals, HaveOneOwner}

-- the parts of a block follow each other from an offset on
abbrev pub AreInRow : ℕ → List Part → Type 0
AreInRow from [] = Unit {0}
AreInRow from (p ∷ parts) = (p.offset ≡ from) × AreInRow (from + size_of p) parts

pub record IsBlockWhole (c : Setup) (b : Block) : Type 0 where
  pub row : AreInRow 0 b.parts
  pub within : parts_size b.parts ≤ c.block_pages
  pub unspent : is_spent c b ≡ false

-- a block of the processor has the part, with this life
pub record HasPart (blocks : List Block) (at : PartAt) (life : Life) : Type 0 where
  pub block : Block
  pub number : ℕ
  pub there : slice_get blocks number ≡ Some block
  pub start : block.start ≡ at.block
  pub cpu : block.cpu ≡ at.cpu
  pub part : Part
  pub place : ℕ
  pub within : slice_get block.parts place ≡ Some part
  pub offset : part.offset ≡ at.offset
  pub pages : part.pages ≡ at.pages
  pub lives : part.life ≡ life

-- a serial that was given, and not to an area of a block or a chunk
pub record IsPlainSerial (m : PlainMap) (serial : ℕ) : Type 0 where
  pub given : serial < m.next_area
  pub plain : (i : ℕ) (a : Area) → slice_get m.areas i ≡ Some a → a.serial ≡ serial → is_plain a.kind ≡ true

-- what a search is for: a block has the pages of one, and its processor and its first part can be
abbrev pub CanBePart : Setup → (cpu pages : ℕ) → Type 0
CanBePart c cpu pages = (cpu < cpus c) × (rounded pages ≤ c.block_pages)

abbrev pub IsSoundAim : Setup → Search → Aim → Type 0
IsSoundAim c search (ForArea k) = is_plain k ≡ true
IsSoundAim c search (ForBlock cpu pages) = (search ≡ ForPages c.block_pages c.block_pages) × CanBePart c cpu pages
IsSoundAim c search _ = Unit {0}

abbrev pub IsSoundThen : Setup → Then → Type 0
IsSoundThen c (SearchAgain search aim) = IsSoundAim c search aim
IsSoundThen c _ = Unit {0}

-- a part of a processor that is there, which the caller has in hand
abbrev pub IsSoundPart : Setup → PlainMap → (caller : ℕ) → PartAt → Type 0
IsSoundPart c m k at = (at.cpu < cpus c) × HasPart m.blocks at (InHand k)

-- what an answered call made: its processor is there, and its area is plain
abbrev pub IsSoundMade : Setup → PlainMap → Made → Type 0
IsSoundMade c m (MadeArea start serial) = IsPlainSerial m serial
IsSoundMade c m (MadePart cpu page serial) = cpu < cpus c
IsSoundMade c m _ = Unit {0}

abbrev pub IsSoundPlace : Setup → PlainMap → (caller : ℕ) → Place → Type 0
IsSoundPlace c m k (Finding search aim) = IsSoundAim c search aim
IsSoundPlace c m k (FindingAgain search aim) = IsSoundAim c search aim
IsSoundPlace c m k (MappingArea s kd) = is_plain kd ≡ true
IsSoundPlace c m k (SettlingArea s kd) = is_plain kd ≡ true
IsSoundPlace c m k (Removing start serial) = IsPlainSerial m serial
IsSoundPlace c m k (Waiting spans after) = IsSoundThen c after
IsSoundPlace c m k (PurgeTaking extra after) = IsSoundThen c after
IsSoundPlace c m k (PurgeFragmenting cpu gone extra after) = (cpu < cpus c) × IsSoundThen c after
IsSoundPlace c m k (PurgeUnlinking gone extra after) = IsSoundThen c after
IsSoundPlace c m k (PurgeWaiting gone extra after) = IsSoundThen c after
IsSoundPlace c m k (PurgeCollecting extra after) = IsSoundThen c after
IsSoundPlace c m k (PurgeFlushing s waited after) = IsSoundThen c after
IsSoundPlace c m k (PurgeReturning waited after) = IsSoundThen c after
IsSoundPlace c m k (PurgeGiving after) = IsSoundThen c after
IsSoundPlace c m k (CuttingPart cpu pages) = CanBePart c cpu pages
IsSoundPlace c m k (SettlingBlock s cpu pages) = (s.pages ≡ c.block_pages) × CanBePart c cpu pages
IsSoundPlace c m k (AddingBlock at) = (at.offset ≡ 0) × CanBePart c at.cpu at.pages
IsSoundPlace c m k (MappingPart at) = IsSoundPart c m k at
IsSoundPlace c m k (SettlingPart at) = IsSoundPart c m k at
IsSoundPlace c m k (BeginningUnmap cpu page serial) = cpu < cpus c
IsSoundPlace c m k (UnmappingPart at) = IsSoundPart c m k at
IsSoundPlace c m k (Retiring at reply) = IsSoundPart c m k at
IsSoundPlace c m k (LookingAtDirty cpu ranges) = cpu < cpus c
IsSoundPlace c m k (GivingAlloc reply made) = IsSoundMade c m made
IsSoundPlace c m k _ = Unit {0}

-- answers and calls: their processors are there; a caller that isn't over has a call at hand
abbrev pub AreSoundAnswers : Setup → PlainMap → List Answered → Type 0
AreSoundAnswers c m answers = (i : ℕ) (answer : Answered) → slice_get answers i ≡ Some answer → IsSoundMade c m answer.made

abbrev pub IsSoundCall : Setup → Call → Type 0
IsSoundCall c (MapRam cpu pages) = cpu < cpus c
IsSoundCall c _ = Unit {0}

pub record IsSoundLocal (c : Setup) (m : PlainMap) (k : ℕ) (l : Local) : Type 0 where
  pub setup : l.setup ≡ c
  pub caller : l.caller ≡ k
  pub calls : (i : ℕ) (call : Call) → slice_get l.calls i ≡ Some call → IsSoundCall c call
  pub opening : AreSoundAnswers c m l.opening
  pub answers : AreSoundAnswers c m l.answers
  pub place : IsSoundPlace c m k l.place
  pub at_hand : slice_get l.calls (length l.answers) ≡ None → l.place ≡ Over

-- the map by itself
pub record IsWhole (c : Setup) (m : PlainMap) : Type 0 where
  pub marks : length m.marks ≡ c.space
  pub next_parts : length m.next_part ≡ cpus c
  pub serials : (i : ℕ) (a : Area) → slice_get m.areas i ≡ Some a → a.serial < m.next_area
  pub blocks : (i : ℕ) (b : Block) → slice_get m.blocks i ≡ Some b → IsBlockWhole c b

pub record KeepsApart (c : Setup) (w : World) : Type 0 where
  pub whole : IsWhole c w.map
  pub owners : HaveOneOwner c (pool_of w.map) (of_locals c w.locals)
  pub locals : (k : ℕ) (l : Local) → slice_get w.locals k ≡ Some l → IsSoundLocal c w.map k l

-- it holds in every reached world, each event keeps it, and where it holds the map falls apart into its regions, and each caller stays within one
abbrev pub ReachedWorldsKeepApart : Type 0
ReachedWorldsKeepApart = (c : Setup) (opening : List Call) (calls : List (List Call)) (w : World) → IsTrace c opening calls → IsReached c opening calls w → KeepsApart c w

abbrev pub StepsKeepApart : Type 0
StepsKeepApart = (c : Setup) (w : World) (caller : ℕ) → IsSetup c → KeepsApart c w → KeepsApart c (step w caller)

abbrev pub KeptWorldsFallApart : Type 0
KeptWorldsFallApart = (c : Setup) (w : World) → IsSetup c → KeepsApart c w → FallsApart c w.map

abbrev pub KeptCallersStayWithin : Type 0
KeptCallersStayWithin = (c : Setup) (w : World) (k : ℕ) (l : Local) → IsSetup c → KeepsApart c w → slice_get w.locals k ≡ Some l → StaysWithin c w.map (ask l.setup l.place)
