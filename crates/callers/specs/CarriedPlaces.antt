-- The code's places as those of the definitions.
use Rattle.std.specs.Prelude.{◌≡◌, ℕ, ◌<◌, ◌≤◌, ◌++◌, All, List, [], ◌∷◌, length, Option, Some, option_to_list}
use Rattle.vm_model.specs.declared.areas.Span.{Span}
use Rattle.vm_model.specs.Space.{end_of, hull}
use Rattle.vm_model.specs.Setup.{Setup, cpus, groups_at}
use Rattle.vm_model.specs.Chunks.{ObjectAt}
use Rattle.vm_model.specs.PageSets.{pages_in}
use Rattle.chunk_slots.specs.ChunkRegion as region
use Rattle.lazy_purge.specs.WaitingSet.{HasPage}
use Rattle.vm_model.specs.Events.{ForPages, ForGroups}
use Rattle.vm_model.specs.Places as model
use Rattle.vm_model.specs.Places.{ForArea, ForBlock, ForChunk, SearchAgain, ReplyWith, SpareAgain}
use Rattle.map_blocks.specs.BlockRows.{at_of}
use Rattle.callers.specs.declared.place.Aim.{Aim}
use Rattle.callers.specs.declared.place.Aim.TheVariants as aim
use Rattle.callers.specs.declared.place.Search.{Search}
use Rattle.callers.specs.declared.place.NewChunk.{NewChunk}
use Rattle.callers.specs.declared.place.After.{After}
use Rattle.callers.specs.declared.place.After.TheVariants as then
use Rattle.callers.specs.declared.place.Place.{Place}
use Rattle.callers.specs.declared.place.Place.TheVariants.{Over, Refusing, Finding, FindingAgain, MappingArea, Dropping, SettlingArea, Removing, UnmappingArea, Waiting, PurgeTaking, PurgeFragmenting, PurgeUnlinking, PurgeWaiting, PurgeCollecting, PurgeFlushing, PurgeReturning, PurgeGiving, CuttingPart, SettlingBlock, AddingBlock, MappingPart, SettlingPart, BeginningUnmap, UnmappingPart, Retiring, UnlinkingBlock, LookingAtDirty, TakingAlloc, Choosing, FindingGroups, FindingGroupsAgain, SettlingGroups, AddingChunk, Populating, SettlingObject, Unplacing, GivingAlloc, ChoosingAtomic, Zeroing, SettlingAtomic, FreeingObject, Adding, Summing, TakingToBalance, Sparing, Depopulating, UnlinkingGroups, WaitingForGroups, NextFill, Filling, NotingFilled}
use Rattle.callers.specs.declared.answers.ObjectPlace.{ObjectPlace}
use Rattle.callers.specs.declared.answers.Made.{Made}
use Rattle.callers.specs.declared.answers.Made.TheVariants.{Nothing, Area, Part, Object}

-- what a search is for, and what follows a wait or a purge
abbrev pub aim_of : Aim → model.Aim
aim_of (aim.Area k) = ForArea k
aim_of (aim.Block cpu pages) = ForBlock cpu pages

abbrev pub aim_at : NewChunk → model.Aim
aim_at wanted = ForChunk wanted.number wanted.object.bytes wanted.object.align

abbrev pub then_of : After → model.Then
then_of (then.Search s) = SearchAgain (ForPages s.pages s.align) (aim_of s.aim)
then_of (then.Groups wanted) = SearchAgain ForGroups (aim_at wanted)
then_of (then.Reply r) = ReplyWith r
then_of then.Spare = SpareAgain

-- an object's place, and what a call made
abbrev pub object_of : ObjectPlace → ObjectAt
object_of o = record { chunk = o.chunk; base = o.base; off = o.off; bytes = o.bytes }

abbrev pub made_of : Made → model.Made
made_of Nothing = model.MadeNothing
made_of (Area start serial) = model.MadeArea start serial
made_of (Part cpu page serial) = model.MadePart cpu page serial
made_of (Object o serial) = model.MadeObject (object_of o) serial

-- the lists that a caller carries beside its place: the starts of the blocks that its purge has taken out, the spans that it flushes or returns, the dirty ranges that it has seen, and the spans of a chunk's groups that are to wait
pub record Carried : Type 0 where
  pub gone : List ℕ
  pub waited : List Span
  pub ranges : List Span
  pub groups : List Span

abbrev pub nothing : Carried
nothing = record { gone = []; waited = []; ranges = []; groups = [] }

-- a place, with the lists that its caller carries
abbrev pub place_of : Place → Carried → model.Place
place_of Over carried = model.Over
place_of (Refusing r) carried = model.Refusing r
place_of (Finding s) carried = model.Finding (ForPages s.pages s.align) (aim_of s.aim)
place_of (FindingAgain s) carried = model.FindingAgain (ForPages s.pages s.align) (aim_of s.aim)
place_of (MappingArea s k) carried = model.MappingArea s k
place_of (Dropping s) carried = model.Dropping s
place_of (SettlingArea s k) carried = model.SettlingArea s k
place_of (Removing start serial) carried = model.Removing start serial
place_of (UnmappingArea area) carried = model.UnmappingArea area
place_of (Waiting s after) carried = model.Waiting (s ∷ []) (then_of after)
place_of (PurgeTaking extra after) carried = model.PurgeTaking extra (then_of after)
place_of (PurgeFragmenting cpu extra after) carried = model.PurgeFragmenting cpu carried.gone extra (then_of after)
place_of (PurgeUnlinking extra after) carried = model.PurgeUnlinking carried.gone extra (then_of after)
place_of (PurgeWaiting extra after) carried = model.PurgeWaiting carried.gone extra (then_of after)
place_of (PurgeCollecting extra after) carried = model.PurgeCollecting extra (then_of after)
place_of (PurgeFlushing s after) carried = model.PurgeFlushing s carried.waited (then_of after)
place_of (PurgeReturning after) carried = model.PurgeReturning carried.waited (then_of after)
place_of (PurgeGiving after) carried = model.PurgeGiving (then_of after)
place_of (CuttingPart cpu pages) carried = model.CuttingPart cpu pages
place_of (SettlingBlock s cpu pages) carried = model.SettlingBlock s cpu pages
place_of (AddingBlock start cpu pages) carried = model.AddingBlock (record { cpu = cpu; block = start; offset = 0; pages = pages })
place_of (MappingPart cpu part) carried = model.MappingPart (at_of cpu part)
place_of (SettlingPart cpu part) carried = model.SettlingPart (at_of cpu part)
place_of (BeginningUnmap cpu page serial) carried = model.BeginningUnmap cpu page serial
place_of (UnmappingPart cpu part) carried = model.UnmappingPart (at_of cpu part)
place_of (Retiring cpu part r) carried = model.Retiring (at_of cpu part) r
place_of (UnlinkingBlock start r) carried = model.UnlinkingBlock start r
place_of (LookingAtDirty cpu) carried = model.LookingAtDirty cpu carried.ranges
place_of (TakingAlloc o) carried = model.TakingAlloc o.bytes o.align
place_of (Choosing o) carried = model.Choosing o.bytes o.align
place_of (FindingGroups wanted) carried = model.Finding ForGroups (aim_at wanted)
place_of (FindingGroupsAgain wanted) carried = model.FindingAgain ForGroups (aim_at wanted)
place_of (SettlingGroups base wanted) carried = model.SettlingGroups base wanted.number wanted.object.bytes wanted.object.align
place_of (AddingChunk base wanted) carried = model.AddingChunk base wanted.number wanted.object.bytes wanted.object.align
place_of (Populating placed) carried = model.Populating (region.at_of placed) (pages_in placed.missing)
place_of (SettlingObject placed) carried = model.SettlingObject (region.at_of placed)
place_of (Unplacing placed) carried = model.Unplacing (region.at_of placed)
place_of (GivingAlloc r made) carried = model.GivingAlloc r (made_of made)
place_of (ChoosingAtomic o) carried = model.ChoosingAtomic o.bytes o.align
place_of (Zeroing placed) carried = model.Zeroing (region.at_of placed)
place_of (SettlingAtomic placed) carried = model.SettlingAtomic (region.at_of placed)
place_of (FreeingObject o serial) carried = model.FreeingObject (object_of o) serial
place_of (Adding o serial cpu index amount) carried = model.Adding (object_of o) serial cpu index amount
place_of (Summing o serial index) carried = model.Summing (object_of o) serial index
place_of TakingToBalance carried = model.TakingToBalance
place_of Sparing carried = model.Sparing
place_of (Depopulating base populated) carried = model.Depopulating base (pages_in populated)
place_of (UnlinkingGroups base) carried = model.UnlinkingGroups base
place_of (WaitingForGroups base) carried = model.Waiting carried.groups SpareAgain
place_of (NextFill filled) carried = model.NextFill filled
place_of (Filling chunk base page filled) carried = model.Filling chunk base page filled
place_of (NotingFilled chunk page filled) carried = model.NotingFilled chunk page filled

-- the spans of the groups that wait there
abbrev pub groups_carried : Setup → Place → List Span
groups_carried c (WaitingForGroups base) = groups_at c base
groups_carried c _ = []

-- how many pages a balance has filled so far
abbrev pub filled_by : Place → ℕ
filled_by (NextFill filled) = filled
filled_by (Filling chunk base page filled) = filled
filled_by (NotingFilled chunk page filled) = filled
filled_by _ = 0

-- the lists that a caller carries there
abbrev pub carried_at : model.Place → Carried
carried_at (model.PurgeFragmenting cpu gone extra after) = record nothing { gone = gone }
carried_at (model.PurgeUnlinking gone extra after) = record nothing { gone = gone }
carried_at (model.PurgeWaiting gone extra after) = record nothing { gone = gone }
carried_at (model.PurgeFlushing s waited after) = record nothing { waited = waited }
carried_at (model.PurgeReturning waited after) = record nothing { waited = waited }
carried_at (model.LookingAtDirty cpu ranges) = record nothing { ranges = ranges }
carried_at (model.Waiting spans after) = record nothing { groups = spans }
carried_at _ = nothing

-- a place to which a caller carries no list, and one at which a call may begin
abbrev pub CarriesNoSpans : Place → Type 0
CarriesNoSpans (PurgeFragmenting cpu extra after) = ⊥
CarriesNoSpans (PurgeUnlinking extra after) = ⊥
CarriesNoSpans (PurgeWaiting extra after) = ⊥
CarriesNoSpans (PurgeFlushing s after) = ⊥
CarriesNoSpans (PurgeReturning after) = ⊥
CarriesNoSpans (WaitingForGroups base) = ⊥
CarriesNoSpans _ = Unit {0}

abbrev pub IsEmptyHanded : Place → Type 0
IsEmptyHanded (LookingAtDirty cpu) = ⊥
IsEmptyHanded p = CarriesNoSpans p

-- spans that lie in a space of so many pages
abbrev pub EndsWithin : (space : ℕ) → Span → Type 0
EndsWithin space s = end_of s ≤ space

abbrev pub IsExtra : (space : ℕ) → Option Span → Type 0
IsExtra space extra = All (EndsWithin space) (option_to_list extra)

-- what is flushed is the hull of what waited and of the call's extra span
pub record IsFlushed (space : ℕ) (s : Span) (waited : List Span) : Type 0 where
  pub extra : Option Span
  pub within : IsExtra space extra
  pub hull : hull (waited ++ option_to_list extra) ≡ Some s
  pub pages : All HasPage waited

-- the dirty ranges of the processors before this one
pub record AreRanges (c : Setup) (cpu : ℕ) (ranges : List Span) : Type 0 where
  pub there : cpu < cpus c
  pub few : length ranges ≤ cpu
  pub within : All (EndsWithin c.space) ranges

-- what a caller carries there is whole: each span has a page, what is flushed besides lies in the space, and a processor is there
abbrev pub IsWhole : Setup → model.Place → Type 0
IsWhole c (model.MappingArea s k) = 1 ≤ s.pages
IsWhole c (model.Dropping s) = 1 ≤ s.pages
IsWhole c (model.SettlingArea s k) = 1 ≤ s.pages
IsWhole c (model.UnmappingArea a) = 1 ≤ a.span.pages
IsWhole c (model.Waiting spans after) = All HasPage spans
IsWhole c (model.PurgeTaking extra after) = IsExtra c.space extra
IsWhole c (model.PurgeFragmenting cpu gone extra after) = (cpu < cpus c) × IsExtra c.space extra
IsWhole c (model.PurgeUnlinking gone extra after) = IsExtra c.space extra
IsWhole c (model.PurgeWaiting gone extra after) = IsExtra c.space extra
IsWhole c (model.PurgeCollecting extra after) = IsExtra c.space extra
IsWhole c (model.PurgeFlushing s waited after) = IsFlushed c.space s waited
IsWhole c (model.PurgeReturning waited after) = All HasPage waited
IsWhole c (model.SettlingBlock s cpu pages) = 1 ≤ s.pages
IsWhole c (model.LookingAtDirty cpu ranges) = AreRanges c cpu ranges
IsWhole c _ = Unit {0}

-- a search is for a page at least, and a block for a part that has one
abbrev pub IsAim : Aim → Type 0
IsAim (aim.Area k) = Unit {0}
IsAim (aim.Block cpu pages) = 1 ≤ pages

pub record IsSearch (s : Search) : Type 0 where
  pub pages : 1 ≤ s.pages
  pub align : 1 ≤ s.align
  pub aim : IsAim s.aim

abbrev pub IsSizedAfter : After → Type 0
IsSizedAfter (then.Search s) = IsSearch s
IsSizedAfter _ = Unit {0}

-- a span that was carved has a page and lies in the largest space
pub record IsCarved (s : Span) : Type 0 where
  pub pages : 1 ≤ s.pages
  pub within : end_of s ≤ 1048576

abbrev pub IsSized : Place → Type 0
IsSized (Finding s) = IsSearch s
IsSized (FindingAgain s) = IsSearch s
IsSized (MappingArea s k) = IsCarved s
IsSized (Dropping s) = IsCarved s
IsSized (SettlingArea s k) = IsCarved s
IsSized (Waiting s after) = IsSizedAfter after
IsSized (PurgeTaking extra after) = IsSizedAfter after
IsSized (PurgeFragmenting cpu extra after) = IsSizedAfter after
IsSized (PurgeUnlinking extra after) = IsSizedAfter after
IsSized (PurgeWaiting extra after) = IsSizedAfter after
IsSized (PurgeCollecting extra after) = IsSizedAfter after
IsSized (PurgeFlushing s after) = IsSizedAfter after
IsSized (PurgeReturning after) = IsSizedAfter after
IsSized (PurgeGiving after) = IsSizedAfter after
IsSized (CuttingPart cpu pages) = 1 ≤ pages
IsSized (SettlingBlock s cpu pages) = IsCarved s × (1 ≤ pages)
IsSized (AddingBlock start cpu pages) = 1 ≤ pages
IsSized _ = Unit {0}
