-- The table of sections: which place makes a section over which side.
use Rattle.std.specs.Prelude.{Bool, true, false}
use Rattle.section_core.specs.declared.region.Side.{Side}
use Rattle.section_core.specs.declared.region.Side.TheVariants.{Desk, Purge, Alloc, Free, Busy, Lazy, Pages, Percpu, Blocks}
use Rattle.callers.specs.declared.place.Place.{Place}
use Rattle.callers.specs.declared.place.Place.TheVariants as place

abbrev pub is_row : Side → Place → Bool
is_row Desk (place.Refusing reply) = true
is_row (Purge side) (place.PurgeTaking extra after) = true
is_row (Purge side) (place.PurgeGiving after) = true
is_row (Alloc side) (place.TakingAlloc object) = true
is_row (Alloc side) place.TakingToBalance = true
is_row (Alloc side) (place.GivingAlloc reply made) = true
is_row (Free side) (place.Finding search) = true
is_row (Free side) (place.FindingAgain search) = true
is_row (Free side) (place.FindingGroups wanted) = true
is_row (Free side) (place.FindingGroupsAgain wanted) = true
is_row (Free side) (place.Dropping span) = true
is_row (Free side) (place.PurgeReturning after) = true
is_row (Busy side) (place.SettlingArea span kind) = true
is_row (Busy side) (place.Removing start serial) = true
is_row (Busy side) (place.PurgeUnlinking extra after) = true
is_row (Busy side) (place.SettlingBlock span cpu asked) = true
is_row (Busy side) (place.UnlinkingBlock start reply) = true
is_row (Busy side) (place.SettlingGroups base wanted) = true
is_row (Busy side) (place.UnlinkingGroups base) = true
is_row (Lazy side) (place.Waiting span after) = true
is_row (Lazy side) (place.WaitingForGroups base) = true
is_row (Lazy side) (place.PurgeWaiting extra after) = true
is_row (Lazy side) (place.PurgeCollecting extra after) = true
is_row (Pages side) (place.MappingArea span kind) = true
is_row (Pages side) (place.UnmappingArea area) = true
is_row (Pages side) (place.PurgeFlushing hull after) = true
is_row (Pages side) (place.MappingPart cpu part) = true
is_row (Pages side) (place.UnmappingPart cpu part) = true
is_row (Pages side) (place.Populating placed) = true
is_row (Pages side) (place.Zeroing placed) = true
is_row (Pages side) (place.Adding object serial cpu index amount) = true
is_row (Pages side) (place.Summing object serial index) = true
is_row (Pages side) (place.Depopulating base populated) = true
is_row (Pages side) (place.Filling chunk base page filled) = true
is_row (Percpu side) (place.Choosing object) = true
is_row (Percpu side) (place.AddingChunk base wanted) = true
is_row (Percpu side) (place.SettlingObject placed) = true
is_row (Percpu side) (place.Unplacing placed) = true
is_row (Percpu side) (place.ChoosingAtomic object) = true
is_row (Percpu side) (place.SettlingAtomic placed) = true
is_row (Percpu side) (place.FreeingObject object serial) = true
is_row (Percpu side) place.Sparing = true
is_row (Percpu side) (place.NextFill filled) = true
is_row (Percpu side) (place.NotingFilled chunk page filled) = true
is_row (Blocks side) (place.LookingAtDirty cpu) = true
is_row (Blocks side) (place.PurgeFragmenting cpu extra after) = true
is_row (Blocks side) (place.CuttingPart cpu asked) = true
is_row (Blocks side) (place.AddingBlock start cpu asked) = true
is_row (Blocks side) (place.SettlingPart cpu part) = true
is_row (Blocks side) (place.BeginningUnmap cpu page serial) = true
is_row (Blocks side) (place.Retiring cpu part reply) = true
is_row _ _ = false
