use Rattle.std.proofs.Common.{sym}
use Rattle.vm_model.specs.Places.{ChoosingAtomic}
use Rattle.callers.proofs.begin.alloc_atomic_place.Goals as goal

pub returns-in-Ok-clause-place : goal.returns-in-Ok-clause-place
returns-in-Ok-clause-place c = sym (c.in-Ok.ensures.size ChoosingAtomic)

pub returns-in-Err-clause-place : goal.returns-in-Err-clause-place
returns-in-Err-clause-place c = sym (c.in-Err.ensures.refused ChoosingAtomic)
