-- Machines with one fault each in what becomes of a guard.
use Rattle.std.specs.Prelude.{ℕ, suc, ◌+◌, ◌-◌, true}
use Rattle.vm_model.specs.Space.{span, holds, covers, paint}
use Rattle.vm_model.specs.Setup.{Setup}
use Rattle.vm_model.specs.PlainMap.{PlainMap}
use Rattle.vm_model.specs.Events.{Section, Carve, Unmap, TakeWaiting}
use Rattle.vm_model.specs.Effects.{effect_as, with_unmapped}

-- the last page of what a search found is stale
abbrev pub carve_stale : Setup → PlainMap → (caller : ℕ) → Section → PlainMap
carve_stale c m k (Carve place align) = let carved : PlainMap = effect_as c m k (Carve place align) in record carved { stale = paint (holds (span (place.start + (place.pages - 1)) 1)) true m.stale }
carve_stale c m k s = effect_as c m k s

-- one page more loses a frame, and becomes stale
abbrev pub unmap_more : Setup → PlainMap → (caller : ℕ) → Section → PlainMap
unmap_more c m k (Unmap s) = with_unmapped (holds (span s.start (suc s.pages))) m
unmap_more c m k s = effect_as c m k s

-- what a purge takes becomes stale
abbrev pub take_stale : Setup → PlainMap → (caller : ℕ) → Section → PlainMap
take_stale c m k (TakeWaiting all) = let took : PlainMap = effect_as c m k (TakeWaiting all) in record took { stale = paint (covers all) true m.stale }
take_stale c m k s = effect_as c m k s
