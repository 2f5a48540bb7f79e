use Rattle.map_laws.proofs.MapLaws.{areas_apart, guard_unmapped, free_clean, parts_disjoint, objects_mapped}
use Rattle.map_laws.proofs.CarriedKept.{carried_kept}
use Rattle.map_laws.proofs.objects.ObjectsReady.{histories_legal}
use Rattle.map_laws.proofs.ReachedSteps.{steps_reached}
use Rattle.map_laws.proofs.SumLaws.{sums_are_the_adds}
use Rattle.map_laws.proofs.waits.WaitReached.{pages_wait, freed_pages_waited}
use Rattle.map_laws.proofs.every_trace.Goals as goal

pub returns : goal.returns
returns c = record { apart = areas_apart; guard = guard_unmapped; clean = free_clean; waits = pages_wait; waited = freed_pages_waited; parts = parts_disjoint; objects = objects_mapped; sums = sums_are_the_adds; carried = carried_kept; legal = histories_legal; steps = steps_reached }
