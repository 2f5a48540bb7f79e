-- What the tests of the law of guards show: that it holds on the worked traces and on the drawn ones with areas, and fails where there is a fault.
use Rattle.std.specs.Prelude.{◌≡◌, true, false}
use Rattle.std.specs.List.{list_all}
use Rattle.law_tests.specs.Machines.{model}
use Rattle.law_tests.specs.LawChecks.{passes, guards_are_never_mapped}
use Rattle.law_tests.specs.Faults.{with_effect, map_more}
use Rattle.law_tests.specs.GuardChecks.{guards_stay_bare}
use Rattle.law_tests.specs.GuardFaults.{carve_stale, unmap_more, take_stale}
use Rattle.law_tests.specs.WorkedTrials.{worked_trials, two_areas, freed_pages_wait, a_purge_makes_room, refused_calls}
use Rattle.law_tests.specs.DrawnAreas.{first_areas, second_areas}
use Rattle.law_tests.specs.DrawnCalls.{first_calls, second_calls}

pub record BareGuardsTested : Type 0 where
  pub worked : list_all (passes guards_stay_bare model) worked_trials ≡ true
  pub drawn_areas : (list_all (passes guards_stay_bare model) first_areas ≡ true) × (list_all (passes guards_stay_bare model) second_areas ≡ true)
  pub drawn_calls : (list_all (passes guards_stay_bare model) first_calls ≡ true) × (list_all (passes guards_stay_bare model) second_calls ≡ true)
  -- of a live area, of one that waits, of one that a purge takes, and of a span that is dropped
  pub mapped : passes guards_stay_bare (with_effect map_more) two_areas ≡ false
  pub waiting : passes guards_stay_bare (with_effect unmap_more) freed_pages_wait ≡ false
  pub taken : passes guards_stay_bare (with_effect take_stale) a_purge_makes_room ≡ false
  pub dropped : passes guards_stay_bare (with_effect carve_stale) refused_calls ≡ false
  -- the two in the middle leave the guards of live areas unmapped
  pub not_of_live_areas : (passes guards_are_never_mapped (with_effect unmap_more) freed_pages_wait ≡ true) × (passes guards_are_never_mapped (with_effect take_stale) a_purge_makes_room ≡ true)
