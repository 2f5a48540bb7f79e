-- The laws of calls hold on the traces that were drawn at random.
use Rattle.std.specs.Prelude.{◌≡◌, Bool, true, ◌&&◌, ◌∷◌}
use Rattle.std.specs.List.{list_all}
use Rattle.vm_model.specs.History.{World}
use Rattle.law_tests.specs.Machines.{Trial, model, first_of}
use Rattle.law_tests.specs.CallChecks.{histories_have_shapes, replies_have_causes, room_counted}
use Rattle.law_tests.specs.CallTests.{ended}
use Rattle.law_tests.specs.DrawnAreas.{first_areas, second_areas}
use Rattle.law_tests.specs.DrawnBlocks.{drawn_blocks}
use Rattle.law_tests.specs.DrawnObjects.{first_objects, second_objects, third_objects, fourth_objects}
use Rattle.law_tests.specs.DrawnCalls.{first_calls, second_calls}

-- in the last world, which has all answers
abbrev pub keeps_in : Trial → World → Bool
keeps_in t w = histories_have_shapes (t.opening ∷ t.calls) t.setup w && replies_have_causes model (first_of t).map t.setup w && room_counted (t.opening ∷ t.calls) w

abbrev pub keeps_calls : Trial → Bool
keeps_calls t = keeps_in t (ended model t)

pub record DrawnTracesKeepTheLawsOfCalls : Type 0 where
  pub areas : (list_all keeps_calls first_areas ≡ true) × (list_all keeps_calls second_areas ≡ true)
  pub blocks : list_all keeps_calls drawn_blocks ≡ true
  pub objects : (list_all keeps_calls first_objects ≡ true) × (list_all keeps_calls second_objects ≡ true) × (list_all keeps_calls third_objects ≡ true) × (list_all keeps_calls fourth_objects ≡ true)
  pub calls : (list_all keeps_calls first_calls ≡ true) × (list_all keeps_calls second_calls ≡ true)
