-- What the drawn traces show, computed.
use Rattle.std.proofs.Common.{◌≡◌, true, refl}
use Rattle.std.specs.List.{list_all}
use Rattle.law_tests.specs.Machines.{model}
use Rattle.law_tests.specs.LawChecks.{passes, keeps_all}
use Rattle.law_tests.specs.DrawnObjects.{first_objects, second_objects, third_objects, fourth_objects}
use Rattle.law_tests.specs.LawTests.{DrawnObjectsKeepTheLaws}

first_objects_kept : list_all (passes keeps_all model) first_objects ≡ true
first_objects_kept = refl

second_objects_kept : list_all (passes keeps_all model) second_objects ≡ true
second_objects_kept = refl

third_objects_kept : list_all (passes keeps_all model) third_objects ≡ true
third_objects_kept = refl

fourth_objects_kept : list_all (passes keeps_all model) fourth_objects ≡ true
fourth_objects_kept = refl

pub objects_keep : DrawnObjectsKeepTheLaws
objects_keep = (first_objects_kept, second_objects_kept, third_objects_kept, fourth_objects_kept)
