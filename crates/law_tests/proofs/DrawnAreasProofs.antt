-- What the drawn traces show, computed.
use Rattle.std.proofs.Common.{◌≡◌, true, refl}
use Rattle.std.specs.List.{list_all}
use Rattle.law_tests.specs.Machines.{model}
use Rattle.law_tests.specs.LawChecks.{passes, keeps_all}
use Rattle.law_tests.specs.DrawnAreas.{first_areas, second_areas}
use Rattle.law_tests.specs.LawTests.{DrawnAreasKeepTheLaws}

first_areas_kept : list_all (passes keeps_all model) first_areas ≡ true
first_areas_kept = refl

second_areas_kept : list_all (passes keeps_all model) second_areas ≡ true
second_areas_kept = refl

pub areas_keep : DrawnAreasKeepTheLaws
areas_keep = (first_areas_kept, second_areas_kept)
