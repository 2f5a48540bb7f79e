-- What the drawn traces show, computed.
use Rattle.std.proofs.Common.{◌≡◌, true, refl}
use Rattle.std.specs.List.{list_all}
use Rattle.law_tests.specs.Machines.{model}
use Rattle.law_tests.specs.LawChecks.{passes, keeps_all}
use Rattle.law_tests.specs.DrawnCalls.{first_calls, second_calls}
use Rattle.law_tests.specs.LawTests.{DrawnCallsKeepTheLaws}

first_calls_kept : list_all (passes keeps_all model) first_calls ≡ true
first_calls_kept = refl

second_calls_kept : list_all (passes keeps_all model) second_calls ≡ true
second_calls_kept = refl

pub calls_keep : DrawnCallsKeepTheLaws
calls_keep = (first_calls_kept, second_calls_kept)
