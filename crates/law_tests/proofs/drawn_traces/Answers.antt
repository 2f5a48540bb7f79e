use Rattle.law_tests.proofs.DrawnAreasProofs.{areas_keep}
use Rattle.law_tests.proofs.DrawnBlocksProofs.{blocks_keep}
use Rattle.law_tests.proofs.DrawnObjectsProofs.{objects_keep}
use Rattle.law_tests.proofs.DrawnCallsProofs.{calls_keep}
use Rattle.law_tests.proofs.drawn_traces.Goals as goal

pub returns : goal.returns
returns c = record { areas = areas_keep; blocks = blocks_keep; objects = objects_keep; calls = calls_keep }
