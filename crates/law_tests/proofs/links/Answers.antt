use Rattle.law_tests.proofs.LawTestProofs as test
use Rattle.law_tests.proofs.links.Goals as goal

pub returns : goal.returns
returns c = record { owners = test.owners; falls_apart = test.parts_of_the_map; regions = test.regions; legal = test.legal; ends = test.ends; stays = test.stays }
