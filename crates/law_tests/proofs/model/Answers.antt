use Rattle.law_tests.proofs.LawTestProofs.{the_model_is_run}
use Rattle.law_tests.proofs.model.Goals as goal

pub returns : goal.returns
returns c = the_model_is_run
