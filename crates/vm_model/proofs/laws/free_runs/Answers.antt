use Rattle.vm_model.proofs.Runs.{free_runs_are_the_only_ones}
use Rattle.vm_model.proofs.laws.free_runs.Goals as goal

pub returns : goal.returns
returns c = free_runs_are_the_only_ones
