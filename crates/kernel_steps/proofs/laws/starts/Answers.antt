use Rattle.kernel_steps.proofs.CallersThere.{all_there}
use Rattle.kernel_steps.proofs.laws.starts.Goals as goal

pub returns : goal.returns
returns c = all_there
