use Rattle.map_laws.proofs.EndProofs.{every_run_ends, histories_short, more_fuel}
use Rattle.map_laws.proofs.ends.Goals as goal

pub returns : goal.returns
returns c = record { every_run_ends = every_run_ends; short = histories_short; more_fuel = more_fuel }
