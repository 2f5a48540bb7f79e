use Rattle.map_parts.proofs.WholeRuns.{runs_are_parts}
use Rattle.map_parts.proofs.runs_are_parts_of_the_map.Goals as goal

pub returns : goal.returns
returns c = runs_are_parts
