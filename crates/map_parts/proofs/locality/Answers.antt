use Rattle.map_parts.proofs.LocalityProofs.{over_one_region}
use Rattle.map_parts.proofs.locality.Goals as goal

pub returns : goal.returns
returns c = over_one_region
