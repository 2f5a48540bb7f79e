use Rattle.call_laws.proofs.GuardsUntilFree.{guards_stay_bare}
use Rattle.call_laws.proofs.guards.Goals as goal

pub returns : goal.returns
returns c = record { bare = guards_stay_bare }
