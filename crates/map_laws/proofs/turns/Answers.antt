use Rattle.map_laws.proofs.TurnProofs.{turns_kept, purge_last}
use Rattle.map_laws.proofs.turns.Goals as goal

pub returns : goal.returns
returns c = record { kept = turns_kept; purge_last = purge_last }
