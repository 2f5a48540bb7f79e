use Rattle.map_parts.proofs.KeptApart.{kept_worlds_fall_apart, kept_callers_stay_within}
use Rattle.map_parts.proofs.ReachedKept.{reached_worlds_keep_apart}
use Rattle.map_parts.proofs.StepKeeps.{steps_keep_apart}
use Rattle.map_parts.proofs.kept.Goals as goal

pub returns : goal.returns
returns c = record { reached = reached_worlds_keep_apart; steps = steps_keep_apart; falls_apart = kept_worlds_fall_apart; stay_within = kept_callers_stay_within }
