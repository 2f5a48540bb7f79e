use Rattle.section_laws.proofs.KeptLawful.{sections_keep_lawful, reach_is, reach_kept, turns_are_picks}
use Rattle.section_laws.proofs.turns.Goals as goal

pub returns : goal.returns
returns c = record { keep_lawful = sections_keep_lawful; reach = reach_is; same_reach = reach_kept; picks = turns_are_picks }
