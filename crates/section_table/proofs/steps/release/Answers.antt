use Rattle.std.proofs.Common.{rules}
use Rattle.section_table.proofs.RegionTurns.{gives_turn}
use Rattle.section_table.proofs.steps.release.Goals as goal

pub swap-requires : goal.swap-requires
swap-requires g c = let q = c.requires.hand in (search rules, search rules, gives_turn g.P.Parts.meaning _ _ _ _ _ _ q.0 q.1 q.2 (search rules))
