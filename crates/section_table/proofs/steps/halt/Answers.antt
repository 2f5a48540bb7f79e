use Rattle.std.proofs.Common.{rules}
use Rattle.section_table.proofs.Halts.{halts_all}
use Rattle.section_table.proofs.steps.halt.Goals as goal

pub swap-requires : goal.swap-requires
swap-requires g c = (search rules, search rules, halts_all g.P.Parts.meaning _ _ _ _ _)
