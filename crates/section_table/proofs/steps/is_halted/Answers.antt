use Rattle.std.proofs.Common.{rules}
use Rattle.section_table.proofs.Halts.{reads_halt}
use Rattle.section_table.proofs.steps.is_halted.Goals as goal

pub load-requires : goal.load-requires
load-requires g c = (search rules, search rules, reads_halt g.P.Parts.meaning _ _ _ _ _)
