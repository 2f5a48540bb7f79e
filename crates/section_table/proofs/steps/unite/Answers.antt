use Rattle.std.proofs.Common.{rules}
use Rattle.section_table.proofs.JoinedPasses.{unites}
use Rattle.section_table.proofs.steps.unite.Goals as goal

pub join_seat-requires : goal.join_seat-requires
join_seat-requires g c = let r = c.requires.rests in
    (search rules, search rules, search rules, search rules, unites g.P.Parts.meaning _ _ _ _ _ _ r.0 r.2)
