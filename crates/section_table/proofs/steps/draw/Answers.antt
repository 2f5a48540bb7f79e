use Rattle.std.proofs.Common.{rules}
use Rattle.section_table.proofs.Draws.{draws}
use Rattle.section_table.proofs.steps.draw.Goals as goal

pub fetch_add-requires : goal.fetch_add-requires
fetch_add-requires g c = let q = c.requires.ready in
    (search rules, search rules, draws g.P.Parts.meaning _ _ g.met.P.Parts.keeps _ _ _ _ g.C.Actor.caller q.0 q.1 q.2 q.3 q.4 q.5 q.6 q.7)
