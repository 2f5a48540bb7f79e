use Rattle.section_table.specs.Shown.{held_of}
use Rattle.section_table.proofs.event.attempt.Goals as goal

pub take-requires-clause-has : goal.take-requires-clause-has
take-requires-clause-has g c = (g.C.Actor.caller, (held_of c.args.mine.now, c.requires.wants.1))
