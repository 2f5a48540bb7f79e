use Rattle.std.proofs.Common.{rules, ◌≡◌, sym, ◌∙◌, subst}
use Rattle.section_table.specs.PassViews.{HasCaller}
use Rattle.section_table.proofs.sections.Sections.act.Goals as goal

pub turn-requires-clause-table : goal.turn-requires-clause-table
turn-requires-clause-table g c = (c.loop.invariant.0 ∙ c.requires.table, c.args.self.now.sized)

pub turn-requires-clause-has : goal.turn-requires-clause-has
turn-requires-clause-has g c = subst (HasCaller c.args.caller) (sym c.loop.invariant.1) c.requires.has
