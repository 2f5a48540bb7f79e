use Rattle.std.proofs.Common.{sym, subst}
use Rattle.section_table.specs.PassViews.{HasAll}
use Rattle.tests_turns.proofs.PassKeepsCallers.{both_have}
use Rattle.tests_turns.proofs.walks.close_both.Goals as goal

pub close-requires-clause-all : goal.close-requires-clause-all
close-requires-clause-all c =
    subst (λ n. HasAll n c.join.new.into.place.me.0) (sym c.requires.two) (both_have c.args.first.place.me.0 c.args.second.place.me.0 _ c.in-Ok.ensures.joined c.requires.first c.requires.second)
