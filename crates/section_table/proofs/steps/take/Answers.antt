use Rattle.std.proofs.Common.{rules, ◌≡◌, refl, ap, ◌∙◌, ◌∷◌, arith, Some}
use Rattle.std.proofs.lemmas.Bool.Decides.{nat_tests}
use Rattle.section_table.specs.PassViews.{holding}
use Rattle.section_table.proofs.RegionTurns.{takes_turn}
use Rattle.section_table.proofs.steps.take.Goals as goal

pub compare_exchange-requires : goal.compare_exchange-requires
compare_exchange-requires g c = (search rules, search rules, takes_turn g.P.Parts.meaning _ _ _ _ _ _ c.requires.has c.requires.rests.0 (search rules))

pub returns-clause-busy : goal.returns-clause-busy
returns-clause-busy g c = let did = c.compare_exchange.ensures.2 c.args.region refl in λ e. did.0 (grind (arith, nat_tests))

pub returns-clause-taken : goal.returns-clause-taken
returns-clause-taken g c = let did = c.compare_exchange.ensures.2 c.args.region refl in λ e. let x = did.1 (grind (arith, nat_tests)) in
    (x.0, x.1 ∙ ap (λ l. (holding (Some (c.args.region, x.0)) c.args.place.now.me.0, (c.args.region, x.0) ∷ l)) c.requires.rests.1, x.2)
