use Rattle.std.proofs.Common.{◌++◌, Some, option_to_list, ap, sym, ◌∙◌, subst}
use Rattle.std.specs.Option.{ForSome}
use Rattle.vm_model.specs.Space.{HasEnd, hull, wider}
use Rattle.callers.proofs.Hulls.{hull_last, hull_ends}
use Rattle.callers.proofs.carried.joined_hull.Goals as goal

pub wider-requires-clause-ends : goal.wider-requires-clause-ends
wider-requires-clause-ends c = subst (λ o. ForSome o HasEnd) (sym c.hull.ensures.hull) (hull_ends c.args.batch.now c.requires.ends)

pub returns-in-Some : goal.returns-in-Some
returns-in-Some c =
    ap (λ s. Some s) c.wider.ensures.wider ∙ ap (λ o. Some (wider c.in-Some.extra o)) c.hull.ensures.hull ∙ sym (hull_last c.args.batch.now c.in-Some.extra)
    ∙ ap (λ o. hull (c.args.batch.now ++ option_to_list o)) (sym c.in-Some.is)
