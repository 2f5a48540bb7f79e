use Rattle.std.proofs.Common.{◌≤◌, option_to_list, sym, ◌∙◌, subst, arith}
use Rattle.std.proofs.lemmas.List.Elements.{All-weaker}
use Rattle.vm_model.specs.Space.{HasEnd}
use Rattle.vm_model.specs.History.{Local}
use Rattle.callers.specs.declared.place.Place.TheVariants as place
use Rattle.callers.specs.CarriedPlaces.{IsExtra, EndsWithin}
use Rattle.callers.proofs.AnswersGiven.{more_to_answer, orderly_there}
use Rattle.callers.proofs.local.Local.collect.Goals as goal

pub invariant_of-self : goal.invariant_of-self
invariant_of-self c = orderly_there c.self.inside (place.PurgeFlushing c.in-Some.hull c.args.after) c.self.inside.gone c.args.batch c.self.inside.ranges c.self.invariant c.requires.sized
    (record { extra = c.args.extra; within = subst (λ (l : Local). IsExtra l.setup.space c.args.extra) (sym c.self.view_is) c.requires.extra; hull = sym c.joined_hull.ensures ∙ c.in-Some.is; pages = c.requires.some })
    (omega arith) (more_to_answer c.self.inside c.args.self.now c.self.invariant c.self.view_is c.requires.at_hand) c.self.invariant.range_room

pub joined_hull-requires-clause-end : goal.joined_hull-requires-clause-end
joined_hull-requires-clause-end c =
    let space : c.args.self.now.setup.space ≤ 1048576 = c.requires.space in
    All-weaker (EndsWithin c.args.self.now.setup.space) HasEnd (λ s low. omega arith) (option_to_list c.args.extra) c.requires.extra
