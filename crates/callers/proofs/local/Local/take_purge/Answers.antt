use Rattle.std.proofs.Common.{sym, subst, arith}
use Rattle.vm_model.specs.History.{Local}
use Rattle.callers.specs.declared.place.Place.TheVariants as place
use Rattle.callers.specs.CarriedPlaces.{IsExtra}
use Rattle.callers.proofs.AnswersGiven.{more_to_answer, orderly_there}
use Rattle.callers.proofs.local.Local.take_purge.Goals as goal

pub invariant_of-self : goal.invariant_of-self
invariant_of-self c = orderly_there c.self.inside (place.PurgeFragmenting 0 c.args.extra c.args.after) c.clear.new.self c.self.inside.waited c.self.inside.ranges c.self.invariant c.requires.sized
    (c.self.invariant.setup.units.some, subst (λ (l : Local). IsExtra l.setup.space c.args.extra) (sym c.self.view_is) c.requires.extra)
    (omega arith) (more_to_answer c.self.inside c.args.self.now c.self.invariant c.self.view_is c.requires.at_hand) c.self.invariant.range_room
