use Rattle.std.proofs.Common.{arith}
use Rattle.std.specs.Arc.{arc_value}
use Rattle.unit_layout.specs.Config.{setup_of}
use Rattle.callers.specs.declared.place.Place.TheVariants as place
use Rattle.callers.proofs.AnswersGiven.{more_to_answer, orderly_there}
use Rattle.callers.proofs.CarriedLists.{groups_have_pages}
use Rattle.callers.proofs.local.Local.unlinked_groups.Goals as goal

pub invariant_of-self : goal.invariant_of-self
invariant_of-self c = orderly_there c.self.inside (place.WaitingForGroups c.args.base) c.self.inside.gone c.self.inside.waited c.self.inside.ranges c.self.invariant (omega arith)
    (groups_have_pages (setup_of (arc_value c.self.inside.config)) c.self.invariant.setup c.args.base)
    (omega arith) (more_to_answer c.self.inside c.args.self.now c.self.invariant c.self.view_is c.requires.at_hand) c.self.invariant.range_room
