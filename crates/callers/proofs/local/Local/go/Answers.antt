use Rattle.std.proofs.Common.{◌+◌, ◌≤◌, length, sym, subst}
use Rattle.vm_model.specs.History.{Local}
use Rattle.std.specs.Arc.{arc_value}
use Rattle.unit_layout.specs.Config.{setup_of}
use Rattle.callers.specs.CallerParts.{HasCall}
use Rattle.callers.specs.CarriedPlaces.{IsWhole, filled_by, place_of, nothing}
use Rattle.callers.proofs.AnswersGiven.{carrying, count_is, orderly_there, empty_handed}
use Rattle.callers.proofs.local.Local.go.Goals as goal

pub invariant_of-self : goal.invariant_of-self
invariant_of-self c = orderly_there c.self.inside c.args.place c.self.inside.gone c.self.inside.waited c.self.inside.ranges c.self.invariant c.requires.sized
    (subst (IsWhole (setup_of (arc_value c.self.inside.config))) (sym (empty_handed c.args.place (carrying (setup_of (arc_value c.self.inside.config)) c.args.place c.self.inside.gone c.self.inside.waited c.self.inside.ranges) c.requires.empty_handed)) (subst (λ (l : Local). IsWhole l.setup (place_of c.args.place nothing)) (sym c.self.view_is) c.requires.whole))
    (subst (λ (l : Local). filled_by c.args.place ≤ l.events + 1) (sym c.self.view_is) c.requires.filled)
    (subst (λ n. HasCall c.args.place n c.self.inside.calls) (count_is c.self.inside c.self.invariant) (subst (λ (l : Local). HasCall c.args.place (length l.answers) l.calls) (sym c.self.view_is) c.requires.at_hand))
    c.self.invariant.range_room
