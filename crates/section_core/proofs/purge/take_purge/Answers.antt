use Rattle.std.proofs.Common.{Some, ap}
use Rattle.vm_model.specs.Parts.{PurgeTurn}
use Rattle.callers.specs.CarriedPlaces.{then_of}
use Rattle.section_core.proofs.TurnSections.{takes_turn}
use Rattle.section_core.proofs.purge.take_purge.Goals as goal

pub returns : goal.returns
returns c =
    takes_turn c.args.local.now c.args.turn.now c.args.extra (then_of c.args.after) c.take_purge.new.self _ c.requires.at.place c.requires.moves c.take_purge.ensures
    (ap (λ k. PurgeTurn (Some k)) c.caller.ensures)
