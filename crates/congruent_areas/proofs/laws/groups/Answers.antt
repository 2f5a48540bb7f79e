use Rattle.congruent_areas.proofs.LaidOut.{machines, layouts, spans}
use Rattle.congruent_areas.proofs.laws.groups.Goals as goal

pub returns : goal.returns
returns c = record { machines = machines; layouts = layouts c.layouts.ensures.layouts_stand; spans = spans }
