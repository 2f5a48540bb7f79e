use Rattle.map_parts.proofs.SectionRunProofs.{sections_run}
use Rattle.map_parts.proofs.sections.Goals as goal

pub returns : goal.returns
returns g c = sections_run {R = g.row.R.Denot} {L = g.row.L.Denot}
