use Rattle.section_laws.proofs.PagesReady.{pages_ready}
use Rattle.section_laws.proofs.AreasReady.{areas_ready, waits_ready}
use Rattle.section_laws.proofs.PercpuReady.{percpu_ready, numbers_left, units_there}
use Rattle.section_laws.proofs.WordsSmall.{cells_small, amounts_small}
use Rattle.section_laws.proofs.sections.Goals as goal

pub returns : goal.returns
returns c = record { pages = pages_ready; areas = areas_ready; waits = waits_ready; percpu = percpu_ready; numbers = numbers_left; units = units_there; cells = cells_small; amounts = amounts_small }
