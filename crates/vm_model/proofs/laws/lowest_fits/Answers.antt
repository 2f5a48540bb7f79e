use Rattle.vm_model.proofs.Search.{the_lowest_fits}
use Rattle.vm_model.proofs.laws.lowest_fits.Goals as goal

pub returns : goal.returns
returns c = the_lowest_fits
