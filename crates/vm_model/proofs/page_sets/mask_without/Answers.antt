use Rattle.vm_model.proofs.PageBits.{without_bits}
use Rattle.vm_model.proofs.page_sets.mask_without.Goals as goal

pub returns : goal.returns
returns c = λ place low. without_bits c.args.one c.args.other place c.ranges.other.fits low
