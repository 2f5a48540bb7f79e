use Rattle.vm_model.proofs.PageBits.{both_bits}
use Rattle.vm_model.proofs.areas.PageSet.with.Goals as goal

pub returns : goal.returns
returns c = λ page low. both_bits c.args.self.mask c.args.other.mask page
