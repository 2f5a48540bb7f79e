use Rattle.std.proofs.Common.{◌==◌, ap, ◌∙◌}
use Rattle.std.specs.Int.{bit_at}
use Rattle.vm_model.proofs.PageBits.{mask_is}
use Rattle.vm_model.proofs.PageBits.{span_bits}
use Rattle.vm_model.proofs.areas.PageSet.pages_from.Goals as goal

pub returns : goal.returns
returns c = λ page low. ap (λ mask. bit_at mask page == 1) (mask_is c.args.first c.args.count c.requires.some c.requires.within) ∙ span_bits c.args.first c.args.count page
