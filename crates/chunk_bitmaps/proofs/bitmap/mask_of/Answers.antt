use Rattle.vm_model.proofs.PageBits.{mask_is}
use Rattle.chunk_bitmaps.proofs.bitmap.mask_of.Goals as goal

pub returns : goal.returns
returns c = mask_is c.args.low c.args.count c.requires.some c.requires.within
