use Rattle.std.proofs.Common.{◌∙◌, sym, ap, length}
use Rattle.chunk_bitmaps.specs.Bitmap.{bit_of}
use Rattle.vm_model.proofs.Tabulated.{length-tabulated}
use Rattle.chunk_bitmaps.proofs.bitmap.Bitmap.len.Goals as goal

pub returns-clause-len : goal.returns-clause-len
returns-clause-len c = sym (length-tabulated (bit_of c.self.inside.words.items) c.self.inside.bits 0) ∙ ap length c.self.view_is
