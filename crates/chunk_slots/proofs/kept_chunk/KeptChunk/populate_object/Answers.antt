use Rattle.std.proofs.Common.{◌≡◌, Bool, true, List, length, sym, ap, ◌∙◌, arith}
use Rattle.vm_model.specs.Space.{is_among}
use Rattle.vm_model.specs.Frames.{pages_of_bytes}
use Rattle.vm_model.specs.PageSets.{has_page}
use Rattle.vm_model.proofs.Tabulated.{length-tabulated}
use Rattle.chunk_slots.specs.KeptChunks.{KeptRow}
use Rattle.chunk_slots.proofs.PagesInRow.{painted_alike}
use Rattle.chunk_slots.proofs.kept_chunk.KeptChunk.populate_object.Goals as goal

pub returns : goal.returns
returns c =
    let i = c.self.inside in
    let old : KeptRow = c.args.self.now in
    let all : length old.populated ≡ i.pages = sym (ap (λ (row : KeptRow). length row.populated) c.self.view_is) ∙ length-tabulated (has_page i.populated) i.pages 0 in
    let put : List Bool → KeptRow = λ populated. record { number = old.number; base = old.base; populated = populated; bits = old.bits } in
    c.populate.ensures
    ∙ ap put
    (painted_alike (has_page c.pages_of_object.result) (is_among (pages_of_bytes c.args.off c.args.bytes)) true 0 old.populated
    (λ page low high. c.pages_of_object.ensures.among page (omega (arith, all, c.self.invariant.most))))
