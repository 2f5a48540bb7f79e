use Rattle.std.proofs.Common.{◌≡◌, ◌<◌, true, nat_lt, ◌&&◌, length, filter, ap, sym, ◌∙◌, arith}
use Rattle.std.proofs.lemmas.Bool.Decides.{nat_tests}
use Rattle.vm_model.specs.Space.{count_from}
use Rattle.vm_model.specs.PageSets.{has_page}
use Rattle.vm_model.proofs.Tabulated.{filter-same, length-tabulated}
use Rattle.chunk_slots.specs.KeptChunks.{KeptRow, has_populated, populated_in}
use Rattle.chunk_slots.proofs.PagesInRow.{not_missing, pages_not_missing}
use Rattle.chunk_slots.proofs.FreeBits.{populated_by, row_with}
use Rattle.chunk_slots.proofs.kept_chunk.KeptChunk.populated.Goals as goal

pub returns-clause-pages : goal.returns-clause-pages
returns-clause-pages c =
    let i = c.self.inside in let row : KeptRow = row_with i.pages i.number i.base i.populated i.bits in
    pages_not_missing i.pages i.populated c.without-2.result c.self.invariant.most (not_missing i.pages i.populated c.pages_from-all.result c.without.result c.without-2.result c.pages_from-all.ensures c.without.ensures c.without-2.ensures)
    ∙ sym (ap (λ n. filter (has_populated row) (count_from n 0)) (length-tabulated (has_page i.populated) i.pages 0)
    ∙ filter-same (has_populated row) (has_page i.populated) i.pages 0 (λ page low high. populated_by i.pages i.populated i.number i.base i.bits page (omega arith)))
    ∙ ap populated_in c.self.view_is

pub returns-clause-each : goal.returns-clause-each
returns-clause-each c = λ page low.
    let i = c.self.inside in let row : KeptRow = row_with i.pages i.number i.base i.populated i.bits in
    let within : page < i.pages = omega (arith, ap (λ (r : KeptRow). length r.populated) c.self.view_is, length-tabulated (has_page i.populated) i.pages 0) in
    let most = c.self.invariant.most in
    let test : nat_lt page i.pages ≡ true = grind (arith, nat_tests) in
    not_missing i.pages i.populated c.pages_from-all.result c.without.result c.without-2.result c.pages_from-all.ensures c.without.ensures c.without-2.ensures page (omega arith)
    ∙ ap (λ b. b && has_page i.populated page) test
    ∙ sym (populated_by i.pages i.populated i.number i.base i.bits page within)
    ∙ ap (λ (r : KeptRow). has_populated r page) c.self.view_is
