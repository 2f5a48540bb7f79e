use Rattle.std.proofs.Common.{List, Bool, ap, sym, ◌∙◌}
use Rattle.vm_model.specs.PageSets.{has_page}
use Rattle.chunk_slots.specs.KeptChunks.{KeptRow, with_pages}
use Rattle.chunk_slots.proofs.FreeBits.{empty_told, painted_pages, none_more}
use Rattle.chunk_slots.proofs.kept_chunk.KeptChunk.populate.Goals as goal

-- all the pages are populated already
pub returns-then-missing-eq0 : goal.returns-then-missing-eq0
returns-then-missing-eq0 c =
    let i = c.self.inside in
    let row_by : List Bool → KeptRow = λ populated. record { number = i.number; base = i.base; populated = populated; bits = i.bits } in
    sym c.self.view_is
    ∙ ap row_by (painted_pages i.pages i.populated c.args.pages i.populated c.self.invariant.most (λ page low. none_more i.populated c.args.pages c.without-missing.result page c.if-missing-eq0.true (c.without-missing.ensures page low)))
    ∙ ap (with_pages (has_page c.args.pages)) c.self.view_is

pub invariant_of-self : goal.invariant_of-self
invariant_of-self c = record {
  least = c.self.invariant.least;
  most = c.self.invariant.most;
  size = c.self.invariant.size;
  slot_is = c.self.invariant.slot_is;
  empty_is = empty_told c.self.inside.pages c.self.inside.number c.self.inside.base c.with-self-inside.result c.self.inside.bits c.count_empty-self-inside.result c.count_empty-self-inside.ensures;
}

pub returns : goal.returns
returns c =
    let row_by : List Bool → KeptRow = λ populated. record { number = c.self.inside.number; base = c.self.inside.base; populated = populated; bits = c.self.inside.bits } in
    ap row_by (painted_pages c.self.inside.pages c.self.inside.populated c.args.pages c.with-self-inside.result c.self.invariant.most c.with-self-inside.ensures) ∙ ap (with_pages (has_page c.args.pages)) c.self.view_is
