use Rattle.std.proofs.Common.{◌≡◌, ◌<◌, false, not, slice_get, Some, ap, sym, ◌∙◌, arith}
use Rattle.std.proofs.lemmas.Bool.{eqb-true, eq-eqb}
use Rattle.vm_model.specs.PageSets.{has_page}
use Rattle.chunk_slots.specs.KeptChunks.{pages_as}
use Rattle.chunk_slots.proofs.FreeBits.{left_is_free}
use Rattle.chunk_slots.proofs.ObjectConditions.{never_both, not_true, page_below, page_of, page_within, not_populated, whole_page}
use Rattle.chunk_slots.proofs.kept_chunk.KeptChunk.can_populate.Goals as goal
use Rattle.chunk_slots.proofs.kept_chunk.KeptChunk.can_populate.Goals.{then-page-self, else-page-self}

pub returns-then-not-contains : goal.returns-then-not-contains
returns-then-not-contains c =
    let i = c.self.inside in let page = c.args.page in
    let there : (page < i.pages) × (has_page i.populated page ≡ false) = elim c.if-page-self.branch [
      | then-page-self w ↦ (w.if-page-self.true, sym w.contains.ensures ∙ not_true w.contains.result (sym w.value-is ∙ c.if-not-contains.true))
      | else-page-self w ↦ let low = page_below page i.pages (sym w.value-is ∙ c.if-not-contains.true) in let high = w.if-page-self.false in absurd (omega arith)
    ] in
    rw (← c.self.view_is) (
      (λ yes. (page_of i.pages i.populated page there.0 ∙ ap Some there.1, left_is_free i.bits page c.hint.result c.hint.ensures (eqb-true c.hint.result.left 1024 yes))),
      (λ unused. eq-eqb c.hint.result.left 1024 (whole_page i.bits page c.hint.result c.hint.ensures unused.1)),
    )

pub returns-else-not-contains : goal.returns-else-not-contains
returns-else-not-contains c =
    let i = c.self.inside in let page = c.args.page in
    let never : slice_get (pages_as i.pages i.populated) page ≡ Some false → ⊥ = λ unpopulated. elim c.if-page-self.branch [
      | then-page-self w ↦ never_both (sym c.if-not-contains.false ∙ w.value-is ∙ ap not (w.contains.ensures ∙ not_populated i.pages i.populated page unpopulated))
      | else-page-self w ↦ let low = page_within i.pages i.populated page false unpopulated in let high = w.if-page-self.false in omega arith
    ] in
    rw (← c.self.view_is) (
      (λ yes. absurd (never_both (sym c.if-not-contains.false ∙ yes))),
      (λ unused. absurd (never unused.0)),
    )
