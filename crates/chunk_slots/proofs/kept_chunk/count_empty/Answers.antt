use Rattle.std.proofs.Common.{ℕ, Bool, ◌&&◌, sym, ◌∙◌, arith}
use Rattle.vm_model.specs.PageSets.{has_page}
use Rattle.chunk_slots.specs.KeptChunks.{page_is_free}
use Rattle.vm_model.proofs.Finds.{count_yes, count_no, count_few}
use Rattle.chunk_slots.proofs.FreeBits.{left_is_free, left_is_taken, both_pass, one_fails, other_fails}
use Rattle.chunk_slots.proofs.kept_chunk.count_empty.Goals as goal
use Rattle.chunk_slots.proofs.kept_chunk.count_empty.Goals.{then-hint-eq-BLOCK_BITS+then-contains, else-hint-eq-BLOCK_BITS, else-hint-eq-BLOCK_BITS-via-then-hint-eq-BLOCK_BITS+else-contains, else-hint-eq-BLOCK_BITS-via-else-hint-eq-BLOCK_BITS}

pub overflow_add-empty : goal.overflow_add-empty
overflow_add-empty c = omega (arith, count_few (λ page. page_is_free c.args.bits.now page && has_page c.args.populated page) c.loop-page.page 0, c.loop-page.invariant)

pub loop-page-preserved : goal.loop-page-preserved
loop-page-preserved c =
    let test : ℕ → Bool = λ page. page_is_free c.args.bits.now page && has_page c.args.populated page in
    elim c.if-hint-eq-BLOCK_BITS.branch [
      | then-hint-eq-BLOCK_BITS+then-contains w ↦
          w.empty-is
          ∙ count_yes test c.loop-page.page c.loop-page.empty c.loop-page.invariant
          (both_pass (page_is_free c.args.bits.now c.loop-page.page) (has_page c.args.populated c.loop-page.page)
          (left_is_free c.args.bits.now c.loop-page.page c.hint.result c.hint.ensures w.if-hint-eq-BLOCK_BITS.true) (sym w.contains.ensures ∙ w.if-contains.true))
      | else-hint-eq-BLOCK_BITS w ↦
          w.empty-is
          ∙ count_no test c.loop-page.page c.loop-page.empty c.loop-page.invariant
          (elim w.else-hint-eq-BLOCK_BITS.branch [
            | else-hint-eq-BLOCK_BITS-via-then-hint-eq-BLOCK_BITS+else-contains w' ↦
                other_fails (page_is_free c.args.bits.now c.loop-page.page) (has_page c.args.populated c.loop-page.page) (sym w'.contains.ensures ∙ w'.if-contains.false)
            | else-hint-eq-BLOCK_BITS-via-else-hint-eq-BLOCK_BITS w' ↦
                one_fails (page_is_free c.args.bits.now c.loop-page.page) (has_page c.args.populated c.loop-page.page)
                (left_is_taken c.args.bits.now c.loop-page.page c.hint.result c.hint.ensures w'.if-hint-eq-BLOCK_BITS.false)
          ])
    ]
