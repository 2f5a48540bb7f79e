use Rattle.std.proofs.Common.{ℕ, Bool, ◌*◌, ◌&&◌, drop, sym, ◌∙◌, arith}
use Rattle.vm_model.specs.Space.{begins_free}
use Rattle.vm_model.specs.PageSets.{has_page}
use Rattle.vm_model.proofs.Finds.{count_yes, count_no, count_few}
use Rattle.chunk_slots.proofs.FreeBits.{both_pass, one_fails, other_fails}
use Rattle.chunk_slots.proofs.plain_scan.plain_empty.Goals as goal
use Rattle.chunk_slots.proofs.plain_scan.plain_empty.Goals.{then-page_is_free+then-contains, else-page_is_free, else-page_is_free-via-then-page_is_free+else-contains, else-page_is_free-via-else-page_is_free}

pub overflow_add-empty : goal.overflow_add-empty
overflow_add-empty c = omega (arith, count_few (λ page. begins_free 1024 (drop (1024 * page) c.args.bits.now) && has_page c.args.populated page) c.loop-page.page 0, c.loop-page.invariant)

pub loop-page-preserved : goal.loop-page-preserved
loop-page-preserved c =
    let free : ℕ → Bool = λ page. begins_free 1024 (drop (1024 * page) c.args.bits.now) in
    let page = c.loop-page.page in
    elim c.if-page_is_free.branch [
      | then-page_is_free+then-contains w ↦
          w.empty-is
          ∙ count_yes (λ page. free page && has_page c.args.populated page) page c.loop-page.empty c.loop-page.invariant
          (both_pass (free page) (has_page c.args.populated page) (sym c.page_is_free.ensures ∙ w.if-page_is_free.true) (sym w.contains.ensures ∙ w.if-contains.true))
      | else-page_is_free w ↦
          w.empty-is
          ∙ count_no (λ page. free page && has_page c.args.populated page) page c.loop-page.empty c.loop-page.invariant
          (elim w.else-page_is_free.branch [
            | else-page_is_free-via-then-page_is_free+else-contains w' ↦ other_fails (free page) (has_page c.args.populated page) (sym w'.contains.ensures ∙ w'.if-contains.false)
            | else-page_is_free-via-else-page_is_free w' ↦ one_fails (free page) (has_page c.args.populated page) (sym c.page_is_free.ensures ∙ w'.if-page_is_free.false)
          ])
    ]
