use Rattle.std.proofs.Common.{◌≡◌, ◌&&◌, length, filter}
use Rattle.vm_model.specs.Space.{count_from}
use Rattle.vm_model.specs.PageSets.{has_page}
use Rattle.chunk_slots.specs.KeptChunks.{page_is_free}
use Rattle.chunk_slots.proofs.kept_chunk.count_empty.Given as goal

abbrev pub invariant-loop-page : goal.invariant-loop-page
invariant-loop-page l = l.empty ≡ length (filter (λ page. page_is_free l.bits page && has_page l.populated page) (count_from l.page 0))
