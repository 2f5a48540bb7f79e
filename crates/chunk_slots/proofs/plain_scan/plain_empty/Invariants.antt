use Rattle.std.proofs.Common.{◌≡◌, ◌*◌, ◌&&◌, length, filter, drop}
use Rattle.vm_model.specs.Space.{count_from, begins_free}
use Rattle.vm_model.specs.PageSets.{has_page}
use Rattle.chunk_slots.proofs.plain_scan.plain_empty.Given as goal

abbrev pub invariant-loop-page : goal.invariant-loop-page
invariant-loop-page l = l.empty ≡ length (filter (λ page. begins_free 1024 (drop (1024 * page) l.bits) && has_page l.populated page) (count_from l.page 0))
