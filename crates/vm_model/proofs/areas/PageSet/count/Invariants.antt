use Rattle.std.proofs.Common.{◌≡◌, length, filter}
use Rattle.vm_model.specs.Space.{count_from}
use Rattle.vm_model.specs.PageSets.{has_page}
use Rattle.vm_model.proofs.areas.PageSet.count.Given as goal

abbrev pub invariant-loop-page : goal.invariant-loop-page
invariant-loop-page l = l.found ≡ length (filter (has_page l.self) (count_from l.page 0))
