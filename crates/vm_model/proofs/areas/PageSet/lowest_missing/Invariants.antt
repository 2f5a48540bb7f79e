use Rattle.std.proofs.Common.{◌≡◌, ◌-◌, not, find}
use Rattle.vm_model.specs.Space.{count_from}
use Rattle.vm_model.specs.PageSets.{has_page}
use Rattle.vm_model.proofs.areas.PageSet.lowest_missing.Given as goal

abbrev pub invariant-loop-page : goal.invariant-loop-page
invariant-loop-page l = find (λ page. not (has_page l.self page)) (count_from l.pages 0) ≡ find (λ page. not (has_page l.self page)) (count_from (l.pages - l.page) l.page)
