use Rattle.std.proofs.Common.{◌≡◌, ◌<◌, ◌≤◌, ℕ, false}
use Rattle.vm_model.specs.Space.{covers}
use Rattle.tests_free_tree.proofs.looks.are_taken.Given as goal

-- the pages that were looked at
abbrev pub invariant-loop-page : goal.invariant-loop-page
invariant-loop-page l = (page : ℕ) → l.fn.span.start ≤ page → page < l.page → covers l.side.blocks page ≡ false
