use Rattle.std.proofs.Common.{ℕ, ◌<◌, ◌≤◌}
use Rattle.page_pool.specs.PageMap.{IsBare}
use Rattle.page_pool.proofs.page_side.PageSide.is_bare.Given as goal

abbrev pub invariant-loop-page : goal.invariant-loop-page
invariant-loop-page l = (page : ℕ) → l.fn.span.start ≤ page → page < l.page → IsBare (record { frames = l.self-inside.frames; stale = l.self-inside.stale; cells = l.self-inside.cells }) page
