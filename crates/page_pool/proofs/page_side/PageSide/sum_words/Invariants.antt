use Rattle.std.proofs.Common.{◌≡◌, take}
use Rattle.page_pool.specs.Units.{bytes_at, sum_of}
use Rattle.page_pool.proofs.page_side.PageSide.sum_words.Given as goal

abbrev pub invariant-loop-unit : goal.invariant-loop-unit
invariant-loop-unit l = l.sum ≡ sum_of l.fn.self (bytes_at l.base (take l.unit-index l.units) l.off)
