use Rattle.std.proofs.Common.{◌-◌, get_or, arith}
use Rattle.trace_text.proofs.NamesKept.{number-fits, symbol_range, symbol_at}
use Rattle.trace_text.proofs.names.number_of.Goals as goal

pub overflow_mul-number : goal.overflow_mul-number
overflow_mul-number c = let fits = number-fits c.args.name.now c.loop-left.left c.requires (omega arith) in let is = c.loop-left.invariant.1 in omega arith

pub overflow_add-number : goal.overflow_add-number
overflow_add-number c =
    let left = c.loop-left.left - 1 in
    let low = c.loop-left.invariant.0 in
    let fits = number-fits c.args.name.now c.loop-left.left c.requires (omega arith) in
    let is = c.loop-left.invariant.1 in
    let range = symbol_range (get_or c.args.name.now left 0) (symbol_at c.args.name.now left c.requires (omega arith)) in
    omega (arith, c.symbol.ensures)
