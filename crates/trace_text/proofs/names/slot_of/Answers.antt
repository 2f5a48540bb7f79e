use Rattle.std.proofs.Common.{◌*◌, ◌%◌, ◌/◌, sym, ap, ◌∙◌}
use Rattle.trace_text.proofs.NamesKept.{slot_of-is}
use Rattle.trace_text.proofs.names.slot_of.Goals as goal

pub returns : goal.returns
returns c = ap (λ n. c.args.number * 11400714819323198485 % 18446744073709551616 / 4294967296 % n) c.max.ensures ∙ sym (slot_of-is c.args.slots c.args.number)
