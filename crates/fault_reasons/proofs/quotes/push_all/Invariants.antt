use Rattle.std.proofs.Common.{◌≡◌, ◌++◌, take, flat_map}
use Rattle.fault_reasons.specs.Quotes.{shown}
use Rattle.fault_reasons.proofs.quotes.push_all.Given as goal

abbrev pub invariant-loop-byte : goal.invariant-loop-byte
invariant-loop-byte l = l.text.items ≡ l.fn.text.items ++ flat_map shown (take l.byte-index l.bytes)
