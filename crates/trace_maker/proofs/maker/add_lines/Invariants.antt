use Rattle.std.proofs.Common.{◌-◌}
use Rattle.trace_maker.specs.Generated.{Making}
use Rattle.trace_maker.specs.WrittenSections.{AreMade}
use Rattle.trace_maker.proofs.Makings.{AreToMake}
use Rattle.trace_maker.proofs.maker.add_lines.Given as goal

abbrev pub invariant-loop-number : goal.invariant-loop-number
invariant-loop-number l = (m : Making) → AreMade l.fn.sections l.fn.draws.state m → AreToMake (l.number-end - l.number) l.number l.sections l.draws.state l.calls m
