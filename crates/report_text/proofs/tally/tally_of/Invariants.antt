use Rattle.std.proofs.Common.{◌≡◌, take}
use Rattle.report_text.specs.Tally.{tally_of}
use Rattle.report_text.proofs.tally.tally_of.Given as goal

abbrev pub invariant-loop-entry : goal.invariant-loop-entry
invariant-loop-entry l = l.tally ≡ tally_of (take l.entry-index l.entries)
