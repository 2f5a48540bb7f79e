-- The exit status that stands for each way in which a command ends.
use Rattle.std.specs.Prelude.{ℕ}
use Rattle.trace_replay.specs.declared.status.Status.{Status}
use Rattle.trace_replay.specs.declared.status.Status.TheVariants.{Done, BadTrace, BadLayout, Usage, OutOfMemory, ReadFault, WriteFault, TooLong}

abbrev pub code_of : Status → ℕ
code_of Done = 0
code_of (BadTrace line) = 1
code_of (BadLayout error) = 1
code_of Usage = 2
code_of OutOfMemory = 3
code_of ReadFault = 4
code_of WriteFault = 5
code_of TooLong = 6
