use Rattle.std.proofs.Common.{◌≡◌, ◌+◌, true, map, take, length}
use Rattle.percpu_counters.specs.Passes.{adds_of, spare_of, is_alone, IsPassOf}
use Rattle.count_lines.specs.LinesOfCaller.{added_by}
use Rattle.trace_replay.proofs.counts.counter_rows.Given as goal

-- the pass is alone, and has added the lines so far
abbrev pub invariant-loop-line : goal.invariant-loop-line
invariant-loop-line l = record {
  pass : IsPassOf l.counted l.pass;
  alone : is_alone l.pass ≡ true;
  adds : adds_of l.pass ≡ map added_by (take l.line-index l.lines);
  room : spare_of l.pass + l.line-index ≡ length l.lines;
}
