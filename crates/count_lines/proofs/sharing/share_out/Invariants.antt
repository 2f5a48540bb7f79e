use Rattle.std.proofs.Common.{All, ◌≡◌, ◌+◌, ◌++◌, map, flat_map, length}
use Rattle.std.specs.List.{range_with_len}
use Rattle.percpu_counters.specs.Passes.{adds_of, spare_of, IsPassOf}
use Rattle.count_lines.specs.declared.share.Share.{Share}
use Rattle.count_lines.specs.LinesOfCaller.{added_by, lines_by}
use Rattle.count_lines.specs.Shares.{caller_of, lines_in, done_in, IsShareOf}
use Rattle.count_lines.proofs.SharedLines.{lines_from}
use Rattle.count_lines.proofs.sharing.share_out.Given as goal

-- so many callers have their shares, for which room left the pass
abbrev pub invariant-loop-done : goal.invariant-loop-done
invariant-loop-done l = record {
  pass : IsPassOf l.counters l.pass;
  adds : adds_of l.pass ≡ adds_of l.fn.pass ++ map added_by (lines_by 0 l.lines);
  room : spare_of l.pass + length (lines_by 0 l.lines) + length (flat_map lines_in l.shares.items) ≡ spare_of l.fn.pass;
  each : All (IsShareOf l.counters) l.shares.items;
  begin : All (λ (share : Share). done_in share ≡ 0) l.shares.items;
  callers : map caller_of l.shares.items ≡ range_with_len 1 l.done;
  own : flat_map lines_in l.shares.items ≡ lines_from 1 l.done l.lines;
}
