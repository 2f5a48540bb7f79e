use Rattle.std.proofs.Common.{◌≡◌}
use Rattle.count_lines.specs.Shares.{done_in, IsShareOf, HasSameLines}
use Rattle.count_lines.proofs.share.Share.finish.Given as goal

abbrev pub invariant-loop-next : goal.invariant-loop-next
invariant-loop-next l = record {
  share : IsShareOf l.counters l.self;
  lines : HasSameLines l.fn.self l.self;
  done : done_in l.self ≡ l._next;
}
