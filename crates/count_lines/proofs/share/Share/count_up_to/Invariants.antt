use Rattle.std.proofs.Common.{◌≡◌, ℕ, ◌<◌, ◌≤◌, slice_get, IfSome}
use Rattle.vm_model.specs.declared.calls.CountLine.{CountLine}
use Rattle.count_lines.specs.Shares.{lines_in, done_in, IsShareOf, HasSameLines}
use Rattle.count_lines.proofs.share.Share.count_up_to.Given as goal

abbrev pub invariant-loop-next : goal.invariant-loop-next
invariant-loop-next l = record {
  share : IsShareOf l.counters l.self;
  lines : HasSameLines l.fn.self l.self;
  done : done_in l.self ≡ l.next;
  due : (i : ℕ) → done_in l.fn.self ≤ i → i < l.next → IfSome (slice_get (lines_in l.fn.self) i) (λ (line : CountLine). line.after ≤ l.calls);
}
