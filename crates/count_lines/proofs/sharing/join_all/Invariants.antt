use Rattle.std.proofs.Common.{All, ◌≡◌, ◌++◌, map, flat_map}
use Rattle.std.specs.Vec.Iter.{into_iter_items}
use Rattle.percpu_counters.specs.Passes.{adds_of, spare_of, IsPassOf}
use Rattle.count_lines.specs.LinesOfCaller.{added_by}
use Rattle.count_lines.specs.Shares.{lines_in, IsShareOf, IsFinished}
use Rattle.count_lines.proofs.sharing.join_all.Given as goal

-- what the pass has, and what the shares that are left have, is all
abbrev pub invariant-loop-share : goal.invariant-loop-share
invariant-loop-share l = record {
  pass : IsPassOf l.counters l.pass;
  adds : adds_of l.pass ++ map added_by (flat_map lines_in (into_iter_items l.share-iterator)) ≡ adds_of l.fn.pass ++ map added_by (flat_map lines_in l.fn.shares.items);
  spare : spare_of l.pass ≡ spare_of l.fn.pass;
  each : All (IsShareOf l.counters) (into_iter_items l.share-iterator);
  finished : All IsFinished (into_iter_items l.share-iterator);
}
