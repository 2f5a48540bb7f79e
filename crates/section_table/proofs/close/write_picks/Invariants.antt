use Rattle.std.proofs.Common.{◌≡◌, take, length}
use Rattle.section_table.specs.WrittenLists.{written}
use Rattle.section_table.proofs.close.write_picks.Given as goal

abbrev pub invariant-loop-stamp : goal.invariant-loop-stamp
invariant-loop-stamp l =
    (l.picks.items ≡ written l.initial.picks.items l.caller (take l.stamp-index l.stamps))
    × (length l.picks.items ≡ length l.initial.picks.items)
