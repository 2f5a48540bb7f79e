use Rattle.std.proofs.Common.{◌≡◌, map, take, length, replicate}
use Rattle.section_table.specs.Shown.{shown_of}
use Rattle.section_table.specs.WrittenLists.{all_written}
use Rattle.section_table.proofs.close.picks_of.Given as goal

abbrev pub invariant-loop-caller : goal.invariant-loop-caller
invariant-loop-caller g l =
    (l.picks.items ≡ all_written (replicate l.count 0) 0 (map shown_of (take l.caller l.callers)))
    × (length l.picks.items ≡ l.count)
