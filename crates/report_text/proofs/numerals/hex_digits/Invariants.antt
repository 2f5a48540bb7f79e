use Rattle.std.proofs.Common.{◌≡◌, [], drop, length}
use Rattle.report_text.proofs.Hexadecimal.{hex_onto}
use Rattle.report_text.proofs.numerals.hex_digits.Given as goal

-- the digits that are left, before those that stand
abbrev pub invariant-loop-i : goal.invariant-loop-i
invariant-loop-i l = record { size : length l.all ≡ 16; digits : hex_onto l.i l.rest (drop l.i l.all) ≡ hex_onto 16 l.number [] }
