use Rattle.std.proofs.Common.{◌∙◌, ◌-◌, arith}
use Rattle.std.proofs.Math.ListN.{length-set}
use Rattle.report_text.proofs.Hexadecimal.{one_more, all_stand, hex_digits}
use Rattle.report_text.proofs.numerals.hex_digits.Goals as goal

pub loop-i-preserved : goal.loop-i-preserved
loop-i-preserved c = record {
  size = length-set c.loop-i.all (c.loop-i.i - 1) c.hex_digit.result ∙ c.loop-i.invariant.size;
  digits = one_more c.loop-i.i c.loop-i.rest c.hex_digit.result c.loop-i.all _ (omega arith) (omega arith) c.hex_digit.ensures c.loop-i.invariant.digits;
}

pub returns : goal.returns
returns c = all_stand c.loop-i.i c.loop-i.rest c.loop-i.all _ (omega arith) c.loop-i.invariant.digits ∙ hex_digits c.args.number c.ranges.number.fits
