use Rattle.std.proofs.Common.{◌≤◌, length, decimal, rules, arith}
use Rattle.std.proofs.lemmas.Fmt.{length-decimal-le}
use Rattle.text_lines.proofs.line_end.write_number.Goals as goal

pub write_digits-requires : goal.write_digits-requires
write_digits-requires c =
    let short : length (decimal c.args.n) ≤ 20 = search (rules, length-decimal-le 20) in
    (omega arith, c.requires)
