use Rattle.count_lines.proofs.SharedLines.{each_line_is_shared, sharing_keeps_the_totals}
use Rattle.count_lines.proofs.laws.sharing.Goals as goal

pub returns : goal.returns
returns c = record { each = each_line_is_shared; totals = sharing_keeps_the_totals }
