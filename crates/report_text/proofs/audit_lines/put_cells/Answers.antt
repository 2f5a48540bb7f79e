use Rattle.std.proofs.Common.{refl}
use Rattle.std.specs.Fmt.{signed_decimal}
use Rattle.text_lines.proofs.JoinedFields.{words_step}
use Rattle.report_text.proofs.audit_lines.put_cells.Goals as goal

pub loop-cell-preserved : goal.loop-cell-preserved
loop-cell-preserved c =
    words_step signed_decimal c.args.cells.now c.loop-cell.cell-index _ _ c.args.text.now.items c.loop-cell.text.items c.put_cell.new.text.items c.loop-cell-test.true refl c.loop-cell.invariant c.in_ok-put_cell.ensures
