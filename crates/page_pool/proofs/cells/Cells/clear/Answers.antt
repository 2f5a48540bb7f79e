use Rattle.std.proofs.Common.{pos, length, ap, ◌∙◌, arith}
use Rattle.vm_model.proofs.Paint.{length-paint_from}
use Rattle.page_pool.proofs.Painting.{paint-first, paint-on, paint-up}
use Rattle.page_pool.proofs.cells.Cells.clear.Goals as goal

pub loop-cell-init : goal.loop-cell-init
loop-cell-init c = record { from = omega arith; to = λ h. h; cells = paint-first c.args.first (pos 0) c.args.self.now }

pub clear_in_group-requires : goal.clear_in_group-requires
clear_in_group-requires c =
    let long = ap length c.loop-cell.invariant.cells ∙ length-paint_from _ (pos 0) c.args.self.now 0 in
    record { inside = omega arith; group = omega arith; some = omega arith }

pub loop-cell-preserved : goal.loop-cell-preserved
loop-cell-preserved c = record {
  from = omega arith;
  to = λ h. omega arith;
  cells = paint-on c.args.first c.loop-cell.cell c.min-count.result (pos 0) c.args.self.now c.loop-cell.self c.clear_in_group.new.self c.loop-cell.invariant.from c.loop-cell.invariant.cells c.clear_in_group.ensures;
}

pub returns : goal.returns
returns c =
    paint-up c.args.first c.args.count c.loop-cell.cell (pos 0) c.args.self.now c.loop-cell.self c.loop-cell.invariant.from (omega arith) (λ h. omega arith) c.loop-cell.invariant.cells
