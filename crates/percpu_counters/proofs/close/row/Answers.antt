use Rattle.std.proofs.Common.{◌+◌, get_or, w64, FitsSigned, refl, rules, ◌∙◌}
use Rattle.std.proofs.lemmas.Int.{to_z-of_z}
use Rattle.std.specs.Int.{cast_signed}
use Rattle.percpu_counters.proofs.ReadRows.{map_more, total_more}
use Rattle.percpu_counters.proofs.close.row.Goals as goal

pub loop-cpu-preserved : goal.loop-cpu-preserved
loop-cpu-preserved c = record {
  cells = map_more (λ cpu. cast_signed w64 (get_or c.args.words.now (c.args.first + 1 + cpu) 0)) c.loop-cpu.cpu c.loop-cpu.cells.items c.push.new.self.items _ c.loop-cpu.invariant.cells c.in_ok-push.ensures.items (to_z-of_z w64 c.cast_signed.result (let f : FitsSigned w64 c.cast_signed.result = search rules in f) ∙ c.cast_signed.ensures);
  total = total_more c.args.words.now c.args.first c.loop-cpu.cpu c.loop-cpu.total (get_or c.args.words.now (c.args.first + 1 + c.loop-cpu.cpu) 0) c.loop-cpu.invariant.total refl;
}
