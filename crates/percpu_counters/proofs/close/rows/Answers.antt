use Rattle.percpu_counters.specs.CounterRule.{row_of}
use Rattle.percpu_counters.specs.RowsFromWords.{row_at}
use Rattle.percpu_counters.proofs.ReadRows.{map_more}
use Rattle.percpu_counters.proofs.close.rows.Goals as goal

pub loop-counter-preserved : goal.loop-counter-preserved
loop-counter-preserved c =
    map_more (λ k. row_at c.args.shape.cpus c.args.words.now (row_of c.args.shape k)) c.loop-counter.counter c.loop-counter.rows.items c.push.new.self.items c.in_ok-row.field-0 c.loop-counter.invariant c.in_ok-push.ensures.items c.in_ok-row.ensures
