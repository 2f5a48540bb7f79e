use Rattle.std.proofs.Common.{length, length-append, ap, sym, ◌∙◌, arith}
use Rattle.percpu_counters.proofs.counters.Counters.add.Goals as goal

pub returns-clause-pass : goal.returns-clause-pass
returns-clause-pass c =
    let added = c.add_line.ensures.added in
    let old = c.args.pass.now.place.me.0.adds in
    let longer = ap length added.adds ∙ length-append old _ in
    record {
      table = c.add_line.ensures.table ∙ c.requires.pass.table;
      few = λ alone. let f = c.requires.pass.few (sym added.alone ∙ alone) in let room = c.requires.room in omega arith;
      exact = λ alone.
          let was = sym added.alone ∙ alone in
          let f = c.requires.pass.few was in
          let e = c.requires.pass.exact was in
          let room = c.requires.room in
          let next = added.exact was (omega arith) (e.0 ∙ c.args.self.now.words) e.1 in
          (next.0 ∙ e.0, next.1);
    }
