use Rattle.std.proofs.Common.{ap, arith, get_or}
use Rattle.std.proofs.lemmas.Result.{on_ok_weaker}
use Rattle.trace_maker.proofs.Makings.{one_made}
use Rattle.trace_maker.proofs.maker.add_one.Goals as goal

pub returns : goal.returns
returns c =
    let caller = c.draw_below-caller.result in
    let section = get_or c.args.sections.now caller c.index-sections-caller.result in
    on_ok_weaker c.add_line.result (λ steps m a. one_made c.args.sections.now c.args.draws.now.state caller c.draw_below-caller.new.self.state c.add_line.new.draws.state c.args.number m section c.add_line.new.section
    a c.draw_below-caller.ensures.state c.draw_below-caller.ensures.drawn (omega arith) (ap (get_or c.args.sections.now caller) c.index-sections-caller.is) steps) c.add_line.ensures
