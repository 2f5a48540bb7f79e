use Rattle.std.proofs.Common.{◌==◌}
use Rattle.std.proofs.lemmas.List.Elements.{All-same, All-filter, All-weaker}
use Rattle.vm_model.specs.declared.calls.CountLine.{CountLine}
use Rattle.percpu_counters.specs.Passes.{shape_of}
use Rattle.count_lines.specs.LinesOfCaller.{lines_by}
use Rattle.count_lines.specs.Shares.{IsLineOf, HasCell}
use Rattle.count_lines.proofs.sharing.share_of.Goals as goal

pub returns-clause-share : goal.returns-clause-share
returns-clause-share c =
    let shape = shape_of c.args.counters.now in
    let lines = c.args.lines.now in
    record {
      pass = c.split-pass.ensures.pass.1;
      cells = All-same (HasCell shape) c.in_ok-lines.lines.items (lines_by c.args.caller lines) c.in_ok-lines.ensures
          (All-filter (λ (l : CountLine). l.caller == c.args.caller) (HasCell shape) lines
          (All-weaker (IsLineOf shape c.requires.lines.0) (HasCell shape) (λ l is. record { counter = is.counter; cpu = is.cpu }) lines c.requires.lines.1));
    }
