use Rattle.std.proofs.Common.{◌≡◌, ◌++◌, length, subst, OnOk}
use Rattle.report_text.specs.declared.tally.Tally.{Tally}
use Rattle.report_text.specs.Tally.{counts_line}
use Rattle.report_text.proofs.entry_lines.put_tally.Goals as goal

pub returns : goal.returns
returns c = subst (λ (t : Tally). OnOk c.put_counts.result (c.put_counts.new.text.items ≡ c.args.text.now.items ++ counts_line (length c.args.entries.now) t)) c.tally_of.ensures c.put_counts.ensures
