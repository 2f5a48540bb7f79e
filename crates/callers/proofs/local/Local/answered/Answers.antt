use Rattle.std.proofs.Common.{length, sym, ◌∙◌, ap}
use Rattle.vm_model.specs.History.{Local}
use Rattle.callers.proofs.AnswersGiven.{count_is}
use Rattle.callers.proofs.local.Local.answered.Goals as goal

pub returns : goal.returns
returns c = c.len.ensures ∙ sym (count_is c.self.inside c.self.invariant) ∙ ap (λ (l : Local). length l.answers) c.self.view_is
