use Rattle.std.proofs.Common.{map, sym, ◌∙◌, ap, arith}
use Rattle.vm_model.specs.History.{Local}
use Rattle.history_book.specs.BookEntries.{note_of}
use Rattle.callers.proofs.AnswersGiven.{noted_again}
use Rattle.callers.proofs.local.Local.book.Goals as goal

pub returns-clause-rows : goal.returns-clause-rows
returns-clause-rows c =
    let room = c.self.invariant.room in
    sym (noted_again c.self.inside.calls c.self.inside.book.rows c.self.inside.outcomes.items c.self.invariant.made (omega arith)) ∙ ap (λ (l : Local). map note_of l.answers) c.self.view_is
