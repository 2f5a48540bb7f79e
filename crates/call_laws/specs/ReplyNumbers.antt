-- The number that a report tells with a reply is that of the call's last own event.
use Rattle.std.specs.Prelude.{◌≡◌, ℕ, suc, ◌-◌, List, take, slice_get, slice_index, Some}
use Rattle.vm_model.specs.Setup.{last_of}
use Rattle.vm_model.specs.Calls.{Answered}
use Rattle.vm_model.specs.History.{World, Local}
use Rattle.vm_model.specs.Laws.{Always}
use Rattle.vm_model.specs.Tables.{numbers_of}
use Rattle.call_laws.specs.Histories.{OwnSection, own_sections, sections_for}

-- the last own section of the call, and its number among all events, from 1
pub record IsNumbered (w : World) (k : ℕ) (l : Local) (before : List Answered) (answer : Answered) : Type 0 where
  pub last : OwnSection
  pub is_last : last_of (sections_for (own_sections k w.events) before answer) ≡ Some last
  pub number : slice_index (numbers_of l.caller 1 w.events) (answer.own_event - 1) ≡ suc last.before

abbrev pub ReportsTellLastEvents : Type 0
ReportsTellLastEvents = Always (λ c m w. (k i : ℕ) (l : Local) (answer : Answered) → slice_get w.locals k ≡ Some l → slice_get l.answers i ≡ Some answer → IsNumbered w k l (take i l.answers) answer)
