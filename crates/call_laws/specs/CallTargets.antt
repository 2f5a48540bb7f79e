-- What a call names by its target is what the target's own call got.
use Rattle.std.specs.Prelude.{◌≡◌, ℕ, ◌-◌, ◌⊎◌, true, false, List, take, slice_get, Option, Some, None}
use Rattle.vm_model.specs.declared.calls.Target.{Target}
use Rattle.vm_model.specs.declared.calls.Call.{Call}
use Rattle.vm_model.specs.declared.calls.Call.TheVariants.{Vmalloc, Vfree, MapRam, UnmapRam, AllocPercpu, AllocAtomic, FreePercpu, Add, Sum}
use Rattle.vm_model.specs.declared.calls.Reply.TheVariants as reply
use Rattle.vm_model.specs.Setup.{Setup}
use Rattle.vm_model.specs.Blocks.{first_page}
use Rattle.vm_model.specs.Events.{Section, Refuse, Remove, AreaNotLive, BeginUnmap, PartNotLive, FreeObject, ObjectNotLive, AddWord, SumWords}
use Rattle.vm_model.specs.Places.{Made, MadeNothing, MadeArea, MadePart, MadeObject}
use Rattle.vm_model.specs.Calls.{Answered, answers_in}
use Rattle.vm_model.specs.History.{World, Local}
use Rattle.vm_model.specs.LegalHistory.{IsReached}
use Rattle.vm_model.specs.Rules.{IsTrace}
use Rattle.call_laws.specs.Histories.{OwnSection, own_sections, sections, sections_for, IsNoAddress, IsAnswerOf}

abbrev pub target_in : Call → Option Target
target_in (Vfree t) = Some t
target_in (UnmapRam t) = Some t
target_in (FreePercpu t) = Some t
target_in (Add t cpu index amount) = Some t
target_in (Sum t index) = Some t
target_in _ = None

-- what a call of each kind can make
abbrev pub CanMake : Call → Made → Type 0
CanMake call MadeNothing = Unit {0}
CanMake (Vmalloc bytes align) (MadeArea start serial) = Unit {0}
CanMake (MapRam cpu pages) (MadeArea start serial) = Unit {0}
CanMake (MapRam cpu pages) (MadePart own page serial) = Unit {0}
CanMake (AllocPercpu bytes align) (MadeObject at serial) = Unit {0}
CanMake (AllocAtomic bytes align) (MadeObject at serial) = Unit {0}
CanMake _ _ = ⊥

-- the section names what was made, by its place and its serial
abbrev pub Names : Made → Section → Type 0
Names (MadeArea start serial) (Remove at number area) = (at ≡ start) × (number ≡ serial)
Names (MadeArea start serial) (AreaNotLive at number) = (at ≡ start) × (number ≡ serial)
Names (MadePart cpu page serial) (BeginUnmap at number) = (at.cpu ≡ cpu) × (first_page at ≡ page) × (number ≡ serial)
Names (MadePart cpu page serial) (PartNotLive own at number) = (own ≡ cpu) × (at ≡ page) × (number ≡ serial)
Names (MadeObject object serial) (FreeObject at number) = (at ≡ object) × (number ≡ serial)
Names (MadeObject object serial) (ObjectNotLive at number) = (at ≡ object) × (number ≡ serial)
Names (MadeObject object serial) (AddWord at number cpu index amount) = (at ≡ object) × (number ≡ serial)
Names (MadeObject object serial) (SumWords at number index total) = (at ≡ object) × (number ≡ serial)
Names _ _ = ⊥

-- the answer of a target's call, among those of the opening's caller or of the same caller: it made what it settled, and the call's first section names that, or the desk refused the call; it is unbound exactly where that call was answered without an address
pub record IsTargeted (c : Setup) (w : World) (k : ℕ) (l : Local) (before : List Answered) (answer : Answered) (own : List OwnSection) (t : Target) : Type 0 where
  pub caller : ℕ
  pub other : Local
  pub target : Answered
  pub there : slice_get w.locals caller ≡ Some other
  pub whose : ((t.opening ≡ true) × (caller ≡ 0)) ⊎ ((t.opening ≡ false) × (caller ≡ k))
  pub at : slice_get (answers_in l.opening before t) (t.call - 1) ≡ Some target
  pub is : IsAnswerOf c other.opening other.calls (own_sections caller w.events) (t.call - 1) (take (t.call - 1) other.answers) target
  pub can : CanMake target.call target.made
  pub names : (s : Section) → slice_get (sections own) 0 ≡ Some s → (s ≡ Refuse) ⊎ Names target.made s
  pub unbound : answer.reply ≡ reply.Unbound → IsNoAddress target.reply
  pub else_bound : IsNoAddress target.reply → answer.reply ≡ reply.Unbound

abbrev pub TargetsAreWhatTheirCallsGot : Type 0
TargetsAreWhatTheirCallsGot = (c : Setup) (opening : List Call) (calls : List (List Call)) (w : World) → IsTrace c opening calls → IsReached c opening calls w
    → (k i : ℕ) (l : Local) (answer : Answered) (t : Target) → slice_get w.locals k ≡ Some l → slice_get l.answers i ≡ Some answer → target_in answer.call ≡ Some t
    → IsTargeted c w k l (take i l.answers) answer (sections_for (own_sections k w.events) (take i l.answers) answer) t
