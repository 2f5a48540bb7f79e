-- The laws of every history, said of one world: of its calls and of its map.
use Rattle.std.specs.Prelude.{◌≡◌, ℕ, ◌-◌, List, ◌∷◌, take, slice_get, Some}
use Rattle.vm_model.specs.declared.areas.Area.{Area}
use Rattle.vm_model.specs.declared.areas.AreaKind.TheVariants as kind
use Rattle.vm_model.specs.declared.calls.Call.{Call}
use Rattle.vm_model.specs.declared.calls.Target.{Target}
use Rattle.vm_model.specs.declared.calls.Reply.TheVariants as reply
use Rattle.vm_model.specs.Space.{end_of}
use Rattle.vm_model.specs.Setup.{Setup}
use Rattle.vm_model.specs.PlainMap.{PlainMap, Block, Chunk, at_first}
use Rattle.vm_model.specs.Legal.{IsUnmapped}
use Rattle.vm_model.specs.Calls.{Answered}
use Rattle.vm_model.specs.History.{World, Local, placing_calls}
use Rattle.vm_model.specs.LegalHistory.{IsReached}
use Rattle.vm_model.specs.Rules.{IsTrace}
use Rattle.vm_model.specs.Carried.{IsKept}
use Rattle.vm_model.specs.Laws.{AreAreasApart, AreFreePagesClean, IsFreedAt, DoPagesWait, AreObjectsMapped, AreSumsAdds, ArePartsApart, IsPurgeLast}
use Rattle.map_laws.specs.TwoTurns.{AreTurnsKept}
use Rattle.map_laws.specs.WaitingPages.{IsFreedWell}
use Rattle.call_laws.specs.Opening.{IsOpeningFirst}
use Rattle.call_laws.specs.Histories.{OwnSection, own_sections, sections, sections_for, HasShapesOfCalls}
use Rattle.call_laws.specs.ExactReplies.{ComesExactly}
use Rattle.call_laws.specs.CallTargets.{target_in, IsTargeted}
use Rattle.call_laws.specs.ReplyNumbers.{IsNumbered}
use Rattle.call_laws.specs.Causes.{WereLegal, searched_for, FoundNoHole, HasItsCause}
use Rattle.call_laws.specs.Room.{IsRoomCounted}
use Rattle.call_laws.specs.ChunkAreas.{StandsAtItsBase}
use Rattle.call_laws.specs.Guards.{AreGuardsBare}

-- the map before the first event
abbrev pub first_map : Setup → (opening : List Call) → (calls : List (List Call)) → PlainMap
first_map c opening calls = at_first c (placing_calls (opening ∷ calls))

-- a fact about each answer and the own sections of its call
abbrev pub OnAnswers : World → (Local → (i : ℕ) → Answered → List OwnSection → Type 0) → Type 0
OnAnswers w P = (k i : ℕ) (l : Local) (answer : Answered) → slice_get w.locals k ≡ Some l → slice_get l.answers i ≡ Some answer → P l i answer (sections_for (own_sections k w.events) (take i l.answers) answer)

pub record KeepsTheLaws (c : Setup) (opening : List Call) (calls : List (List Call)) (w : World) : Type 0 where
  -- calls and their replies
  pub opening_first : IsOpeningFirst w
  pub shapes : (k : ℕ) (l : Local) → slice_get w.locals k ≡ Some l → HasShapesOfCalls c (opening ∷ calls) w k l
  pub targets : (k i : ℕ) (l : Local) (answer : Answered) (t : Target) → slice_get w.locals k ≡ Some l → slice_get l.answers i ≡ Some answer → target_in answer.call ≡ Some t
      → IsTargeted c w k l (take i l.answers) answer (sections_for (own_sections k w.events) (take i l.answers) answer) t
  pub legal : WereLegal c (first_map c opening calls) w.events
  pub causes : OnAnswers w (λ l i answer own. HasItsCause c (first_map c opening calls) w.events l.opening (take i l.answers) answer.call answer.reply own)
  pub exactly : OnAnswers w (λ l i answer own. ComesExactly c l.opening (take i l.answers) answer.call answer.reply (sections own))
  pub numbers : (k i : ℕ) (l : Local) (answer : Answered) → slice_get w.locals k ≡ Some l → slice_get l.answers i ≡ Some answer → IsNumbered w k l (take i l.answers) answer
  -- a no-space is the map's own search that finds no hole after that call's own purge
  pub no_space : OnAnswers w (λ l i answer own. answer.reply ≡ reply.NoSpace → FoundNoHole c (first_map c opening calls) w.events (searched_for c answer.call) own)
  pub room : IsRoomCounted (opening ∷ calls) w
  -- the map
  pub apart : AreAreasApart c w
  pub guard : (i : ℕ) (a : Area) → slice_get w.map.areas i ≡ Some a → a.kind ≡ kind.Vmalloc → IsUnmapped w.map (end_of a.span - 1)
  pub bare_guards : AreGuardsBare c (first_map c opening calls) w
  pub clean : AreFreePagesClean w.map
  pub waits : DoPagesWait c (first_map c opening calls) w.events
  pub waited : (page k : ℕ) → IsFreedAt c (first_map c opening calls) w.events page k → IsFreedWell c (first_map c opening calls) w.events page k
  pub parts : (i : ℕ) (b : Block) → slice_get w.map.blocks i ≡ Some b → ArePartsApart c b
  pub objects : AreObjectsMapped c w.map
  pub bases : (i : ℕ) (h : Chunk) → slice_get w.map.chunks i ≡ Some h → StandsAtItsBase c w.map h
  pub sums : AreSumsAdds c w
  pub turns : AreTurnsKept w
  pub purge_last : IsPurgeLast w
  pub carried : IsKept c w

abbrev pub ReachedWorldsKeepTheLaws : Type 0
ReachedWorldsKeepTheLaws = (c : Setup) (opening : List Call) (calls : List (List Call)) (w : World) → IsTrace c opening calls → IsReached c opening calls w → KeepsTheLaws c opening calls w
