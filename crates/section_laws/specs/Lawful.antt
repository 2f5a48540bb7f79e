-- The states of a run: what regions and callers are after some sections of a trace.
use Rattle.std.specs.Prelude.{◌≡◌, ℕ, true, List, slice_get, Some}
use Rattle.vm_model.specs.declared.calls.Call.{Call}
use Rattle.vm_model.specs.declared.calls.Call.TheVariants.{Add}
use Rattle.vm_model.specs.Words.{is_amount}
use Rattle.vm_model.specs.Setup.{Setup}
use Rattle.vm_model.specs.History.{World, Local}
use Rattle.vm_model.specs.LegalHistory.{IsReached}
use Rattle.vm_model.specs.Rules.{IsTrace}
use Rattle.vm_model.specs.Parts.{Region, state_of}

-- the amounts that are added are signed numbers of 32 bits
abbrev pub IsSmall : Call → Type 0
IsSmall (Add t cpu index amount) = is_amount amount ≡ true
IsSmall _ = Unit {0}

abbrev pub AreSmall : List Call → Type 0
AreSmall calls = (i : ℕ) (call : Call) → slice_get calls i ≡ Some call → IsSmall call

-- a world of a trace
pub record IsRunning (c : Setup) (opening : List Call) (calls : List (List Call)) (w : World) : Type 0 where
  pub trace : IsTrace c opening calls
  pub opening_small : AreSmall opening
  pub callers_small : (k : ℕ) (own : List Call) → slice_get calls k ≡ Some own → AreSmall own
  pub reached : IsReached c opening calls w

-- regions and locals that are the parts of such a world
abbrev pub IsLawful : List Region → List Local → Type 0
IsLawful regions locals = (c : Setup) × (opening : List Call) × (calls : List (List Call)) × (w : World) × IsRunning c opening calls w × ((regions, locals) ≡ state_of c w)
