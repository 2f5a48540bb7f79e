-- What one try of a caller tells: v is what the seat knew before, and w what it knows after; h is what the caller had, and h' what it has.
use Rattle.std.specs.Prelude.{◌≡◌, ◌≤◌, ℕ, true, false, Option, Some, None, Result, Ok, Err, ◌++◌, ◌∷◌, []}
use Rattle.vm_model.specs.Run.{StandTogether}
use Rattle.section_table.specs.declared.views.Held.{Held}
use Rattle.section_table.specs.declared.views.View.{View}
use Rattle.section_table.specs.Meanings.{Meanings}
use Rattle.section_table.specs.PassViews.{Has, holding, with_event}
use Rattle.section_table.specs.TableSteps.{IsPast}

module _ {R L : Type 0} (m : Meanings R L) (caller number : ℕ) (v w : View R L) (h h' : Held L) where
  -- the section moved: the local is what it leaves, and there is one stamp more
  pub record IsEvent (stamp : ℕ) : Type 0 where
    pub region : R
    pub together : StandTogether m.wanted m.lawful h.local region
    pub moves : m.moves h.local region ≡ true
    pub local : h'.local ≡ (m.after h.local region).0
    pub stamps : h'.stamps ≡ h.stamps ++ stamp ∷ []
    pub leaves : holding None w ≡ holding None (with_event caller h h'.local stamp v)
    pub past : IsPast m v stamp

  abbrev pub IsUnchanged : Type 0
  IsUnchanged = (w ≡ v) × (h' ≡ h)

  abbrev pub MakesSection : {E : Type 0} → Result (Option ℕ) E → Type 0
  MakesSection (Ok (Some stamp)) = IsEvent stamp
  MakesSection (Ok None) = IsUnchanged
  MakesSection (Err error) = IsUnchanged

-- the same of a caller in a list
module _ {R L : Type 0} (m : Meanings R L) (caller number : ℕ) (v w : View R L) where
  pub record IsEventOf (stamp : ℕ) : Type 0 where
    pub held : Held L
    pub region : R
    pub has : Has v caller held
    pub wants : m.wanted held.local ≡ Some number
    pub together : StandTogether m.wanted m.lawful held.local region
    pub moves : m.moves held.local region ≡ true
    pub leaves : w ≡ with_event caller held (m.after held.local region).0 stamp v
    pub past : IsPast m v stamp
    pub reach : m.reach (m.after held.local region).0 ≤ m.reach held.local

  abbrev pub Attempts : {E : Type 0} → Result (Option ℕ) E → Type 0
  Attempts (Ok (Some stamp)) = IsEventOf stamp
  Attempts (Ok None) = w ≡ v
  Attempts (Err error) = w ≡ v
