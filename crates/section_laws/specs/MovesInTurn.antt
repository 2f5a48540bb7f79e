-- Sections keep a state lawful, and callers that move in turn are picks of the world.
use Rattle.std.specs.Prelude.{◌≡◌, ℕ, ◌+◌, max, Bool, true, ◌&&◌, List, [], ◌∷◌, length, Option, Some, None, slice_get}
use Rattle.vm_model.specs.declared.calls.Call.{Call}
use Rattle.vm_model.specs.Setup.{Setup, cpus}
use Rattle.vm_model.specs.History.{World, Local, step, pick_all, moves_in}
use Rattle.vm_model.specs.Parts.{Region, wants, moves, after, state_of}
use Rattle.vm_model.specs.Run.{section_by, state_after, StandTogether}
use Rattle.map_parts.specs.SectionRuns.{KeepsLawful}
use Rattle.section_laws.specs.Lawful.{IsRunning, IsLawful}

abbrev pub SectionsKeepLawful : Type 0
SectionsKeepLawful = KeepsLawful wants moves after IsLawful

-- a number above that of each region that a caller may want: above its own, and no less than there are
abbrev pub above : Option ℕ → ℕ → ℕ
above None n = n
above (Some k) n = max (1 + k) n

abbrev pub reach : Local → ℕ
reach l = above (wants l) (8 + cpus l.setup)

abbrev pub ReachIsTheRegions : Type 0
ReachIsTheRegions = (rs : List Region) (ls : List Local) (k : ℕ) (l : Local) → IsLawful rs ls → slice_get ls k ≡ Some l → reach l ≡ length rs

abbrev pub SectionsKeepReach : Type 0
SectionsKeepReach = (l : Local) (r : Region) → StandTogether wants IsLawful l r → moves l r ≡ true → reach (after l r).0 ≡ reach l

-- the caller wants a region, and moves there; and so does each of these in turn
module _ {R L : Type 0} (wanted : L → Option ℕ) (moves : L → R → Bool) (after : L → R → L × R) where
  abbrev pub Moves : List R × List L → ℕ → Type 0
  Moves s caller = (l : L) × (region : ℕ) × (r : R) × (slice_get s.1 caller ≡ Some l) × (wanted l ≡ Some region) × (slice_get s.0 region ≡ Some r) × (moves l r ≡ true)

  abbrev pub AllMove : List R × List L → List ℕ → Type 0
  AllMove s [] = Unit {0}
  AllMove s (caller ∷ callers) = Moves s caller × AllMove (section_by wanted moves after s caller (slice_get s.1 caller)) callers

-- the same of picks, in the worlds that they lead to
abbrev pub all_move : World → List ℕ → Bool
all_move w [] = true
all_move w (k ∷ picks) = moves_in w (slice_get w.locals k) && all_move (step w k) picks

abbrev pub TurnsArePicks : Type 0
TurnsArePicks = (c : Setup) (opening : List Call) (calls : List (List Call)) (w : World) (callers : List ℕ) → IsRunning c opening calls w → AllMove wants moves after (state_of c w) callers
    → (all_move w callers ≡ true) × (state_after wants moves after (state_of c w) callers ≡ state_of c (pick_all w callers))
