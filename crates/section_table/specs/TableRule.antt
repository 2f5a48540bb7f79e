-- The rule of the table, which holds between any two steps.
-- Word 0 is the next stamp, word 1 is 1 where a pass has halted, and word k + 2 is 1 while the turn of the region k is taken.
use Rattle.std.specs.Prelude.{◌≡◌, ℕ, ◌+◌, ◌^◌, ◌<◌, ◌≤◌, Bool, true, List, length, slice_index, slice_get, Option, Some}
use mathlib.Core.Option.{some}
use lib.ListN.{get_elem?}
use Rattle.atomic_table.specs.Table.{State}
use Rattle.vm_model.specs.Run.{state_after}
use Rattle.section_laws.specs.MovesInTurn.{AllMove}
use Rattle.section_table.specs.declared.views.Held.{Held}
use Rattle.section_table.specs.declared.views.View.{View}
use Rattle.section_table.specs.Meanings.{Meanings}
use Rattle.section_table.specs.CallerPlaces.{places, AreBelow}
use Rattle.section_table.specs.PassViews.{Has, HasCaller}

module _ {R L : Type 0} where
  -- of the view of one seat: `log` is the callers of all stamps so far, and s is what they left
  pub record IsViewOf (owner holder : ℕ → ℕ) (words log : List ℕ) (s : List R × List L) (seat : ℕ) (v : View R L) : Type 0 where
    -- a caller is in one view at most, with its local after the log and all stamps at which it stands there
    pub callers : (caller : ℕ) (h : Held L) → Has v caller h → (owner caller ≡ seat) × (slice_get s.1 caller ≡ Some h.local) × (h.stamps ≡ places caller log)
    pub stamps : (caller : ℕ) (h : Held L) → Has v caller h → AreBelow v.floor h.stamps
    pub floor : v.floor ≤ length log
    pub short : length v.held ≤ 32
    -- a region in hand is in no other hand, its turn is taken, its value is that after the log, and the pass has a caller
    pub hand : (k : ℕ) (r : R) → v.hand ≡ Some (k, r) → (holder k ≡ seat) × (slice_index words (k + 2) ≡ 1) × (slice_get s.0 k ≡ Some r) × ((caller : ℕ) × HasCaller caller v)
    pub saw : v.saw_halt ≡ true → slice_index words 1 ≡ 1
    pub made : v.made_halt ≡ true → slice_index words 1 ≡ 1

  -- a caller is in some view
  abbrev pub IsKept : (ℕ → ℕ) → List (View R L) → ℕ → Type 0
  IsKept owner views caller = (v : View R L) × (get_elem? views (owner caller) ≡ some v) × HasCaller caller v

  -- of one region: it is at home, or in a hand
  pub record IsRegionOf (holder : ℕ → ℕ) (t : State R (View R L)) (s : List R × List L) (k : ℕ) : Type 0 where
    pub turn : slice_index t.words (k + 2) < 2
    pub home : slice_index t.words (k + 2) ≡ 0 → (r : R) × (get_elem? t.homes k ≡ some (some r)) × (slice_get s.0 k ≡ Some r)
    pub away : slice_index t.words (k + 2) ≡ 1 → (v : View R L) × (r : R) × (get_elem? t.views (holder k) ≡ some v) × (v.hand ≡ Some (k, r))

  abbrev pub HasHaltMade : List (View R L) → Type 0
  HasHaltMade views = (seat : ℕ) × (v : View R L) × (get_elem? views seat ≡ some v) × (v.made_halt ≡ true)

  pub record IsRuled (m : Meanings R L) (regions : List R) (locals : List L) (t : State R (View R L)) : Type 0 where
    -- the callers of all stamps so far, which view has each caller, and which has each region in hand
    pub log : List ℕ
    pub owner : ℕ → ℕ
    pub holder : ℕ → ℕ
    pub few : length locals ≤ 32
    pub wide : length t.words ≡ length regions + 2
    pub deep : length t.homes ≡ length regions
    pub next : slice_index t.words 0 ≡ length log
    pub bounded : (caller : ℕ) → length (places caller log) ≤ 2 ^ 58
    pub moving : AllMove m.wanted m.moves m.after (regions, locals) log
    pub law : let s : List R × List L = state_after m.wanted m.moves m.after (regions, locals) log in m.lawful s.0 s.1
    pub each_view : (seat : ℕ) (v : View R L) → get_elem? t.views seat ≡ some v → IsViewOf owner holder t.words log (state_after m.wanted m.moves m.after (regions, locals) log) seat v
    pub kept : (caller : ℕ) → caller < length locals → IsKept owner t.views caller
    pub each_region : (k : ℕ) → k < length regions → IsRegionOf holder t (state_after m.wanted m.moves m.after (regions, locals) log) k
    pub halted : slice_index t.words 1 < 2
    pub halts : slice_index t.words 1 ≡ 1 → HasHaltMade t.views
