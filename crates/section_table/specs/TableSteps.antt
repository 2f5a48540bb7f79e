-- What single steps of the table tell.
use Rattle.std.specs.Prelude.{◌≡◌, ◌≢◌, ℕ, ◌==◌, true, List, [], ◌∷◌, slice_get, Some}
use Rattle.atomic_table.specs.Table.{Me}
use Rattle.section_table.specs.declared.views.Held.{Held}
use Rattle.section_table.specs.declared.views.View.{View}
use Rattle.section_table.specs.Meanings.{Meanings}
use Rattle.section_table.specs.CallerPlaces.{AreBelow}
use Rattle.section_table.specs.PassViews.{Has, flagged, holding, with_event}

module _ {R L : Type 0} (m : Meanings R L) where
  -- the pass's callers and the region k with the value r stand in one lawful state
  abbrev pub Meet : View R L → ℕ → R → Type 0
  Meet v k r = (caller : ℕ) (h : Held L) → Has v caller h → (regions : List R) × (locals : List L) × m.lawful regions locals × (slice_get locals caller ≡ Some h.local) × (slice_get regions k ≡ Some r)

  -- nothing where the turn of the region k was found taken; else the region is out with the seat
  abbrev pub Takes : ℕ → Me R (View R L) → ℕ → Me R (View R L) → Type 0
  Takes k me found me' =
      (found ≢ 0 → me' ≡ me)
      × (found ≡ 0 → (r : R) × (me' ≡ (holding (Some (k, r)) me.0, (k, r) ∷ me.1)) × Meet me.0 k r)

  -- the caller has made the event of the region in hand
  abbrev pub drawn : View R L → ℕ → Held L → ℕ → R → ℕ → View R L
  drawn v caller h k r stamp = holding (Some (k, (m.after h.local r).1)) (with_event caller h (m.after h.local r).0 stamp v)

  -- the stamp is above all that the pass had
  abbrev pub IsPast : View R L → ℕ → Type 0
  IsPast v stamp = (caller : ℕ) (h : Held L) → Has v caller h → AreBelow stamp h.stamps

  abbrev pub Draws : ℕ → Me R (View R L) → ℕ → Me R (View R L) → Type 0
  Draws caller me stamp me' = (me'.1 ≡ me.1) × IsPast me.0 stamp
      × ((h : Held L) (k : ℕ) (r : R) → Has me.0 caller h → me.0.hand ≡ Some (k, r) → me'.0 ≡ drawn me.0 caller h k r stamp)

module _ {R L : Type 0} where
  -- the word that is read says whether there was a halt; a pass that has seen one finds it again
  abbrev pub Reads : Me R (View R L) → ℕ → Me R (View R L) → Type 0
  Reads me found me' = (me.0.saw_halt ≡ true → found ≡ 1) × (me' ≡ (flagged (found == 1) me.0.made_halt me.0, me.1))
