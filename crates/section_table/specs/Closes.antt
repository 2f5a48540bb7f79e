-- What a table comes to.
use Rattle.std.specs.Prelude.{◌≡◌, ℕ, List, Some, slice_get}
use Rattle.vm_model.specs.Run.{state_after}
use Rattle.section_laws.specs.MovesInTurn.{AllMove}
use Rattle.section_table.specs.declared.views.Held.{Held}
use Rattle.section_table.specs.declared.views.View.{View}
use Rattle.section_table.specs.declared.table.Key.{Key}
use Rattle.section_table.specs.declared.closed.Closed.{Closed}
use Rattle.section_table.specs.Meanings.{Meanings}
use Rattle.section_table.specs.CallerPlaces.{places}
use Rattle.section_table.specs.PassViews.{Has}

module _ {R L : Type 0} where
  -- the regions and locals at the start
  abbrev pub state_of_key : Key R L → List R × List L
  state_of_key key = (key.regions.value.items, key.locals.value.items)

  -- each caller of the picks moves after those before it, and the regions and locals are what all of them leave. The pass's locals
  -- are among these, and each stamp that it had is a place of its caller among the picks
  pub record IsClosed (m : Meanings R L) (key : Key R L) (v : View R L) (z : Closed R L) : Type 0 where
    pub moving : AllMove m.wanted m.moves m.after (state_of_key key) z.picks.items
    pub leaves : (z.regions.items, z.locals.items) ≡ state_after m.wanted m.moves m.after (state_of_key key) z.picks.items
    pub locals : (caller : ℕ) (h : Held L) → Has v caller h → slice_get z.locals.items caller ≡ Some h.local
    pub told : (caller : ℕ) (h : Held L) → Has v caller h → h.stamps ≡ places caller z.picks.items
