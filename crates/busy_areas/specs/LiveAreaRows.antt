-- What the side of live areas keeps.
use Rattle.std.specs.Prelude.{ℕ, ◌+◌, List, length}
use Rattle.vm_model.specs.declared.areas.Span.{Span}
use Rattle.vm_model.specs.declared.areas.Area.{Area}
use Rattle.vm_model.specs.declared.areas.AreaKind.{AreaKind}
use Rattle.vm_model.specs.Areas.{areas_of, with_areas}

-- the areas by rising start, and the serial of the next
pub record LiveRows : Type 0 where
  pub areas : List Area
  pub next : ℕ

-- with new areas of a caller among the others, which get the next serials in their order
abbrev pub with_new : ℕ → List (Span × AreaKind) → LiveRows → LiveRows
with_new caller new rows = record { areas = with_areas (areas_of caller rows.next new) rows.areas; next = rows.next + length new }
