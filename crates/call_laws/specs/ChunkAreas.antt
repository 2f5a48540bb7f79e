-- Where the areas of a chunk stand, and which pages of it never get frames.
use Rattle.std.specs.Prelude.{◌≡◌, ℕ, ◌+◌, ◌%◌, true, false, slice_get, Some}
use Rattle.vm_model.specs.declared.areas.Span.{Span}
use Rattle.vm_model.specs.declared.areas.Area.{Area}
use Rattle.vm_model.specs.declared.areas.AreaKind.TheVariants as kind
use Rattle.vm_model.specs.Space.{span, covers, is_among, count_from}
use Rattle.vm_model.specs.Setup.{Setup, groups_at, pages_in_units}
use Rattle.vm_model.specs.PlainMap.{PlainMap, Chunk}
use Rattle.vm_model.specs.Legal.{IsUnmapped}
use Rattle.vm_model.specs.Laws.{Always}

-- the span of a group at a base
abbrev pub IsGroupAt : Setup → (base group : ℕ) → Span → Type 0
IsGroupAt c base group s = (g : Span) × (slice_get c.groups group ≡ Some g) × (s ≡ span (base + g.start) g.pages)

-- the chunk's base is a multiple of the atom, each group has its live area there, and no area of the chunk stands elsewhere
pub record StandsAtItsBase (c : Setup) (m : PlainMap) (h : Chunk) : Type 0 where
  pub aligned : h.base % c.atom ≡ 0
  pub each : (group : ℕ) (g : Span) → slice_get c.groups group ≡ Some g → (i : ℕ) × (a : Area) × (slice_get m.areas i ≡ Some a) × (a.kind ≡ kind.Chunk h.number group) × (a.span ≡ span (h.base + g.start) g.pages)
  pub others : (i group : ℕ) (a : Area) → slice_get m.areas i ≡ Some a → a.kind ≡ kind.Chunk h.number group → IsGroupAt c h.base group a.span

abbrev pub ChunksHaveOneBase : Type 0
ChunksHaveOneBase = Always (λ c m w. (i : ℕ) (h : Chunk) → slice_get w.map.chunks i ≡ Some h → StandsAtItsBase c w.map h)

-- no page of a chunk beyond the units of the processors is mapped
abbrev pub UnitsBeyondProcessorsAreUnmapped : Type 0
UnitsBeyondProcessorsAreUnmapped = Always (λ c m w. (i : ℕ) (h : Chunk) → slice_get w.map.chunks i ≡ Some h
    → (page : ℕ) → covers (groups_at c h.base) page ≡ true → is_among (pages_in_units c h.base (count_from c.unit_pages 0)) page ≡ false → IsUnmapped w.map page)
