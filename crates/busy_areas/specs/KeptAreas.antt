-- How a map keeps live areas by their start.
use Rattle.std.specs.Prelude.{◌≡◌, ℕ, true, false, ◌+◌, ◌^◌, ◌<◌, ◌≤◌, List, [], ◌∷◌, length, map, All}
use Rattle.std.specs.Map.{values_of}
use Rattle.vm_model.specs.declared.areas.Span.{Span}
use Rattle.vm_model.specs.declared.areas.Area.{Area}
use Rattle.vm_model.specs.declared.areas.AreaKind.{AreaKind}
use Rattle.vm_model.specs.Space.{end_of, holds, covers, times}
use Rattle.vm_model.specs.Areas.{spans_of, areas_of, with_areas}

-- each entry's key is the start of its area, which has a page and begins from low on, and each begins at the end of the one before or behind it
abbrev pub AreApartFrom : ℕ → List (ℕ × Area) → Type 0
AreApartFrom low [] = Unit {0}
AreApartFrom low (e ∷ entries) = (e.0 ≡ e.1.span.start) × (low ≤ e.0) × (0 < e.1.span.pages) × AreApartFrom (end_of e.1.span) entries

-- the serials are below the next one
abbrev pub AreBelow : ℕ → List (ℕ × Area) → Type 0
AreBelow next [] = Unit {0}
AreBelow next (e ∷ entries) = (e.1.serial < next) × AreBelow next entries

-- areas by start, each with a serial below the next
pub record AreKept (entries : List (ℕ × Area)) (next : ℕ) : Type 0 where
  pub apart : AreApartFrom 0 entries
  pub serials : AreBelow next entries
  pub count : length entries < next
  pub fits : next < 2 ^ 32

-- no area has a page of the span
abbrev pub IsUnused : List Area → Span → Type 0
IsUnused areas s = (page : ℕ) → holds s page ≡ true → covers (spans_of areas) page ≡ false

-- the spans that are to become areas
abbrev pub asked_spans : List (Span × AreaKind) → List Span
asked_spans new = map (λ (p : Span × AreaKind). p.0) new

-- each of them has a page, and no page of theirs is in an area or in two of them
pub record CanJoin (areas : List Area) (new : List (Span × AreaKind)) : Type 0 where
  pub pages : All (λ (s : Span). 0 < s.pages) (asked_spans new)
  pub unused : (page : ℕ) → covers (asked_spans new) page ≡ true → covers (spans_of areas) page ≡ false
  pub apart : (page : ℕ) → times page (asked_spans new) ≤ 1

-- where they start
abbrev pub asked_starts : List (Span × AreaKind) → List ℕ
asked_starts new = map (λ (p : Span × AreaKind). p.0.start) new

-- the entries are the old ones and those of a caller's new areas, with serials from the first on
pub record AreJoined (caller first : ℕ) (new : List (Span × AreaKind)) (old entries : List (ℕ × Area)) : Type 0 where
  pub areas : values_of entries ≡ with_areas (areas_of caller first new) (values_of old)
  pub apart : AreApartFrom 0 entries
  pub serials : AreBelow first old → AreBelow (first + length new) entries
  pub count : length entries ≤ length old + length new
