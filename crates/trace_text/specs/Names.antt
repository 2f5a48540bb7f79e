-- The names of a section as they are kept: each as a number, with the place of its call.
use Rattle.std.specs.Prelude.{◌≡◌, ℕ, ◌+◌, ◌-◌, ◌*◌, ◌/◌, ◌%◌, ◌^◌, ◌==◌, max, if◌then◌else◌, Bool, true, false, List, [], ◌∷◌, length, slice_get, Option, Some, None}
use Rattle.std.specs.BTreeMap.{is_at}
use Rattle.std.specs.Map.{lookup}
use Rattle.std.specs.Ordering.{nat_cmp}
use Rattle.vm_model.specs.Words.{is_letter, is_name}
use Rattle.trace_text.specs.declared.names.Kept.{Kept}

-- the letters are 1 to 26, the digits 27 to 36
abbrev pub symbol : ℕ → ℕ
symbol b = if is_letter b then b - 96 else b - 21

-- a name as a number to base 37, its first letter the lowest digit
abbrev pub number_of : List ℕ → ℕ
number_of [] = 0
number_of (b ∷ name) = number_of name * 37 + symbol b

-- slots of one number each, and the numbers that had their slot taken by another
pub record NameTable : Type 0 where
  pub slots : List (Option Kept)
  pub rest : List (ℕ × ℕ)

-- the slot of a number among so many
unfoldable pub slot_of : ℕ → ℕ → ℕ
slot_of slots number = number * 11400714819323198485 % 2 ^ 64 / 2 ^ 32 % max slots 1

-- the place of a number among the rest
abbrev pub place_in_rest : List (ℕ × ℕ) → ℕ → Option ℕ
place_in_rest rest number = lookup (is_at (nat_cmp number)) rest

-- its place, by what its slot has: where that is empty, or there are no slots, there is none
abbrev pub place_by : List (ℕ × ℕ) → ℕ → Option (Option Kept) → Option ℕ
place_by rest number None = None
place_by rest number (Some None) = None
place_by rest number (Some (Some kept)) = if kept.number == number then Some kept.place else place_in_rest rest number

abbrev pub place_at : NameTable → ℕ → Option ℕ
place_at t number = place_by t.rest number (slice_get t.slots (slot_of (length t.slots) number))

-- the place of a name's call in its section, from 0
abbrev pub place_of : NameTable → List ℕ → Option ℕ
place_of t name = if is_name name then place_at t (number_of name) else None

-- whether a slot is empty, or not there
abbrev pub has_none : Option (Option Kept) → Bool
has_none None = true
has_none (Some None) = true
has_none (Some (Some kept)) = false

-- no number is among the rest whose slot is empty
abbrev pub IsTable : NameTable → Type 0
IsTable t = (number : ℕ) → has_none (slice_get t.slots (slot_of (length t.slots) number)) ≡ true → place_in_rest t.rest number ≡ None
