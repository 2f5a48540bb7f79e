-- The lists that a pass with all callers comes to.
use Rattle.std.specs.Prelude.{◌≡◌, ℕ, suc, List, [], ◌∷◌, Option, Some, None, slice_get, slice_set}
use Rattle.section_table.specs.declared.views.Held.{Held}
use Rattle.section_table.specs.CallerPlaces.{AreBelow}

-- the caller at each of these places
abbrev pub written : List ℕ → (caller : ℕ) → List ℕ → List ℕ
written picks caller [] = picks
written picks caller (stamp ∷ stamps) = written (slice_set picks stamp caller) caller stamps

module _ {L : Type 0} where
  -- each caller, from this one on, at the places that its stamps name
  abbrev pub all_written : List ℕ → (caller : ℕ) → List (Option (Held L)) → List ℕ
  all_written picks caller [] = picks
  all_written picks caller (None ∷ held) = all_written picks (suc caller) held
  all_written picks caller (Some h ∷ held) = all_written (written picks caller h.stamps) (suc caller) held

  abbrev pub locals_of : List (Option (Held L)) → List L
  locals_of [] = []
  locals_of (None ∷ held) = locals_of held
  locals_of (Some h ∷ held) = h.local ∷ locals_of held

  -- no stamp is n or more
  abbrev pub HasStampsBelow : ℕ → List (Option (Held L)) → Type 0
  HasStampsBelow n held = (caller : ℕ) (h : Held L) → slice_get held caller ≡ Some (Some h) → AreBelow n h.stamps
