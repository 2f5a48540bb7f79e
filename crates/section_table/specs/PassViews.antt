-- What a pass knows, and what splits, joins, halts and events leave of it.
use Rattle.std.specs.Prelude.{◌≡◌, ℕ, zero, suc, ◌+◌, ◌<◌, ◌≤◌, ◌||◌, max, Bool, true, false, List, [], ◌∷◌, ◌++◌, map, Option, Some, None, slice_get, slice_set}
use Rattle.section_table.specs.declared.views.Held.{Held}
use Rattle.section_table.specs.declared.views.View.{View}

module _ {X : Type 0} where
  -- one place of a list, and none before it
  abbrev pub only : ℕ → List (Option X) → List (Option X)
  only place [] = []
  only zero (x ∷ xs) = x ∷ []
  only (suc place) (x ∷ xs) = None ∷ only place xs

  -- place by place the first list's, or else the second's
  abbrev pub merged : List (Option X) → List (Option X) → List (Option X)
  merged [] ys = ys
  merged (x ∷ xs) [] = x ∷ xs
  merged (Some x ∷ xs) (y ∷ ys) = Some x ∷ merged xs ys
  merged (None ∷ xs) (y ∷ ys) = y ∷ merged xs ys

  -- an element at a place that has none, or at the end
  abbrev pub put_at : List (Option X) → ℕ → Option X → List (Option X)
  put_at [] place y = y ∷ []
  put_at (Some x ∷ xs) zero y = Some x ∷ xs
  put_at (None ∷ xs) zero y = y ∷ xs
  put_at (x ∷ xs) (suc place) y = x ∷ put_at xs place y

abbrev pub newcomer : {L : Type 0} → L → Option (Held L)
newcomer l = Some (record { local = l; stamps = [] })

module _ {R L : Type 0} where
  -- the pass has the caller: its local, and all stamps that were drawn for it
  abbrev pub Has : View R L → ℕ → Held L → Type 0
  Has v caller h = slice_get v.held caller ≡ Some (Some h)

  abbrev pub HasCaller : ℕ → View R L → Type 0
  HasCaller caller v = (h : Held L) × Has v caller h

  -- the callers below n
  abbrev pub HasAll : ℕ → View R L → Type 0
  HasAll n v = (caller : ℕ) → caller < n → HasCaller caller v

  -- of a table with so many regions, none of the pass's callers may want another
  abbrev pub IsWithin : (L → ℕ) → ℕ → View R L → Type 0
  IsWithin reach regions v = (caller : ℕ) (h : Held L) → Has v caller h → reach h.local ≤ regions

  -- at the start: all callers, and no stamp
  abbrev pub starting : List L → View R L
  starting locals = record { held = map newcomer locals; floor = 0; saw_halt = false; made_halt = false; hand = None }

  abbrev pub without : ℕ → View R L → View R L
  without caller v = record v { held = slice_set v.held caller None }

  abbrev pub alone : ℕ → View R L → View R L
  alone caller v = record v { held = only caller v.held; made_halt = false; hand = None }

  abbrev pub both_of : View R L → View R L → View R L
  both_of v w = record { held = merged v.held w.held; floor = max v.floor w.floor; saw_halt = v.saw_halt || w.saw_halt; made_halt = v.made_halt || w.made_halt; hand = None }

  -- what a join leaves of the other pass
  abbrev pub spent : View R L
  spent = record { held = []; floor = 0; saw_halt = false; made_halt = false; hand = None }

  abbrev pub flagged : (saw made : Bool) → View R L → View R L
  flagged saw made v = record v { saw_halt = saw; made_halt = made }

  -- with this region in hand, or none
  abbrev pub holding : Option (ℕ × R) → View R L → View R L
  holding hand v = record v { hand = hand }

  -- after an event of the caller, of which the pass had h
  abbrev pub with_event : ℕ → Held L → L → (stamp : ℕ) → View R L → View R L
  with_event caller h local stamp v = record v { held = slice_set v.held caller (Some (record { local = local; stamps = h.stamps ++ stamp ∷ [] })); floor = stamp + 1 }
