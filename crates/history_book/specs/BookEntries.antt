-- The entries of a book in the table of replies.
use Rattle.std.specs.Prelude.{◌≡◌, ℕ, suc, ◌-◌, ◌==◌, List, [], ◌∷◌, map, slice_index}
use Rattle.vm_model.specs.declared.calls.Entry.{Entry}
use Rattle.vm_model.specs.Tables.{noted}
use Rattle.vm_model.specs.Events.{Event}
use Rattle.vm_model.specs.Calls.{Answered}
use Rattle.history_book.specs.declared.noted.Noted.{Noted}

-- the numbers of a caller's places in a list of callers, the first place being p
abbrev pub places_of : ℕ → ℕ → List ℕ → List ℕ
places_of k p [] = []
places_of k p (caller ∷ callers) = noted (caller == k) p (places_of k (suc p) callers)

-- the entries of what was noted from a call on, with the numbers of the caller's events
abbrev pub entries_noted : List ℕ → (caller call : ℕ) → List Noted → List Entry
entries_noted numbers k call [] = []
entries_noted numbers k call (n ∷ rows) =
    record { caller = k; call = call; reply = n.reply; event = slice_index numbers (n.own_event - 1) } ∷ entries_noted numbers k (suc call) rows

-- what is noted of an answered call
abbrev pub note_of : Answered → Noted
note_of a = record { reply = a.reply; own_event = a.own_event }

-- the rows were noted of these answers, and the callers are those of these events
pub record AreNotedOf (rows : List Noted) (callers : List ℕ) (answers : List Answered) (events : List Event) : Type 0 where
  pub answered : map note_of answers ≡ rows
  pub moved : map (λ (e : Event). e.caller) events ≡ callers
