-- The entries of the first so many rows of a book, and those of a history.
use Rattle.std.proofs.Common.{◌≡◌, ℕ, suc, ◌+◌, ◌-◌, ◌<◌, List, [], ◌∷◌, ◌++◌, length, take, map, get_or, slice_get, Some, append_assoc, refl, ap, sym, ◌∙◌, arith, add-zero}
use Rattle.std.proofs.lemmas.List.{take_more, length-take-le}
use Rattle.std.proofs.lemmas.Option.{get_or_from_slice_get}
use Rattle.vm_model.specs.declared.calls.Entry.{Entry}
use Rattle.vm_model.specs.Events.{Event}
use Rattle.vm_model.specs.Calls.{Answered}
use Rattle.vm_model.specs.Tables.{numbers_of, entries_from}
use Rattle.history_book.specs.declared.noted.Noted.{Noted}
use Rattle.history_book.specs.BookEntries.{places_of, entries_noted, note_of, AreNotedOf}
use Rattle.history_book.proofs.PlacesSoFar.{places_of-callers}

abbrev entry : ℕ → ℕ → ℕ → Noted → Entry
entry k call event n = record { caller = k; call = call; reply = n.reply; event = event }

entries_noted-append : (numbers : List ℕ) (k call : ℕ) (rows more : List Noted)
    → entries_noted numbers k call (rows ++ more) ≡ entries_noted numbers k call rows ++ entries_noted numbers k (call + length rows) more
entries_noted-append numbers k call [] more = ap (λ c. entries_noted numbers k c more) (sym (add-zero call))
entries_noted-append numbers k call (n ∷ rows) more =
    ap (λ rest. entry k call (get_or numbers (n.own_event - 1) 0) n ∷ rest) (entries_noted-append numbers k (suc call) rows more
    ∙ ap (λ c. entries_noted numbers k (suc call) rows ++ entries_noted numbers k c more) (let e : suc call + length rows ≡ call + suc (length rows) = omega arith in e))

entries_noted-take : (numbers : List ℕ) (k i place : ℕ) (rows : List Noted) (d : Noted) → i < length rows → slice_get numbers ((get_or rows i d).own_event - 1) ≡ Some place
    → entries_noted numbers k 1 (take (i + 1) rows) ≡ entries_noted numbers k 1 (take i rows) ++ entry k (i + 1) place (get_or rows i d) ∷ []
entries_noted-take numbers k i place rows d h at =
    let n = get_or rows i d in
    let call : 1 + length (take i rows) ≡ i + 1 = omega (arith, length-take-le i rows (omega arith)) in
    ap (entries_noted numbers k 1) (take_more rows i d h) ∙ entries_noted-append numbers k 1 (take i rows) (n ∷ [])
    ∙ ap (λ c. entries_noted numbers k 1 (take i rows) ++ entry k c (get_or numbers (n.own_event - 1) 0) n ∷ []) call
    ∙ ap (λ event. entries_noted numbers k 1 (take i rows) ++ entry k (i + 1) event n ∷ []) (get_or_from_slice_get numbers (n.own_event - 1) place 0 at)

-- one more row is one more entry behind those that were there before
pub entries_noted-more : (before into : List Entry) (numbers : List ℕ) (k i place : ℕ) (rows : List Noted) (d : Noted) → i < length rows → slice_get numbers ((get_or rows i d).own_event - 1) ≡ Some place
    → into ≡ before ++ entries_noted numbers k 1 (take i rows)
    → into ++ record { caller = k; call = i + 1; reply = (get_or rows i d).reply; event = place } ∷ [] ≡ before ++ entries_noted numbers k 1 (take (i + 1) rows)
entries_noted-more before into numbers k i place rows d h at is =
    ap (λ entries. entries ++ entry k (i + 1) place (get_or rows i d) ∷ []) is ∙ append_assoc before _ _ ∙ ap (λ entries. before ++ entries) (sym (entries_noted-take numbers k i place rows d h at))

entries_noted-answers : (numbers : List ℕ) (k call : ℕ) (answers : List Answered) → entries_noted numbers k call (map note_of answers) ≡ entries_from numbers k call answers
entries_noted-answers numbers k call [] = refl
entries_noted-answers numbers k call (a ∷ answers) = ap (λ rest. entry k call (get_or numbers (a.own_event - 1) 0) (note_of a) ∷ rest) (entries_noted-answers numbers k (suc call) answers)

-- a book's entries are those of the history whose answers were noted
pub entries_noted-history : (k : ℕ) (moved : List ℕ) (rows : List Noted) (answers : List Answered) (events : List Event) → AreNotedOf rows moved answers events
    → entries_noted (places_of k 1 moved) k 1 rows ≡ entries_from (numbers_of k 1 events) k 1 answers
entries_noted-history k moved rows answers events of =
    ap (entries_noted (places_of k 1 moved) k 1) (sym of.answered) ∙ entries_noted-answers (places_of k 1 moved) k 1 answers
    ∙ ap (λ numbers. entries_from numbers k 1 answers) (ap (places_of k 1) (sym of.moved) ∙ places_of-callers k 1 events)
