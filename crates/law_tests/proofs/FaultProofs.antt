-- The law of shapes is false where a machine has a fault.
use Rattle.std.proofs.Common.{◌≡◌, List, [], ◌∷◌, slice_get, Some, refl, subst, sym, ◌∙◌, arith}
use Rattle.std.proofs.lemmas.Option.{same_Some}
use Rattle.vm_model.specs.declared.calls.Call.TheVariants.{Balance}
use Rattle.vm_model.specs.declared.calls.Reply.TheVariants as reply
use Rattle.vm_model.specs.Places.{MadeNothing}
use Rattle.vm_model.specs.Calls.{Answered}
use Rattle.vm_model.specs.History.{Local, started}
use Rattle.worked_rows.specs.Worked.{header}
use Rattle.call_laws.specs.Histories.{HasShapesOfCalls}
use Rattle.law_tests.specs.Machines.{Machine, Trial, model}
use Rattle.law_tests.specs.CallFaults.{with_notes, skip, twice, too_low, area_before, no_purge}
use Rattle.law_tests.specs.WorkedTrials.{two_areas, no_room}
use Rattle.law_tests.specs.CallTests.{ended, LacksShapes, FaultsAreRefused}

-- the first caller, and an answer of it
abbrev first_of : List Local → Local
first_of [] = started (header 1) [] 0 []
first_of (l ∷ locals) = l

abbrev no_answer : Answered
no_answer = record { call = Balance; reply = reply.Done; made = MadeNothing; own_event = 0 }

abbrev first_answer : List Answered → Answered
first_answer [] = no_answer
first_answer (a ∷ answers) = a

abbrev second_answer : List Answered → Answered
second_answer [] = no_answer
second_answer (a ∷ answers) = first_answer answers

abbrev HasShapes : Machine → Trial → Local → Type 0
HasShapes d t l = HasShapesOfCalls t.setup (t.opening ∷ t.calls) (ended d t) 0 l

lacks : (d : Machine) (t : Trial) → slice_get (ended d t).locals 0 ≡ Some (first_of (ended d t).locals) → (HasShapes d t (first_of (ended d t).locals) → ⊥) → LacksShapes d t
lacks d t e not l h = subst (λ (x : Local). HasShapes d t x → ⊥) (same_Some _ _ (sym e ∙ h)) not

skipped : LacksShapes (with_notes skip) two_areas
skipped = lacks (with_notes skip) two_areas refl (λ (is : HasShapes (with_notes skip) two_areas (first_of (ended (with_notes skip) two_areas).locals)). (let e = is.ended refl in omega arith))

answered_twice : LacksShapes (with_notes twice) two_areas
answered_twice = lacks (with_notes twice) two_areas refl (λ (is : HasShapes (with_notes twice) two_areas (first_of (ended (with_notes twice) two_areas).locals)).
    (let e = (is.answers 1 (second_answer (first_of (ended (with_notes twice) two_areas).locals).answers) refl).later in omega arith))

event_too_low : LacksShapes (with_notes too_low) two_areas
event_too_low = lacks (with_notes too_low) two_areas refl (λ (is : HasShapes (with_notes too_low) two_areas (first_of (ended (with_notes too_low) two_areas).locals)).
    (is.answers 0 (first_answer (first_of (ended (with_notes too_low) two_areas).locals).answers) refl).makes.1.1)

serial_before : LacksShapes (record model { leads = area_before }) two_areas
serial_before = lacks (record model { leads = area_before }) two_areas refl (λ (is : HasShapes (record model { leads = area_before }) two_areas (first_of (ended (record model { leads = area_before }) two_areas).locals)).
    (let e = (is.answers 0 (first_answer (first_of (ended (record model { leads = area_before }) two_areas).locals).answers) refl).makes.1.1.1.2 in cc))

without_purge : LacksShapes (record model { leads = no_purge }) no_room
without_purge = lacks (record model { leads = no_purge }) no_room refl (λ (is : HasShapes (record model { leads = no_purge }) no_room (first_of (ended (record model { leads = no_purge }) no_room).locals)).
    (is.answers 0 (first_answer (first_of (ended (record model { leads = no_purge }) no_room).locals).answers) refl).makes.1)

pub faults_refused : FaultsAreRefused
faults_refused = record { skipped = skipped; answered_twice = answered_twice; event_too_low = event_too_low; serial_before = serial_before; without_purge = without_purge }
