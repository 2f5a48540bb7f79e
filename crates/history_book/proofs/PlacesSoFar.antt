-- A caller's places in the first so many callers of a list, and in all of it.
use Rattle.std.proofs.Common.{◌≡◌, ◌≢◌, ℕ, zero, suc, ◌+◌, ◌-◌, ◌<◌, ◌≤◌, inl, inr, Bool, true, false, ◌==◌, List, [], ◌∷◌, length, take, map, get_or, slice_get, Some, refl, ap, sym, ◌∙◌, arith, add-zero}
use Rattle.std.proofs.lemmas.Bool.{cases_lt}
use Rattle.std.proofs.lemmas.Bool.Decides.{nat_tests}
use Rattle.std.proofs.lemmas.List.{take_all}
use Rattle.vm_model.specs.Space.{one_if}
use Rattle.vm_model.specs.Tables.{noted, numbers_of}
use Rattle.vm_model.specs.Events.{Event}
use Rattle.history_book.specs.BookEntries.{places_of}

length-noted : (b : Bool) (p : ℕ) (numbers : List ℕ) → length (noted b p numbers) ≡ one_if b + length numbers
length-noted true p numbers = omega arith
length-noted false p numbers = omega arith

-- one more caller is one more place, or none
length-places_of-suc : (k p i : ℕ) (callers : List ℕ) → i < length callers → length (places_of k p (take (suc i) callers)) ≡ length (places_of k p (take i callers)) + one_if (get_or callers i 0 == k)
length-places_of-suc k p i [] h = absurd (omega arith)
length-places_of-suc k p zero (caller ∷ callers) h = omega (arith, length-noted (caller == k) p [])
length-places_of-suc k p (suc i) (caller ∷ callers) h =
    omega (arith, length-places_of-suc k (suc p) i callers (omega arith), length-noted (caller == k) p (places_of k (suc p) (take (suc i) callers)), length-noted (caller == k) p (places_of k (suc p) (take i callers)))

length-places_of-take : (k i : ℕ) (callers : List ℕ) → i < length callers → length (places_of k 1 (take (i + 1) callers)) ≡ length (places_of k 1 (take i callers)) + one_if (get_or callers i 0 == k)
length-places_of-take k i callers h = ap (λ n. length (places_of k 1 (take n callers))) (let next : i + 1 ≡ suc i = omega arith in next) ∙ length-places_of-suc k 1 i callers h

one_more_place : (k i : ℕ) (callers : List ℕ) → i < length callers → get_or callers i 0 ≡ k → length (places_of k 1 (take (i + 1) callers)) ≡ length (places_of k 1 (take i callers)) + 1
one_more_place k i callers h is =
    let own : (get_or callers i 0 == k) ≡ true = grind (arith, nat_tests) in
    let one : one_if (get_or callers i 0 == k) ≡ 1 = ap one_if own in
    omega (arith, length-places_of-take k i callers h)

no_more_places : (k i : ℕ) (callers : List ℕ) → i < length callers → get_or callers i 0 ≢ k → length (places_of k 1 (take (i + 1) callers)) ≡ length (places_of k 1 (take i callers))
no_more_places k i callers h differs =
    let other : (get_or callers i 0 == k) ≡ false = grind (arith, nat_tests) in
    let none : one_if (get_or callers i 0 == k) ≡ 0 = ap one_if other in
    omega (arith, length-places_of-take k i callers h)

-- a place that is still to come is in the rest of the list
more_to_come : (k i : ℕ) (callers : List ℕ) → i ≤ length callers → length (places_of k 1 (take i callers)) < length (places_of k 1 callers) → i < length callers
more_to_come k i callers bound fewer = elim (cases_lt i (length callers)) [
  | inl h ↦ h
  | inr all ↦ absurd (let whole : length (places_of k 1 (take i callers)) ≡ length (places_of k 1 callers) = ap (λ cs. length (places_of k 1 cs)) (take_all i callers all) in omega arith)
]

-- the place of a caller comes behind its places before it
slice_get-noted : (b : Bool) (p place : ℕ) (numbers before : List ℕ) → slice_get numbers (length before) ≡ Some place → slice_get (noted b p numbers) (length (noted b p before)) ≡ Some place
slice_get-noted true p place numbers before h = h
slice_get-noted false p place numbers before h = h

slice_get-places_of : (k p i : ℕ) (callers : List ℕ) → i < length callers → get_or callers i 0 ≡ k → slice_get (places_of k p callers) (length (places_of k p (take i callers))) ≡ Some (p + i)
slice_get-places_of k p i [] h is = absurd (omega arith)
slice_get-places_of k p zero (caller ∷ callers) h is =
    let own : (caller == k) ≡ true = grind (arith, nat_tests) in
    ap (λ b. slice_get (noted b p (places_of k (suc p) callers)) 0) own ∙ ap Some (sym (add-zero p))
slice_get-places_of k p (suc i) (caller ∷ callers) h is =
    slice_get-noted (caller == k) p (p + suc i) (places_of k (suc p) callers) (places_of k (suc p) (take i callers))
    (slice_get-places_of k (suc p) i callers (omega arith) is ∙ ap Some (let e : suc p + i ≡ p + suc i = omega arith in e))

place_reached : (k i : ℕ) (callers : List ℕ) → i < length callers → get_or callers i 0 ≡ k → slice_get (places_of k 1 callers) (length (places_of k 1 (take i callers))) ≡ Some (i + 1)
place_reached k i callers h is = slice_get-places_of k 1 i callers h is ∙ ap Some (let e : 1 + i ≡ i + 1 = omega arith in e)

-- the first so many callers have so many places of one of them, at most up to a place, which is the last of these once it is reached
pub record HavePlaces (k place : ℕ) (moved : List ℕ) (callers own : ℕ) : Type 0 where
  pub callers_within : callers ≤ length moved
  pub counted : own ≡ length (places_of k 1 (take callers moved))
  pub up_to : own ≤ place
  pub reached : own ≡ place → slice_get (places_of k 1 moved) (place - 1) ≡ Some callers

pub HavePlaces-own : (k place : ℕ) (moved : List ℕ) (callers own : ℕ) → HavePlaces k place moved callers own → own < place → callers < length moved → get_or moved callers 0 ≡ k
    → HavePlaces k place moved (callers + 1) (own + 1)
HavePlaces-own k place moved callers own have ahead within is = record {
  callers_within = omega arith;
  counted = omega (arith, one_more_place k callers moved within is);
  up_to = omega arith;
  reached = λ last. ap (slice_get (places_of k 1 moved)) (let e : place - 1 ≡ length (places_of k 1 (take callers moved)) = omega arith in e) ∙ place_reached k callers moved within is;
}

pub HavePlaces-other : (k place : ℕ) (moved : List ℕ) (callers own : ℕ) → HavePlaces k place moved callers own → own < place → callers < length moved → get_or moved callers 0 ≢ k
    → HavePlaces k place moved (callers + 1) own
HavePlaces-other k place moved callers own have ahead within differs = record {
  callers_within = omega arith;
  counted = omega (arith, no_more_places k callers moved within differs);
  up_to = omega arith;
  reached = λ last. absurd (omega arith);
}

pub HavePlaces-rest : (k place : ℕ) (moved : List ℕ) (callers own : ℕ) → HavePlaces k place moved callers own → own < place → place ≤ length (places_of k 1 moved) → callers < length moved
HavePlaces-rest k place moved callers own have ahead there = more_to_come k callers moved have.callers_within (let c = have.counted in omega arith)

-- the places in the callers of events are the numbers of a caller's events
pub places_of-callers : (k p : ℕ) (events : List Event) → places_of k p (map (λ (e : Event). e.caller) events) ≡ numbers_of k p events
places_of-callers k p [] = refl
places_of-callers k p (e ∷ events) = ap (noted (e.caller == k) p) (places_of-callers k (suc p) events)
