-- A step of one caller keeps what is kept of the map and of all callers.
use Rattle.std.proofs.Common.{◌≡◌, ◌≢◌, ℕ, zero, suc, ◌+◌, ◌≤◌, ◌⊎◌, inl, inr, Bool, List, [], ◌∷◌, ◌++◌, length, slice_get, slice_set, Option, Some, None, IfSome, refl, ap, sym, ◌∙◌, subst, arith}
use Rattle.std.proofs.lemmas.List.{length_push}
use Rattle.vm_model.specs.declared.calls.Call.{Call}
use Rattle.vm_model.specs.declared.calls.Reply.{Reply}
use Rattle.vm_model.specs.Setup.{Setup}
use Rattle.vm_model.specs.PlainMap.{PlainMap, InHand}
use Rattle.vm_model.specs.Blocks.{PartAt}
use Rattle.vm_model.specs.Events.{Section}
use Rattle.vm_model.specs.Effects.{effect_as}
use Rattle.vm_model.specs.Places.{Made, MadeArea, MadePart, Place, Over, Removing, MappingPart, SettlingPart, UnmappingPart, Retiring, GivingAlloc, ask}
use Rattle.vm_model.specs.Next.{Next, Go, Answer, next}
use Rattle.vm_model.specs.Calls.{Answered, begin}
use Rattle.vm_model.specs.Given.{given}
use Rattle.vm_model.specs.History.{World, Local, moved_to, answered, answered_of, made_by, made_if, step_of, section_of}
use Rattle.vm_model.specs.Rules.{IsSetup}
use Rattle.map_parts.specs.Owners.{pool_of, every, other_than, of_place, of_locals, HaveOneOwner}
use Rattle.map_parts.specs.KeptByEvents.{HasPart, IsPlainSerial, IsSoundPlace, IsSoundMade, AreSoundAnswers, IsSoundLocal, KeepsApart, StepsKeepApart}
use Rattle.map_parts.proofs.Sums.{sum-set, sum-le}
use Rattle.map_parts.proofs.Filters.{single, append_cases}
use Rattle.map_parts.proofs.PoolMoves.{of_next, MovesApart, one_owner_moves, of_place-le}
use Rattle.map_parts.proofs.OwnerMoves.{place_moves}
use Rattle.map_parts.proofs.Beginnings.{IsBeginning, begins}
use Rattle.map_parts.proofs.MapKept.{KeepsMap}
use Rattle.map_parts.proofs.WholeBlocks.{AreOnce}
use Rattle.map_parts.proofs.PlaceSound.{IsSoundNext, GoesOn, place_sound}

-- what was sound stays so where serials and parts in hand stay
made_stays : (c : Setup) (m m' : PlainMap) → ((serial : ℕ) → IsPlainSerial m serial → IsPlainSerial m' serial) → (made : Made) → IsSoundMade c m made → IsSoundMade c m' made
made_stays c m m' serials (MadeArea start serial) sound = serials serial sound
made_stays c m m' serials (MadePart cpu page serial) sound = sound
made_stays c m m' serials _ sound = tt

answers_stay : (c : Setup) (m m' : PlainMap) → ((serial : ℕ) → IsPlainSerial m serial → IsPlainSerial m' serial) → (answers : List Answered) → AreSoundAnswers c m answers → AreSoundAnswers c m' answers
answers_stay c m m' serials answers sound i answer at = made_stays c m m' serials answer.made (sound i answer at)

place_stays : (c : Setup) (m m' : PlainMap) (j : ℕ) → ((serial : ℕ) → IsPlainSerial m serial → IsPlainSerial m' serial)
    → ((at : PartAt) → HasPart m.blocks at (InHand j) → HasPart m'.blocks at (InHand j)) → (place : Place) → IsSoundPlace c m j place → IsSoundPlace c m' j place
place_stays c m m' j serials hands (Removing start serial) sound = serials serial sound
place_stays c m m' j serials hands (MappingPart at) sound = (sound.0, hands at sound.1)
place_stays c m m' j serials hands (SettlingPart at) sound = (sound.0, hands at sound.1)
place_stays c m m' j serials hands (UnmappingPart at) sound = (sound.0, hands at sound.1)
place_stays c m m' j serials hands (Retiring at reply) sound = (sound.0, hands at sound.1)
place_stays c m m' j serials hands (GivingAlloc reply made) sound = made_stays c m m' serials made sound
place_stays c m m' j serials hands _ sound = sound

local_stays : (c : Setup) (m m' : PlainMap) (k j : ℕ) (l : Local) → KeepsMap c m k m' → j ≢ k → IsSoundLocal c m j l → IsSoundLocal c m' j l
local_stays c m m' k j l keeps n sound = record {
  setup = sound.setup;
  caller = sound.caller;
  calls = sound.calls;
  opening = answers_stay c m m' keeps.serials l.opening sound.opening;
  answers = answers_stay c m m' keeps.serials l.answers sound.answers;
  place = place_stays c m m' j keeps.serials (λ at has. keeps.hands j at n has) l.place sound.place;
  at_hand = sound.at_hand;
}

-- which of the callers stands at a number after one moved
set_cases : {X : Type 0} (xs : List X) (k j : ℕ) (y z : X) → slice_get (slice_set xs k y) j ≡ Some z → ((j ≡ k) × (z ≡ y)) ⊎ ((j ≢ k) × (slice_get xs j ≡ Some z))
set_cases [] k j y z h = inr ((λ e. cc), h)
set_cases (x ∷ xs) zero zero y z h = inl (refl, (let same : z ≡ y = cc in same))
set_cases (x ∷ xs) zero (suc j) y z h = inr ((λ e. absurd (omega arith)), h)
set_cases (x ∷ xs) (suc k) zero y z h = inr ((λ e. absurd (omega arith)), h)
set_cases (x ∷ xs) (suc k) (suc j) y z h = elim (set_cases xs k j y z h) [ inl w ↦ inl (ap suc w.0, w.1) | inr w ↦ inr ((λ e. w.0 (omega arith)), w.1) ]

module _ (w : World) (l : Local) (is : IsSetup l.setup) (kept : KeepsApart l.setup w) (here : slice_get w.locals l.caller ≡ Some l) where
  -- what the other callers have
  rest : (ℕ → Bool) → ℕ → ℕ
  rest counts page = of_locals l.setup (slice_set w.locals l.caller (record l { place = Over })) counts page

  rest_is : (counts : ℕ → Bool) (page : ℕ) → of_locals l.setup w.locals counts page ≡ of_place l.setup l.place counts page + rest counts page
  unfolding rest
  rest_is counts page = omega (arith, sum-set (λ (l' : Local). of_place l.setup l'.place counts page) w.locals l.caller l (record l { place = Over }) here)

  rest_then : (l' : Local) (counts : ℕ → Bool) (page : ℕ) → of_locals l.setup (slice_set w.locals l.caller l') counts page ≡ of_place l.setup l'.place counts page + rest counts page
  unfolding rest
  rest_then l' counts page = grind (arith, sum-set)

  rest_fewer : (start page : ℕ) → rest (other_than start) page ≤ rest every page
  unfolding rest
  rest_fewer start page = grind (arith, sum-le, of_place-le)

  blocks_once : AreOnce l.setup w.map.blocks
  blocks_once page = let once = kept.owners.once page in omega arith

  sound : IsSoundLocal l.setup w.map l.caller l
  sound = kept.locals l.caller l here

  -- it isn't over where a section is given
  isnt_over : (s : Section) → given l.setup w.map (ask l.setup l.place) ≡ Some s → l.place ≡ Over → ⊥
  isnt_over s e over = let none : given l.setup w.map (ask l.setup l.place) ≡ None = ap (λ place. given l.setup w.map (ask l.setup place)) over in cc

  module _ (s : Section) (gives : given l.setup w.map (ask l.setup l.place) ≡ Some s) where
    goes : GoesOn l.setup w.map l.caller l.place s
    goes = subst (λ o. IfSome o (GoesOn l.setup w.map l.caller l.place)) gives (place_sound l.setup w.map l.caller kept.whole is blocks_once l.place sound.place)

    moves : MovesApart l.setup (pool_of w.map) (pool_of (effect_as l.setup w.map l.caller s)) (of_place l.setup l.place) (of_next l.setup (next l.setup l.place s))
    moves =
        subst (λ o. IfSome o (λ s. MovesApart l.setup (pool_of w.map) (pool_of (effect_as l.setup w.map l.caller s)) (of_place l.setup l.place) (of_next l.setup (next l.setup l.place s)))) gives
        (place_moves l.setup w.map l.caller is l.place sound.place)

    -- the caller after its section
    record IsMoved (n : Next) (l' : Local) : Type 0 where
      local : IsSoundLocal l.setup (effect_as l.setup w.map l.caller s) l.caller l'
      own : (counts : ℕ → Bool) (page : ℕ) → of_place l.setup l'.place counts page ≡ of_next l.setup n counts page

    opening_sound : AreSoundAnswers l.setup (effect_as l.setup w.map l.caller s) l.opening
    opening_sound = answers_stay l.setup w.map (effect_as l.setup w.map l.caller s) goes.map.serials l.opening sound.opening

    answers_sound : AreSoundAnswers l.setup (effect_as l.setup w.map l.caller s) l.answers
    answers_sound = answers_stay l.setup w.map (effect_as l.setup w.map l.caller s) goes.map.serials l.answers sound.answers

    with_answer : (answer : Answered) → IsSoundMade l.setup (effect_as l.setup w.map l.caller s) answer.made → AreSoundAnswers l.setup (effect_as l.setup w.map l.caller s) (l.answers ++ answer ∷ [])
    with_answer answer made i other at = grind (arith, append_cases, answers_sound, single)

    answered_moved : (reply : Reply) (made : Made) (call : Call) → IsSoundMade l.setup (effect_as l.setup w.map l.caller s) made
        → IsMoved (Answer reply made) (answered l (record { call = call; reply = reply; made = made; own_event = suc l.events }))
    answered_moved reply made call made_sound =
        let answer : Answered = record { call = call; reply = reply; made = made; own_event = suc l.events } in
        let new = with_answer answer made_sound in
        let begun : IsBeginning l.setup (effect_as l.setup w.map l.caller s) l.caller (begin l.setup l.opening (l.answers ++ answer ∷ []) (slice_get l.calls (suc (length l.answers)))) =
        begins l.setup (effect_as l.setup w.map l.caller s) l.caller is l.opening (l.answers ++ answer ∷ []) l.calls (suc (length l.answers)) opening_sound new sound.calls (slice_get l.calls (suc (length l.answers))) refl in
        let longer : length (l.answers ++ answer ∷ []) ≡ suc (length l.answers) = omega (arith, length_push l.answers answer) in
        record {
          local = record {
            setup = refl;
            caller = refl;
            calls = sound.calls;
            opening = opening_sound;
            answers = new;
            place = begun.sound;
            at_hand = λ none. ap (begin l.setup l.opening (l.answers ++ answer ∷ [])) (ap (slice_get l.calls) (sym longer) ∙ none);
          };
          own = begun.none;
        }

    answers_moved : (reply : Reply) (made : Made) → IsSoundMade l.setup (effect_as l.setup w.map l.caller s) made → (o : Option Call) → slice_get l.calls (length l.answers) ≡ o
        → IsMoved (Answer reply made) (answered_of l o (λ call. record { call = call; reply = reply; made = made; own_event = suc l.events }))
    answers_moved reply made made_sound o e = grind (arith, isnt_over, sound, answered_moved)

    moved : (n : Next) → IsSoundNext l.setup (effect_as l.setup w.map l.caller s) l.caller n → IsMoved n (moved_to l n)
    moved (Go place) next_sound = grind (arith, sound, opening_sound, answers_sound, isnt_over)
    moved (Answer reply made) next_sound = answers_moved reply made next_sound (slice_get l.calls (length l.answers)) refl

    now : IsMoved (next l.setup l.place s) (moved_to l (next l.setup l.place s))
    now = moved (next l.setup l.place s) goes.onward

    -- all owners
    owners_then : HaveOneOwner l.setup (pool_of (effect_as l.setup w.map l.caller s)) (of_locals l.setup (slice_set w.locals l.caller (moved_to l (next l.setup l.place s))))
    owners_then =
        let l' : Local = moved_to l (next l.setup l.place s) in
        let before : HaveOneOwner l.setup (pool_of w.map) (λ counts page. of_place l.setup l.place counts page + rest counts page) =
        subst (HaveOneOwner l.setup (pool_of w.map)) (λ i counts page. rest_is counts page i) kept.owners in
        let after : HaveOneOwner l.setup (pool_of (effect_as l.setup w.map l.caller s)) (λ counts page. of_next l.setup (next l.setup l.place s) counts page + rest counts page) =
        one_owner_moves l.setup (pool_of w.map) (pool_of (effect_as l.setup w.map l.caller s)) (of_place l.setup l.place) (of_next l.setup (next l.setup l.place s)) rest rest_fewer moves before in
        let same : (counts : ℕ → Bool) (page : ℕ) → of_next l.setup (next l.setup l.place s) counts page + rest counts page ≡ of_locals l.setup (slice_set w.locals l.caller l') counts page =
        λ counts page. omega (arith, now.own counts page, rest_then l' counts page) in
        subst (HaveOneOwner l.setup (pool_of (effect_as l.setup w.map l.caller s))) (λ i counts page. same counts page i) after

    locals_then : (j : ℕ) (x : Local) → slice_get (slice_set w.locals l.caller (moved_to l (next l.setup l.place s))) j ≡ Some x → IsSoundLocal l.setup (effect_as l.setup w.map l.caller s) j x
    locals_then j x at = elim (set_cases w.locals l.caller j (moved_to l (next l.setup l.place s)) x at) [
      | inl v ↦
          subst (λ j. IsSoundLocal l.setup (effect_as l.setup w.map l.caller s) j x) (sym v.0) (subst (IsSoundLocal l.setup (effect_as l.setup w.map l.caller s) l.caller) (sym v.1) now.local)
      | inr v ↦ local_stays l.setup w.map (effect_as l.setup w.map l.caller s) l.caller j x goes.map v.0 (kept.locals j x v.1)
    ]

    made_keeps : KeepsApart l.setup (made_by w l s)
    made_keeps = record { whole = goes.map.whole; owners = owners_then; locals = locals_then }

  keeps_if : (o : Option Section) → given l.setup w.map (ask l.setup l.place) ≡ o → KeepsApart l.setup (made_if w l o)
  keeps_if o e = grind (arith, made_keeps)

-- a step of any number
kept_at : (c : Setup) (w : World) (k : ℕ) (l : Local) → IsSetup c → KeepsApart c w → slice_get w.locals k ≡ Some l → IsSoundLocal c w.map k l → KeepsApart c (made_if w l (section_of w.map l))
kept_at c w k l is kept here sound =
    let mine : KeepsApart l.setup (made_if w l (section_of w.map l)) =
    keeps_if w l (subst IsSetup (sym sound.setup) is) (subst (λ c. KeepsApart c w) (sym sound.setup) kept) (ap (slice_get w.locals) sound.caller ∙ here) (section_of w.map l) refl in
    subst (λ c. KeepsApart c (made_if w l (section_of w.map l))) sound.setup mine

step_keeps : (c : Setup) (w : World) (k : ℕ) → IsSetup c → KeepsApart c w → (o : Option Local) → slice_get w.locals k ≡ o → KeepsApart c (step_of w o)
step_keeps c w k is kept None e = kept
step_keeps c w k is kept (Some l) e = kept_at c w k l is kept e (kept.locals k l e)

pub steps_keep_apart : StepsKeepApart
steps_keep_apart c w k is kept = step_keeps c w k is kept (slice_get w.locals k) refl
