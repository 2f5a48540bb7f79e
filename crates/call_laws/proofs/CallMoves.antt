-- One caller with one more section of its own.
use Rattle.std.proofs.Common.{◌≡◌, ℕ, zero, suc, ◌+◌, ◌<◌, ◌≤◌, inl, inr, List, [], ◌∷◌, ◌++◌, length, take, slice_get, Some, refl, ap, sym, ◌∙◌, subst, arith, length-append}
use Rattle.std.proofs.lemmas.List.{take-append-le, take_all}
use Rattle.std.proofs.lemmas.Option.{slice_get_within, same_Some}
use Rattle.vm_model.specs.declared.calls.Call.{Call}
use Rattle.vm_model.specs.declared.calls.Reply.{Reply}
use Rattle.vm_model.specs.Setup.{Setup, cpus}
use Rattle.vm_model.specs.Places.{Made, ask}
use Rattle.vm_model.specs.Next.{Next, Go, Answer, next}
use Rattle.vm_model.specs.Calls.{Answered, begin, begin_call}
use Rattle.vm_model.specs.History.{Local, started, answered, moved_to}
use Rattle.vm_model.specs.LegalHistory.{Meets, Makes}
use Rattle.vm_model.proofs.CallShapes.{calls_have_shapes}
use Rattle.map_laws.proofs.KeptThroughSteps.{append_cases}
use Rattle.map_laws.proofs.ProperPlaces.{answers_call}
use Rattle.call_laws.specs.Histories.{OwnSection, sections, events_at, sections_for, sections_since, Leads, IsAnswerOf}
use Rattle.call_laws.proofs.Owns.{more_own, for-more, since-more, for-last, since-none, events_at-more}
use Rattle.call_laws.proofs.Led.{led_on, led_makes}
use Rattle.call_laws.proofs.Dues.{due_led, call_due}

-- a caller's answers and its place are what its own sections make
pub record IsShapedBy (c : Setup) (own : List OwnSection) (l : Local) : Type 0 where
  pub count : l.events ≡ length own
  pub low : events_at l.answers ≤ length own
  pub answers : (i : ℕ) (answer : Answered) → slice_get l.answers i ≡ Some answer → IsAnswerOf c l.opening l.calls own i (take i l.answers) answer
  pub at_hand : Leads c (Go (begin c l.opening l.answers (slice_get l.calls (length l.answers)))) (sections (sections_since own l.answers)) (Go l.place)

module _ (c : Setup) where
  -- one more section changes nothing of an answer that was given
  answer_more : (opening : List Answered) (calls : List Call) (own : List OwnSection) (o : OwnSection) (i : ℕ) (before : List Answered) (answer : Answered) → IsAnswerOf c opening calls own i before answer → IsAnswerOf c opening calls (own ++ o ∷ []) i before answer
  answer_more opening calls own o i before answer is = grind (arith, for-more, more_own)

  module _ (some : 1 ≤ cpus c) (own : List OwnSection) (o : OwnSection) (l : Local) (setup : l.setup ≡ c) (is : IsShapedBy c own l) (has : length l.answers < length l.calls) (meets : Meets c (ask c l.place) o.section) where
    abbrev begun : Next
    begun = Go (begin c l.opening l.answers (slice_get l.calls (length l.answers)))

    led : Leads c begun (sections (sections_since (own ++ o ∷ []) l.answers)) (next c l.place o.section)
    led = subst (λ es. Leads c begun es (next c l.place o.section)) (sym (since-more own o l.answers is.low)) (led_on c begun (sections (sections_since own l.answers)) l.place o.section is.at_hand meets)

    -- the call is answered
    module _ (call : Call) (r : Reply) (made : Made) (at : slice_get l.calls (length l.answers) ≡ Some call) (ends : next c l.place o.section ≡ Answer r made) where
      abbrev answer : Answered
      answer = record { call = call; reply = r; made = made; own_event = suc l.events }

      own_event_is : answer.own_event ≡ suc (length own)
      own_event_is = ap suc is.count

      to_answer : Leads c (Go (begin_call c l.opening l.answers call)) (sections (sections_for (own ++ o ∷ []) l.answers answer)) (Answer r made)
      to_answer = subst (λ x. Leads c (Go (begin_call c l.opening l.answers call)) (sections x) (Answer r made)) (sym (for-last own o l.answers answer own_event_is))
          (subst (λ x. Leads c (Go (begin c l.opening l.answers x)) (sections (sections_since (own ++ o ∷ []) l.answers)) (Answer r made)) at
          (subst (λ x. Leads c begun (sections (sections_since (own ++ o ∷ []) l.answers)) x) ends led))

      makes_call : Makes c (Go (begin_call c l.opening l.answers call)) (sections (sections_for (own ++ o ∷ []) l.answers answer)) r made
      makes_call = led_makes c (Go (begin_call c l.opening l.answers call)) (sections (sections_for (own ++ o ∷ []) l.answers answer)) r made to_answer

      new_answer : IsAnswerOf c l.opening l.calls (own ++ o ∷ []) (length l.answers) l.answers answer
      new_answer = record {
        call = at;
        later = (let low = is.low in omega (arith, own_event_is));
        by_then = omega (arith, own_event_is, more_own own o);
        makes = makes_call;
        shape = calls_have_shapes c l.opening l.answers call (sections (sections_for (own ++ o ∷ []) l.answers answer)) r made some makes_call;
        settled = due_led c [] (Go (begin_call c l.opening l.answers call)) (sections (sections_for (own ++ o ∷ []) l.answers answer)) (Answer r made) (call_due c l.opening l.answers call) to_answer;
      }

      each_answer : (i : ℕ) (a : Answered) → slice_get (l.answers ++ answer ∷ []) i ≡ Some a → IsAnswerOf c l.opening l.calls (own ++ o ∷ []) i (take i (l.answers ++ answer ∷ [])) a
      each_answer i a h = elim (append_cases l.answers (answer ∷ []) i a h) [ inl e ↦ old e | inr e ↦ new e.0 e.1 e.2 ]
        where
          old : slice_get l.answers i ≡ Some a → IsAnswerOf c l.opening l.calls (own ++ o ∷ []) i (take i (l.answers ++ answer ∷ [])) a
          old e = let inside = slice_get_within l.answers i a e in
              subst (λ before. IsAnswerOf c l.opening l.calls (own ++ o ∷ []) i before a) (sym (take-append-le i l.answers (answer ∷ []) (omega arith)))
              (answer_more l.opening l.calls own o i (take i l.answers) a (is.answers i a e))

          new : (j : ℕ) → i ≡ length l.answers + j → slice_get (answer ∷ []) j ≡ Some a → IsAnswerOf c l.opening l.calls (own ++ o ∷ []) i (take i (l.answers ++ answer ∷ [])) a
          new zero f e =
              let number : i ≡ length l.answers = omega arith in
              let first : take i (l.answers ++ answer ∷ []) ≡ l.answers = take-append-le i l.answers (answer ∷ []) (omega arith) ∙ take_all i l.answers (omega arith) in
              subst (λ x. IsAnswerOf c l.opening l.calls (own ++ o ∷ []) i (take i (l.answers ++ answer ∷ [])) x) (same_Some _ _ e)
              (subst (λ before. IsAnswerOf c l.opening l.calls (own ++ o ∷ []) i before answer) (sym first)
              (subst (λ n. IsAnswerOf c l.opening l.calls (own ++ o ∷ []) n l.answers answer) (sym number) new_answer))
          new (suc j) f e = cc

      abbrev more : List Answered
      more = l.answers ++ answer ∷ []

      shaped_answered : IsShapedBy c (own ++ o ∷ []) (answered l answer)
      shaped_answered = record {
        count = own_event_is ∙ sym (more_own own o);
        low = omega (arith, own_event_is, more_own own o, events_at-more l.answers answer);
        answers = each_answer;
        at_hand = subst (λ x. Leads c (Go (begin c l.opening more (slice_get l.calls (length more)))) (sections x) (Go (answered l answer).place)) (sym (since-none own o l.answers answer own_event_is))
            (ap (λ n. Go (begin c l.opening more (slice_get l.calls n))) (let f : length more ≡ suc (length l.answers) = omega (arith, length-append l.answers (answer ∷ [])) in f)
            ∙ ap (λ d. Go (begin d l.opening more (slice_get l.calls (suc (length l.answers))))) (sym setup));
      }

    moved_by : (n : Next) → next c l.place o.section ≡ n → IsShapedBy c (own ++ o ∷ []) (moved_to l n)
    moved_by (Go p) e = record {
      count = ap suc is.count ∙ sym (more_own own o);
      low = (let low = is.low in omega (arith, more_own own o));
      answers = λ i a h. answer_more l.opening l.calls own o i (take i l.answers) a (is.answers i a h);
      at_hand = subst (λ n. Leads c begun (sections (sections_since (own ++ o ∷ []) l.answers)) n) e led;
    }
    moved_by (Answer r made) e =
        let at = answers_call l r made has in
        subst (IsShapedBy c (own ++ o ∷ [])) (sym at.2) (shaped_answered at.0 r made at.1 e)

    -- the caller behind its section
    pub shaped_moved : IsShapedBy c (own ++ o ∷ []) (moved_to l (next l.setup l.place o.section))
    shaped_moved = subst (λ d. IsShapedBy c (own ++ o ∷ []) (moved_to l (next d l.place o.section))) (sym setup) (moved_by (next c l.place o.section) refl)

  -- a caller at its start
  pub shaped_started : (opening : List Answered) (k : ℕ) (calls : List Call) → IsShapedBy c [] (started c opening k calls)
  shaped_started opening k calls = record { count = refl; low = omega arith; answers = λ i a h. cc; at_hand = refl }

-- a section leaves a caller its calls, and the opening's answers
module _ (l : Local) where
  pub moved_list : (n : Next) → (moved_to l n).calls ≡ l.calls
  moved_list (Go p) = refl
  moved_list (Answer r made) = grind arith

  pub moved_opening : (n : Next) → (moved_to l n).opening ≡ l.opening
  moved_opening (Go p) = refl
  moved_opening (Answer r made) = grind arith
