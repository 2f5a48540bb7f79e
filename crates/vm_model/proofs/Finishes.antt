-- A caller that stands alone: a legal run of its events is what a completion makes.
use Rattle.std.proofs.Common.{◌≡◌, ℕ, zero, suc, ◌+◌, cond, List, [], ◌∷◌, ◌++◌, length, Option, Some, None, is_some, slice_get, slice_set, refl, sym, ap, ◌∙◌, subst, arith}
use Rattle.vm_model.specs.declared.calls.Call.{Call}
use Rattle.vm_model.specs.PlainMap.{PlainMap}
use Rattle.vm_model.specs.Events.{Section, Event}
use Rattle.vm_model.specs.Effects.{effect}
use Rattle.vm_model.specs.Places.{ask, AskNothing}
use Rattle.vm_model.specs.Next.{Next, Go, Answer, next}
use Rattle.vm_model.specs.Calls.{Answered}
use Rattle.vm_model.specs.Given.{can_move}
use Rattle.vm_model.specs.History.{World, Local, section_of, event_of, made_if, made_by, step, moved_to, answered_of, first_mover, finish}
use Rattle.vm_model.specs.LegalHistory.{IsRun, IsNext, after_event, after_event_of, world_after}
use Rattle.vm_model.proofs.OneNext.{one_next, gives}

-- one caller over a map, after these events
abbrev pub alone : PlainMap → Local → List Event → World
alone m l before = record { map = m; locals = l ∷ []; events = before }

-- the caller stays who it is
same_caller_of : (l : Local) (o : Option Call) (f : Call → Answered) → (answered_of l o f).caller ≡ l.caller
same_caller_of l None f = refl
same_caller_of l (Some call) f = refl

same_caller : (l : Local) (n : Next) → (moved_to l n).caller ≡ l.caller
same_caller l (Go place) = refl
same_caller l (Answer reply made) = same_caller_of l (slice_get l.calls (length l.answers)) _

-- the next event is what the map gives
gives_next : (m : PlainMap) (l : Local) (before : List Event) (k : ℕ) (s : Section) → IsNext (alone m l before) (record { caller = k; section = s })
    → (k ≡ 0) × (section_of m l ≡ Some s)
gives_next m l before zero s next = (refl, one_next l.setup m 0 (ask l.setup l.place) s next.0 next.1)
gives_next m l before (suc k) s next = absurd next

moves_first : (m : PlainMap) (l : Local) (before : List Event) (s : Section) → section_of m l ≡ Some s → first_mover (alone m l before) ≡ Some 0
moves_first m l before s told =
    ap (λ b. cond b (Some 0) None) (sym (gives l.setup m (ask l.setup l.place)) ∙ ap is_some told)

finish-suc : (fuel : ℕ) (w : World) (k : ℕ) → first_mover w ≡ Some k → finish (suc fuel) w ≡ finish fuel (step w k)
unfolding finish
finish-suc fuel w k first = ap (λ o. elim o [ None ↦ w | Some k ↦ finish fuel (step w k) ]) first

-- one event after another
set_caller : (m : PlainMap) (l : Local) (before : List Event) (s : Section) → l.caller ≡ 0
    → made_by (alone m l before) l s ≡ alone (effect l.setup m (event_of l s)) (moved_to l (next l.setup l.place s)) (before ++ event_of l s ∷ [])
set_caller m l before s first =
    ap (λ k. record {
      map = effect l.setup m (event_of l s);
      locals = slice_set (l ∷ []) k (moved_to l (next l.setup l.place s));
      events = before ++ event_of l s ∷ [];
    }) first

step_alone : (m : PlainMap) (l : Local) (before : List Event) (s : Section) → section_of m l ≡ Some s → step (alone m l before) 0 ≡ made_by (alone m l before) l s
step_alone m l before s told = ap (made_if (alone m l before) l) told

suc_plus : (a b : ℕ) → suc a + b ≡ suc (a + b)
suc_plus a b = omega arith

pub finish-run : (events : List Event) (fuel : ℕ) (m : PlainMap) (l : Local) (before : List Event) → l.caller ≡ 0 → IsRun (alone m l before) events
    → finish (length events + fuel) (alone m l before) ≡ finish fuel (world_after (alone m l before) events)
finish-run [] fuel m l before first run = ap (λ n. finish n (alone m l before)) (let none : 0 + fuel ≡ fuel = omega arith in none)
finish-run (e ∷ events) fuel m l before first run = finish_event e.caller e.section events fuel m l before first run.0 run.1
    (λ m l before first run. finish-run events fuel m l before first run)
  where
    finish_event : (k : ℕ) (s : Section) (events : List Event) (fuel : ℕ) (m : PlainMap) (l : Local) (before : List Event) → l.caller ≡ 0
        → IsNext (alone m l before) (record { caller = k; section = s })
        → IsRun (after_event (alone m l before) (record { caller = k; section = s })) events
        → ((m : PlainMap) (l : Local) (before : List Event) → l.caller ≡ 0 → IsRun (alone m l before) events
        → finish (length events + fuel) (alone m l before) ≡ finish fuel (world_after (alone m l before) events))
        → finish (suc (length events) + fuel) (alone m l before) ≡ finish fuel (world_after (after_event (alone m l before) (record { caller = k; section = s })) events)
    finish_event zero s events fuel m l before first is run more =
        let told = (gives_next m l before zero s is).1 in
        let same = set_caller m l before s first in
        ap (λ n. finish n (alone m l before)) (suc_plus (length events) fuel)
        ∙ finish-suc (length events + fuel) (alone m l before) 0 (moves_first m l before s told)
        ∙ ap (finish (length events + fuel)) (step_alone m l before s told ∙ same)
        ∙ more _ _ _ (same_caller l _ ∙ first) (subst (λ w. IsRun w events) same run)
        ∙ ap (λ w. finish fuel (world_after w events)) (sym same)
    finish_event (suc k) s events fuel m l before first is run more = absurd is

-- and with a caller that has ended the completion is over
over_first : (m : PlainMap) (l : Local) (before : List Event) → ask l.setup l.place ≡ AskNothing → first_mover (alone m l before) ≡ None
over_first m l before over = ap (λ a. cond (can_move m a) (Some 0) None) over

pub finish_over : (fuel : ℕ) (m : PlainMap) (l : Local) (before : List Event) → ask l.setup l.place ≡ AskNothing → finish fuel (alone m l before) ≡ alone m l before
unfolding finish
finish_over zero m l before over = refl
finish_over (suc fuel) m l before over = ap (λ o. elim o [ None ↦ alone m l before | Some k ↦ finish fuel (step (alone m l before) k) ]) (over_first m l before over)

-- Runs one after another.

pub world_after-append : (w : World) (es fs : List Event) → world_after w (es ++ fs) ≡ world_after (world_after w es) fs
world_after-append w [] fs = refl
world_after-append w (e ∷ es) fs = world_after-append (after_event w e) es fs

pub run-append : (w : World) (es fs : List Event) → IsRun w es → IsRun (world_after w es) fs → IsRun w (es ++ fs)
run-append w [] fs a b = b
run-append w (e ∷ es) fs a b = (a.0, run-append (after_event w e) es fs a.1 b)

-- Who makes the events of a caller that stands alone.

abbrev pub AreByFirst : List Event → Type 0
AreByFirst [] = Unit {0}
AreByFirst (e ∷ events) = (e.caller ≡ 0) × AreByFirst events

pub first_makes : (events : List Event) (m : PlainMap) (l : Local) (before : List Event) → l.caller ≡ 0 → IsRun (alone m l before) events → AreByFirst events
first_makes [] m l before first run = tt
first_makes (e ∷ events) m l before first run =
    let is = gives_next m l before e.caller e.section run.0 in
    let same = set_caller m l before e.section first in
    let after : after_event (alone m l before) e ≡ made_by (alone m l before) l e.section = ap (λ k. after_event_of (alone m l before) e (slice_get (l ∷ []) k)) is.0 in
    (is.0, first_makes events _ _ _ (same_caller l _ ∙ first) (subst (λ w. IsRun w events) (after ∙ same) run.1))
