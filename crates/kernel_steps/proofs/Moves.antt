-- Picks that move: what they make of a world.
use Rattle.std.proofs.Common.{◌≡◌, ℕ, zero, suc, Bool, true, false, ◌&&◌, cond, List, [], ◌∷◌, ◌++◌, length, find, drop, slice_get, Option, Some, None, refl, ap, sym, ◌∙◌, append_assoc}
use Rattle.vm_model.specs.declared.calls.Call.{Call}
use Rattle.vm_model.specs.Space.{count_from}
use Rattle.vm_model.specs.Setup.{Setup}
use Rattle.vm_model.specs.Given.{can_move}
use Rattle.vm_model.specs.History.{World, Local, step, pick_all, moves_in, first_mover, most_events, history_of}
use Rattle.vm_model.specs.LegalHistory.{AllOver}
use Rattle.map_laws.proofs.EndProofs.{finish_stays}
use Rattle.section_laws.specs.Lawful.{IsRunning}
use Rattle.kernel_steps.specs.Kernels.{KernelState, movers, start_of, opening_of, callers_of}
use Rattle.section_laws.specs.MovesInTurn.{all_move}
use Rattle.kernel_steps.specs.KernelRuns.{HasEnded}
use Rattle.kernel_steps.proofs.SectionsMade.{next_running, movers_moved}

pub and_true : (a b : Bool) → a ≡ true → b ≡ true → (a && b) ≡ true
and_true true b p q = q
and_true false b p q = cc

and_left : (a b : Bool) → (a && b) ≡ true → a ≡ true
and_left true b h = refl
and_left false b h = cc

and_right : (a b : Bool) → (a && b) ≡ true → b ≡ true
and_right true b h = h
and_right false b h = cc

pub moving_append : (w : World) (xs ys : List ℕ) → all_move w xs ≡ true → all_move (pick_all w xs) ys ≡ true → all_move w (xs ++ ys) ≡ true
moving_append w [] ys a b = b
moving_append w (x ∷ xs) ys a b =
    let m : Bool = moves_in w (slice_get w.locals x) in
    and_true m (all_move (step w x) (xs ++ ys)) (and_left m (all_move (step w x) xs) a) (moving_append (step w x) xs ys (and_right m (all_move (step w x) xs) a) b)

pub moving_more : (w : World) (picks : List ℕ) (k : ℕ) → all_move w picks ≡ true → moves_in (pick_all w picks) (slice_get (pick_all w picks).locals k) ≡ true → all_move w (picks ++ k ∷ []) ≡ true
moving_more w picks k a m = moving_append w picks (k ∷ []) a (and_true (moves_in (pick_all w picks) (slice_get (pick_all w picks).locals k)) true m refl)

-- the callers of the events that they add
module _ (c : Setup) (opening : List Call) (calls : List (List Call)) where
  moved_by : (w : World) → IsRunning c opening calls w → (k : ℕ) (o : Option Local) → slice_get w.locals k ≡ o → moves_in w o ≡ true → movers (step w k).events ≡ movers w.events ++ k ∷ []
  moved_by w is k None e h = cc
  moved_by w is k (Some l) e h = movers_moved c opening calls w is k l e h

  pub movers_picked : (w : World) → IsRunning c opening calls w → (picks : List ℕ) → all_move w picks ≡ true → movers (pick_all w picks).events ≡ movers w.events ++ picks
  movers_picked w is [] h = sym (append_nil (movers w.events))
    where
      append_nil : (xs : List ℕ) → xs ++ [] ≡ xs
      append_nil [] = refl
      append_nil (x ∷ xs) = ap (λ ys. x ∷ ys) (append_nil xs)
  movers_picked w is (k ∷ picks) h =
      let m : Bool = moves_in w (slice_get w.locals k) in
      movers_picked (step w k) (next_running c opening calls w is k) picks (and_right m (all_move (step w k) picks) h)
      ∙ ap (λ xs. xs ++ picks) (moved_by w is k (slice_get w.locals k) refl (and_left m (all_move (step w k) picks) h))
      ∙ append_assoc (movers w.events) (k ∷ []) picks

-- where all have ended nobody moves
none_found : (p : ℕ → Bool) (n first : ℕ) → ((k : ℕ) → p k ≡ false) → find p (count_from n first) ≡ None
none_found p zero first never = refl
none_found p (suc n) first never = ap (λ b. cond b (Some first) (find p (count_from n (suc first)))) (never first) ∙ none_found p n (suc first) never

over_still : (w : World) (ls : List Local) → AllOver ls → (k : ℕ) → moves_in w (slice_get ls k) ≡ false
over_still w [] over k = refl
over_still w (l ∷ ls) over zero = ap (can_move w.map) over.0
over_still w (l ∷ ls) over (suc k) = over_still w ls over.1 k

pub over_none : (w : World) → AllOver w.locals → first_mover w ≡ None
over_none w over = none_found (λ k. moves_in w (slice_get w.locals k)) (length w.locals) 0 (over_still w w.locals over)

-- the history of these picks is where they lead
pub history_is : (c : Setup) (sections : List (List Call)) (picks : List ℕ) (k : KernelState) → HasEnded c sections picks k → history_of c (opening_of sections) (callers_of sections) picks ≡ pick_all (start_of c sections) picks
unfolding history_of
history_is c sections picks k is = finish_stays most_events (pick_all (start_of c sections) picks) (over_none (pick_all (start_of c sections) picks) is.over)

-- what follows the opening's events
pub dropped : (xs ys : List ℕ) → drop (length xs) (xs ++ ys) ≡ ys
dropped [] ys = refl
dropped (x ∷ xs) ys = dropped xs ys
