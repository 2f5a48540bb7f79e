-- How many callers a world of a run has, and which of them moves first.
use Rattle.std.proofs.Common.{◌≡◌, ℕ, suc, ◌+◌, ◌-◌, ◌<◌, ◌≤◌, ◌⊎◌, inl, inr, Bool, true, false, cond, List, [], ◌∷◌, length, find, slice_get, Option, Some, None, refl, ap, sym, ◌∙◌, subst, arith, length-append, length-set, zero}
use Rattle.vm_model.specs.declared.calls.Call.{Call}
use Rattle.vm_model.specs.Space.{count_from}
use Rattle.vm_model.specs.Setup.{Setup}
use Rattle.vm_model.specs.Calls.{Answered}
use Rattle.vm_model.specs.History.{World, moves_in, finish, most_events, moved_to, opening_answers, callers_from, first_mover}
use Rattle.vm_model.specs.Next.{next}
use Rattle.vm_model.specs.LegalHistory.{IsReached, AllOver}
use Rattle.map_laws.proofs.EndProofs.{every_run_ends}
use Rattle.map_laws.proofs.KeptThroughSteps.{reached_have}
use Rattle.kernel_steps.specs.Kernels.{KernelState, IsStanding, IsSomewhere}

length-callers_from : (c : Setup) (answers : List Answered) (k : ℕ) (calls : List (List Call)) → length (callers_from c answers k calls) ≡ length calls
length-callers_from c answers k [] = refl
length-callers_from c answers k (own ∷ calls) = ap suc (length-callers_from c answers (suc k) calls)

-- the opening, and then the callers behind it
many_reached : (c : Setup) (opening : List Call) (calls : List (List Call)) (w : World) → IsReached c opening calls w → (length w.locals ≡ 1) ⊎ (length w.locals ≡ 1 + length calls)
many_reached c opening calls w reached =
    reached_have (λ v. length v.locals ≡ 1) (λ v. length v.locals ≡ 1 + length calls) c opening calls refl
    (λ v k l s h step. length-set v.locals l.caller (moved_to l (next l.setup l.place s)) ∙ h)
    (λ v h over. length-append v.locals (callers_from c (opening_answers v.locals) 1 calls) ∙ ap (λ n. n + length (callers_from c (opening_answers v.locals) 1 calls)) h ∙ ap (λ n. 1 + n) (length-callers_from c (opening_answers v.locals) 1 calls))
    (λ v k l s h step. length-set v.locals l.caller (moved_to l (next l.setup l.place s)) ∙ h) w reached

few_reached : (c : Setup) (opening : List Call) (calls : List (List Call)) (w : World) → IsReached c opening calls w → length w.locals ≤ 1 + length calls
few_reached c opening calls w reached = elim (many_reached c opening calls w reached) [ inl e ↦ omega arith | inr e ↦ omega arith ]

some_reached : (c : Setup) (opening : List Call) (calls : List (List Call)) (w : World) → IsReached c opening calls w → 0 < length w.locals
some_reached c opening calls w reached = elim (many_reached c opening calls w reached) [ inl e ↦ omega arith | inr e ↦ omega arith ]

pub some_callers : (k : KernelState) → IsSomewhere k → 0 < length k.locals
some_callers k is = let some = some_reached is.0 is.1 is.2 is.3 is.4.running.reached in let same = ap length is.4.locals in omega arith

pub few_callers : (k : KernelState) → IsSomewhere k → length k.locals ≤ 17
few_callers k is =
    let st = is.4 in
    let low = few_reached is.0 is.1 is.2 is.3 st.running.reached in
    let most = st.running.trace.callers_high in
    let same = ap length st.locals in
    omega arith

-- the callers from a number on
abbrev pub mover_from : World → ℕ → Option ℕ
mover_from w k = find (λ k. moves_in w (slice_get w.locals k)) (count_from (length w.locals - k) k)

mover_by : (w : World) (k n : ℕ) (b : Bool) → length w.locals - k ≡ suc n → moves_in w (slice_get w.locals k) ≡ b → mover_from w k ≡ cond b (Some k) (mover_from w (suc k))
mover_by w k n b e h =
    let less : n ≡ length w.locals - suc k = omega arith in
    ap (λ m. find (λ k. moves_in w (slice_get w.locals k)) (count_from m k)) e
    ∙ ap (λ c. cond c (Some k) (find (λ k. moves_in w (slice_get w.locals k)) (count_from n (suc k)))) h
    ∙ ap (λ m. cond b (Some k) (find (λ k. moves_in w (slice_get w.locals k)) (count_from m (suc k)))) less

pub mover_here : (w : World) (k : ℕ) → k < length w.locals → moves_in w (slice_get w.locals k) ≡ true → mover_from w k ≡ Some k
mover_here w k low h = mover_by w k (length w.locals - suc k) true (omega arith) h

pub mover_later : (w : World) (k : ℕ) → k < length w.locals → moves_in w (slice_get w.locals k) ≡ false → mover_from w k ≡ mover_from w (suc k)
mover_later w k low h = mover_by w k (length w.locals - suc k) false (omega arith) h

pub mover_none : (w : World) (k : ℕ) → length w.locals ≤ k → mover_from w k ≡ None
mover_none w k high = let none : length w.locals - k ≡ 0 = omega arith in ap (λ m. find (λ k. moves_in w (slice_get w.locals k)) (count_from m k)) none

-- where the first so many can't move
pub mover_past : (w : World) (n : ℕ) → n ≤ length w.locals → ((k : ℕ) → k < n → moves_in w (slice_get w.locals k) ≡ false) → mover_from w n ≡ first_mover w
mover_past w zero within still = ap (λ m. find (λ k. moves_in w (slice_get w.locals k)) (count_from m 0)) (let e : length w.locals - 0 ≡ length w.locals = omega arith in e)
mover_past w (suc n) within still = sym (mover_later w n (omega arith) (still n (omega arith))) ∙ mover_past w n (omega arith) (λ k low. still k (omega arith))

-- who has run to the end has ended
pub over_there : (c : Setup) (opening : List Call) (calls : List (List Call)) (w : World) (old new : KernelState) (v : World) → IsStanding c opening calls w old → IsStanding c opening calls v new → v ≡ finish most_events w
    → AllOver new.locals
over_there c opening calls w old new v st there same =
    subst AllOver (sym (there.locals ∙ ap (λ (x : World). x.locals) same)) (every_run_ends c opening calls w st.running.trace st.running.reached)
