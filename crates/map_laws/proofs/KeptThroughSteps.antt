-- A list with one element replaced, and with some more behind.
use Rattle.std.proofs.Common.{◌≡◌, ◌≢◌, ℕ, zero, suc, ◌+◌, ◌<◌, ◌⊎◌, inl, inr, List, [], ◌∷◌, ◌++◌, length, slice_get, slice_set, Some, refl, ap, arith, Option, None, sym, ◌∙◌, subst, length-append, length-set}
use Rattle.std.proofs.lemmas.Option.{slice_get_within}
use Rattle.vm_model.specs.declared.calls.Call.{Call}
use Rattle.vm_model.specs.Setup.{Setup}
use Rattle.vm_model.specs.PlainMap.{PlainMap}
use Rattle.vm_model.specs.Events.{Section, Event}
use Rattle.vm_model.specs.Places.{Place, Over, ask}
use Rattle.vm_model.specs.Next.{Next, next}
use Rattle.vm_model.specs.Calls.{Answered, begin}
use Rattle.vm_model.specs.Given.{given}
use Rattle.vm_model.specs.History.{Local, World, started, answered, answered_of, moved_to, made_by, opening_world, opening_answers, callers_from, with_callers}
use Rattle.vm_model.specs.LegalHistory.{IsNext, IsRun, IsReached, AllOver, after_event, world_after, callers_world}
use Rattle.vm_model.proofs.OneNext.{one_next}

-- two numbers are the same, or not
pub same_or : (i k : ℕ) → (i ≡ k) ⊎ (i ≢ k)
same_or zero zero = inl refl
same_or zero (suc k) = inr (λ e. omega arith)
same_or (suc i) zero = inr (λ e. omega arith)
same_or (suc i) (suc k) = elim (same_or i k) [ inl e ↦ inl (ap suc e) | inr n ↦ inr (λ e. n (omega arith)) ]

pub set_same : {X : Type 0} (xs : List X) (k : ℕ) (x y : X) → slice_get xs k ≡ Some x → slice_get (slice_set xs k y) k ≡ Some y
set_same [] k x y h = cc
set_same (z ∷ xs) zero x y h = refl
set_same (z ∷ xs) (suc k) x y h = set_same xs k x y h

-- what stands at a place after a change is the new element, or stood there before
pub set_cases : {X : Type 0} (xs : List X) (k j : ℕ) (y z : X) → slice_get (slice_set xs k y) j ≡ Some z → ((j ≡ k) × (z ≡ y)) ⊎ ((j ≢ k) × (slice_get xs j ≡ Some z))
set_cases [] k j y z h = inr ((λ e. cc), h)
set_cases (x ∷ xs) zero zero y z h = inl (refl, cc)
set_cases (x ∷ xs) zero (suc j) y z h = inr ((λ e. omega arith), h)
set_cases (x ∷ xs) (suc k) zero y z h = inr ((λ e. omega arith), h)
set_cases (x ∷ xs) (suc k) (suc j) y z h = elim (set_cases xs k j y z h) [ inl e ↦ inl (ap suc e.0, e.1) | inr e ↦ inr ((λ f. e.0 (omega arith)), e.1) ]

pub set_other : {X : Type 0} (xs : List X) (k j : ℕ) (y : X) → j ≢ k → slice_get (slice_set xs k y) j ≡ slice_get xs j
set_other (x ∷ xs) zero zero y n = absurd (n refl)
set_other (x ∷ xs) (suc k) (suc j) y n = set_other xs k j y (λ e. n (ap suc e))
set_other _ _ _ y n = refl

-- what stands in a longer list stood in the first part, or stands in the second
pub append_cases : {X : Type 0} (xs ys : List X) (k : ℕ) (z : X) → slice_get (xs ++ ys) k ≡ Some z → (slice_get xs k ≡ Some z) ⊎ ((j : ℕ) × (k ≡ length xs + j) × (slice_get ys j ≡ Some z))
append_cases [] ys k z h = inr (k, (let e : k ≡ 0 + k = omega arith in e), h)
append_cases (x ∷ xs) ys zero z h = inl h
append_cases (x ∷ xs) ys (suc k) z h = elim (append_cases xs ys k z h) [ inl e ↦ inl e | inr e ↦ inr (e.0, (let f : suc k ≡ suc (length xs) + e.0 = omega arith in f), e.2) ]

pub append_first : {X : Type 0} (xs ys : List X) (k : ℕ) (z : X) → slice_get xs k ≡ Some z → slice_get (xs ++ ys) k ≡ Some z
append_first [] ys k z h = cc
append_first (x ∷ xs) ys zero z h = h
append_first (x ∷ xs) ys (suc k) z h = append_first xs ys k z h

pub there : {X : Type 0} (xs : List X) (k : ℕ) → k < length xs → (x : X) × (slice_get xs k ≡ Some x)
there [] k h = absurd (omega arith)
there (x ∷ xs) zero h = (x, refl)
there (x ∷ xs) (suc k) h = there xs k (omega arith)

-- What each caller keeps through all steps, and facts of other callers.

-- What every caller has beside its place, and how a fact is carried from the first world to each reached one.

-- the caller stands under its number, over this setup, and has a call at hand or has ended
pub record IsOwn (c : Setup) (k : ℕ) (l : Local) : Type 0 where
  pub setup : l.setup ≡ c
  pub caller : l.caller ≡ k
  pub call : (l.place ≡ Over) ⊎ (length l.answers < length l.calls)

pub record IsFramed (c : Setup) (w : World) : Type 0 where
  pub own : (k : ℕ) (l : Local) → slice_get w.locals k ≡ Some l → IsOwn c k l

-- the section that a caller makes next
pub record IsStep (w : World) (k : ℕ) (l : Local) (s : Section) : Type 0 where
  pub here : slice_get w.locals k ≡ Some l
  pub gives : given l.setup w.map (ask l.setup l.place) ≡ Some s

-- who makes a section hasn't ended
pub not_over : (c : Setup) (m : PlainMap) (p : Place) (s : Section) → given c m (ask c p) ≡ Some s → p ≢ Over
not_over c m p s h e = let none : given c m (ask c Over) ≡ Some s = subst (λ (q : Place). given c m (ask c q) ≡ Some s) e h in cc

module _ (c : Setup) (k : ℕ) (l : Local) (own : IsOwn c k l) where
  pub has_call : l.place ≢ Over → length l.answers < length l.calls
  has_call n = elim own.call [ inl e ↦ absurd (n e) | inr h ↦ h ]

  own_answered : (answer : Answered) (o : Option Call) → slice_get l.calls (suc (length l.answers)) ≡ o → IsOwn c k (answered l answer)
  own_answered answer None h = record { setup = own.setup; caller = own.caller; call = inl (ap (begin l.setup l.opening (l.answers ++ answer ∷ [])) h) }
  own_answered answer (Some call) h = record {
    setup = own.setup;
    caller = own.caller;
    call = inr (let n = slice_get_within l.calls (suc (length l.answers)) call h in omega (arith, length-append l.answers (answer ∷ [])));
  }

  own_answered_of : (answer : Call → Answered) (o : Option Call) → slice_get l.calls (length l.answers) ≡ o → IsOwn c k (answered_of l o answer)
  own_answered_of answer o h = grind (arith, own_answered)

  pub own_moved : l.place ≢ Over → (n : Next) → IsOwn c k (moved_to l n)
  own_moved n n' = grind (arith, has_call, own_answered_of)

pub framed_step : (c : Setup) (w : World) (k : ℕ) (l : Local) (s : Section) → IsFramed c w → IsStep w k l s → IsFramed c (made_by w l s)
framed_step c w k l s framed step = record {
  own = λ j l' h. let is = framed.own k l step.here in
      elim (set_cases w.locals l.caller j _ l' h) [
        | inl e ↦ subst (λ (x : Local). IsOwn c j x) (sym e.1) (subst (λ i. IsOwn c i (moved_to l (next l.setup l.place s))) (sym is.caller ∙ sym e.0) (own_moved c k l is (not_over l.setup w.map l.place s step.gives) _))
        | inr e ↦ framed.own j l' e.1
      ];
}

-- a caller at its start
own_started : (c : Setup) (opening : List Answered) (k : ℕ) (calls : List Call) (o : Option Call) → slice_get calls 0 ≡ o → IsOwn c k (started c opening k calls)
own_started c opening k calls None h = record { setup = refl; caller = refl; call = inl (ap (begin c opening []) h) }
own_started c opening k calls (Some call) h = record { setup = refl; caller = refl; call = inr (slice_get_within calls 0 call h) }

pub framed_opening : (c : Setup) (opening : List Call) (calls : List (List Call)) → IsFramed c (opening_world c opening calls)
framed_opening c opening calls = record { own = first }
  where
    first : (k : ℕ) (l : Local) → slice_get (started c [] 0 opening ∷ []) k ≡ Some l → IsOwn c k l
    first zero l h = let e : started c [] 0 opening ≡ l = cc in subst (λ (x : Local). IsOwn c 0 x) e (own_started c [] 0 opening _ refl)
    first (suc k) l h = cc

own_callers : (c : Setup) (answers : List Answered) (first : ℕ) (calls : List (List Call)) (j : ℕ) (l : Local) → slice_get (callers_from c answers first calls) j ≡ Some l → IsOwn c (first + j) l
own_callers c answers first [] j l h = cc
own_callers c answers first (own ∷ calls) zero l h =
    let e : started c answers first own ≡ l = cc in let n : first ≡ first + 0 = omega arith in
    subst (λ i. IsOwn c i l) n (subst (λ (x : Local). IsOwn c first x) e (own_started c answers first own _ refl))
own_callers c answers first (own ∷ calls) (suc j) l h = let n : suc first + j ≡ first + suc j = omega arith in subst (λ i. IsOwn c i l) n (own_callers c answers (suc first) calls j l h)

pub framed_callers : (c : Setup) (calls : List (List Call)) (w : World) → length w.locals ≡ 1 → IsFramed c w → IsFramed c (with_callers c calls w)
framed_callers c calls w one framed = record {
  own = λ k l h. elim (append_cases w.locals (callers_from c (opening_answers w.locals) 1 calls) k l h) [
    | inl e ↦ framed.own k l e
    | inr e ↦ let n : 1 + e.0 ≡ k = omega (arith, one, e.1) in subst (λ i. IsOwn c i l) n (own_callers c (opening_answers w.locals) 1 calls e.0 l e.2)
  ];
}

pub event_steps : (w : World) (e : Event) → IsNext w e → (l : Local) × IsStep w e.caller l e.section × (after_event w e ≡ made_by w l e.section)
event_steps w e next = grind (arith, one_next)

-- what each section keeps
abbrev pub IsKeptBySteps : (World → Type 0) → Type 0
IsKeptBySteps P = (w : World) (k : ℕ) (l : Local) (s : Section) → P w → IsStep w k l s → P (made_by w l s)

pub run_keeps : (P : World → Type 0) → IsKeptBySteps P → (w : World) (es : List Event) → P w → IsRun w es → P (world_after w es)
run_keeps P keeps w [] first run = first
run_keeps P keeps w (e ∷ es) first run = grind (arith, run_keeps P keeps (after_event w e) es, event_steps)

-- a fact of the opening's worlds, and one of the callers' worlds that it leads to
pub reached_have : (P Q : World → Type 0) (c : Setup) (opening : List Call) (calls : List (List Call)) → P (opening_world c opening calls) → IsKeptBySteps P
    → ((w : World) → P w → AllOver w.locals → Q (with_callers c calls w)) → IsKeptBySteps Q → (w : World) → IsReached c opening calls w → P w ⊎ Q w
reached_have P Q c opening calls first keeps leads goes_on w (inl r) = inl (subst P (sym r.2) (run_keeps P keeps (opening_world c opening calls) r.0 first r.1))
reached_have P Q c opening calls first keeps leads goes_on w (inr r) =
    let opened = run_keeps P keeps (opening_world c opening calls) r.0 first r.2.0 in
    let begun = leads (world_after (opening_world c opening calls) r.0) opened r.2.1 in
    inr (subst Q (sym r.3) (run_keeps Q goes_on (callers_world c opening calls r.0) r.1 begun r.2.2))

-- the opening has one caller
pub record IsOpening (c : Setup) (w : World) : Type 0 where
  pub framed : IsFramed c w
  pub one : length w.locals ≡ 1

pub opening_step : (c : Setup) → IsKeptBySteps (IsOpening c)
opening_step c w k l s is step = record { framed = framed_step c w k l s is.framed step; one = length-set w.locals l.caller (moved_to l (next l.setup l.place s)) ∙ is.one }

-- a fact that the first world has, that each section keeps, and that more callers at their start keep too
pub record IsLasting (c : Setup) (calls : List (List Call)) (P : World → Type 0) : Type 0 where
  pub steps : (w : World) (k : ℕ) (l : Local) (s : Section) → IsFramed c w → P w → IsStep w k l s → P (made_by w l s)
  pub joins : (w : World) → IsFramed c w → length w.locals ≡ 1 → P w → AllOver w.locals → P (with_callers c calls w)

pub lasts : (c : Setup) (opening : List Call) (calls : List (List Call)) (P : World → Type 0) → P (opening_world c opening calls) → IsLasting c calls P
    → (w : World) → IsReached c opening calls w → IsFramed c w × P w
lasts c opening calls P first is w reached =
    elim (reached_have (λ v. IsOpening c v × P v) (λ v. IsFramed c v × P v) c opening calls (record { framed = framed_opening c opening calls; one = refl }, first)
    (λ v k l s h step. (opening_step c v k l s h.0 step, is.steps v k l s h.0.framed h.1 step))
    (λ v h over. (framed_callers c calls v h.0.one h.0.framed, is.joins v h.0.framed h.0.one h.1 over))
    (λ v k l s h step. (framed_step c v k l s h.0 step, is.steps v k l s h.0 h.1 step)) w reached) [
      | inl h ↦ (h.0.framed, h.1)
      | inr h ↦ h
    ]

-- What some caller does at its place, and what some other caller than a given one does.

abbrev pub Someone : (Place → Type 0) → World → Type 0
Someone P w = (k : ℕ) × (l : Local) × (slice_get w.locals k ≡ Some l) × P l.place

abbrev pub SomeOther : (Place → Type 0) → World → ℕ → Type 0
SomeOther P w k = (j : ℕ) × (x : Local) × (slice_get w.locals j ≡ Some x) × (j ≢ k) × P x.place

module _ (P : Place → Type 0) (w : World) (k : ℕ) (l : Local) (here : slice_get w.locals k ≡ Some l) where
  -- it is another caller, or this one
  pub other_or : Someone P w → SomeOther P w k ⊎ P l.place
  other_or is = elim (same_or is.0 k) [
    | inl e ↦ inr (let at = is.2 in let f : slice_get w.locals k ≡ Some is.1 = ap (slice_get w.locals) (sym e) ∙ at in let same : is.1 ≡ l = cc in subst (λ (x : Local). P x.place) same is.3)
    | inr apart ↦ inl (is.0, is.1, is.2, apart, is.3)
  ]

  -- the others do it still when this caller has moved
  pub others_still : (after : Local) (m : PlainMap) (events : List Event) → SomeOther P w k ⊎ P after.place → Someone P (record { map = m; locals = slice_set w.locals k after; events = events })
  others_still after m events (inl is) = (is.0, is.1, set_other w.locals k is.0 after is.3 ∙ is.2, is.4)
  others_still after m events (inr is) = (k, after, set_same w.locals k l after here, is)

-- more callers join
pub someone_joins : (P : Place → Type 0) (w : World) (more : List Local) → Someone P w → Someone P (record w { locals = w.locals ++ more })
someone_joins P w more is = (is.0, is.1, append_first w.locals more is.0 is.1 is.2, is.3)
