-- Every run ends, and more fuel changes nothing.
use Rattle.std.proofs.Common.{◌≡◌, ◌≢◌, ℕ, zero, suc, ◌+◌, ◌*◌, ◌-◌, ◌<◌, ◌≤◌, ◌⊎◌, inl, inr, Bool, true, false, cond, List, [], ◌∷◌, length, find, slice_get, sum_by, Option, Some, None, is_some, refl, ap, sym, ◌∙◌, subst, arith, length-append}
use Rattle.std.proofs.lemmas.List.Sums.{sum_by-cons, sum_by-append}
use Rattle.std.proofs.lemmas.Option.{slice_get_within}
use Rattle.std.proofs.Math.Nat.{mul-suc}
use Rattle.vm_model.specs.declared.calls.Call.{Call}
use Rattle.vm_model.specs.Space.{count_from}
use Rattle.vm_model.specs.Setup.{Setup}
use Rattle.vm_model.specs.Events.{Section}
use Rattle.vm_model.specs.Places.{Ask, AskNothing, ask}
use Rattle.vm_model.specs.Calls.{Answered, begin}
use Rattle.vm_model.specs.Given.{given}
use Rattle.vm_model.specs.History.{World, Local, started, made_by, made_if, step, step_of, moves_in, first_mover, finish, most_events, opening_world, opening_answers, callers_from, with_callers}
use Rattle.vm_model.specs.LegalHistory.{AllOver, IsReached}
use Rattle.vm_model.specs.Rules.{IsTrace}
use Rattle.vm_model.specs.Laws.{MoreFuelChangesNothing}
use Rattle.vm_model.proofs.OneNext.{gives}
use Rattle.map_laws.specs.EveryRunEnds.{EveryRunEnds, HistoriesAreShort}
use Rattle.map_laws.proofs.KeptThroughSteps.{append_first, IsFramed, IsStep, IsOpening, IsKeptBySteps, framed_opening, framed_callers, framed_step, opening_step, reached_have}
use Rattle.map_laws.proofs.ProperPlaces.{begins_with}
use Rattle.map_laws.proofs.TurnProofs.{AreTurnsProper, turns_first, turns_last, some_moves}
use Rattle.map_laws.proofs.TestsAndFilters.{find_has}
use Rattle.map_laws.proofs.StepFalls.{left, per_call}
use Rattle.map_laws.proofs.chunks.ChunkFalls.{AreSized, sized_section}
use Rattle.map_laws.proofs.Potential.{weight, credit_at, credit_of, potential, left_begins, potential_falls, past_end, no_rest, one_rest}

-- what each section needs to lower the potential
pub record IsEnding (c : Setup) (w : World) : Type 0 where
  pub framed : IsFramed c w
  pub turns : AreTurnsProper w
  pub sized : AreSized c w.map.chunks

pub ending_step : (c : Setup) (calls : List (List Call)) (w : World) (k : ℕ) (l : Local) (s : Section) → IsEnding c w → IsStep w k l s → IsEnding c (made_by w l s)
ending_step c calls w k l s is step =
    let own = is.framed.own k l step.here in record {
      framed = framed_step c w k l s is.framed step;
      turns = (turns_last c calls).steps w k l s is.framed is.turns step;
      sized = subst (λ d. AreSized d (made_by w l s).map.chunks) own.setup (sized_section l.setup w.map l.caller s (subst (λ d. AreSized d w.map.chunks) (sym own.setup) is.sized));
    }

-- The mover.

-- who moves makes a section
pub mover_option : (w : World) (k : ℕ) (o : Option Local) → slice_get w.locals k ≡ o → moves_in w o ≡ true → (l : Local) × (s : Section) × IsStep w k l s × (step w k ≡ made_by w l s)
mover_option w k None e h = cc
mover_option w k (Some l) e h = given_option (given l.setup w.map (ask l.setup l.place)) refl
  where
    given_option : (o : Option Section) → given l.setup w.map (ask l.setup l.place) ≡ o → (l : Local) × (s : Section) × IsStep w k l s × (step w k ≡ made_by w l s)
    given_option None g = let some : is_some (given l.setup w.map (ask l.setup l.place)) ≡ true = gives l.setup w.map (ask l.setup l.place) ∙ h in
        absurd (let no : is_some (given l.setup w.map (ask l.setup l.place)) ≡ false = ap is_some g in cc)
    given_option (Some s) g = (l, s, record { here = e; gives = g }, ap (step_of w) e ∙ ap (made_if w l) g)

pub mover_steps : (w : World) (k : ℕ) → first_mover w ≡ Some k → (l : Local) × (s : Section) × IsStep w k l s × (step w k ≡ made_by w l s)
mover_steps w k e = mover_option w k (slice_get w.locals k) refl (find_has (λ k. moves_in w (slice_get w.locals k)) (count_from (length w.locals) 0) k e).1

-- what isn't found nowhere passes
none_passes_by : {X : Type 0} (p : X → Bool) (xs : List X) (y : X) (b : Bool) → p y ≡ b → cond b (Some y) (find p xs) ≡ None → (p y ≡ false) × (find p xs ≡ None)
none_passes_by p xs y true e h = cc
none_passes_by p xs y false e h = (e, h)

none_passes : {X : Type 0} (p : X → Bool) (xs : List X) → find p xs ≡ None → (i : ℕ) (x : X) → slice_get xs i ≡ Some x → p x ≡ false
none_passes p [] h i x e = cc
none_passes p (y ∷ xs) h zero x e = let same : y ≡ x = cc in ap p (sym same) ∙ (none_passes_by p xs y _ refl h).0
none_passes p (y ∷ xs) h (suc i) x e = none_passes p xs (none_passes_by p xs y _ refl h).1 i x e

count_from-at : (n first i : ℕ) → i < n → slice_get (count_from n first) i ≡ Some (first + i)
count_from-at zero first i h = absurd (omega arith)
count_from-at (suc n) first zero h = ap (λ j. Some j) (let e : first ≡ first + 0 = omega arith in e)
count_from-at (suc n) first (suc i) h = count_from-at n (suc first) i (omega arith) ∙ ap (λ j. Some j) (let e : suc first + i ≡ first + suc i = omega arith in e)

moves_within : (w : World) (j : ℕ) (o : Option Local) → slice_get w.locals j ≡ o → moves_in w o ≡ true → j < length w.locals
moves_within w j o e h = grind (arith, slice_get_within)

nobody_moves : (w : World) → first_mover w ≡ None → (j : ℕ) → moves_in w (slice_get w.locals j) ≡ true → ⊥
nobody_moves w none j h =
    let within = moves_within w j (slice_get w.locals j) refl h in
    let at = count_from-at (length w.locals) 0 j within in
    let here : slice_get (count_from (length w.locals) 0) j ≡ Some j = at ∙ ap (λ i. Some i) (let e : 0 + j ≡ j = omega arith in e) in
    let no = none_passes (λ k. moves_in w (slice_get w.locals k)) (count_from (length w.locals) 0) none j j here in cc

nothing_or : (a : Ask) → (a ≡ AskNothing) ⊎ (a ≢ AskNothing)
nothing_or a = grind arith

all_over : (locals : List Local) → ((k : ℕ) (l : Local) → slice_get locals k ≡ Some l → ask l.setup l.place ≡ AskNothing) → AllOver locals
all_over [] h = tt
all_over (l ∷ locals) h = (h 0 l refl, all_over locals (λ k x e. h (suc k) x e))

pub over_where_none : (w : World) → AreTurnsProper w → first_mover w ≡ None → AllOver w.locals
over_where_none w kept none = all_over w.locals (λ k l here. elim (nothing_or (ask l.setup l.place)) [
  | inl e ↦ e
  | inr n ↦ let j = some_moves w kept.turns k l here n in absurd (nobody_moves w none j.0 j.1)
])

-- Fuel.

pub finish_none : (n : ℕ) (w : World) → first_mover w ≡ None → finish (suc n) w ≡ w
unfolding finish
finish_none n w e = ap (λ (o : Option ℕ). elim o [ None ↦ w | Some k ↦ finish n (step w k) ]) e

pub finish_some : (n : ℕ) (w : World) (k : ℕ) → first_mover w ≡ Some k → finish (suc n) w ≡ finish n (step w k)
unfolding finish
finish_some n w k e = ap (λ (o : Option ℕ). elim o [ None ↦ w | Some k ↦ finish n (step w k) ]) e

pub finish_zero : (w : World) → finish 0 w ≡ w
unfolding finish
finish_zero w = refl

pub finish_stays : (n : ℕ) (w : World) → first_mover w ≡ None → finish n w ≡ w
finish_stays zero w e = finish_zero w
finish_stays (suc n) w e = finish_none n w e

module _ (c : Setup) (calls : List (List Call)) (units : 8 ≤ c.unit_pages) where
  -- a mover's step lowers the potential
  mover_falls : (w : World) (k : ℕ) → IsEnding c w → first_mover w ≡ Some k → IsEnding c (step w k) × (potential c (step w k) < potential c w)
  mover_falls w k is e =
      let at = mover_steps w k e in (
        subst (IsEnding c) (sym at.3) (ending_step c calls w k at.0 at.1 is at.2),
        subst (λ v. potential c v < potential c w) (sym at.3) (potential_falls c w k at.0 at.1 units is.framed is.turns is.sized at.2),
      )

  more_by : (n more : ℕ) (w : World) (o : Option ℕ) → first_mover w ≡ o → IsEnding c w → potential c w ≤ suc n
      → ((v : World) → IsEnding c v → potential c v ≤ n → finish (n + more) v ≡ finish n v) → finish (suc (n + more)) w ≡ finish (suc n) w
  more_by n more w None e is h again = finish_none (n + more) w e ∙ sym (finish_none n w e)
  more_by n more w (Some k) e is h again = let fall = mover_falls w k is e in
      finish_some (n + more) w k e ∙ again (step w k) fall.0 (let less = fall.1 in omega arith) ∙ sym (finish_some n w k e)

  rest_none : (w : World) (o : Option ℕ) → first_mover w ≡ o → IsEnding c w → potential c w ≤ 0 → first_mover w ≡ None
  rest_none w None e is h = e
  rest_none w (Some k) e is h = let less = (mover_falls w k is e).1 in absurd (omega arith)

  pub finish_more : (n more : ℕ) (w : World) → IsEnding c w → potential c w ≤ n → finish (n + more) w ≡ finish n w
  finish_more zero more w is h = grind (arith, rest_none, finish_stays, finish_zero)
  finish_more (suc n) more w is h = let e : suc n + more ≡ suc (n + more) = omega arith in
      ap (λ i. finish i w) e ∙ more_by n more w (first_mover w) refl is h (λ v good low. finish_more n more v good low)

  -- a world in which nobody moves
  pub record IsEnd (w : World) : Type 0 where
    pub ending : IsEnding c w
    pub none : first_mover w ≡ None

  end_by : (n : ℕ) (w : World) (o : Option ℕ) → first_mover w ≡ o → IsEnding c w → potential c w ≤ suc n → ((v : World) → IsEnding c v → potential c v ≤ n → IsEnd (finish n v)) → IsEnd (finish (suc n) w)
  end_by n w None e is h again = subst IsEnd (sym (finish_none n w e)) (record { ending = is; none = e })
  end_by n w (Some k) e is h again = let fall = mover_falls w k is e in
      subst IsEnd (sym (finish_some n w k e)) (again (step w k) fall.0 (let less = fall.1 in omega arith))

  pub finish_end : (n : ℕ) (w : World) → IsEnding c w → potential c w ≤ n → IsEnd (finish n w)
  finish_end zero w is h = subst IsEnd (sym (finish_zero w)) (record { ending = is; none = rest_none w (first_mover w) refl is h })
  finish_end (suc n) w is h = end_by n w (first_mover w) refl is h (λ v good low. finish_end n v good low)

  pub over_at_end : (w : World) → IsEnd w → AllOver w.locals
  over_at_end w end = over_where_none w end.ending.turns end.none

-- How much all callers have left at first.

mul_add : (b x y : ℕ) → b * (x + y) ≡ b * x + b * y
mul_add b x zero = let e : x + 0 ≡ x = omega arith in ap (λ i. b * i) e ∙ (let f : b * x ≡ b * x + b * 0 = omega arith in f)
mul_add b x (suc y) = let e : x + suc y ≡ suc (x + y) = omega arith in ap (λ i. b * i) e ∙ (let f : b * suc (x + y) ≡ b * x + b * suc y = omega (arith, mul-suc b (x + y), mul-suc b y, mul_add b x y) in f)

most_times : (b t : ℕ) → b ≤ 424 → b * t ≤ 424 * t
most_times b zero h = omega arith
most_times b (suc t) h = omega (arith, mul-suc b t, most_times b t h)

weight_started : (c : Setup) (answers : List Answered) (k : ℕ) (own : List Call) (o : Option Call) → slice_get own 0 ≡ o → weight c (started c answers k own) ≤ per_call c * length own
weight_started c answers k own None e = grind (arith, left, past_end, no_rest, per_call)
weight_started c answers k own (Some call) e =
    let within = slice_get_within own 0 call e in
    let begun : left c (begin c answers [] (slice_get own 0)) ≤ per_call c = begins_with (λ p. left c p ≤ per_call c) c (left_begins c) answers [] (slice_get own 0) in
    omega (arith, one_rest (per_call c) (length own) (length own - suc 0) (omega arith))

weight_callers : (c : Setup) (answers : List Answered) (first : ℕ) (calls : List (List Call)) → sum_by (weight c) (callers_from c answers first calls) ≤ per_call c * sum_by length calls
weight_callers c answers first [] = omega arith
weight_callers c answers first (own ∷ calls) =
    let total : sum_by length (own ∷ calls) ≡ length own + sum_by length calls = sum_by-cons length own calls in
    omega (
      arith,
      sum_by-cons (weight c) (started c answers first own) (callers_from c answers (suc first) calls),
      weight_started c answers first own (slice_get own 0) refl,
      weight_callers c answers (suc first) calls,
      ap (λ i. per_call c * i) total,
      mul_add (per_call c) (length own) (sum_by length calls),
    )

-- the worlds of the opening, and those of the callers, with what is left and what was made
pub record IsWithin (c : Setup) (most : ℕ) (w : World) : Type 0 where
  pub ending : IsEnding c w
  pub within : potential c w + length w.events ≤ per_call c * most

within_step : (c : Setup) (calls : List (List Call)) (most : ℕ) → 8 ≤ c.unit_pages → IsKeptBySteps (IsWithin c most)
within_step c calls most units w k l s is step = record {
  ending = ending_step c calls w k l s is.ending step;
  within = (let less = potential_falls c w k l s units is.ending.framed is.ending.turns is.ending.sized step in let before = is.within in
      omega (arith, length-append w.events ((record { caller = l.caller; section = s }) ∷ [])));
}

within_first : (c : Setup) (opening : List Call) (calls : List (List Call)) → IsWithin c (length opening) (opening_world c opening calls)
within_first c opening calls = record {
  ending = record { framed = framed_opening c opening calls; turns = turns_first c opening calls; sized = record { each = λ i h e. cc } };
  within = omega (arith, weight_started c [] 0 opening (slice_get opening 0) refl, sum_by-cons (weight c) (started c [] 0 opening) []);
}

credit_joins : (c : Setup) (calls : List (List Call)) (w : World) → AreTurnsProper w → (t : Option ℕ) → w.map.alloc_turn ≡ t
    → credit_of w.map.chunks (with_callers c calls w).locals t ≡ credit_of w.map.chunks w.locals t
credit_joins c calls w kept t e = grind (arith, credit_at, append_first)

within_joins : (c : Setup) (calls : List (List Call)) (most : ℕ) (w : World) → length w.locals ≡ 1 → AllOver w.locals → IsWithin c most w → IsWithin c (most + sum_by length calls) (with_callers c calls w)
within_joins c calls most w one over is = record {
  ending = record { framed = framed_callers c calls w one is.ending.framed; turns = (turns_last c calls).joins w is.ending.framed one is.ending.turns over; sized = is.ending.sized };
  within = (let before = is.within in omega (
    arith,
    sum_by-append (weight c) w.locals (callers_from c (opening_answers w.locals) 1 calls),
    weight_callers c (opening_answers w.locals) 1 calls,
    credit_joins c calls w is.ending.turns w.map.alloc_turn refl,
    mul_add (per_call c) most (sum_by length calls),
  ));
}

-- each reached world is within the bound
pub within_reached : (c : Setup) (opening : List Call) (calls : List (List Call)) (w : World) → IsTrace c opening calls → IsReached c opening calls w → IsWithin c (length opening + sum_by length calls) w
within_reached c opening calls w trace reached =
    let units = trace.setup.unit_low in
    elim (reached_have (λ v. IsOpening c v × IsWithin c (length opening) v) (IsWithin c (length opening + sum_by length calls)) c opening calls
    (record { framed = framed_opening c opening calls; one = refl }, within_first c opening calls)
    (λ v k l s is step. (opening_step c v k l s is.0 step, within_step c calls (length opening) units v k l s is.1 step))
    (λ v is over. within_joins c calls (length opening) v is.0.one over is.1)
    (within_step c calls (length opening + sum_by length calls) units) w reached) [
      | inl is ↦ record { ending = is.1.ending; within = (let low = is.1.within in omega (arith, mul_add (per_call c) (length opening) (sum_by length calls))) }
      | inr is ↦ is
    ]

few_left : (c : Setup) (opening : List Call) (calls : List (List Call)) (w : World) → IsTrace c opening calls → IsReached c opening calls w → potential c w + length w.events < most_events
few_left c opening calls w trace reached =
    let low = (within_reached c opening calls w trace reached).within in
    let few = trace.few in let setup = trace.setup in
    let units = setup.unit_high in let own = setup.units.few in
    let per : per_call c ≤ 424 = omega arith in
    omega (arith, most_times (per_call c) (length opening + sum_by length calls) per)

pub every_run_ends : EveryRunEnds
every_run_ends c opening calls w trace reached =
    let is = within_reached c opening calls w trace reached in
    let low : potential c w ≤ most_events = omega (arith, few_left c opening calls w trace reached) in
    over_at_end c calls trace.setup.unit_low (finish most_events w) (finish_end c calls trace.setup.unit_low most_events w is.ending low)

pub histories_short : HistoriesAreShort
histories_short c opening calls w trace reached = omega (arith, few_left c opening calls w trace reached)

pub more_fuel : MoreFuelChangesNothing
more_fuel c opening calls w more trace reached =
    let is = within_reached c opening calls w trace reached in
    let low : potential c w ≤ most_events = omega (arith, few_left c opening calls w trace reached) in
    finish_more c calls trace.setup.unit_low most_events more w is.ending low
