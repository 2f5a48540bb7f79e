-- What all callers have left falls with each section.
use Rattle.std.proofs.lemmas.Bool.Decides.{nat_tests}
use Rattle.std.proofs.Common.{◌≡◌, ℕ, zero, suc, ◌+◌, ◌*◌, ◌-◌, ◌<◌, ◌≤◌, Bool, true, false, List, [], ◌∷◌, ◌++◌, length, slice_get, slice_set, sum_by, Option, Some, None, refl, ap, sym, ◌∙◌, subst, arith, get_or, length-append}
use Rattle.std.proofs.lemmas.List.Sums.{sum_by-set}
use Rattle.std.proofs.lemmas.Option.{slice_get_within, get_or_from_slice_get}
use Rattle.std.proofs.Math.Nat.{mul-suc}
use Rattle.vm_model.specs.declared.calls.Call.{Call}
use Rattle.vm_model.specs.Setup.{Setup}
use Rattle.vm_model.specs.PlainMap.{Chunk}
use Rattle.vm_model.specs.Events.{Section}
use Rattle.vm_model.specs.Effects.{effect_as}
use Rattle.vm_model.specs.Places.{Place, Over, ask}
use Rattle.vm_model.specs.Given.{given}
use Rattle.vm_model.specs.Next.{Next, Go, Answer, next}
use Rattle.vm_model.specs.Calls.{Answered}
use Rattle.vm_model.specs.History.{World, Local, answered, moved_to, made_by}
use Rattle.vm_model.specs.Carried.{IsTurnKept, has_alloc}
use Rattle.map_laws.proofs.KeptThroughSteps.{set_same, set_other, IsFramed, IsStep, not_over, has_call}
use Rattle.map_laws.proofs.ProperPlaces.{IsProper, HaveBeginnings, AtOver, begins_with, answers_call}
use Rattle.map_laws.proofs.TurnProofs.{Change, Stays, Taken, Given, has_next, alloc_change, AreTurnsProper}
use Rattle.map_laws.proofs.chunks.ChunkFalls.{worth_of, added, AreSized}
use Rattle.map_laws.proofs.StepFalls.{left, left_next, per_call, is_balancing, credit, credit_next, no_credit_next, no_filling_next, plain_falls, place_falls, credit_falls}

-- what a caller has left, in its call and in those behind it
abbrev pub weight : Setup → Local → ℕ
weight c l = left c l.place + per_call c * (length l.calls - suc (length l.answers))

abbrev pub credit_at : List Chunk → Option Local → ℕ
credit_at chunks None = 0
credit_at chunks (Some l) = credit chunks l.place

-- the credit of who has the alloc turn
abbrev pub credit_of : List Chunk → List Local → Option ℕ → ℕ
credit_of chunks locals None = 0
credit_of chunks locals (Some k) = credit_at chunks (slice_get locals k)

abbrev pub potential : Setup → World → ℕ
potential c w = sum_by (weight c) w.locals + worth_of c w.map.chunks + credit_of w.map.chunks w.locals w.map.alloc_turn

-- The beginnings of calls.

pub left_begins : (c : Setup) → HaveBeginnings (λ p. left c p ≤ per_call c) c
left_begins c p opens = grind arith

credit_begins : (chunks : List Chunk) (c : Setup) → HaveBeginnings (λ p. credit chunks p ≡ 0) c
credit_begins chunks c p opens = grind arith

credit_moved : (chunks : List Chunk) (l : Local) (n : Next) → length l.answers < length l.calls → credit chunks (moved_to l n).place ≡ credit_next chunks n
credit_moved chunks l (Go p) h = refl
credit_moved chunks l (Answer r made) h = let e = answers_call l r made h in
    ap (λ (x : Local). credit chunks x.place) e.2 ∙ begins_with (λ p. credit chunks p ≡ 0) l.setup (credit_begins chunks l.setup) l.opening _ (slice_get l.calls (suc (length l.answers)))

-- one call fewer is left where a next one begins, and none where none does
pub past_end : {X : Type 0} (xs : List X) (k : ℕ) → slice_get xs k ≡ None → length xs ≤ k
past_end [] k h = grind (arith, nat_tests)
past_end (x ∷ xs) k h = grind (arith, past_end xs)

pub no_rest : (b n : ℕ) → n ≡ 0 → b * n ≤ 0
no_rest b n e = let z : b * n ≡ b * 0 = ap (λ i. b * i) e in omega arith

pub one_rest : (b n m : ℕ) → n ≡ suc m → b + b * m ≤ b * n
one_rest b n m e = let z : b * n ≡ b * suc m = ap (λ i. b * i) e in omega (arith, mul-suc b m)

weight_answered : (l : Local) (answer : Answered) (o : Option Call) → slice_get l.calls (suc (length l.answers)) ≡ o
    → weight l.setup (answered l answer) ≤ per_call l.setup * (length l.calls - suc (length l.answers))
weight_answered l answer None e = grind (arith, left, past_end, no_rest, per_call, length-append)
weight_answered l answer (Some call) e =
    let within = slice_get_within l.calls (suc (length l.answers)) call e in
    search (one_rest, length-append, arith) depth 6

weight_moved : (l : Local) (n : Next) → length l.answers < length l.calls → weight l.setup (moved_to l n) ≤ left_next l.setup n + per_call l.setup * (length l.calls - suc (length l.answers))
weight_moved l n h = grind (arith, weight_answered, past_end)

-- who fills or gives up has the alloc turn
balancing_has : (p : Place) → has_alloc p ≡ false → is_balancing p ≡ false
balancing_has p h = grind arith

module _ (w : World) (l : Local) (s : Section) (here : slice_get w.locals l.caller ≡ Some l) (call : length l.answers < length l.calls) (turn : IsTurnKept w w.map.alloc_turn has_alloc)
    (units : 8 ≤ l.setup.unit_pages) (sized : AreSized l.setup w.map.chunks) (proper : IsProper l.setup l.place) (gives : given l.setup w.map (ask l.setup l.place) ≡ Some s) where
  abbrev now : List Chunk
  now = (effect_as l.setup w.map l.caller s).chunks

  abbrev then_locals : List Local
  then_locals = slice_set w.locals l.caller (moved_to l (next l.setup l.place s))

  moved_credit : credit_at now (slice_get then_locals l.caller) ≡ credit_next now (next l.setup l.place s)
  moved_credit = ap (credit_at now) (set_same w.locals l.caller l (moved_to l (next l.setup l.place s)) here) ∙ credit_moved now l (next l.setup l.place s) call

  -- the credits of the holders before and after, with the caller's own part
  pub record Falls (before later : Option ℕ) : Type 0 where
    pub less : left_next l.setup (next l.setup l.place s) + credit_of now then_locals later + worth_of l.setup now
        < left l.setup l.place + credit_of w.map.chunks w.locals before + worth_of l.setup w.map.chunks

  plain : has_alloc l.place ≡ false → left_next l.setup (next l.setup l.place s) + added l.setup s < left l.setup l.place
  plain none = plain_falls l.setup w.map l.caller units l.place s (balancing_has l.place none) proper gives

  no_own : has_alloc l.place ≡ false → credit_next now (next l.setup l.place s) ≡ 0
  no_own none = no_credit_next now (next l.setup l.place s) (no_filling_next l.setup l.place s (balancing_has l.place none))

  nobody_holds : has_alloc l.place ≡ false → Falls None None
  nobody_holds none = record { less = omega (arith, credit_falls l.setup w.map l.caller units s Over, plain none) }

  stays_by : (b : Bool) → has_alloc l.place ≡ b → (t : Option ℕ) → w.map.alloc_turn ≡ t → Falls t t
  stays_by false none None e = nobody_holds none
  stays_by false none (Some j) e = grind (arith, credit, set_other, credit_falls, plain)
  stays_by true has None e = let mine = turn.mine l.caller l here has in cc
  stays_by true has (Some j) e = grind (arith, credit, credit_next, moved_credit, place_falls)

  taken_falls : (b : Bool) → has_alloc l.place ≡ b → w.map.alloc_turn ≡ None → Falls None (Some l.caller)
  taken_falls true has e = let mine = turn.mine l.caller l here has in cc
  taken_falls false none e = record { less = omega (arith, moved_credit, no_own none, credit_falls l.setup w.map l.caller units s Over, plain none) }

  given_falls : has_alloc l.place ≡ true → Falls (Some l.caller) None
  given_falls has = grind (arith, place_falls, moved_credit)

  by_change : (later : Option ℕ) → Change w.map.alloc_turn later l.caller (has_alloc l.place) (has_next has_alloc (next l.setup l.place s)) → Falls w.map.alloc_turn later
  by_change later change = grind (arith, stays_by, taken_falls, given_falls)

  pub own_falls : Falls w.map.alloc_turn (effect_as l.setup w.map l.caller s).alloc_turn
  own_falls = by_change _ (alloc_change l.setup w.map l.caller l.place s proper gives)

  pub potential_less : potential l.setup (made_by w l s) < potential l.setup w
  potential_less =
      let sum = sum_by-set (weight l.setup) w.locals l.caller (moved_to l (next l.setup l.place s)) l (slice_get_within w.locals l.caller l here) in
      let own : weight l.setup (get_or w.locals l.caller l) ≡ weight l.setup l = ap (weight l.setup) (get_or_from_slice_get w.locals l.caller l l here) in
      grind (arith, own_falls, weight_moved)

-- in a world that is framed, proper and sized
pub potential_falls : (c : Setup) (w : World) (k : ℕ) (l : Local) (s : Section) → 8 ≤ c.unit_pages → IsFramed c w → AreTurnsProper w → AreSized c w.map.chunks → IsStep w k l s
    → potential c (made_by w l s) < potential c w
potential_falls c w k l s units framed kept sized step =
    let own = framed.own k l step.here in
    grind (arith, potential_less)
