-- Sections keep a state lawful, and callers that move in turn are picks of the world.
use Rattle.std.proofs.Common.{◌≡◌, ℕ, zero, suc, ◌+◌, ◌<◌, Bool, true, false, ◌&&◌, List, [], ◌∷◌, length, Option, Some, None, slice_get, slice_set, refl, sym, ap, ◌∙◌, subst, arith, length-set}
use Rattle.std.proofs.lemmas.List.{length-map}
use Rattle.std.proofs.lemmas.Option.{slice_get_within, same_Some}
use Rattle.vm_model.specs.declared.calls.Call.{Call}
use Rattle.vm_model.specs.Setup.{Setup, cpus}
use Rattle.vm_model.specs.Space.{count_from}
use Rattle.vm_model.specs.PlainMap.{PlainMap}
use Rattle.vm_model.specs.Places.{ask}
use Rattle.vm_model.specs.Given.{can_move}
use Rattle.vm_model.specs.History.{World, Local, step, moves_in}
use Rattle.vm_model.specs.Rules.{IsSetup}
use Rattle.vm_model.specs.Parts.{Region, cpu_blocks, regions_of, state_of, wants, moves, after}
use Rattle.vm_model.specs.Run.{section_by}
use Rattle.map_parts.specs.Locality.{IsOverOneRegion}
use Rattle.map_parts.specs.KeptByEvents.{KeepsApart, IsSoundLocal}
use Rattle.map_parts.proofs.SectionRunProofs.{run_of_sections}
use Rattle.map_parts.proofs.LocalityProofs.{over_one_region}
use Rattle.map_parts.proofs.KeptApart.{kept_worlds_fall_apart, kept_callers_stay_within}
use Rattle.map_parts.proofs.ReachedKept.{reached_worlds_keep_apart}
use Rattle.map_parts.proofs.WholeRuns.{runs_are_parts}
use Rattle.map_laws.proofs.ReachedSteps.{steps_reached}
use Rattle.section_laws.specs.Lawful.{IsRunning, IsLawful}
use Rattle.section_laws.specs.MovesInTurn.{SectionsKeepLawful, above, ReachIsTheRegions, SectionsKeepReach, Moves, AllMove, all_move, TurnsArePicks}

module _ (c : Setup) (opening : List Call) (calls : List (List Call)) (w : World) (is : IsRunning c opening calls w) where
  pub next_running : (k : ℕ) → IsRunning c opening calls (step w k)
  next_running k = record {
    trace = is.trace;
    opening_small = is.opening_small;
    callers_small = is.callers_small;
    reached = (steps_reached c opening calls is.trace).steps w k is.reached;
  }

  pub next_state : (k : ℕ) → section_by wants moves after (state_of c w) k (slice_get w.locals k) ≡ state_of c (step w k)
  next_state k = runs_are_parts c opening calls w (k ∷ []) is.trace is.reached

  module _ (k : ℕ) (l : Local) (here : slice_get w.locals k ≡ Some l) (n : ℕ) (wanted : wants l ≡ Some n) where
    mine : IsSoundLocal c w.map k l
    mine = (reached_worlds_keep_apart c opening calls w is.trace is.reached).locals k l here

    over : IsOverOneRegion l.setup w.map k (ask l.setup l.place) n
    over =
        let setup : IsSetup l.setup = subst IsSetup (sym mine.setup) is.trace.setup in
        let kept : KeepsApart l.setup w = subst (λ d. KeepsApart d w) (sym mine.setup) (reached_worlds_keep_apart c opening calls w is.trace is.reached) in
        over_one_region l.setup w.map k (ask l.setup l.place) n (kept_worlds_fall_apart l.setup w setup kept) (kept_callers_stay_within l.setup w k l setup kept here) wanted

    there : slice_get (regions_of c w.map) n ≡ Some over.region
    there = ap (λ d. slice_get (regions_of d w.map) n) (sym mine.setup) ∙ over.here

    -- over its region a caller moves where it does in the world
    pub moves_alike : (r : Region) → slice_get (regions_of c w.map) n ≡ Some r → moves l r ≡ can_move w.map (ask l.setup l.place)
    moves_alike r at = ap (moves l) (same_Some _ _ (sym at ∙ there)) ∙ over.moves_alike

    -- and its region is there
    pub wanted_there : n < length (regions_of c w.map)
    wanted_there = slice_get_within (regions_of c w.map) n over.region there

pub sections_keep_lawful : SectionsKeepLawful
sections_keep_lawful rs ls caller region l r law here wanted there may =
    let (c, opening, calls, w, running, same) = law in (
      c,
      opening,
      calls,
      step w caller,
      next_running c opening calls w running caller,
      sym ((run_of_sections wants moves after).moved (rs, ls) caller region l r wanted there may)
          ∙ ap (section_by wants moves after (rs, ls) caller) (sym here)
          ∙ ap (λ (s : List Region × List Local). section_by wants moves after s caller (slice_get s.1 caller)) same
          ∙ next_state c opening calls w running caller,
    )

-- Reach.

many_from : (n first : ℕ) → length (count_from n first) ≡ n
many_from zero first = refl
many_from (suc n) first = ap suc (many_from n (suc first))

-- there are 8 regions, and one for each processor
many_regions : (c : Setup) (m : PlainMap) → length (regions_of c m) ≡ 8 + cpus c
many_regions c m = let n = length-map (count_from (cpus c) 0) (cpu_blocks m c.block_pages) in let k = many_from (cpus c) 0 in omega arith

at_most_all : (o : Option ℕ) (n : ℕ) → ((k : ℕ) → o ≡ Some k → k < n) → above o n ≡ n
at_most_all None n low = refl
at_most_all (Some k) n low = let h = low k refl in omega arith

pub reach_is : ReachIsTheRegions
reach_is rs ls k l law here =
    let (c, opening, calls, w, running, same) = law in
    let at : slice_get w.locals k ≡ Some l = subst (λ (s : List Region × List Local). slice_get s.1 k ≡ Some l) same here in
    let sound : IsSoundLocal c w.map k l = (reached_worlds_keep_apart c opening calls w running.trace running.reached).locals k l at in
    let all : length (regions_of c w.map) ≡ 8 + cpus l.setup = many_regions c w.map ∙ ap (λ (d : Setup). 8 + cpus d) (sym sound.setup) in
    at_most_all (wants l) (8 + cpus l.setup) (λ n wanted. subst (λ m. n < m) all (wanted_there c opening calls w running k l at n wanted))
    ∙ sym all ∙ ap (λ (s : List Region × List Local). length s.0) (sym same)

set_here : {X : Type 0} (xs : List X) (i : ℕ) (x y : X) → slice_get xs i ≡ Some x → slice_get (slice_set xs i y) i ≡ Some y
set_here [] i x y at = cc
set_here (z ∷ xs) zero x y at = refl
set_here (z ∷ xs) (suc i) x y at = set_here xs i x y at

pub reach_kept : SectionsKeepReach
reach_kept l r st may =
    let (rs, ls, caller, region, law, here, wanted, there) = st in
    let l1 : Local = (after l r).0 in
    let law' : IsLawful (slice_set rs region (after l r).1) (slice_set ls caller l1) = sections_keep_lawful rs ls caller region l r law here wanted there may in
    reach_is (slice_set rs region (after l r).1) (slice_set ls caller l1) caller l1 law' (set_here ls caller l l1 here)
    ∙ length-set rs region (after l r).1
    ∙ sym (reach_is rs ls caller l law here)

-- Turns.

and_true : (a b : Bool) → a ≡ true → b ≡ true → (a && b) ≡ true
and_true true b p q = q
and_true false b p q = cc

module _ (c : Setup) (opening : List Call) (calls : List (List Call)) where
  moved_there : (w : World) → IsRunning c opening calls w → (k : ℕ) → Moves wants moves after (state_of c w) k → moves_in w (slice_get w.locals k) ≡ true
  moved_there w is k m = ap (moves_in w) m.3 ∙ sym (moves_alike c opening calls w is k m.0 m.3 m.1 m.4 m.2 m.5) ∙ m.6

  all_moved : (w : World) (callers : List ℕ) → IsRunning c opening calls w → AllMove wants moves after (state_of c w) callers → all_move w callers ≡ true
  all_moved w [] is all = refl
  all_moved w (k ∷ callers) is all = and_true (moves_in w (slice_get w.locals k)) (all_move (step w k) callers) (moved_there w is k all.0)
      (all_moved (step w k) callers (next_running c opening calls w is k) (subst (λ s. AllMove wants moves after s callers) (next_state c opening calls w is k) all.1))

pub turns_are_picks : TurnsArePicks
turns_are_picks c opening calls w callers is all = (all_moved c opening calls w callers is all, runs_are_parts c opening calls w callers is.trace is.reached)
