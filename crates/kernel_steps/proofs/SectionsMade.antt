-- A section over a list of regions and a list of callers, and the step of a world that it is.
use Rattle.std.proofs.Common.{Vec, Global, Result, Ok, Err, IfOk, OnOk, ◌<◌, zero, suc, ◌≡◌, ◌≢◌, ℕ, true, false, List, [], ◌∷◌, ◌++◌, length, slice_get, slice_set, Option, Some, None, is_some, refl, ap, sym, ◌∙◌, subst, arith}
use Rattle.std.proofs.lemmas.List.{map-append, with_items_is}
use Rattle.std.specs.Vec.{with_items}
use Rattle.std.proofs.lemmas.Bool.Decides.{nat_tests}
use Rattle.std.proofs.lemmas.Option.{slice_get_within}
use Rattle.std.specs.declared.alloc.AllocError.{AllocError}
use Rattle.vm_model.specs.declared.calls.Call.{Call}
use Rattle.vm_model.specs.Setup.{Setup}
use Rattle.vm_model.specs.Events.{Section, Event}
use Rattle.vm_model.specs.Places.{Ask, AskNothing, ask}
use Rattle.vm_model.specs.Given.{can_move}
use Rattle.vm_model.specs.History.{World, Local, moves_in, section_of, event_of, made_if, step, step_of}
use Rattle.vm_model.specs.Parts.{Region, regions_of, number_of, wants, moves, after, state_of}
use Rattle.vm_model.specs.Space.{is_among}
use Rattle.vm_model.specs.Run.{section_by}
use Rattle.vm_model.specs.Rules.{IsSetup}
use Rattle.vm_model.proofs.OneNext.{gives}
use Rattle.map_parts.specs.Locality.{IsOverOneRegion}
use Rattle.map_parts.specs.KeptByEvents.{KeepsApart, IsSoundLocal}
use Rattle.map_parts.proofs.SectionRunProofs.{run_of_sections}
use Rattle.map_parts.proofs.LocalityProofs.{over_one_region}
use Rattle.map_parts.proofs.KeptApart.{kept_worlds_fall_apart, kept_callers_stay_within}
use Rattle.map_parts.proofs.ReachedKept.{reached_worlds_keep_apart}
use Rattle.map_parts.proofs.WholeRuns.{runs_are_parts}
use Rattle.map_laws.proofs.ReachedSteps.{steps_reached}
use Rattle.section_core.specs.declared.region.Stepped.{Stepped}
use Rattle.section_core.specs.declared.region.Stepped.TheVariants.{Moved, Stays, Ended}
use Rattle.section_core.specs.MadeSections.{IsMoved, HasStayed, Answers}
use Rattle.section_laws.specs.Lawful.{IsRunning, IsLawful}
use Rattle.kernel_steps.specs.Kernels.{KernelState, IsStanding, IsSomewhere, IsSteppedAs, SectionAs, movers}

not_there : {k : ℕ} (other : ℕ) → other ≢ k → is_among (k ∷ []) other ≡ false
not_there other apart = grind (arith, nat_tests)

set_there : {X : Type 0} (xs : List X) (i : ℕ) (x : X) → slice_get xs i ≡ Some x → slice_set xs i x ≡ xs
set_there [] i x at = cc
set_there (y ∷ xs) zero x at = let same : y ≡ x = cc in ap (λ z. z ∷ xs) (sym same)
set_there (y ∷ xs) (suc i) x at = ap (λ zs. y ∷ zs) (set_there xs i x at)

-- the two values that a section leaves, in their places
module _ (rs : List Region) (ls : List Local) (k n : ℕ) (l : Local) (r : Region) (here : slice_get ls k ≡ Some l) (wanted : wants l ≡ Some n) (there : slice_get rs n ≡ Some r) where
  put_moved : (l' : Local) (r' : Region) → IsMoved l r l' r' → (slice_set rs n r', slice_set ls k l') ≡ section_by wants moves after (rs, ls) k (slice_get ls k)
  put_moved l' r' is =
      ap (λ (p : Local × Region). (slice_set rs n p.1, slice_set ls k p.0)) is.leaves
      ∙ sym ((run_of_sections wants moves after).moved (rs, ls) k n l r wanted there is.moves)
      ∙ ap (section_by wants moves after (rs, ls) k) (sym here)

  put_stayed : (l' : Local) (r' : Region) → HasStayed l r l' r' → (slice_set rs n r', slice_set ls k l') ≡ section_by wants moves after (rs, ls) k (slice_get ls k)
  put_stayed l' r' is =
      ap (λ x. (slice_set rs n x, slice_set ls k l')) is.region ∙ ap (λ xs. (xs, slice_set ls k l')) (set_there rs n r there)
      ∙ ap (λ x. (rs, slice_set ls k x)) is.local ∙ ap (λ xs. (rs, xs)) (set_there ls k l here)
      ∙ sym ((run_of_sections wants moves after).stayed (rs, ls) k n l r wanted there is.stays)
      ∙ ap (section_by wants moves after (rs, ls) k) (sym here)

  pub put_back : (stepped : Stepped) (l' : Local) (r' : Region) → Answers l r l' r' stepped → (slice_set rs n r', slice_set ls k l') ≡ section_by wants moves after (rs, ls) k (slice_get ls k)
  put_back Moved l' r' is = put_moved l' r' is
  put_back Stays l' r' is = put_stayed l' r' is
  put_back Ended l' r' is = absurd is

  pub section_as : (stepped : Stepped) (l' : Local) (r' : Region) → Answers l r l' r' stepped → SectionAs (rs, ls) k stepped
  section_as Moved l' r' is = (l, n, r, here, wanted, there, is.moves)
  section_as Stays l' r' is = (l, n, r, here, wanted, there, is.stays)
  section_as Ended l' r' is = absurd is

  pub made_ok : (l' : Local) (r' : Region) (result : Result Stepped AllocError) → IfOk result (Answers l r l' r')
      → OnOk result ((slice_set rs n r', slice_set ls k l') ≡ section_by wants moves after (rs, ls) k (slice_get ls k))
  made_ok l' r' (Ok stepped) is = put_back stepped l' r' is
  made_ok l' r' (Err e) is = tt

  pub made_as : (l' : Local) (r' : Region) (result : Result Stepped AllocError) → IfOk result (Answers l r l' r') → IfOk result (SectionAs (rs, ls) k)
  made_as l' r' (Ok stepped) is = section_as stepped l' r' is
  made_as l' r' (Err e) is = tt

-- who wants nothing leaves all as it is
pub put_ended : (rs : List Region) (ls : List Local) (k : ℕ) (l : Local) → slice_get ls k ≡ Some l → wants l ≡ None → (rs, ls) ≡ section_by wants moves after (rs, ls) k (slice_get ls k)
put_ended rs ls k l here none = sym ((run_of_sections wants moves after).ended (rs, ls) k l none) ∙ ap (section_by wants moves after (rs, ls) k) (sym here)

-- an ask of no region is none
pub asks_nothing : (a : Ask) → number_of a ≡ None → a ≡ AskNothing
asks_nothing AskNothing e = refl
asks_nothing _ e = absurd cc

-- in a world of a run
module _ (c : Setup) (opening : List Call) (calls : List (List Call)) (w : World) (is : IsRunning c opening calls w) where
  apart : KeepsApart c w
  apart = reached_worlds_keep_apart c opening calls w is.trace is.reached

  pub next_running : (k : ℕ) → IsRunning c opening calls (step w k)
  next_running k = record {
    trace = is.trace;
    opening_small = is.opening_small;
    callers_small = is.callers_small;
    reached = (steps_reached c opening calls is.trace).steps w k is.reached;
  }

  pub next_state : (k : ℕ) → section_by wants moves after (state_of c w) k (slice_get w.locals k) ≡ state_of c (step w k)
  next_state k = runs_are_parts c opening calls w (k ∷ []) is.trace is.reached

  module _ (k : ℕ) (l : Local) (here : slice_get w.locals k ≡ Some l) where
    mine : IsSoundLocal c w.map k l
    mine = apart.locals k l here

    -- over its region a caller moves where it does in the world
    moves_alike : (n : ℕ) (r : Region) → wants l ≡ Some n → slice_get (regions_of c w.map) n ≡ Some r → moves l r ≡ can_move w.map (ask l.setup l.place)
    moves_alike n r wanted there =
        let setup : IsSetup l.setup = subst IsSetup (sym mine.setup) is.trace.setup in
        let kept : KeepsApart l.setup w = subst (λ d. KeepsApart d w) (sym mine.setup) apart in
        let over : IsOverOneRegion l.setup w.map k (ask l.setup l.place) n =
        over_one_region l.setup w.map k (ask l.setup l.place) n (kept_worlds_fall_apart l.setup w setup kept) (kept_callers_stay_within l.setup w k l setup kept here) wanted in
        let same : r ≡ over.region = (let both : Some r ≡ Some over.region = sym there ∙ ap (λ d. slice_get (regions_of d w.map) n) (sym mine.setup) ∙ over.here in cc) in
        ap (moves l) same ∙ over.moves_alike

    -- the region that it wants is there
    pub wanted_there : (n : ℕ) → wants l ≡ Some n → n < length (regions_of c w.map)
    wanted_there n wanted =
        let setup : IsSetup l.setup = subst IsSetup (sym mine.setup) is.trace.setup in
        let kept : KeepsApart l.setup w = subst (λ d. KeepsApart d w) (sym mine.setup) apart in
        let over : IsOverOneRegion l.setup w.map k (ask l.setup l.place) n =
        over_one_region l.setup w.map k (ask l.setup l.place) n (kept_worlds_fall_apart l.setup w setup kept) (kept_callers_stay_within l.setup w k l setup kept here) wanted in
        slice_get_within (regions_of c w.map) n over.region (ap (λ d. slice_get (regions_of d w.map) n) (sym mine.setup) ∙ over.here)

    step_is : step w k ≡ made_if w l (section_of w.map l)
    step_is = ap (step_of w) here

    made_some : (o : Option Section) → section_of w.map l ≡ o → is_some o ≡ true → movers (made_if w l o).events ≡ movers w.events ++ k ∷ []
    made_some None e h = cc
    made_some (Some s) e h = map-append (λ (e : Event). e.caller) w.events (event_of l s ∷ []) ∙ ap (λ j. movers w.events ++ j ∷ []) mine.caller

    made_none : (o : Option Section) → section_of w.map l ≡ o → is_some o ≡ false → made_if w l o ≡ w
    made_none None e h = refl
    made_none (Some s) e h = cc

    some_where : is_some (section_of w.map l) ≡ can_move w.map (ask l.setup l.place)
    some_where = gives l.setup w.map (ask l.setup l.place)

    pub movers_moved : can_move w.map (ask l.setup l.place) ≡ true → movers (step w k).events ≡ movers w.events ++ k ∷ []
    movers_moved h = ap (λ (v : World). movers v.events) step_is ∙ made_some (section_of w.map l) refl (some_where ∙ h)

    pub world_stays : can_move w.map (ask l.setup l.place) ≡ false → step w k ≡ w
    world_stays h = step_is ∙ made_none (section_of w.map l) refl (some_where ∙ h)

  not_nothing : (l : Local) (n : ℕ) → wants l ≡ Some n → ask l.setup l.place ≢ AskNothing
  not_nothing l n wanted e = let no : None ≡ Some n = ap number_of (sym e) ∙ wanted in cc

  nothing_moves : (l : Local) → ask l.setup l.place ≡ AskNothing → can_move w.map (ask l.setup l.place) ≡ false
  nothing_moves l e = ap (can_move w.map) e

  pub stepped_as : (k : ℕ) (stepped : Stepped) → SectionAs (state_of c w) k stepped → IsSteppedAs w k stepped
  stepped_as k Moved s = (s.0, s.3, sym (moves_alike k s.0 s.3 s.1 s.2 s.4 s.5) ∙ s.6)
  stepped_as k Stays s = (s.0, s.3, (sym (moves_alike k s.0 s.3 s.1 s.2 s.4 s.5) ∙ s.6, not_nothing s.0 s.1 s.4))
  stepped_as k Ended s = (s.0, s.1, asks_nothing (ask s.0.setup s.0.place) s.2)

  -- the movers after a step
  pub movers_after : (k : ℕ) (stepped : Stepped) (moved : List ℕ) → IsSteppedAs w k stepped → (stepped ≡ Moved → moved ≡ movers w.events ++ k ∷ []) → (stepped ≢ Moved → moved ≡ movers w.events) → moved ≡ movers (step w k).events
  movers_after k Moved moved s one none = one refl ∙ sym (movers_moved k s.0 s.1 s.2)
  movers_after k Stays moved s one none = none (λ e. cc) ∙ sym (ap (λ (v : World). movers v.events) (world_stays k s.0 s.1 s.2.0))
  movers_after k Ended moved s one none = none (λ e. cc) ∙ sym (ap (λ (v : World). movers v.events) (world_stays k s.0 s.1 (nothing_moves s.0 s.2)))

pub wanted_within : (rs : List Region) (ls : List Local) (k n : ℕ) (l : Local) → IsLawful rs ls → slice_get ls k ≡ Some l → wants l ≡ Some n → n < length rs
wanted_within rs ls k n l law here wanted =
    let at : slice_get law.3.locals k ≡ Some l = subst (λ (s : List Region × List Local). slice_get s.1 k ≡ Some l) law.5 here in
    subst (λ (s : List Region × List Local). n < length s.0) (sym law.5) (wanted_there law.0 law.1 law.2 law.3 law.4 k l at n wanted)

-- a kernel that stands in a world stands in the next one after a step
pub stands_next : (c : Setup) (opening : List Call) (calls : List (List Call)) (w : World) (old new : KernelState) (k : ℕ) (stepped : Stepped) → IsStanding c opening calls w old
    → (new.regions, new.locals) ≡ section_by wants moves after (old.regions, old.locals) k (slice_get old.locals k) → SectionAs (old.regions, old.locals) k stepped
    → (stepped ≡ Moved → new.moved ≡ old.moved ++ k ∷ []) → (stepped ≢ Moved → new.moved ≡ old.moved) → IsStanding c opening calls (step w k) new
stands_next c opening calls w old new k stepped st made how one none =
    let run = st.running in
    let state : (old.regions, old.locals) ≡ state_of c w = ap (λ rs. (rs, old.locals)) st.regions ∙ ap (λ ls. (regions_of c w.map, ls)) st.locals in
    let all : (new.regions, new.locals) ≡ state_of c (step w k) =
    made ∙ ap (λ (s : List Region × List Local). section_by wants moves after s k (slice_get s.1 k)) state ∙ next_state c opening calls w run k in
    record {
      running = next_running c opening calls w run k;
      regions = ap (λ (s : List Region × List Local). s.0) all;
      locals = ap (λ (s : List Region × List Local). s.1) all;
      moved = movers_after c opening calls w run k stepped new.moved (stepped_as c opening calls w run k stepped (subst (λ s. SectionAs s k stepped) state how))
          (λ e. one e ∙ ap (λ xs. xs ++ k ∷ []) st.moved) (λ e. none e ∙ st.moved);
    }

pub stepped_in : (c : Setup) (opening : List Call) (calls : List (List Call)) (w : World) (old : KernelState) (k : ℕ) (stepped : Stepped) → IsStanding c opening calls w old
    → SectionAs (old.regions, old.locals) k stepped → IsSteppedAs w k stepped
stepped_in c opening calls w old k stepped st how =
    let state : (old.regions, old.locals) ≡ state_of c w = ap (λ rs. (rs, old.locals)) st.regions ∙ ap (λ ls. (regions_of c w.map, ls)) st.locals in
    stepped_as c opening calls w st.running k stepped (subst (λ s. SectionAs s k stepped) state how)

-- the lists of the kernel, written over by a section
module _ (regions : Vec Region Global) (locals : Vec Local Global) (moved moved' : Vec ℕ Global) (k : ℕ) (stepped : Stepped) (rs rs' : List Region) (ls ls' : List Local)
    (regions_were : rs ≡ regions.items) (locals_were : ls ≡ locals.items) (made : (rs', ls') ≡ section_by wants moves after (rs, ls) k (slice_get ls k)) where
  regions_made : (with_items regions rs').items ≡ rs'
  regions_made = with_items_is regions rs' (ap (λ (s : List Region × List Local). length s.0) made ∙ (run_of_sections wants moves after).as_many_regions (rs, ls) (k ∷ []) ∙ ap length regions_were ∙ sym regions.ok.0)

  locals_made : (with_items locals ls').items ≡ ls'
  locals_made = with_items_is locals ls' (ap (λ (s : List Region × List Local). length s.1) made ∙ (run_of_sections wants moves after).as_many_locals (rs, ls) (k ∷ []) ∙ ap length locals_were ∙ sym locals.ok.0)

  abbrev old_state : KernelState
  old_state = record { regions = regions.items; locals = locals.items; moved = moved.items }

  pub stands_after : (c : Setup) (opening : List Call) (calls : List (List Call)) (w : World) → IsStanding c opening calls w (record { regions = regions.items; locals = locals.items; moved = moved.items }) → SectionAs (rs, ls) k stepped
      → (stepped ≡ Moved → moved'.items ≡ moved.items ++ k ∷ []) → (stepped ≢ Moved → moved'.items ≡ moved.items)
      → IsStanding c opening calls (step w k) (record { regions = (with_items regions rs').items; locals = (with_items locals ls').items; moved = moved'.items })
  stands_after c opening calls w st how one none =
      let were : (rs, ls) ≡ (regions.items, locals.items) = ap (λ x. (x, ls)) regions_were ∙ ap (λ x. (regions.items, x)) locals_were in
      stands_next c opening calls w old_state (record { regions = (with_items regions rs').items; locals = (with_items locals ls').items; moved = moved'.items }) k stepped st
      (ap (λ x. (x, (with_items locals ls').items)) regions_made ∙ ap (λ x. (rs', x)) locals_made ∙ made ∙ ap (λ (s : List Region × List Local). section_by wants moves after s k (slice_get s.1 k)) were)
      (subst (λ s. SectionAs s k stepped) were how) one none

  pub stepped_there : (c : Setup) (opening : List Call) (calls : List (List Call)) (w : World) → IsStanding c opening calls w (record { regions = regions.items; locals = locals.items; moved = moved.items }) → SectionAs (rs, ls) k stepped
      → IsSteppedAs w k stepped
  stepped_there c opening calls w st how =
      let were : (rs, ls) ≡ (regions.items, locals.items) = ap (λ x. (x, ls)) regions_were ∙ ap (λ x. (regions.items, x)) locals_were in
      stepped_in c opening calls w old_state k stepped st (subst (λ s. SectionAs s k stepped) were how)

  pub as_many : length (with_items locals ls').items ≡ length locals.items
  as_many = ap length locals_made ∙ ap (λ (s : List Region × List Local). length s.1) made ∙ (run_of_sections wants moves after).as_many_locals (rs, ls) (k ∷ []) ∙ ap length locals_were

  -- the callers beside the one that made it stay
  pub others_stay : (other : ℕ) → other ≢ k → slice_get (with_items locals ls').items other ≡ slice_get locals.items other
  others_stay other apart =
      ap (λ xs. slice_get xs other) locals_made ∙ ap (λ (s : List Region × List Local). slice_get s.1 other) made
      ∙ (run_of_sections wants moves after).other_locals (rs, ls) (k ∷ []) other (not_there other apart) ∙ ap (λ xs. slice_get xs other) locals_were

-- whether a caller of the kernel can move
pub moves_there : (c : Setup) (opening : List Call) (calls : List (List Call)) (w : World) (k : KernelState) (caller n : ℕ) (l : Local) (r : Region) → IsStanding c opening calls w k
    → slice_get k.locals caller ≡ Some l → wants l ≡ Some n → slice_get k.regions n ≡ Some r → moves l r ≡ moves_in w (slice_get w.locals caller)
moves_there c opening calls w k caller n l r st here wanted there =
    let at : slice_get w.locals caller ≡ Some l = ap (λ ls. slice_get ls caller) (sym st.locals) ∙ here in
    moves_alike c opening calls w st.running caller l at n r wanted (ap (λ rs. slice_get rs n) (sym st.regions) ∙ there) ∙ sym (ap (moves_in w) at)

pub nothing_there : (c : Setup) (opening : List Call) (calls : List (List Call)) (w : World) (k : KernelState) (caller : ℕ) (l : Local) → IsStanding c opening calls w k
    → slice_get k.locals caller ≡ Some l → wants l ≡ None → false ≡ moves_in w (slice_get w.locals caller)
nothing_there c opening calls w k caller l st here none =
    let at : slice_get w.locals caller ≡ Some l = ap (λ ls. slice_get ls caller) (sym st.locals) ∙ here in
    sym (ap (moves_in w) at ∙ ap (can_move w.map) (asks_nothing (ask l.setup l.place) none))

-- a caller that can't move stays at a turn, or has ended
pub still_stays : (c : Setup) (opening : List Call) (calls : List (List Call)) (w : World) (k : KernelState) (caller n : ℕ) (l : Local) → IsStanding c opening calls w k
    → slice_get k.locals caller ≡ Some l → wants l ≡ Some n → moves_in w (slice_get w.locals caller) ≡ false → IsSteppedAs w caller Stays
still_stays c opening calls w k caller n l st here wanted still =
    let at : slice_get w.locals caller ≡ Some l = ap (λ ls. slice_get ls caller) (sym st.locals) ∙ here in
    (l, at, (sym (ap (moves_in w) at) ∙ still, not_nothing c opening calls w st.running l n wanted))

pub still_ended : (c : Setup) (opening : List Call) (calls : List (List Call)) (w : World) (k : KernelState) (caller : ℕ) (l : Local) → IsStanding c opening calls w k
    → slice_get k.locals caller ≡ Some l → wants l ≡ None → IsSteppedAs w caller Ended
still_ended c opening calls w k caller l st here none = (l, ap (λ ls. slice_get ls caller) (sym st.locals) ∙ here, asks_nothing (ask l.setup l.place) none)

-- the world is the same after a step of a caller that can't move
pub still_world : (c : Setup) (opening : List Call) (calls : List (List Call)) (w : World) (k : KernelState) (caller : ℕ) → IsStanding c opening calls w k → moves_in w (slice_get w.locals caller) ≡ false → IsStanding c opening calls (step w caller) k
still_world c opening calls w k caller st still = subst (λ v. IsStanding c opening calls v k) (sym (by (slice_get w.locals caller) refl still)) st
  where
    by : (o : Option Local) → slice_get w.locals caller ≡ o → moves_in w o ≡ false → step w caller ≡ w
    by None e h = ap (step_of w) e
    by (Some l) e h = world_stays c opening calls w st.running caller l e h

pub within_there : (k : KernelState) (caller n : ℕ) (l : Local) → IsSomewhere k → slice_get k.locals caller ≡ Some l → wants l ≡ Some n → n < length k.regions
within_there k caller n l is here wanted =
    let st = is.4 in
    subst (λ rs. n < length rs) (sym st.regions) (wanted_there is.0 is.1 is.2 is.3 st.running caller l (ap (λ ls. slice_get ls caller) (sym st.locals) ∙ here) n wanted)

-- who doesn't move changes nothing
stays_as : (s : List Region × List Local) (k : ℕ) (stepped : Stepped) → SectionAs s k stepped → stepped ≢ Moved → section_by wants moves after s k (slice_get s.1 k) ≡ s
stays_as s k Moved how n = absurd (n refl)
stays_as s k Stays how n = ap (section_by wants moves after s k) how.3 ∙ (run_of_sections wants moves after).stayed s k how.1 how.0 how.2 how.4 how.5 how.6
stays_as s k Ended how n = ap (section_by wants moves after s k) how.1 ∙ (run_of_sections wants moves after).ended s k how.0 how.2

pub unchanged_after : (regions : Vec Region Global) (locals : Vec Local Global) (moved moved' : Vec ℕ Global) (k : ℕ) (stepped : Stepped) (rs rs' : List Region) (ls ls' : List Local)
    (regions_were : rs ≡ regions.items) (locals_were : ls ≡ locals.items) (made : (rs', ls') ≡ section_by wants moves after (rs, ls) k (slice_get ls k)) → SectionAs (rs, ls) k stepped → stepped ≢ Moved → moved'.items ≡ moved.items
    → ◌≡◌ {A = KernelState} (record { regions = (with_items regions rs').items; locals = (with_items locals ls').items; moved = moved'.items }) (record { regions = regions.items; locals = locals.items; moved = moved.items })
unchanged_after regions locals moved moved' k stepped rs rs' ls ls' regions_were locals_were made how n same =
    let both : (rs', ls') ≡ (rs, ls) = made ∙ stays_as (rs, ls) k stepped how n in
    ap {B = KernelState} (λ x. record { regions = x; locals = (with_items locals ls').items; moved = moved'.items }) (regions_made regions locals moved moved' k stepped rs rs' ls ls' regions_were locals_were made ∙ ap (λ (s : List Region × List Local). s.0) both ∙ regions_were)
    ∙ ap {B = KernelState} (λ x. record { regions = regions.items; locals = x; moved = moved'.items }) (locals_made regions locals moved moved' k stepped rs rs' ls ls' regions_were locals_were made ∙ ap (λ (s : List Region × List Local). s.1) both ∙ locals_were)
    ∙ ap {B = KernelState} (λ x. record { regions = regions.items; locals = locals.items; moved = x }) same
