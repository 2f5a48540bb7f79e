-- What the section over the live areas, and the one over the waiting spans, ask for holds at their caller's place.
use Rattle.std.proofs.Common.{◌≡◌, ℕ, zero, suc, ◌+◌, ◌-◌, ◌<◌, ◌≤◌, ◌||◌, true, List, [], ◌∷◌, length, slice_get, Some, refl, ap, sym, ◌∙◌, subst, arith}
use Rattle.std.proofs.lemmas.Option.{same_Some, slice_get_within}
use Rattle.std.proofs.lemmas.List.{length-map}
use Rattle.vm_model.specs.declared.calls.Call.{Call}
use Rattle.vm_model.specs.declared.areas.Span.{Span}
use Rattle.vm_model.specs.declared.areas.Area.{Area}
use Rattle.vm_model.specs.Space.{span, end_of, holds, covers, times}
use Rattle.vm_model.specs.Setup.{Setup, groups_at}
use Rattle.vm_model.specs.PlainMap.{Held}
use Rattle.vm_model.specs.Areas.{spans_of}
use Rattle.vm_model.specs.Carried.{held}
use Rattle.vm_model.specs.Places.{Place, SettlingGroups, UnlinkingGroups, Waiting, PurgeWaiting, block_spans}
use Rattle.vm_model.specs.History.{World, Local, most_events}
use Rattle.vm_model.specs.Parts.{Region, LiveAreas, WaitingSpans}
use Rattle.map_parts.proofs.ReachedKept.{reached_worlds_keep_apart}
use Rattle.map_laws.proofs.EndProofs.{histories_short}
use Rattle.map_laws.proofs.MapLegal.{IsReady}
use Rattle.map_laws.proofs.Namings.{starts_once}
use Rattle.map_laws.proofs.TestsAndFilters.{or_right, covers_times, none_covers, holds_from, times-append}
use Rattle.map_laws.proofs.chunks.ChunkFalls.{mapped_at}
use Rattle.map_laws.proofs.TraceWorlds.{holding_here, once_here}
use Rattle.section_laws.specs.Lawful.{IsRunning}
use Rattle.section_laws.specs.Needs.{CanSettle, AreAreasReady, CanWaitThere, AreWaitsReady}
use Rattle.section_laws.specs.ReadyRegions.{AreasAreReady, WaitsAreReady}
use Rattle.section_laws.proofs.OneState.{in_one_state}
use Rattle.section_laws.proofs.NextAreas.{few_areas}
use Rattle.section_laws.proofs.PlacesListed.{IsListed, AreFullSpans, groups_full}
use Rattle.section_laws.proofs.KeptCallers.{framed, world, setup_here, ready, listed}

-- a page of one of the spans is a page of them
covered_at : (spans : List Span) (i : ℕ) (s : Span) (page : ℕ) → slice_get spans i ≡ Some s → holds s page ≡ true → covers spans page ≡ true
covered_at [] i s page e h = cc
covered_at (x ∷ spans) zero s page e h = ap (λ b. b || covers spans page) (ap (λ y. holds y page) (same_Some _ _ e) ∙ h)
covered_at (x ∷ spans) (suc i) s page e h = or_right (holds x page) _ (covered_at spans i s page e h)

blocks_full : (c : Setup) (gone : List ℕ) → 1 ≤ c.block_pages → AreFullSpans (block_spans c gone)
blocks_full c gone some i s e = let b = mapped_at (λ start. span start c.block_pages) gone i s e in subst (λ (x : Span). 1 ≤ x.pages) b.2 some

module _ (c : Setup) (opening : List Call) (calls : List (List Call)) (w : World) (is : IsRunning c opening calls w) (k : ℕ) (l : Local) (here : slice_get w.locals k ≡ Some l) where
  -- what it holds lies in the space, shares no page with a live area or what waits, and no page stands in two of its spans
  held_inside : (spans : List Span) → held c l.place ≡ spans → AreFullSpans spans → (i : ℕ) (s : Span) → slice_get spans i ≡ Some s → end_of s ≤ c.space
  held_inside spans e full i s at =
      let some = full i s at in
      let last = covered_at spans i s (end_of s - 1) at (holds_from s (end_of s - 1) (omega arith) (omega arith)) in
      let marked = (holding_here c is.trace.setup w (framed c opening calls w is) (world c opening calls w is) k l here).held (end_of s - 1) (ap (λ own. covers own (end_of s - 1)) e ∙ last) in
      let inside = slice_get_within w.map.marks (end_of s - 1) (Held l.caller) marked in
      let wide = (reached_worlds_keep_apart c opening calls w is.trace is.reached).whole.marks in
      omega arith

  held_once : (spans : List Span) → held c l.place ≡ spans → (page : ℕ) → times page (spans_of w.map.areas) + times page spans + times page w.map.waiting ≤ 1
  held_once spans e page =
      let once = once_here c is.trace.setup w (framed c opening calls w is) (world c opening calls w is) k l here page in
      let mine : times page (held c l.place) ≡ times page spans = ap (times page) e in
      omega arith

  can_settle : (base : ℕ) → held c l.place ≡ groups_at c base → CanSettle c w.map.areas w.map.next_area (groups_at c base)
  can_settle base e = record {
    some = groups_full c is.trace.setup.groups base;
    inside = held_inside (groups_at c base) e (groups_full c is.trace.setup.groups base);
    disjoint = λ page. (let once = held_once (groups_at c base) e page in omega arith);
    unused = λ page h. (let once = held_once (groups_at c base) e page in let one = covers_times page (groups_at c base) h in none_covers page (spans_of w.map.areas) (omega arith));
    serials = (
        let few = few_areas c opening calls w is.trace.setup is.reached in
        let short : length w.events < most_events = histories_short c opening calls w is.trace is.reached in
        let all = length-map c.groups (λ (g : Span). span (base + g.start) g.pages) in
        let groups = is.trace.setup.groups.few in
        omega arith);
  }

  can_wait : (spans : List Span) → held c l.place ≡ spans → AreFullSpans spans → CanWaitThere c w.map.waiting spans
  can_wait spans e full = record {
    some = full;
    inside = held_inside spans e full;
    disjoint = λ page. (let once = held_once spans e page in omega (arith, times-append page w.map.waiting spans));
  }

  areas_by : (p : Place) → l.place ≡ p → IsReady c w.map k p → AreAreasReady c p w.map.areas w.map.next_area
  areas_by (SettlingGroups base chunk bytes align) e can = can_settle base (ap (held c) e)
  areas_by (UnlinkingGroups base) e can = record { once = λ start. starts_once c is.trace.setup.groups base start; live = λ start h. (can start h).1 }
  areas_by _ e can = tt

  pub areas_here : AreAreasReady l.setup l.place w.map.areas w.map.next_area
  areas_here = subst (λ d. AreAreasReady d l.place w.map.areas w.map.next_area) (sym (setup_here c opening calls w is k l here)) (areas_by l.place refl (ready c opening calls w is k l here))

  waits_by : (p : Place) → l.place ≡ p → IsListed p → AreWaitsReady c p w.map.waiting
  waits_by (Waiting spans after) e full = can_wait spans (ap (held c) e) full.0
  waits_by (PurgeWaiting gone extra after) e full = can_wait (block_spans c gone) (ap (held c) e) (blocks_full c gone (let low = is.trace.setup.block_low in omega arith))
  waits_by _ e full = tt

  pub waits_here : AreWaitsReady l.setup l.place w.map.waiting
  waits_here = subst (λ d. AreWaitsReady d l.place w.map.waiting) (sym (setup_here c opening calls w is k l here)) (waits_by l.place refl (listed c opening calls w is k l here))

abbrev areas_in : Region → List Area
areas_in (LiveAreas areas next) = areas
areas_in _ = []

abbrev next_in : Region → ℕ
next_in (LiveAreas areas next) = next
next_in _ = 0

pub areas_ready : AreasAreReady
areas_ready l areas next st =
    let s = in_one_state l (LiveAreas areas next) st in
    let same : areas ≡ s.w.map.areas = ap areas_in s.own in
    let same_next : next ≡ s.w.map.next_area = ap next_in s.own in
    subst (λ x. AreAreasReady l.setup l.place x next) (sym same) (subst (AreAreasReady l.setup l.place s.w.map.areas) (sym same_next) (areas_here s.c s.opening s.calls s.w s.running s.k l s.here))

abbrev waiting_in : Region → List Span
waiting_in (WaitingSpans spans) = spans
waiting_in _ = []

pub waits_ready : WaitsAreReady
waits_ready l waiting st =
    let s = in_one_state l (WaitingSpans waiting) st in
    let same : waiting ≡ s.w.map.waiting = ap waiting_in s.own in
    subst (AreWaitsReady l.setup l.place) (sym same) (waits_here s.c s.opening s.calls s.w s.running s.k l s.here)
