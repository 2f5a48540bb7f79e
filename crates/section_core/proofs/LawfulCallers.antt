-- A caller of a run: what it holds and flushes, and the state that it shares with its region.
use Rattle.std.proofs.Common.{Bool, ◌∷◌, ◌||◌, All, [], option_map, ◌≡◌, ℕ, zero, suc, ◌+◌, ◌-◌, ◌<◌, ◌≤◌, ◌^◌, true, false, not, List, length, map, slice_get, Some, refl, ap, sym, ◌∙◌, subst, arith}
use Rattle.std.proofs.lemmas.List.{length-map}
use Rattle.std.proofs.lemmas.Bool.Decides.{nat_tests}
use Rattle.vm_model.specs.Carried.{held, flushed}
use Rattle.std.proofs.lemmas.Option.{slice_get-map, slice_get_within}
use Rattle.vm_model.specs.declared.calls.Call.{Call}
use Rattle.vm_model.specs.declared.areas.Span.{Span}
use Rattle.vm_model.specs.Space.{span, holds, covers, runs, end_of, is_open, count_from}
use Rattle.vm_model.specs.Setup.{Setup, cpus}
use Rattle.vm_model.specs.PlainMap.{PlainMap, Mark, Held, Flushing, is_free, taken, free_runs}
use Rattle.vm_model.specs.History.{World, Local, most_events}
use Rattle.vm_model.specs.Carried.{IsKept}
use Rattle.vm_model.specs.Parts.{Region, Desk, PurgeTurn, AllocTurn, FreeRuns, LiveAreas, WaitingSpans, Pages, Percpu, CpuBlocks, regions_of, cpu_blocks, wants}
use Rattle.vm_model.specs.Run.{StandTogether}
use Rattle.vm_model.proofs.Runs.{covers-runs}
use Rattle.map_parts.specs.KeptByEvents.{KeepsApart, IsSoundLocal}
use Rattle.map_parts.proofs.ReachedKept.{reached_worlds_keep_apart}
use Rattle.map_laws.proofs.CarriedKept.{carried_kept}
use Rattle.map_laws.proofs.EndProofs.{histories_short}
use Rattle.map_laws.proofs.TestsAndFilters.{covers_one, covers_append}
use Rattle.lazy_purge.specs.WaitingSet.{HasPage}
use Rattle.std.proofs.lemmas.List.Elements.{All-nil, All-cons, All-head, All-tail}
use Rattle.section_core.specs.StandsWell.{AreRunsOf}
use Rattle.section_laws.specs.Lawful.{IsRunning, IsLawful}
use Rattle.section_core.proofs.CountedEvents.{reached_counted, events_of-le}

-- the number of a region
abbrev pub number_of_region : Region → ℕ
number_of_region Desk = 0
number_of_region (PurgeTurn turn) = 1
number_of_region (AllocTurn turn) = 2
number_of_region (FreeRuns runs) = 3
number_of_region (LiveAreas areas next) = 4
number_of_region (WaitingSpans spans) = 5
number_of_region (Pages frames stale cells) = 6
number_of_region (Percpu chunks object chunk room) = 7
number_of_region (CpuBlocks cpu pages blocks next) = 8 + cpu

pub blocks_at : (m : PlainMap) (pages n first i : ℕ) (r : Region) → slice_get (map (cpu_blocks m pages) (count_from n first)) i ≡ Some r → r ≡ cpu_blocks m pages (first + i)
blocks_at m pages zero first i r h = cc
blocks_at m pages (suc n) first zero r h = let e : cpu_blocks m pages first ≡ r = cc in sym e ∙ ap (cpu_blocks m pages) (let f : first ≡ first + 0 = omega arith in f)
blocks_at m pages (suc n) first (suc i) r h = blocks_at m pages n (suc first) i r h ∙ ap (cpu_blocks m pages) (let f : suc first + i ≡ first + suc i = omega arith in f)

pub region_number : (c : Setup) (m : PlainMap) (n : ℕ) (r : Region) → slice_get (regions_of c m) n ≡ Some r → n ≡ number_of_region r
region_number c m zero r h = let e : Desk ≡ r = cc in ap number_of_region e
region_number c m (suc zero) r h = let e : PurgeTurn m.purge_turn ≡ r = cc in ap number_of_region e
region_number c m (suc (suc zero)) r h = let e : AllocTurn m.alloc_turn ≡ r = cc in ap number_of_region e
region_number c m (suc (suc (suc zero))) r h = let e : FreeRuns (free_runs m) ≡ r = cc in ap number_of_region e
region_number c m (suc (suc (suc (suc zero)))) r h = let e : LiveAreas m.areas m.next_area ≡ r = cc in ap number_of_region e
region_number c m (suc (suc (suc (suc (suc zero))))) r h = let e : WaitingSpans m.waiting ≡ r = cc in ap number_of_region e
region_number c m (suc (suc (suc (suc (suc (suc zero)))))) r h = let e : Pages m.frames m.stale m.cells ≡ r = cc in ap number_of_region e
region_number c m (suc (suc (suc (suc (suc (suc (suc zero))))))) r h = let e : Percpu m.chunks m.next_object m.next_chunk m.room ≡ r = cc in ap number_of_region e
region_number c m (suc (suc (suc (suc (suc (suc (suc (suc i)))))))) r h = let e = ap number_of_region (blocks_at m c.block_pages (cpus c) 0 i r h) in omega arith

pub holds_last : (s : Span) → 1 ≤ s.pages → holds s (end_of s - 1) ≡ true
holds_last s some = grind (arith, nat_tests)

pub holds_front : (s : Span) (page : ℕ) → holds (span s.start (s.pages - 1)) page ≡ true → holds s page ≡ true
holds_front s page h = grind (arith, nat_tests)

pub covers_head : (s : Span) (spans : List Span) (page : ℕ) → holds s page ≡ true → covers (s ∷ spans) page ≡ true
covers_head s spans page h = covers_append page (s ∷ []) spans ∙ ap (λ b. b || covers spans page) (covers_one s page ∙ h)

or_true : (b : Bool) → (b || true) ≡ true
or_true true = refl
or_true false = refl

pub covers_tail : (s : Span) (spans : List Span) (page : ℕ) → covers spans page ≡ true → covers (s ∷ spans) page ≡ true
covers_tail s spans page h = covers_append page (s ∷ []) spans ∙ ap (λ b. covers (s ∷ []) page || b) h ∙ or_true (covers (s ∷ []) page)

-- a caller of a run
module _ (c : Setup) (opening : List Call) (calls : List (List Call)) (w : World) (is : IsRunning c opening calls w) (k : ℕ) (l : Local) (here : slice_get w.locals k ≡ Some l) where
  pub apart : KeepsApart c w
  apart = reached_worlds_keep_apart c opening calls w is.trace is.reached

  pub sound : IsSoundLocal c w.map k l
  sound = apart.locals k l here

  pub kept : IsKept c w
  kept = carried_kept c opening calls w is.trace is.reached

  -- it has made fewer events than 32 bits can count
  pub few_events : l.events + 1 < 2 ^ 32
  few_events =
      let own = (reached_counted c opening calls w is.reached).own k l here in
      let all = events_of-le k w.events in
      let short : length w.events < most_events = histories_short c opening calls w is.trace is.reached in
      omega arith

  -- the free blocks are runs of the space's pages
  pub free_blocks : AreRunsOf l.setup (free_runs w.map)
  free_blocks = (taken w.map, length-map w.map.marks (λ mark. not (is_free mark)) ∙ apart.whole.marks ∙ ap (λ (d : Setup). d.space) (sym sound.setup), refl)

  pub marked_taken : (page : ℕ) (mark : Mark) → slice_get w.map.marks page ≡ Some mark → is_free mark ≡ false → covers (free_runs w.map) page ≡ false
  marked_taken page mark at taken_mark =
      covers-runs (taken w.map) page ∙ ap is_open (slice_get-map (λ mark. not (is_free mark)) w.map.marks page ∙ ap (option_map (λ mark. not (is_free mark))) at) ∙ ap (λ b. is_open (Some (not b))) taken_mark

  -- what a caller holds, and what it flushes, is marked so, and lies in the space
  pub held_here : (page : ℕ) → covers (held l.setup l.place) page ≡ true → slice_get w.map.marks page ≡ Some (Held l.caller)
  held_here page h = (kept.carried k l here).held_marked page h

  pub flushed_here : (page : ℕ) → covers (flushed l.place) page ≡ true → slice_get w.map.marks page ≡ Some (Flushing l.caller)
  flushed_here page h = (kept.carried k l here).flushed_marked page h

  pub wide : length w.map.marks ≡ l.setup.space
  wide = apart.whole.marks ∙ ap (λ (d : Setup). d.space) (sym sound.setup)

  pub marked_within : (s : Span) (mark : Mark) → 1 ≤ s.pages → ((page : ℕ) → holds s page ≡ true → slice_get w.map.marks page ≡ Some mark) → end_of s ≤ l.setup.space
  marked_within s mark some marked =
      let last = slice_get_within w.map.marks (end_of s - 1) mark (marked (end_of s - 1) (holds_last s some)) in
      omega (arith, wide)

  pub all_within : (spans : List Span) (mark : Mark) → All HasPage spans → ((page : ℕ) → covers spans page ≡ true → slice_get w.map.marks page ≡ Some mark) → All (λ (s : Span). end_of s ≤ l.setup.space) spans
  all_within [] mark some marked = All-nil (λ (s : Span). end_of s ≤ l.setup.space)
  all_within (s ∷ spans) mark some marked =
      All-cons (λ (s : Span). end_of s ≤ l.setup.space) s spans
      (marked_within s mark (All-head HasPage s spans some) (λ page h. marked page (covers_head s spans page h)))
      (all_within spans mark (All-tail HasPage s spans some) (λ page h. marked page (covers_tail s spans page h)))

-- a caller and its region in one state of a run
pub record AreInOneState (l : Local) (r : Region) : Type 0 where
  pub c : Setup
  pub opening : List Call
  pub calls : List (List Call)
  pub w : World
  pub running : IsRunning c opening calls w
  pub k : ℕ
  pub number : ℕ
  pub here : slice_get w.locals k ≡ Some l
  pub wanted : wants l ≡ Some number
  pub there : slice_get (regions_of c w.map) number ≡ Some r

pub in_one_state : (l : Local) (r : Region) → StandTogether wants IsLawful l r → AreInOneState l r
in_one_state l r st = record {
  c = st.4.0;
  opening = st.4.1;
  calls = st.4.2;
  w = st.4.3;
  running = st.4.4;
  k = st.2;
  number = st.3;
  here = subst (λ (s : List Region × List Local). slice_get s.1 st.2 ≡ Some l) st.4.5 st.5;
  wanted = st.6;
  there = subst (λ (s : List Region × List Local). slice_get s.0 st.3 ≡ Some r) st.4.5 st.7;
}

pub few_more : (l : Local) (r : Region) → StandTogether wants IsLawful l r → l.events + 1 < 2 ^ 32
few_more l r st = let s = in_one_state l r st in few_events s.c s.opening s.calls s.w s.running s.k l s.here

-- who stands with a region wants it
pub wanted_number : (l : Local) (r : Region) → StandTogether wants IsLawful l r → wants l ≡ Some (number_of_region r)
wanted_number l r st = let s = in_one_state l r st in s.wanted ∙ ap (λ n. Some n) (region_number s.c s.w.map s.number r s.there)
