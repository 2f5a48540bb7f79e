-- A caller and the region that it wants, in one state of a run.
use Rattle.std.proofs.Common.{◌≡◌, ℕ, zero, suc, ◌+◌, List, map, slice_get, Some, ap, sym, ◌∙◌, subst, arith}
use Rattle.vm_model.specs.declared.calls.Call.{Call}
use Rattle.vm_model.specs.Space.{count_from}
use Rattle.vm_model.specs.Setup.{Setup, cpus}
use Rattle.vm_model.specs.PlainMap.{PlainMap, free_runs}
use Rattle.vm_model.specs.History.{World, Local}
use Rattle.vm_model.specs.Parts.{Region, Desk, PurgeTurn, AllocTurn, FreeRuns, LiveAreas, WaitingSpans, Pages, Percpu, regions_of, cpu_blocks, region_in, wants}
use Rattle.vm_model.specs.Run.{StandTogether}
use Rattle.section_laws.specs.Lawful.{IsRunning, IsLawful}

blocks_at : (m : PlainMap) (pages n first i : ℕ) (r : Region) → slice_get (map (cpu_blocks m pages) (count_from n first)) i ≡ Some r → r ≡ cpu_blocks m pages (first + i)
blocks_at m pages zero first i r h = cc
blocks_at m pages (suc n) first zero r h = let e : cpu_blocks m pages first ≡ r = cc in sym e ∙ ap (cpu_blocks m pages) (let f : first ≡ first + 0 = omega arith in f)
blocks_at m pages (suc n) first (suc i) r h = blocks_at m pages n (suc first) i r h ∙ ap (cpu_blocks m pages) (let f : suc first + i ≡ first + suc i = omega arith in f)

-- a region of a map is the map's own
own_blocks : (m : PlainMap) (pages cpu : ℕ) (r : Region) → r ≡ cpu_blocks m pages cpu → r ≡ region_in m r
own_blocks m pages cpu r e = e ∙ sym (ap (region_in m) e)

pub own_region : (c : Setup) (m : PlainMap) (n : ℕ) (r : Region) → slice_get (regions_of c m) n ≡ Some r → r ≡ region_in m r
own_region c m zero r h = let e : Desk ≡ r = cc in sym e ∙ ap (region_in m) e
own_region c m (suc zero) r h = let e : PurgeTurn m.purge_turn ≡ r = cc in sym e ∙ ap (region_in m) e
own_region c m (suc (suc zero)) r h = let e : AllocTurn m.alloc_turn ≡ r = cc in sym e ∙ ap (region_in m) e
own_region c m (suc (suc (suc zero))) r h = let e : FreeRuns (free_runs m) ≡ r = cc in sym e ∙ ap (region_in m) e
own_region c m (suc (suc (suc (suc zero)))) r h = let e : LiveAreas m.areas m.next_area ≡ r = cc in sym e ∙ ap (region_in m) e
own_region c m (suc (suc (suc (suc (suc zero))))) r h = let e : WaitingSpans m.waiting ≡ r = cc in sym e ∙ ap (region_in m) e
own_region c m (suc (suc (suc (suc (suc (suc zero)))))) r h = let e : Pages m.frames m.stale m.cells ≡ r = cc in sym e ∙ ap (region_in m) e
own_region c m (suc (suc (suc (suc (suc (suc (suc zero))))))) r h = let e : Percpu m.chunks m.next_object m.next_chunk m.room ≡ r = cc in sym e ∙ ap (region_in m) e
own_region c m (suc (suc (suc (suc (suc (suc (suc (suc i)))))))) r h = own_blocks m c.block_pages (0 + i) r (blocks_at m c.block_pages (cpus c) 0 i r h)

pub record AreInOneState (l : Local) (r : Region) : Type 0 where
  pub c : Setup
  pub opening : List Call
  pub calls : List (List Call)
  pub w : World
  pub running : IsRunning c opening calls w
  pub k : ℕ
  pub here : slice_get w.locals k ≡ Some l
  pub own : r ≡ region_in w.map r

pub in_one_state : (l : Local) (r : Region) → StandTogether wants IsLawful l r → AreInOneState l r
in_one_state l r st = record {
  c = st.4.0;
  opening = st.4.1;
  calls = st.4.2;
  w = st.4.3;
  running = st.4.4;
  k = st.2;
  here = subst (λ (s : List Region × List Local). slice_get s.1 st.2 ≡ Some l) st.4.5 st.5;
  own = own_region st.4.0 st.4.3.map st.3 r (subst (λ (s : List Region × List Local). slice_get s.0 st.3 ≡ Some r) st.4.5 st.7);
}
