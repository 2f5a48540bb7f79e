-- What the section over the pages asks for holds at its caller's place.
use Rattle.std.proofs.Common.{◌≡◌, ℕ, ◌+◌, ◌<◌, ◌==◌, ◌⊎◌, inl, inr, true, Bool, List, [], ◌∷◌, slice_get, Option, Some, refl, ap, sym, ◌∙◌, subst, arith}
use Rattle.vm_model.specs.declared.calls.Call.{Call}
use Rattle.vm_model.specs.Space.{is_among}
use Rattle.vm_model.specs.Setup.{Setup, pages_in_units}
use Rattle.vm_model.specs.PlainMap.{Lives, InHand}
use Rattle.vm_model.specs.Chunks.{ObjectAt, object_pages, pages_of_object}
use Rattle.vm_model.specs.Legal.{OnPages, IsBare, IsMapped}
use Rattle.vm_model.specs.Places.{Place, Populating, Filling, Depopulating, Zeroing, Adding, Summing}
use Rattle.vm_model.specs.History.{World, Local}
use Rattle.vm_model.specs.Parts.{Region, Pages}
use Rattle.map_laws.proofs.blocks.BlockWorlds.{only_one}
use Rattle.map_laws.proofs.blocks.BlockFacts.{count_cons}
use Rattle.map_laws.proofs.chunks.ChunkFacts.{IsChunkAt, unit_page, page_in_units}
use Rattle.map_laws.proofs.SizedCalls.{IsNow}
use Rattle.map_laws.proofs.MapLegal.{IsReady}
use Rattle.map_laws.proofs.objects.ObjectFacts.{IsObject, IsObjectAt}
use Rattle.map_laws.proofs.objects.ObjectsReady.{named_live}
use Rattle.map_laws.proofs.TestsAndFilters.{one_if_le}
use Rattle.map_laws.proofs.objects.ObjectWords.{add_within, sum_within}
use Rattle.section_laws.specs.Lawful.{IsRunning}
use Rattle.section_laws.specs.Needs.{CanGetFrames, CanLoseFrames, IsReachable, ArePagesReady}
use Rattle.section_laws.specs.ReadyRegions.{PagesAreReady}
use Rattle.section_laws.proofs.OneState.{in_one_state}
use Rattle.section_laws.proofs.PlacesListed.{IsListed, AreOnce}
use Rattle.section_laws.proofs.PagesStandOnce.{units_once}
use Rattle.section_laws.proofs.KeptCallers.{framed, world, mapped_inside, unmapped_inside, lies, sized, setup_here, ready, hand, chunk_here, listed, now}

one_once : (page : ℕ) → AreOnce (page ∷ [])
one_once page x = omega (arith, count_cons x page [], one_if_le (page == x))

module _ (c : Setup) (opening : List Call) (calls : List (List Call)) (w : World) (is : IsRunning c opening calls w) (k : ℕ) (l : Local) (here : slice_get w.locals k ≡ Some l) where
  bare_pages : (base : ℕ) (pages : List ℕ) → AreOnce pages → ((page : ℕ) → is_among pages page ≡ true → page < c.unit_pages) → OnPages (pages_in_units c base pages) (IsBare w.map)
      → CanGetFrames c w.map.frames w.map.stale (pages_in_units c base pages)
  bare_pages base pages once low bare = record {
    once = λ page. units_once c is.trace.setup.units base pages once low page;
    inside = λ page h. unmapped_inside c opening calls w is page (bare page h).unmapped;
    unmapped = λ page h. (bare page h).unmapped;
    not_stale = λ page h. (bare page h).not_stale;
  }

  mapped_pages : (base : ℕ) (pages : List ℕ) → AreOnce pages → ((page : ℕ) → is_among pages page ≡ true → page < c.unit_pages) → OnPages (pages_in_units c base pages) (IsMapped w.map)
      → CanLoseFrames c w.map.frames (pages_in_units c base pages)
  mapped_pages base pages once low mapped = record {
    once = λ page. units_once c is.trace.setup.units base pages once low page;
    inside = λ page h. mapped_inside c opening calls w is page (mapped page h);
    mapped = mapped;
  }

  reachable : (at : ObjectAt) (life : _) → IsObject w.map.chunks at life → OnPages (object_pages c at) (IsMapped w.map) → IsReachable c w.map.frames at
  reachable at life object mapped = record { lies = lies c opening calls w is at life object (λ page h. mapped_inside c opening calls w is page (mapped page h)); mapped = mapped }

  by_place : (p : Place) → l.place ≡ p → IsReady c w.map k p → IsObjectAt w.map k p → IsChunkAt c w.map p → IsListed p → IsNow l p → ArePagesReady c p w.map.frames w.map.stale
  by_place (Populating at missing) e can object chunk once uses =
      let either : OnPages (object_pages c at) (λ page. (is_among (pages_in_units c at.base missing) page ≡ true) ⊎ IsMapped w.map page) = λ x h. (
      let u = unit_page c at.base x (pages_of_object at) h in
      elim (chunk.either u.page u.among) [
        | inl lacks ↦ inl (ap (is_among (pages_in_units c at.base missing)) u.same ∙ page_in_units c at.base u.page u.cpu u.unit missing u.at lacks)
        | inr has ↦ inr (subst (IsMapped w.map) (ap (λ b. b + u.unit + u.page) chunk.here.based ∙ sym u.same) (((world c opening calls w is).chunks.chunks chunk.here.chunk chunk.here.there).populated u.page has u.cpu u.unit u.at))
      ]) in (
        bare_pages at.base missing once (λ page h. chunk.low page (chunk.within page h)) can,
        lies c opening calls w is at (InHand k) object (λ page h. elim (either page h) [
          | inl lacks ↦ unmapped_inside c opening calls w is page (can page lacks).unmapped
          | inr has ↦ mapped_inside c opening calls w is page has
        ]),
        either,
      )
  by_place (Filling chunk base page filled) e can object at once uses = (bare_pages base (page ∷ []) (one_once page) (λ own h. subst (λ i. i < c.unit_pages) (only_one page own h) at.low) can, at.low)
  by_place (Depopulating base populated) e can object chunk once uses = (mapped_pages base populated once (λ page h. (chunk.2 page h).0) can, λ page h. (chunk.2 page h).0)
  by_place (Zeroing at) e can object chunk once uses = reachable at (InHand k) object can.1
  by_place (Adding at serial cpu index amount) e can object chunk once uses =
      let word = add_within c opening calls is.trace w (sized c opening calls w is) (world c opening calls w is).uses k l here at serial cpu index amount e in
      (reachable at (Lives serial) (named_live c is.trace.setup w (framed c opening calls w is) (world c opening calls w is) k l here at serial uses) can.1, word.0, word.1)
  by_place (Summing at serial index) e can object chunk once uses = (
    reachable at (Lives serial) (named_live c is.trace.setup w (framed c opening calls w is) (world c opening calls w is) k l here at serial uses) can.1,
    sum_within c opening calls is.trace w (sized c opening calls w is) (world c opening calls w is).uses k l here at serial index e,
  )
  by_place _ e can object chunk once uses = tt

  pub pages_here : ArePagesReady l.setup l.place w.map.frames w.map.stale
  pages_here = subst (λ d. ArePagesReady d l.place w.map.frames w.map.stale) (sym (setup_here c opening calls w is k l here))
      (by_place l.place refl (ready c opening calls w is k l here) (hand c opening calls w is k l here) (chunk_here c opening calls w is k l here) (listed c opening calls w is k l here) (now c opening calls w is k l here))

abbrev frames_in : Region → List (Option ℕ)
frames_in (Pages frames stale cells) = frames
frames_in _ = []

abbrev stale_in : Region → List Bool
stale_in (Pages frames stale cells) = stale
stale_in _ = []

pub pages_ready : PagesAreReady
pages_ready l frames stale cells st =
    let s = in_one_state l (Pages frames stale cells) st in
    let same : frames ≡ s.w.map.frames = ap frames_in s.own in
    let same_stale : stale ≡ s.w.map.stale = ap stale_in s.own in
    subst (λ x. ArePagesReady l.setup l.place x stale) (sym same) (subst (λ x. ArePagesReady l.setup l.place s.w.map.frames x) (sym same_stale) (pages_here s.c s.opening s.calls s.w s.running s.k l s.here))
