-- A caller of a run: what is kept of it, of its place and of the object in its hand.
use Rattle.std.proofs.Common.{◌≡◌, ℕ, suc, ◌*◌, ◌<◌, List, length, slice_get, Some, None, sym, ◌∙◌, subst, arith}
use Rattle.std.proofs.lemmas.Option.{slice_get_within}
use Rattle.vm_model.specs.declared.calls.Call.{Call}
use Rattle.vm_model.specs.Setup.{Setup}
use Rattle.vm_model.specs.PlainMap.{Life}
use Rattle.vm_model.specs.Chunks.{ObjectAt, object_pages}
use Rattle.vm_model.specs.Legal.{OnPages, IsMapped, IsUnmapped}
use Rattle.vm_model.specs.History.{World, Local}
use Rattle.map_laws.proofs.areas.AreaWorlds.{legally_lasts}
use Rattle.map_laws.proofs.chunks.ChunkFacts.{IsChunkAt}
use Rattle.map_laws.proofs.KeptThroughSteps.{IsFramed}
use Rattle.map_laws.proofs.SizedCalls.{IsNow, AreSized, sized_lasts, sized_first}
use Rattle.map_laws.proofs.MapLegal.{IsReady}
use Rattle.map_laws.proofs.objects.ObjectFacts.{IsObject, IsObjectAt}
use Rattle.map_laws.proofs.TraceWorlds.{SomeonePlaces, IsTraceWorld, trace_reached}
use Rattle.map_laws.proofs.objects.ObjectsReady.{ready_here}
use Rattle.section_laws.specs.Lawful.{IsRunning}
use Rattle.section_laws.specs.Needs.{LiesInUnits, HasObject}
use Rattle.section_laws.proofs.Memory.{pages_reached}
use Rattle.section_laws.proofs.ObjectsFound.{object_found}
use Rattle.section_laws.proofs.PlacesListed.{IsListed, all_listed}

module _ (c : Setup) (opening : List Call) (calls : List (List Call)) (w : World) (is : IsRunning c opening calls w) where
  pub framed : IsFramed c w
  framed = (trace_reached c opening calls is.trace w is.reached).0

  pub world : IsTraceWorld c w
  world = (trace_reached c opening calls is.trace w is.reached).1

  pub wide : length w.map.frames ≡ c.space
  wide = pages_reached c opening calls w is.reached

  pub mapped_inside : (page : ℕ) → IsMapped w.map page → page < c.space
  mapped_inside page has = let inside = slice_get_within w.map.frames page (Some has.0) has.1 in omega (arith, wide)

  pub unmapped_inside : (page : ℕ) → IsUnmapped w.map page → page < c.space
  unmapped_inside page none = let inside = slice_get_within w.map.frames page None none in omega (arith, wide)

  -- an object lies in the units
  pub lies : (at : ObjectAt) (life : Life) → IsObject w.map.chunks at life → OnPages (object_pages c at) (λ page. page < c.space) → LiesInUnits c at
  lies at life object inside =
      let shaped = (world.objects.fine.each object.chunk object.there).shaped object.object object.object_there in
      let off : at.off ≡ 4 * shaped.bit = sym object.off ∙ shaped.at in
      let bytes : at.bytes ≡ 4 * suc shaped.more = sym object.bytes ∙ shaped.whole in
      record { bit = shaped.bit; more = shaped.more; off = off; bytes = bytes; within = (let low = shaped.within in omega arith); inside = inside }

  pub has_object : (at : ObjectAt) (life : Life) → IsObject w.map.chunks at life → HasObject w.map.chunks at life
  has_object at life object = record {
    number = object.there.place;
    chunk = object.chunk;
    there = object.there.at;
    numbered = object.numbered;
    based = object.based;
    place = object.object_there.place;
    object = object.object;
    object_there = object.object_there.at;
    off = object.off;
    bytes = object.bytes;
    lives = object.lives;
    found = object_found c (SomeonePlaces w) w.map.chunks world.objects.fine at life object;
  }

  pub sized : AreSized opening calls w
  sized = (legally_lasts c calls (AreSized opening calls) (sized_lasts c opening calls) opening (sized_first c opening calls) w is.reached).1

  module _ (k : ℕ) (l : Local) (here : slice_get w.locals k ≡ Some l) where
    pub setup_here : l.setup ≡ c
    setup_here = (framed.own k l here).setup

    pub caller_here : l.caller ≡ k
    caller_here = (framed.own k l here).caller

    pub ready : IsReady c w.map k l.place
    ready = ready_here c is.trace.setup w framed world k l here

    pub hand : IsObjectAt w.map k l.place
    hand = subst (λ i. IsObjectAt w.map i l.place) caller_here (world.objects.hands k l here)

    pub chunk_here : IsChunkAt c w.map l.place
    chunk_here = world.chunks.each k l here

    pub listed : IsListed l.place
    listed = (all_listed c opening calls is.trace w is.reached).each k l here

    pub now : IsNow l l.place
    now = world.uses.now k l here
