-- What the section over chunks and objects asks for holds at its caller's place.
use Rattle.std.proofs.Common.{◌≡◌, ℕ, suc, ◌+◌, ◌<◌, ◌≤◌, true, List, [], ◌∷◌, length, slice_get, Some, refl, ap, sym, ◌∙◌, subst, arith, length-append}
use Rattle.vm_model.specs.declared.calls.Call.{Call}
use Rattle.vm_model.specs.Setup.{Setup}
use Rattle.vm_model.specs.PlainMap.{PlainMap, Chunk, InHand}
use Rattle.vm_model.specs.Events.{Section, SettleObject, AddChunk}
use Rattle.vm_model.specs.Legal.{IsLegalAs}
use Rattle.vm_model.specs.Effects.{effect_as}
use Rattle.vm_model.specs.Places.{Place, Choosing, ChoosingAtomic, AddingChunk, SettlingObject, SettlingAtomic, Unplacing, NotingFilled}
use Rattle.vm_model.specs.History.{World, Local, most_events}
use Rattle.vm_model.specs.LegalHistory.{IsReached}
use Rattle.vm_model.specs.Parts.{Region, Percpu}
use Rattle.map_laws.proofs.areas.AreaWorlds.{IsLegallyLasting, legally_lasts}
use Rattle.map_laws.proofs.EndProofs.{histories_short}
use Rattle.map_laws.proofs.MapLegal.{IsReady}
use Rattle.map_laws.proofs.objects.ObjectFacts.{IsObjectAt}
use Rattle.map_laws.proofs.ProperPlaces.{IsObjectSize, IsProper}
use Rattle.map_laws.proofs.chunks.ChunkFalls.{AreSized, sized_section}
use Rattle.map_laws.proofs.TraceWorlds.{proper_here}
use Rattle.call_laws.specs.Room.{may_place}
use Rattle.call_laws.proofs.Rooms.{room_counts}
use Rattle.section_laws.specs.Lawful.{IsRunning}
use Rattle.section_laws.specs.Needs.{CanBeAsked, IsPercpuReady}
use Rattle.section_laws.specs.ReadyRegions.{PercpuIsReady, NumbersAreLeft, ChunksHaveUnits}
use Rattle.section_laws.proofs.OneState.{in_one_state}
use Rattle.section_laws.proofs.PlacesListed.{IsListed, IsObjectAlign}
use Rattle.section_laws.proofs.KeptCallers.{framed, world, has_object, setup_here, caller_here, ready, hand, listed}

asked : (bytes align : ℕ) → IsObjectSize bytes → IsObjectAlign align → CanBeAsked bytes align
asked bytes align size fine = record { more = size.1; whole = size.2; high = size.0; power = fine.power; align_low = fine.low; align_high = fine.high }

-- Serials and numbers.

abbrev AreFewNumbers : World → Type 0
AreFewNumbers w = (w.map.next_object ≤ 1 + length w.events) × (w.map.next_chunk ≤ length w.events)

raised : (c : Setup) (m : PlainMap) (k : ℕ) (s : Section) → IsLegalAs c m k s → ((effect_as c m k s).next_object ≤ suc m.next_object) × ((effect_as c m k s).next_chunk ≤ suc m.next_chunk)
raised c m k (SettleObject at serial) legal = let e = legal.1 in (omega arith, omega arith)
raised c m k (AddChunk chunk base at align missing) legal = let e = legal.1 in (omega arith, omega arith)
raised c m k _ legal = (omega arith, omega arith)

few_lasts : (c : Setup) (calls : List (List Call)) → IsLegallyLasting c calls AreFewNumbers
few_lasts c calls = record {
  steps = λ w k l s framed few step.
      let own = framed.own k l step.step.here in
      let up = raised l.setup w.map l.caller s (subst (λ i. IsLegalAs l.setup w.map i s) (sym own.caller) step.legal) in
      let object = up.0 in let chunk = up.1 in let was = few.0 in let had = few.1 in
      (omega (arith, length-append w.events (record { caller = l.caller; section = s } ∷ [])), omega (arith, length-append w.events (record { caller = l.caller; section = s } ∷ [])));
  joins = λ w framed one few over. few;
}

few_numbers : (c : Setup) (opening : List Call) (calls : List (List Call)) (w : World) → IsReached c opening calls w → AreFewNumbers w
few_numbers c opening calls w reached = (legally_lasts c calls AreFewNumbers (few_lasts c calls) opening (omega arith, omega arith) w reached).1

-- Chunks have the pages of the units.

sized_lasts : (c : Setup) (calls : List (List Call)) → IsLegallyLasting c calls (λ w. AreSized c w.map.chunks)
sized_lasts c calls = record {
  steps = λ w k l s framed sized step.
      let own = framed.own k l step.step.here in
      subst (λ d. AreSized d (effect_as l.setup w.map l.caller s).chunks) own.setup (sized_section l.setup w.map l.caller s (subst (λ d. AreSized d w.map.chunks) (sym own.setup) sized));
  joins = λ w framed one sized over. sized;
}

pub sized_reached : (c : Setup) (opening : List Call) (calls : List (List Call)) (w : World) → IsReached c opening calls w → AreSized c w.map.chunks
sized_reached c opening calls w reached = (legally_lasts c calls (λ w. AreSized c w.map.chunks) (sized_lasts c calls) opening (record { each = λ i h at. cc }) w reached).1

module _ (c : Setup) (opening : List Call) (calls : List (List Call)) (w : World) (is : IsRunning c opening calls w) (k : ℕ) (l : Local) (here : slice_get w.locals k ≡ Some l) where
  room : may_place l.place ≡ true → 1 ≤ w.map.room
  room may = (room_counts c opening calls w is.trace is.reached).some k l here may

  by_place : (p : Place) → l.place ≡ p → IsReady c w.map k p → IsObjectAt w.map k p → IsListed p → IsProper c p → IsPercpuReady c k p w.map.chunks w.map.next_object w.map.next_chunk w.map.room
  by_place (Choosing bytes align) e can object fine size = (asked bytes align size fine, room (ap may_place e))
  by_place (ChoosingAtomic bytes align) e can object fine size = (asked bytes align size fine, room (ap may_place e))
  by_place (AddingChunk base number bytes align) e can object fine size = (asked bytes align size fine, room (ap may_place e), can.1)
  by_place (SettlingObject at) e can object fine size = has_object c opening calls w is at (InHand k) object
  by_place (SettlingAtomic at) e can object fine size = has_object c opening calls w is at (InHand k) object
  by_place (Unplacing at) e can object fine size = has_object c opening calls w is at (InHand k) object
  by_place (NotingFilled number page filled) e can object fine size = record { chunk = can.0; first = can.1; unpopulated = can.2; untouched = can.3 }
  by_place _ e can object fine size = tt

  pub percpu_here : IsPercpuReady l.setup l.caller l.place w.map.chunks w.map.next_object w.map.next_chunk w.map.room
  percpu_here = subst (λ i. IsPercpuReady l.setup i l.place w.map.chunks w.map.next_object w.map.next_chunk w.map.room) (sym (caller_here c opening calls w is k l here))
      (subst (λ d. IsPercpuReady d k l.place w.map.chunks w.map.next_object w.map.next_chunk w.map.room) (sym (setup_here c opening calls w is k l here))
      (by_place l.place refl (ready c opening calls w is k l here) (hand c opening calls w is k l here) (listed c opening calls w is k l here)
      (proper_here c is.trace.setup w (framed c opening calls w is) (world c opening calls w is) k l here)))

abbrev chunks_in : Region → List Chunk
chunks_in (Percpu chunks object chunk room) = chunks
chunks_in _ = []

abbrev object_in : Region → ℕ
object_in (Percpu chunks object chunk room) = object
object_in _ = 0

abbrev chunk_in : Region → ℕ
chunk_in (Percpu chunks object chunk room) = chunk
chunk_in _ = 0

abbrev room_in : Region → ℕ
room_in (Percpu chunks object chunk room) = room
room_in _ = 0

pub percpu_ready : PercpuIsReady
percpu_ready l chunks object chunk room st =
    let s = in_one_state l (Percpu chunks object chunk room) st in
    let same : chunks ≡ s.w.map.chunks = ap chunks_in s.own in
    let same_object : object ≡ s.w.map.next_object = ap object_in s.own in
    let same_chunk : chunk ≡ s.w.map.next_chunk = ap chunk_in s.own in
    let same_room : room ≡ s.w.map.room = ap room_in s.own in
    subst (λ x. IsPercpuReady l.setup l.caller l.place x object chunk room) (sym same)
    (subst (λ x. IsPercpuReady l.setup l.caller l.place s.w.map.chunks x chunk room) (sym same_object)
    (subst (λ x. IsPercpuReady l.setup l.caller l.place s.w.map.chunks s.w.map.next_object x room) (sym same_chunk)
    (subst (λ x. IsPercpuReady l.setup l.caller l.place s.w.map.chunks s.w.map.next_object s.w.map.next_chunk x) (sym same_room) (percpu_here s.c s.opening s.calls s.w s.running s.k l s.here))))

pub units_there : ChunksHaveUnits
units_there l chunks object chunk room st =
    let s = in_one_state l (Percpu chunks object chunk room) st in
    let same : chunks ≡ s.w.map.chunks = ap chunks_in s.own in
    let sized = sized_reached s.c s.opening s.calls s.w s.running.reached in
    let setup : l.setup ≡ s.c = setup_here s.c s.opening s.calls s.w s.running s.k l s.here in
    λ i h at. sized.each i h (sym (ap (λ xs. slice_get xs i) same) ∙ at) ∙ ap (λ (d : Setup). d.unit_pages) (sym setup)

pub numbers_left : NumbersAreLeft
numbers_left l chunks object chunk room st =
    let s = in_one_state l (Percpu chunks object chunk room) st in
    let same_object : object ≡ s.w.map.next_object = ap object_in s.own in
    let same_chunk : chunk ≡ s.w.map.next_chunk = ap chunk_in s.own in
    let few = few_numbers s.c s.opening s.calls s.w s.running.reached in
    let object_few = few.0 in let chunk_few = few.1 in
    let short : length s.w.events < most_events = histories_short s.c s.opening s.calls s.w s.running.trace s.running.reached in
    (omega arith, omega arith)
