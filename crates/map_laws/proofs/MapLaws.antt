-- Areas are apart, guards are never mapped, free pages are clean, and parts of a block are apart.
use Rattle.std.proofs.Common.{Bool, List, [], ap, arith, false, map, refl, subst, sym, true, ℕ, ◌+◌, ◌-◌, ◌<◌, ◌∙◌, ◌∷◌, ◌≡◌, ◌≤◌, Some, flat_map, inl, inr, nat_lt, option_map, slice_get, suc, sum_by, zero, ◌*◌, ◌/◌, ◌==◌, ◌≢◌, ◌++◌, length, Option, None, append_assoc, append-nil, length-set}
use Rattle.vm_model.specs.Blocks.{size_of}
use Rattle.vm_model.specs.Laws.{AreasAreDisjointAndAligned, FreePagesAreClean, PartsOfABlockAreDisjoint, TheGuardIsNeverMapped, ObjectsAreMappedInEveryUnit, all_copies, copies_of, object_at, IsOneLegalHistory}
use Rattle.vm_model.specs.PlainMap.{Part, Chunk, Ended, InHand, Life, Lives, Object, PlainMap, is_in_hand, is_live}
use Rattle.vm_model.specs.Space.{covers, end_of, holds, one_if, span, times, is_among}
use Rattle.map_laws.proofs.areas.AreaFacts.{guard_part}
use Rattle.map_laws.proofs.areas.AreaStarts.{guard_in}
use Rattle.map_laws.proofs.blocks.BlockFacts.{AreStacked, same_test}
use Rattle.map_laws.proofs.ProperPlaces.{IsPlainKind}
use Rattle.map_laws.proofs.TestsAndFilters.{holds_to, times-cons, holds_from, times-append, IsIn, one_if_le}
use Rattle.map_laws.proofs.TraceWorlds.{trace_reached, IsObjectWorld, SomeonePlaces}
use Rattle.std.proofs.lemmas.Bool.Decides.{nat_tests}
use Rattle.std.proofs.lemmas.List.Sums.{sum_by-cons}
use Rattle.std.proofs.lemmas.Option.{get_or_from_slice_get, slice_get-map}
use Rattle.vm_model.specs.Areas.{spans_of}
use Rattle.vm_model.specs.Chunks.{ObjectAt, copy_at, object_bits, pages_of_object}
use Rattle.vm_model.specs.Frames.{pages_of_bytes}
use Rattle.vm_model.specs.History.{World, moved_to, Local, made_by, made_if, step, step_of, pick_all, first_mover, finish, most_events, history_of, opening_world, with_callers}
use Rattle.vm_model.specs.Legal.{IsMapped, OnPages}
use Rattle.vm_model.specs.Places.{Place, ask}
use Rattle.vm_model.specs.Rules.{AreUnits, IsTrace}
use Rattle.vm_model.specs.Setup.{Setup, pages_in_units}
use Rattle.vm_model.specs.declared.areas.Span.{Span}
use Rattle.map_laws.proofs.blocks.BlockPlaces.{IsInChunk}
use Rattle.map_laws.proofs.blocks.BlockWorlds.{sum_some}
use Rattle.map_laws.proofs.chunks.ChunkFacts.{AreGroupsLive, group_page, unit_covered, unit_page}
use Rattle.map_laws.proofs.chunks.ChunkMoves.{number_once}
use Rattle.map_laws.proofs.chunks.ChunkWorlds.{IsChunkWorld}
use Rattle.map_laws.proofs.KeptThroughSteps.{same_or, there, IsFramed, IsStep, framed_opening, framed_callers, framed_step}
use Rattle.map_laws.proofs.objects.ObjectFacts.{AreChunksFine, IsBeingPlaced, IsObject, IsObjectAt, IsShaped, count_sum, object_only, same_place, times_map}
use Rattle.vm_model.specs.declared.calls.Call.{Call}
use Rattle.vm_model.specs.Events.{Section, Event}
use Rattle.vm_model.specs.Given.{given}
use Rattle.vm_model.specs.Next.{next}
use Rattle.vm_model.specs.LegalHistory.{IsRun, IsReached, IsLegalHistory, AllOver, after_event, world_after, callers_world}
use Rattle.map_laws.proofs.areas.AreaWorlds.{IsLegalStep, IsLegallyLasting}
use Rattle.map_laws.proofs.EndProofs.{finish_zero, finish_none, finish_some, every_run_ends}

pub areas_apart : AreasAreDisjointAndAligned
areas_apart c opening calls w trace reached =
    let is = (trace_reached c opening calls trace w reached).1 in record {
      once = is.area.once;
      aligned = λ i a h. (is.made.each a (record { place = i; at = h })).aligned;
      made_aligned = λ k i l answer here h. (is.aligned.each k l here).answers i answer h;
    }

pub guard_unmapped : TheGuardIsNeverMapped
guard_unmapped c opening calls w trace reached i a h e =
    let is = (trace_reached c opening calls trace w reached).1 in
    let plain : IsPlainKind a.kind = subst IsPlainKind (sym e) tt in
    let some = (is.made.each a (record { place = i; at = h })).wide plain in
    (is.area.fine.areas i a h).guard plain (end_of a.span - 1) (ap (λ k. covers (guard_part k a.span ∷ []) (end_of a.span - 1)) e ∙ guard_in a.span some)

pub free_clean : FreePagesAreClean
free_clean c opening calls w trace reached =
    let is = (trace_reached c opening calls trace w reached).1 in record {
      free = λ page h. (is.area.fine.pages page).free h;
      stale = is.clean.stale.stale;
      own = is.clean.own.own;
    }

-- Parts of a block, by their offsets.

before_all : (ps : List Part) (off page : ℕ) → AreStacked off ps → page < off → times page (map (λ (p : Part). span p.offset (size_of p)) ps) ≡ 0
before_all [] off page st low = refl
before_all (p ∷ ps) off page st low = grind (arith, before_all ps (off + size_of p) page st.2 (omega arith), times-cons, holds_to)

parts_once : (ps : List Part) (off page : ℕ) → AreStacked off ps → times page (map (λ (p : Part). span p.offset (size_of p)) ps) ≤ 1
parts_once [] off page st = omega arith
parts_once (p ∷ ps) off page st = by_test (holds (span p.offset (size_of p)) page) refl (parts_once ps (off + size_of p) page st.2)
  where
    by_test : (t : Bool) → holds (span p.offset (size_of p)) page ≡ t → times page (map (λ (p : Part). span p.offset (size_of p)) ps) ≤ 1 → times page (map (λ (p : Part). span p.offset (size_of p)) (p ∷ ps)) ≤ 1
    by_test true e more = let r = holds_to (span p.offset (size_of p)) page e in let a = st.0 in
        omega (arith, times-cons page (span p.offset (size_of p)) (map (λ (p : Part). span p.offset (size_of p)) ps), before_all ps (off + size_of p) page st.2 (omega arith), ap one_if e)
    by_test false e more = omega (arith, times-cons page (span p.offset (size_of p)) (map (λ (p : Part). span p.offset (size_of p)) ps), ap one_if e)

pub parts_disjoint : PartsOfABlockAreDisjoint
parts_disjoint c opening calls w trace reached i b h =
    let is = (trace_reached c opening calls trace w reached).1 in
    let fine = is.blocks.blocks b (record { place = i; at = h }) in record { once = λ page. parts_once b.parts 0 page fine.stacked; within = fine.within }

-- Objects are mapped in every unit, and no two of them share a bit or a byte.

placed_hand : (m : PlainMap) (k : ℕ) (p : Place) (number off : ℕ) → IsBeingPlaced number off p → IsObjectAt m k p → (at : ObjectAt) × (at.chunk ≡ number) × (at.off ≡ off) × IsObject m.chunks at (InHand k)
placed_hand m k p number off b is = grind (arith, nat_tests)

module _ (c : Setup) (w : World) (chunks : IsChunkWorld c w) (objects : IsObjectWorld c w) where
  -- the pages of an object that no caller has in hand are populated
  pub object_done : (h : Chunk) (o : Object) → IsIn h w.map.chunks → IsIn o h.objects → is_in_hand o.life ≡ false → (page : ℕ) → is_among (pages_of_bytes o.off o.bytes) page ≡ true → slice_get h.populated page ≡ Some true
  object_done h o there o_there free page e = elim ((objects.fine.each h there).settled o o_there) [
    | inl done ↦ done page e
    | inr b ↦ absurd (let hand = placed_hand w.map b.1.caller b.1.place h.number o.off b.3 (objects.hands b.0 b.1 b.2) in
        let one = object_only c (SomeonePlaces w) w.map.chunks objects.fine hand.0 (InHand b.1.caller) hand.3 h o there (sym hand.1) o_there (sym hand.2) in
        let life : o.life ≡ InHand b.1.caller = ap (λ (x : Object). x.life) one ∙ hand.3.lives in
        let held : is_in_hand o.life ≡ true = ap is_in_hand life in cc)
  ]

  -- where the pages of an object are populated, they are mapped in each unit
  pub populated_mapped : (h : Chunk) → IsIn h w.map.chunks → (pages : List ℕ) → ((page : ℕ) → is_among pages page ≡ true → slice_get h.populated page ≡ Some true) → OnPages (pages_in_units c h.base pages) (IsMapped w.map)
  populated_mapped h there pages done x e = let u = unit_page c h.base x pages e in subst (IsMapped w.map) (sym u.same) ((chunks.chunks h there).populated u.page (done u.page u.among) u.cpu u.unit u.at)

-- Sums that are at most 1.

pub sum_once : {X : Type 0} (f : X → ℕ) (xs : List X) → ((i : ℕ) (x : X) → slice_get xs i ≡ Some x → f x ≤ 1) → ((i j : ℕ) (x y : X) → i < j → slice_get xs i ≡ Some x → slice_get xs j ≡ Some y → 1 ≤ f x → 1 ≤ f y → ⊥) → sum_by f xs ≤ 1
sum_once f [] each apart = omega arith
sum_once f (x ∷ xs) each apart = by_first (f x) (sum_by f xs) refl refl (each 0 x refl) (sum_once f xs (λ i y h. each (suc i) y h) (λ i j y z less h g. apart (suc i) (suc j) y z (omega arith) h g))
  where
    by_first : (n total : ℕ) → f x ≡ n → sum_by f xs ≡ total → f x ≤ 1 → sum_by f xs ≤ 1 → sum_by f (x ∷ xs) ≤ 1
    by_first zero total e g few rest = omega (arith, sum_by-cons f x xs)
    by_first (suc n) zero e g few rest = omega (arith, sum_by-cons f x xs)
    by_first (suc n) (suc total) e g few rest = absurd (let is = sum_some f xs (omega arith) in apart 0 (suc is.0) x is.1 (omega arith) refl is.2 (omega arith) is.3)

pub times_flat : {X : Type 0} (f : X → List Span) (n : ℕ) (xs : List X) → times n (flat_map f xs) ≡ sum_by (λ x. times n (f x)) xs
times_flat f n [] = refl
times_flat f n (x ∷ xs) = omega (arith, times-append n (f x) (flat_map f xs), times_flat f n xs, sum_by-cons (λ x. times n (f x)) x xs)

-- the copy of an object in a unit has the byte
abbrev pub HasByte : ℕ → Chunk → Object → ℕ → Type 0
HasByte byte h o unit = (4096 * (h.base + unit) + o.off ≤ byte) × (byte < 4096 * (h.base + unit) + o.off + o.bytes)

module _ (c : Setup) (units : AreUnits c) (m : PlainMap) (placing : ℕ → ℕ → Type 0) (once : (page : ℕ) → times page (spans_of m.areas) ≤ 1) (live_of : (h : Chunk) → IsIn h m.chunks → AreGroupsLive c m h.number h.base) (fine : AreChunksFine c placing m.chunks) (byte : ℕ) where
  abbrev in_unit : Chunk → Object → ℕ → ℕ
  in_unit h o unit = one_if (holds (span (copy_at (object_at h o) unit) o.bytes) byte)

  abbrev in_object : Chunk → Object → ℕ
  in_object h o = times byte (copies_of c (object_at h o))

  abbrev in_chunk : Chunk → ℕ
  in_chunk h = times byte (flat_map (λ o. copies_of c (object_at h o)) h.objects)

  by_units : (h : Chunk) (o : Object) → in_object h o ≡ sum_by (in_unit h o) c.units
  by_units h o = times_map (λ unit. span (copy_at (object_at h o) unit) o.bytes) byte c.units

  unit_hit : (h : Chunk) (o : Object) (unit : ℕ) → 1 ≤ in_unit h o unit → HasByte byte h o unit
  unit_hit h o unit hit = grind (arith, holds_to, nat_tests)

  object_hit : (h : Chunk) (o : Object) → 1 ≤ in_object h o → (cpu : ℕ) × (unit : ℕ) × (slice_get c.units cpu ≡ Some unit) × HasByte byte h o unit
  object_hit h o hit = let is = sum_some (in_unit h o) c.units (omega (arith, by_units h o)) in (is.0, is.1, is.2, unit_hit h o is.1 is.3)

  chunk_hit : (h : Chunk) → 1 ≤ in_chunk h → (o : Object) × IsIn o h.objects × (1 ≤ in_object h o)
  chunk_hit h hit = let is = sum_some (in_object h) h.objects (omega (arith, times_flat (λ o. copies_of c (object_at h o)) byte h.objects)) in (is.1, record { place = is.0; at = is.2 }, is.3)

  -- the page of the byte, in the unit
  copy_page : (h : Chunk) (o : Object) (unit : ℕ) → IsShaped c o → HasByte byte h o unit → (h.base + unit ≤ byte / 4096) × (byte / 4096 < h.base + unit + c.unit_pages)
  copy_page h o unit shape is = let a = shape.at in let b = shape.whole in let d = shape.within in let low = is.0 in let high = is.1 in ((omega arith), (omega arith))

  -- two copies in one chunk are in one unit
  same_cpu : (h : Chunk) (o o' : Object) (cpu cpu' unit unit' : ℕ) → IsShaped c o → IsShaped c o' → slice_get c.units cpu ≡ Some unit → slice_get c.units cpu' ≡ Some unit' → HasByte byte h o unit → HasByte byte h o' unit' → cpu ≡ cpu'
  same_cpu h o o' cpu cpu' unit unit' shape shape' at at' is is' = elim (same_or cpu cpu') [ inl e ↦ e | inr apart ↦ absurd (by_order (nat_lt cpu cpu') refl apart) ]
    where
      holds_page : (o : Object) (unit : ℕ) → IsShaped c o → HasByte byte h o unit → holds (span unit c.unit_pages) (byte / 4096 - h.base) ≡ true
      holds_page o unit shape is = let r = copy_page h o unit shape is in holds_from (span unit c.unit_pages) (byte / 4096 - h.base) (let a = r.0 in omega arith) (let a = r.0 in let b = r.1 in omega arith)

      unit_span : (cpu unit : ℕ) → slice_get c.units cpu ≡ Some unit → slice_get (map (λ unit. span unit c.unit_pages) c.units) cpu ≡ Some (span unit c.unit_pages)
      unit_span cpu unit e = slice_get-map (λ unit. span unit c.unit_pages) c.units cpu ∙ ap (option_map (λ unit. span unit c.unit_pages)) e

      by_order : (t : Bool) → nat_lt cpu cpu' ≡ t → cpu ≢ cpu' → ⊥
      by_order true f apart = units.apart cpu cpu' (span unit c.unit_pages) (span unit' c.unit_pages) (let l : cpu < cpu' = grind (arith, nat_tests) in l) (unit_span cpu unit at) (unit_span cpu' unit' at')
          (byte / 4096 - h.base) (holds_page o unit shape is) (holds_page o' unit' shape' is')
      by_order false f apart = units.apart cpu' cpu (span unit' c.unit_pages) (span unit c.unit_pages) (let l : cpu' ≤ cpu = grind (arith, nat_tests) in omega arith) (unit_span cpu' unit' at') (unit_span cpu unit at)
          (byte / 4096 - h.base) (holds_page o' unit' shape' is') (holds_page o unit shape is)

  object_once : (h : Chunk) (o : Object) → IsShaped c o → in_object h o ≤ 1
  object_once h o shape = omega (
    arith,
    by_units h o,
    sum_once (in_unit h o) c.units (λ i unit e. one_if_le (holds (span (copy_at (object_at h o) unit) o.bytes) byte))
        (λ i j x y less e f hit hit'. (let same : i ≡ j = same_cpu h o o i j x y shape shape e f (unit_hit h o x hit) (unit_hit h o y hit') in omega arith)),
  )

  -- two objects of a chunk with one byte are one
  same_byte : (h : Chunk) (there : IsIn h m.chunks) (i j : ℕ) (o o' : Object) → slice_get h.objects i ≡ Some o → slice_get h.objects j ≡ Some o' → 1 ≤ in_object h o → 1 ≤ in_object h o' → i ≡ j
  same_byte h there i j o o' e f hit hit' =
      let of = fine.each h there in let shape = of.shaped o (record { place = i; at = e }) in let shape' = of.shaped o' (record { place = j; at = f }) in
      let is = object_hit h o hit in let is' = object_hit h o' hit' in
      let cpu = same_cpu h o o' is.0 is'.0 is.1 is'.1 shape shape' is.2 is'.2 is.3 is'.3 in
      let unit : is.1 ≡ is'.1 = (let g = is'.2 in let k : slice_get c.units is'.0 ≡ Some is.1 = ap (slice_get c.units) (sym cpu) ∙ is.2 in cc) in
      let few = of.bits ((byte - 4096 * (h.base + is.1)) / 4) in
      same_place (λ (x : Object). one_if (holds (object_bits x) ((byte - 4096 * (h.base + is.1)) / 4))) h.objects i j o o' (omega (arith, times_map object_bits ((byte - 4096 * (h.base + is.1)) / 4) h.objects)) e f
      (omega (arith, ap one_if (bit_in o shape is.1 is.3))) (omega (arith, ap one_if (bit_in o' shape' is.1 (subst (HasByte byte h o') (sym unit) is'.3))))
    where
      bit_in : (o : Object) → IsShaped c o → (unit : ℕ) → HasByte byte h o unit → holds (object_bits o) ((byte - 4096 * (h.base + unit)) / 4) ≡ true
      bit_in o shape unit is = let a = shape.at in let b = shape.whole in let low = is.0 in let high = is.1 in holds_from (object_bits o) ((byte - 4096 * (h.base + unit)) / 4) (omega arith) (omega arith)

  chunk_once : (h : Chunk) → IsIn h m.chunks → in_chunk h ≤ 1
  chunk_once h there = omega (
    arith,
    times_flat (λ o. copies_of c (object_at h o)) byte h.objects,
    sum_once (in_object h) h.objects (λ i o e. object_once h o ((fine.each h there).shaped o (record { place = i; at = e })))
        (λ i j o o' less e f hit hit'. (let same : i ≡ j = same_byte h there i j o o' e f hit hit' in omega arith)),
  )

  -- the page of the byte is in the chunk
  byte_page : (h : Chunk) → IsIn h m.chunks → 1 ≤ in_chunk h → (is : IsInChunk m (byte / 4096)) × (is.chunk ≡ h.number)
  byte_page h there hit =
      let o = chunk_hit h hit in let is = object_hit h o.0 o.2 in let r = copy_page h o.0 is.1 ((fine.each h there).shaped o.0 o.1) is.3 in
      let page : h.base + is.1 + (byte / 4096 - (h.base + is.1)) ≡ byte / 4096 = (let a = r.0 in omega arith) in
      subst (λ x. (is : IsInChunk m x) × (is.chunk ≡ h.number)) page
      (group_page c m h.number h.base (h.base + is.1 + (byte / 4096 - (h.base + is.1))) (live_of h there) (unit_covered c h.base (byte / 4096 - (h.base + is.1)) is.0 is.1 units is.2 (let a = r.0 in let b = r.1 in omega arith)))

  same_number : (i j : ℕ) (h h' : Chunk) → slice_get m.chunks i ≡ Some h → slice_get m.chunks j ≡ Some h' → 1 ≤ in_chunk h → 1 ≤ in_chunk h' → i ≡ j
  same_number i j h h' e f hit hit' =
      let is = byte_page h (record { place = i; at = e }) hit in let is' = byte_page h' (record { place = j; at = f }) hit' in
      let same : h.number ≡ h'.number = sym is.1 ∙ number_once m (byte / 4096) (once (byte / 4096)) is.0 is'.0 ∙ is'.1 in
      let few = fine.once h.number in
      same_place (λ (x : Chunk). one_if (x.number == h.number)) m.chunks i j h h' (omega (arith, count_sum (λ (x : Chunk). x.number) h.number m.chunks)) e f
      (omega (arith, ap one_if (same_test h.number))) (omega (arith, ap one_if (ap (λ n. n == h.number) (sym same) ∙ same_test h.number)))

  -- no byte is in two copies
  pub copies_once : times byte (all_copies c m.chunks) ≤ 1
  copies_once = omega (
    arith,
    times_flat (λ (h : Chunk). flat_map (λ o. copies_of c (object_at h o)) h.objects) byte m.chunks,
    sum_once in_chunk m.chunks (λ i h e. chunk_once h (record { place = i; at = e })) (λ i j h h' less e f hit hit'. (let same : i ≡ j = same_number i j h h' e f hit hit' in omega arith)),
  )

pub objects_mapped : ObjectsAreMappedInEveryUnit
objects_mapped c opening calls w trace reached =
    let is = (trace_reached c opening calls trace w reached).1 in record {
      live = λ i j h o e f alive. (let there : IsIn h w.map.chunks = record { place = i; at = e } in
          let done = object_done c w is.chunks is.objects h o there (record { place = j; at = f }) (alive_free o.life alive) in record {
            populated = λ page g. get_or_from_slice_get h.populated page true false (done page g);
            mapped = populated_mapped c w is.chunks is.objects h there (pages_of_object (object_at h o)) done;
          });
      bits = λ i bit h e. (is.objects.fine.each h (record { place = i; at = e })).bits bit;
      copies = copies_once c trace.setup.units w.map (SomeonePlaces w) (λ page. (let o = is.area.once page in omega arith)) (λ h there. (is.chunks.chunks h there).live) is.objects.fine;
    }
  where
    alive_free : (life : Life) → is_live life ≡ true → is_in_hand life ≡ false
    alive_free (InHand k) e = cc
    alive_free (Lives serial) e = refl
    alive_free Ended e = refl

-- A history whose sections are all legal is one legal history.

-- a run of legal sections from one world to another
pub record IsRunTo (w v : World) : Type 0 where
  pub made : List Event
  pub run : IsRun w made
  pub ends : v ≡ world_after w made
  pub events : v.events ≡ w.events ++ made

pub run_append : (w : World) (xs ys : List Event) → IsRun w xs → IsRun (world_after w xs) ys → IsRun w (xs ++ ys)
run_append w [] ys p q = q
run_append w (x ∷ xs) ys p q = (p.0, run_append (after_event w x) xs ys p.1 q)

pub after_append : (w : World) (xs ys : List Event) → world_after w (xs ++ ys) ≡ world_after (world_after w xs) ys
after_append w [] ys = refl
after_append w (x ∷ xs) ys = after_append (after_event w x) xs ys

-- the section of a legal step as a run
run_one : (w : World) (k : ℕ) (l : Local) (s : Section) → l.caller ≡ k → IsLegalStep w k l s → IsRunTo w (made_by w l s)
run_one w k l s own step = grind arith

-- a fact that makes each section legal that the map gives
module _ (c : Setup) (calls : List (List Call)) (P : World → Type 0) (lasts : IsLegallyLasting c calls P)
    (legal_of : (w : World) (k : ℕ) (l : Local) (s : Section) → IsFramed c w → P w → IsStep w k l s → IsLegalStep w k l s) where
  -- where a run leads, with the fact there
  pub record IsLed (w v : World) : Type 0 where
    pub runs : IsRunTo w v
    pub framed : IsFramed c v
    pub kept : P v
    pub same : length v.locals ≡ length w.locals

  stays : (w : World) → IsFramed c w → P w → IsLed w w
  stays w framed kept = grind (arith, append-nil)

  led_then : (u v w : World) → IsLed u v → IsLed v w → IsLed u w
  led_then u v w a b = grind (arith, run_append, after_append, append_assoc)

  made_led : (w : World) (k : ℕ) (l : Local) (s : Section) → IsFramed c w → P w → IsStep w k l s → IsLed w (made_by w l s)
  made_led w k l s framed kept step = let legal = legal_of w k l s framed kept step in record {
    runs = run_one w k l s (framed.own k l step.here).caller legal;
    framed = framed_step c w k l s framed step;
    kept = lasts.steps w k l s framed kept legal;
    same = length-set w.locals l.caller (moved_to l (next l.setup l.place s));
  }

  pub step_led : (w : World) (k : ℕ) → IsFramed c w → P w → IsLed w (step w k)
  step_led w k framed kept = by_local (slice_get w.locals k) refl
    where
      by_section : (l : Local) → slice_get w.locals k ≡ Some l → (o : Option Section) → given l.setup w.map (ask l.setup l.place) ≡ o → IsLed w (made_if w l o)
      by_section l here None g = stays w framed kept
      by_section l here (Some s) g = made_led w k l s framed kept (record { here = here; gives = g })

      by_local : (o : Option Local) → slice_get w.locals k ≡ o → IsLed w (step_of w o)
      by_local None h = stays w framed kept
      by_local (Some l) h = by_section l h (given l.setup w.map (ask l.setup l.place)) refl

  pub picks_led : (picks : List ℕ) (w : World) → IsFramed c w → P w → IsLed w (pick_all w picks)
  picks_led [] w framed kept = stays w framed kept
  picks_led (k ∷ picks) w framed kept = let one = step_led w k framed kept in led_then w (step w k) (pick_all (step w k) picks) one (picks_led picks (step w k) one.framed one.kept)

  finish_by : (n : ℕ) (w : World) (o : Option ℕ) → first_mover w ≡ o → IsFramed c w → P w → ((v : World) → IsFramed c v → P v → IsLed v (finish n v)) → IsLed w (finish (suc n) w)
  finish_by n w None e framed kept again = subst (IsLed w) (sym (finish_none n w e)) (stays w framed kept)
  finish_by n w (Some k) e framed kept again = let one = step_led w k framed kept in
      subst (IsLed w) (sym (finish_some n w k e)) (led_then w (step w k) (finish n (step w k)) one (again (step w k) one.framed one.kept))

  pub finish_led : (n : ℕ) (w : World) → IsFramed c w → P w → IsLed w (finish n w)
  finish_led zero w framed kept = subst (IsLed w) (sym (finish_zero w)) (stays w framed kept)
  finish_led (suc n) w framed kept = finish_by n w (first_mover w) refl framed kept (finish_led n)

  module _ (opening : List Call) (trace : IsTrace c opening calls) (first : P (opening_world c opening calls)) where
    opened : IsLed (opening_world c opening calls) (finish most_events (opening_world c opening calls))
    opened = finish_led most_events (opening_world c opening calls) (framed_opening c opening calls) first

    opened_over : AllOver (finish most_events (opening_world c opening calls)).locals
    opened_over = every_run_ends c opening calls (opening_world c opening calls) trace (inl ([], tt, refl))

    -- the callers at their start
    started_led : IsFramed c (with_callers c calls (finish most_events (opening_world c opening calls))) × P (with_callers c calls (finish most_events (opening_world c opening calls)))
    started_led = (framed_callers c calls (finish most_events (opening_world c opening calls)) opened.same opened.framed, lasts.joins (finish most_events (opening_world c opening calls)) opened.framed opened.same opened.kept opened_over)

    same_start : with_callers c calls (finish most_events (opening_world c opening calls)) ≡ callers_world c opening calls opened.runs.made
    same_start = ap (with_callers c calls) opened.runs.ends

    module _ (picks : List ℕ) where
      picked : IsLed (with_callers c calls (finish most_events (opening_world c opening calls))) (pick_all (with_callers c calls (finish most_events (opening_world c opening calls))) picks)
      picked = picks_led picks (with_callers c calls (finish most_events (opening_world c opening calls))) started_led.0 started_led.1

      over_first : AllOver (world_after (opening_world c opening calls) opened.runs.made).locals
      over_first = subst (λ (v : World). AllOver v.locals) opened.runs.ends opened_over

      pub picked_reached : IsReached c opening calls (pick_all (with_callers c calls (finish most_events (opening_world c opening calls))) picks)
      picked_reached = grind (arith, opened, picked, over_first, same_start)

      whole : IsLed (with_callers c calls (finish most_events (opening_world c opening calls))) (finish most_events (pick_all (with_callers c calls (finish most_events (opening_world c opening calls))) picks))
      whole = led_then (with_callers c calls (finish most_events (opening_world c opening calls))) (pick_all (with_callers c calls (finish most_events (opening_world c opening calls))) picks) _ picked
          (finish_led most_events (pick_all (with_callers c calls (finish most_events (opening_world c opening calls))) picks) picked.framed picked.kept)

      pub record IsWhole (v : World) : Type 0 where
        pub before : List Event
        pub events : List Event
        pub all : v.events ≡ before ++ events
        pub legal : IsLegalHistory c opening calls before events
        pub led_to : v ≡ world_after (callers_world c opening calls before) events
        pub over : AllOver v.locals

      whole_is : IsWhole (finish most_events (pick_all (with_callers c calls (finish most_events (opening_world c opening calls))) picks))
      whole_is = record {
        before = opened.runs.made;
        events = whole.runs.made;
        all = whole.runs.events ∙ ap (λ l. l ++ whole.runs.made) opened.runs.events;
        legal = (opened.runs.run, over_first, subst (λ v. IsRun v whole.runs.made) same_start whole.runs.run);
        led_to = whole.runs.ends ∙ ap (λ v. world_after v whole.runs.made) same_start;
        over = every_run_ends c opening calls (pick_all (with_callers c calls (finish most_events (opening_world c opening calls))) picks) trace picked_reached;
      }

      history_is : history_of c opening calls picks ≡ finish most_events (pick_all (with_callers c calls (finish most_events (opening_world c opening calls))) picks)
      unfolding history_of
      history_is = refl

      pub one_legal : IsOneLegalHistory c opening calls picks
      one_legal = let is = subst IsWhole (sym history_is) whole_is in record { first = is.before; events = is.events; all = is.all; legal = is.legal; led_to = is.led_to; over = is.over }
