-- What a section needs of chunks and objects holds at its place, so that every history is legal.
use Rattle.std.proofs.Common.{Bool, List, Some, [], ap, arith, false, inl, inr, refl, slice_get, subst, sym, true, ℕ, ◌+◌, ◌<◌, ◌==◌, ◌∙◌, ◌∷◌, ◌≡◌, ◌≤◌, ◌⊎◌}
use Rattle.std.proofs.lemmas.Option.{slice_get_within}
use Rattle.std.specs.List.{list_any}
use Rattle.vm_model.specs.Areas.{areas_at, spans_of}
use Rattle.vm_model.specs.Carried.{IsBeingPopulated, count_of, has_alloc}
use Rattle.vm_model.specs.Chunks.{ObjectAt, chunks_numbered, life_of_object, object_pages, pages_of_object, touches}
use Rattle.vm_model.specs.Events.{Section, Populate, Zero}
use Rattle.vm_model.specs.Frames.{pages_of_bytes}
use Rattle.vm_model.specs.Given.{given}
use Rattle.vm_model.specs.History.{Local, World, step}
use Rattle.vm_model.specs.Laws.{HistoriesAreLegal}
use Rattle.vm_model.specs.Legal.{AreStarts, CanFill, IsBare, IsLegalAs, IsMapped, IsUnmapped, OnPages}
use Rattle.vm_model.specs.Next.{next}
use Rattle.vm_model.specs.Places.{Adding, AddingChunk, Depopulating, Filling, NotingFilled, Place, Populating, SettlingAtomic, SettlingObject, Summing, UnlinkingGroups, Unplacing, Zeroing, ask, group_starts, SettlingGroups, Choosing, ChoosingAtomic, Sparing, NextFill}
use Rattle.vm_model.specs.PlainMap.{Chunk, InHand, Life, Lives, Object, is_in_hand}
use Rattle.vm_model.specs.Rules.{IsSetup}
use Rattle.vm_model.specs.Setup.{Setup, groups_at, pages_in_units}
use Rattle.vm_model.specs.Space.{covers, is_among, times}
use Rattle.vm_model.specs.declared.areas.Area.{Area}
use Rattle.vm_model.specs.declared.areas.Span.{Span}
use Rattle.map_laws.proofs.areas.AreaFacts.{IsHolding}
use Rattle.map_laws.proofs.areas.AreaWorlds.{IsLegalStep}
use Rattle.map_laws.proofs.blocks.BlockFacts.{IsBlockAt, among_count, block_out, block_starts, same_test, to_same}
use Rattle.map_laws.proofs.blocks.BlockWorlds.{only_one}
use Rattle.map_laws.proofs.TestsAndFilters.{IsIn, filter_has, filter_in, in_more, not_true}
use Rattle.map_laws.proofs.PlaceRows.{place_row}
use Rattle.map_laws.proofs.chunks.ChunkFacts.{AreGroupsLive, IsChunkAt, IsOpenPage, start_of, unit_covered, unit_page}
use Rattle.map_laws.proofs.chunks.ChunkAdded.{IsNumberNext}
use Rattle.map_laws.proofs.chunks.ChunkWorlds.{alone, chunks_here, none_populates}
use Rattle.map_laws.proofs.KeptThroughSteps.{IsFramed, IsStep, there}
use Rattle.map_laws.proofs.GivenMeets.{given_meets}
use Rattle.map_laws.proofs.MapLaws.{one_legal, object_done, populated_mapped}
use Rattle.map_laws.proofs.SizedCalls.{IsNamedObject, IsNow}
use Rattle.map_laws.proofs.MapLegal.{IsReady, legal_section, one_at}
use Rattle.map_laws.proofs.Namings.{starts_once}
use Rattle.map_laws.proofs.objects.ObjectFacts.{AreChunksFine, IsBeingPlaced, IsObject, IsObjectAt, object_life, same_chunk}
use Rattle.map_laws.proofs.TraceWorlds.{OthersPlace, SomeonePlaces, objects_here, IsTraceWorld, areas_once, holding_here, own_names, proper_here, trace_first, trace_lasts}
use Rattle.map_laws.proofs.objects.ObjectsMade.{made_some}
use Rattle.map_laws.proofs.StepFalls.{has_room}
use Rattle.vm_model.specs.declared.areas.AreaKind.TheVariants as kind
use Rattle.vm_model.specs.Told.{had_frames}
use Rattle.vm_model.specs.LegalHistory.{Meets}
use Rattle.map_laws.proofs.ProperPlaces.{OnNext, either_next}

first_in : {X : Type 0} (x : X) (xs : List X) → IsIn x xs → (y : X) × (slice_get xs 0 ≡ Some y)
first_in x [] there = (let at = there.at in cc)
first_in x (y ∷ xs) there = (y, refl)

any_in : (test : Object → Bool) (xs : List Object) → list_any test xs ≡ true → (o : Object) × IsIn o xs × (test o ≡ true)
any_in test [] e = cc
any_in test (x ∷ xs) e = grind (arith, any_in test xs, in_more)

placed_alloc : (p : Place) (number off : ℕ) → IsBeingPlaced number off p → has_alloc p ≡ true
placed_alloc p number off b = grind arith

module _ (c : Setup) (setup : IsSetup c) (w : World) (framed : IsFramed c w) (is : IsTraceWorld c w) (k : ℕ) (l : Local) (here : slice_get w.locals k ≡ Some l) where
  once_page : (page : ℕ) → times page (spans_of w.map.areas) ≤ 1
  once_page = areas_once c w framed is k l here

  -- a page that isn't populated gets frames only from the caller with the alloc turn
  open_bare : has_alloc l.place ≡ true → ((number page : ℕ) → IsBeingPopulated number page l.place → ⊥) → (h : Chunk) → IsIn h w.map.chunks → (pages : List ℕ) → ((page : ℕ) → is_among pages page ≡ true → slice_get h.populated page ≡ Some false)
      → OnPages (pages_in_units c h.base pages) (IsBare w.map)
  open_bare alloc idle h there pages lacks x e =
      let fine = chunks_here w k l here is.turns.turns c is.chunks h there in
      let u = unit_page c h.base x pages e in let lack = lacks u.page u.among in
      let low : u.page < c.unit_pages = (let n = slice_get_within h.populated u.page false lack in omega (arith, fine.long)) in
      let none : IsUnmapped w.map x = elim (fine.spare u.page lack) [
        | inl bare ↦ subst (IsUnmapped w.map) (sym u.same) (bare u.cpu u.unit u.at)
        | inr b ↦ absurd (elim b [ inl other ↦ none_populates w k l here is.turns.turns alloc h.number u.page other | inr mine ↦ idle h.number u.page mine ])
      ] in
      record { unmapped = none; not_stale = fine.clean x (ap (covers (groups_at c h.base)) u.same ∙ unit_covered c h.base u.page u.cpu u.unit setup.units u.at low) }

  life_is : (at : ObjectAt) (life : Life) → IsObject w.map.chunks at life → life_of_object at w.map.chunks ≡ Some life
  life_is at life object = object_life c (SomeonePlaces w) w.map.chunks is.objects.fine at life object

  -- the pages of an object are mapped where they are populated
  object_mapped : (at : ObjectAt) (life : Life) (object : IsObject w.map.chunks at life) → ((page : ℕ) → is_among (pages_of_object at) page ≡ true → slice_get object.chunk.populated page ≡ Some true) → OnPages (object_pages c at) (IsMapped w.map)
  object_mapped at life object done = subst (λ b. OnPages (pages_in_units c b (pages_of_object at)) (IsMapped w.map)) object.based (populated_mapped c w is.chunks is.objects object.chunk object.there (pages_of_object at) done)

  live_ready : (at : ObjectAt) (serial : ℕ) → IsObject w.map.chunks at (Lives serial) → (life_of_object at w.map.chunks ≡ Some (Lives serial)) × OnPages (object_pages c at) (IsMapped w.map)
  live_ready at serial object = (
    life_is at (Lives serial) object,
    object_mapped at (Lives serial) object (λ page e. object_done c w is.chunks is.objects object.chunk object.object object.there object.object_there (ap is_in_hand object.lives) page
        (ap (λ n. is_among (pages_of_bytes n object.object.bytes) page) object.off ∙ ap (λ n. is_among (pages_of_bytes at.off n) page) object.bytes ∙ e)),
  )

  pub named_live : (at : ObjectAt) (serial : ℕ) → IsNamedObject l at serial → IsObject w.map.chunks at (Lives serial)
  named_live at serial now = grind (arith, made_some)

  -- no object has a byte in a page that isn't populated, while nobody is placing one
  untouched_page : has_alloc l.place ≡ true → ((number off : ℕ) → IsBeingPlaced number off l.place → ⊥) → (h : Chunk) → IsIn h w.map.chunks → (page : ℕ) → slice_get h.populated page ≡ Some false → list_any (touches page) h.objects ≡ false
  untouched_page alloc idle h there page lack = not_true (list_any (touches page) h.objects) (λ e. (
      let o = any_in (touches page) h.objects e in elim (((objects_here c w k l here is.objects).each h there).settled o.0 o.1) [
        | inl done ↦ (let yes = done page o.2 in cc)
        | inr b ↦ elim b [
          | inl other ↦ (let no = alone w k l here is.turns.turns other.0 other.1 other.2 other.3 alloc in let yes = placed_alloc other.1.place h.number o.0.off other.4 in cc)
          | inr mine ↦ idle h.number o.0.off mine
        ]
      ]))

  can_fill : has_alloc l.place ≡ true → ((number off : ℕ) → IsBeingPlaced number off l.place → ⊥) → (number base page : ℕ) → IsOpenPage c w.map number base page → CanFill w.map number page
  can_fill alloc idle number base page at =
      let kept = filter_in (λ (h : Chunk). h.number == number) w.map.chunks at.of.chunk at.of.there.place at.of.there.at (ap (λ n. n == number) at.of.numbered ∙ same_test number) in
      let first = first_in at.of.chunk (chunks_numbered number w.map.chunks) kept in
      let was = filter_has (λ (h : Chunk). h.number == number) w.map.chunks 0 first.0 first.1 in
      let one = same_chunk w.map.chunks first.0 at.of.chunk is.objects.fine.once was.there at.of.there (to_same first.0.number number was.passes ∙ sym at.of.numbered) in
      (at.of.chunk, first.1 ∙ ap (λ h. Some h) one, at.unpopulated, untouched_page alloc idle at.of.chunk at.of.there page at.unpopulated)

  group_at : (number base group : ℕ) (g : Span) → AreGroupsLive c w.map number base → slice_get c.groups group ≡ Some g → (a : Area) × (areas_at (base + g.start) w.map.areas ≡ a ∷ []) × (a.span.pages ≡ g.pages) × (a.kind ≡ kind.Chunk number group)
  group_at number base group g live e = let area = live group g e in (
    area.area,
    one_at c w.map k once_page is.full (base + g.start) area.area area.there (ap (λ (x : Span). x.start) area.span) (areas_at (base + g.start) w.map.areas) refl,
    ap (λ (x : Span). x.pages) area.span,
    area.kind,
  )

  starts_ready : (number base : ℕ) → AreGroupsLive c w.map number base → AreStarts w.map (group_starts c base)
  starts_ready number base live start h =
      let s = start_of c base start h in let area = group_at number base s.0 s.1 live s.2 in
      ((let few = starts_once c setup.groups base start in let some = among_count start (group_starts c base) h in omega arith), (area.0, subst (λ n. areas_at n w.map.areas ≡ area.0 ∷ []) s.3 area.1))

  ready_by : (p : Place) → l.place ≡ p → IsChunkAt c w.map p → IsObjectAt w.map k p → IsNumberNext w.map p → IsNow l p → IsReady c w.map k p
  ready_by (Zeroing object) e chunk hand next now = (life_is object (InHand k) hand, object_mapped object (InHand k) hand (λ page f. chunk.populated hand.chunk hand.there hand.numbered page f))
  ready_by (Depopulating base populated) e chunk hand next now = λ x f. (let u = unit_page c base x populated f in subst (IsMapped w.map) (sym u.same) ((chunk.2 u.page u.among).1 u.cpu u.unit u.at))
  ready_by (NotingFilled number page filled) e chunk hand next now = can_fill (ap has_alloc e) (λ i off b. subst (IsBeingPlaced i off) e b) number chunk.0 page chunk.1
  ready_by _ e chunk hand next now = first_of (search, search life_is, search (live_ready, named_live), search (group_at, arith), search starts_ready, grind (arith, open_bare))

  pub ready_here : IsReady c w.map k l.place
  ready_here = ready_by l.place refl (is.chunks.each k l here) (subst (λ i. IsObjectAt w.map i l.place) (framed.own k l here).caller (is.objects.hands k l here)) (is.objects.numbers k l here) (is.uses.now k l here)

pub trace_legal : (c : Setup) (setup : IsSetup c) (w : World) (k : ℕ) (l : Local) (s : Section) → IsFramed c w → IsTraceWorld c w → IsStep w k l s → IsLegalStep w k l s
trace_legal c setup w k l s framed is step =
    let own = framed.own k l step.here in
    let named : (start : ℕ) → count_of start (block_starts w.map.blocks) + count_of start (block_out l.place) ≤ 1 = own_names c w framed is k l step.here in
    let gives : given c w.map (ask c l.place) ≡ Some s = subst (λ d. given d w.map (ask d l.place) ≡ Some s) own.setup step.gives in
    let holding : IsHolding c w.map k l.place = subst (λ i. IsHolding c w.map i l.place) own.caller (holding_here c setup w framed is k l step.here) in
    let legal : IsLegalAs c w.map k s = legal_section c w.map k (areas_once c w framed is k l step.here) is.full is.blocks.blocks (λ start. (let n = named start in omega arith)) setup.unit_low l.place s (ready_here c setup w framed is k l step.here)
    (proper_here c setup w framed is k l step.here) holding (subst (λ i. IsBlockAt c w.map i l.place) own.caller (is.blocks.each k l step.here)) (λ start. (let n = named start in omega arith))
    (λ has. is.turns.turns.purge.mine k l step.here has) (λ has. is.turns.turns.alloc.mine k l step.here has) gives in record {
      step = step;
      meets = given_meets l.setup w.map s (ask l.setup l.place) (has_room l.setup w.map l.place (subst (λ d. 8 ≤ d.unit_pages) (sym own.setup) setup.unit_low) (is.turns.proper.each k l step.here)) step.gives;
      legal = subst (λ d. IsLegalAs d w.map k s) (sym own.setup) legal;
    }

pub histories_legal : HistoriesAreLegal
histories_legal c opening calls picks trace = one_legal c calls (IsTraceWorld c) (trace_lasts c opening calls trace) (trace_legal c trace.setup) opening trace (trace_first c opening calls trace) picks

-- An object whose caller is about to settle it was just zeroed.

-- the object that a caller is about to settle
abbrev pub IsZeroedAt : Place → ObjectAt → Type 0
IsZeroedAt (SettlingObject own) at = own ≡ at
IsZeroedAt (SettlingAtomic own) at = own ≡ at
IsZeroedAt _ at = ⊥

-- the section that zeroed it
pub data Zeroes (at : ObjectAt) : Section → Type 0 where
  Populated : (missing : List ℕ) → Zeroes at (Populate at missing)
  Zeroed : Zeroes at (Zero at)

abbrev pub IsJustZeroed : Section → Place → Type 0
IsJustZeroed s p = (at : ObjectAt) → IsZeroedAt p at → Zeroes at s

module _ (c : Setup) where
  populate_zeroed : (own : ObjectAt) (missing : List ℕ) (s : Section) → Meets c (ask c (Populating own missing)) s → OnNext (IsJustZeroed s) (next c (Populating own missing) s)
  populate_zeroed own missing s (inl w) = subst (λ x. OnNext (IsJustZeroed x) (next c (Populating own missing) x)) (sym w) (λ at is. subst (λ x. Zeroes x (Populate own missing)) is (Populated missing))
  populate_zeroed own missing s (inr w) = subst (λ x. OnNext (IsJustZeroed x) (next c (Populating own missing) x)) (sym w) (λ at is. absurd is)

  zero_zeroed : (own : ObjectAt) (s : Section) → Meets c (ask c (Zeroing own)) s → OnNext (IsJustZeroed s) (next c (Zeroing own) s)
  zero_zeroed own s w = subst (λ x. OnNext (IsJustZeroed x) (next c (Zeroing own) x)) (sym w) (λ at is. subst (λ x. Zeroes x (Zero own)) is Zeroed)

  pub zeroed_next : (p : Place) (s : Section) → Meets c (ask c p) s → OnNext (IsJustZeroed s) (next c p s)
  zeroed_next p s w = grind (arith, populate_zeroed, zero_zeroed)
