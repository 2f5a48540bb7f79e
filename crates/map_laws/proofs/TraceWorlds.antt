-- What is kept of objects, and of the numbers of new chunks, is kept by each legal section.
use Rattle.std.proofs.Common.{List, None, Some, [], arith, inl, inr, length, refl, slice_get, slice_set, subst, suc, sym, zero, ℕ, ◌<◌, ◌∙◌, ◌∷◌, ◌≡◌, ◌≢◌, ◌⊎◌, Bool, ap, false, map, sum_by, true, ◌+◌, ◌≤◌}
use Rattle.vm_model.specs.Calls.{Answered}
use Rattle.vm_model.specs.Chunks.{ObjectAt}
use Rattle.vm_model.specs.Effects.{effect_as}
use Rattle.vm_model.specs.Events.{Event, Section, Settle}
use Rattle.vm_model.specs.History.{Local, World, callers_from, moved_to, opening_answers, opening_world, started, with_callers, made_by}
use Rattle.vm_model.specs.Legal.{IsLegalAs}
use Rattle.vm_model.specs.LegalHistory.{Meets, IsReached}
use Rattle.vm_model.specs.Next.{Answer, Go, Next, next}
use Rattle.vm_model.specs.Places.{Place, ask, SettlingArea, SettlingBlock, SettlingGroups}
use Rattle.vm_model.specs.PlainMap.{InHand, PlainMap}
use Rattle.vm_model.specs.Setup.{Setup}
use Rattle.vm_model.specs.declared.calls.Call.{Call}
use Rattle.map_laws.proofs.areas.AreaWorlds.{IsKeptByLegal, moved_caller, IsAreaWorld, IsLegalStep, IsLegallyLasting, area_kept, legally_lasts, own_once, AreFramesClean, clean_first, clean_lasts}
use Rattle.map_laws.proofs.chunks.ChunkDispatch.{IsUnchunked, chunk_by}
use Rattle.map_laws.proofs.chunks.ChunkAdded.{IsNumberNext, chunk_number, number_after, number_alloc, same_or_alloc}
use Rattle.map_laws.proofs.chunks.ChunkWorlds.{alone, unchunked_begins, IsChunkWorld, OthersPopulate, chunk_first, chunk_joins, chunk_sided, chunk_step, chunks_here, none_populates}
use Rattle.map_laws.proofs.KeptThroughSteps.{there, SomeOther, Someone, other_or, others_still, someone_joins, IsFramed, has_call, not_over}
use Rattle.map_laws.proofs.objects.ObjectChanges.{same_fine}
use Rattle.map_laws.proofs.objects.ObjectFacts.{AreChunksFine, IsBeingPlaced, IsObject, IsObjectAt, next_placed}
use Rattle.map_laws.proofs.objects.ObjectMoves.{IsObjectMoved, Kills, unhanded_at, object_by}
use Rattle.map_laws.proofs.ProperPlaces.{HaveBeginnings, AtOver, OnNext, begins_with, moved_has, IsProper, all_joined, all_moved, all_started, none_started}
use Rattle.map_laws.specs.TwoTurns.{AreTurnsKept}
use Rattle.std.proofs.lemmas.List.Sums.{sum_by-append, sum_by-cons}
use Rattle.vm_model.specs.Areas.{areas_of, group_areas, group_kinds, spans_of}
use Rattle.vm_model.specs.Carried.{count_of}
use Rattle.vm_model.specs.Rules.{AreGroups, IsSetup, IsTrace}
use Rattle.vm_model.specs.Space.{span, times}
use Rattle.vm_model.specs.declared.areas.Area.{Area}
use Rattle.vm_model.specs.declared.areas.AreaKind.{AreaKind}
use Rattle.vm_model.specs.declared.areas.Span.{Span}
use Rattle.map_laws.proofs.areas.AreaFacts.{IsHolding, own_uses}
use Rattle.map_laws.proofs.areas.AreaMoves.{IsOutside}
use Rattle.map_laws.proofs.areas.AreaStarts.{area_first, area_joins, AreMadeWell, areas_after, asks_settle, made_section, no_settle}
use Rattle.map_laws.proofs.blocks.BlockWorlds.{IsChunkSided, IsRemovedPlain, block_by, IsBlockWorld, block_outside, block_step, unblocky_begins}
use Rattle.map_laws.proofs.blocks.BlockFacts.{IsBlockAt, block_out, block_starts}
use Rattle.map_laws.proofs.blocks.BlockPlaces.{HasParts, IsUnblocky, unblocky_at, unblocky_out}
use Rattle.map_laws.proofs.TestsAndFilters.{IsIn, sum_has}
use Rattle.map_laws.proofs.chunks.ChunkMoves.{IsChunkMoved}
use Rattle.map_laws.proofs.SizedCalls.{ruled_named}
use Rattle.map_laws.proofs.objects.ObjectsMade.{AreObjectsMade, made_first, made_joins, made_step}
use Rattle.map_laws.proofs.OutMoves.{with_in}
use Rattle.map_laws.proofs.Serials.{IsPlainWorld, plain_first, plain_joins, plain_step, removed_plain}
use Rattle.map_laws.proofs.TurnProofs.{AreTurnsProper, turns_first, turns_last}
use Rattle.map_laws.proofs.VmallocPlaces.{AreAligned, aligned_first, aligned_lasts}
use Rattle.vm_model.specs.declared.areas.AreaKind.TheVariants as kind

abbrev pub SomeonePlaces : World → (number off : ℕ) → Type 0
SomeonePlaces w number off = Someone (IsBeingPlaced number off) w

-- what is kept of all objects, of the object in each caller's hand, and of the number of its new chunk
pub record IsObjectWorld (c : Setup) (w : World) : Type 0 where
  pub fine : AreChunksFine c (SomeonePlaces w) w.map.chunks
  pub hands : (k : ℕ) (l : Local) → slice_get w.locals k ≡ Some l → IsObjectAt w.map l.caller l.place
  pub numbers : (k : ℕ) (l : Local) → slice_get w.locals k ≡ Some l → IsNumberNext w.map l.place

abbrev pub IsUnnumbered : Place → Type 0
IsUnnumbered p = chunk_number p ≡ None

unnumbered_begins : (c : Setup) → HaveBeginnings IsUnnumbered c
unnumbered_begins c p opens = grind arith

-- another caller's object outlives a section
hand_lives : (k j : ℕ) (s : Section) → j ≢ k → Kills k s (InHand j) → ⊥
hand_lives k j s apart e = grind arith

hand_stays : (m m' : PlainMap) (j : ℕ) (q : Place) → ((at : ObjectAt) → IsObject m.chunks at (InHand j) → IsObject m'.chunks at (InHand j)) → IsObjectAt m j q → IsObjectAt m' j q
hand_stays m m' j q keeps is = grind arith

-- the other callers that are placing objects
abbrev pub OthersPlace : World → ℕ → (number off : ℕ) → Type 0
OthersPlace w k number off = SomeOther (IsBeingPlaced number off) w k

module _ (c : Setup) (w : World) (k : ℕ) (l : Local) (here : slice_get w.locals k ≡ Some l) (kept : IsObjectWorld c w) where
  pub objects_here : AreChunksFine c (λ number off. OthersPlace w k number off ⊎ IsBeingPlaced number off l.place) w.map.chunks
  objects_here = same_fine c (SomeonePlaces w) _ w.map.chunks w.map.chunks refl (λ number off. other_or (IsBeingPlaced number off) w k l here) kept.fine

module _ (w : World) (l : Local) (s : Section) (kept : IsObjectWorld l.setup w) (turns : AreTurnsKept w) (here : slice_get w.locals l.caller ≡ Some l) (callers : (j : ℕ) (x : Local) → slice_get w.locals j ≡ Some x → x.caller ≡ j)
    (call : length l.answers < length l.calls) (meets : Meets l.setup (ask l.setup l.place) s) (legal : IsLegalAs l.setup w.map l.caller s) (moved : IsObjectMoved l.setup w.map l.caller (OthersPlace w l.caller) s (next l.setup l.place s)) where
  abbrev after_map : PlainMap
  after_map = (made_by w l s).map

  moved_placed : (n : Next) (number off : ℕ) → next_placed n number off → IsBeingPlaced number off (moved_to l n).place
  moved_placed n number off b = grind arith

  joined_placed : (number off : ℕ) → OthersPlace w l.caller number off ⊎ next_placed (next l.setup l.place s) number off → SomeonePlaces (made_by w l s) number off
  joined_placed number off b = others_still (IsBeingPlaced number off) w l.caller l here (moved_to l (next l.setup l.place s)) after_map (made_by w l s).events
      (elim b [ inl other ↦ inl other | inr own ↦ inr (moved_placed (next l.setup l.place s) number off own) ])

  other_hand : (j : ℕ) (x : Local) → slice_get w.locals j ≡ Some x → j ≢ l.caller → IsObjectAt after_map x.caller x.place
  other_hand j x there apart = hand_stays w.map after_map x.caller x.place
      (λ at is. moved.keeps at (InHand x.caller) is (hand_lives l.caller x.caller s (λ e. apart (sym (callers j x there) ∙ e)))) (kept.hands j x there)

  other_number : (j : ℕ) (x : Local) → slice_get w.locals j ≡ Some x → j ≢ l.caller → IsNumberNext after_map x.place
  other_number j x there apart number e = elim (same_or_alloc l.setup w.map l.caller l.place s meets) [
    | inl same ↦ kept.numbers j x there number e ∙ sym same
    | inr alloc ↦ absurd (let no = alone w l.caller l here turns j x there apart alloc in let yes = number_alloc x.place number e in cc)
  ]

  pub object_step : IsObjectWorld l.setup (made_by w l s)
  object_step = record {
    fine = same_fine l.setup _ (SomeonePlaces (made_by w l s)) after_map.chunks after_map.chunks refl joined_placed moved.fine;
    hands = all_moved (λ x. IsObjectAt after_map x.caller x.place) w.locals l.caller _ (grind (arith, moved_caller, moved_has, unchunked_begins)) other_hand;
    numbers = all_moved (λ x. IsNumberNext after_map x.place) w.locals l.caller _
        (moved_has (IsNumberNext after_map) l (λ p opens number f. (let none = unnumbered_begins l.setup p opens in cc)) call _ (number_after l.setup w.map l.caller l.place s meets legal (kept.numbers l.caller l here))) other_number;
  }

-- callers at their start have no object and no chunk
module _ (c : Setup) (m : PlainMap) (answers : List Answered) (k : ℕ) (own : List Call) where
  started_hand : IsObjectAt m k (started c answers k own).place
  started_hand = unhanded_at m k _ (begins_with IsUnchunked c (unchunked_begins c) answers [] (slice_get own 0))

  started_number : IsNumberNext m (started c answers k own).place
  started_number number f = let none = begins_with IsUnnumbered c (unnumbered_begins c) answers [] (slice_get own 0) in cc

pub object_joins : (c : Setup) (calls : List (List Call)) (w : World) → IsObjectWorld c w → IsObjectWorld c (with_callers c calls w)
object_joins c calls w is = record {
  fine = same_fine c (SomeonePlaces w) (SomeonePlaces (with_callers c calls w)) w.map.chunks w.map.chunks refl (λ number off. someone_joins (IsBeingPlaced number off) w (callers_from c (opening_answers w.locals) 1 calls)) is.fine;
  hands = all_joined (λ x. IsObjectAt w.map x.caller x.place) c calls w is.hands (started_hand c w.map (opening_answers w.locals));
  numbers = all_joined (λ x. IsNumberNext w.map x.place) c calls w is.numbers (started_number c w.map (opening_answers w.locals));
}

pub object_first : (c : Setup) (opening : List Call) (calls : List (List Call)) → IsObjectWorld c (opening_world c opening calls)
object_first c opening calls = record {
  fine = record { once = λ number. omega arith; each = λ h there. (let at = there.at in cc) };
  hands = all_started (λ x. IsObjectAt (opening_world c opening calls).map x.caller x.place) c [] 0 (opening ∷ []) (started_hand c (opening_world c opening calls).map []);
  numbers = all_started (λ x. IsNumberNext (opening_world c opening calls).map x.place) c [] 0 (opening ∷ []) (started_number c (opening_world c opening calls).map []);
}

-- What every reached world of a trace has, of areas, blocks, parts, chunks, objects and callers.
-- each area has pages

pub record AreFull (m : PlainMap) : Type 0 where
  pub each : (a : Area) → IsIn a m.areas → 1 ≤ a.span.pages

group_full : (k first chunk group base : ℕ) (groups : List Span) → ((i : ℕ) (g : Span) → slice_get groups i ≡ Some g → 1 ≤ g.pages) → (i : ℕ) (a : Area)
    → slice_get (areas_of k first (group_kinds chunk group (map (λ (g : Span). span (base + g.start) g.pages) groups))) i ≡ Some a → 1 ≤ a.span.pages
group_full k first chunk group base [] wide i a e = cc
group_full k first chunk group base (g ∷ groups) wide zero a e = let same : span (base + g.start) g.pages ≡ a.span = cc in subst (λ (x : Span). 1 ≤ x.pages) same (wide 0 g refl)
group_full k first chunk group base (g ∷ groups) wide (suc i) a e = group_full k (suc first) chunk (suc group) base groups (λ j x f. wide (suc j) x f) i a e

module _ (c : Setup) (m : PlainMap) (k : ℕ) (some : 1 ≤ c.block_pages) (groups : AreGroups c) where
  settled_full : (areas : List (Span × AreaKind)) (first : ℕ) (s : Section) → s ≡ Settle areas first → ((i : ℕ) (a : Area) → slice_get (areas_of k first areas) i ≡ Some a → 1 ≤ a.span.pages) → AreFull m → AreFull (effect_as c m k s)
  settled_full areas first s e wide is = subst (λ (x : Section). AreFull (effect_as c m k x)) (sym e) (record { each = λ a there. elim (with_in (areas_of k first areas) m.areas a there) [ inl new ↦ wide new.place a new.at | inr old ↦ is.each a old ] })

  one_full : (place : Span) (kd : AreaKind) (first : ℕ) → 1 ≤ place.pages → (i : ℕ) (a : Area) → slice_get (areas_of k first ((place, kd) ∷ [])) i ≡ Some a → 1 ≤ a.span.pages
  one_full place kd first wide i a h = grind arith

  full_by : (p : Place) (s : Section) (b : Bool) → asks_settle (ask c p) ≡ b → IsProper c p → Meets c (ask c p) s → AreFull m → AreFull (effect_as c m k s)
  full_by p s false e proper w full = record { each = λ a there. full.each a (areas_after c m k s (no_settle c (ask c p) s e w) a there) }
  full_by (SettlingArea place kd) s true e proper w full = settled_full ((place, kd) ∷ []) w.0 s w.1 (one_full place kd w.0 proper.1) full
  full_by (SettlingBlock place cpu pages) s true e proper w full = settled_full ((place, kind.Block cpu) ∷ []) w.0 s w.1 (one_full place (kind.Block cpu) w.0 (omega (arith, proper.0))) full
  full_by (SettlingGroups base chunk bytes align) s true e proper w full = settled_full (group_areas c chunk base) w.0 s w.1 (group_full k w.0 chunk 0 base c.groups groups.pages) full
  full_by _ s true e proper w full = cc

  pub full_after : (p : Place) (s : Section) → IsProper c p → Meets c (ask c p) s → AreFull m → AreFull (effect_as c m k s)
  full_after p s proper w full = full_by p s (asks_settle (ask c p)) refl proper w full

-- what every world has
pub record IsTraceWorld (c : Setup) (w : World) : Type 0 where
  pub turns : AreTurnsProper w
  pub area : IsAreaWorld w
  pub plain : IsPlainWorld w
  pub blocks : IsBlockWorld c w
  pub chunks : IsChunkWorld c w
  pub objects : IsObjectWorld c w
  pub uses : AreObjectsMade w
  pub made : AreMadeWell c w.map.areas
  pub clean : AreFramesClean w.map
  pub aligned : AreAligned w
  pub full : AreFull w.map

module _ (c : Setup) (w : World) (framed : IsFramed c w) (is : IsTraceWorld c w) (k : ℕ) (l : Local) (here : slice_get w.locals k ≡ Some l) where
  pub own_names : (start : ℕ) → count_of start (block_starts w.map.blocks) + count_of start (block_out l.place) ≤ 1
  own_names start = let all = is.blocks.named start in omega (arith, sum_has (λ (x : Local). count_of start (block_out x.place)) w.locals l k here)

  pub areas_once : (page : ℕ) → times page (spans_of w.map.areas) ≤ 1
  areas_once page = let o = is.area.once page in omega arith

  pub plain_here : IsRemovedPlain w.map l.place
  plain_here = grind (arith, removed_plain)

pub has_parts : (c : Setup) → IsSetup c → HasParts c
has_parts c setup = let high = setup.part_high in let most = setup.block_high in let low = setup.block_low in record { power = setup.part; fits = omega arith; small = omega arith; some = omega arith }

-- A section, over the numbers of the trace alone.
module _ (c : Setup) (setup : IsSetup c) (w : World) (framed : IsFramed c w) (is : IsTraceWorld c w) where
  module _ (k : ℕ) (l : Local) (here : slice_get w.locals k ≡ Some l) where
    pub sided_here : IsChunkSided c w.map l.place
    sided_here = chunk_sided c setup.units setup.groups w.map (areas_once c w framed is k l here) is.full.each (has_parts c setup).some (λ h there. (is.chunks.chunks h there).live) l.place (is.chunks.each k l here)

    pub proper_here : IsProper c l.place
    proper_here = subst (λ d. IsProper d l.place) (framed.own k l here).setup (is.turns.proper.each k l here)

    pub holding_here : IsHolding c w.map l.caller l.place
    holding_here = subst (λ d. IsHolding d w.map l.caller l.place) (framed.own k l here).setup (is.area.each k l here)

    pub once_here : (page : ℕ) → own_uses c w.map l.place page ≤ 1
    once_here = subst (λ d. (page : ℕ) → own_uses d w.map l.place page ≤ 1) (framed.own k l here).setup (own_once w k l is.area here)

-- what a legal section keeps over the setup and the number that its caller has, it keeps
pub by_caller : (P : Setup → World → Type 0) → ((w : World) (l : Local) (s : Section) → IsFramed l.setup w → P l.setup w → IsLegalStep w l.caller l s → P l.setup (made_by w l s)) → (c : Setup) → IsKeptByLegal c (P c)
by_caller P keeps c w k l s framed is step = grind arith

trace_step : (w : World) (l : Local) (s : Section) → IsSetup l.setup → IsFramed l.setup w → IsTraceWorld l.setup w → IsLegalStep w l.caller l s → IsTraceWorld l.setup (made_by w l s)
trace_step w l s setup framed is step =
    let here = step.step.here in let parts = has_parts l.setup setup in
    let proper = is.turns.proper.each l.caller l here in let holding = is.area.each l.caller l here in let block = is.blocks.each l.caller l here in
    let hand = is.objects.hands l.caller l here in let callers = (λ (j : ℕ) (x : Local) (h : slice_get w.locals j ≡ Some x). (framed.own j x h).caller) in
    let over = not_over l.setup w.map l.place s step.step.gives in let call = has_call l.setup l.caller l (framed.own l.caller l here) over in
    let once = areas_once l.setup w framed is l.caller l here in let names = own_names l.setup w framed is l.caller l here in
    let plain = plain_here l.setup w framed is l.caller l here in let sided = sided_here l.setup setup w framed is l.caller l here in
    let outside = block_outside l.setup w.map l.caller once is.blocks.blocks l.place sided plain block (λ start. (let n = names start in omega arith)) in
    let blocks = block_by l.setup w.map l.caller is.area.fine parts is.blocks.blocks l.place s sided proper holding plain (own_once w l.caller l is.area here) names block step.meets step.legal in
    let chunks = chunk_by l.setup setup.units w.map l.caller is.chunks.numbered once (OthersPopulate w l.caller) is.area.fine is.full.each parts.some is.blocks.blocks l.place s (none_populates w l.caller l here is.turns.turns)
    (chunks_here w l.caller l here is.turns.turns l.setup is.chunks) proper holding plain block (is.chunks.each l.caller l here) step.meets step.legal in
    let objects = object_by l.setup w.map l.caller is.chunks.numbered (λ h there. (is.chunks.chunks h there).long) (OthersPlace w l.caller) l.place s (objects_here l.setup w l.caller l here is.objects) proper hand chunks.own step.meets step.legal in
    record {
      turns = (turns_last l.setup []).steps w l.caller l s framed is.turns step.step;
      area = area_kept l.setup w l.caller l s framed is.area proper outside step;
      plain = plain_step l.setup w l.caller l s framed is.turns.proper is.plain step;
      blocks = block_step l.setup w l s is.blocks here callers call blocks refl (made_by w l s).map refl (made_by w l s).locals refl (made_by w l s).events;
      chunks = chunk_step w l s is.chunks is.turns.turns here call chunks;
      objects = object_step w l s is.objects is.turns.turns here callers call step.meets step.legal objects;
      uses = made_step l.setup w l s is.uses here call over step.meets step.legal (SomeonePlaces w) is.objects.fine hand objects.keeps (made_by w l s).events;
      made = made_section l.setup w.map l.caller l.place s proper step.meets is.made;
      clean = (clean_lasts l.setup []).steps w l.caller l s framed is.clean step;
      aligned = (aligned_lasts l.setup []).steps w l.caller l s framed is.aligned step.step;
      full = full_after l.setup w.map l.caller parts.some setup.groups l.place s proper step.meets is.full;
    }

module _ (c : Setup) (opening : List Call) (calls : List (List Call)) where
  -- callers at their start have no block
  callers_out : (start first : ℕ) (answers : List Answered) (more : List (List Call)) → sum_by (λ (x : Local). count_of start (block_out x.place)) (callers_from c answers first more) ≡ 0
  callers_out start first answers more = none_started (λ x. count_of start (block_out x.place)) c answers (λ i own. unblocky_out _ start (begins_with IsUnblocky c (unblocky_begins c) answers [] (slice_get own 0))) first more

  started_block : (m : PlainMap) (answers : List Answered) (k : ℕ) (own : List Call) → IsBlockAt c m k (started c answers k own).place
  started_block m answers k own = unblocky_at c m k _ (begins_with IsUnblocky c (unblocky_begins c) answers [] (slice_get own 0))

  block_joins : (w : World) → IsBlockWorld c w → IsBlockWorld c (with_callers c calls w)
  block_joins w is = record {
    blocks = is.blocks;
    named = λ start. (let before = is.named start in omega (arith, sum_by-append (λ (x : Local). count_of start (block_out x.place)) w.locals (callers_from c (opening_answers w.locals) 1 calls), callers_out start 1 (opening_answers w.locals) calls));
    each = all_joined (λ x. IsBlockAt c w.map x.caller x.place) c calls w is.each (started_block w.map (opening_answers w.locals));
  }

  block_first : IsBlockWorld c (opening_world c opening calls)
  block_first = record {
    blocks = λ b there. (let at = there.at in cc);
    named = λ start. omega (arith, callers_out start 0 [] (opening ∷ []));
    each = all_started (λ x. IsBlockAt c (opening_world c opening calls).map x.caller x.place) c [] 0 (opening ∷ []) (started_block (opening_world c opening calls).map []);
  }

  pub trace_lasts : IsTrace c opening calls → IsLegallyLasting c calls (IsTraceWorld c)
  trace_lasts trace = record {
    steps = λ w k l s framed is step. by_caller (λ d v. IsSetup d → IsTraceWorld d v) (λ w l s framed is step setup. trace_step w l s setup framed (is setup) step) c w k l s framed (λ setup. is) step trace.setup;
    joins = λ w framed one is over. record {
      turns = (turns_last c calls).joins w framed one is.turns over;
      area = area_joins c calls w is.area;
      plain = plain_joins c calls w is.plain;
      blocks = block_joins w is.blocks;
      chunks = chunk_joins c calls w is.chunks;
      objects = object_joins c calls w is.objects;
      uses = made_joins c opening calls (λ k own e. ruled_named c opening [] own (trace.callers_ruled k own e)) w one is.uses over;
      made = is.made;
      clean = is.clean;
      aligned = (aligned_lasts c calls).joins w framed one is.aligned over;
      full = is.full;
    };
  }

  pub trace_first : IsTrace c opening calls → IsTraceWorld c (opening_world c opening calls)
  trace_first trace = record {
    turns = turns_first c opening calls;
    area = area_first c opening calls;
    plain = plain_first c opening calls;
    blocks = block_first;
    chunks = chunk_first c opening calls;
    objects = object_first c opening calls;
    uses = made_first c opening calls (ruled_named c [] [] opening trace.opening_ruled);
    made = record { each = λ a there. (let at = there.at in cc) };
    clean = clean_first c opening calls;
    aligned = aligned_first c opening calls;
    full = record { each = λ a there. (let at = there.at in cc) };
  }

  pub trace_reached : IsTrace c opening calls → (w : World) → IsReached c opening calls w → IsFramed c w × IsTraceWorld c w
  trace_reached trace w reached = legally_lasts c calls (IsTraceWorld c) (trace_lasts trace) opening (trace_first trace) w reached
