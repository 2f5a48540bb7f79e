-- What is kept of chunks is kept by each legal section, and gives what areas and blocks need of chunks.
-- What a place's chunk says to areas and blocks.
use Rattle.std.proofs.Common.{List, Some, [], false, inl, inr, length, refl, slice_get, slice_set, subst, suc, sym, true, zero, ℕ, ◌+◌, ◌<◌, ◌∷◌, ◌≡◌, ◌≢◌, ◌≤◌, ◌⊎◌, arith}
use Rattle.vm_model.specs.Areas.{spans_of}
use Rattle.vm_model.specs.Calls.{Answered}
use Rattle.vm_model.specs.Carried.{IsBeingPopulated, SomeoneIsPopulating, has_alloc}
use Rattle.vm_model.specs.Effects.{effect_as}
use Rattle.vm_model.specs.Events.{Event, Section}
use Rattle.vm_model.specs.History.{Local, World, callers_from, made_by, moved_to, opening_answers, opening_world, started, with_callers}
use Rattle.vm_model.specs.Legal.{OnPages}
use Rattle.vm_model.specs.Next.{Answer, Go, Next, next}
use Rattle.vm_model.specs.Places.{Depopulating, Filling, Finding, FindingAgain, Place, Populating, UnlinkingGroups}
use Rattle.vm_model.specs.PlainMap.{Chunk, PlainMap}
use Rattle.vm_model.specs.Rules.{AreGroups, AreUnits}
use Rattle.vm_model.specs.Setup.{Setup, pages_in_units}
use Rattle.vm_model.specs.Space.{is_among, times}
use Rattle.vm_model.specs.declared.areas.Area.{Area}
use Rattle.vm_model.specs.declared.calls.Call.{Call}
use Rattle.map_laws.proofs.blocks.BlockWorlds.{IsChunkSided, only_one}
use Rattle.map_laws.proofs.blocks.BlockPlaces.{IsInChunk}
use Rattle.map_laws.proofs.TestsAndFilters.{IsIn}
use Rattle.map_laws.proofs.chunks.ChunkFacts.{AreGroupsLive, IsChunkAt, IsChunkFine, IsChunkOf, group_page, unit_covered, unit_page}
use Rattle.map_laws.proofs.chunks.ChunkDispatch.{groups_no_block, groups_unlinked, IsUnchunked, unchunked_at}
use Rattle.map_laws.proofs.chunks.ChunkMoves.{IsChunkMoved, next_busy, groups_free}
use Rattle.map_laws.proofs.chunks.ChunkRows.{AreNumbered}
use Rattle.map_laws.proofs.KeptThroughSteps.{there, SomeOther, other_or, others_still, someone_joins}
use Rattle.map_laws.proofs.ProperPlaces.{HaveBeginnings, AtOver, begins_with, moved_has, all_joined, all_moved, all_started}
use Rattle.map_laws.specs.TwoTurns.{AreTurnsKept}

module _ (c : Setup) (units : AreUnits c) (groups : AreGroups c) (m : PlainMap) (once : (page : ℕ) → times page (spans_of m.areas) ≤ 1) (full : (a : Area) → IsIn a m.areas → 1 ≤ a.span.pages) (some : 1 ≤ c.block_pages)
    (live_of : (h : Chunk) → IsIn h m.chunks → AreGroupsLive c m h.number h.base) where
  in_units : (chunk base : ℕ) (pages : List ℕ) → AreGroupsLive c m chunk base → ((page : ℕ) → is_among pages page ≡ true → page < c.unit_pages) → OnPages (pages_in_units c base pages) (IsInChunk m)
  in_units chunk base pages live low x h = let u = unit_page c base x pages h in
      subst (IsInChunk m) (sym u.same) (group_page c m chunk base (base + u.unit + u.page) live (unit_covered c base u.page u.cpu u.unit units u.at (low u.page u.among))).0

  live_at : (number base : ℕ) (of : IsChunkOf m number base) → AreGroupsLive c m of.chunk.number base
  live_at number base of = subst (AreGroupsLive c m of.chunk.number) of.based (live_of of.chunk of.there)

  pub chunk_sided : (p : Place) → IsChunkAt c m p → IsChunkSided c m p
  chunk_sided (Finding search aim) at = grind (arith, groups_free)
  chunk_sided (FindingAgain search aim) at = grind (arith, groups_free)
  chunk_sided (Populating object missing) at = in_units at.here.chunk.number object.base missing (live_at object.chunk object.base at.here) (λ page h. at.low page (at.within page h))
  chunk_sided (Filling chunk base page filled) at = in_units at.of.chunk.number base (page ∷ []) (live_at chunk base at.of) (λ own h. subst (λ i. i < c.unit_pages) (only_one page own h) at.low)
  chunk_sided (Depopulating base populated) at = in_units at.0 base populated at.1.live (λ page h. (at.2 page h).0)
  chunk_sided (UnlinkingGroups base) at = ((λ a cpu there e. groups_no_block c m 0 once full some base at.0 at.1.live a cpu there e), groups_unlinked c m once groups at.0 base at.1.live at.2)
  chunk_sided _ at = tt

-- what is kept of all chunks, and of the chunk at each caller's place
pub record IsChunkWorld (c : Setup) (w : World) : Type 0 where
  pub chunks : (h : Chunk) → IsIn h w.map.chunks → IsChunkFine c w.map (SomeoneIsPopulating w) h
  pub numbered : AreNumbered w.map
  pub each : (k : ℕ) (l : Local) → slice_get w.locals k ≡ Some l → IsChunkAt c w.map l.place

-- a chunk is fine where more of its pages may be being populated
busier : (c : Setup) (m : PlainMap) (busy busy' : ℕ → ℕ → Type 0) (h : Chunk) → ((page : ℕ) → busy h.number page → busy' h.number page) → IsChunkFine c m busy h → IsChunkFine c m busy' h
busier c m busy busy' h more is = grind arith

-- who is populating has the alloc turn
busy_alloc : (p : Place) (number page : ℕ) → IsBeingPopulated number page p → has_alloc p ≡ true
busy_alloc p number page b = grind arith

pub unchunked_begins : (c : Setup) → HaveBeginnings IsUnchunked c
unchunked_begins c p opens = grind arith

-- the other callers that are populating
abbrev pub OthersPopulate : World → ℕ → (number page : ℕ) → Type 0
OthersPopulate w k number page = SomeOther (IsBeingPopulated number page) w k

module _ (w : World) (k : ℕ) (l : Local) (here : slice_get w.locals k ≡ Some l) (turns : AreTurnsKept w) where
  -- while a caller has the alloc turn, no other one has it
  pub alone : (j : ℕ) (x : Local) → slice_get w.locals j ≡ Some x → j ≢ k → has_alloc l.place ≡ true → has_alloc x.place ≡ false
  alone j x there apart mine = grind (arith, there)

  pub none_populates : has_alloc l.place ≡ true → (number page : ℕ) → OthersPopulate w k number page → ⊥
  none_populates mine number page is = let no = alone is.0 is.1 is.2 is.3 mine in let yes = busy_alloc is.1.place number page is.4 in cc

  pub chunks_here : (c : Setup) → IsChunkWorld c w → (h : Chunk) → IsIn h w.map.chunks → IsChunkFine c w.map (λ number page. OthersPopulate w k number page ⊎ IsBeingPopulated number page l.place) h
  chunks_here c kept h there = busier c w.map _ _ h (λ page b. other_or (IsBeingPopulated h.number page) w k l here b) (kept.chunks h there)

module _ (w : World) (l : Local) (s : Section) (kept : IsChunkWorld l.setup w) (turns : AreTurnsKept w) (here : slice_get w.locals l.caller ≡ Some l) (call : length l.answers < length l.calls)
    (moved : IsChunkMoved l.setup w.map l.caller (OthersPopulate w l.caller) l.place s (next l.setup l.place s)) where
  moved_busy : (n : Next) (number page : ℕ) → next_busy n number page → IsBeingPopulated number page (moved_to l n).place
  moved_busy n number page b = grind arith

  joined_busy : (number page : ℕ) → OthersPopulate w l.caller number page ⊎ next_busy (next l.setup l.place s) number page → SomeoneIsPopulating (made_by w l s) number page
  joined_busy number page b = others_still (IsBeingPopulated number page) w l.caller l here (moved_to l (next l.setup l.place s)) (made_by w l s).map (made_by w l s).events
      (elim b [ inl other ↦ inl other | inr own ↦ inr (moved_busy (next l.setup l.place s) number page own) ])

  pub chunk_step : IsChunkWorld l.setup (made_by w l s)
  chunk_step = record {
    chunks = λ h there. busier l.setup (made_by w l s).map _ _ h (joined_busy h.number) (moved.chunks h there);
    numbered = moved.numbered;
    each = all_moved (λ x. IsChunkAt l.setup (made_by w l s).map x.place) w.locals l.caller _ (moved_has (IsChunkAt l.setup (made_by w l s).map) l (λ p opens. unchunked_at l.setup (made_by w l s).map p (unchunked_begins l.setup p opens)) call _ moved.own)
        (λ j x at apart. moved.others x.place (alone w l.caller l here turns j x at apart) (kept.each j x at));
  }

-- callers at their start have no chunk
started_chunk : (c : Setup) (m : PlainMap) (answers : List Answered) (k : ℕ) (own : List Call) → IsChunkAt c m (started c answers k own).place
started_chunk c m answers k own = unchunked_at c m _ (begins_with IsUnchunked c (unchunked_begins c) answers [] (slice_get own 0))

pub chunk_joins : (c : Setup) (calls : List (List Call)) (w : World) → IsChunkWorld c w → IsChunkWorld c (with_callers c calls w)
chunk_joins c calls w is = record {
  chunks = λ h there. busier c w.map _ _ h (λ page b. someone_joins (IsBeingPopulated h.number page) w (callers_from c (opening_answers w.locals) 1 calls) b) (is.chunks h there);
  numbered = is.numbered;
  each = all_joined (λ x. IsChunkAt c w.map x.place) c calls w is.each (started_chunk c w.map (opening_answers w.locals));
}

pub chunk_first : (c : Setup) (opening : List Call) (calls : List (List Call)) → IsChunkWorld c (opening_world c opening calls)
chunk_first c opening calls = record {
  chunks = λ h there. (let at = there.at in cc);
  numbered = record { low = λ h there. (let at = there.at in cc); same = λ h h' there there' e. (let at = there.at in cc) };
  each = all_started (λ x. IsChunkAt c (opening_world c opening calls).map x.place) c [] 0 (opening ∷ []) (started_chunk c (opening_world c opening calls).map []);
}
