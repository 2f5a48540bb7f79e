-- What a place carries of its own: an alignment that the desk accepted, pages that each stand once, and spans that have pages.
use Rattle.std.proofs.Common.{◌≡◌, ℕ, zero, suc, ◌+◌, ◌-◌, ◌*◌, ◌/◌, ◌^◌, ◌<◌, ◌≤◌, ◌==◌, max, nat_le, cond, ℤ, inl, inr, Bool, true, false, not, List, [], ◌∷◌, ◌++◌, length, filter, slice_get, Option, Some, None, refl, ap, sym, subst, arith}
use Rattle.std.specs.List.{list_any}
use Rattle.vm_model.specs.declared.areas.Span.{Span}
use Rattle.vm_model.specs.declared.areas.Area.{Area}
use Rattle.vm_model.specs.declared.calls.Call.{Call}
use Rattle.vm_model.specs.declared.calls.Call.TheVariants.{Vmalloc, Vfree, MapRam, UnmapRam, UnmapAliases, AllocPercpu, AllocAtomic, FreePercpu, Add, Sum, Balance}
use Rattle.vm_model.specs.Space.{span, count_from}
use Rattle.vm_model.specs.Setup.{Setup, groups_at}
use Rattle.vm_model.specs.PlainMap.{PlainMap, Chunk}
use Rattle.vm_model.specs.Carried.{count_of}
use Rattle.vm_model.specs.Chunks.{ObjectAt, placement, plain_fit, new_chunk, spare_chunk, is_populated, pages_of_object}
use Rattle.vm_model.specs.Events.{Section}
use Rattle.vm_model.specs.Told.{removed, placed, next_number, spare_told}
use Rattle.vm_model.specs.Given.{given, removal, placing, placing_new, sparing}
use Rattle.vm_model.specs.Places.{Made, MadeNothing, MadeArea, MadePart, MadeObject, Aim, ForArea, ForBlock, ForChunk, Then, SearchAgain, ReplyWith, SpareAgain, Place, Finding, FindingAgain, Removing, UnmappingArea, Waiting, PurgeTaking, PurgeFragmenting, PurgeUnlinking, PurgeWaiting, PurgeCollecting, PurgeFlushing, PurgeReturning, PurgeGiving, TakingAlloc, Choosing, SettlingGroups, AddingChunk, Populating, ChoosingAtomic, Sparing, Depopulating, ask}
use Rattle.vm_model.specs.Next.{Next, Go, Answer, next, after_remove, after_place, after_spare}
use Rattle.vm_model.specs.Calls.{Answered, begin, begin_call, begin_alloc, begin_free_area, begin_unmap_ram, begin_free_percpu, begin_add, begin_sum, target_of, was_freed, answers_in, words_for, is_bad_object_size, is_bad_object_align, is_bad_vmalloc_size, is_bad_vmalloc_align, is_bad_map_size, is_power_to}
use Rattle.vm_model.specs.History.{World, Local, started, moved_to, opening_world, opening_answers, callers_from}
use Rattle.vm_model.specs.LegalHistory.{IsReached}
use Rattle.vm_model.specs.Areas.{is_area, named_areas}
use Rattle.vm_model.specs.Rules.{IsPower, IsTrace, AreGroups}
use Rattle.map_laws.proofs.PlaceRows.{PlaceRow, UnmappedArea, UnlinkedBlock, UnlinkedGroups, WaitedTooMuch, WaitedSearch, place_row}
use Rattle.map_laws.proofs.areas.AreaWorlds.{IsLegalStep, IsLegallyLasting, legally_lasts}
use Rattle.map_laws.proofs.KeptThroughSteps.{IsFramed, not_over, has_call, set_cases, append_cases}
use Rattle.map_laws.proofs.chunks.ChunkFalls.{mapped_at}
use Rattle.map_laws.proofs.TraceWorlds.{AreFull, IsTraceWorld, trace_first, trace_lasts}
use Rattle.map_laws.proofs.blocks.BlockFacts.{to_same}
use Rattle.map_laws.proofs.TestsAndFilters.{filter_has, sum_by-filter-le, or_either}
use Rattle.map_laws.proofs.chunks.ChunkRows.{placement_is}
use Rattle.map_laws.proofs.ProperPlaces.{OnNext, either_place, answers_call}
use Rattle.std.proofs.lemmas.Option.{same_Some}
use Rattle.std.proofs.Math.Nat.{pow-le-pow_right}
use Rattle.section_laws.proofs.PagesStandOnce.{row_once}

-- an alignment of 4 to 4,096 bytes
pub record IsObjectAlign (align : ℕ) : Type 0 where
  pub power : IsPower align
  pub low : 4 ≤ align
  pub high : align ≤ 4096

abbrev pub AreOnce : List ℕ → Type 0
AreOnce pages = (page : ℕ) → count_of page pages ≤ 1

abbrev pub AreFullSpans : List Span → Type 0
AreFullSpans spans = (i : ℕ) (s : Span) → slice_get spans i ≡ Some s → 1 ≤ s.pages

abbrev IsListedAim : Aim → Type 0
IsListedAim (ForArea k) = Unit {0}
IsListedAim (ForBlock cpu pages) = Unit {0}
IsListedAim (ForChunk chunk bytes align) = IsObjectAlign align

abbrev IsListedThen : Then → Type 0
IsListedThen (SearchAgain search aim) = IsListedAim aim
IsListedThen (ReplyWith reply) = Unit {0}
IsListedThen SpareAgain = Unit {0}

abbrev pub IsListed : Place → Type 0
IsListed (Finding search aim) = IsListedAim aim
IsListed (FindingAgain search aim) = IsListedAim aim
IsListed (UnmappingArea area) = 1 ≤ area.span.pages
IsListed (Waiting spans after) = AreFullSpans spans × IsListedThen after
IsListed (PurgeTaking extra after) = IsListedThen after
IsListed (PurgeFragmenting cpu gone extra after) = IsListedThen after
IsListed (PurgeUnlinking gone extra after) = IsListedThen after
IsListed (PurgeWaiting gone extra after) = IsListedThen after
IsListed (PurgeCollecting extra after) = IsListedThen after
IsListed (PurgeFlushing s waited after) = IsListedThen after
IsListed (PurgeReturning waited after) = IsListedThen after
IsListed (PurgeGiving after) = IsListedThen after
IsListed (TakingAlloc bytes align) = IsObjectAlign align
IsListed (Choosing bytes align) = IsObjectAlign align
IsListed (SettlingGroups base chunk bytes align) = IsObjectAlign align
IsListed (AddingChunk base chunk bytes align) = IsObjectAlign align
IsListed (ChoosingAtomic bytes align) = IsObjectAlign align
IsListed (Populating at missing) = AreOnce missing
IsListed (Depopulating base populated) = AreOnce populated
IsListed _ = Unit {0}

-- Where a call begins.

any_from : (test : ℕ → Bool) (n first : ℕ) → list_any test (count_from n first) ≡ true → (k : ℕ) × (k < first + n) × (test k ≡ true)
any_from test zero first h = cc
any_from test (suc n) first h = elim (or_either (test first) _ h) [
  | inl e ↦ (first, omega arith, e)
  | inr e ↦ let is = any_from test n (suc first) e in (is.0, (let low = is.1 in omega arith), is.2)
]

was_not : (b : Bool) → not b ≡ false → b ≡ true
was_not true e = refl
was_not false e = cc

-- an alignment that the desk accepts
accepted_align : (align : ℕ) → is_bad_object_align align ≡ false → IsObjectAlign (max align 4)
accepted_align align e =
    let found = any_from (λ power. 2 ^ power == max align 4) 13 0 (was_not (is_power_to 12 (max align 4)) e) in
    let same : max align 4 ≡ 2 ^ found.0 = sym (to_same (2 ^ found.0) (max align 4) found.2) in
    record {
      power = (found.0, same);
      low = omega arith;
      high = (let few : found.0 ≤ 12 = (let low = found.1 in omega arith) in let less : 2 ^ found.0 ≤ 2 ^ 12 = pow-le-pow_right (omega arith) few in omega arith);
    }

alloc_listed : (place : ℕ → ℕ → Place) (bytes align : ℕ) → ((n to : ℕ) → IsObjectAlign to → IsListed (place n to)) → IsListed (begin_alloc place bytes align)
alloc_listed place bytes align h = either_place IsListed (is_bad_object_size bytes) _ _ (λ e. tt)
    (λ e. either_place IsListed (is_bad_object_align align) _ _ (λ f. tt) (λ f. h (4 * words_for bytes) (max align 4) (accepted_align align f)))

free_listed : (made : Made) → IsListed (begin_free_area made)
free_listed MadeNothing = tt
free_listed (MadeArea start serial) = tt
free_listed (MadePart cpu page serial) = tt
free_listed (MadeObject at serial) = tt

unmap_listed : (made : Made) → IsListed (begin_unmap_ram made)
unmap_listed MadeNothing = tt
unmap_listed (MadeArea start serial) = tt
unmap_listed (MadePart cpu page serial) = tt
unmap_listed (MadeObject at serial) = tt

object_listed : (made : Made) → IsListed (begin_free_percpu made)
object_listed MadeNothing = tt
object_listed (MadeArea start serial) = tt
object_listed (MadePart cpu page serial) = tt
object_listed (MadeObject at serial) = tt

add_listed : (freed : Bool) (cpu index : ℕ) (amount : ℤ) (made : Made) → IsListed (begin_add freed cpu index amount made)
add_listed freed cpu index amount MadeNothing = tt
add_listed freed cpu index amount (MadeArea start serial) = tt
add_listed freed cpu index amount (MadePart own page serial) = tt
add_listed freed cpu index amount (MadeObject at serial) = either_place IsListed freed _ _ (λ e. tt) (λ e. tt)

sum_listed : (freed : Bool) (index : ℕ) (made : Made) → IsListed (begin_sum freed index made)
sum_listed freed index MadeNothing = tt
sum_listed freed index (MadeArea start serial) = tt
sum_listed freed index (MadePart own page serial) = tt
sum_listed freed index (MadeObject at serial) = either_place IsListed freed _ _ (λ e. tt) (λ e. tt)

module _ (c : Setup) (opening own : List Answered) where
  call_listed : (call : Call) → IsListed (begin_call c opening own call)
  call_listed (Vmalloc bytes align) = either_place IsListed (is_bad_vmalloc_size c bytes) _ _ (λ e. tt) (λ e. either_place IsListed (is_bad_vmalloc_align align) _ _ (λ f. tt) (λ f. tt))
  call_listed (Vfree t) = free_listed (target_of opening own t)
  call_listed (MapRam cpu pages) = either_place IsListed (is_bad_map_size c pages) _ _ (λ e. tt) (λ e. either_place IsListed (nat_le pages c.part_limit) _ _ (λ f. tt) (λ f. tt))
  call_listed (UnmapRam t) = unmap_listed (target_of opening own t)
  call_listed UnmapAliases = tt
  call_listed (AllocPercpu bytes align) = alloc_listed TakingAlloc bytes align (λ n to is. is)
  call_listed (AllocAtomic bytes align) = alloc_listed ChoosingAtomic bytes align (λ n to is. is)
  call_listed (FreePercpu t) = object_listed (target_of opening own t)
  call_listed (Add t cpu index amount) = add_listed (was_freed (answers_in opening own t) t.call) cpu index amount (target_of opening own t)
  call_listed (Sum t index) = sum_listed (was_freed (answers_in opening own t) t.call) index (target_of opening own t)
  call_listed Balance = tt

  begins_listed : (o : Option Call) → IsListed (begin c opening own o)
  begins_listed None = tt
  begins_listed (Some call) = call_listed call

-- Where a section leads.

once_kept : (p : ℕ → Bool) (pages : List ℕ) → AreOnce pages → AreOnce (filter p pages)
once_kept p pages once page = let few = once page in omega (arith, sum_by-filter-le (λ other. cond (other == page) 1 0) p pages)

removed_listed : (m : PlainMap) (full : AreFull m) (start serial : ℕ) (list : List Area) → named_areas start serial m.areas ≡ list → OnNext IsListed (after_remove (removed (removal start serial list)))
removed_listed m full start serial [] e = tt
removed_listed m full start serial (area ∷ list) e = full.each area (filter_has (is_area start serial) m.areas 0 area (ap (λ l. slice_get l 0) e)).there

one_full : (s : Span) → 1 ≤ s.pages → AreFullSpans (s ∷ [])
one_full s some zero x e = subst (λ (y : Span). 1 ≤ y.pages) (same_Some _ _ e) some
one_full s some (suc i) x e = cc

pub groups_full : (c : Setup) → AreGroups c → (base : ℕ) → AreFullSpans (groups_at c base)
groups_full c groups base i s e = let g = mapped_at (λ (g : Span). span (base + g.start) g.pages) c.groups i s e in subst (λ (x : Span). 1 ≤ x.pages) g.2 (groups.pages i g.0 g.1)

-- the missing pages of a placement stand once each
missing_once : (c : Setup) (fit : Chunk → Option ℕ) (bytes : ℕ) (chunks : List Chunk) (at : ObjectAt) (missing : List ℕ) → placement c fit bytes chunks ≡ Some (at, missing) → AreOnce missing
missing_once c fit bytes chunks at missing e =
    let is = placement_is c fit bytes chunks at missing e in
    subst AreOnce (sym is.lacks) (once_kept (λ page. not (is_populated is.chunk page)) (pages_of_object at) (λ page. row_once (suc ((at.off + at.bytes - 1) / 4096) - at.off / 4096) (at.off / 4096) page))

module _ (c : Setup) (bytes align : ℕ) (few : IsObjectAlign align) (fit : Chunk → Option ℕ) (own : ℕ) (chunks : List Chunk) where
  placed_listed : (n m : ℕ) (o : Option (ObjectAt × List ℕ)) → placement c fit own chunks ≡ o → OnNext IsListed (after_place bytes align n (placed (placing bytes align m o)))
  placed_listed n m None e = few
  placed_listed n m (Some p) e = missing_once c fit own chunks p.0 p.1 e

  new_listed : (n chunk base : ℕ) (o : Option (ObjectAt × List ℕ)) → placement c fit own chunks ≡ o → OnNext IsListed (after_place bytes align n (placed (placing_new chunk base bytes align o)))
  new_listed n chunk base None e = few
  new_listed n chunk base (Some p) e = missing_once c fit own chunks p.0 p.1 e

spared_listed : (c : Setup) (o : Option Chunk) → OnNext IsListed (after_spare (spare_told (sparing c o)))
spared_listed c None = tt
spared_listed c (Some h) = once_kept (is_populated h) (count_from c.unit_pages 0) (λ page. row_once c.unit_pages 0 page)

module _ (c : Setup) (some : 1 ≤ c.block_pages) (groups : AreGroups c) (m : PlainMap) (full : AreFull m) where
  listed_row : (s : Section) (p : Place) (n : Next) → PlaceRow c s p n → IsListed p → given c m (ask c p) ≡ Some s → n ≡ next c p s → OnNext IsListed n
  listed_row s (Removing start serial) n row is e f = subst (OnNext IsListed) (sym f)
      (subst (λ x. OnNext IsListed (after_remove (removed x))) (same_Some _ _ e) (removed_listed m full start serial (named_areas start serial m.areas) refl))
  listed_row s (Choosing bytes align) n row is e f = subst (OnNext IsListed) (sym f)
      (subst (λ x. OnNext IsListed (next c (Choosing bytes align) x)) (same_Some _ _ e)
      (placed_listed c bytes align is (plain_fit c bytes align) bytes m.chunks (next_number (placing bytes align m.next_chunk (placement c (plain_fit c bytes align) bytes m.chunks))) m.next_chunk (placement c (plain_fit c bytes align) bytes m.chunks) refl))
  listed_row s (AddingChunk base chunk bytes align) n row is e f = subst (OnNext IsListed) (sym f)
      (subst (λ x. OnNext IsListed (next c (AddingChunk base chunk bytes align) x)) (same_Some _ _ e)
      (new_listed c bytes align is (plain_fit c bytes align) bytes (m.chunks ++ new_chunk c chunk base ∷ []) 0 chunk base (placement c (plain_fit c bytes align) bytes (m.chunks ++ new_chunk c chunk base ∷ [])) refl))
  listed_row s Sparing n row is e f = subst (OnNext IsListed) (sym f)
      (subst (λ x. OnNext IsListed (next c Sparing x)) (same_Some _ _ e) (spared_listed c (spare_chunk m.chunks)))
  listed_row s _ n (UnmappedArea area) is e f = (one_full area.span is, tt)
  listed_row s _ n (UnlinkedBlock start r) is e f = (one_full (span start c.block_pages) some, tt)
  listed_row s _ n (UnlinkedGroups base) is e f = (groups_full c groups base, tt)
  listed_row s _ n (WaitedTooMuch spans after) is e f = is.1
  listed_row s _ n (WaitedSearch spans search aim) is e f = is.1
  listed_row s _ n _ is e f = search

  listed_next : (p : Place) (s : Section) → IsListed p → given c m (ask c p) ≡ Some s → OnNext IsListed (next c p s)
  listed_next p s is e = listed_row s p (next c p s) (place_row c s p) is e refl

-- In every world.

pub record AreAllListed (c : Setup) (w : World) : Type 0 where
  pub trace : IsTraceWorld c w
  pub each : (k : ℕ) (l : Local) → slice_get w.locals k ≡ Some l → IsListed l.place

moved_listed : (l : Local) (n : Next) → length l.answers < length l.calls → OnNext IsListed n → IsListed (moved_to l n).place
moved_listed l (Go p) has is = is
moved_listed l (Answer r made) has is =
    let e = answers_call l r made has in
    subst (λ (x : Local). IsListed x.place) (sym e.2) (begins_listed l.setup l.opening _ (slice_get l.calls (suc (length l.answers))))

started_listed : (c : Setup) (answers : List Answered) (first : ℕ) (more : List (List Call)) (j : ℕ) (l : Local) → slice_get (callers_from c answers first more) j ≡ Some l → IsListed l.place
started_listed c answers first [] j l h = cc
started_listed c answers first (own ∷ more) zero l h = subst (λ (x : Local). IsListed x.place) (same_Some _ _ h) (begins_listed c answers [] (slice_get own 0))
started_listed c answers first (own ∷ more) (suc j) l h = started_listed c answers (suc first) more j l h

module _ (c : Setup) (opening : List Call) (calls : List (List Call)) (trace : IsTrace c opening calls) where
  next_here : (w : World) (k : ℕ) (l : Local) (s : Section) → IsFramed c w → AreAllListed c w → IsLegalStep w k l s → OnNext IsListed (next l.setup l.place s)
  next_here w k l s framed all step =
      let own = framed.own k l step.step.here in
      subst (λ d. OnNext IsListed (next d l.place s)) (sym own.setup)
      (listed_next c (let low = trace.setup.block_low in omega arith) trace.setup.groups w.map all.trace.full l.place s (all.each k l step.step.here) (subst (λ d. given d w.map (ask d l.place) ≡ Some s) own.setup step.step.gives))

  listed_lasts : IsLegallyLasting c calls (AreAllListed c)
  listed_lasts = record {
    steps = λ w k l s framed all step. record {
      trace = (trace_lasts c opening calls trace).steps w k l s framed all.trace step;
      each = λ j x h. elim (set_cases w.locals l.caller j (moved_to l (next l.setup l.place s)) x h) [
        | inl e ↦ subst (λ (y : Local). IsListed y.place) (sym e.1) (moved_listed l (next l.setup l.place s) (has_call c k l (framed.own k l step.step.here) (not_over l.setup w.map l.place s step.step.gives)) (next_here w k l s framed all step))
        | inr e ↦ all.each j x e.1
      ];
    };
    joins = λ w framed one all over. record {
      trace = (trace_lasts c opening calls trace).joins w framed one all.trace over;
      each = λ k l h. elim (append_cases w.locals (callers_from c (opening_answers w.locals) 1 calls) k l h) [
        | inl e ↦ all.each k l e
        | inr e ↦ started_listed c (opening_answers w.locals) 1 calls e.0 l e.2
      ];
    };
  }

  listed_first : AreAllListed c (opening_world c opening calls)
  listed_first = record { trace = trace_first c opening calls trace; each = first }
    where
      first : (k : ℕ) (l : Local) → slice_get (started c [] 0 opening ∷ []) k ≡ Some l → IsListed l.place
      first zero l h = subst (λ (x : Local). IsListed x.place) (same_Some _ _ h) (begins_listed c [] [] (slice_get opening 0))
      first (suc k) l h = cc

  pub all_listed : (w : World) → IsReached c opening calls w → AreAllListed c w
  all_listed w reached = (legally_lasts c calls (AreAllListed c) listed_lasts opening listed_first w reached).1
