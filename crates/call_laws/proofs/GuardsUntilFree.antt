-- Guards stay bare until they are free, in every world that a legal history leads to.
use Rattle.std.proofs.Common.{◌≡◌, ℕ, zero, suc, ◌-◌, ◌<◌, ◌⊎◌, inl, inr, Bool, true, false, not, List, [], ◌∷◌, ◌++◌, length, slice_get, slice_set, Some, refl, ap, sym, ◌∙◌, subst, arith}
use Rattle.std.proofs.lemmas.Option.{same_Some}
use Rattle.vm_model.specs.declared.calls.Call.{Call}
use Rattle.vm_model.specs.declared.areas.Span.{Span}
use Rattle.vm_model.specs.declared.areas.Area.{Area}
use Rattle.vm_model.specs.declared.areas.AreaKind.{AreaKind}
use Rattle.vm_model.specs.Space.{end_of, covers, is_among}
use Rattle.vm_model.specs.Setup.{Setup}
use Rattle.vm_model.specs.PlainMap.{PlainMap, at_first}
use Rattle.vm_model.specs.Areas.{is_area, areas_of}
use Rattle.vm_model.specs.Events.{Section, Event, Settle, Remove, Unlink}
use Rattle.vm_model.specs.Legal.{IsLegalAs, IsUnmapped}
use Rattle.vm_model.specs.Effects.{effect_as}
use Rattle.vm_model.specs.Places.{Place, UnmappingArea, Removing, Waiting, Then, ReplyWith, ask}
use Rattle.vm_model.specs.Next.{Go, next}
use Rattle.vm_model.specs.History.{World, Local, moved_to, made_by, opening_answers, callers_from, placing_calls, with_callers}
use Rattle.vm_model.specs.LegalHistory.{Meets, IsReached}
use Rattle.vm_model.specs.Rules.{IsSetup, IsTrace}
use Rattle.vm_model.specs.Laws.{IsEvent, IsTakenFrom}
use Rattle.map_laws.specs.WaitingPages.{IsWaitOf}
use Rattle.map_laws.proofs.areas.AreaWorlds.{IsLegalStep, IsLegallyLasting, legally_lasts}
use Rattle.map_laws.proofs.blocks.BlockFacts.{IsBlockArea, IsBlockAt}
use Rattle.map_laws.proofs.blocks.BlockPlaces.{with_keeps}
use Rattle.map_laws.proofs.blocks.BlockWorlds.{only_one}
use Rattle.map_laws.proofs.TestsAndFilters.{IsIn, filter_in, covers_one, holds_from}
use Rattle.map_laws.proofs.chunks.ChunkFacts.{IsChunkAt, start_of}
use Rattle.map_laws.proofs.chunks.ChunkNoted.{with_new}
use Rattle.map_laws.proofs.Deeds.{removes_at, UnlinksAt, OfPurge, OfBlock, OfGroups, unlinks_at}
use Rattle.map_laws.proofs.KeptThroughSteps.{IsFramed, same_or, set_same, set_other, append_first}
use Rattle.map_laws.proofs.OutMoves.{same_area}
use Rattle.map_laws.proofs.waits.WaitStories.{more_events, event_first, event_last, WhichEvent, Before, Last, which_event, behind_flushed, taken_before}
use Rattle.map_laws.proofs.TraceWorlds.{areas_once, holding_here}
use Rattle.map_laws.proofs.waits.WaitReached.{IsWaitedWorld, wait_lasts, wait_first}
use Rattle.map_laws.proofs.waits.WaitWorlds.{Follows, Taken, IsWaitWorld}
use Rattle.call_laws.specs.Guards.{OnGuard, GuardsStayBare}
use Rattle.call_laws.proofs.GuardsBare.{IsClean, clean_kept, HandClean, IsGuardedWorld, area_unmapped, hand_unmapped, guarded_lasts, guarded_first, bare, areas_bare, hands_bare}
use Rattle.vm_model.specs.declared.calls.Reply.TheVariants as reply
use Rattle.vm_model.specs.declared.areas.AreaKind.TheVariants as kind
use Rattle.map_laws.proofs.waits.WaitWorlds as waits

-- where the guard of an area is that event i settled: it lives, a caller unmaps it or is about to let it wait, or it waited since
pub data Where (w : World) (i page : ℕ) : Type 0 where
  InArea : (a : Area) → IsIn a w.map.areas → a.kind ≡ kind.Vmalloc → end_of a.span - 1 ≡ page → Where w i page
  InHand : (k : ℕ) (l : Local) (a : Area) → slice_get w.locals k ≡ Some l → l.place ≡ UnmappingArea a → a.kind ≡ kind.Vmalloc → end_of a.span - 1 ≡ page → Where w i page
  ToWait : (k : ℕ) (l : Local) (spans : List Span) (after : Then) → slice_get w.locals k ≡ Some l → l.place ≡ Waiting spans after → covers spans page ≡ true → Where w i page
  Waited : (j : ℕ) → i < j → IsWaitOf w.events j page → Where w i page

pub record IsWatched (w : World) (i page : ℕ) : Type 0 where
  pub clean : IsClean w.map page
  pub at : Where w i page

pub record IsWatchedWorld (c : Setup) (first : PlainMap) (w : World) : Type 0 where
  pub guarded : IsGuardedWorld c w
  pub waits : IsWaitedWorld c first w
  pub watched : (i k serial : ℕ) (s : Span) → IsEvent w.events i k (Settle ((s, kind.Vmalloc) ∷ []) serial) → IsTakenFrom c first w.events (end_of s - 1) (suc i) (length w.events)
      → IsWatched w i (end_of s - 1)

of_guard : (P : ℕ → Type 0) (k : AreaKind) (s : Span) (page : ℕ) → k ≡ kind.Vmalloc → end_of s - 1 ≡ page → OnGuard k s P → P page
of_guard P k s page e at is = subst P at (subst (λ x. OnGuard x s P) e is)

-- It is unmapped wherever it is.

module _ (c : Setup) (setup : IsSetup c) (first : PlainMap) (w : World) (framed : IsFramed c w) (is : IsWatchedWorld c first w) where
  followed : (page i : ℕ) → Follows w i page → IsUnmapped w.map page
  followed page i (waits.Waiting on) = (is.guarded.trace.area.fine.pages page).waiting (is.guarded.trace.area.fine.waits page on)
  followed page i (Taken k l at behind) = grind (arith, holding_here, behind_flushed)

  where_unmapped : (i page : ℕ) → IsTakenFrom c first w.events page (suc i) (length w.events) → Where w i page → IsUnmapped w.map page
  where_unmapped i page taken (InArea a there e at) = of_guard (IsUnmapped w.map) a.kind a.span page e at (area_unmapped c w is.guarded.trace a there)
  where_unmapped i page taken (InHand k l a here on e at) = grind (arith, hand_unmapped, holding_here)
  where_unmapped i page taken (ToWait k l spans after here on e) = grind (arith, holding_here)
  where_unmapped i page taken (Waited j more waits) = followed page j (is.waits.waits.followed j page waits (λ n a b. taken n (omega arith) b))

-- Areas that start at one page are one.

module _ (c : Setup) (w : World) (framed : IsFramed c w) (is : IsGuardedWorld c w) (k : ℕ) (l : Local) (here : slice_get w.locals k ≡ Some l) where
  one_area : (a b : Area) → IsIn a w.map.areas → IsIn b w.map.areas → a.span.start ≡ b.span.start → a ≡ b
  one_area a b there there' e =
      let wide = is.trace.full.each a there in let wide' = is.trace.full.each b there' in
      let i = same_area a.span.start w.map.areas there.place there'.place a b (areas_once c w framed is.trace k l here a.span.start) there.at there'.at
      (holds_from a.span a.span.start (omega arith) (omega arith)) (holds_from b.span a.span.start (omega arith) (omega arith)) in
      same_Some a b (sym there.at ∙ ap (slice_get w.map.areas) i ∙ there'.at)

  -- a caller unlinks no vmalloc area
  not_unlinked : (a : Area) → IsIn a w.map.areas → a.kind ≡ kind.Vmalloc → (starts : List ℕ) (p : Place) → UnlinksAt c starts p → IsBlockAt c w.map l.caller p → IsChunkAt c w.map p
      → is_among starts a.span.start ≡ true → ⊥
  not_unlinked a there e starts _ (OfPurge extra after) block chunk on = no_block (block a.span.start on).area
    where
      no_block : IsBlockArea c w.map a.span.start → ⊥
      no_block area = let same = ap (λ (x : Area). x.kind) (one_area a area.area there area.there (sym (ap (λ (x : Span). x.start) area.span))) in
          let clash : kind.Vmalloc ≡ kind.Block area.cpu = sym e ∙ same ∙ area.kind in cc
  not_unlinked a there e starts _ (OfBlock start reply one) block chunk on = no_block block.area
    where
      no_block : IsBlockArea c w.map start → ⊥
      no_block area =
          let same = ap (λ (x : Area). x.kind)
          (one_area a area.area there area.there (sym (ap (λ (x : Span). x.start) area.span ∙ only_one start a.span.start (ap (λ x. is_among x a.span.start) (sym one) ∙ on)))) in
          let clash : kind.Vmalloc ≡ kind.Block area.cpu = sym e ∙ same ∙ area.kind in cc
  not_unlinked a there e starts _ (OfGroups base groups) block chunk on =
      let s = start_of c base a.span.start (ap (λ x. is_among x a.span.start) (sym groups) ∙ on) in let area = chunk.1.live s.0 s.1 s.2 in
      let same = ap (λ (x : Area). x.kind) (one_area a area.area there area.there (sym (ap (λ (x : Span). x.start) area.span ∙ s.3))) in
      let clash : kind.Vmalloc ≡ kind.Chunk chunk.0 s.0 = sym e ∙ same ∙ area.kind in cc

-- What a section does with it.

module _ (c : Setup) (setup : IsSetup c) (first : PlainMap) (w : World) (framed : IsFramed c w) (is : IsWatchedWorld c first w) (k : ℕ) (l : Local) (s : Section)
    (here : slice_get w.locals k ≡ Some l) (meets : Meets c (ask c l.place) s)
    (legal : IsLegalAs c w.map k s) (moved : Local) (goes : (q : Place) → next c l.place s ≡ Go q → moved.place ≡ q) where
  abbrev event : Event
  event = record { caller = k; section = s }

  abbrev made : World
  made = record { map = effect_as c w.map k s; locals = slice_set w.locals k moved; events = w.events ++ event ∷ [] }

  moved_here : slice_get made.locals k ≡ Some moved
  moved_here = set_same w.locals k l moved here

  remove_goes : (a : Area) → IsIn a w.map.areas → (start serial : ℕ) (area : Area) → s ≡ Remove start serial area → (b : Bool) → is_area start serial a ≡ b
      → IsIn a (effect_as c w.map k (Remove start serial area)).areas ⊎ (moved.place ≡ UnmappingArea a)
  remove_goes a there start serial area e false f = inl (filter_in (λ x. not (is_area start serial x)) w.map.areas a there.place there.at (ap not f))
  remove_goes a there start serial area e true f =
      let named = filter_in (is_area start serial) w.map.areas a there.place there.at f in
      let same = alone named.place (ap (λ x. slice_get x named.place) (sym (subst (IsLegalAs c w.map k) e legal)) ∙ named.at) in
      inr (goes (UnmappingArea a)
      (ap (λ p. next c p s) (removes_at c l.place start serial area (subst (Meets c (ask c l.place)) e meets)) ∙ ap (next c (Removing start serial)) e ∙ ap (λ x. Go (UnmappingArea x)) same))
    where
      alone : (i : ℕ) → slice_get (area ∷ []) i ≡ Some a → area ≡ a
      alone zero h = same_Some area a h
      alone (suc i) h = cc

  unlink_goes : (a : Area) → IsIn a w.map.areas → a.kind ≡ kind.Vmalloc → (starts : List ℕ) → s ≡ Unlink starts → (b : Bool) → is_among starts a.span.start ≡ b
      → IsIn a (effect_as c w.map k (Unlink starts)).areas
  unlink_goes a there kd starts e false f = filter_in (λ (x : Area). not (is_among starts x.span.start)) w.map.areas a there.place there.at (ap not f)
  unlink_goes a there kd starts e true f = absurd
      (not_unlinked c w framed is.guarded k l here a there kd starts l.place (unlinks_at c l.place starts (subst (Meets c (ask c l.place)) e meets)) (is.guarded.trace.blocks.each k l here)
      (is.guarded.trace.chunks.each k l here) f)

  -- a vmalloc area lives on, or the caller goes on to unmap it
  area_goes : (a : Area) → IsIn a w.map.areas → a.kind ≡ kind.Vmalloc → (t : Section) → s ≡ t → IsIn a (effect_as c w.map k t).areas ⊎ (moved.place ≡ UnmappingArea a)
  area_goes a there kd (Settle areas first) e = inl (with_keeps (areas_of k first areas) w.map.areas a there)
  area_goes a there kd (Remove start serial area) e = remove_goes a there start serial area e (is_area start serial a) refl
  area_goes a there kd (Unlink starts) e = inl (unlink_goes a there kd starts e (is_among starts a.span.start) refl)
  area_goes a there kd _ e = inl there

  own : (x : Local) → slice_get w.locals k ≡ Some x → x ≡ l
  own x at = same_Some x l (sym at ∙ here)

  goes_from : (p q : Place) → l.place ≡ p → next c p s ≡ Go q → moved.place ≡ q
  goes_from p q e f = goes q (ap (λ x. next c x s) e ∙ f)

  wait_more : (i page : ℕ) → IsWaitOf w.events i page → IsWaitOf made.events i page
  wait_more i page is = grind (arith, event_first)

  unmapped_own : (i page : ℕ) (a : Area) → l.place ≡ UnmappingArea a → a.kind ≡ kind.Vmalloc → end_of a.span - 1 ≡ page → Where made i page
  unmapped_own i page a on kd at =
      let some = (subst (HandClean w.map) on (is.guarded.hands k l here)).1 in
      ToWait k moved (a.span ∷ []) (ReplyWith reply.Done) moved_here (goes_from (UnmappingArea a) _ on refl) (covers_one a.span page ∙ holds_from a.span page (omega arith) (omega arith))

  waits_own : (i page : ℕ) → i < length w.events → (spans : List Span) (after : Then) → l.place ≡ Waiting spans after → covers spans page ≡ true → Where made i page
  waits_own i page low spans after on e =
      let waits = subst (λ p. Meets c (ask c p) s) on meets in
      Waited (length w.events) low (record { caller = k; waiting = waits.0; spans = spans; waits = subst (IsEvent made.events (length w.events) k) waits.1 (event_last w.events k s); waited = e })

  where_now : (i page : ℕ) → i < length w.events → Where w i page → Where made i page
  where_now i page low (InArea a there kd at) = elim (area_goes a there kd s refl) [ inl still ↦ InArea a still kd at | inr gone ↦ InHand k moved a moved_here gone kd at ]
  where_now i page low (InHand j x a there on kd at) = elim (same_or j k) [
    | inl e ↦ unmapped_own i page a (ap (λ (y : Local). y.place) (sym (own x (ap (slice_get w.locals) (sym e) ∙ there))) ∙ on) kd at
    | inr apart ↦ InHand j x a (set_other w.locals k j moved apart ∙ there) on kd at
  ]
  where_now i page low (ToWait j x spans after there on e) = elim (same_or j k) [
    | inl same ↦ waits_own i page low spans after (ap (λ (y : Local). y.place) (sym (own x (ap (slice_get w.locals) (sym same) ∙ there))) ∙ on) e
    | inr apart ↦ ToWait j x spans after (set_other w.locals k j moved apart ∙ there) on e
  ]
  where_now i page low (Waited j more waits) = Waited j more (wait_more j page waits)

  watched_more : (i page : ℕ) → i < length w.events → IsTakenFrom c first w.events page (suc i) (length w.events) → IsWatched w i page → IsWatched made i page
  watched_more i page low taken was = record { clean = clean_kept c w.map k s page legal (where_unmapped c setup first w framed is i page taken was.at) was.clean; at = where_now i page low was.at }

  watched_new : IsGuardedWorld c made → (serial : ℕ) (sp : Span) → s ≡ Settle ((sp, kind.Vmalloc) ∷ []) serial → IsWatched made (length w.events) (end_of sp - 1)
  watched_new now serial sp e =
      let area : Area = record { span = sp; kind = kind.Vmalloc; caller = k; serial = serial } in
      let there : IsIn area made.map.areas = subst (λ t. IsIn area (effect_as c w.map k t).areas) (sym e)
      (with_new (areas_of k serial ((sp, kind.Vmalloc) ∷ [])) w.map.areas area (record { place = 0; at = refl })) in
      record { clean = now.areas area there; at = InArea area there refl refl }

  watched_now : IsGuardedWorld c made → (i j serial : ℕ) (sp : Span) → IsEvent made.events i j (Settle ((sp, kind.Vmalloc) ∷ []) serial)
      → IsTakenFrom c first made.events (end_of sp - 1) (suc i) (length made.events) → IsWatched made i (end_of sp - 1)
  watched_now now i j serial sp at taken = by_event (which_event w.events k s i j (Settle ((sp, kind.Vmalloc) ∷ []) serial) at)
    where
      by_event : WhichEvent w.events k s i j (Settle ((sp, kind.Vmalloc) ∷ []) serial) → IsWatched made i (end_of sp - 1)
      by_event (Before low was) =
          let before = taken_before c first w.events event (end_of sp - 1) (suc i) (length w.events) (omega arith) (λ n a b. taken n a (omega (arith, more_events c first w.events event))) in
          watched_more i (end_of sp - 1) low before (is.watched i j serial sp was before)
      by_event (Last end own same) = subst (λ n. IsWatched made n (end_of sp - 1)) (sym end) (watched_new now serial sp same)

-- In every world.

module _ (c : Setup) (opening : List Call) (calls : List (List Call)) (trace : IsTrace c opening calls) where
  abbrev at_start : PlainMap
  at_start = at_first c (placing_calls (opening ∷ calls))

  module _ (w : World) (k : ℕ) (l : Local) (s : Section) (framed : IsFramed c w) (is : IsWatchedWorld c at_start w) (step : IsLegalStep w k l s) where
    setup : l.setup ≡ c
    setup = (framed.own k l step.step.here).setup

    abbrev by : Setup → ℕ → World
    by d i = record { map = effect_as d w.map i s; locals = slice_set w.locals i (moved_to l (next d l.place s)); events = w.events ++ (record { caller = i; section = s }) ∷ [] }

    same : made_by w l s ≡ by c k
    same = ap (λ d. by d l.caller) setup ∙ ap (by c) (framed.own k l step.step.here).caller

    guarded_now : IsGuardedWorld c (made_by w l s)
    guarded_now = (guarded_lasts c opening calls trace).steps w k l s framed is.guarded step

    watched_step : IsWatchedWorld c at_start (made_by w l s)
    watched_step = record {
      guarded = guarded_now;
      waits = (wait_lasts c opening calls trace at_start).steps w k l s framed is.waits step;
      watched = subst (λ v. (i j serial : ℕ) (sp : Span) → IsEvent v.events i j (Settle ((sp, kind.Vmalloc) ∷ []) serial) → IsTakenFrom c at_start v.events (end_of sp - 1) (suc i)
          (length v.events) → IsWatched v i (end_of sp - 1)) (sym same)
          (watched_now c trace.setup at_start w framed is k l s step.step.here (subst (λ d. Meets d (ask d l.place) s) setup step.meets) (subst (λ d. IsLegalAs d w.map k s) setup step.legal)
          (moved_to l (next c l.place s)) (λ q e. ap (λ n. (moved_to l n).place) e) (subst (IsGuardedWorld c) same guarded_now));
    }

  watched_lasts : IsLegallyLasting c calls (IsWatchedWorld c at_start)
  watched_lasts = record {
    steps = watched_step;
    joins = λ w framed one is over. record {
      guarded = (guarded_lasts c opening calls trace).joins w framed one is.guarded over;
      waits = (wait_lasts c opening calls trace at_start).joins w framed one is.waits over;
      watched = λ i k serial s at taken. (let was = is.watched i k serial s at taken in record { clean = was.clean; at = more w i (end_of s - 1) was.at });
    };
  }
    where
      more : (w : World) (i page : ℕ) → Where w i page → Where (with_callers c calls w) i page
      more w i page (InArea a there kd at) = InArea a there kd at
      more w i page (InHand k l a at on kd e) = InHand k l a (append_first w.locals (callers_from c (opening_answers w.locals) 1 calls) k l at) on kd e
      more w i page (ToWait k l spans after at on e) = ToWait k l spans after (append_first w.locals (callers_from c (opening_answers w.locals) 1 calls) k l at) on e
      more w i page (Waited j low waits) = Waited j low waits

  watched_reached : (w : World) → IsReached c opening calls w → IsFramed c w × IsWatchedWorld c at_start w
  watched_reached w reached = legally_lasts c calls (IsWatchedWorld c at_start) watched_lasts opening (record {
    guarded = guarded_first c opening calls trace;
    waits = wait_first c opening calls trace;
    watched = λ i k serial s at taken. cc;
  }) w reached

pub guards_stay_bare : GuardsStayBare
guards_stay_bare c opening calls w trace reached =
    let both = watched_reached c opening calls trace w reached in let framed = both.0 in let is = both.1 in record {
      areas = λ i a at. areas_bare c w is.guarded a (record { place = i; at = at });
      hands = hands_bare c trace.setup w framed is.guarded;
      until_free = λ i k serial s at taken. (let was = is.watched i k serial s at taken in
          bare w.map (end_of s - 1) (where_unmapped c trace.setup (at_first c (placing_calls (opening ∷ calls))) w framed is i (end_of s - 1) taken was.at) was.clean);
    }
