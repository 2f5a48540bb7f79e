-- Sections over the regions that all processors share: each over its region alone leaves what it leaves in the map.
use Rattle.std.proofs.Common.{◌≡◌, ℕ, Bool, true, false, List, [], ◌∷◌, ◌++◌, length, map, Option, Some, None, IfSome, slice_set, refl, ap, sym, ◌∙◌, ℤ, arith}
use Rattle.vm_model.specs.declared.areas.Span.{Span}
use Rattle.vm_model.specs.declared.areas.Area.{Area}
use Rattle.vm_model.specs.declared.areas.AreaKind.{AreaKind}
use Rattle.vm_model.specs.Space.{count_from, holds, covers, runs, lowest, paint}
use Rattle.vm_model.specs.Setup.{Setup, cpus, highest, pages_in_units}
use Rattle.vm_model.specs.PlainMap.{PlainMap, Mark, Free, Held, Flushing, Waits, taken, free_runs, Chunk}
use Rattle.vm_model.specs.Areas.{named_areas, areas_starting, areas_of, spans_of}
use Rattle.vm_model.specs.Chunks.{ObjectAt, plain_fit, atomic_fit, placement, new_chunk, spare_chunk, page_to_fill, is_live_object}
use Rattle.vm_model.specs.Events.{Section, Search, ForPages, ForGroups, TakePurge, TakeAlloc, Settle, Unlink, Wait, TakeWaiting, NoFrames, MapPages, Populate, Fill}
use Rattle.vm_model.specs.Effects.{effect_as}
use Rattle.vm_model.specs.Places.{AskRefuse, AskTakePurge, AskGivePurge, AskTakeAlloc, AskGiveAlloc, AskSearch, AskDrop, AskReturn, AskSettle, AskRemove, AskUnlink, AskWait, AskTakeWaiting, AskMap, AskPopulate, AskFill, AskUnmap, AskDepopulate, AskFlush, AskZero, AskAdd, AskSum, AskPlace, AskAddChunk, AskAtomic, AskSettleObject, AskUnplace, AskFree, AskSpare, AskNextPage, AskFilled}
use Rattle.vm_model.specs.Given.{taking, carving, carving_groups, removal, placing, placing_new, placing_atomic, freeing, sparing, filling}
use Rattle.vm_model.specs.Parts.{Region, Desk, PurgeTurn, AllocTurn, FreeRuns, LiveAreas, WaitingSpans, Pages, Percpu, regions_of, map_with, region_in, cpu_blocks}
use Rattle.map_parts.specs.Locality.{AreTaken, FallsApart, IsOverOneRegion}
use Rattle.map_parts.proofs.TakenPages.{taken_in, taken_again, taken_stays, taken_stays-mark_live, spans_of-areas_of}
use Rattle.vm_model.proofs.PaintRuns.{map-paint}
use Rattle.map_parts.proofs.Tests.{of_two, or_first}

module _ (c : Setup) (m : PlainMap) (k : ℕ) where
  -- what a section over one region has to leave
  abbrev pub LeavesAlike : (number : ℕ) → Region → Section → Type 0
  LeavesAlike number region s = regions_of c (effect_as c m k s) ≡ slice_set (regions_of c m) number (region_in (effect_as c (map_with c region) k s) region)

  if_taking : (P : Section → Type 0) (o : Option ℕ) (s : Section) → P s → IfSome (taking o s) P
  if_taking P None s p = p
  if_taking P (Some holder) s p = tt

  pub desk : IsOverOneRegion c m k AskRefuse 0
  desk = record { region = Desk; here = refl; moves_alike = refl; gives_alike = refl; leaves_alike = refl }

  pub take_purge : IsOverOneRegion c m k AskTakePurge 1
  take_purge = record { region = PurgeTurn m.purge_turn; here = refl; moves_alike = refl; gives_alike = refl; leaves_alike = if_taking (LeavesAlike 1 (PurgeTurn m.purge_turn)) m.purge_turn TakePurge refl }

  pub give_purge : IsOverOneRegion c m k AskGivePurge 1
  give_purge = record { region = PurgeTurn m.purge_turn; here = refl; moves_alike = refl; gives_alike = refl; leaves_alike = refl }

  pub take_alloc : IsOverOneRegion c m k AskTakeAlloc 2
  take_alloc = record { region = AllocTurn m.alloc_turn; here = refl; moves_alike = refl; gives_alike = refl; leaves_alike = if_taking (LeavesAlike 2 (AllocTurn m.alloc_turn)) m.alloc_turn TakeAlloc refl }

  pub give_alloc : IsOverOneRegion c m k AskGiveAlloc 2
  give_alloc = record { region = AllocTurn m.alloc_turn; here = refl; moves_alike = refl; gives_alike = refl; leaves_alike = refl }

  -- the pages that searches look at
  module _ (whole : FallsApart c m) where
    same : taken (map_with c (FreeRuns (free_runs m))) ≡ taken m
    same = taken_again c m whole.marks

    runs_alike : (bits own : List Bool) → bits ≡ own → slice_set (regions_of c m) 3 (FreeRuns (runs bits)) ≡ slice_set (regions_of c m) 3 (FreeRuns (runs own))
    runs_alike bits own e = ap (λ bits. slice_set (regions_of c m) 3 (FreeRuns (runs bits))) e

    left_by_carve : (test : ℕ → Bool) (mark : Mark)
        → slice_set (regions_of c m) 3 (FreeRuns (runs (taken_in (paint test mark m.marks)))) ≡ slice_set (regions_of c m) 3 (FreeRuns (runs (taken_in (paint test mark (map_with c (FreeRuns (free_runs m))).marks))))
    left_by_carve test mark = grind (arith, runs_alike, taken_in, map-paint, same)

    left_by_none : slice_set (regions_of c m) 3 (FreeRuns (runs (taken m))) ≡ slice_set (regions_of c m) 3 (FreeRuns (runs (taken (map_with c (FreeRuns (free_runs m))))))
    left_by_none = runs_alike _ _ (sym same)

    after_pages : (pages align : ℕ) (o : Option ℕ) → LeavesAlike 3 (FreeRuns (free_runs m)) (carving pages align o)
    after_pages pages align o = grind (arith, left_by_none, left_by_carve)

    after_groups : (o : Option ℕ) → LeavesAlike 3 (FreeRuns (free_runs m)) (carving_groups o)
    after_groups o = grind (arith, left_by_none, left_by_carve)

    pub search_pages : (s : Search) → IsOverOneRegion c m k (AskSearch s) 3
    search_pages (ForPages pages align) = record {
      region = FreeRuns (free_runs m);
      here = refl;
      moves_alike = refl;
      gives_alike = ap (λ bits. Some (carving pages align (lowest bits pages align))) same;
      leaves_alike = after_pages pages align (lowest (taken m) pages align);
    }
    search_pages ForGroups = record {
      region = FreeRuns (free_runs m);
      here = refl;
      moves_alike = refl;
      gives_alike = ap (λ bits. Some (carving_groups (highest c bits))) same;
      leaves_alike = after_groups (highest c (taken m));
    }

    pub drop_span : (s : Span) → IsOverOneRegion c m k (AskDrop s) 3
    drop_span s = record { region = FreeRuns (free_runs m); here = refl; moves_alike = refl; gives_alike = refl; leaves_alike = left_by_carve (holds s) Free }

    pub return_spans : (spans : List Span) → IsOverOneRegion c m k (AskReturn spans) 3
    return_spans spans = record { region = FreeRuns (free_runs m); here = refl; moves_alike = refl; gives_alike = refl; leaves_alike = left_by_carve (covers spans) Free }

  -- areas and waiting spans: the pages that are marked weren't free
  regions_with : PlainMap → List Bool → List Region
  regions_with after bits =
      Desk ∷ PurgeTurn after.purge_turn ∷ AllocTurn after.alloc_turn ∷ FreeRuns (runs bits) ∷ LiveAreas after.areas after.next_area ∷ WaitingSpans after.waiting
      ∷ Pages after.frames after.stale after.cells ∷ Percpu after.chunks after.next_object after.next_chunk after.room ∷ map (cpu_blocks after c.block_pages) (count_from (cpus c) 0)

  pub settle : (areas : List (Span × AreaKind)) → AreTaken m (map (λ a. a.0) areas) → IsOverOneRegion c m k (AskSettle areas) 4
  unfolding regions_with
  settle areas h = record {
    region = LiveAreas m.areas m.next_area;
    here = refl;
    moves_alike = refl;
    gives_alike = refl;
    leaves_alike = ap (regions_with (effect_as c m k (Settle areas m.next_area)))
        (taken_stays-mark_live (areas_of k m.next_area areas) m.marks (λ page e. h page (ap (λ spans. covers spans page) (sym (spans_of-areas_of k m.next_area areas)) ∙ e)));
  }

  removed_by : (start serial : ℕ) (found : List Area) → AreTaken m (spans_of found) → LeavesAlike 4 (LiveAreas m.areas m.next_area) (removal start serial found)
  unfolding regions_with
  removed_by start serial found h = grind (arith, regions_with, taken_stays, or_first)

  pub remove : (start serial : ℕ) → AreTaken m (spans_of (named_areas start serial m.areas)) → IsOverOneRegion c m k (AskRemove start serial) 4
  remove start serial h = record {
    region = LiveAreas m.areas m.next_area;
    here = refl;
    moves_alike = refl;
    gives_alike = refl;
    leaves_alike = removed_by start serial (named_areas start serial m.areas) h;
  }

  pub unlink : (starts : List ℕ) → AreTaken m (spans_of (areas_starting starts m.areas)) → IsOverOneRegion c m k (AskUnlink starts) 4
  unfolding regions_with
  unlink starts h = record {
    region = LiveAreas m.areas m.next_area;
    here = refl;
    moves_alike = refl;
    gives_alike = refl;
    leaves_alike = ap (regions_with (effect_as c m k (Unlink starts))) (taken_stays (covers (spans_of (areas_starting starts m.areas))) (Held k) m.marks refl h);
  }

  pub wait : (spans : List Span) → AreTaken m spans → IsOverOneRegion c m k (AskWait spans) 5
  unfolding regions_with
  wait spans h = record {
    region = WaitingSpans m.waiting;
    here = refl;
    moves_alike = refl;
    gives_alike = refl;
    leaves_alike = ap (regions_with (effect_as c m k (Wait spans 0))) (taken_stays (covers spans) Waits m.marks refl h);
  }

  pub take_waiting : AreTaken m m.waiting → IsOverOneRegion c m k AskTakeWaiting 5
  unfolding regions_with
  take_waiting h = record {
    region = WaitingSpans m.waiting;
    here = refl;
    moves_alike = refl;
    gives_alike = refl;
    leaves_alike = ap (regions_with (effect_as c m k (TakeWaiting m.waiting))) (taken_stays (covers m.waiting) (Flushing k) m.marks refl h);
  }

  -- pages and words: the frames decide whether there are any to give
  pub map_span : (s : Span) → IsOverOneRegion c m k (AskMap s) 6
  map_span s = record { region = Pages m.frames m.stale m.cells; here = refl; moves_alike = refl; gives_alike = refl; leaves_alike = of_two (LeavesAlike 6 (Pages m.frames m.stale m.cells)) _ (NoFrames s.pages) (MapPages s) refl refl }

  pub populate : (at : ObjectAt) (missing : List ℕ) → IsOverOneRegion c m k (AskPopulate at missing) 6
  populate at missing = record { region = Pages m.frames m.stale m.cells; here = refl; moves_alike = refl; gives_alike = refl; leaves_alike = of_two (LeavesAlike 6 (Pages m.frames m.stale m.cells)) _ (NoFrames (length (pages_in_units c at.base missing))) (Populate at missing) refl refl }

  pub fill : (base page : ℕ) → IsOverOneRegion c m k (AskFill base page) 6
  fill base page = record { region = Pages m.frames m.stale m.cells; here = refl; moves_alike = refl; gives_alike = refl; leaves_alike = of_two (LeavesAlike 6 (Pages m.frames m.stale m.cells)) _ (NoFrames (length (pages_in_units c base (page ∷ [])))) (Fill base page) refl refl }

  pub unmap : (s : Span) → IsOverOneRegion c m k (AskUnmap s) 6
  unmap s = record { region = Pages m.frames m.stale m.cells; here = refl; moves_alike = refl; gives_alike = refl; leaves_alike = refl }

  pub depopulate : (base : ℕ) (pages : List ℕ) → IsOverOneRegion c m k (AskDepopulate base pages) 6
  depopulate base pages = record { region = Pages m.frames m.stale m.cells; here = refl; moves_alike = refl; gives_alike = refl; leaves_alike = refl }

  pub flush : (s : Span) → IsOverOneRegion c m k (AskFlush s) 6
  flush s = record { region = Pages m.frames m.stale m.cells; here = refl; moves_alike = refl; gives_alike = refl; leaves_alike = refl }

  pub zero_object : (at : ObjectAt) → IsOverOneRegion c m k (AskZero at) 6
  zero_object at = record { region = Pages m.frames m.stale m.cells; here = refl; moves_alike = refl; gives_alike = refl; leaves_alike = refl }

  pub add : (at : ObjectAt) (serial cpu index : ℕ) (amount : ℤ) → IsOverOneRegion c m k (AskAdd at serial cpu index amount) 6
  add at serial cpu index amount = record { region = Pages m.frames m.stale m.cells; here = refl; moves_alike = refl; gives_alike = refl; leaves_alike = refl }

  pub sum : (at : ObjectAt) (serial index : ℕ) → IsOverOneRegion c m k (AskSum at serial index) 6
  sum at serial index = record { region = Pages m.frames m.stale m.cells; here = refl; moves_alike = refl; gives_alike = refl; leaves_alike = refl }

  -- chunks and objects
  after_place : (bytes align next : ℕ) (o : Option (ObjectAt × List ℕ)) → LeavesAlike 7 (Percpu m.chunks m.next_object m.next_chunk m.room) (placing bytes align next o)
  after_place bytes align next o = grind arith

  after_new : (chunk base bytes align : ℕ) (o : Option (ObjectAt × List ℕ)) → LeavesAlike 7 (Percpu m.chunks m.next_object m.next_chunk m.room) (placing_new chunk base bytes align o)
  after_new chunk base bytes align o = grind arith

  after_atomic : (bytes align : ℕ) (o : Option (ObjectAt × List ℕ)) → LeavesAlike 7 (Percpu m.chunks m.next_object m.next_chunk m.room) (placing_atomic bytes align o)
  after_atomic bytes align o = grind arith

  after_free : (at : ObjectAt) (serial : ℕ) (b : Bool) → LeavesAlike 7 (Percpu m.chunks m.next_object m.next_chunk m.room) (freeing at serial b)
  after_free at serial true = refl
  after_free at serial false = refl

  after_spare : (o : Option Chunk) → LeavesAlike 7 (Percpu m.chunks m.next_object m.next_chunk m.room) (sparing c o)
  after_spare o = grind arith

  after_page : (o : Option (Chunk × ℕ)) → LeavesAlike 7 (Percpu m.chunks m.next_object m.next_chunk m.room) (filling o)
  after_page o = grind arith

  pub place : (bytes align : ℕ) → IsOverOneRegion c m k (AskPlace bytes align) 7
  place bytes align = record { region = Percpu m.chunks m.next_object m.next_chunk m.room; here = refl; moves_alike = refl; gives_alike = refl; leaves_alike = after_place bytes align m.next_chunk (placement c (plain_fit c bytes align) bytes m.chunks) }

  pub add_chunk : (chunk base bytes align : ℕ) → IsOverOneRegion c m k (AskAddChunk chunk base bytes align) 7
  add_chunk chunk base bytes align = record { region = Percpu m.chunks m.next_object m.next_chunk m.room; here = refl; moves_alike = refl; gives_alike = refl; leaves_alike = after_new chunk base bytes align (placement c (plain_fit c bytes align) bytes (m.chunks ++ new_chunk c chunk base ∷ [])) }

  pub place_atomic : (bytes align : ℕ) → IsOverOneRegion c m k (AskAtomic bytes align) 7
  place_atomic bytes align = record { region = Percpu m.chunks m.next_object m.next_chunk m.room; here = refl; moves_alike = refl; gives_alike = refl; leaves_alike = after_atomic bytes align (placement c (atomic_fit c bytes align) bytes m.chunks) }

  pub settle_object : (at : ObjectAt) → IsOverOneRegion c m k (AskSettleObject at) 7
  settle_object at = record { region = Percpu m.chunks m.next_object m.next_chunk m.room; here = refl; moves_alike = refl; gives_alike = refl; leaves_alike = refl }

  pub unplace : (at : ObjectAt) → IsOverOneRegion c m k (AskUnplace at) 7
  unplace at = record { region = Percpu m.chunks m.next_object m.next_chunk m.room; here = refl; moves_alike = refl; gives_alike = refl; leaves_alike = refl }

  pub free_object : (at : ObjectAt) (serial : ℕ) → IsOverOneRegion c m k (AskFree at serial) 7
  free_object at serial = record { region = Percpu m.chunks m.next_object m.next_chunk m.room; here = refl; moves_alike = refl; gives_alike = refl; leaves_alike = after_free at serial (is_live_object at serial m.chunks) }

  pub spare : IsOverOneRegion c m k AskSpare 7
  spare = record { region = Percpu m.chunks m.next_object m.next_chunk m.room; here = refl; moves_alike = refl; gives_alike = refl; leaves_alike = after_spare (spare_chunk m.chunks) }

  pub next_page : IsOverOneRegion c m k AskNextPage 7
  next_page = record { region = Percpu m.chunks m.next_object m.next_chunk m.room; here = refl; moves_alike = refl; gives_alike = refl; leaves_alike = after_page (page_to_fill c m.chunks) }

  pub note_filled : (chunk page : ℕ) → IsOverOneRegion c m k (AskFilled chunk page) 7
  note_filled chunk page = record { region = Percpu m.chunks m.next_object m.next_chunk m.room; here = refl; moves_alike = refl; gives_alike = refl; leaves_alike = refl }
