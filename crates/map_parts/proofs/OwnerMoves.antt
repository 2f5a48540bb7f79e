-- At each place, the section that the map gives takes pages from owner to owner.
use Rattle.std.proofs.Common.{◌≡◌, ℕ, zero, suc, ◌+◌, ◌≤◌, Bool, true, false, not, ◌&&◌, ◌==◌, nat_lt, if◌then◌else◌, List, [], ◌∷◌, ◌++◌, filter, slice_get, Option, Some, None, IfSome, refl, ap, sym, ◌∙◌, arith}
use Rattle.std.proofs.lemmas.List.{map-id, map-append}
use Rattle.std.proofs.lemmas.List.Sums.{sum_by-append, sum_by_push}
use Rattle.vm_model.specs.declared.areas.Span.{Span}
use Rattle.vm_model.specs.declared.areas.Area.{Area}
use Rattle.vm_model.specs.declared.areas.AreaKind.{AreaKind}
use Rattle.vm_model.specs.declared.areas.AreaKind.TheVariants as kind
use Rattle.vm_model.specs.Space.{span, times, is_among, sum_of_pages}
use Rattle.vm_model.specs.Setup.{Setup, cpus, groups_at}
use Rattle.vm_model.specs.PlainMap.{PlainMap, Block, Chunk, Lives}
use Rattle.vm_model.specs.Areas.{is_area, named_areas, group_areas}
use Rattle.vm_model.specs.Blocks.{mapped_pages, fragmented}
use Rattle.vm_model.specs.Chunks.{change_chunk, without_object, with_live_object, with_page, spare_chunk}
use Rattle.vm_model.specs.Events.{Section, Search, ForPages, ForGroups, NoFrames, MapPages, Settle, Unlink, Fragment}
use Rattle.vm_model.specs.Effects.{effect_as}
use Rattle.vm_model.specs.Told.{carved, carved_base}
use Rattle.vm_model.specs.Places.{Aim, Then, SearchAgain, Place, Over, Refusing, Finding, FindingAgain, MappingArea, Dropping, SettlingArea, Removing, UnmappingArea, Waiting, PurgeTaking, PurgeFragmenting, PurgeUnlinking, PurgeWaiting, PurgeCollecting, PurgeFlushing, PurgeReturning, PurgeGiving, CuttingPart, SettlingBlock, AddingBlock, MappingPart, SettlingPart, BeginningUnmap, UnmappingPart, Retiring, UnlinkingBlock, LookingAtDirty, TakingAlloc, Choosing, SettlingGroups, AddingChunk, Populating, SettlingObject, Unplacing, GivingAlloc, ChoosingAtomic, Zeroing, SettlingAtomic, FreeingObject, Adding, Summing, TakingToBalance, Sparing, Depopulating, UnlinkingGroups, NextFill, Filling, NotingFilled, ask, block_spans, group_starts}
use Rattle.vm_model.specs.Next.{Next, Go, next, found, without_space, go_on, after_fragments}
use Rattle.vm_model.specs.Given.{given, searching, removal, sparing}
use Rattle.vm_model.specs.Rules.{IsSetup}
use Rattle.map_parts.specs.Owners.{pool_of, other_than, times_from, of_place}
use Rattle.map_parts.specs.KeptByEvents.{IsSoundPlace, IsPlainSerial}
use Rattle.map_parts.proofs.Filters.{filter_within, filter_passes, map_was, among_map}
use Rattle.map_parts.proofs.PoolMoves.{of_next, MovesApart, moves_stay, times_from-le}
use Rattle.map_parts.proofs.PoolParts.{blocks_changed, blocks_left, block_spent, blocks_leave, chunks_changed, chunk_spared, groups_not_plain, group_kinds_were, times_from-all, times_from-other}
use Rattle.map_parts.proofs.SectionMoves.{carve_moves, carve_groups_moves, drop_moves, return_moves, wait_moves, take_waiting_moves, settle_plain_moves, settle_out_moves, remove_moves, unlink_moves, blocks_move, chunks_move}
use Rattle.map_parts.proofs.Tests.{both_true, is_same, of_two}

module _ (c : Setup) (m : PlainMap) (k : ℕ) where
  abbrev pub LeavesApart : Place → Section → Type 0
  LeavesApart place s = MovesApart c (pool_of m) (pool_of (effect_as c m k s)) (of_place c place) (of_next c (next c place s))

  -- a section that moves no pages
  quiet : (own own' : (ℕ → Bool) → ℕ → ℕ) → ((counts : ℕ → Bool) (page : ℕ) → own' counts page ≤ own counts page) → MovesApart c (pool_of m) (pool_of m) own own'
  quiet own own' less = moves_stay c (pool_of m) own own' less

  -- Searches.

  module _ (is : IsSetup c) (own : (ℕ → Bool) → ℕ → ℕ) (aim : Aim) (otherwise : Next) (none : (counts : ℕ → Bool) (page : ℕ) → of_next c otherwise counts page ≤ 0) where
    abbrev pub Finds : Section → Type 0
    Finds s = MovesApart c (pool_of m) (pool_of (effect_as c m k s)) own (of_next c (found aim (carved s) (carved_base s) otherwise))

    finds : (search : Search) → Finds (searching c m search)
    finds (ForPages pages align) = grind (arith, quiet, of_next, carve_moves)
    finds ForGroups = grind (arith, quiet, of_next, carve_groups_moves)

  not_both : (aim : Aim) (counts : ℕ → Bool) (page : ℕ) → of_next c (without_space aim) counts page ≤ 0
  not_both aim counts page = grind arith

  -- what follows a purge or a wait has no pages
  go_on_less : (after : Then) (counts : ℕ → Bool) (page : ℕ) → of_next c (go_on after) counts page ≤ 0
  go_on_less after counts page = grind arith

  if_less : (b : Bool) (n n' : Next) (counts : ℕ → Bool) (page bound : ℕ) → of_next c n counts page ≤ bound → of_next c n' counts page ≤ bound → of_next c (if b then n else n') counts page ≤ bound
  if_less true n n' counts page bound p q = p
  if_less false n n' counts page bound p q = q

  -- Areas.

  removes : (start serial : ℕ) (l : List Area) → named_areas start serial m.areas ≡ l → IsPlainSerial m serial → LeavesApart (Removing start serial) (removal start serial l)
  removes start serial [] e plain = quiet _ _ (λ counts page. omega arith)
  removes start serial (a ∷ rest) e plain =
      let first : slice_get (named_areas start serial m.areas) 0 ≡ Some a = ap (λ l. slice_get l 0) e in
      let w = filter_within (is_area start serial) m.areas 0 a first in
      let named = filter_passes (is_area start serial) m.areas 0 a first in
      remove_moves c m k _ _ start serial a rest e (plain.plain w.0 a w.1 (is_same a.serial serial (both_true _ _ named).1)) (λ counts page. omega arith)

  -- the block whose area is settled
  one_block : (s : Span) → s.pages ≡ c.block_pages → block_spans c (s.start ∷ []) ≡ s ∷ []
  one_block s e = ap (λ pages. span s.start pages ∷ []) (sym e)

  settles_block : (s : Span) (cpu pages first : ℕ) → s.pages ≡ c.block_pages → LeavesApart (SettlingBlock s cpu pages) (Settle ((s, kind.Block cpu) ∷ []) first)
  settles_block s cpu pages first e =
      settle_out_moves c m k _ _ ((s, kind.Block cpu) ∷ []) first (s ∷ []) (λ page. refl)
      (λ i p at. (s, single_there i p at, ap (λ (p : Span × AreaKind). p.0) (sym (single_is i p at))))
      (λ counts page. omega (arith, ap (times_from counts page) (one_block s e), times_from-le counts page (s ∷ [])))
      (λ i t at page on. omega (arith, ap (times_from (other_than t.start) page) (one_block s e), times_from-other page (s ∷ []) i t at on))
    where
      single_is : (i : ℕ) (p : Span × AreaKind) → slice_get ((s, kind.Block cpu) ∷ []) i ≡ Some p → p ≡ (s, kind.Block cpu)
      single_is zero p h = cc
      single_is (suc i) p h = absurd cc

      single_there : (i : ℕ) (p : Span × AreaKind) → slice_get ((s, kind.Block cpu) ∷ []) i ≡ Some p → slice_get (s ∷ []) i ≡ Some s
      single_there zero p h = refl
      single_there (suc i) p h = absurd cc

  settles_groups : (base chunk bytes align first : ℕ) → LeavesApart (SettlingGroups base chunk bytes align) (Settle (group_areas c chunk base) first)
  settles_groups base chunk bytes align first =
      settle_out_moves c m k _ _ (group_areas c chunk base) first (groups_at c base) (λ page. groups_not_plain page k first chunk 0 (groups_at c base))
      (λ i p at. (p.0, group_kinds_were chunk 0 (groups_at c base) i p at, refl))
      (λ counts page. omega (arith, times_from-le counts page (groups_at c base)))
      (λ i s at page on. omega (arith, times_from-other page (groups_at c base) i s at on))

  -- the areas of blocks and chunks that are out
  starts_count : (counts : ℕ → Bool) (starts : List ℕ) → ((start : ℕ) → is_among starts start ≡ true → counts start ≡ true) → (i : ℕ) (s : Span) → slice_get (block_spans c starts) i ≡ Some s → counts s.start ≡ true
  starts_count counts starts all i s at =
      let w = map_was (λ start. span start c.block_pages) starts i s at in
      ap (λ (s : Span). counts s.start) (sym w.2) ∙ all w.0 (among_itself starts i w.0 w.1)
    where
      among_itself : (starts : List ℕ) (i start : ℕ) → slice_get starts i ≡ Some start → is_among starts start ≡ true
      among_itself starts i start at = ap (λ starts. is_among starts start) (sym (map-id starts)) ∙ among_map (λ n. n) starts i start at

  unlinks_blocks : (starts : List ℕ) (own own' : (ℕ → Bool) → ℕ → ℕ) → ((counts : ℕ → Bool) (page : ℕ) → own counts page ≡ times_from counts page (block_spans c starts))
      → ((counts : ℕ → Bool) (page : ℕ) → own' counts page ≡ times page (block_spans c starts)) → MovesApart c (pool_of m) (pool_of (effect_as c m k (Unlink starts))) own own'
  unlinks_blocks starts own own' e e' =
      unlink_moves c m k own own' starts (λ counts page all. omega (arith, e counts page, e' counts page, times_from-all counts page (block_spans c starts) (starts_count counts starts all)))

  unlinks_groups : (base : ℕ) (own own' : (ℕ → Bool) → ℕ → ℕ) → ((counts : ℕ → Bool) (page : ℕ) → own counts page ≡ times_from counts page (groups_at c base))
      → ((counts : ℕ → Bool) (page : ℕ) → own' counts page ≡ times page (groups_at c base)) → MovesApart c (pool_of m) (pool_of (effect_as c m k (Unlink (group_starts c base)))) own own'
  unlinks_groups base own own' e e' =
      unlink_moves c m k own own' (group_starts c base) (λ counts page all. omega (
        arith,
        e counts page,
        e' counts page,
        times_from-all counts page (groups_at c base) (λ i s at. all s.start (among_map (λ (s : Span). s.start) (groups_at c base) i s at)),
      ))

  -- A purge.

  spans-append : (counts : ℕ → Bool) (page : ℕ) (starts more : List ℕ)
      → times_from counts page (block_spans c (starts ++ more)) ≡ times_from counts page (block_spans c starts) + times_from counts page (block_spans c more)
  spans-append counts page starts more = grind (arith, map-append, sum_by-append)

  fragments_less : (gone : List ℕ) (extra : Option Span) (after : Then) (counts : ℕ → Bool) (page : ℕ) → of_place c (after_fragments gone extra after) counts page ≤ times_from counts page (block_spans c gone)
  fragments_less gone extra after counts page = grind arith

  fragments : (cpu : ℕ) (gone : List ℕ) (extra : Option Span) (after : Then) → LeavesApart (PurgeFragmenting cpu gone extra after) (Fragment cpu (fragmented c cpu m.blocks))
  fragments cpu gone extra after =
      let more : List ℕ = fragmented c cpu m.blocks in
      blocks_move c m k _ _ (filter (λ (b : Block). not ((b.cpu == cpu) && is_among (fragmented c cpu m.blocks) b.start)) m.blocks)
      (λ counts page. omega (
        arith,
        blocks_leave c counts page cpu m.blocks,
        spans-append counts page gone more,
        if_less (nat_lt (suc cpu) (cpus c)) (Go (PurgeFragmenting (suc cpu) (gone ++ more) extra after)) (Go (after_fragments (gone ++ more) extra after)) counts page
            (times_from counts page (block_spans c (gone ++ more))) (omega arith) (fragments_less (gone ++ more) extra after counts page),
      ))

  -- Parts.

  -- Objects and chunks.

  changes_chunk : (number : ℕ) (change : Chunk → Chunk) (own own' : (ℕ → Bool) → ℕ → ℕ) → ((h : Chunk) → (change h).base ≡ h.base) → ((counts : ℕ → Bool) (page : ℕ) → own' counts page ≤ own counts page)
      → MovesApart c (pool_of m) (record (pool_of m) { chunks = change_chunk number change m.chunks }) own own'
  changes_chunk number change own own' keeps less = chunks_move c m k own own' (change_chunk number change m.chunks) (λ counts page. omega (arith, less counts page, chunks_changed c counts page number change m.chunks keeps))

  spares : (o : Option Chunk) → spare_chunk m.chunks ≡ o → LeavesApart Sparing (sparing c o)
  spares None e = quiet _ _ (λ counts page. omega arith)
  spares (Some h) e = chunks_move c m k _ _ (filter (λ (other : Chunk). not (other.number == h.number)) m.chunks) (λ counts page. omega (arith, chunk_spared c counts page m.chunks h e))

  pub place_moves : IsSetup c → (place : Place) → IsSoundPlace c m k place → IfSome (given c m (ask c place)) (LeavesApart place)
  place_moves is Over sound = tt
  place_moves is (Refusing reply) sound = quiet _ _ (λ counts page. omega arith)
  place_moves is (Finding search aim) sound = finds is (of_place c (Finding search aim)) aim (Go (PurgeTaking None (SearchAgain search aim))) (λ counts page. omega arith) search
  place_moves is (FindingAgain search aim) sound = finds is (of_place c (FindingAgain search aim)) aim (without_space aim) (not_both aim) search
  place_moves is (MappingArea s kd) sound = grind (arith, of_two, quiet)
  place_moves is (Dropping s) sound = drop_moves c m k _ _ s (λ counts page. omega arith)
  place_moves is (SettlingArea s kd) sound = settle_plain_moves c m k _ _ s kd m.next_area sound (λ counts page. omega arith)
  place_moves is (Removing start serial) sound = removes start serial (named_areas start serial m.areas) refl sound
  place_moves is (UnmappingArea area) sound = quiet _ _ (λ counts page. omega arith)
  place_moves is (Waiting spans after) sound =
      wait_moves c m k _ _ spans (sum_of_pages (m.waiting ++ spans)) (λ counts page. let less = if_less (nat_lt c.lazy (sum_of_pages (m.waiting ++ spans))) (Go (PurgeTaking None after)) (go_on after) counts page 0 (omega arith) (go_on_less after counts page) in omega arith)
  place_moves is (PurgeTaking extra after) sound = grind (arith, quiet)
  place_moves is (PurgeFragmenting cpu gone extra after) sound = fragments cpu gone extra after
  place_moves is (PurgeUnlinking gone extra after) sound = unlinks_blocks gone _ _ (λ counts page. omega arith) (λ counts page. omega arith)
  place_moves is (PurgeWaiting gone extra after) sound = wait_moves c m k _ _ (block_spans c gone) (sum_of_pages (m.waiting ++ block_spans c gone)) (λ counts page. omega arith)
  place_moves is (PurgeCollecting extra after) sound = grind (arith, take_waiting_moves, of_next)
  place_moves is (PurgeFlushing s waited after) sound = grind (arith, quiet, of_next)
  place_moves is (PurgeReturning waited after) sound = return_moves c m k _ _ waited (λ counts page. omega arith)
  place_moves is (PurgeGiving after) sound = quiet _ _ (λ counts page. omega (arith, go_on_less after counts page))
  place_moves is (CuttingPart cpu pages) sound = grind (arith, quiet, blocks_move, blocks_changed)
  place_moves is (SettlingBlock s cpu pages) sound = settles_block s cpu pages m.next_area sound.0
  place_moves is (AddingBlock at) sound = grind (arith, blocks_move, sum_by_push)
  place_moves is (MappingPart at) sound = of_two (LeavesApart (MappingPart at)) _ (NoFrames at.pages) (MapPages (mapped_pages at)) (quiet _ _ (λ counts page. omega arith)) (quiet _ _ (λ counts page. omega arith))
  place_moves is (SettlingPart at) sound = grind (arith, blocks_move, blocks_changed)
  place_moves is (BeginningUnmap cpu page serial) sound = grind (arith, quiet, blocks_move, blocks_changed)
  place_moves is (UnmappingPart at) sound = quiet _ _ (λ counts page. omega arith)
  place_moves is (Retiring at reply) sound = grind (arith, blocks_move, block_spent, blocks_left)
  place_moves is (UnlinkingBlock start reply) sound = unlinks_blocks (start ∷ []) _ _ (λ counts page. omega arith) (λ counts page. omega arith)
  place_moves is (LookingAtDirty cpu ranges) sound = grind (arith, quiet, of_next, if_less)
  place_moves is (TakingAlloc bytes align) sound = grind (arith, quiet)
  place_moves is (Choosing bytes align) sound = grind (arith, quiet, chunks_move, chunks_changed)
  place_moves is (SettlingGroups base chunk bytes align) sound = settles_groups base chunk bytes align m.next_area
  place_moves is (AddingChunk base chunk bytes align) sound = grind (arith, quiet, chunks_move, chunks_changed, sum_by_push)
  place_moves is (Populating at missing) sound = grind (arith, of_two, quiet)
  place_moves is (SettlingObject at) sound = changes_chunk at.chunk (with_live_object at (Lives m.next_object)) _ _ (λ h. refl) (λ counts page. omega arith)
  place_moves is (Unplacing at) sound = changes_chunk at.chunk (without_object at) _ _ (λ h. refl) (λ counts page. omega arith)
  place_moves is (GivingAlloc reply made) sound = quiet _ _ (λ counts page. omega arith)
  place_moves is (ChoosingAtomic bytes align) sound = grind (arith, quiet, chunks_move, chunks_changed)
  place_moves is (Zeroing at) sound = quiet _ _ (λ counts page. omega arith)
  place_moves is (SettlingAtomic at) sound = changes_chunk at.chunk (with_live_object at (Lives m.next_object)) _ _ (λ h. refl) (λ counts page. omega arith)
  place_moves is (FreeingObject at serial) sound = grind (arith, quiet, chunks_move, chunks_changed)
  place_moves is (Adding at serial cpu index amount) sound = quiet _ _ (λ counts page. omega arith)
  place_moves is (Summing at serial index) sound = quiet _ _ (λ counts page. omega arith)
  place_moves is TakingToBalance sound = grind (arith, quiet)
  place_moves is Sparing sound = spares (spare_chunk m.chunks) refl
  place_moves is (Depopulating base populated) sound = quiet _ _ (λ counts page. omega arith)
  place_moves is (UnlinkingGroups base) sound = unlinks_groups base _ _ (λ counts page. omega arith) (λ counts page. omega arith)
  place_moves is (NextFill filled) sound = grind (arith, quiet)
  place_moves is (Filling chunk base page filled) sound = grind (arith, of_two, quiet)
  place_moves is (NotingFilled chunk page filled) sound = changes_chunk chunk (with_page page) _ _ (λ h. refl) (λ counts page. omega arith)
