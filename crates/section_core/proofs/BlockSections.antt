-- The sections over the blocks of a processor.
use Rattle.std.proofs.Common.{◌==◌, ◌&&◌, ◌≡◌, ℕ, suc, ◌+◌, ◌<◌, true, not, if◌then◌else◌, List, [], ◌∷◌, ◌++◌, length, filter, replicate, slice_index, slice_set, Option, Some, None, add-one, refl, ap, sym, subst, ◌∙◌, ◌≢◌, IsSomeAnd, arith}
use Rattle.std.proofs.lemmas.List.{length-replicate, length-set, get_or-set_same}
use Rattle.std.proofs.lemmas.Bool.Decides.{nat_tests}
use Rattle.std.proofs.lemmas.List.Elements.{filter-append}
use Rattle.vm_model.specs.declared.areas.Span.{Span}
use Rattle.vm_model.specs.declared.calls.Reply.{Reply}
use Rattle.vm_model.specs.declared.calls.Reply.TheVariants as reply
use Rattle.vm_model.specs.Space.{address_of, is_among}
use Rattle.vm_model.specs.Setup.{Setup, cpus}
use Rattle.vm_model.specs.PlainMap.{Block, InHand, Lives, Ended}
use Rattle.vm_model.specs.Blocks as model
use Rattle.vm_model.specs.Blocks.{PartAt, first_page, blocks_of, change_block, with_part, with_life, set_life, without_spent, spends, is_spent, dirty_hull}
use Rattle.vm_model.specs.Events.{ForPages, CutPart, NoPart, AddBlock, SettlePart, BeginUnmap, PartNotLive, Retire, Fragment, Dirty}
use Rattle.vm_model.specs.Places.{Then, ForBlock, MadeNothing, MadePart, Finding, CuttingPart, AddingBlock, MappingPart, SettlingPart, BeginningUnmap, UnmappingPart, Retiring, UnlinkingBlock, PurgeFragmenting, LookingAtDirty, ask}
use Rattle.vm_model.specs.Given.{given, cutting, beginning}
use Rattle.vm_model.specs.Next.{Next, Go, Answer, next}
use Rattle.vm_model.specs.History.{Local, moved_to}
use Rattle.vm_model.specs.Parts.{CpuBlocks, map_with}
use Rattle.map_parts.proofs.CpuRegion.{blocks_of-change}
use Rattle.map_parts.proofs.Filters.{filter_comm}
use Rattle.map_blocks.specs.BlockRows as rows
use Rattle.map_blocks.specs.BlockRows.{BlockRows, sized, with_cut, with_block, with_settled, with_held, with_ended, without_blocks}
use Rattle.section_core.specs.RegionSides.{blocks_region}
use Rattle.section_core.specs.MadeSections.{IsMoved, MayGrow, TakesMemory}
use Rattle.section_core.specs.StandsWell.{AreOwn}
use Rattle.section_core.proofs.Moved.{moved_as}

-- a region of a processor's blocks
region_by : (cpu pages : ℕ) (blocks blocks' : List Block) (next next' : ℕ) → blocks ≡ blocks' → next ≡ next' → CpuBlocks cpu pages blocks next ≡ CpuBlocks cpu pages blocks' next'
region_by cpu pages blocks blocks' next next' b n = ap (λ bs. CpuBlocks cpu pages bs next) b ∙ ap (CpuBlocks cpu pages blocks') n

module _ (l : Local) (side : BlockRows) (own : AreOwn l.setup side) where
  abbrev numbers : List ℕ
  numbers = slice_set (replicate (cpus l.setup) 1) side.cpu side.next

  there : side.cpu < length (replicate {A = ℕ} (cpus l.setup) 1)
  there = let low = own.cpu in omega (arith, length-replicate {A = ℕ} (cpus l.setup) 1)

  next_is : slice_index numbers side.cpu ≡ side.next
  next_is = get_or-set_same (replicate (cpus l.setup) 1) side.cpu side.next 0 there

  -- a change of single blocks
  changed : (start : ℕ) (change : Block → Block) → ((b : Block) → (change b).cpu ≡ b.cpu) → change_block start change side.blocks ≡ blocks_of side.cpu (change_block start change side.blocks)
  changed start change keeps = sym (blocks_of-change side.cpu start change side.blocks keeps ∙ ap (change_block start change) own.own)

  stays : side.blocks ≡ blocks_of side.cpu side.blocks
  stays = sym own.own

  sized_as : {X : Type 0} (f : Setup → X) → f (sized side.pages) ≡ f (sized l.setup.block_pages)
  sized_as f = ap (λ n. f (sized n)) own.pages

  pub cuts : (pages : ℕ) (at : PartAt) (l' : Local) → l.place ≡ CuttingPart side.cpu pages → rows.part_to_cut pages side ≡ Some at → l' ≡ moved_to l (Go (MappingPart at))
      → IsMoved l (blocks_region side) l' (blocks_region (with_cut l.caller at side))
  cuts pages at l' place found local =
      moved_as l (blocks_region side) (CuttingPart side.cpu pages) (CutPart at) (Go (MappingPart at)) l' (blocks_region (with_cut l.caller at side)) place
      (ap (λ o. Some (cutting side.cpu pages o)) (sym (sized_as (λ c. model.part_to_cut c side.cpu pages side.blocks)) ∙ found)) refl local
      (region_by side.cpu side.pages _ _ side.next (slice_index numbers side.cpu) (changed at.block (with_part l.caller at) (λ b. refl)) (sym next_is))

  pub cuts_none : (pages : ℕ) (l' : Local) → l.place ≡ CuttingPart side.cpu pages → rows.part_to_cut pages side ≡ None → l' ≡ moved_to l (Go (Finding (ForPages l.setup.block_pages l.setup.block_pages) (ForBlock side.cpu pages)))
      → IsMoved l (blocks_region side) l' (blocks_region side)
  cuts_none pages l' place found local =
      moved_as l (blocks_region side) (CuttingPart side.cpu pages) (NoPart side.cpu pages) (Go (Finding (ForPages l.setup.block_pages l.setup.block_pages) (ForBlock side.cpu pages))) l' (blocks_region side) place
      (ap (λ o. Some (cutting side.cpu pages o)) (sym (sized_as (λ c. model.part_to_cut c side.cpu pages side.blocks)) ∙ found)) refl local
      (region_by side.cpu side.pages side.blocks _ side.next (slice_index numbers side.cpu) stays (sym next_is))

  abbrev new_at : PartAt → Block
  new_at at = with_part l.caller at (record { start = at.block; cpu = at.cpu; parts = [] })

  pub adds : (at : PartAt) (l' : Local) → at.cpu ≡ side.cpu → l.place ≡ AddingBlock at → l' ≡ moved_to l (Go (MappingPart at)) → IsMoved l (blocks_region side) l' (blocks_region (with_block l.caller at side))
  adds at l' mine place local =
      moved_as l (blocks_region side) (AddingBlock at) (AddBlock at) (Go (MappingPart at)) l' (blocks_region (with_block l.caller at side)) place refl refl local
      (region_by side.cpu side.pages _ _ side.next (slice_index numbers side.cpu) (sym added) (sym next_is))
    where
      kept : blocks_of side.cpu (new_at at ∷ []) ≡ new_at at ∷ []
      kept = let same : (at.cpu == side.cpu) ≡ true = grind (arith, nat_tests) in grind arith

      added : blocks_of side.cpu (side.blocks ++ new_at at ∷ []) ≡ side.blocks ++ new_at at ∷ []
      added = filter-append (λ (b : Block). b.cpu == side.cpu) side.blocks (new_at at ∷ []) ∙ ap (λ bs. bs ++ blocks_of side.cpu (new_at at ∷ [])) own.own ∙ ap (λ bs. side.blocks ++ bs) kept

  pub settles : (at : PartAt) (l' : Local) → at.cpu ≡ side.cpu → l.place ≡ SettlingPart at → l' ≡ moved_to l (Answer (reply.Address (address_of (first_page at))) (MadePart at.cpu (first_page at) side.next))
      → IsMoved l (blocks_region side) l' (blocks_region (with_settled at side))
  settles at l' mine place local =
      moved_as l (blocks_region side) (SettlingPart at) (SettlePart at side.next) (Answer (reply.Address (address_of (first_page at))) (MadePart at.cpu (first_page at) side.next)) l' (blocks_region (with_settled at side)) place
      (ap (λ n. Some (SettlePart at n)) (ap (slice_index numbers) mine ∙ next_is)) refl local
      (region_by side.cpu side.pages _ _ (side.next + 1) _ (changed at.block (with_life at (Lives side.next)) (λ b. refl)) (sym risen))
    where
      risen : slice_index (slice_set numbers at.cpu (suc side.next)) side.cpu ≡ side.next + 1
      risen =
          ap (λ n. slice_index (slice_set numbers n (suc side.next)) side.cpu) mine
          ∙ get_or-set_same numbers side.cpu (suc side.next) 0 (let low = there in omega (arith, length-set (replicate (cpus l.setup) 1) side.cpu side.next)) ∙ sym (add-one side.next)

  pub begins : (page serial : ℕ) (at : PartAt) (l' : Local) → l.place ≡ BeginningUnmap side.cpu page serial → rows.named_parts page serial side ≡ at ∷ [] → l' ≡ moved_to l (Go (UnmappingPart at))
      → IsMoved l (blocks_region side) l' (blocks_region (with_held l.caller at side))
  begins page serial at l' place found local =
      moved_as l (blocks_region side) (BeginningUnmap side.cpu page serial) (BeginUnmap at serial) (Go (UnmappingPart at)) l' (blocks_region (with_held l.caller at side)) place
      (ap (λ parts. Some (beginning side.cpu page serial parts)) found) refl local
      (region_by side.cpu side.pages _ _ side.next (slice_index numbers side.cpu) (changed at.block (with_life at (InHand l.caller)) (λ b. refl)) (sym next_is))

  pub begins_none : (page serial : ℕ) (l' : Local) → l.place ≡ BeginningUnmap side.cpu page serial → rows.named_parts page serial side ≡ [] → l' ≡ moved_to l (Answer reply.NotLive MadeNothing)
      → IsMoved l (blocks_region side) l' (blocks_region side)
  begins_none page serial l' place found local =
      moved_as l (blocks_region side) (BeginningUnmap side.cpu page serial) (PartNotLive side.cpu page serial) (Answer reply.NotLive MadeNothing) l' (blocks_region side) place
      (ap (λ parts. Some (beginning side.cpu page serial parts)) found) refl local
      (region_by side.cpu side.pages side.blocks _ side.next (slice_index numbers side.cpu) stays (sym next_is))

  -- the blocks once a part has ended
  ended : (at : PartAt) → (with_ended at side).blocks ≡ blocks_of side.cpu (without_spent l.setup (set_life at Ended side.blocks))
  ended at =
      ap (λ n. without_spent (sized n) (set_life at Ended side.blocks)) own.pages
      ∙ ap (filter (λ (b : Block). not (is_spent l.setup b))) (changed at.block (with_life at Ended) (λ b. refl))
      ∙ filter_comm (λ (b : Block). not (is_spent l.setup b)) (λ (b : Block). b.cpu == side.cpu) (set_life at Ended side.blocks)

  pub retires : (at : PartAt) (r : Reply) (n : Next) (l' : Local) → l.place ≡ Retiring at r → (if spends (sized side.pages) at (set_life at Ended side.blocks) then Go (UnlinkingBlock at.block r) else Answer r MadeNothing) ≡ n → l' ≡ moved_to l n
      → IsMoved l (blocks_region side) l' (blocks_region (with_ended at side))
  retires at r n l' place on local =
      moved_as l (blocks_region side) (Retiring at r) (Retire at (spends l.setup at (set_life at Ended side.blocks))) n l' (blocks_region (with_ended at side)) place refl
      (ap (λ spent. if spent then Go (UnlinkingBlock at.block r) else Answer r MadeNothing) (sym (sized_as (λ c. spends c at (set_life at Ended side.blocks)))) ∙ on) local
      (region_by side.cpu side.pages _ _ side.next (slice_index numbers side.cpu) (ended at) (sym next_is))

  pub fragments : (gone : List ℕ) (extra : Option Span) (after : Then) (l' : Local) → l.place ≡ PurgeFragmenting side.cpu gone extra after
      → l' ≡ moved_to l (next l.setup l.place (Fragment side.cpu (rows.fragmented side))) → IsMoved l (blocks_region side) l' (blocks_region (without_blocks (rows.fragmented side) side))
  fragments gone extra after l' place local =
      moved_as l (blocks_region side) (PurgeFragmenting side.cpu gone extra after) (Fragment side.cpu (rows.fragmented side)) (next l.setup l.place (Fragment side.cpu (rows.fragmented side))) l' (blocks_region (without_blocks (rows.fragmented side) side)) place
      (ap (λ starts. Some (Fragment side.cpu starts)) (sym (sized_as (λ c. model.fragmented c side.cpu side.blocks)))) (ap (λ p. next l.setup p (Fragment side.cpu (rows.fragmented side))) (sym place)) local
      (region_by side.cpu side.pages _ _ side.next (slice_index numbers side.cpu) (ap (filter (λ (b : Block). not ((b.cpu == side.cpu) && is_among (rows.fragmented side) b.start))) stays
      ∙ filter_comm (λ (b : Block). not ((b.cpu == side.cpu) && is_among (rows.fragmented side) b.start)) (λ (b : Block). b.cpu == side.cpu) side.blocks) (sym next_is))

  -- only a processor with a fragmented block has a purge want memory
  pub fragments_with_memory : (gone : List ℕ) (extra : Option Span) (after : Then) → l.place ≡ PurgeFragmenting side.cpu gone extra after → rows.fragmented side ≢ [] → TakesMemory l (blocks_region side)
  fragments_with_memory gone extra after place some =
      subst (λ s. IsSomeAnd s MayGrow)
      (sym (ap (λ p. given l.setup (map_with l.setup (blocks_region side)) (ask l.setup p)) place ∙ ap (λ starts. Some (Fragment side.cpu starts)) (sym (sized_as (λ c. model.fragmented c side.cpu side.blocks))))) some

  pub looks : (ranges : List Span) (l' : Local) → l.place ≡ LookingAtDirty side.cpu ranges → l' ≡ moved_to l (next l.setup l.place (Dirty side.cpu (dirty_hull side.cpu side.blocks))) → IsMoved l (blocks_region side) l' (blocks_region side)
  looks ranges l' place local =
      moved_as l (blocks_region side) (LookingAtDirty side.cpu ranges) (Dirty side.cpu (dirty_hull side.cpu side.blocks)) (next l.setup l.place (Dirty side.cpu (dirty_hull side.cpu side.blocks))) l' (blocks_region side) place
      refl (ap (λ p. next l.setup p (Dirty side.cpu (dirty_hull side.cpu side.blocks))) (sym place)) local
      (region_by side.cpu side.pages side.blocks _ side.next (slice_index numbers side.cpu) stays (sym next_is))
