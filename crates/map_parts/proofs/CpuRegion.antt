-- Sections over the blocks of one processor: each over these alone leaves what it leaves in the map.
use Rattle.std.proofs.Common.{◌≡◌, ◌≢◌, ℕ, suc, ◌+◌, ◌<◌, Bool, not, ◌&&◌, ◌==◌, List, [], ◌∷◌, ◌++◌, map, filter, find, flat_map, filter_map, option_map, nat_lt, nat_le, replicate, Option, Some, None, is_some, slice_get, slice_set, slice_index, refl, ap, sym, ◌∙◌, arith}
use Rattle.std.proofs.lemmas.List.{length-replicate, length-set, append-nil, get_or-set_same, get_or-set_other}
use Rattle.std.proofs.lemmas.List.Elements.{filter-append}
use Rattle.vm_model.specs.Space.{is_among, hull}
use Rattle.vm_model.specs.Setup.{Setup, cpus}
use Rattle.vm_model.specs.PlainMap.{PlainMap, Block, Life, Lives, Ended}
use Rattle.vm_model.specs.Blocks.{PartAt, rounded, free_of, is_named, dirty_range, blocks_of, part_to_cut, cut_from, named_parts, named_in, fragmented, is_fragmented, change_block, with_part, with_life, set_life, spends, is_spent, without_spent}
use Rattle.vm_model.specs.Events.{SettlePart, Retire, Fragment, Dirty}
use Rattle.vm_model.specs.Effects.{effect_as}
use Rattle.vm_model.specs.Places.{AskPart, AskAddBlock, AskSettlePart, AskBegin, AskRetire, AskFragment, AskDirty}
use Rattle.vm_model.specs.Given.{cutting, beginning}
use Rattle.vm_model.specs.Parts.{Region, CpuBlocks, regions_of, map_with, region_in, cpu_blocks}
use Rattle.map_parts.specs.Locality.{FallsApart, IsOfCpu, IsOverOneRegion}
use Rattle.map_parts.proofs.Filters.{filter_comm, filter_each, filter_passes, filter_within, filter_twice, filter-map, map_same, map-count_set, slice_get-map_count, found_there, find-filter, flat_map_each, map_was, option_map_was}
use Rattle.map_parts.proofs.Tests.{both_true, is_equal, is_other, is_same}

-- Blocks of one processor.

pub blocks_of-change : (cpu start : ℕ) (change : Block → Block) (blocks : List Block) → ((b : Block) → (change b).cpu ≡ b.cpu)
    → blocks_of cpu (change_block start change blocks) ≡ change_block start change (blocks_of cpu blocks)
blocks_of-change cpu start change blocks keeps = grind (arith, filter-map)

-- the blocks of this processor alone, changed
own_changed : (cpu start : ℕ) (change : Block → Block) (blocks : List Block) → ((b : Block) → (change b).cpu ≡ b.cpu)
    → blocks_of cpu (change_block start change (blocks_of cpu blocks)) ≡ blocks_of cpu (change_block start change blocks)
own_changed cpu start change blocks keeps = grind (arith, blocks_of-change, filter_twice)

others_changed : (cpu other start : ℕ) (change : Block → Block) (blocks : List Block) → ((b : Block) → (change b).cpu ≡ b.cpu) → IsOfCpu start cpu blocks → other ≢ cpu
    → blocks_of other (change_block start change blocks) ≡ blocks_of other blocks
others_changed cpu other start change blocks keeps own n = grind (arith, blocks_of-change, map_same, filter_within, is_same, filter_passes, is_other)

-- The list of regions.

from_eight : (k : ℕ) → 8 + k ≡ suc (suc (suc (suc (suc (suc (suc (suc k)))))))
from_eight k = omega arith

module _ (c : Setup) (m : PlainMap) (k : ℕ) where
  slice_get-cpu : (cpu : ℕ) → cpu < cpus c → slice_get (regions_of c m) (8 + cpu) ≡ Some (cpu_blocks m c.block_pages cpu)
  slice_get-cpu cpu l = ap (slice_get (regions_of c m)) (from_eight cpu) ∙ slice_get-map_count (cpu_blocks m c.block_pages) (cpus c) 0 cpu l ∙ ap (λ i. Some (cpu_blocks m c.block_pages i)) (let e : 0 + cpu ≡ cpu = omega arith in e)

  -- a change of the blocks and next serials of one processor
  set-cpu : (cpu : ℕ) (blocks : List Block) (nexts : List ℕ) (r : Region) → cpu_blocks (record m { blocks = blocks; next_part = nexts }) c.block_pages cpu ≡ r
      → ((other : ℕ) → other ≢ cpu → cpu_blocks (record m { blocks = blocks; next_part = nexts }) c.block_pages other ≡ cpu_blocks m c.block_pages other)
      → regions_of c (record m { blocks = blocks; next_part = nexts }) ≡ slice_set (regions_of c m) (8 + cpu) r
  set-cpu cpu blocks nexts r own others = grind (arith, map-count_set, from_eight)

  module _ (whole : FallsApart c m) where
    next_alone : (cpu next : ℕ) → cpu < cpus c → slice_index (slice_set (replicate (cpus c) 1) cpu next) cpu ≡ next
    next_alone cpu next l = get_or-set_same (replicate (cpus c) 1) cpu next 0 (omega (arith, length-replicate {A = ℕ} (cpus c) 1))

    -- the region alone has itself
    again : (cpu : ℕ) → cpu < cpus c → cpu_blocks m c.block_pages cpu ≡ cpu_blocks (map_with c (cpu_blocks m c.block_pages cpu)) c.block_pages cpu
    again cpu l = grind (arith, filter_twice, next_alone)

    left_by_none : (cpu : ℕ) → cpu < cpus c → regions_of c m ≡ slice_set (regions_of c m) (8 + cpu) (cpu_blocks (map_with c (cpu_blocks m c.block_pages cpu)) c.block_pages cpu)
    left_by_none cpu l = set-cpu cpu m.blocks m.next_part _ (again cpu l) (λ other n. refl)

    -- one block of the processor changed
    left_by_change : (cpu start : ℕ) (change : Block → Block) → cpu < cpus c → ((b : Block) → (change b).cpu ≡ b.cpu) → IsOfCpu start cpu m.blocks
        → regions_of c (record m { blocks = change_block start change m.blocks })
        ≡ slice_set (regions_of c m) (8 + cpu) (cpu_blocks (record (map_with c (cpu_blocks m c.block_pages cpu)) { blocks = change_block start change (blocks_of cpu m.blocks) }) c.block_pages cpu)
    left_by_change cpu start change l keeps own =
        set-cpu cpu (change_block start change m.blocks) m.next_part _
        (ap (λ blocks. CpuBlocks cpu c.block_pages blocks (slice_index m.next_part cpu)) (sym (own_changed cpu start change m.blocks keeps))
        ∙ ap (CpuBlocks cpu c.block_pages (blocks_of cpu (change_block start change (blocks_of cpu m.blocks)))) (sym (next_alone cpu (slice_index m.next_part cpu) l)))
        (λ other n. ap (λ blocks. CpuBlocks other c.block_pages blocks (slice_index m.next_part other)) (others_changed cpu other start change m.blocks keeps own n))

    after_cut : (cpu pages : ℕ) → cpu < cpus c → (o : Option PartAt) → part_to_cut c cpu pages m.blocks ≡ o
        → regions_of c (effect_as c m k (cutting cpu pages o)) ≡ slice_set (regions_of c m) (8 + cpu) (region_in (effect_as c (map_with c (cpu_blocks m c.block_pages cpu)) k (cutting cpu pages o)) (cpu_blocks m c.block_pages cpu))
    after_cut cpu pages l None e = left_by_none cpu l
    after_cut cpu pages l (Some at) e = grind (arith, left_by_change, option_map_was, found_there, filter_within, is_same, filter_passes)

    pub cut : (cpu pages : ℕ) → cpu < cpus c → IsOverOneRegion c m k (AskPart cpu pages) (8 + cpu)
    cut cpu pages l = record {
      region = cpu_blocks m c.block_pages cpu;
      here = slice_get-cpu cpu l;
      moves_alike = refl;
      gives_alike = ap (λ blocks. Some (cutting cpu pages (option_map (cut_from c pages) (find (λ (b : Block). nat_le (rounded pages) (free_of c b)) (filter (λ (b : Block). nat_lt 0 (free_of c b)) blocks)))))
          (filter_twice (λ (b : Block). b.cpu == cpu) m.blocks);
      leaves_alike = after_cut cpu pages l (part_to_cut c cpu pages m.blocks) refl;
    }

    -- a live part that is named is in a block of the processor
    named_of_cpu : (cpu page serial : ℕ) (at : PartAt) (parts : List PartAt) → named_parts cpu page serial m.blocks ≡ at ∷ parts → IsOfCpu at.block cpu m.blocks
    named_of_cpu cpu page serial at parts h =
        flat_map_each (λ (at : PartAt). IsOfCpu at.block cpu m.blocks) (named_in page serial) (blocks_of cpu m.blocks)
        (λ i b there j at' e.
        let w = filter_within _ m.blocks i b there in
        let made = map_was _ (filter (is_named page serial b) b.parts) j at' e in
        let is : b.cpu ≡ cpu = is_same b.cpu cpu (filter_passes (λ (b : Block). b.cpu == cpu) m.blocks i b there) in
        λ i' b' there' f. whole.own_starts w.0 b w.1 i' b' there' (f ∙ ap (λ (a : PartAt). a.block) (sym made.2)) ∙ is)
        0 at (ap (λ parts. slice_get parts 0) h)

    after_begin : (cpu page serial : ℕ) → cpu < cpus c → (parts : List PartAt) → named_parts cpu page serial m.blocks ≡ parts
        → regions_of c (effect_as c m k (beginning cpu page serial parts)) ≡ slice_set (regions_of c m) (8 + cpu) (region_in (effect_as c (map_with c (cpu_blocks m c.block_pages cpu)) k (beginning cpu page serial parts)) (cpu_blocks m c.block_pages cpu))
    after_begin cpu page serial l parts e = grind (arith, left_by_none, left_by_change, named_of_cpu)

    pub begin_unmap : (cpu page serial : ℕ) → cpu < cpus c → IsOverOneRegion c m k (AskBegin cpu page serial) (8 + cpu)
    begin_unmap cpu page serial l = record {
      region = cpu_blocks m c.block_pages cpu;
      here = slice_get-cpu cpu l;
      moves_alike = refl;
      gives_alike = ap (λ blocks. Some (beginning cpu page serial (flat_map (named_in page serial) blocks))) (filter_twice (λ (b : Block). b.cpu == cpu) m.blocks);
      leaves_alike = after_begin cpu page serial l (named_parts cpu page serial m.blocks) refl;
    }

    pub dirty : (cpu : ℕ) → cpu < cpus c → IsOverOneRegion c m k (AskDirty cpu) (8 + cpu)
    dirty cpu l = record {
      region = cpu_blocks m c.block_pages cpu;
      here = slice_get-cpu cpu l;
      moves_alike = refl;
      gives_alike = ap (λ blocks. Some (Dirty cpu (hull (filter_map dirty_range blocks)))) (filter_twice (λ (b : Block). b.cpu == cpu) m.blocks);
      leaves_alike = left_by_none cpu l;
    }

    added_elsewhere : (cpu other : ℕ) (b : Block) → b.cpu ≡ cpu → other ≢ cpu → blocks_of other (m.blocks ++ b ∷ []) ≡ blocks_of other m.blocks
    added_elsewhere cpu other b e n = grind (arith, filter-append, append-nil, is_other)

    added_here : (cpu : ℕ) (b : Block) → blocks_of cpu (m.blocks ++ b ∷ []) ≡ blocks_of cpu (blocks_of cpu m.blocks ++ b ∷ [])
    added_here cpu b = grind (arith, filter-append, filter_twice)

    new_block : PartAt → Block
    new_block at = with_part k at (record { start = at.block; cpu = at.cpu; parts = [] })

    pub add_block : (at : PartAt) → at.cpu < cpus c → IsOverOneRegion c m k (AskAddBlock at) (8 + at.cpu)
    unfolding new_block
    add_block at l = record {
      region = cpu_blocks m c.block_pages at.cpu;
      here = slice_get-cpu at.cpu l;
      moves_alike = refl;
      gives_alike = refl;
      leaves_alike = set-cpu at.cpu (m.blocks ++ new_block at ∷ []) m.next_part _
          (ap (λ blocks. CpuBlocks at.cpu c.block_pages blocks (slice_index m.next_part at.cpu)) (added_here at.cpu (new_block at))
          ∙ ap (CpuBlocks at.cpu c.block_pages (blocks_of at.cpu (blocks_of at.cpu m.blocks ++ new_block at ∷ []))) (sym (next_alone at.cpu (slice_index m.next_part at.cpu) l)))
          (λ other n. ap (λ blocks. CpuBlocks other c.block_pages blocks (slice_index m.next_part other)) (added_elsewhere at.cpu other (new_block at) refl n));
    }

    -- a part that is settled takes the next serial
    next_set : (cpu serial : ℕ) → cpu < cpus c → slice_index (slice_set m.next_part cpu serial) cpu ≡ serial
    next_set cpu serial l = get_or-set_same m.next_part cpu serial 0 (omega (arith, whole.next_parts))

    next_set_alone : (cpu next serial : ℕ) → cpu < cpus c → slice_index (slice_set (slice_set (replicate (cpus c) 1) cpu next) cpu serial) cpu ≡ serial
    next_set_alone cpu next serial l = grind (arith, get_or-set_same, length-set, length-replicate)

    pub settle_part : (at : PartAt) → at.cpu < cpus c → IsOfCpu at.block at.cpu m.blocks → IsOverOneRegion c m k (AskSettlePart at) (8 + at.cpu)
    settle_part at l own =
        let serial : ℕ = slice_index m.next_part at.cpu in
        record {
          region = cpu_blocks m c.block_pages at.cpu;
          here = slice_get-cpu at.cpu l;
          moves_alike = refl;
          gives_alike = ap (λ n. Some (SettlePart at n)) (next_alone at.cpu (slice_index m.next_part at.cpu) l);
          leaves_alike = set-cpu at.cpu (set_life at (Lives serial) m.blocks) (slice_set m.next_part at.cpu (suc serial)) _
              (ap (λ blocks. CpuBlocks at.cpu c.block_pages blocks (slice_index (slice_set m.next_part at.cpu (suc serial)) at.cpu)) (sym (own_changed at.cpu at.block (with_life at (Lives serial)) m.blocks (λ b. refl)))
              ∙ ap (CpuBlocks at.cpu c.block_pages (blocks_of at.cpu (set_life at (Lives serial) (blocks_of at.cpu m.blocks)))) (next_set at.cpu (suc serial) l ∙ sym (next_set_alone at.cpu serial (suc serial) l)))
              (λ other n. ap (λ blocks. CpuBlocks other c.block_pages blocks (slice_index (slice_set m.next_part at.cpu (suc serial)) other)) (others_changed at.cpu other at.block (with_life at (Lives serial)) m.blocks (λ b. refl) own n)
              ∙ ap (CpuBlocks other c.block_pages (blocks_of other m.blocks)) (get_or-set_other m.next_part at.cpu other (suc serial) 0 n));
        }

    -- a part that ends may spend its block
    still_of_cpu : (at : PartAt) (life : Life) → IsOfCpu at.block at.cpu m.blocks → IsOfCpu at.block at.cpu (set_life at life m.blocks)
    still_of_cpu at life own i b there e = grind (arith, map_was, is_same)

    spends_alike : (at : PartAt) → IsOfCpu at.block at.cpu m.blocks → spends c at (set_life at Ended (blocks_of at.cpu m.blocks)) ≡ spends c at (set_life at Ended m.blocks)
    spends_alike at own =
        ap (spends c at) (sym (blocks_of-change at.cpu at.block (with_life at Ended) m.blocks (λ b. refl)))
        ∙ ap is_some (find-filter (λ (b : Block). (b.start == at.block) && is_spent c b) (λ (b : Block). b.cpu == at.cpu) (set_life at Ended m.blocks)
        (λ i b there p. is_equal b.cpu at.cpu (still_of_cpu at Ended own i b there (is_same b.start at.block (both_true _ (is_spent c b) p).0))))

    unspent_elsewhere : (other : ℕ) → without_spent c (blocks_of other m.blocks) ≡ blocks_of other m.blocks
    unspent_elsewhere other =
        filter_each (λ (b : Block). not (is_spent c b)) (blocks_of other m.blocks)
        (λ i b there. let w = filter_within (λ (b : Block). b.cpu == other) m.blocks i b there in ap not (whole.unspent w.0 b w.1))

    pub retire : (at : PartAt) → at.cpu < cpus c → IsOfCpu at.block at.cpu m.blocks → IsOverOneRegion c m k (AskRetire at) (8 + at.cpu)
    retire at l own = record {
      region = cpu_blocks m c.block_pages at.cpu;
      here = slice_get-cpu at.cpu l;
      moves_alike = refl;
      gives_alike = ap (λ b. Some (Retire at b)) (spends_alike at own);
      leaves_alike = set-cpu at.cpu (without_spent c (set_life at Ended m.blocks)) m.next_part _
          (ap (λ blocks. CpuBlocks at.cpu c.block_pages blocks (slice_index m.next_part at.cpu))
          (filter_comm (λ (b : Block). b.cpu == at.cpu) (λ (b : Block). not (is_spent c b)) (set_life at Ended m.blocks)
          ∙ ap (without_spent c) (sym (own_changed at.cpu at.block (with_life at Ended) m.blocks (λ b. refl)))
          ∙ filter_comm (λ (b : Block). not (is_spent c b)) (λ (b : Block). b.cpu == at.cpu) (set_life at Ended (blocks_of at.cpu m.blocks)))
          ∙ ap (CpuBlocks at.cpu c.block_pages (blocks_of at.cpu (without_spent c (set_life at Ended (blocks_of at.cpu m.blocks))))) (sym (next_alone at.cpu (slice_index m.next_part at.cpu) l)))
          (λ other n. ap (λ blocks. CpuBlocks other c.block_pages blocks (slice_index m.next_part other))
          (filter_comm (λ (b : Block). b.cpu == other) (λ (b : Block). not (is_spent c b)) (set_life at Ended m.blocks)
          ∙ ap (without_spent c) (others_changed at.cpu other at.block (with_life at Ended) m.blocks (λ b. refl) own n) ∙ unspent_elsewhere other));
    }

    -- fragmented blocks of the processor that go
    kept_elsewhere : (cpu other : ℕ) (gone : List ℕ) → other ≢ cpu → filter (λ (b : Block). not ((b.cpu == cpu) && is_among gone b.start)) (blocks_of other m.blocks) ≡ blocks_of other m.blocks
    kept_elsewhere cpu other gone n = grind (arith, filter_each, is_same, filter_passes, is_other)

    pub fragment : (cpu : ℕ) → cpu < cpus c → IsOverOneRegion c m k (AskFragment cpu) (8 + cpu)
    fragment cpu l =
        let gone : List ℕ = fragmented c cpu m.blocks in
        let stays : Block → Bool = λ b. not ((b.cpu == cpu) && is_among gone b.start) in
        record {
          region = cpu_blocks m c.block_pages cpu;
          here = slice_get-cpu cpu l;
          moves_alike = refl;
          gives_alike = ap (λ blocks. Some (Fragment cpu (map (λ (b : Block). b.start) (filter (is_fragmented c) (filter (λ (b : Block). nat_lt 0 (free_of c b)) blocks))))) (filter_twice (λ (b : Block). b.cpu == cpu) m.blocks);
          leaves_alike = set-cpu cpu (filter stays m.blocks) m.next_part _
              (ap (λ blocks. CpuBlocks cpu c.block_pages blocks (slice_index m.next_part cpu))
              (filter_comm (λ (b : Block). b.cpu == cpu) stays m.blocks ∙ ap (filter stays) (sym (filter_twice (λ (b : Block). b.cpu == cpu) m.blocks))
              ∙ filter_comm stays (λ (b : Block). b.cpu == cpu) (blocks_of cpu m.blocks))
              ∙ ap (CpuBlocks cpu c.block_pages (blocks_of cpu (filter stays (blocks_of cpu m.blocks)))) (sym (next_alone cpu (slice_index m.next_part cpu) l)))
              (λ other n. ap (λ blocks. CpuBlocks other c.block_pages blocks (slice_index m.next_part other)) (filter_comm (λ (b : Block). b.cpu == other) stays m.blocks ∙ kept_elsewhere cpu other gone n));
        }
