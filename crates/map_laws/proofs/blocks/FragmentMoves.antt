-- What the sections that take up a part again, or take out fragmented blocks, do to blocks and parts.
use Rattle.std.proofs.Common.{◌≡◌, ℕ, suc, ◌+◌, ◌≤◌, Bool, true, false, not, ◌&&◌, ◌==◌, nat_lt, List, [], ◌∷◌, ◌++◌, filter, slice_get, Option, refl, ap, sym, ◌∙◌, subst, arith}
use Rattle.vm_model.specs.Space.{one_if, is_among}
use Rattle.vm_model.specs.Setup.{Setup}
use Rattle.vm_model.specs.PlainMap.{PlainMap, Block, Part, Life, InHand, is_live, lives_as}
use Rattle.vm_model.specs.Blocks.{PartAt, first_page, parts_size, free_of, dirty_of, is_fragmented, blocks_of, queue_of, is_named, named_in, fragmented, with_life}
use Rattle.vm_model.specs.Legal.{IsLegalAs}
use Rattle.vm_model.specs.Events.{BeginUnmap, Fragment}
use Rattle.vm_model.specs.Effects.{effect_as}
use Rattle.vm_model.specs.Places.{BeginningUnmap, PurgeFragmenting, UnmappingPart, Then}
use Rattle.vm_model.specs.Next.{Next, Go, after_fragments}
use Rattle.vm_model.specs.declared.areas.Span.{Span}
use Rattle.map_laws.proofs.blocks.PartMoves.{sum_starts_of}
use Rattle.vm_model.specs.Carried.{count_of}
use Rattle.map_laws.proofs.TestsAndFilters.{IsIn, filter_has, filter_in, sum_without, sum_by-filter-le}
use Rattle.map_laws.proofs.SearchEnds.{and_both}
use Rattle.map_laws.proofs.ProperPlaces.{OnNext}
use Rattle.map_laws.proofs.GivenMeets.{flat_in, map_in}
use Rattle.map_laws.proofs.blocks.BlockFacts.{IsPartFine, IsBlockFine, IsPartIn, IsOut, IsBlockAt, block_starts, count_append, same_test, to_same, among_count, count_among, counted_block, same_block, same_part, block_stays}
use Rattle.map_laws.proofs.blocks.BlockChanges.{changed_starts, blocks_only, lived_blocks, lived_hand, own_lived, ended_unmapped, hand_not_ended}
use Rattle.map_laws.proofs.blocks.BlockMoves.{next_out, IsBlockMoved}

none_counted : (start : ℕ) (xs : List ℕ) → is_among xs start ≡ false → count_of start xs ≡ 0
none_counted start xs e = grind (arith, count_among)

lives_live : (serial : ℕ) (life : Life) → lives_as serial life ≡ true → is_live life ≡ true
lives_live serial life h = grind arith

module _ (c : Setup) (m : PlainMap) (k : ℕ) (all : (b : Block) → IsIn b m.blocks → IsBlockFine c m b) (once : (start : ℕ) → count_of start (block_starts m.blocks) ≤ 1) where
  -- A live part is taken up again.

  module _ (cpu page serial : ℕ) (at : PartAt) (legal : IsLegalAs c m k (BeginUnmap at serial)) where
    -- the part that is named
    pub record IsNamedPart : Type 0 where
      pub block : Block
      pub there : IsIn block m.blocks
      pub start : block.start ≡ at.block
      pub part : Part
      pub part_there : IsIn part block.parts
      pub offset : part.offset ≡ at.offset
      pub pages : part.pages ≡ at.pages
      pub lives : lives_as serial part.life ≡ true

    named_part : IsNamedPart
    named_part =
        let flat = flat_in (named_in (first_page at) serial) (blocks_of at.cpu m.blocks) at (record { place = 0; at = ap (λ l. slice_get l 0) legal }) in
        let there = (filter_has (λ (b : Block). b.cpu == at.cpu) m.blocks flat.1.place flat.0 flat.1.at).there in
        let part = map_in (λ (p : Part). record { cpu = flat.0.cpu; block = flat.0.start; offset = p.offset; pages = p.pages }) (filter (is_named (first_page at) serial flat.0) flat.0.parts) at flat.2 in
        let kept = filter_has (is_named (first_page at) serial flat.0) flat.0.parts part.1.place part.0 part.1.at in
        record {
          block = flat.0;
          there = there;
          start = ap (λ (a : PartAt). a.block) part.2;
          part = part.0;
          part_there = kept.there;
          offset = ap (λ (a : PartAt). a.offset) part.2;
          pages = ap (λ (a : PartAt). a.pages) part.2;
          lives = (and_both (flat.0.start + part.0.offset == first_page at) (lives_as serial part.0.life) kept.passes).1;
        }

    taken_is : (is : IsNamedPart) (b : Block) (p : Part) → IsIn b m.blocks → b.start ≡ at.block → IsIn p b.parts → p.offset ≡ at.offset → (b ≡ is.block) × (p ≡ is.part)
    taken_is is b p there start ps off =
        let one : b ≡ is.block = same_block m.blocks at.block there.place is.there.place b is.block (once at.block) there.at is.there.at start is.start in
        let in_own : IsIn p is.block.parts = subst (λ (x : Block). IsIn p x.parts) one ps in
        (one, same_part is.block.parts 0 in_own.place is.part_there.place p is.part (all is.block is.there).stacked in_own.at is.part_there.at (off ∙ sym is.offset))

    taken_fine : (b : Block) (p : Part) → IsIn b m.blocks → b.start ≡ at.block → IsIn p b.parts → p.offset ≡ at.offset → IsPartFine m b.start (record p { life = InHand k })
    taken_fine b p there start ps off = record { lives = λ h. cc; ended = λ h. cc; tail = ((all b there).parts p ps).tail }

    taken_apart : (is : IsNamedPart) (j : ℕ) (at' : PartAt) (hand : IsPartIn m j at') → hand.block.start ≡ at.block → hand.part.offset ≡ at.offset → ⊥
    taken_apart is j at' hand start off =
        let one = taken_is is hand.block hand.part hand.there start hand.part_there off in
        let no : lives_as serial is.part.life ≡ false = ap (lives_as serial) (ap (λ (x : Part). x.life) (sym one.1) ∙ hand.life) in
        let yes = is.lives in cc

    pub begin_moved : IsBlockMoved c m k (BeginningUnmap cpu page serial) (BeginUnmap at serial) (Go (UnmappingPart at))
    begin_moved = let is = named_part in record {
      names = λ start others o known. omega (arith, ap (count_of start) (changed_starts at.block (with_life at (InHand k)) (λ b. refl) m.blocks));
      blocks = λ b there. block_stays c m (effect_as c m k (BeginUnmap at serial)) b (blocks_only c m (effect_as c m k (BeginUnmap at serial)) b.start refl refl refl) (lived_blocks c m all at (InHand k) taken_fine b there);
      own = (
        own_lived c m all k at (effect_as c m k (BeginUnmap at serial)) is.block is.part refl is.there is.start is.part_there is.offset is.pages,
        (λ page low high. (let e = is.start in let f = is.offset in let g = is.pages in
            ((all is.block is.there).parts is.part is.part_there).lives (lives_live serial is.part.life is.lives) page (omega arith) (omega arith))),
      );
      stays = λ start none free known. blocks_only c m (effect_as c m k (BeginUnmap at serial)) start refl refl refl;
      hands = λ j at' n hand. (lived_hand c m all j at at' (InHand k) (effect_as c m k (BeginUnmap at serial)) refl hand (taken_apart is j at' hand), (λ page low high. record { frame = refl; clean = λ h. h }));
    }

  -- The fragmented blocks of a processor are taken out.

  module _ (cpu : ℕ) (gone g : List ℕ) (extra : Option Span) (after : Then) (legal : g ≡ fragmented c cpu m.blocks) (outs : (start : ℕ) → is_among gone start ≡ true → IsOut c m start) where
    left_blocks : List Block
    left_blocks = filter (λ (b : Block). not ((b.cpu == cpu) && is_among g b.start)) m.blocks

    -- a fragmented block of the processor
    pub record IsGone (start : ℕ) : Type 0 where
      pub block : Block
      pub there : IsIn block m.blocks
      pub start_is : block.start ≡ start
      pub own : (block.cpu == cpu) ≡ true
      pub full : parts_size block.parts ≤ dirty_of block

    gone_block : (start : ℕ) → is_among g start ≡ true → IsGone start
    gone_block start h =
        let n = among_count start g h in
        let at = counted_block start (filter (is_fragmented c) (queue_of c cpu m.blocks)) (subst (λ l. 1 ≤ count_of start l) legal n) in
        let kept = filter_has (is_fragmented c) (queue_of c cpu m.blocks) at.1.place at.0 at.1.at in
        let queued = (filter_has (λ (b : Block). nat_lt 0 (free_of c b)) (blocks_of cpu m.blocks) kept.there.place at.0 kept.there.at).there in
        let own = filter_has (λ (b : Block). b.cpu == cpu) m.blocks queued.place at.0 queued.at in
        let full = to_same (free_of c at.0 + dirty_of at.0) c.block_pages (and_both (free_of c at.0 + dirty_of at.0 == c.block_pages) (nat_lt (dirty_of at.0) c.block_pages) kept.passes).0 in
        let within = (all at.0 own.there).within in
        record { block = at.0; there = own.there; start_is = at.2; own = own.passes; full = omega arith }

    gone_out : (start : ℕ) → is_among g start ≡ true → IsOut c m start
    gone_out start h = let is = gone_block start h in let fine = all is.block is.there in
        subst (IsOut c m) is.start_is (record { area = fine.area; unmapped = ended_unmapped c m is.block fine is.full })

    few_gone : (start : ℕ) → count_of start g ≤ count_of start (block_starts m.blocks)
    few_gone start = omega (
      arith,
      ap (count_of start) legal,
      sum_starts_of start (filter (is_fragmented c) (queue_of c cpu m.blocks)),
      sum_starts_of start m.blocks,
      sum_by-filter-le (λ (b : Block). one_if (b.start == start)) (is_fragmented c) (queue_of c cpu m.blocks),
      sum_by-filter-le (λ (b : Block). one_if (b.start == start)) (λ (b : Block). nat_lt 0 (free_of c b)) (blocks_of cpu m.blocks),
      sum_by-filter-le (λ (b : Block). one_if (b.start == start)) (λ (b : Block). b.cpu == cpu) m.blocks,
    )

    gone_or_left : (start : ℕ) (t : Bool) → is_among g start ≡ t → count_of start (block_starts left_blocks) + count_of start g ≤ count_of start (block_starts m.blocks)
    unfolding left_blocks
    gone_or_left start false e = omega (
      arith,
      none_counted start g e,
      sum_starts_of start left_blocks,
      sum_starts_of start m.blocks,
      sum_by-filter-le (λ (b : Block). one_if (b.start == start)) (λ (b : Block). not ((b.cpu == cpu) && is_among g b.start)) m.blocks,
    )
    gone_or_left start true e =
        let is = gone_block start e in
        let fails : not ((is.block.cpu == cpu) && is_among g is.block.start) ≡ false = ap (λ t. not (t && is_among g is.block.start)) is.own ∙ ap (λ n. not (is_among g n)) is.start_is ∙ ap not e in
        omega (
          arith,
          few_gone start,
          once start,
          sum_starts_of start left_blocks,
          sum_starts_of start m.blocks,
          sum_without (λ (b : Block). one_if (b.start == start)) (λ (b : Block). not ((b.cpu == cpu) && is_among g b.start)) m.blocks is.block is.there.place is.there.at fails,
          ap (λ n. one_if (n == start)) is.start_is,
          ap one_if (same_test start),
        )

    all_outs : (start : ℕ) → is_among (gone ++ g) start ≡ true → IsOut c (effect_as c m k (Fragment cpu g)) start
    all_outs start h = same_out (by_side (is_among gone start) refl)
      where
        same_out : IsOut c m start → IsOut c (effect_as c m k (Fragment cpu g)) start
        same_out is = record { area = record { area = is.area.area; cpu = is.area.cpu; there = is.area.there; span = is.area.span; kind = is.area.kind }; unmapped = is.unmapped }

        by_side : (t : Bool) → is_among gone start ≡ t → IsOut c m start
        by_side true e = outs start e
        by_side false e = gone_out start (count_among start g (let n = among_count start (gone ++ g) h in omega (arith, count_append start gone g, none_counted start gone e)))

    left_hand : (j : ℕ) (at : PartAt) (is : IsPartIn m j at) (t : Bool) → is_among g is.block.start ≡ t → not ((is.block.cpu == cpu) && is_among g is.block.start) ≡ true
    left_hand j at is false e = grind arith
    left_hand j at is true e =
        let out = gone_block is.block.start e in
        let one : out.block ≡ is.block = same_block m.blocks is.block.start out.there.place is.there.place out.block is.block (once is.block.start) out.there.at is.there.at out.start_is refl in
        absurd (hand_not_ended is.block is.part j is.part_there is.life (subst (λ (x : Block). parts_size x.parts ≤ dirty_of x) one out.full))

    -- what follows, with all starts that are out
    pub record IsFragmentNext (n : Next) : Type 0 where
      pub less : (start : ℕ) → next_out n start ≤ count_of start (gone ++ g)
      pub own : ((start : ℕ) → is_among (gone ++ g) start ≡ true → IsOut c (effect_as c m k (Fragment cpu g)) start) → OnNext (IsBlockAt c (effect_as c m k (Fragment cpu g)) k) n

    pub fragment_moved : (n : Next) → IsFragmentNext n → IsBlockMoved c m k (PurgeFragmenting cpu gone extra after) (Fragment cpu g) n
    unfolding left_blocks
    fragment_moved n to = record {
      names = λ start others o known. (let less = to.less start in omega (arith, gone_or_left start (is_among g start) refl, count_append start gone g));
      blocks = λ b there. block_stays c m (effect_as c m k (Fragment cpu g)) b (blocks_only c m (effect_as c m k (Fragment cpu g)) b.start refl refl refl)
          (all b (filter_has (λ (b : Block). not ((b.cpu == cpu) && is_among g b.start)) m.blocks there.place b there.at).there);
      own = to.own all_outs;
      stays = λ start none free known. blocks_only c m (effect_as c m k (Fragment cpu g)) start refl refl refl;
      hands = λ j at n is. (
        record {
          block = is.block;
          there = filter_in (λ (b : Block). not ((b.cpu == cpu) && is_among g b.start)) m.blocks is.block is.there.place is.there.at (left_hand j at is (is_among g is.block.start) refl);
          start = is.start;
          part = is.part;
          part_there = is.part_there;
          offset = is.offset;
          pages = is.pages;
          life = is.life;
        },
        (λ page low high. record { frame = refl; clean = λ h. h }),
      );
    }

    pub to_next : IsFragmentNext (Go (PurgeFragmenting (suc cpu) (gone ++ g) extra after))
    to_next = record { less = λ start. omega arith; own = λ all. all }

    pub to_unlink : (list : List ℕ) → gone ++ g ≡ list → IsFragmentNext (Go (after_fragments list extra after))
    to_unlink [] e = record { less = λ start. omega arith; own = λ all. tt }
    to_unlink (x ∷ list) e = record { less = λ start. omega (arith, ap (count_of start) e); own = λ all start h. all start (ap (λ l. is_among l start) e ∙ h) }
