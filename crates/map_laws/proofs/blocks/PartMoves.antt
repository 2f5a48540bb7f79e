-- What the sections that cut, add, settle, take up and retire parts do to blocks and parts.
use Rattle.std.proofs.Common.{◌≡◌, ◌≢◌, ℕ, ◌+◌, ◌-◌, ◌<◌, ◌≤◌, ◌⊎◌, inl, inr, Bool, true, false, not, ◌&&◌, ◌==◌, nat_lt, nat_le, if◌then◌else◌, List, [], ◌∷◌, ◌++◌, filter, find, sum_by, Option, Some, None, is_some, option_map, refl, ap, sym, ◌∙◌, subst, arith}
use Rattle.std.proofs.lemmas.Bool.Decides.{nat_tests}
use Rattle.std.proofs.lemmas.List.Sums.{sum_by-cons, sum_by-append}
use Rattle.vm_model.specs.Space.{one_if}
use Rattle.vm_model.specs.Setup.{Setup}
use Rattle.vm_model.specs.PlainMap.{PlainMap, Block, Part, InHand, Lives, Ended}
use Rattle.vm_model.specs.Blocks.{PartAt, first_page, rounded, size_of, parts_size, free_of, dirty_of, is_spent, blocks_of, queue_of, first_with_room, cut_from, change_block, with_part, with_life, set_life, spends}
use Rattle.vm_model.specs.Legal.{IsUnmapped, IsMapped, IsBare, IsLegalAs}
use Rattle.vm_model.specs.Events.{CutPart, AddBlock, SettlePart, Retire}
use Rattle.vm_model.specs.Effects.{effect_as}
use Rattle.vm_model.specs.Places.{CuttingPart, SettlingPart, MappingPart, AddingBlock, Retiring, UnlinkingBlock, Made, MadeNothing}
use Rattle.vm_model.specs.declared.calls.Reply.{Reply}
use Rattle.vm_model.specs.Next.{Go, Answer}
use Rattle.vm_model.specs.Carried.{count_of}
use Rattle.map_laws.proofs.KeptThroughSteps.{same_or, append_cases, append_first}
use Rattle.map_laws.proofs.TestsAndFilters.{IsIn, in_more, find_has, filter_has, filter_in, sum_without, sum_by-filter-le}
use Rattle.map_laws.proofs.SearchEnds.{and_both}
use Rattle.vm_model.proofs.RoundedPages.{rounded_some, rounded_low}
use Rattle.map_laws.proofs.blocks.BlockFacts.{OnRow, IsStill, IsBlockArea, AreStacked, IsPartFine, IsBlockFine, IsPartIn, IsOut, block_starts, count_cons, count_append, to_same, same_block, same_part, size_cons, block_stays, block_out}
use Rattle.map_laws.proofs.blocks.BlockChanges.{in_of, changed_is, changed_in, unchanged_in, changed_starts, blocks_only, lived_blocks, lived_hand, ended_unmapped, hand_not_ended}
use Rattle.map_laws.proofs.blocks.BlockMoves.{IsBlockMoved, row_of}

-- the count of a start as a sum over blocks
pub sum_starts_of : (start : ℕ) (blocks : List Block) → count_of start (block_starts blocks) ≡ sum_by (λ (b : Block). one_if (b.start == start)) blocks
sum_starts_of start [] = refl
sum_starts_of start (b ∷ blocks) = omega (arith, count_cons start b.start (block_starts blocks), sum_by-cons (λ (b : Block). one_if (b.start == start)) b blocks, sum_starts_of start blocks)

-- A stack with one more part behind.

stacked_more : (ps : List Part) (off : ℕ) (p : Part) → AreStacked off ps → p.offset ≡ off + parts_size ps → p.pages ≤ size_of p → AreStacked off (ps ++ p ∷ [])
stacked_more [] off p st e less = ((omega arith), less, tt)
stacked_more (x ∷ ps) off p st e less = (st.0, st.1, stacked_more ps (off + size_of x) p st.2 (omega (arith, size_cons x ps)) less)

size_more : (ps : List Part) (p : Part) → parts_size (ps ++ p ∷ []) ≡ parts_size ps + size_of p
size_more ps p = omega (arith, sum_by-append size_of ps (p ∷ []), size_cons p [])

in_front : {X : Type 0} (xs ys : List X) (x : X) → IsIn x xs → IsIn x (xs ++ ys)
in_front xs ys x there = record { place = there.place; at = append_first xs ys there.place x there.at }

in_last : {X : Type 0} (xs : List X) (y : X) → IsIn y (xs ++ y ∷ [])
in_last [] y = record { place = 0; at = refl }
in_last (x ∷ xs) y = in_more y x (xs ++ y ∷ []) (in_last xs y)

in_either : {X : Type 0} (xs : List X) (y z : X) → IsIn z (xs ++ y ∷ []) → IsIn z xs ⊎ (z ≡ y)
in_either xs y z there = grind (arith, append_cases, nat_tests)

-- A part is cut from a block with room.

module _ (c : Setup) (m : PlainMap) (k : ℕ) (all : (b : Block) → IsIn b m.blocks → IsBlockFine c m b) where
  new_fine : (at : PartAt) (start : ℕ) → OnRow (start + at.offset) (rounded at.pages) (IsBare m) → IsPartFine m start (record { offset = at.offset; pages = at.pages; caller = k; life = InHand k })
  new_fine at start bare = record { lives = λ h. cc; ended = λ h. cc; tail = λ page low high. bare page (omega arith) high }

  cut_block : (at : PartAt) (b : Block) → IsIn b m.blocks → at.offset ≡ parts_size b.parts → parts_size b.parts + rounded at.pages ≤ c.block_pages → at.pages ≤ rounded at.pages → IsBlockFine c m (with_part k at b)
  cut_block at b there off room less = let fine = all b there in record {
    area = fine.area;
    stacked = stacked_more b.parts 0 (record { offset = at.offset; pages = at.pages; caller = k; life = InHand k }) fine.stacked (omega arith) less;
    within = (let e = size_more b.parts (record { offset = at.offset; pages = at.pages; caller = k; life = InHand k }) in omega arith);
    parts = λ q qs. elim (in_either b.parts (record { offset = at.offset; pages = at.pages; caller = k; life = InHand k }) q qs) [
      | inl old ↦ fine.parts q old
      | inr e ↦ subst (IsPartFine m b.start) (sym e) (new_fine at b.start (λ page low high. fine.rest page (omega arith) (omega arith)))
    ];
    rest = λ page low high. (let e = size_more b.parts (record { offset = at.offset; pages = at.pages; caller = k; life = InHand k }) in fine.rest page (omega arith) high);
  }

  module _ (cpu pages : ℕ) (at : PartAt) (named : (start : ℕ) → count_of start (block_starts m.blocks) + count_of start (block_out (CuttingPart cpu pages)) ≤ 1) (few : at.pages ≤ 1048576)
      (legal : IsLegalAs c m k (CutPart at)) where
    cut_is : (o : Option Block) → first_with_room c at.cpu at.pages m.blocks ≡ o → option_map (cut_from c at.pages) o ≡ Some at → (b : Block) × (first_with_room c at.cpu at.pages m.blocks ≡ Some b) × (cut_from c at.pages b ≡ at)
    cut_is o e h = grind (arith, nat_tests)

    -- the block that it is cut from
    pub record IsCutFrom : Type 0 where
      pub block : Block
      pub there : IsIn block m.blocks
      pub start : block.start ≡ at.block
      pub offset : at.offset ≡ parts_size block.parts
      pub room : parts_size block.parts + rounded at.pages ≤ c.block_pages

    cut_from_is : IsCutFrom
    cut_from_is =
        let is = cut_is (first_with_room c at.cpu at.pages m.blocks) refl legal in
        let found = find_has (λ (b : Block). nat_le (rounded at.pages) (free_of c b)) (queue_of c at.cpu m.blocks) is.0 is.1 in
        let queued = (filter_has (λ (b : Block). nat_lt 0 (free_of c b)) (blocks_of at.cpu m.blocks) found.0.place is.0 found.0.at).there in
        let there = (filter_has (λ (b : Block). b.cpu == at.cpu) m.blocks queued.place is.0 queued.at).there in
        let room : rounded at.pages ≤ free_of c is.0 = grind (arith, nat_tests, found.1) in
        let within = (all is.0 there).within in
        record {
          block = is.0;
          there = there;
          start = ap (λ (a : PartAt). a.block) is.2;
          offset = sym (ap (λ (a : PartAt). a.offset) is.2) ∙ (let e : c.block_pages - (c.block_pages - parts_size is.0.parts) ≡ parts_size is.0.parts = omega arith in e);
          room = (let some = rounded_some at.pages in omega arith);
        }

    cut_fine : (b : Block) → IsIn b (change_block at.block (with_part k at) m.blocks) → IsBlockFine c m b
    cut_fine b there =
        let was = changed_is at.block (with_part k at) m.blocks b there in let from = cut_from_is in
        elim was.2 [
          | inl e ↦ (let one : was.0 ≡ from.block = same_block m.blocks at.block was.1.place from.there.place was.0 from.block (let o = named at.block in omega arith) was.1.at from.there.at e.0 from.start in
              subst (IsBlockFine c m) (sym e.1) (cut_block at was.0 was.1 (from.offset ∙ ap (λ (x : Block). parts_size x.parts) (sym one)) (subst (λ (x : Block). parts_size x.parts + rounded at.pages ≤ c.block_pages) (sym one) from.room) (rounded_low at.pages (omega arith))))
          | inr e ↦ subst (IsBlockFine c m) (sym e.1) (all was.0 was.1)
        ]

    cut_hand : (j : ℕ) (at' : PartAt) → IsPartIn m j at' → IsPartIn (effect_as c m k (CutPart at)) j at'
    cut_hand j at' is = elim (same_or is.block.start at.block) [
      | inl same ↦ record {
        block = with_part k at is.block;
        there = changed_in at.block (with_part k at) m.blocks is.block is.there same;
        start = is.start;
        part = is.part;
        part_there = in_front is.block.parts _ is.part is.part_there;
        offset = is.offset;
        pages = is.pages;
        life = is.life;
      }
      | inr other ↦ record { block = is.block; there = unchanged_in at.block (with_part k at) m.blocks is.block is.there other; start = is.start; part = is.part; part_there = is.part_there; offset = is.offset; pages = is.pages; life = is.life }
    ]

    pub cut_moved : IsBlockMoved c m k (CuttingPart cpu pages) (CutPart at) (Go (MappingPart at))
    cut_moved = let from = cut_from_is in record {
      names = λ start others once area. omega (arith, ap (count_of start) (changed_starts at.block (with_part k at) (λ b. refl) m.blocks));
      blocks = λ b there. block_stays c m (effect_as c m k (CutPart at)) b (blocks_only c m (effect_as c m k (CutPart at)) b.start refl refl refl) (cut_fine b there);
      own = (
        record {
          block = with_part k at from.block;
          there = changed_in at.block (with_part k at) m.blocks from.block from.there from.start;
          start = from.start;
          part = record { offset = at.offset; pages = at.pages; caller = k; life = InHand k };
          part_there = in_last from.block.parts _;
          offset = refl;
          pages = refl;
          life = refl;
        },
        (λ page low high. (let e = from.start in let f = from.offset in let g = from.room in let was = (all from.block from.there).rest page (omega arith) (omega arith) in record { unmapped = was.unmapped; not_stale = was.not_stale })),
      );
      stays = λ start none free area. blocks_only c m (effect_as c m k (CutPart at)) start refl refl refl;
      hands = λ j at' apart is. (cut_hand j at' is, (λ page low high. record { frame = refl; clean = λ h. h }));
    }

  -- A new block is added with its first part.

  module _ (at : PartAt) (area : IsBlockArea c m at.block) (bare : OnRow at.block c.block_pages (IsBare m)) (zero_off : at.offset ≡ 0) (fits : rounded at.pages ≤ c.block_pages) (few : at.pages ≤ 1048576) where
    added_block : Block
    added_block = with_part k at (record { start = at.block; cpu = at.cpu; parts = [] })

    added_fine : IsBlockFine c m (with_part k at (record { start = at.block; cpu = at.cpu; parts = [] }))
    added_fine = grind (arith, size_cons, rounded_low, in_either, new_fine, nat_tests)

    add_fine : (b : Block) → IsIn b (m.blocks ++ with_part k at (record { start = at.block; cpu = at.cpu; parts = [] }) ∷ []) → IsBlockFine c m b
    add_fine b there = elim (in_either m.blocks (with_part k at (record { start = at.block; cpu = at.cpu; parts = [] })) b there) [ inl old ↦ all b old | inr e ↦ subst (IsBlockFine c m) (sym e) added_fine ]

    starts_more : (blocks : List Block) (b : Block) → block_starts (blocks ++ b ∷ []) ≡ block_starts blocks ++ b.start ∷ []
    starts_more [] b = refl
    starts_more (x ∷ blocks) b = ap (λ l. x.start ∷ l) (starts_more blocks b)

    pub add_moved : IsBlockMoved c m k (AddingBlock at) (AddBlock at) (Go (MappingPart at))
    add_moved = record {
      names = λ start others once known. omega (arith, ap (count_of start) (starts_more m.blocks (with_part k at (record { start = at.block; cpu = at.cpu; parts = [] }))), count_append start (block_starts m.blocks) (at.block ∷ []));
      blocks = λ b there. block_stays c m (effect_as c m k (AddBlock at)) b (blocks_only c m (effect_as c m k (AddBlock at)) b.start refl refl refl) (add_fine b there);
      own = (
        record {
          block = with_part k at (record { start = at.block; cpu = at.cpu; parts = [] });
          there = in_last m.blocks _;
          start = refl;
          part = record { offset = at.offset; pages = at.pages; caller = k; life = InHand k };
          part_there = in_of _ 0 _ refl;
          offset = refl;
          pages = refl;
          life = refl;
        },
        (λ page low high. (let was = bare page (omega arith) (omega arith) in record { unmapped = was.unmapped; not_stale = was.not_stale })),
      );
      stays = λ start none free known. blocks_only c m (effect_as c m k (AddBlock at)) start refl refl refl;
      hands = λ j at' apart is. (
        record { block = is.block; there = in_front m.blocks _ is.block is.there; start = is.start; part = is.part; part_there = is.part_there; offset = is.offset; pages = is.pages; life = is.life },
        (λ page low high. record { frame = refl; clean = λ h. h }),
      );
    }

  -- A part in hand gets another life.

  module _ (at : PartAt) (hand : IsPartIn m k at) (once : (start : ℕ) → count_of start (block_starts m.blocks) ≤ 1) where
    -- the part at this place is the one in hand
    pub own_is : (b : Block) (p : Part) → IsIn b m.blocks → b.start ≡ at.block → IsIn p b.parts → p.offset ≡ at.offset → (b ≡ hand.block) × (p ≡ hand.part)
    own_is b p there start ps off =
        let one : b ≡ hand.block = same_block m.blocks at.block there.place hand.there.place b hand.block (once at.block) there.at hand.there.at start hand.start in
        let in_own : IsIn p hand.block.parts = subst (λ (x : Block). IsIn p x.parts) one ps in
        (one, same_part hand.block.parts 0 in_own.place hand.part_there.place p hand.part (all hand.block hand.there).stacked in_own.at hand.part_there.at (off ∙ sym hand.offset))

    apart_hand : (j : ℕ) (at' : PartAt) → j ≢ k → (is : IsPartIn m j at') → is.block.start ≡ at.block → is.part.offset ≡ at.offset → ⊥
    apart_hand j at' n is start off =
        let one = own_is is.block is.part is.there start is.part_there off in
        let lives : InHand j ≡ InHand k = sym is.life ∙ ap (λ (x : Part). x.life) one.1 ∙ hand.life in n cc

    own_row : (P : ℕ → Type 0) → OnRow (first_page at) at.pages P → OnRow (hand.block.start + hand.part.offset) hand.part.pages P
    own_row P row page low high = let r = row_of m k at hand in row page (omega (arith, r.0)) (omega (arith, r.0, r.2))

    own_tail : (page : ℕ) → hand.block.start + hand.part.offset + hand.part.pages ≤ page → page < hand.block.start + hand.part.offset + size_of hand.part → IsBare m page
    own_tail = ((all hand.block hand.there).parts hand.part hand.part_there).tail

    live_fine : (serial : ℕ) → OnRow (first_page at) at.pages (IsMapped m) → (b : Block) (p : Part) → IsIn b m.blocks → b.start ≡ at.block → IsIn p b.parts → p.offset ≡ at.offset → IsPartFine m b.start (record p { life = Lives serial })
    live_fine serial mapped b p there start ps off =
        let one = own_is b p there start ps off in
        subst (λ (x : Block). IsPartFine m x.start (record p { life = Lives serial })) (sym one.0) (subst (λ (y : Part). IsPartFine m hand.block.start (record y { life = Lives serial })) (sym one.1)
        (record { lives = λ h. own_row (IsMapped m) mapped; ended = λ h. cc; tail = own_tail }))

    end_fine : OnRow (first_page at) at.pages (IsUnmapped m) → (b : Block) (p : Part) → IsIn b m.blocks → b.start ≡ at.block → IsIn p b.parts → p.offset ≡ at.offset → IsPartFine m b.start (record p { life = Ended })
    end_fine unmapped b p there start ps off =
        let one = own_is b p there start ps off in
        subst (λ (x : Block). IsPartFine m x.start (record p { life = Ended })) (sym one.0) (subst (λ (y : Part). IsPartFine m hand.block.start (record y { life = Ended })) (sym one.1)
        (record { lives = λ h. cc; ended = λ h page low high. end_page page low high (nat_lt page (hand.block.start + hand.part.offset + hand.part.pages)) refl; tail = own_tail }))
      where
        end_page : (page : ℕ) → hand.block.start + hand.part.offset ≤ page → page < hand.block.start + hand.part.offset + size_of hand.part → (t : Bool) → nat_lt page (hand.block.start + hand.part.offset + hand.part.pages) ≡ t → IsUnmapped m page
        end_page page low high true e = own_row (IsUnmapped m) unmapped page low (let less : page < hand.block.start + hand.part.offset + hand.part.pages = grind (arith, nat_tests) in omega arith)
        end_page page low high false e = (own_tail page (let past : hand.block.start + hand.part.offset + hand.part.pages ≤ page = grind (arith, nat_tests) in past) high).unmapped

    pub settle_part_moved : (serial : ℕ) (r : Reply) (made : Made) → OnRow (first_page at) at.pages (IsMapped m) → IsBlockMoved c m k (SettlingPart at) (SettlePart at serial) (Answer r made)
    settle_part_moved serial r made mapped = record {
      names = λ start others o known. omega (arith, ap (count_of start) (changed_starts at.block (with_life at (Lives serial)) (λ b. refl) m.blocks));
      blocks = λ b there. block_stays c m (effect_as c m k (SettlePart at serial)) b (blocks_only c m (effect_as c m k (SettlePart at serial)) b.start refl refl refl) (lived_blocks c m all at (Lives serial) (live_fine serial mapped) b there);
      own = tt;
      stays = λ start none free known. blocks_only c m (effect_as c m k (SettlePart at serial)) start refl refl refl;
      hands = λ j at' n is. (lived_hand c m all j at at' (Lives serial) (effect_as c m k (SettlePart at serial)) refl is (apart_hand j at' n is), (λ page low high. record { frame = refl; clean = λ h. h }));
    }

    -- The part ends, and its block where it is spent.

    module _ (unmapped : OnRow (first_page at) at.pages (IsUnmapped m)) (r : Reply) (spent : Bool) (legal : spent ≡ spends c at (set_life at Ended m.blocks)) where
      retired : List Block
      retired = set_life at Ended m.blocks

      retired_fine : (b : Block) → IsIn b (set_life at Ended m.blocks) → IsBlockFine c m b
      retired_fine b there = lived_blocks c m all at Ended (end_fine unmapped) b there

      spent_full : (b : Block) → IsBlockFine c m b → is_spent c b ≡ true → parts_size b.parts ≤ dirty_of b
      spent_full b fine e = let full = to_same (dirty_of b) c.block_pages e in let w = fine.within in omega arith

      kept_hand : (j : ℕ) (at' : PartAt) → j ≢ k → (is : IsPartIn m j at') → IsPartIn (effect_as c m k (Retire at spent)) j at'
      kept_hand j at' n is =
          let mid = lived_hand c m all j at at' Ended (record m { blocks = set_life at Ended m.blocks }) refl is (apart_hand j at' n is) in
          record {
            block = mid.block;
            there = filter_in (λ (b : Block). not (is_spent c b)) (set_life at Ended m.blocks) mid.block mid.there.place mid.there.at (unspent mid (is_spent c mid.block) refl);
            start = mid.start;
            part = mid.part;
            part_there = mid.part_there;
            offset = mid.offset;
            pages = mid.pages;
            life = mid.life;
          }
        where
          unspent : (mid : IsPartIn (record m { blocks = set_life at Ended m.blocks }) j at') (t : Bool) → is_spent c mid.block ≡ t → not (is_spent c mid.block) ≡ true
          unspent mid true e = absurd (hand_not_ended mid.block mid.part j mid.part_there mid.life (spent_full mid.block (retired_fine mid.block mid.there) e))
          unspent mid false e = ap not e

      few_left : (start : ℕ) → count_of start (block_starts (filter (λ (b : Block). not (is_spent c b)) (set_life at Ended m.blocks))) ≤ count_of start (block_starts m.blocks)
      few_left start = omega (
        arith,
        sum_starts_of start (filter (λ (b : Block). not (is_spent c b)) (set_life at Ended m.blocks)),
        sum_starts_of start (set_life at Ended m.blocks),
        sum_by-filter-le (λ (b : Block). one_if (b.start == start)) (λ (b : Block). not (is_spent c b)) (set_life at Ended m.blocks),
        ap (count_of start) (changed_starts at.block (with_life at Ended) (λ b. refl) m.blocks),
      )

      -- the spent block of the part
      pub record IsSpentBlock : Type 0 where
        pub block : Block
        pub there : IsIn block (set_life at Ended m.blocks)
        pub start : block.start ≡ at.block
        pub full : is_spent c block ≡ true

      spent_block : (o : Option Block) → find (λ (b : Block). (b.start == at.block) && is_spent c b) (set_life at Ended m.blocks) ≡ o → is_some o ≡ true → IsSpentBlock
      spent_block None e h = cc
      spent_block (Some b) e h = let is = find_has (λ (b : Block). (b.start == at.block) && is_spent c b) (set_life at Ended m.blocks) b e in let both = and_both (b.start == at.block) (is_spent c b) is.1 in
          record { block = b; there = is.0; start = to_same b.start at.block both.0; full = both.1 }

      one_gone : IsSpentBlock → (start : ℕ) → count_of start (block_starts (filter (λ (b : Block). not (is_spent c b)) (set_life at Ended m.blocks))) + one_if (at.block == start) ≤ count_of start (block_starts m.blocks)
      one_gone is start = omega (
        arith,
        sum_starts_of start (filter (λ (b : Block). not (is_spent c b)) (set_life at Ended m.blocks)),
        sum_starts_of start (set_life at Ended m.blocks),
        sum_without (λ (b : Block). one_if (b.start == start)) (λ (b : Block). not (is_spent c b)) (set_life at Ended m.blocks) is.block is.there.place is.there.at (ap not is.full),
        ap (λ n. one_if (n == start)) is.start,
        ap (count_of start) (changed_starts at.block (with_life at Ended) (λ b. refl) m.blocks),
      )

      retire_blocks : (b : Block) → IsIn b (effect_as c m k (Retire at spent)).blocks → IsBlockFine c (effect_as c m k (Retire at spent)) b
      retire_blocks b there = block_stays c m (effect_as c m k (Retire at spent)) b (blocks_only c m (effect_as c m k (Retire at spent)) b.start refl refl refl)
          (let was = (filter_has (λ (b : Block). not (is_spent c b)) (set_life at Ended m.blocks) there.place b there.at).there in retired_fine b was)

      retire_hands : (j : ℕ) (at' : PartAt) → j ≢ k → IsPartIn m j at' → IsPartIn (effect_as c m k (Retire at spent)) j at' × OnRow (first_page at') (rounded at'.pages) (IsStill m (effect_as c m k (Retire at spent)))
      retire_hands j at' n is = (kept_hand j at' n is, (λ page low high. record { frame = refl; clean = λ h. h }))

      out_block : IsSpentBlock → IsOut c (effect_as c m k (Retire at spent)) at.block
      out_block is = let fine = retired_fine is.block is.there in
          subst (IsOut c (effect_as c m k (Retire at spent))) is.start (record {
            area = record { area = fine.area.area; cpu = fine.area.cpu; there = fine.area.there; span = fine.area.span; kind = fine.area.kind };
            unmapped = ended_unmapped c m is.block fine (spent_full is.block fine is.full);
          })

      retire_by : (t : Bool) → spent ≡ t → IsBlockMoved c m k (Retiring at r) (Retire at spent) (if t then Go (UnlinkingBlock at.block r) else Answer r MadeNothing)
      retire_by false e = record {
        names = λ start others o known. omega (arith, few_left start);
        blocks = retire_blocks;
        own = tt;
        stays = λ start none free known. blocks_only c m (effect_as c m k (Retire at spent)) start refl refl refl;
        hands = retire_hands;
      }
      retire_by true e = let is = spent_block (find (λ (b : Block). (b.start == at.block) && is_spent c b) (set_life at Ended m.blocks)) refl (sym legal ∙ e) in record {
        names = λ start others o known. omega (arith, one_gone is start, count_cons start at.block []);
        blocks = retire_blocks;
        own = out_block is;
        stays = λ start none free known. blocks_only c m (effect_as c m k (Retire at spent)) start refl refl refl;
        hands = retire_hands;
      }

      pub retire_moved : IsBlockMoved c m k (Retiring at r) (Retire at spent) (if spent then Go (UnlinkingBlock at.block r) else Answer r MadeNothing)
      retire_moved = retire_by spent refl
