-- What sections do to blocks and parts where they change no block, and where they map or unmap a part.
use Rattle.std.proofs.Common.{◌≡◌, ◌≢◌, ℕ, ◌+◌, ◌<◌, ◌≤◌, ◌⊎◌, inl, inr, true, slice_get, Some, refl, ap, sym, ◌∙◌, subst, arith}
use Rattle.std.proofs.lemmas.Bool.Decides.{nat_tests}
use Rattle.vm_model.specs.declared.areas.Span.{Span}
use Rattle.vm_model.specs.declared.areas.Area.{Area}
use Rattle.vm_model.specs.Space.{span, holds, times}
use Rattle.vm_model.specs.Setup.{Setup}
use Rattle.vm_model.specs.PlainMap.{PlainMap, Block, Part, InHand}
use Rattle.vm_model.specs.Areas.{spans_of}
use Rattle.vm_model.specs.Blocks.{PartAt, first_page, rounded, size_of}
use Rattle.vm_model.specs.Events.{Section}
use Rattle.vm_model.specs.Effects.{effect_as}
use Rattle.vm_model.specs.Places.{Place}
use Rattle.vm_model.specs.Next.{Next, Go, Answer}
use Rattle.vm_model.specs.Carried.{count_of}
use Rattle.map_laws.proofs.KeptThroughSteps.{same_or}
use Rattle.map_laws.proofs.TestsAndFilters.{IsIn, holds_from}
use Rattle.map_laws.proofs.ProperPlaces.{OnNext}
use Rattle.map_laws.proofs.OutMoves.{same_area}
use Rattle.vm_model.proofs.RoundedPages.{rounded_some}
use Rattle.map_laws.proofs.blocks.BlockFacts.{OnRow, IsStill, IsBlockArea, IsPartFine, IsBlockFine, IsPartIn, block_out, IsBlockAt, block_starts, block_count, same_block, stacked_at, stacked_apart, same_part, still_bare, part_stays, Stays, block_stays}
use Rattle.vm_model.specs.declared.areas.AreaKind.TheVariants as kind

-- how often the place behind a section has a block's start out
abbrev pub next_out : Next → ℕ → ℕ
next_out (Go p) start = count_of start (block_out p)
next_out (Answer reply made) start = 0

-- what a section does to blocks and parts, where its caller goes on to the given next
pub record IsBlockMoved (c : Setup) (m : PlainMap) (k : ℕ) (p : Place) (s : Section) (n : Next) : Type 0 where
  pub names : (start others : ℕ) → count_of start (block_starts m.blocks) + others + count_of start (block_out p) ≤ 1 → (1 ≤ others → IsBlockArea c m start)
      → count_of start (block_starts (effect_as c m k s).blocks) + others + next_out n start ≤ 1
  pub blocks : (b : Block) → IsIn b (effect_as c m k s).blocks → IsBlockFine c (effect_as c m k s) b
  pub own : OnNext (IsBlockAt c (effect_as c m k s) k) n
  pub stays : (start : ℕ) → count_of start (block_out p) ≡ 0 → count_of start (block_starts m.blocks) ≡ 0 → IsBlockArea c m start → Stays c m (effect_as c m k s) start
  pub hands : (j : ℕ) (at : PartAt) → j ≢ k → IsPartIn m j at → IsPartIn (effect_as c m k s) j at × OnRow (first_page at) (rounded at.pages) (IsStill m (effect_as c m k s))

-- the rows of parts lie in their block
pub part_within : (c : Setup) (m : PlainMap) (b : Block) (p : Part) → IsBlockFine c m b → IsIn p b.parts → (p.offset + size_of p ≤ c.block_pages) × (p.pages ≤ size_of p)
part_within c m b p fine there = let r = stacked_at b.parts 0 there.place p fine.stacked there.at in let w = fine.within in ((let q = r.1 in omega arith), r.2)

-- the row of a part by its place
pub row_of : (m : PlainMap) (k : ℕ) (at : PartAt) (is : IsPartIn m k at) → (is.block.start + is.part.offset ≡ first_page at) × (size_of is.part ≡ rounded at.pages) × (is.part.pages ≡ at.pages)
row_of m k at is = ((let a = is.start in let b = is.offset in omega arith), ap rounded is.pages, is.pages)

pub area_holds : (c : Setup) (m : PlainMap) (start : ℕ) (is : IsBlockArea c m start) (page : ℕ) → start ≤ page → page < start + c.block_pages → holds is.area.span page ≡ true
area_holds c m start is page a b = ap (λ s. holds s page) is.span ∙ holds_from (span start c.block_pages) page a b

pub area_start : (c : Setup) (m : PlainMap) (start : ℕ) (is : IsBlockArea c m start) → is.area.span.start ≡ start
area_start c m start is = ap (λ (s : Span). s.start) is.span

-- two block areas with one page have one start
pub same_start : (c : Setup) (m : PlainMap) (page start other : ℕ) → times page (spans_of m.areas) ≤ 1 → (a : IsBlockArea c m start) → (b : IsBlockArea c m other) → start ≤ page → page < start + c.block_pages → other ≤ page → page < other + c.block_pages → start ≡ other
same_start c m page start other once a b low high low' high' =
    let i = same_area page m.areas a.there.place b.there.place a.area b.area once a.there.at b.there.at (area_holds c m start a page low high) (area_holds c m other b page low' high') in
    let one : a.area ≡ b.area = (let g = b.there.at in let f : slice_get m.areas b.there.place ≡ Some a.area = ap (slice_get m.areas) (sym i) ∙ a.there.at in cc) in
    sym (area_start c m start a) ∙ ap (λ (x : Area). x.span.start) one ∙ area_start c m other b

module _ (c : Setup) (m : PlainMap) (k : ℕ) (p : Place) (s : Section) (n : Next) (all : (b : Block) → IsIn b m.blocks → IsBlockFine c m b)
    (named : (start : ℕ) → count_of start (block_starts m.blocks) + count_of start (block_out p) ≤ 1) where
  -- a block that stands is not out
  not_out : (b : Block) → IsIn b m.blocks → count_of b.start (block_out p) ≡ 0
  not_out b there = let n = block_count b m.blocks there in let o = named b.start in omega arith

  module _ (same : (effect_as c m k s).blocks ≡ m.blocks) (keep : (a : Area) (cpu : ℕ) → IsIn a m.areas → a.kind ≡ kind.Block cpu → count_of a.span.start (block_out p) ≡ 0 → IsIn a (effect_as c m k s).areas)
      (still : (page : ℕ) (start : ℕ) → IsBlockArea c m start → start ≤ page → page < start + c.block_pages → IsStill m (effect_as c m k s) page) where
    outer_stays : (start : ℕ) → count_of start (block_out p) ≡ 0 → IsBlockArea c m start → Stays c m (effect_as c m k s) start
    outer_stays start none area = record {
      area = λ is. record { area = is.area; cpu = is.cpu; there = keep is.area is.cpu is.there is.kind (ap (λ i. count_of i (block_out p)) (area_start c m start is) ∙ none); span = is.span; kind = is.kind };
      cpu = λ is. refl;
      pages = λ page a b. still page start area a b;
    }

    outer_hand : (j : ℕ) (at : PartAt) → IsPartIn m j at → IsPartIn (effect_as c m k s) j at × OnRow (first_page at) (rounded at.pages) (IsStill m (effect_as c m k s))
    outer_hand j at is =
        let fine = all is.block is.there in let w = part_within c m is.block is.part fine is.part_there in let r = row_of m j at is in (
          record { block = is.block; there = subst (IsIn is.block) (sym same) is.there; start = is.start; part = is.part; part_there = is.part_there; offset = is.offset; pages = is.pages; life = is.life },
          (λ page a b. still page is.block.start fine.area (let e = r.0 in omega arith) (let e = r.0 in let f = r.1 in let g = w.0 in omega arith)),
        )

    pub outer_moved : ((start : ℕ) → next_out n start ≤ count_of start (block_out p)) → OnNext (IsBlockAt c (effect_as c m k s) k) n → IsBlockMoved c m k p s n
    outer_moved outs own = record {
      names = λ start others once area. (let less = outs start in omega (arith, ap (λ l. count_of start (block_starts l)) same));
      blocks = λ b there. (let was = subst (IsIn b) same there in block_stays c m (effect_as c m k s) b (outer_stays b.start (not_out b was) (all b was).area) (all b was));
      own = own;
      stays = λ start none free area. outer_stays start none area;
      hands = λ j at apart is. outer_hand j at is;
    }

  -- Frames of one part.

  module _ (at : PartAt) (hand : IsPartIn m k at) (areas_once : (page : ℕ) → times page (spans_of m.areas) ≤ 1) (same : (effect_as c m k s).blocks ≡ m.blocks) (areas : (effect_as c m k s).areas ≡ m.areas)
      (untouched : (page : ℕ) → (page < first_page at) ⊎ (first_page at + at.pages ≤ page) → IsStill m (effect_as c m k s) page) where
    own_fine : IsBlockFine c m hand.block
    own_fine = all hand.block hand.there

    abbrev keep_area : (start : ℕ) → IsBlockArea c m start → IsBlockArea c (effect_as c m k s) start
    keep_area start is = record { area = is.area; cpu = is.cpu; there = subst (IsIn is.area) (sym areas) is.there; span = is.span; kind = is.kind }

    -- a page outside the part's row, or one of another block
    by_row : (page : ℕ) → ((first_page at ≤ page) → (page < first_page at + at.pages) → ⊥) → IsStill m (effect_as c m k s) page
    by_row page never = grind (arith, nat_tests)

    in_own : (page : ℕ) → first_page at ≤ page → page < first_page at + at.pages → (hand.block.start ≤ page) × (page < hand.block.start + c.block_pages)
    in_own page a b = let w = part_within c m hand.block hand.part own_fine hand.part_there in let r = row_of m k at hand in ((let e = r.0 in omega arith), (let e = r.0 in let f = r.2 in let g = w.0 in let h = w.1 in omega arith))

    other_still : (start : ℕ) → IsBlockArea c m start → start ≢ hand.block.start → OnRow start c.block_pages (IsStill m (effect_as c m k s))
    other_still start area apart page a b = by_row page (λ low high. (let r = in_own page low high in apart (same_start c m page start hand.block.start (areas_once page) area own_fine.area a b r.0 r.1)))

    part_still : (q : Part) → IsIn q hand.block.parts → q.offset ≢ hand.part.offset → OnRow (hand.block.start + q.offset) (size_of q) (IsStill m (effect_as c m k s))
    part_still q there apart page a b = by_row page (λ low high. never low high (stacked_apart hand.block.parts 0 there.place hand.part_there.place q hand.part own_fine.stacked there.at hand.part_there.at))
      where
        never : first_page at ≤ page → page < first_page at + at.pages → (q ≡ hand.part) ⊎ ((q.offset + size_of q ≤ hand.part.offset) ⊎ (hand.part.offset + size_of hand.part ≤ q.offset)) → ⊥
        never low high (inl e) = apart (ap (λ (x : Part). x.offset) e)
        never low high (inr (inl e)) = let r = (row_of m k at hand).0 in omega arith
        never low high (inr (inr e)) = let r = row_of m k at hand in let w = part_within c m hand.block hand.part own_fine hand.part_there in omega (arith, r.0, r.2, w.1)

    own_part : (q : Part) → q ≡ hand.part → IsPartFine m hand.block.start q → IsPartFine (effect_as c m k s) hand.block.start q
    own_part q e is = grind (arith, still_bare, by_row, row_of, nat_tests)

    inner_part : (q : Part) → IsIn q hand.block.parts → IsPartFine (effect_as c m k s) hand.block.start q
    inner_part q there = elim (same_or q.offset hand.part.offset) [
      | inl e ↦ own_part q (elim (stacked_apart hand.block.parts 0 there.place hand.part_there.place q hand.part own_fine.stacked there.at hand.part_there.at) [
        | inl same ↦ same
        | inr apart ↦ absurd (elim apart [ inl low ↦ omega (arith, rounded_some q.pages) | inr low ↦ omega (arith, rounded_some hand.part.pages) ])
      ]) (own_fine.parts q there)
      | inr apart ↦ part_stays m (effect_as c m k s) hand.block.start q (part_within c m hand.block q own_fine there).1 (part_still q there apart) (own_fine.parts q there)
    ]

    own_block : IsBlockFine c (effect_as c m k s) hand.block
    own_block = record {
      area = keep_area hand.block.start own_fine.area;
      stacked = own_fine.stacked;
      within = own_fine.within;
      parts = inner_part;
      rest = λ page a b. still_bare m (effect_as c m k s) page (by_row page (λ low high. (let r = row_of m k at hand in let w = stacked_at hand.block.parts 0 hand.part_there.place hand.part own_fine.stacked hand.part_there.at in
          omega (arith, r.0, r.2, w.1, w.2)))) (own_fine.rest page a b);
    }

    inner_block : (b : Block) → IsIn b m.blocks → IsBlockFine c (effect_as c m k s) b
    inner_block b there = elim (same_or b.start hand.block.start) [
      | inl e ↦ subst (IsBlockFine c (effect_as c m k s)) (sym (same_block m.blocks hand.block.start there.place hand.there.place b hand.block (let o = named hand.block.start in omega arith) there.at hand.there.at e refl)) own_block
      | inr apart ↦ block_stays c m (effect_as c m k s) b (record { area = keep_area b.start; cpu = λ is. refl; pages = other_still b.start (all b there).area apart }) (all b there)
    ]

    inner_hand : (j : ℕ) (at' : PartAt) → j ≢ k → IsPartIn m j at' → IsPartIn (effect_as c m k s) j at' × OnRow (first_page at') (rounded at'.pages) (IsStill m (effect_as c m k s))
    inner_hand j at' apart is = (
      record { block = is.block; there = subst (IsIn is.block) (sym same) is.there; start = is.start; part = is.part; part_there = is.part_there; offset = is.offset; pages = is.pages; life = is.life },
      (λ page a b. hand_still page a b (same_or is.block.start hand.block.start)),
    )
      where
        fine : IsBlockFine c m is.block
        fine = all is.block is.there

        hand_still : (page : ℕ) → first_page at' ≤ page → page < first_page at' + rounded at'.pages → (is.block.start ≡ hand.block.start) ⊎ (is.block.start ≢ hand.block.start) → IsStill m (effect_as c m k s) page
        hand_still page a b (inr other) = let r = row_of m j at' is in let w = part_within c m is.block is.part fine is.part_there in
            other_still is.block.start fine.area other page (let e = r.0 in omega arith) (let e = r.0 in let f = r.1 in let g = w.0 in omega arith)
        hand_still page a b (inl e) =
            let one : is.block ≡ hand.block = same_block m.blocks hand.block.start is.there.place hand.there.place is.block hand.block (let o = named hand.block.start in omega arith) is.there.at hand.there.at e refl in
            let there : IsIn is.part hand.block.parts = subst (λ (x : Block). IsIn is.part x.parts) one is.part_there in
            let r = row_of m j at' is in
            part_still is.part there (λ f. apart (let two : is.part ≡ hand.part = same_part hand.block.parts 0 there.place hand.part_there.place is.part hand.part own_fine.stacked there.at hand.part_there.at f in
            let lives : InHand j ≡ InHand k = sym is.life ∙ ap (λ (x : Part). x.life) two ∙ hand.life in cc)) page (let g = r.0 in omega arith) (let g = r.0 in let h = r.1 in omega arith)

    pub inner_moved : ((start : ℕ) → next_out n start ≤ count_of start (block_out p)) → OnNext (IsBlockAt c (effect_as c m k s) k) n → IsBlockMoved c m k p s n
    inner_moved outs own = record {
      names = λ start others once area. (let less = outs start in omega (arith, ap (λ l. count_of start (block_starts l)) same));
      blocks = λ b there. inner_block b (subst (IsIn b) same there);
      own = own;
      stays = λ start none free area. record { area = keep_area start; cpu = λ is. refl; pages = other_still start area (λ e. (let n = block_count hand.block m.blocks hand.there in omega (arith, ap (λ i. count_of i (block_starts m.blocks)) e))) };
      hands = inner_hand;
    }
