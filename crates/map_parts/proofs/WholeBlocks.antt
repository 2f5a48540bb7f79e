-- Blocks after a section: each stays whole, and parts that are in hand stay there.
use Rattle.std.proofs.Common.{◌≡◌, ◌≢◌, ℕ, ◌-◌, ◌≤◌, Bool, true, false, not, ◌&&◌, ◌==◌, nat_lt, if◌then◌else◌, List, ◌∷◌, filter, length, slice_get, sum_by, Some, refl, ap, sym, ◌∙◌, subst, arith, option_map}
use Rattle.std.proofs.lemmas.Bool.Decides.{nat_tests}
use Rattle.std.proofs.lemmas.Option.{slice_get-map}
use Rattle.vm_model.specs.Space.{span, holds, one_if, is_among}
use Rattle.vm_model.specs.Setup.{Setup}
use Rattle.vm_model.specs.PlainMap.{Block, Part, Life, InHand, Lives, Ended, is_ended, lives_as}
use Rattle.vm_model.specs.Blocks.{PartAt, rounded, parts_size, free_of, blocks_of, queue_of, part_to_cut, cut_from, named_parts, named_in, is_named, fragmented, is_fragmented, is_spent, change_block, with_part, with_life, set_life, without_spent}
use Rattle.map_parts.specs.Owners.{every, of_block}
use Rattle.map_parts.specs.KeptByEvents.{AreInRow, IsBlockWhole, HasPart}
use Rattle.map_parts.proofs.Filters.{filter_passes, filter_within, filter_keeps, found_there, flat_map_each, map_was, option_map_was, among_map_was, append_first, append_last}
use Rattle.map_parts.proofs.Sums.{only_one}
use Rattle.map_parts.proofs.PartRows.{row_once, unspent_with, unfragmented_with, whole_push, whole_life, row_life, size_life}
use Rattle.map_parts.proofs.Tests.{both_true, is_equal, is_other, is_same, le_test, not_true}

abbrev pub AreWhole : Setup → List Block → Type 0
AreWhole c blocks = (i : ℕ) (b : Block) → slice_get blocks i ≡ Some b → IsBlockWhole c b

-- no page is in two blocks
abbrev pub AreOnce : Setup → List Block → Type 0
AreOnce c blocks = (page : ℕ) → sum_by (of_block c every page) blocks ≤ 1

first_held : (c : Setup) (b : Block) (page : ℕ) → 1 ≤ c.block_pages → b.start ≡ page → 1 ≤ of_block c every page b
first_held c b page some e = let on : holds (span b.start c.block_pages) page ≡ true = grind (arith, nat_tests) in omega (arith, ap one_if on)

-- how a change leaves a block
changed : (start : ℕ) (change : Block → Block) (b : Block) → (b.start == start) ≡ true → (if b.start == start then change b else b) ≡ change b
changed start change b e = ap (λ t. if t then change b else b) e

abbrev pub named_at : Block → Part → PartAt
named_at b p = record { cpu = b.cpu; block = b.start; offset = p.offset; pages = p.pages }

module _ (c : Setup) (blocks : List Block) (some : 1 ≤ c.block_pages) (once : AreOnce c blocks) where
  -- two blocks at one page are one block
  pub same_block : (i j : ℕ) (b b' : Block) → slice_get blocks i ≡ Some b → slice_get blocks j ≡ Some b' → b.start ≡ b'.start → b ≡ b'
  same_block i j b b' at at' e = only_one (of_block c every b'.start) blocks i j b b' (once b'.start) at at' (first_held c b b'.start some e) (first_held c b' b'.start some refl)

  -- a part is told by its place
  pub same_part : AreWhole c blocks → (at : PartAt) (life : Life) → HasPart blocks at life → (i : ℕ) (b : Block) (j : ℕ) (p : Part) → slice_get blocks i ≡ Some b → b.start ≡ at.block
      → slice_get b.parts j ≡ Some p → p.offset ≡ at.offset → p.life ≡ life
  same_part whole at life has i b j p here start within offset =
      let same : has.block ≡ b = same_block has.number i has.block b has.there here (has.start ∙ sym start) in
      let there : slice_get b.parts has.place ≡ Some has.part = ap (λ (b : Block). slice_get b.parts has.place) (sym same) ∙ has.within in
      ap (λ (p : Part). p.life) (row_once 0 b.parts j has.place p has.part (whole i b here).row within there (offset ∙ sym has.offset)) ∙ has.lives

  -- blocks that are changed one by one
  changed_whole : (start : ℕ) (change : Block → Block) → AreWhole c blocks → ((i : ℕ) (b : Block) → slice_get blocks i ≡ Some b → b.start ≡ start → IsBlockWhole c (change b))
      → AreWhole c (change_block start change blocks)
  changed_whole start change whole new i b at =
      let w = map_was (λ (b : Block). if b.start == start then change b else b) blocks i b at in
      subst (IsBlockWhole c) w.2 (by_test w.0 (w.0.start == start) refl (whole i w.0 w.1) (new i w.0 w.1))
    where
      by_test : (old : Block) (t : Bool) → (old.start == start) ≡ t → IsBlockWhole c old → (old.start ≡ start → IsBlockWhole c (change old)) → IsBlockWhole c (if t then change old else old)
      by_test old true e was now = now (is_same old.start start e)
      by_test old false e was now = was

  has_after : (start : ℕ) (change : Block → Block) (at : PartAt) (life life' : Life) → ((b : Block) → (change b).start ≡ b.start) → ((b : Block) → (change b).cpu ≡ b.cpu) → (has : HasPart blocks at life)
      → (p : Part) (j : ℕ) → p.offset ≡ at.offset → p.pages ≡ at.pages → p.life ≡ life'
      → slice_get (if has.block.start == start then change has.block else has.block).parts j ≡ Some p
      → HasPart (change_block start change blocks) at life'
  has_after start change at life life' keeps keeps_cpu has p j offset pages lives within = grind (arith, slice_get-map, nat_tests)

  -- A part that is cut.

  pub record IsCut (cpu pages : ℕ) (at : PartAt) : Type 0 where
    pub block : Block
    pub number : ℕ
    pub there : slice_get blocks number ≡ Some block
    pub own : block.cpu ≡ cpu
    pub room : rounded pages ≤ free_of c block
    pub is : cut_from c pages block ≡ at

  pub is_cut : (cpu pages : ℕ) (at : PartAt) → part_to_cut c cpu pages blocks ≡ Some at → IsCut cpu pages at
  is_cut cpu pages at h = grind (arith, option_map_was, found_there, filter_within, is_same, filter_passes, le_test, nat_tests)

  pub cut_whole : (k cpu pages : ℕ) (at : PartAt) → part_to_cut c cpu pages blocks ≡ Some at → AreWhole c blocks → AreWhole c (change_block at.block (with_part k at) blocks)
  cut_whole k cpu pages at h whole =
      let cut = is_cut cpu pages at h in
      let size : rounded at.pages ≡ rounded pages = ap (λ (at : PartAt). rounded at.pages) (sym cut.is) in
      changed_whole at.block (with_part k at) whole (λ i b here start.
      let same : cut.block ≡ b = same_block cut.number i cut.block b cut.there here (ap (λ (at : PartAt). at.block) cut.is ∙ sym start) in
      let w = whole i b here in
      let room : rounded pages ≤ c.block_pages - parts_size b.parts = subst (λ (b : Block). rounded pages ≤ free_of c b) same cut.room in
      let offset : c.block_pages - (c.block_pages - parts_size b.parts) ≡ at.offset = ap (λ (b : Block). c.block_pages - free_of c b) (sym same) ∙ ap (λ (at : PartAt). at.offset) cut.is in
      whole_push c k at b w (let in_all = w.within in omega arith) (let in_all = w.within in omega arith))

  pub cut_others : (k : ℕ) (at at' : PartAt) (life : Life) → HasPart blocks at' life → HasPart (change_block at.block (with_part k at) blocks) at' life
  cut_others k at at' life has =
      has_after at.block (with_part k at) at' life life (λ b. refl) (λ b. refl) has has.part has.place has.offset has.pages has.lives (by_test (has.block.start == at.block))
    where
      by_test : (t : Bool) → slice_get (if t then with_part k at has.block else has.block).parts has.place ≡ Some has.part
      by_test true = append_first has.block.parts _ has.place has.part has.within
      by_test false = has.within

  pub cut_own : (k cpu pages : ℕ) (at : PartAt) → part_to_cut c cpu pages blocks ≡ Some at → (at.cpu ≡ cpu) × HasPart (change_block at.block (with_part k at) blocks) at (InHand k)
  cut_own k cpu pages at h =
      let cut = is_cut cpu pages at h in
      let start : cut.block.start ≡ at.block = ap (λ (at : PartAt). at.block) cut.is in
      let new : Part = record { offset = at.offset; pages = at.pages; caller = k; life = InHand k } in (
        sym (ap (λ (at : PartAt). at.cpu) cut.is) ∙ cut.own,
        record {
          block = with_part k at cut.block;
          number = cut.number;
          there = slice_get-map (λ (b : Block). if b.start == at.block then with_part k at b else b) blocks cut.number ∙ ap (option_map (λ (b : Block). if b.start == at.block then with_part k at b else b)) cut.there
              ∙ ap (λ b. Some b) (changed at.block (with_part k at) cut.block (is_equal cut.block.start at.block start));
          start = start;
          cpu = ap (λ (at : PartAt). at.cpu) cut.is;
          part = new;
          place = length cut.block.parts;
          within = append_last cut.block.parts new;
          offset = refl;
          pages = refl;
          lives = refl;
        },
      )

  -- A part whose life changes.

  life_at : (at : PartAt) (life : Life) (p : Part) → p.offset ≡ at.offset → (if p.offset == at.offset then record p { life = life } else p) ≡ record p { life = life }
  life_at at life p e = ap (λ t. if t then record p { life = life } else p) (is_equal p.offset at.offset e)

  life_elsewhere : (at : PartAt) (life : Life) (p : Part) → p.offset ≢ at.offset → (if p.offset == at.offset then record p { life = life } else p) ≡ p
  life_elsewhere at life p n = ap (λ t. if t then record p { life = life } else p) (is_other p.offset at.offset n)

  life_within : (at : PartAt) (life : Life) (b : Block) (j : ℕ) (p q : Part) → slice_get b.parts j ≡ Some p → (if p.offset == at.offset then record p { life = life } else p) ≡ q
      → slice_get (with_life at life b).parts j ≡ Some q
  life_within at life b j p q there e = grind (arith, slice_get-map, nat_tests)

  pub life_whole : AreWhole c blocks → (at : PartAt) (old new : Life) → HasPart blocks at old → is_ended old ≡ false → is_ended new ≡ false → AreWhole c (set_life at new blocks)
  life_whole whole at old new has was goes =
      changed_whole at.block (with_life at new) whole
      (λ i b here start. whole_life c at new b (whole i b here) goes (λ j p within offset. ap is_ended (same_part whole at old has i b j p here start within offset) ∙ was))

  -- other parts keep theirs
  pub life_others : AreWhole c blocks → (at at' : PartAt) (old new life : Life) → HasPart blocks at old → life ≢ old → HasPart blocks at' life → HasPart (set_life at new blocks) at' life
  life_others whole at at' old new life has other has' =
      has_after at.block (with_life at new) at' life life (λ b. refl) (λ b. refl) has' has'.part has'.place has'.offset has'.pages has'.lives (by_test (has'.block.start == at.block) refl)
    where
      by_test : (t : Bool) → (has'.block.start == at.block) ≡ t → slice_get (if t then with_life at new has'.block else has'.block).parts has'.place ≡ Some has'.part
      by_test true e = life_within at new has'.block has'.place has'.part has'.part has'.within
          (life_elsewhere at new has'.part (λ offset. other (sym has'.lives ∙ same_part whole at old has has'.number has'.block has'.place has'.part has'.there (is_same has'.block.start at.block e) has'.within offset)))
      by_test false e = has'.within

  pub life_own : (at : PartAt) (old new : Life) → HasPart blocks at old → HasPart (set_life at new blocks) at new
  life_own at old new has =
      has_after at.block (with_life at new) at old new (λ b. refl) (λ b. refl) has (record has.part { life = new }) has.place has.offset has.pages refl
      (ap (λ t. slice_get (if t then with_life at new has.block else has.block).parts has.place) (is_equal has.block.start at.block has.start)
      ∙ life_within at new has.block has.place has.part (record has.part { life = new }) has.within (life_at at new has.part has.offset))

  -- Blocks that leave the list.

  pub filter_whole : (stays : Block → Bool) → AreWhole c blocks → AreWhole c (filter stays blocks)
  filter_whole stays whole i b at = let w = filter_within stays blocks i b at in whole w.0 b w.1

  pub filter_has : (stays : Block → Bool) (at : PartAt) (life : Life) → (has : HasPart blocks at life) → stays has.block ≡ true → HasPart (filter stays blocks) at life
  filter_has stays at life has e =
      let w = filter_keeps stays blocks has.number has.block has.there e in
      record { block = has.block; number = w.0; there = w.1; start = has.start; cpu = has.cpu; part = has.part; place = has.place; within = has.within; offset = has.offset; pages = has.pages; lives = has.lives }

  -- a block with a part that hasn't ended isn't among the fragmented ones
  not_both : (a b : Bool) → (b ≡ true → ⊥) → not (a && b) ≡ true
  not_both a true n = absurd (n refl)
  not_both true false n = refl
  not_both false false n = refl

  pub fragment_has : AreWhole c blocks → (cpu : ℕ) (at : PartAt) (life : Life) → is_ended life ≡ false → HasPart blocks at life
      → HasPart (filter (λ (b : Block). not ((b.cpu == cpu) && is_among (fragmented c cpu blocks) b.start)) blocks) at life
  fragment_has whole cpu at life goes has =
      filter_has (λ (b : Block). not ((b.cpu == cpu) && is_among (fragmented c cpu blocks) b.start)) at life has
      (not_both (has.block.cpu == cpu) _ (λ gone.
      let w = among_map_was (λ (b : Block). b.start) (filter (is_fragmented c) (queue_of c cpu blocks)) has.block.start gone in
      let queued = filter_within (is_fragmented c) (queue_of c cpu blocks) w.0 w.1 w.2 in
      let own = filter_within (λ (b : Block). nat_lt 0 (free_of c b)) (blocks_of cpu blocks) queued.0 w.1 queued.1 in
      let there = filter_within (λ (b : Block). b.cpu == cpu) blocks own.0 w.1 own.1 in
      let same : w.1 ≡ has.block = same_block there.0 has.number w.1 has.block there.1 has.there w.3 in
      let is : is_fragmented c has.block ≡ true = ap (is_fragmented c) (sym same) ∙ filter_passes (is_fragmented c) (queue_of c cpu blocks) w.0 w.1 w.2 in
      let isnt = unfragmented_with c has.block has.place has.part (whole has.number has.block has.there).within has.within (ap is_ended has.lives ∙ goes) in
      cc))

  -- a live part that is named
  pub record IsNamedPart (cpu page serial : ℕ) (at : PartAt) : Type 0 where
    pub own : at.cpu ≡ cpu
    pub has : HasPart blocks at (Lives serial)

  lives_is : (serial : ℕ) (life : Life) → lives_as serial life ≡ true → life ≡ Lives serial
  lives_is serial life h = grind (arith, is_same, nat_tests)

  pub is_named_part : (cpu page serial : ℕ) (at : PartAt) (parts : List PartAt) → named_parts cpu page serial blocks ≡ at ∷ parts → IsNamedPart cpu page serial at
  is_named_part cpu page serial at parts h =
      flat_map_each (IsNamedPart cpu page serial) (named_in page serial) (blocks_of cpu blocks)
      (λ i b there j at' e.
      let w = filter_within (λ (b : Block). b.cpu == cpu) blocks i b there in
      let made = map_was (named_at b) (filter (is_named page serial b) b.parts) j at' e in
      let within = filter_within (is_named page serial b) b.parts j made.0 made.1 in
      let own : b.cpu ≡ cpu = is_same b.cpu cpu (filter_passes (λ (b : Block). b.cpu == cpu) blocks i b there) in
      record {
        own = ap (λ (a : PartAt). a.cpu) (sym made.2) ∙ own;
        has = record {
          block = b;
          number = w.0;
          there = w.1;
          start = ap (λ (a : PartAt). a.block) made.2;
          cpu = ap (λ (a : PartAt). a.cpu) made.2;
          part = made.0;
          place = within.0;
          within = within.1;
          offset = ap (λ (a : PartAt). a.offset) made.2;
          pages = ap (λ (a : PartAt). a.pages) made.2;
          lives = lives_is serial made.0.life (both_true _ _ (filter_passes (is_named page serial b) b.parts j made.0 made.1)).1;
        };
      })
      0 at (ap (λ parts. slice_get parts 0) h)

-- A part that ends, and the spent blocks that go.

module _ (c : Setup) (blocks : List Block) (some : 1 ≤ c.block_pages) (once : AreOnce c blocks) where
  -- what blocks are whatever is spent
  pub record IsRow (b : Block) : Type 0 where
    pub row : AreInRow 0 b.parts
    pub within : parts_size b.parts ≤ c.block_pages

  ended_row : (at : PartAt) (life : Life) → AreWhole c blocks → (i : ℕ) (b : Block) → slice_get (set_life at life blocks) i ≡ Some b → IsRow b
  ended_row at life whole i b there =
      let w = map_was (λ (b : Block). if b.start == at.block then with_life at life b else b) blocks i b there in
      subst IsRow w.2 (by_test w.0 (w.0.start == at.block) (whole i w.0 w.1))
    where
      by_test : (old : Block) (t : Bool) → IsBlockWhole c old → IsRow (if t then with_life at life old else old)
      by_test old true was = record { row = row_life at life old was.row; within = subst (λ n. n ≤ c.block_pages) (sym (size_life at life old)) was.within }
      by_test old false was = record { row = was.row; within = was.within }

  pub retire_whole : (at : PartAt) (life : Life) → AreWhole c blocks → AreWhole c (without_spent c (set_life at life blocks))
  retire_whole at life whole i b there =
      let w = filter_within (λ (b : Block). not (is_spent c b)) (set_life at life blocks) i b there in
      let row = ended_row at life whole w.0 b w.1 in
      record { row = row.row; within = row.within; unspent = not_true _ (filter_passes (λ (b : Block). not (is_spent c b)) (set_life at life blocks) i b there) }

  unspent_has : (at at' : PartAt) (life' life : Life) → AreWhole c blocks → is_ended life ≡ false → HasPart (set_life at life' blocks) at' life → HasPart (without_spent c (set_life at life' blocks)) at' life
  unspent_has at at' life' life whole goes has =
      let row = ended_row at life' whole has.number has.block has.there in
      let unspent = unspent_with c has.block has.place has.part row.within has.within (ap is_ended has.lives ∙ goes) in
      let w = filter_keeps (λ (b : Block). not (is_spent c b)) (set_life at life' blocks) has.number has.block has.there (ap not unspent) in
      record { block = has.block; number = w.0; there = w.1; start = has.start; cpu = has.cpu; part = has.part; place = has.place; within = has.within; offset = has.offset; pages = has.pages; lives = has.lives }

  pub retire_others : (at at' : PartAt) (old life : Life) → AreWhole c blocks → HasPart blocks at old → life ≢ old → is_ended life ≡ false → HasPart blocks at' life
      → HasPart (without_spent c (set_life at Ended blocks)) at' life
  retire_others at at' old life whole has other goes has' = unspent_has at at' Ended life whole goes (life_others c blocks some once whole at at' old Ended life has other has')
