-- What the sections that change blocks do to blocks and parts.
use Rattle.std.proofs.Common.{◌≡◌, ◌≢◌, ℕ, ◌+◌, ◌-◌, ◌<◌, ◌≤◌, ◌⊎◌, inl, inr, Bool, true, false, ◌==◌, nat_lt, if◌then◌else◌, List, [], ◌∷◌, map, slice_get, Some, refl, ap, sym, ◌∙◌, subst, arith}
use Rattle.std.proofs.lemmas.Bool.Decides.{nat_tests}
use Rattle.std.proofs.lemmas.Option.{slice_get-map}
use Rattle.vm_model.specs.Setup.{Setup}
use Rattle.vm_model.specs.PlainMap.{PlainMap, Block, Part, Life, InHand, is_ended}
use Rattle.vm_model.specs.Blocks.{PartAt, size_of, parts_size, dirty_of, change_block, with_life, set_life}
use Rattle.vm_model.specs.Legal.{IsUnmapped}
use Rattle.map_laws.proofs.KeptThroughSteps.{same_or}
use Rattle.map_laws.proofs.TestsAndFilters.{IsIn, sum_without}
use Rattle.map_laws.proofs.chunks.ChunkFalls.{mapped_at}
use Rattle.vm_model.proofs.RoundedPages.{rounded_some}
use Rattle.map_laws.proofs.blocks.BlockFacts.{OnRow, AreStacked, IsPartFine, IsBlockFine, IsPartIn, block_starts, to_same, stacked_covers, size_cons, Stays}
use Rattle.map_laws.proofs.chunks.ChunkRows.{keyed_in, keyed_is, unkeyed_in}

-- Changes of one block.

pub in_of : {X : Type 0} (xs : List X) (i : ℕ) (x : X) → slice_get xs i ≡ Some x → IsIn x xs
in_of xs i x h = record { place = i; at = h }

-- a block of the changed list is the changed one, or another one as it was
pub changed_is : (start : ℕ) (change : Block → Block) (blocks : List Block) (b : Block) → IsIn b (change_block start change blocks)
    → (was : Block) × IsIn was blocks × (((was.start ≡ start) × (b ≡ change was)) ⊎ ((was.start ≢ start) × (b ≡ was)))
changed_is start change blocks b there = keyed_is (λ (x : Block). x.start) start change blocks b there

-- and each block of the list is there, changed or not
pub changed_in : (start : ℕ) (change : Block → Block) (blocks : List Block) (b : Block) → IsIn b blocks → b.start ≡ start → IsIn (change b) (change_block start change blocks)
changed_in start change blocks b there e = keyed_in (λ (x : Block). x.start) start change blocks b there e

pub unchanged_in : (start : ℕ) (change : Block → Block) (blocks : List Block) (b : Block) → IsIn b blocks → b.start ≢ start → IsIn b (change_block start change blocks)
unchanged_in start change blocks b there n = unkeyed_in (λ (x : Block). x.start) start change blocks b there n

pub changed_starts : (start : ℕ) (change : Block → Block) → ((b : Block) → (change b).start ≡ b.start) → (blocks : List Block) → block_starts (change_block start change blocks) ≡ block_starts blocks
changed_starts start change keeps [] = refl
changed_starts start change keeps (b ∷ blocks) = grind (arith, changed_starts start change keeps blocks, block_starts, nat_tests)

-- what holds of blocks where only blocks changed
pub blocks_only : (c : Setup) (m m' : PlainMap) (start : ℕ) → m'.areas ≡ m.areas → m'.frames ≡ m.frames → m'.stale ≡ m.stale → Stays c m m' start
blocks_only c m m' start a f s = record {
  area = λ is. record { area = is.area; cpu = is.cpu; there = subst (IsIn is.area) (sym a) is.there; span = is.span; kind = is.kind };
  cpu = λ is. refl;
  pages = λ page low high. record { frame = ap (λ l. slice_get l page) f; clean = λ h. ap (λ l. slice_get l page) s ∙ h };
}

-- Lives.

life_if : (life : Life) (p : Part) (t : Bool) → ((if t then record p { life = life } else p).offset ≡ p.offset) × ((if t then record p { life = life } else p).pages ≡ p.pages)
life_if life p true = (refl, refl)
life_if life p false = (refl, refl)

pub lived_stack : (at : PartAt) (life : Life) (ps : List Part) (off : ℕ) → AreStacked off ps → AreStacked off (map (λ (p : Part). if p.offset == at.offset then record p { life = life } else p) ps)
lived_stack at life [] off st = tt
lived_stack at life (p ∷ ps) off st = grind (arith, lived_stack at life ps (off + size_of p) st.2, life_if, nat_tests)

pub lived_size : (at : PartAt) (life : Life) (ps : List Part) → parts_size (map (λ (p : Part). if p.offset == at.offset then record p { life = life } else p) ps) ≡ parts_size ps
lived_size at life [] = refl
lived_size at life (p ∷ ps) = grind (arith, lived_size at life ps, life_if, size_cons, nat_tests)

-- a part behind the change: as it was, or the one with this offset and the new life
pub lived_is : (at : PartAt) (life : Life) (ps : List Part) (q : Part) → IsIn q (map (λ (p : Part). if p.offset == at.offset then record p { life = life } else p) ps)
    → (was : Part) × IsIn was ps × (((was.offset ≡ at.offset) × (q ≡ record was { life = life })) ⊎ ((was.offset ≢ at.offset) × (q ≡ was)))
lived_is at life ps q there = grind (arith, mapped_at, in_of, to_same, nat_tests)

pub lived_in : (at : PartAt) (life : Life) (ps : List Part) (p : Part) → IsIn p ps → p.offset ≡ at.offset → IsIn (record p { life = life }) (map (λ (p : Part). if p.offset == at.offset then record p { life = life } else p) ps)
lived_in at life ps p there e = grind (arith, slice_get-map, nat_tests)

pub unlived_in : (at : PartAt) (life : Life) (ps : List Part) (p : Part) → IsIn p ps → p.offset ≢ at.offset → IsIn p (map (λ (p : Part). if p.offset == at.offset then record p { life = life } else p) ps)
unlived_in at life ps p there n = grind (arith, slice_get-map, to_same, nat_tests)

module _ (c : Setup) (m : PlainMap) (all : (b : Block) → IsIn b m.blocks → IsBlockFine c m b) where
  -- a block whose part gets another life
  pub lived_block : (at : PartAt) (life : Life) (b : Block) → IsIn b m.blocks → ((p : Part) → IsIn p b.parts → p.offset ≡ at.offset → IsPartFine m b.start (record p { life = life })) → IsBlockFine c m (with_life at life b)
  lived_block at life b there new = let fine = all b there in record {
    area = fine.area;
    stacked = lived_stack at life b.parts 0 fine.stacked;
    within = (let w = fine.within in omega (arith, lived_size at life b.parts));
    parts = λ q qs. by_kind q (lived_is at life b.parts q qs);
    rest = λ page low high. fine.rest page (omega (arith, lived_size at life b.parts)) high;
  }
    where
      by_kind : (q : Part) → ((was : Part) × IsIn was b.parts × (((was.offset ≡ at.offset) × (q ≡ record was { life = life })) ⊎ ((was.offset ≢ at.offset) × (q ≡ was)))) → IsPartFine m b.start q
      by_kind q is = elim is.2 [ inl e ↦ subst (IsPartFine m b.start) (sym e.1) (new is.0 is.1 e.0) | inr e ↦ subst (IsPartFine m b.start) (sym e.1) ((all b there).parts is.0 is.1) ]

  pub lived_blocks : (at : PartAt) (life : Life) → ((b : Block) (p : Part) → IsIn b m.blocks → b.start ≡ at.block → IsIn p b.parts → p.offset ≡ at.offset → IsPartFine m b.start (record p { life = life }))
      → (b : Block) → IsIn b (set_life at life m.blocks) → IsBlockFine c m b
  lived_blocks at life new b there =
      let was = changed_is at.block (with_life at life) m.blocks b there in
      elim was.2 [
        | inl e ↦ subst (IsBlockFine c m) (sym e.1) (lived_block at life was.0 was.1 (λ p ps f. new was.0 p was.1 e.0 ps f))
        | inr e ↦ subst (IsBlockFine c m) (sym e.1) (all was.0 was.1)
      ]

  -- another caller's part keeps its life where it is another part
  pub lived_hand : (j : ℕ) (at at' : PartAt) (life : Life) (m' : PlainMap) → m'.blocks ≡ set_life at life m.blocks → (is : IsPartIn m j at') → ((is.block.start ≡ at.block) → (is.part.offset ≡ at.offset) → ⊥) → IsPartIn m' j at'
  lived_hand j at at' life m' e is apart = elim (same_or is.block.start at.block) [
    | inl same ↦ record {
      block = with_life at life is.block;
      there = subst (IsIn (with_life at life is.block)) (sym e) (changed_in at.block (with_life at life) m.blocks is.block is.there same);
      start = is.start;
      part = is.part;
      part_there = unlived_in at life is.block.parts is.part is.part_there (apart same);
      offset = is.offset;
      pages = is.pages;
      life = is.life;
    }
    | inr other ↦ record {
      block = is.block;
      there = subst (IsIn is.block) (sym e) (unchanged_in at.block (with_life at life) m.blocks is.block is.there other);
      start = is.start;
      part = is.part;
      part_there = is.part_there;
      offset = is.offset;
      pages = is.pages;
      life = is.life;
    }
  ]

  pub own_lived : (k : ℕ) (at : PartAt) (m' : PlainMap) (b : Block) (p : Part) → m'.blocks ≡ set_life at (InHand k) m.blocks → IsIn b m.blocks → b.start ≡ at.block → IsIn p b.parts → p.offset ≡ at.offset → p.pages ≡ at.pages → IsPartIn m' k at
  own_lived k at m' b p e there start ps off pages = record {
    block = with_life at (InHand k) b;
    there = subst (IsIn (with_life at (InHand k) b)) (sym e) (changed_in at.block (with_life at (InHand k)) m.blocks b there start);
    start = start;
    part = record p { life = InHand k };
    part_there = lived_in at (InHand k) b.parts p ps off;
    offset = off;
    pages = pages;
    life = refl;
  }

-- All parts of a block have ended.

pub all_ended : (b : Block) → parts_size b.parts ≤ dirty_of b → (p : Part) → IsIn p b.parts → is_ended p.life ≡ true
all_ended b full p there = grind (arith, rounded_some, sum_without, nat_tests)

-- its pages are unmapped
pub ended_unmapped : (c : Setup) (m : PlainMap) (b : Block) → IsBlockFine c m b → parts_size b.parts ≤ dirty_of b → OnRow b.start c.block_pages (IsUnmapped m)
ended_unmapped c m b fine full page low high = by_high (nat_lt page (b.start + parts_size b.parts)) refl
  where
    by_high : (t : Bool) → nat_lt page (b.start + parts_size b.parts) ≡ t → IsUnmapped m page
    by_high true e =
        let inside : page < b.start + parts_size b.parts = grind (arith, nat_tests) in
        let at = stacked_covers b.parts 0 (page - b.start) fine.stacked (omega arith) (omega arith) in
        (fine.parts at.0 at.1).ended (all_ended b full at.0 at.1) page (let a = at.2 in omega arith) (let a = at.3 in omega arith)
    by_high false e = let past : b.start + parts_size b.parts ≤ page = grind (arith, nat_tests) in (fine.rest page past high).unmapped

-- a block with a part in hand isn't all ended
pub hand_not_ended : (b : Block) (p : Part) (k : ℕ) → IsIn p b.parts → p.life ≡ InHand k → parts_size b.parts ≤ dirty_of b → ⊥
hand_not_ended b p k there e full = let ended = all_ended b full p there in let no : is_ended p.life ≡ false = ap is_ended e in cc
