-- A side with another block at a start.
use Rattle.std.proofs.Common.{◌≡◌, ℕ, ◌+◌, ◌-◌, ◌<◌, Bool, true, false, ◌==◌, nat_lt, cond, if◌then◌else◌, List, [], ◌∷◌, map, filter, Option, Some, None, option_map, refl, sym, ap, subst, ◌∙◌, arith}
use Rattle.std.specs.Map.{values_of, set_value}
use Rattle.vm_model.specs.PlainMap.{Block, Part, Life, InHand, is_ended}
use Rattle.vm_model.specs.Blocks as model
use Rattle.vm_model.specs.Blocks.{PartAt, size_of, parts_size, free_of, dirty_of, is_spent}
use Rattle.map_blocks.specs.BlockRows.{sized}
use Rattle.map_blocks.specs.KeptBlocks.{KeptRow, ArePacked, IsInHand, part_in, with_life_at}
use Rattle.map_blocks.specs.KeptBlockSides.{IsOwn, AreApartFrom, AreKept, block_at, by_number, blocks_in, queued}
use Rattle.map_blocks.proofs.PartsInRow.{lived, lived_set, set_ended_same, ended_in, size_cons, found_at}
use Rattle.map_blocks.proofs.Lives.{IsOpenAt}
use Rattle.map_blocks.proofs.BlocksByStart.{at_key, apart_set, values_set, found}
use Rattle.map_blocks.proofs.BlocksInOrder.{changed_at, sort_changed, blocks_changed}

-- the block at a start is another
pub written : (cpu pages added k : ℕ) (h : Block → Block) (es news : List (ℕ × KeptRow)) (r w : KeptRow) → 0 < pages → AreApartFrom cpu pages added 0 es → block_at es k ≡ Some r → w ≡ record r { block = h r.block }
    → news ≡ set_value (at_key k) es w → values_of news ≡ map (changed_at k h) (values_of es)
written cpu pages added k h es news r w some apart at is new = ap values_of new ∙ ap (λ x. values_of (set_value (at_key k) es x)) is ∙ values_set cpu pages added (λ x. record x { block = h x.block }) 0 k es r some apart at

pub written_blocks : (cpu pages added k : ℕ) (h : Block → Block) (es news : List (ℕ × KeptRow)) (r w : KeptRow) → 0 < pages → AreApartFrom cpu pages added 0 es → block_at es k ≡ Some r → w ≡ record r { block = h r.block }
    → news ≡ set_value (at_key k) es w → blocks_in (values_of news) ≡ model.change_block k h (blocks_in (values_of es))
written_blocks cpu pages added k h es news r w some apart at is new = ap blocks_in (written cpu pages added k h es news r w some apart at is new) ∙ blocks_changed k h (values_of es)

-- Another life takes and gives no room.

lived_by : (offset : ℕ) (life : Life) (p : Part) (t : Bool) → size_of (if t then record p { life = life } else p) ≡ size_of p
lived_by offset life p true = refl
lived_by offset life p false = refl

pub lived_size : (offset : ℕ) (life : Life) (ps : List Part) → parts_size (lived offset life ps) ≡ parts_size ps
lived_size offset life [] = refl
lived_size offset life (p ∷ ps) = omega (arith, size_cons p ps, size_cons (if p.offset == offset then record p { life = life } else p) (lived offset life ps), lived_by offset life p (p.offset == offset), lived_size offset life ps)

packed_by : (off offset : ℕ) (life : Life) (p : Part) (ps : List Part) (t : Bool) → ArePacked off (p ∷ ps) → ArePacked (off + size_of p) (lived offset life ps) → ArePacked off ((if t then record p { life = life } else p) ∷ lived offset life ps)
packed_by off offset life p ps true packed more = (packed.0, packed.1, packed.2, more)
packed_by off offset life p ps false packed more = (packed.0, packed.1, packed.2, more)

pub lived_packed : (off offset : ℕ) (life : Life) (ps : List Part) → ArePacked off ps → ArePacked off (lived offset life ps)
lived_packed off offset life [] packed = tt
lived_packed off offset life (p ∷ ps) packed = packed_by off offset life p ps (p.offset == offset) packed (lived_packed (off + size_of p) offset life ps packed.3)

-- the part in hand
pub record IsOpen (offset : ℕ) (b : Block) : Type 0 where
  pub place : ℕ
  pub part : Part
  pub there : IsOpenAt offset b place part

pub open_of : (offset : ℕ) (b : Block) → IsInHand offset b → IsOpen offset b
open_of offset b hand = by_found (part_in offset b) refl
  where
    by_found : (o : Option Part) → part_in offset b ≡ o → IsOpen offset b
    by_found None e = (let never : None ≡ Some (InHand hand.0) = sym (ap (option_map (λ (p : Part). p.life)) e) ∙ hand.1 in cc)
    by_found (Some p) e =
        let at = found_at offset b.parts p e in
        let life : Some p.life ≡ Some (InHand hand.0) = sym (ap (option_map (λ (p : Part). p.life)) e) ∙ hand.1 in
        let same : p.life ≡ InHand hand.0 = cc in
        record { place = at.0; part = p; there = record { at = at.1; here = at.2; lives = ap is_ended same } }

pub lived_dirty : (offset : ℕ) (life : Life) (b : Block) → ArePacked 0 b.parts → IsOpen offset b → is_ended life ≡ false → ended_in (lived offset life b.parts) ≡ ended_in b.parts
lived_dirty offset life b packed is lives =
    ap (λ o. ended_in (lived o life b.parts)) (sym is.there.here) ∙ ap ended_in (lived_set 0 b.parts is.place is.part life packed is.there.at) ∙ set_ended_same b.parts is.place is.part life is.there.at is.there.lives lives

module _ (cpu pages added : ℕ) where
  pub own_lived : (offset : ℕ) (life : Life) (r : KeptRow) → IsOwn cpu pages added r → is_spent (sized pages) (with_life_at offset life r).block ≡ false → IsOwn cpu pages added (with_life_at offset life r)
  own_lived offset life r own unspent = record {
    size = own.size;
    own = own.own;
    early = own.early;
    packed = lived_packed 0 offset life r.block.parts own.packed;
    within = (let e = lived_size offset life r.block.parts in let w = own.within in omega arith);
    unspent = unspent;
  }

  pub own_unended : (offset : ℕ) (life : Life) (r : KeptRow) → IsOwn cpu pages added r → IsOpen offset r.block → is_ended life ≡ false → IsOwn cpu pages added (with_life_at offset life r)
  own_unended offset life r own is lives = own_lived offset life r own (ap (λ ps. parts_size ps == pages) (lived_dirty offset life r.block own.packed is lives) ∙ own.unspent)

  -- The queue with another life.

  queue_by : (k : ℕ) (h : Block → Block) (x : KeptRow) (xs : List KeptRow) (t u : Bool) → (x.block.start == k) ≡ t → (h x.block).start ≡ x.block.start → nat_lt 0 (free_of (sized pages) (h x.block)) ≡ nat_lt 0 (free_of (sized pages) x.block)
      → nat_lt 0 (free_of (sized pages) x.block) ≡ u
      → map (λ (r : KeptRow). r.block.start) (filter (λ (r : KeptRow). nat_lt 0 (free_of (sized pages) r.block)) (map (changed_at k h) xs)) ≡ map (λ (r : KeptRow). r.block.start) (filter (λ (r : KeptRow). nat_lt 0 (free_of (sized pages) r.block)) xs)
      → map (λ (r : KeptRow). r.block.start) (filter (λ (r : KeptRow). nat_lt 0 (free_of (sized pages) r.block)) ((if t then record x { block = h x.block } else x) ∷ map (changed_at k h) xs))
      ≡ map (λ (r : KeptRow). r.block.start) (cond u (x ∷ filter (λ (r : KeptRow). nat_lt 0 (free_of (sized pages) r.block)) xs) (filter (λ (r : KeptRow). nat_lt 0 (free_of (sized pages) r.block)) xs))
  queue_by k h x xs true true at start same room more =
      ap (λ c. map (λ (r : KeptRow). r.block.start) (cond c (record x { block = h x.block } ∷ filter (λ (r : KeptRow). nat_lt 0 (free_of (sized pages) r.block)) (map (changed_at k h) xs)) (filter (λ (r : KeptRow). nat_lt 0 (free_of (sized pages) r.block)) (map (changed_at k h) xs)))) (same ∙ room)
      ∙ ap (λ n. n ∷ map (λ (r : KeptRow). r.block.start) (filter (λ (r : KeptRow). nat_lt 0 (free_of (sized pages) r.block)) (map (changed_at k h) xs))) start ∙ ap (λ ns. x.block.start ∷ ns) more
  queue_by k h x xs true false at start same room more =
      ap (λ c. map (λ (r : KeptRow). r.block.start) (cond c (record x { block = h x.block } ∷ filter (λ (r : KeptRow). nat_lt 0 (free_of (sized pages) r.block)) (map (changed_at k h) xs)) (filter (λ (r : KeptRow). nat_lt 0 (free_of (sized pages) r.block)) (map (changed_at k h) xs)))) (same ∙ room)
      ∙ more
  queue_by k h x xs false true at start same room more =
      ap (λ c. map (λ (r : KeptRow). r.block.start) (cond c (x ∷ filter (λ (r : KeptRow). nat_lt 0 (free_of (sized pages) r.block)) (map (changed_at k h) xs)) (filter (λ (r : KeptRow). nat_lt 0 (free_of (sized pages) r.block)) (map (changed_at k h) xs)))) room
      ∙ ap (λ ns. x.block.start ∷ ns) more
  queue_by k h x xs false false at start same room more =
      ap (λ c. map (λ (r : KeptRow). r.block.start) (cond c (x ∷ filter (λ (r : KeptRow). nat_lt 0 (free_of (sized pages) r.block)) (map (changed_at k h) xs)) (filter (λ (r : KeptRow). nat_lt 0 (free_of (sized pages) r.block)) (map (changed_at k h) xs)))) room
      ∙ more

  same_queue : (k : ℕ) (h : Block → Block) (xs : List KeptRow) → ((b : Block) → (h b).start ≡ b.start) → ((b : Block) → free_of (sized pages) (h b) ≡ free_of (sized pages) b)
      → map (λ (r : KeptRow). r.block.start) (filter (λ (r : KeptRow). nat_lt 0 (free_of (sized pages) r.block)) (map (changed_at k h) xs)) ≡ map (λ (r : KeptRow). r.block.start) (filter (λ (r : KeptRow). nat_lt 0 (free_of (sized pages) r.block)) xs)
  same_queue k h [] start free = refl
  same_queue k h (x ∷ xs) start free = queue_by k h x xs (x.block.start == k) (nat_lt 0 (free_of (sized pages) x.block)) refl (start x.block) (ap (nat_lt 0) (free x.block)) refl (same_queue k h xs start free)

  -- what is kept stays
  pub life_kept : (k offset : ℕ) (life : Life) (es news : List (ℕ × KeptRow)) (r w : KeptRow) (queue : List ℕ) → AreKept cpu pages es queue added → block_at es k ≡ Some r → w ≡ with_life_at offset life r
      → is_spent (sized pages) (with_life_at offset life r).block ≡ false → news ≡ set_value (at_key k) es w → AreKept cpu pages news queue added
  life_kept k offset life es news r w queue kept at is unspent new =
      let some : 0 < pages = omega (arith, kept.least) in
      let there = found cpu pages added 0 k es r kept.apart at in
      let own = own_lived offset life r there.own unspent in
      let values : values_of news ≡ map (changed_at k (model.with_life (record { cpu = 0; block = 0; offset = offset; pages = 0 }) life)) (values_of es) =
      written cpu pages added k (model.with_life (record { cpu = 0; block = 0; offset = offset; pages = 0 }) life) es news r w some kept.apart at is new in
      record {
        apart = subst (AreApartFrom cpu pages added 0) (sym (new ∙ ap (set_value (at_key k) es) is)) (apart_set cpu pages added 0 k es (with_life_at offset life r) there.start own kept.apart);
        queue_is = kept.queue_is ∙ sym (ap (queued pages) values
            ∙ ap (λ xs. map (λ (r : KeptRow). r.block.start) (filter (λ (r : KeptRow). nat_lt 0 (free_of (sized pages) r.block)) xs)) (sort_changed k (model.with_life (record { cpu = 0; block = 0; offset = offset; pages = 0 }) life) (values_of es))
            ∙ same_queue k (model.with_life (record { cpu = 0; block = 0; offset = offset; pages = 0 }) life) (by_number (values_of es)) (λ b. refl) (λ b. ap (λ n. pages - n) (lived_size offset life b.parts)));
        power = kept.power;
        least = kept.least;
        most = kept.most;
      }
