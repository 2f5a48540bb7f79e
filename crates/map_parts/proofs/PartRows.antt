-- The parts of one block: they follow each other, and a block with a part that hasn't ended is neither spent nor fragmented.
use Rattle.std.proofs.Common.{◌≡◌, ℕ, zero, suc, ◌+◌, ◌-◌, ◌≤◌, Bool, true, false, cond, ◌==◌, nat_lt, if◌then◌else◌, List, [], ◌∷◌, ◌++◌, map, filter, slice_get, Some, refl, ap, sym, ◌∙◌, subst, arith}
use Rattle.std.proofs.lemmas.Nat.{pow_pos}
use Rattle.std.proofs.lemmas.List.{append-nil}
use Rattle.std.proofs.lemmas.List.Sums.{sum_by-cons, sum_by_push}
use Rattle.std.proofs.lemmas.List.Elements.{filter-append}
use Rattle.vm_model.specs.Setup.{Setup}
use Rattle.vm_model.specs.PlainMap.{Block, Part, Life, is_ended}
use Rattle.vm_model.specs.Bits.{binary_digits}
use Rattle.vm_model.specs.Blocks.{PartAt, rounded, size_of, parts_size, free_of, dirty_of, is_spent, is_fragmented, with_part, with_life}
use Rattle.map_parts.specs.KeptByEvents.{AreInRow, IsBlockWhole}
use Rattle.map_parts.proofs.Sums.{sum-filter_without}
use Rattle.map_parts.proofs.Tests.{first_false, is_other, is_same}

pub size_some : (p : Part) → 1 ≤ size_of p
size_some p = omega (arith, pow_pos (binary_digits (p.pages - 1)))

-- no part begins before the row does, and no two begin at one page
row_low : (from : ℕ) (parts : List Part) (i : ℕ) (p : Part) → AreInRow from parts → slice_get parts i ≡ Some p → from ≤ p.offset
row_low from [] i p row at = absurd cc
row_low from (q ∷ parts) zero p row at = let same : q ≡ p = cc in omega (arith, row.0, ap (λ (p : Part). p.offset) same)
row_low from (q ∷ parts) (suc i) p row at = omega (arith, row_low (from + size_of q) parts i p row.1 at)

pub row_once : (from : ℕ) (parts : List Part) (i j : ℕ) (p q : Part) → AreInRow from parts → slice_get parts i ≡ Some p → slice_get parts j ≡ Some q → p.offset ≡ q.offset → p ≡ q
row_once from [] i j p q row a b e = absurd cc
row_once from (r ∷ parts) zero zero p q row a b e = cc
row_once from (r ∷ parts) zero (suc j) p q row a b e =
    let same : r ≡ p = cc in absurd (omega (arith, row.0, ap (λ (p : Part). p.offset) same, size_some r, row_low (from + size_of r) parts j q row.1 b, e))
row_once from (r ∷ parts) (suc i) zero p q row a b e =
    let same : r ≡ q = cc in absurd (omega (arith, row.0, ap (λ (p : Part). p.offset) same, size_some r, row_low (from + size_of r) parts i p row.1 a, e))
row_once from (r ∷ parts) (suc i) (suc j) p q row a b e = row_once (from + size_of r) parts i j p q row.1 a b e

-- one more part behind them
pub row_push : (from : ℕ) (parts : List Part) (p : Part) → AreInRow from parts → p.offset ≡ from + parts_size parts → AreInRow from (parts ++ p ∷ [])
row_push from [] p row e = (let f : p.offset ≡ from = omega (arith, e) in f, tt)
row_push from (q ∷ parts) p row e = (row.0, row_push (from + size_of q) parts p row.1 (omega (arith, e, sum_by-cons size_of q parts)))

-- parts whose lives change
pub row_map : (from : ℕ) (change : Part → Part) (parts : List Part) → ((p : Part) → ((change p).offset ≡ p.offset) × ((change p).pages ≡ p.pages)) → AreInRow from parts → AreInRow from (map change parts)
row_map from change [] keeps row = tt
row_map from change (p ∷ parts) keeps row = grind (arith, row_map (from + size_of p) change parts keeps row.1)

pub size_map : (change : Part → Part) (parts : List Part) → ((p : Part) → ((change p).offset ≡ p.offset) × ((change p).pages ≡ p.pages)) → parts_size (map change parts) ≡ parts_size parts
size_map change [] keeps = refl
size_map change (p ∷ parts) keeps =
    omega (arith, sum_by-cons size_of (change p) (map change parts), sum_by-cons size_of p parts, size_map change parts keeps, ap rounded (keeps p).1)

-- the size of the ended ones
ended_map_by : (change : Part → Part) (p : Part) (parts : List Part) (b : Bool) → is_ended p.life ≡ b → is_ended (change p).life ≡ b → (change p).pages ≡ p.pages
    → parts_size (filter (λ (p : Part). is_ended p.life) (map change parts)) ≡ parts_size (filter (λ (p : Part). is_ended p.life) parts)
    → parts_size (filter (λ (p : Part). is_ended p.life) (map change (p ∷ parts))) ≡ parts_size (filter (λ (p : Part). is_ended p.life) (p ∷ parts))
ended_map_by change p parts true e f keeps rest =
    ap (λ b. parts_size (cond b (change p ∷ filter (λ (p : Part). is_ended p.life) (map change parts)) (filter (λ (p : Part). is_ended p.life) (map change parts)))) f
    ∙ (let same : parts_size (change p ∷ filter (λ (p : Part). is_ended p.life) (map change parts)) ≡ parts_size (p ∷ filter (λ (p : Part). is_ended p.life) parts) =
    omega (arith, sum_by-cons size_of (change p) (filter (λ (p : Part). is_ended p.life) (map change parts)), sum_by-cons size_of p (filter (λ (p : Part). is_ended p.life) parts), rest, ap rounded keeps) in same)
    ∙ sym (ap (λ b. parts_size (cond b (p ∷ filter (λ (p : Part). is_ended p.life) parts) (filter (λ (p : Part). is_ended p.life) parts))) e)
ended_map_by change p parts false e f keeps rest = grind arith

ended_map : (change : Part → Part) (parts : List Part) → ((p : Part) → ((change p).offset ≡ p.offset) × ((change p).pages ≡ p.pages))
    → ((i : ℕ) (p : Part) → slice_get parts i ≡ Some p → is_ended (change p).life ≡ is_ended p.life)
    → parts_size (filter (λ (p : Part). is_ended p.life) (map change parts)) ≡ parts_size (filter (λ (p : Part). is_ended p.life) parts)
ended_map change [] keeps ends = refl
ended_map change (p ∷ parts) keeps ends = ended_map_by change p parts (is_ended p.life) refl (ends 0 p refl) (keeps p).1 (ended_map change parts keeps (λ i q at. ends (suc i) q at))

-- One block.

life_keeps : (at : PartAt) (life : Life) (p : Part) → ((if p.offset == at.offset then record p { life = life } else p).offset ≡ p.offset) × ((if p.offset == at.offset then record p { life = life } else p).pages ≡ p.pages)
life_keeps at life p = grind arith

-- a part that hasn't ended takes its size from what the ended ones can have
pub dirty_less : (b : Block) (i : ℕ) (p : Part) → slice_get b.parts i ≡ Some p → is_ended p.life ≡ false → dirty_of b + size_of p ≤ parts_size b.parts
dirty_less b i p at e = sum-filter_without size_of (λ (p : Part). is_ended p.life) b.parts i p at e

pub unspent_with : (c : Setup) (b : Block) (i : ℕ) (p : Part) → parts_size b.parts ≤ c.block_pages → slice_get b.parts i ≡ Some p → is_ended p.life ≡ false → is_spent c b ≡ false
unspent_with c b i p room at e = is_other (dirty_of b) c.block_pages (λ h. absurd (omega (arith, dirty_less b i p at e, size_some p, h)))

pub unfragmented_with : (c : Setup) (b : Block) (i : ℕ) (p : Part) → parts_size b.parts ≤ c.block_pages → slice_get b.parts i ≡ Some p → is_ended p.life ≡ false → is_fragmented c b ≡ false
unfragmented_with c b i p room at e =
    first_false _ (nat_lt (dirty_of b) c.block_pages) (is_other (free_of c b + dirty_of b) c.block_pages (λ h. absurd (omega (arith, dirty_less b i p at e, size_some p, h))))

-- the block with one more part
pub whole_push : (c : Setup) (k : ℕ) (at : PartAt) (b : Block) → IsBlockWhole c b → at.offset ≡ parts_size b.parts → parts_size b.parts + rounded at.pages ≤ c.block_pages → IsBlockWhole c (with_part k at b)
whole_push c k at b w offset room = grind (arith, filter-append, append-nil, row_push, sum_by_push)

-- the block with a part whose life changes, where neither life is an end
life_ends : (at : PartAt) (life : Life) (p : Part) (b : Bool) → (p.offset == at.offset) ≡ b → is_ended life ≡ false → (p.offset ≡ at.offset → is_ended p.life ≡ false)
    → is_ended (if b then record p { life = life } else p).life ≡ is_ended p.life
life_ends at life p true e f was = f ∙ sym (was (is_same p.offset at.offset e))
life_ends at life p false e f was = refl

pub whole_life : (c : Setup) (at : PartAt) (life : Life) (b : Block) → IsBlockWhole c b → is_ended life ≡ false
    → ((i : ℕ) (p : Part) → slice_get b.parts i ≡ Some p → p.offset ≡ at.offset → is_ended p.life ≡ false) → IsBlockWhole c (with_life at life b)
whole_life c at life b w goes was =
    let change : Part → Part = λ p. if p.offset == at.offset then record p { life = life } else p in
    record {
      row = row_map 0 change b.parts (life_keeps at life) w.row;
      within = subst (λ n. n ≤ c.block_pages) (sym (size_map change b.parts (life_keeps at life))) w.within;
      unspent = ap (λ n. n == c.block_pages) (ended_map change b.parts (life_keeps at life) (λ i p there. life_ends at life p (p.offset == at.offset) refl goes (was i p there))) ∙ w.unspent;
    }

-- where the life ends, the block may be spent
pub row_life : (at : PartAt) (life : Life) (b : Block) → AreInRow 0 b.parts → AreInRow 0 (with_life at life b).parts
row_life at life b row = row_map 0 (λ (p : Part). if p.offset == at.offset then record p { life = life } else p) b.parts (life_keeps at life) row

pub size_life : (at : PartAt) (life : Life) (b : Block) → parts_size (with_life at life b).parts ≡ parts_size b.parts
size_life at life b = size_map (λ (p : Part). if p.offset == at.offset then record p { life = life } else p) b.parts (life_keeps at life)
