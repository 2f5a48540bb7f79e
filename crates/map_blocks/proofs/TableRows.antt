-- Rows of blocks by rising start, in whatever order the blocks come.
use Rattle.std.proofs.Common.{◌≡◌, ◌≢◌, ℕ, ◌+◌, ◌<◌, ◌≤◌, Bool, true, false, nat_lt, cond, if◌then◌else◌, List, [], ◌∷◌, ◌++◌, length, map, filter, flat_map, refl, sym, ap, subst, ◌∙◌, arith}
use Rattle.std.proofs.lemmas.Bool.Decides.{nat_tests}
use Rattle.std.specs.Map.{values_of}
use Rattle.vm_model.specs.declared.rows.BlockRow.{BlockRow}
use Rattle.vm_model.specs.declared.rows.PartRow.{PartRow}
use Rattle.vm_model.specs.Space.{put_by, sort_by}
use Rattle.vm_model.specs.PlainMap.{Block, Part, is_live}
use Rattle.vm_model.specs.Blocks.{size_of, parts_size}
use Rattle.vm_model.specs.Tables.{block_row, part_row, part_rows}
use Rattle.map_blocks.specs.BlockRows.{sized}
use Rattle.map_blocks.specs.KeptBlocks.{KeptRow, ArePacked}
use Rattle.map_blocks.specs.KeptBlockSides.{IsOwn, AreApartFrom, by_number, blocks_in}
use Rattle.map_blocks.proofs.PartsInRow.{size_cons}
use Rattle.map_blocks.proofs.SortedByNumber.{Holds, holds_of, sort_holds, IsStrict, sort_same}
use Rattle.map_blocks.proofs.BlocksInOrder.{number_of, block_of}

module _ {Y : Type 0} (k : Y → ℕ) where
  -- put one after another
  abbrev pub puts : List Y → List Y → List Y
  puts [] c = c
  puts (a ∷ many) c = put_by k a (puts many c)

  sort_append : (many bs : List Y) → sort_by k (many ++ bs) ≡ puts many (sort_by k bs)
  sort_append [] bs = refl
  sort_append (a ∷ many) bs = ap (put_by k a) (sort_append many bs)

  swap_by : (x y z : Y) (zs : List Y) (a b d e : Bool) → nat_lt (k x) (k z) ≡ a → nat_lt (k y) (k z) ≡ b → nat_lt (k x) (k y) ≡ d → nat_lt (k y) (k x) ≡ e → k x ≢ k y → put_by k x (put_by k y zs) ≡ put_by k y (put_by k x zs)
      → put_by k x (if b then y ∷ z ∷ zs else z ∷ put_by k y zs) ≡ put_by k y (if a then x ∷ z ∷ zs else z ∷ put_by k x zs)
  swap_by x y z zs true true true false ea eb ed ee other more =
      ap (λ t. if t then x ∷ y ∷ z ∷ zs else y ∷ put_by k x (z ∷ zs)) ed
      ∙ sym (ap (λ t. if t then y ∷ x ∷ z ∷ zs else x ∷ put_by k y (z ∷ zs)) ee ∙ ap (λ t. x ∷ (if t then y ∷ z ∷ zs else z ∷ put_by k y zs)) eb)
  swap_by x y z zs true true false true ea eb ed ee other more =
      ap (λ t. if t then x ∷ y ∷ z ∷ zs else y ∷ put_by k x (z ∷ zs)) ed ∙ ap (λ t. y ∷ (if t then x ∷ z ∷ zs else z ∷ put_by k x zs)) ea
      ∙ sym (ap (λ t. if t then y ∷ x ∷ z ∷ zs else x ∷ put_by k y (z ∷ zs)) ee)
  swap_by x y z zs true true true true ea eb ed ee other more = absurd (let l : k x < k y = grind (arith, nat_tests) in let m : k y < k x = grind (arith, nat_tests) in omega arith)
  swap_by x y z zs true true false false ea eb ed ee other more = absurd (other (let l : k y ≤ k x = grind (arith, nat_tests) in let m : k x ≤ k y = grind (arith, nat_tests) in omega arith))
  swap_by x y z zs true false d true ea eb ed ee other more = absurd (let l : k x < k z = grind (arith, nat_tests) in let m : k z ≤ k y = grind (arith, nat_tests) in let n : k y < k x = grind (arith, nat_tests) in omega arith)
  swap_by x y z zs true false d false ea eb ed ee other more =
      ap (λ t. if t then x ∷ z ∷ put_by k y zs else z ∷ put_by k x (put_by k y zs)) ea
      ∙ sym (ap (λ t. if t then y ∷ x ∷ z ∷ zs else x ∷ put_by k y (z ∷ zs)) ee ∙ ap (λ t. x ∷ (if t then y ∷ z ∷ zs else z ∷ put_by k y zs)) eb)
  swap_by x y z zs false true true e ea eb ed ee other more = absurd (let l : k z ≤ k x = grind (arith, nat_tests) in let m : k y < k z = grind (arith, nat_tests) in let n : k x < k y = grind (arith, nat_tests) in omega arith)
  swap_by x y z zs false true false e ea eb ed ee other more =
      ap (λ t. if t then x ∷ y ∷ z ∷ zs else y ∷ put_by k x (z ∷ zs)) ed ∙ ap (λ t. y ∷ (if t then x ∷ z ∷ zs else z ∷ put_by k x zs)) ea
      ∙ sym (ap (λ t. if t then y ∷ z ∷ put_by k x zs else z ∷ put_by k y (put_by k x zs)) eb)
  swap_by x y z zs false false d e ea eb ed ee other more =
      ap (λ t. if t then x ∷ z ∷ put_by k y zs else z ∷ put_by k x (put_by k y zs)) ea ∙ ap (λ ws. z ∷ ws) more
      ∙ sym (ap (λ t. if t then y ∷ z ∷ put_by k x zs else z ∷ put_by k y (put_by k x zs)) eb)

  swap_none : (x y : Y) (d e : Bool) → nat_lt (k x) (k y) ≡ d → nat_lt (k y) (k x) ≡ e → k x ≢ k y → put_by k x (y ∷ []) ≡ put_by k y (x ∷ [])
  swap_none x y true false ed ee other = ap (λ t. if t then x ∷ y ∷ [] else y ∷ x ∷ []) ed ∙ sym (ap (λ t. if t then y ∷ x ∷ [] else x ∷ y ∷ []) ee)
  swap_none x y false true ed ee other = ap (λ t. if t then x ∷ y ∷ [] else y ∷ x ∷ []) ed ∙ sym (ap (λ t. if t then y ∷ x ∷ [] else x ∷ y ∷ []) ee)
  swap_none x y true true ed ee other = absurd (let l : k x < k y = grind (arith, nat_tests) in let m : k y < k x = grind (arith, nat_tests) in omega arith)
  swap_none x y false false ed ee other = absurd (other (let l : k y ≤ k x = grind (arith, nat_tests) in let m : k x ≤ k y = grind (arith, nat_tests) in omega arith))

  swap_puts : (x y : Y) (c : List Y) → k x ≢ k y → put_by k x (put_by k y c) ≡ put_by k y (put_by k x c)
  swap_puts x y [] other = swap_none x y (nat_lt (k x) (k y)) (nat_lt (k y) (k x)) refl refl other
  swap_puts x y (z ∷ zs) other = swap_by x y z zs (nat_lt (k x) (k z)) (nat_lt (k y) (k z)) (nat_lt (k x) (k y)) (nat_lt (k y) (k x)) refl refl refl refl other (swap_puts x y zs other)

  -- no number of one list is one of the other
  abbrev pub Differ : List Y → List Y → Type 0
  Differ many bs = Holds (λ a. Holds (λ b. k a ≢ k b) bs) many

  puts_one : (a : Y) (bs c : List Y) → Holds (λ b. k a ≢ k b) bs → put_by k a (puts bs c) ≡ puts bs (put_by k a c)
  puts_one a [] c other = refl
  puts_one a (b ∷ bs) c other = swap_puts a b (puts bs c) other.0 ∙ ap (put_by k b) (puts_one a bs c other.1)

  puts_swap : (many bs c : List Y) → Differ many bs → puts many (puts bs c) ≡ puts bs (puts many c)
  puts_swap [] bs c other = refl
  puts_swap (a ∷ many) bs c other = ap (put_by k a) (puts_swap many bs c other.1) ∙ puts_one a bs (puts many c) other.0

  strict_append : (many bs : List Y) → IsStrict k many → IsStrict k bs → Holds (λ a. Holds (λ b. k a < k b) bs) many → IsStrict k (many ++ bs)
  strict_append [] bs sa sb low = sb
  strict_append (a ∷ many) bs sa sb low = (both_hold many low.0 sa.0, strict_append many bs sa.1 sb low.1)
    where
      both_hold : (many : List Y) → Holds (λ b. k a < k b) bs → Holds (λ b. k a < k b) many → Holds (λ b. k a < k b) (many ++ bs)
      both_hold [] h g = h
      both_hold (x ∷ xs) h g = (g.0, both_hold xs h g.1)

  module _ (f : KeptRow → List Y) where
    flat_put_by : (x y : KeptRow) (ys : List KeptRow) (t : Bool) → Differ (f x) (f y) → sort_by k (flat_map f (put_by number_of x ys)) ≡ puts (f x) (sort_by k (flat_map f ys))
        → sort_by k (flat_map f (if t then x ∷ y ∷ ys else y ∷ put_by number_of x ys)) ≡ puts (f x) (sort_by k (f y ++ flat_map f ys))
    flat_put_by x y ys true other more = sort_append (f x) (f y ++ flat_map f ys)
    flat_put_by x y ys false other more =
        sort_append (f y) (flat_map f (put_by number_of x ys)) ∙ ap (puts (f y)) more ∙ sym (puts_swap (f x) (f y) (sort_by k (flat_map f ys)) other) ∙ ap (puts (f x)) (sym (sort_append (f y) (flat_map f ys)))

    flat_put : (x : KeptRow) (ys : List KeptRow) → Holds (λ y. Differ (f x) (f y)) ys → sort_by k (flat_map f (put_by number_of x ys)) ≡ puts (f x) (sort_by k (flat_map f ys))
    flat_put x [] other = sort_append (f x) []
    flat_put x (y ∷ ys) other = flat_put_by x y ys (nat_lt x.number y.number) other.0 (flat_put x ys other.1)

    abbrev pub ArePairs : List KeptRow → Type 0
    ArePairs [] = Unit {0}
    ArePairs (x ∷ xs) = Holds (λ y. Differ (f x) (f y)) xs × ArePairs xs

    flat_sort : (xs : List KeptRow) → ArePairs xs → sort_by k (flat_map f (by_number xs)) ≡ sort_by k (flat_map f xs)
    flat_sort [] pairs = refl
    flat_sort (x ∷ xs) pairs = flat_put x (by_number xs) (sort_holds number_of (λ y. Differ (f x) (f y)) xs pairs.0) ∙ ap (puts (f x)) (flat_sort xs pairs.1) ∙ sym (sort_append (f x) (flat_map f xs))

    module _ (cpu pages added : ℕ) where
      -- what a block has is in its pages, and rises
      pub record IsInside (r : KeptRow) : Type 0 where
        pub inside : Holds (λ a. (r.block.start ≤ k a) × (k a < r.block.start + pages)) (f r)
        pub strict : IsStrict k (f r)

      module _ (each : (r : KeptRow) → IsOwn cpu pages added r → IsInside r) where
        from_low : (low : ℕ) (es : List (ℕ × KeptRow)) → AreApartFrom cpu pages added low es → Holds (λ r. low ≤ r.block.start) (values_of es)
        from_low low [] apart = tt
        from_low low (e ∷ es) apart = (omega (arith, apart.0, apart.1), holds_of (λ r. e.0 + pages ≤ r.block.start) (λ r. low ≤ r.block.start) (values_of es) (λ r h. omega (arith, apart.1)) (from_low (e.0 + pages) es apart.4))

        all_inside : (low : ℕ) (es : List (ℕ × KeptRow)) → AreApartFrom cpu pages added low es → Holds IsInside (values_of es)
        all_inside low [] apart = tt
        all_inside low (e ∷ es) apart = (each e.1 apart.3, all_inside (e.0 + pages) es apart.4)

        above : (n : ℕ) (many : List Y) (low : ℕ) → n < low → Holds (λ a. (low ≤ k a) × (k a < low + pages)) many → Holds (λ b. n < k b) many
        above n [] low l h = tt
        above n (a ∷ many) low l h = (omega (arith, h.0.0), above n many low l h.1)

        above_all : (n : ℕ) (rows : List KeptRow) → Holds (λ r. n < r.block.start) rows → Holds IsInside rows → Holds (λ r. Holds (λ b. n < k b) (f r)) rows
        above_all n [] l h = tt
        above_all n (r ∷ rows) l h = (above n (f r) r.block.start l.0 h.0.inside, above_all n rows l.1 h.1)

        flat_holds : (P : Y → Type 0) (rows : List KeptRow) → Holds (λ r. Holds P (f r)) rows → Holds P (flat_map f rows)
        flat_holds P [] h = tt
        flat_holds P (r ∷ rows) h = append_holds (f r) h.0 (flat_holds P rows h.1)
          where
            append_holds : (many : List Y) → Holds P many → Holds P (flat_map f rows) → Holds P (many ++ flat_map f rows)
            append_holds [] a b = b
            append_holds (x ∷ many) a b = (a.0, append_holds many a.1 b)

        low_each : (many : List Y) (start : ℕ) (rows : List KeptRow) → Holds (λ a. (start ≤ k a) × (k a < start + pages)) many → Holds (λ r. start + pages ≤ r.block.start) rows → Holds IsInside rows → Holds (λ a. Holds (λ r. Holds (λ b. k a < k b) (f r)) rows) many
        low_each [] start rows h l inside = tt
        low_each (a ∷ many) start rows h l inside = (
          above_all (k a) rows (holds_of (λ r. start + pages ≤ r.block.start) (λ r. k a < r.block.start) rows (λ r g. omega (arith, h.0.1)) l) inside,
          low_each many start rows h.1 l inside,
        )

        differ_rows : (many : List Y) (rows : List KeptRow) → Holds (λ a. Holds (λ r. Holds (λ b. k a < k b) (f r)) rows) many → Holds (λ r. Differ many (f r)) rows
        differ_rows many [] h = tt
        differ_rows many (r ∷ rows) h = (
          holds_of (λ a. Holds (λ r. Holds (λ b. k a < k b) (f r)) (r ∷ rows)) (λ a. Holds (λ b. k a ≢ k b) (f r)) many (λ a g. holds_of (λ b. k a < k b) (λ b. k a ≢ k b) (f r) (λ b l e. omega arith) g.0) h,
          differ_rows many rows (holds_of (λ a. Holds (λ r. Holds (λ b. k a < k b) (f r)) (r ∷ rows)) (λ a. Holds (λ r. Holds (λ b. k a < k b) (f r)) rows) many (λ a g. g.1) h),
        )

        pairs_of : (low : ℕ) (es : List (ℕ × KeptRow)) → AreApartFrom cpu pages added low es → ArePairs (values_of es) × IsStrict k (flat_map f (values_of es))
        pairs_of low [] apart = (tt, tt)
        pairs_of low (e ∷ es) apart =
            let rest = pairs_of (e.0 + pages) es apart.4 in
            let own = each e.1 apart.3 in
            let behind : Holds (λ r. e.1.block.start + pages ≤ r.block.start) (values_of es) = subst (λ n. Holds (λ r. n + pages ≤ r.block.start) (values_of es)) apart.0 (from_low (e.0 + pages) es apart.4) in
            let low_all = low_each (f e.1) e.1.block.start (values_of es) own.inside behind (all_inside (e.0 + pages) es apart.4) in (
              (differ_rows (f e.1) (values_of es) low_all, rest.0),
              strict_append (f e.1) (flat_map f (values_of es)) own.strict rest.1
                  (holds_of (λ a. Holds (λ r. Holds (λ b. k a < k b) (f r)) (values_of es)) (λ a. Holds (λ b. k a < k b) (flat_map f (values_of es))) (f e.1) (λ a h. flat_holds (λ b. k a < k b) (values_of es) h) low_all),
            )

        -- by rising start
        pub table_is : (es : List (ℕ × KeptRow)) → AreApartFrom cpu pages added 0 es → sort_by k (flat_map f (by_number (values_of es))) ≡ flat_map f (values_of es)
        table_is es apart = let pairs = pairs_of 0 es apart in flat_sort (values_of es) pairs.0 ∙ sort_same k (flat_map f (values_of es)) pairs.1

-- The rows of blocks.

map_flat : {X Y : Type 0} (g : X → Y) (xs : List X) → map g xs ≡ flat_map (λ x. g x ∷ []) xs
map_flat g [] = refl
map_flat g (x ∷ xs) = ap (λ ys. g x ∷ ys) (map_flat g xs)

flat_map_map : {X Y Z : Type 0} (f : Y → List Z) (g : X → Y) (xs : List X) → flat_map f (map g xs) ≡ flat_map (λ x. f (g x)) xs
flat_map_map f g [] = refl
flat_map_map f g (x ∷ xs) = ap (λ ys. f (g x) ++ ys) (flat_map_map f g xs)

map_map : {X Y Z : Type 0} (f : Y → Z) (g : X → Y) (xs : List X) → map f (map g xs) ≡ map (λ x. f (g x)) xs
map_map f g [] = refl
map_map f g (x ∷ xs) = ap (λ ys. f (g x) ∷ ys) (map_map f g xs)

pub block_table_is : (cpu pages added : ℕ) (es : List (ℕ × KeptRow)) → 0 < pages → AreApartFrom cpu pages added 0 es
    → sort_by (λ (b : BlockRow). b.start) (map (block_row (sized pages)) (blocks_in (values_of es))) ≡ map (λ (r : KeptRow). block_row (sized pages) r.block) (values_of es)
block_table_is cpu pages added es some apart =
    ap (sort_by (λ (b : BlockRow). b.start)) (map_map (block_row (sized pages)) block_of (by_number (values_of es)) ∙ map_flat (λ (r : KeptRow). block_row (sized pages) r.block) (by_number (values_of es)))
    ∙ table_is (λ (b : BlockRow). b.start) (λ (r : KeptRow). block_row (sized pages) r.block ∷ []) cpu pages added (λ r own. record { inside = ((omega arith, omega arith), tt); strict = (tt, tt) }) es apart
    ∙ sym (map_flat (λ (r : KeptRow). block_row (sized pages) r.block) (values_of es))

-- The rows of parts.

pub record AreRowsIn (b : Block) (off : ℕ) (ps : List Part) : Type 0 where
  pub inside : Holds (λ (a : PartRow). (b.start + off ≤ a.span.start) × (a.span.start < b.start + off + parts_size ps)) (map (part_row b) (filter (λ (p : Part). is_live p.life) ps))
  pub strict : IsStrict (λ (a : PartRow). a.span.start) (map (part_row b) (filter (λ (p : Part). is_live p.life) ps))

rows_by : (b : Block) (off : ℕ) (p : Part) (ps : List Part) (t : Bool) → ArePacked off (p ∷ ps) → AreRowsIn b (off + size_of p) ps
    → Holds (λ (a : PartRow). (b.start + off ≤ a.span.start) × (a.span.start < b.start + off + parts_size (p ∷ ps))) (map (part_row b) (cond t (p ∷ filter (λ (p : Part). is_live p.life) ps) (filter (λ (p : Part). is_live p.life) ps)))
    × IsStrict (λ (a : PartRow). a.span.start) (map (part_row b) (cond t (p ∷ filter (λ (p : Part). is_live p.life) ps) (filter (λ (p : Part). is_live p.life) ps)))
rows_by b off p ps t packed rest = by_test t
  where
    size : parts_size (p ∷ ps) ≡ size_of p + parts_size ps
    size = size_cons p ps

    wider_rows : Holds (λ (a : PartRow). (b.start + off ≤ a.span.start) × (a.span.start < b.start + off + parts_size (p ∷ ps))) (map (part_row b) (filter (λ (p : Part). is_live p.life) ps))
    wider_rows = holds_of (λ (a : PartRow). (b.start + (off + size_of p) ≤ a.span.start) × (a.span.start < b.start + (off + size_of p) + parts_size ps)) (λ (a : PartRow). (b.start + off ≤ a.span.start) × (a.span.start < b.start + off + parts_size (p ∷ ps)))
        (map (part_row b) (filter (λ (p : Part). is_live p.life) ps)) (λ a h. (omega (arith, h.0), omega (arith, h.1, size))) rest.inside

    by_test : (t : Bool) → Holds (λ (a : PartRow). (b.start + off ≤ a.span.start) × (a.span.start < b.start + off + parts_size (p ∷ ps))) (map (part_row b) (cond t (p ∷ filter (λ (p : Part). is_live p.life) ps) (filter (λ (p : Part). is_live p.life) ps)))
        × IsStrict (λ (a : PartRow). a.span.start) (map (part_row b) (cond t (p ∷ filter (λ (p : Part). is_live p.life) ps) (filter (λ (p : Part). is_live p.life) ps)))
    by_test true = (
      ((omega (arith, packed.0), omega (arith, packed.0, packed.1, packed.2, size)), wider_rows),
      (
        holds_of (λ (a : PartRow). (b.start + (off + size_of p) ≤ a.span.start) × (a.span.start < b.start + (off + size_of p) + parts_size ps)) (λ (a : PartRow). b.start + p.offset < a.span.start)
            (map (part_row b) (filter (λ (p : Part). is_live p.life) ps)) (λ a h. omega (arith, h.0, packed.0, packed.1, packed.2)) rest.inside,
        rest.strict,
      ),
    )
    by_test false = (wider_rows, rest.strict)

rows_in : (b : Block) (off : ℕ) (ps : List Part) → ArePacked off ps → AreRowsIn b off ps
rows_in b off [] packed = record { inside = tt; strict = tt }
rows_in b off (p ∷ ps) packed = let both = rows_by b off p ps (is_live p.life) packed (rows_in b (off + size_of p) ps packed.3) in record { inside = both.0; strict = both.1 }

pub part_table_is : (cpu pages added : ℕ) (es : List (ℕ × KeptRow)) → AreApartFrom cpu pages added 0 es
    → sort_by (λ (p : PartRow). p.span.start) (flat_map part_rows (blocks_in (values_of es))) ≡ flat_map (λ (r : KeptRow). part_rows r.block) (values_of es)
part_table_is cpu pages added es apart =
    ap (sort_by (λ (p : PartRow). p.span.start)) (flat_map_map part_rows block_of (by_number (values_of es)))
    ∙ table_is (λ (p : PartRow). p.span.start) (λ (r : KeptRow). part_rows r.block) cpu pages added
    (λ r own. (let rows = rows_in r.block 0 r.block.parts own.packed in record {
      inside = holds_of (λ (a : PartRow). (r.block.start + 0 ≤ a.span.start) × (a.span.start < r.block.start + 0 + parts_size r.block.parts)) (λ (a : PartRow). (r.block.start ≤ a.span.start) × (a.span.start < r.block.start + pages)) (part_rows r.block)
          (λ a h. (omega (arith, h.0), (let w = own.within in omega (arith, h.1)))) rows.inside;
      strict = rows.strict;
    })) es apart

-- There are few of them.

pub few_entries : (cpu pages added low : ℕ) (es : List (ℕ × KeptRow)) → 0 < pages → low ≤ 1048576 → AreApartFrom cpu pages added low es → low + length es ≤ 1048576
few_entries cpu pages added low [] some l apart = omega arith
few_entries cpu pages added low (e ∷ es) some l apart = omega (arith, few_entries cpu pages added (e.0 + pages) es some apart.2 apart.4, apart.1)
