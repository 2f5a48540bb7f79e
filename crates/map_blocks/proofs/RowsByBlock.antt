-- Reading the rows of blocks one block after another.
use Rattle.std.proofs.Common.{◌≡◌, ◌≢◌, ℕ, zero, suc, ◌+◌, ◌-◌, ◌<◌, ◌≤◌, List, [], ◌∷◌, ◌++◌, length, map, flat_map, slice_get, Some, refl, sym, ap, ◌∙◌, arith}
use Rattle.std.proofs.lemmas.List.{append_assoc, length-append}
use Rattle.std.specs.Map.{values_of}
use Rattle.vm_model.specs.declared.rows.BlockRow.{BlockRow}
use Rattle.vm_model.specs.declared.rows.PartRow.{PartRow}
use Rattle.vm_model.specs.Tables.{block_row, part_rows}
use Rattle.map_blocks.specs.BlockRows.{sized}
use Rattle.map_blocks.specs.KeptBlocks.{KeptRow}
use Rattle.map_blocks.specs.KeptBlockSides.{AreApartFrom}
use Rattle.map_blocks.proofs.PartsInRow.{length_le_size}
use Rattle.map_blocks.proofs.LivePartRows.{rows_few, get_behind}

-- the row of a block, and the rows of its live parts
abbrev pub own_row : KeptRow → BlockRow
own_row r = block_row (sized r.pages) r.block

abbrev pub own_parts : KeptRow → List PartRow
own_parts r = part_rows r.block

pub same_rows : (cpu pages added low : ℕ) (es : List (ℕ × KeptRow)) → AreApartFrom cpu pages added low es → map own_row (values_of es) ≡ map (λ (r : KeptRow). block_row (sized pages) r.block) (values_of es)
same_rows cpu pages added low [] apart = refl
same_rows cpu pages added low (e ∷ es) apart = ap (λ n. block_row (sized n) e.1.block ∷ map own_row (values_of es)) apart.3.size ∙ ap (λ rs. block_row (sized pages) e.1.block ∷ rs) (same_rows cpu pages added (e.0 + pages) es apart.4)

pub few_rows : (cpu pages added low : ℕ) (es : List (ℕ × KeptRow)) → low ≤ 1048576 → AreApartFrom cpu pages added low es → low + length (flat_map own_parts (values_of es)) ≤ 1048576
few_rows cpu pages added low [] l apart = omega arith
few_rows cpu pages added low (e ∷ es) l apart =
    let own = apart.3 in
    let few = rows_few e.1.block e.1.block.parts in
    let size = length_le_size 0 e.1.block.parts own.packed in
    let within = own.within in
    omega (arith, few_rows cpu pages added (e.0 + pages) es apart.2 apart.4, apart.1, length-append (own_parts e.1) (flat_map own_parts (values_of es)))

-- one block more
module _ (r : KeptRow) (rest rows : List KeptRow) (steps : rows ≡ r ∷ rest) where
  pub rows_more : (front : List BlockRow) (all : List BlockRow) → front ++ map own_row rows ≡ all → (front ++ own_row r ∷ []) ++ map own_row rest ≡ all
  rows_more front all e = append_assoc front (own_row r ∷ []) (map own_row rest) ∙ ap (λ xs. front ++ map own_row xs) (sym steps) ∙ e

  pub parts_more : (front all : List PartRow) → front ++ flat_map own_parts rows ≡ all → (front ++ own_parts r) ++ flat_map own_parts rest ≡ all
  parts_more front all e = append_assoc front (own_parts r) (flat_map own_parts rest) ∙ ap (λ xs. front ++ flat_map own_parts xs) (sym steps) ∙ e

  pub count_more : (n total live : ℕ) → live ≡ length (own_parts r) → n + length (flat_map own_parts rows) ≡ total → (n + live) + length (flat_map own_parts rest) ≡ total
  count_more n total live is e = omega (arith, ap (λ xs. length (flat_map own_parts xs)) steps, length-append (own_parts r) (flat_map own_parts rest))

-- the row of an index among all is that of what is left of it
pub record IsLeftIn (rows : List KeptRow) (left : ℕ) (all : List PartRow) (index : ℕ) : Type 0 where
  pub same : slice_get (flat_map own_parts rows) left ≡ slice_get all index
  pub some : left < length (flat_map own_parts rows)

get_front : {X : Type 0} (xs ys : List X) (i : ℕ) → i < length xs → slice_get (xs ++ ys) i ≡ slice_get xs i
get_front [] ys i l = absurd (omega arith)
get_front (x ∷ xs) ys zero l = refl
get_front (x ∷ xs) ys (suc i) l = get_front xs ys i (omega arith)

get_back : {X : Type 0} (xs ys : List X) (i : ℕ) → length xs ≤ i → slice_get (xs ++ ys) i ≡ slice_get ys (i - length xs)
get_back [] ys i l = ap (slice_get ys) (let e : i ≡ i - 0 = omega arith in e)
get_back (x ∷ xs) ys zero l = absurd (omega arith)
get_back (x ∷ xs) ys (suc i) l = get_back xs ys i (omega arith) ∙ ap (slice_get ys) (let e : i - length xs ≡ suc i - suc (length xs) = omega arith in e)

module _ (rows rest : List KeptRow) (left index live : ℕ) (all : List PartRow) (r : KeptRow) (is : IsLeftIn rows left all index) (steps : rows ≡ r ∷ rest) (count : live ≡ length (own_parts r)) where
  pub part_here : (row : PartRow) → left < live → slice_get (own_parts r) left ≡ Some row → slice_get all index ≡ Some row
  part_here row l at = sym is.same ∙ ap (λ xs. slice_get (flat_map own_parts xs) left) steps ∙ get_front (own_parts r) (flat_map own_parts rest) left (omega arith) ∙ at

  pub part_later : live ≤ left → IsLeftIn rest (left - live) all index
  part_later l = record {
    same = ap (λ n. slice_get (flat_map own_parts rest) (left - n)) count ∙ sym (get_back (own_parts r) (flat_map own_parts rest) left (omega arith)) ∙ ap (λ xs. slice_get (flat_map own_parts xs) left) (sym steps) ∙ is.same;
    some = (let some = is.some in omega (arith, ap (λ xs. length (flat_map own_parts xs)) steps, length-append (own_parts r) (flat_map own_parts rest)));
  }

pub part_none : (rows : List KeptRow) (left index : ℕ) (all : List PartRow) → IsLeftIn rows left all index → rows ≡ [] → ⊥
part_none rows left index all is none = (let some = is.some in omega (arith, ap (λ xs. length (flat_map own_parts xs)) none))

-- the same of blocks
pub record IsRowLeft (rows : List KeptRow) (left : ℕ) (all : List BlockRow) (index : ℕ) : Type 0 where
  pub same : slice_get (map own_row rows) left ≡ slice_get all index
  pub some : left < length (map own_row rows)

module _ (rows rest : List KeptRow) (left index : ℕ) (all : List BlockRow) (r : KeptRow) (is : IsRowLeft rows left all index) (steps : rows ≡ r ∷ rest) where
  pub row_here : (row : BlockRow) → left ≡ 0 → row ≡ own_row r → slice_get all index ≡ Some row
  row_here row none at = sym is.same ∙ ap (λ xs. slice_get (map own_row xs) left) steps ∙ ap (λ n. slice_get (own_row r ∷ map own_row rest) n) none ∙ ap (λ x. Some x) (sym at)

  pub row_later : left ≢ 0 → IsRowLeft rest (left - 1) all index
  row_later other = record {
    same = sym (get_behind (own_row r) (map own_row rest) left other) ∙ ap (λ xs. slice_get (map own_row xs) left) (sym steps) ∙ is.same;
    some = (let some = is.some in omega (arith, ap (λ xs. length (map own_row xs)) steps));
  }

pub row_none : (rows : List KeptRow) (left index : ℕ) (all : List BlockRow) → IsRowLeft rows left all index → rows ≡ [] → ⊥
row_none rows left index all is none = (let some = is.some in omega (arith, ap (λ xs. length (map own_row xs)) none))
