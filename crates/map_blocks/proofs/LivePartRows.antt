-- The rows of live parts, one after another.
use Rattle.std.proofs.Common.{◌≡◌, ◌≢◌, ℕ, zero, suc, ◌+◌, ◌-◌, ◌<◌, ◌≤◌, Bool, true, false, cond, List, [], ◌∷◌, ◌++◌, length, map, filter, take, drop, slice_get, get_or, Option, Some, refl, sym, ap, ◌∙◌, arith}
use Rattle.std.proofs.lemmas.List.{append-nil, map-append, length-take, take_more, drop_more, drop_all}
use Rattle.std.proofs.lemmas.List.Elements.{filter-append}
use Rattle.vm_model.specs.declared.areas.Span.{Span}
use Rattle.vm_model.specs.declared.rows.PartRow.{PartRow}
use Rattle.vm_model.specs.PlainMap.{Block, Part, is_live}
use Rattle.vm_model.specs.Tables.{part_row}
use Rattle.map_blocks.specs.KeptBlocks.{IsKept}
use Rattle.map_blocks.proofs.PartsInRow.{part_within}
use Rattle.map_blocks.proofs.Between.{read_at}

abbrev pub rows_of : Block → List Part → List PartRow
rows_of b ps = map (part_row b) (filter (λ (p : Part). is_live p.life) ps)

-- a test's answer is what it says
pub same_bits : (b t : Bool) → (b ≡ true → t ≡ true) × (t ≡ true → b ≡ true) → t ≡ b
same_bits true t h = h.0 refl
same_bits false true h = sym (h.1 refl)
same_bits false false h = refl

few_by : (b : Block) (p : Part) (ps : List Part) (t : Bool) → length (rows_of b ps) ≤ length ps → length (map (part_row b) (cond t (p ∷ filter (λ (q : Part). is_live q.life) ps) (filter (λ (q : Part). is_live q.life) ps))) ≤ suc (length ps)
few_by b p ps true h = omega arith
few_by b p ps false h = omega arith

pub rows_few : (b : Block) (ps : List Part) → length (rows_of b ps) ≤ length ps
rows_few b [] = omega arith
rows_few b (p ∷ ps) = few_by b p ps (is_live p.life) (rows_few b ps)

-- a part begins in its block
pub offset_few : (b : Block) (pages free dirty : ℕ) (range : Option Span) (room : ℕ) → IsKept b pages free dirty range room → (ps : List Part) (i : ℕ) (x : Part) → ps ≡ b.parts → i < length ps → x ≡ get_or ps i x → x.offset ≤ pages
offset_few b pages free dirty range room kept ps i x same inside read =
    let at : slice_get b.parts i ≡ Some x = ap (λ qs. slice_get qs i) (sym same) ∙ read_at ps i x inside read in
    omega (arith, (part_within 0 b.parts i x kept.packed at).1, kept.given)

pub get_behind : {X : Type 0} (x : X) (xs : List X) (n : ℕ) → n ≢ 0 → slice_get (x ∷ xs) n ≡ slice_get xs (n - 1)
get_behind x xs zero other = absurd (other refl)
get_behind x xs (suc n) other = ap (slice_get xs) (let e : n ≡ suc n - 1 = omega arith in e)

module _ (b : Block) (ps : List Part) (i : ℕ) (x : Part) (inside : i < length ps) (read : x ≡ get_or ps i x) where
  pub rows_yes : is_live x.life ≡ true → rows_of b (drop i ps) ≡ part_row b x ∷ rows_of b (drop (i + 1) ps)
  rows_yes e = ap (rows_of b) (drop_more ps i x inside ∙ ap (λ y. y ∷ drop (i + 1) ps) (sym read))
      ∙ ap (λ t. map (part_row b) (cond t (x ∷ filter (λ (q : Part). is_live q.life) (drop (i + 1) ps)) (filter (λ (q : Part). is_live q.life) (drop (i + 1) ps)))) e

  pub rows_no : is_live x.life ≡ false → rows_of b (drop i ps) ≡ rows_of b (drop (i + 1) ps)
  rows_no e = ap (rows_of b) (drop_more ps i x inside ∙ ap (λ y. y ∷ drop (i + 1) ps) (sym read))
      ∙ ap (λ t. map (part_row b) (cond t (x ∷ filter (λ (q : Part). is_live q.life) (drop (i + 1) ps)) (filter (λ (q : Part). is_live q.life) (drop (i + 1) ps)))) e

  taken : rows_of b (take (i + 1) ps) ≡ rows_of b (take i ps) ++ rows_of b (x ∷ [])
  taken = ap (rows_of b) (take_more ps i x inside ∙ ap (λ y. take i ps ++ y ∷ []) (sym read)) ∙ ap (map (part_row b)) (filter-append (λ (q : Part). is_live q.life) (take i ps) (x ∷ []))
      ∙ map-append (part_row b) (filter (λ (q : Part). is_live q.life) (take i ps)) (filter (λ (q : Part). is_live q.life) (x ∷ []))

  pub taken_yes : is_live x.life ≡ true → rows_of b (take (i + 1) ps) ≡ rows_of b (take i ps) ++ part_row b x ∷ []
  taken_yes e = taken ∙ ap (λ t. rows_of b (take i ps) ++ map (part_row b) (cond t (x ∷ []) [])) e

  pub taken_no : is_live x.life ≡ false → rows_of b (take (i + 1) ps) ≡ rows_of b (take i ps)
  taken_no e = taken ∙ ap (λ t. rows_of b (take i ps) ++ map (part_row b) (cond t (x ∷ []) [])) e ∙ append-nil (rows_of b (take i ps))

  pub taken_few : length (rows_of b (take i ps)) ≤ i
  taken_few = omega (arith, rows_few b (take i ps), length-take i ps)

-- the row of an index among all is that of what is left of it among those from a place on
pub record IsLeft (b : Block) (ps : List Part) (i left index : ℕ) : Type 0 where
  pub same : slice_get (rows_of b (drop i ps)) left ≡ slice_get (rows_of b ps) index
  pub some : left < length (rows_of b (drop i ps))

pub left_first : (b : Block) (ps : List Part) (index : ℕ) → index < length (rows_of b ps) → IsLeft b ps 0 index index
left_first b ps index h = record { same = refl; some = h }

module _ (b : Block) (ps : List Part) (i left index : ℕ) (x : Part) (inside : i < length ps) (read : x ≡ get_or ps i x) (is : IsLeft b ps i left index) where
  pub left_here : is_live x.life ≡ true → left ≡ 0 → slice_get (rows_of b ps) index ≡ Some (part_row b x)
  left_here e none = sym is.same ∙ ap (λ rs. slice_get rs left) (rows_yes b ps i x inside read e) ∙ ap (λ n. slice_get (part_row b x ∷ rows_of b (drop (i + 1) ps)) n) none

  pub left_yes : is_live x.life ≡ true → left ≢ 0 → IsLeft b ps (i + 1) (left - 1) index
  left_yes e some =
      let here = rows_yes b ps i x inside read e in record {
        same = sym (get_behind (part_row b x) (rows_of b (drop (i + 1) ps)) left some) ∙ ap (λ rs. slice_get rs left) (sym here) ∙ is.same;
        some = omega (arith, is.some, ap length here);
      }

  pub left_no : is_live x.life ≡ false → IsLeft b ps (i + 1) left index
  left_no e = let here = rows_no b ps i x inside read e in record {
    same = ap (λ rs. slice_get rs left) (sym here) ∙ is.same;
    some = omega (arith, is.some, ap length here);
  }

pub left_none : (b : Block) (ps : List Part) (i left index : ℕ) → length ps ≤ i → IsLeft b ps i left index → ⊥
left_none b ps i left index all is = omega (arith, is.some, ap (λ qs. length (rows_of b qs)) (drop_all i ps all))
