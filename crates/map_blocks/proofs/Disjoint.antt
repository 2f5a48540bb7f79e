-- Blocks, and the parts of a block, share no page.
use Rattle.std.proofs.Common.{◌≡◌, ℕ, ◌+◌, ◌<◌, ◌≤◌, Bool, true, false, nat_lt, if◌then◌else◌, List, [], ◌∷◌, map, All, refl, sym, ap, subst, ◌∙◌, arith}
use Rattle.std.proofs.lemmas.Bool.Decides.{nat_tests}
use Rattle.std.proofs.lemmas.List.Sums.{sum_by-cons}
use Rattle.std.specs.Map.{values_of}
use Rattle.vm_model.specs.declared.areas.Span.{Span}
use Rattle.vm_model.specs.Space.{span, end_of, holds, times, one_if, put_by}
use Rattle.vm_model.specs.PlainMap.{Block, Part}
use Rattle.vm_model.specs.Blocks.{size_of, parts_size}
use Rattle.map_blocks.specs.BlockSpans.{block_span, part_spans, ShareNoPage, LiesIn}
use Rattle.map_blocks.specs.KeptBlocks.{KeptRow, ArePacked}
use Rattle.map_blocks.specs.KeptBlockSides.{IsOwn, AreApartFrom, by_number, blocks_in}
use Rattle.map_blocks.proofs.PartsInRow.{size_cons}
use Rattle.map_blocks.proofs.SortedByNumber.{Holds}
use Rattle.map_blocks.proofs.BlocksInOrder.{number_of, block_of, sorted_own}
use Rattle.map_blocks.proofs.Clean.{to_all}

times_more : (page : ℕ) (s : Span) (spans : List Span) → times page (s ∷ spans) ≡ one_if (holds s page) + times page spans
times_more page s spans = sum_by-cons (λ (t : Span). one_if (holds t page)) s spans

-- a span that ends before all others
more_once : (page : ℕ) (s : Span) (spans : List Span) (t : Bool) → holds s page ≡ t → (page < end_of s → times page spans ≡ 0) → times page spans ≤ 1 → times page (s ∷ spans) ≤ 1
more_once page s spans true e none more = let below : page < end_of s = grind (arith, nat_tests) in omega (arith, times_more page s spans, ap one_if e, none below)
more_once page s spans false e none more = omega (arith, times_more page s spans, ap one_if e)

more_none : (page : ℕ) (s : Span) (spans : List Span) → page < s.start → times page spans ≡ 0 → times page (s ∷ spans) ≡ 0
more_none page s spans l none = let out : holds s page ≡ false = grind (arith, nat_tests) in omega (arith, times_more page s spans, ap one_if out, none)

-- Parts.

module _ (start page : ℕ) where
  parts_after : (off : ℕ) (ps : List Part) → ArePacked off ps → page < start + off → times page (map (λ (p : Part). span (start + p.offset) (size_of p)) ps) ≡ 0
  parts_after off [] packed l = refl
  parts_after off (p ∷ ps) packed l =
      let at = packed.0 in
      more_none page (span (start + p.offset) (size_of p)) (map (λ (q : Part). span (start + q.offset) (size_of q)) ps) (omega arith) (parts_after (off + size_of p) ps packed.3 (omega arith))

  parts_once : (off : ℕ) (ps : List Part) → ArePacked off ps → times page (map (λ (p : Part). span (start + p.offset) (size_of p)) ps) ≤ 1
  parts_once off [] packed = omega arith
  parts_once off (p ∷ ps) packed =
      let at = packed.0 in
      more_once page (span (start + p.offset) (size_of p)) (map (λ (q : Part). span (start + q.offset) (size_of q)) ps) (holds (span (start + p.offset) (size_of p)) page) refl
      (λ below. parts_after (off + size_of p) ps packed.3 (omega arith)) (parts_once (off + size_of p) ps packed.3)

parts_inside : (start pages off : ℕ) (ps : List Part) → ArePacked off ps → off + parts_size ps ≤ pages → Holds (LiesIn (span start pages)) (map (λ (p : Part). span (start + p.offset) (size_of p)) ps)
parts_inside start pages off [] packed l = tt
parts_inside start pages off (p ∷ ps) packed l =
    let at = packed.0 in
    let size = size_cons p ps in
    ((omega arith, omega arith), parts_inside start pages (off + size_of p) ps packed.3 (omega arith))

parts_apart_in : (cpu pages added : ℕ) (rows : List KeptRow) → Holds (IsOwn cpu pages added) rows → Holds (λ (b : Block). ShareNoPage (part_spans b)) (map block_of rows)
parts_apart_in cpu pages added [] own = tt
parts_apart_in cpu pages added (r ∷ rows) own = (λ page. parts_once r.block.start page 0 r.block.parts own.0.packed, parts_apart_in cpu pages added rows own.1)

parts_inside_in : (cpu pages added : ℕ) (rows : List KeptRow) → Holds (IsOwn cpu pages added) rows → Holds (λ (b : Block). All (LiesIn (block_span pages b)) (part_spans b)) (map block_of rows)
parts_inside_in cpu pages added [] own = tt
parts_inside_in cpu pages added (r ∷ rows) own =
    let within = own.0.within in
    (to_all (LiesIn (block_span pages r.block)) (part_spans r.block) (parts_inside r.block.start pages 0 r.block.parts own.0.packed (omega arith)), parts_inside_in cpu pages added rows own.1)

-- Blocks, in any order.

module _ (pages page : ℕ) where
  abbrev blocks_at : List KeptRow → ℕ
  blocks_at rows = times page (map (block_span pages) (map block_of rows))

  abbrev here : KeptRow → ℕ
  here r = one_if (holds (block_span pages r.block) page)

  at_more : (r : KeptRow) (rows : List KeptRow) → blocks_at (r ∷ rows) ≡ here r + blocks_at rows
  at_more r rows = times_more page (block_span pages r.block) (map (block_span pages) (map block_of rows))

  put_by_test : (x y : KeptRow) (ys : List KeptRow) (b : Bool) → blocks_at (put_by number_of x ys) ≡ here x + blocks_at ys → blocks_at (if b then x ∷ y ∷ ys else y ∷ put_by number_of x ys) ≡ here x + blocks_at (y ∷ ys)
  put_by_test x y ys true e = at_more x (y ∷ ys)
  put_by_test x y ys false e = omega (arith, at_more y (put_by number_of x ys), at_more y ys, e)

  put_times : (x : KeptRow) (ys : List KeptRow) → blocks_at (put_by number_of x ys) ≡ here x + blocks_at ys
  put_times x [] = at_more x []
  put_times x (y ∷ ys) = put_by_test x y ys (nat_lt x.number y.number) (put_times x ys)

  sort_times : (xs : List KeptRow) → blocks_at (by_number xs) ≡ blocks_at xs
  sort_times [] = refl
  sort_times (x ∷ xs) = put_times x (by_number xs) ∙ ap (λ n. here x + n) (sort_times xs) ∙ sym (at_more x xs)

  blocks_after : (cpu added low : ℕ) (es : List (ℕ × KeptRow)) → AreApartFrom cpu pages added low es → page < low → blocks_at (values_of es) ≡ 0
  blocks_after cpu added low [] apart l = refl
  blocks_after cpu added low (e ∷ es) apart l =
      let at = apart.0 in
      let from = apart.1 in
      more_none page (block_span pages e.1.block) (map (block_span pages) (map block_of (values_of es))) (omega arith) (blocks_after cpu added (e.0 + pages) es apart.4 (omega arith))

  blocks_once : (cpu added low : ℕ) (es : List (ℕ × KeptRow)) → AreApartFrom cpu pages added low es → blocks_at (values_of es) ≤ 1
  blocks_once cpu added low [] apart = omega arith
  blocks_once cpu added low (e ∷ es) apart =
      let at = apart.0 in
      more_once page (block_span pages e.1.block) (map (block_span pages) (map block_of (values_of es))) (holds (block_span pages e.1.block) page) refl
      (λ below. blocks_after cpu added (e.0 + pages) es apart.4 (omega arith)) (blocks_once cpu added (e.0 + pages) es apart.4)

-- What a side says of them.

module _ (cpu pages added : ℕ) (es : List (ℕ × KeptRow)) (apart : AreApartFrom cpu pages added 0 es) where
  pub all_apart : All (λ (b : Block). ShareNoPage (part_spans b)) (blocks_in (values_of es))
  all_apart = to_all (λ (b : Block). ShareNoPage (part_spans b)) (blocks_in (values_of es)) (parts_apart_in cpu pages added (by_number (values_of es)) (sorted_own cpu pages added 0 es apart))

  pub all_inside : All (λ (b : Block). All (LiesIn (block_span pages b)) (part_spans b)) (blocks_in (values_of es))
  all_inside = to_all (λ (b : Block). All (LiesIn (block_span pages b)) (part_spans b)) (blocks_in (values_of es)) (parts_inside_in cpu pages added (by_number (values_of es)) (sorted_own cpu pages added 0 es apart))

  pub blocks_apart : ShareNoPage (map (block_span pages) (blocks_in (values_of es)))
  blocks_apart page = subst (λ n. n ≤ 1) (sym (sort_times pages page (values_of es))) (blocks_once pages page cpu added 0 es apart)
