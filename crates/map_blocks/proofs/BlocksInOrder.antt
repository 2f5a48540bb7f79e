-- The blocks of a side in the order in which they were added, and the one at a start.
use Rattle.std.proofs.Common.{◌≡◌, ℕ, ◌+◌, ◌<◌, Bool, true, false, ◌==◌, cond, if◌then◌else◌, List, [], ◌∷◌, ◌++◌, map, filter, find, flat_map, Option, Some, None, option_map, refl, sym, ap, ◌∙◌, arith}
use Rattle.std.proofs.lemmas.List.{append-nil}
use Rattle.std.specs.Map.{values_of}
use Rattle.vm_model.specs.PlainMap.{Block, Part, InHand}
use Rattle.vm_model.specs.Blocks as model
use Rattle.vm_model.specs.Blocks.{PartAt}
use Rattle.map_blocks.specs.KeptBlocks.{KeptRow, IsInHand}
use Rattle.map_blocks.specs.KeptBlockSides.{IsOwn, AreApartFrom, block_at, by_number, blocks_in}
use Rattle.map_blocks.proofs.PartsInRow.{same_test, other_test, to_same}
use Rattle.map_blocks.proofs.SortedByNumber.{Holds, holds_of, sort_holds, sort_map, sort_filter}
use Rattle.map_blocks.proofs.BlocksByStart.{at_key, at_tests, starts_at, all_own, all_at, IsAt}

abbrev pub number_of : KeptRow → ℕ
number_of r = r.number

-- the block of a row, and a row with its block changed at a start
abbrev pub block_of : KeptRow → Block
block_of r = r.block

abbrev pub changed_at : ℕ → (Block → Block) → KeptRow → KeptRow
changed_at k h x = if x.block.start == k then record x { block = h x.block } else x

abbrev pub listed : Option KeptRow → List KeptRow
listed None = []
listed (Some r) = r ∷ []

module _ (cpu pages added : ℕ) where
  none_behind : (low k : ℕ) (es : List (ℕ × KeptRow)) → AreApartFrom cpu pages added low es → k < low → filter (starts_at k) (values_of es) ≡ []
  none_behind low k [] apart l = refl
  none_behind low k (e ∷ es) apart l =
      let a = apart.0 in
      let b = apart.1 in
      let other : (e.1.block.start == k) ≡ false = other_test e.1.block.start k (λ h. omega arith) in
      ap (λ t. cond t (e.1 ∷ filter (starts_at k) (values_of es)) (filter (starts_at k) (values_of es))) other ∙ none_behind (e.0 + pages) k es apart.4 (omega arith)

  -- the blocks at a start are the one that is found
  pick_by : (low k : ℕ) (e : ℕ × KeptRow) (es : List (ℕ × KeptRow)) (t : Bool) → 0 < pages → at_key k e.0 ≡ t → AreApartFrom cpu pages added low (e ∷ es) → filter (starts_at k) (values_of es) ≡ listed (block_at es k)
      → filter (starts_at k) (e.1 ∷ values_of es) ≡ listed (cond t (Some e.1) (block_at es k))
  pick_by low k e es true some at apart more =
      let key : e.0 ≡ k = to_same e.0 k (at_tests k e.0 true at) in
      let here : (e.1.block.start == k) ≡ true = ap (λ n. n == k) (sym apart.0 ∙ key) ∙ same_test k in
      ap (λ t. cond t (e.1 ∷ filter (starts_at k) (values_of es)) (filter (starts_at k) (values_of es))) here ∙ ap (λ xs. e.1 ∷ xs) (none_behind (e.0 + pages) k es apart.4 (omega arith))
  pick_by low k e es false some at apart more =
      let other : (e.1.block.start == k) ≡ false = ap (λ n. n == k) (sym apart.0) ∙ at_tests k e.0 false at in
      ap (λ t. cond t (e.1 ∷ filter (starts_at k) (values_of es)) (filter (starts_at k) (values_of es))) other ∙ more

  pub pick : (low k : ℕ) (es : List (ℕ × KeptRow)) → 0 < pages → AreApartFrom cpu pages added low es → filter (starts_at k) (values_of es) ≡ listed (block_at es k)
  pick low k [] some apart = refl
  pick low k (e ∷ es) some apart = pick_by low k e es (at_key k e.0) some refl apart (pick (e.0 + pages) k es some apart.4)

  -- and so in the order of adding
  pub pick_sorted : (low k : ℕ) (es : List (ℕ × KeptRow)) (r : KeptRow) → 0 < pages → AreApartFrom cpu pages added low es → block_at es k ≡ Some r → filter (starts_at k) (by_number (values_of es)) ≡ r ∷ []
  pick_sorted low k es r some apart at = sort_filter number_of (starts_at k) (values_of es) ∙ ap by_number (pick low k es some apart ∙ ap listed at)

  pub pick_none : (low k : ℕ) (es : List (ℕ × KeptRow)) → 0 < pages → AreApartFrom cpu pages added low es → block_at es k ≡ None → filter (starts_at k) (by_number (values_of es)) ≡ []
  pick_none low k es some apart at = sort_filter number_of (starts_at k) (values_of es) ∙ ap by_number (pick low k es some apart ∙ ap listed at)

  -- the only one at its start
  pub only : (low k : ℕ) (es : List (ℕ × KeptRow)) (r : KeptRow) → 0 < pages → AreApartFrom cpu pages added low es → block_at es k ≡ Some r → Holds (λ x. starts_at k x ≡ true → x ≡ r) (by_number (values_of es))
  only low k es r some apart at = sort_holds number_of (λ x. starts_at k x ≡ true → x ≡ r) (values_of es) (holds_of (IsAt cpu pages added es low) (λ x. starts_at k x ≡ true → x ≡ r) (values_of es)
      (λ x is here. (let start : x.block.start ≡ k = to_same x.block.start k here in let one : Some x ≡ Some r = sym is.found ∙ ap (block_at es) start ∙ at in cc)) (all_at cpu pages added low es some apart))

  pub sorted_own : (low : ℕ) (es : List (ℕ × KeptRow)) → AreApartFrom cpu pages added low es → Holds (IsOwn cpu pages added) (by_number (values_of es))
  sorted_own low es apart = sort_holds number_of (IsOwn cpu pages added) (values_of es) (all_own cpu pages added low es apart)

-- The parts of the block at a start.

flat_by : (k : ℕ) (x : KeptRow) (xs : List KeptRow) (t : Bool) → flat_map (λ (b : Block). if b.start == k then b.parts else []) (map block_of xs) ≡ flat_map (λ (r : KeptRow). r.block.parts) (filter (starts_at k) xs)
    → (if t then x.block.parts else []) ++ flat_map (λ (b : Block). if b.start == k then b.parts else []) (map block_of xs) ≡ flat_map (λ (r : KeptRow). r.block.parts) (cond t (x ∷ filter (starts_at k) xs) (filter (starts_at k) xs))
flat_by k x xs true e = ap (λ ps. x.block.parts ++ ps) e
flat_by k x xs false e = e

pub flat_parts : (k : ℕ) (xs : List KeptRow) → flat_map (λ (b : Block). if b.start == k then b.parts else []) (map block_of xs) ≡ flat_map (λ (r : KeptRow). r.block.parts) (filter (starts_at k) xs)
flat_parts k [] = refl
flat_parts k (x ∷ xs) = flat_by k x xs (x.block.start == k) (flat_parts k xs)

-- A change of the block at a start.

change_by : (k : ℕ) (h : Block → Block) (x : KeptRow) (t : Bool) → block_of (if t then record x { block = h x.block } else x) ≡ (if t then h x.block else x.block)
change_by k h x true = refl
change_by k h x false = refl

pub map_changed : (k : ℕ) (h : Block → Block) (xs : List KeptRow) → map block_of (map (changed_at k h) xs) ≡ model.change_block k h (map block_of xs)
map_changed k h [] = refl
map_changed k h (x ∷ xs) = ap (λ b. b ∷ map block_of (map (changed_at k h) xs)) (change_by k h x (x.block.start == k)) ∙ ap (λ bs. (if x.block.start == k then h x.block else x.block) ∷ bs) (map_changed k h xs)

same_number_by : (h : Block → Block) (x : KeptRow) (t : Bool) → number_of (if t then record x { block = h x.block } else x) ≡ number_of x
same_number_by h x true = refl
same_number_by h x false = refl

pub sort_changed : (k : ℕ) (h : Block → Block) (vs : List KeptRow) → by_number (map (changed_at k h) vs) ≡ map (changed_at k h) (by_number vs)
sort_changed k h vs = sym (sort_map number_of (changed_at k h) (λ x. same_number_by h x (x.block.start == k)) vs)

pub blocks_changed : (k : ℕ) (h : Block → Block) (vs : List KeptRow) → blocks_in (map (changed_at k h) vs) ≡ model.change_block k h (blocks_in vs)
blocks_changed k h vs = ap (map block_of) (sort_changed k h vs) ∙ map_changed k h (by_number vs)

-- The block whose part is in hand.

pub record IsHandIn (es : List (ℕ × KeptRow)) (k offset : ℕ) : Type 0 where
  pub row : KeptRow
  pub at : block_at es k ≡ Some row
  pub hand : IsInHand offset row.block

pub hand_in : (cpu pages added k offset caller : ℕ) (es : List (ℕ × KeptRow)) → 0 < pages → AreApartFrom cpu pages added 0 es
    → option_map (λ (p : Part). p.life) (find (λ (p : Part). p.offset == offset) (flat_map (λ (b : Block). if b.start == k then b.parts else []) (blocks_in (values_of es)))) ≡ Some (InHand caller) → IsHandIn es k offset
hand_in cpu pages added k offset caller es some apart h = by_found (block_at es k) refl
  where
    by_found : (o : Option KeptRow) → block_at es k ≡ o → IsHandIn es k offset
    by_found None e = absurd (
        let empty : flat_map (λ (b : Block). if b.start == k then b.parts else []) (blocks_in (values_of es)) ≡ [] = flat_parts k (by_number (values_of es)) ∙ ap (flat_map (λ (r : KeptRow). r.block.parts)) (pick_none cpu pages added 0 k es some apart e) in
        let never : None ≡ Some (InHand caller) = sym (ap (λ ps. option_map (λ (p : Part). p.life) (find (λ (p : Part). p.offset == offset) ps)) empty) ∙ h in cc
        )
    by_found (Some r) e =
        let all : flat_map (λ (b : Block). if b.start == k then b.parts else []) (blocks_in (values_of es)) ≡ r.block.parts =
        flat_parts k (by_number (values_of es)) ∙ ap (flat_map (λ (r : KeptRow). r.block.parts)) (pick_sorted cpu pages added 0 k es r some apart e) ∙ append-nil r.block.parts in
        record { row = r; at = e; hand = (caller, sym (ap (λ ps. option_map (λ (p : Part). p.life) (find (λ (p : Part). p.offset == offset) ps)) all) ∙ h) }
