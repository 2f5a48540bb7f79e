-- What a caller asks before it calls what has a condition.
use Rattle.std.proofs.Common.{◌≡◌, ℕ, ◌+◌, ◌<◌, ◌≤◌, Bool, true, false, ◌==◌, ◌||◌, ◌⊎◌, inl, inr, if◌then◌else◌, List, [], ◌∷◌, map, flat_map, find, Some, None, option_map, refl, sym, ap, ◌∙◌, subst, arith}
use Rattle.std.proofs.lemmas.Bool.{cases_lt}
use Rattle.std.proofs.lemmas.Bool.Decides.{nat_tests}
use Rattle.std.proofs.lemmas.List.{append-nil}
use Rattle.std.specs.Map.{values_of}
use Rattle.vm_model.specs.Space.{span, holds, covers}
use Rattle.vm_model.specs.PlainMap.{Block, Part, Life, InHand, Lives, Ended, is_in_hand}
use Rattle.map_blocks.specs.BlockSpans.{block_span}
use Rattle.map_blocks.specs.KeptBlocks.{KeptRow, IsInHand, part_in}
use Rattle.map_blocks.specs.KeptBlockSides.{IsOwn, AreApartFrom, block_at, by_number, blocks_in}
use Rattle.map_blocks.proofs.SortedByNumber.{Holds, sort_holds, sort_held}
use Rattle.map_blocks.proofs.BlocksInOrder.{number_of, block_of, flat_parts, hand_in, pick_sorted, sorted_own}

-- a part of a block that is in hand
pub in_hand_of : (p : Part) (offset : ℕ) (b : Block) → part_in offset b ≡ Some p → is_in_hand p.life ≡ true → IsInHand offset b
in_hand_of p offset b at hand = by_life p.life refl hand
  where
    by_life : (l : Life) → p.life ≡ l → is_in_hand l ≡ true → IsInHand offset b
    by_life (InHand caller) e h = (caller, ap (option_map (λ (q : Part). q.life)) at ∙ ap (λ m. Some m) e)
    by_life (Lives serial) e h = cc
    by_life Ended e h = cc

pub hand_known : (p : Part) (offset : ℕ) (b : Block) → part_in offset b ≡ Some p → IsInHand offset b → is_in_hand p.life ≡ true
hand_known p offset b at hand =
    let life : Some p.life ≡ Some (InHand hand.0) = sym (ap (option_map (λ (q : Part). q.life)) at) ∙ hand.1 in
    let same : p.life ≡ InHand hand.0 = cc in
    ap is_in_hand same

pub never_in_hand : (offset : ℕ) (b : Block) → part_in offset b ≡ None → IsInHand offset b → ⊥
never_in_hand offset b none hand = let never : None ≡ Some (InHand hand.0) = sym (ap (option_map (λ (q : Part). q.life)) none) ∙ hand.1 in cc

pub held_of : (cpu pages added k offset : ℕ) (es : List (ℕ × KeptRow)) (r : KeptRow) → 0 < pages → AreApartFrom cpu pages added 0 es → block_at es k ≡ Some r → IsInHand offset r.block
    → (caller : ℕ) × (option_map (λ (p : Part). p.life) (find (λ (p : Part). p.offset == offset) (flat_map (λ (b : Block). if b.start == k then b.parts else []) (blocks_in (values_of es)))) ≡ Some (InHand caller))
held_of cpu pages added k offset es r some apart at hand =
    let all : flat_map (λ (b : Block). if b.start == k then b.parts else []) (blocks_in (values_of es)) ≡ r.block.parts =
    flat_parts k (by_number (values_of es)) ∙ ap (flat_map (λ (r : KeptRow). r.block.parts)) (pick_sorted cpu pages added 0 k es r some apart at) ∙ append-nil r.block.parts in
    (hand.0, ap (λ ps. option_map (λ (p : Part). p.life) (find (λ (p : Part). p.offset == offset) ps)) all ∙ hand.1)

pub held_known : (cpu pages added k offset : ℕ) (es : List (ℕ × KeptRow)) (r : KeptRow) → 0 < pages → AreApartFrom cpu pages added 0 es → block_at es k ≡ Some r
    → (caller : ℕ) × (option_map (λ (p : Part). p.life) (find (λ (p : Part). p.offset == offset) (flat_map (λ (b : Block). if b.start == k then b.parts else []) (blocks_in (values_of es)))) ≡ Some (InHand caller)) → IsInHand offset r.block
held_known cpu pages added k offset es r some apart at held =
    let hand = hand_in cpu pages added k offset held.0 es some apart held.1 in
    let same : hand.row ≡ r = (let one : Some hand.row ≡ Some r = sym hand.at ∙ at in cc) in
    subst (λ (x : KeptRow). IsInHand offset x.block) same hand.hand

pub never_held : (cpu pages added k offset : ℕ) (es : List (ℕ × KeptRow)) → 0 < pages → AreApartFrom cpu pages added 0 es → block_at es k ≡ None
    → (caller : ℕ) × (option_map (λ (p : Part). p.life) (find (λ (p : Part). p.offset == offset) (flat_map (λ (b : Block). if b.start == k then b.parts else []) (blocks_in (values_of es)))) ≡ Some (InHand caller)) → ⊥
never_held cpu pages added k offset es some apart none held =
    let hand = hand_in cpu pages added k offset held.0 es some apart held.1 in
    let never : Some hand.row ≡ None = sym hand.at ∙ none in cc

-- a block that shares no page with one at a start
abbrev pub IsApart : ℕ → KeptRow → Type 0
IsApart start r = (r.block.start + r.pages ≤ start) ⊎ (start + r.pages ≤ r.block.start)

uncovered : (pages start page : ℕ) (r : KeptRow) → r.pages ≡ pages → IsApart start r → holds (span start pages) page ≡ true → holds (block_span pages r.block) page ≡ false
uncovered pages start page r size (inl before) here = grind (arith, nat_tests)
uncovered pages start page r size (inr behind) here = grind (arith, nat_tests)

none_covers : (cpu pages added start page : ℕ) (rows : List KeptRow) → Holds (IsOwn cpu pages added) rows → Holds (IsApart start) rows → holds (span start pages) page ≡ true → covers (map (block_span pages) (map block_of rows)) page ≡ false
none_covers cpu pages added start page [] own apart here = refl
none_covers cpu pages added start page (r ∷ rows) own apart here =
    let first = uncovered pages start page r own.0.size apart.0 here in
    let rest = none_covers cpu pages added start page rows own.1 apart.1 here in
    grind (arith, nat_tests)

pub unused_of : (cpu pages added start : ℕ) (es : List (ℕ × KeptRow)) → AreApartFrom cpu pages added 0 es → Holds (IsApart start) (values_of es)
    → (page : ℕ) → holds (span start pages) page ≡ true → covers (map (block_span pages) (blocks_in (values_of es))) page ≡ false
unused_of cpu pages added start es apart each page here = none_covers cpu pages added start page (by_number (values_of es)) (sorted_own cpu pages added 0 es apart) (sort_holds number_of (IsApart start) (values_of es) each) here

-- a block of so many pages that has none of as many pages from a start on
abbrev pub IsClear : (pages start : ℕ) → KeptRow → Type 0
IsClear pages start r = (r.pages ≡ pages) × ((page : ℕ) → holds (span start pages) page ≡ true → holds (block_span pages r.block) page ≡ false)

first_false : (a b : Bool) → (a || b) ≡ false → a ≡ false
first_false false b e = refl
first_false true b e = cc

second_false : (a b : Bool) → (a || b) ≡ false → b ≡ false
second_false false b e = e
second_false true b e = cc

all_clear : (cpu pages added start : ℕ) (rows : List KeptRow) → Holds (IsOwn cpu pages added) rows → ((page : ℕ) → holds (span start pages) page ≡ true → covers (map (block_span pages) (map block_of rows)) page ≡ false) → Holds (IsClear pages start) rows
all_clear cpu pages added start [] own none = tt
all_clear cpu pages added start (r ∷ rows) own none = (
  (own.0.size, (λ page here. first_false (holds (block_span pages r.block) page) (covers (map (block_span pages) (map block_of rows)) page) (none page here))),
  all_clear cpu pages added start rows own.1 (λ page here. second_false (holds (block_span pages r.block) page) (covers (map (block_span pages) (map block_of rows)) page) (none page here)),
)

pub clear_of : (cpu pages added start : ℕ) (es : List (ℕ × KeptRow)) → AreApartFrom cpu pages added 0 es
    → ((page : ℕ) → holds (span start pages) page ≡ true → covers (map (block_span pages) (blocks_in (values_of es))) page ≡ false) → Holds (IsClear pages start) (values_of es)
clear_of cpu pages added start es apart none = sort_held number_of (IsClear pages start) (values_of es) (all_clear cpu pages added start (by_number (values_of es)) (sorted_own cpu pages added 0 es apart) none)

-- the higher of the two starts is in both
pub clear_apart : (pages start : ℕ) (r : KeptRow) → 1 ≤ pages → IsClear pages start r → IsApart start r
clear_apart pages start r some clear = elim (cases_lt r.block.start start) [
  | inl before ↦
      let here : holds (span start pages) start ≡ true = grind (arith, nat_tests) in
      let away = clear.1 start here in
      let size = clear.0 in
      inl (grind (arith, nat_tests))
  | inr behind ↦
      elim (cases_lt r.block.start (start + pages)) [
        | inl inside ↦
            let here : holds (span start pages) r.block.start ≡ true = grind (arith, nat_tests) in
            let away = clear.1 r.block.start here in
            let there : holds (block_span pages r.block) r.block.start ≡ true = grind (arith, nat_tests) in
            absurd (let never : true ≡ false = sym there ∙ away in cc)
        | inr beyond ↦ let size = clear.0 in inr (omega arith)
      ]
]
