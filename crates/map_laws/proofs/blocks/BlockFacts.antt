-- What is kept of blocks and their parts between two events, and of the parts that callers have in hand.
use Rattle.std.proofs.Common.{◌≡◌, ℕ, zero, suc, ◌+◌, ◌<◌, ◌≤◌, ◌⊎◌, inl, inr, Bool, true, false, ◌||◌, ◌==◌, nat_lt, List, [], ◌∷◌, ◌++◌, map, slice_get, cond, Some, refl, ap, ◌∙◌, subst, arith}
use Rattle.std.proofs.lemmas.Bool.Decides.{nat_tests}
use Rattle.std.proofs.lemmas.List.Sums.{sum_by-cons, sum_by-append}
use Rattle.vm_model.specs.declared.areas.Area.{Area}
use Rattle.vm_model.specs.Space.{span, is_among, one_if}
use Rattle.vm_model.specs.Setup.{Setup}
use Rattle.vm_model.specs.PlainMap.{PlainMap, Block, Part, InHand, is_live, is_ended}
use Rattle.vm_model.specs.Blocks.{PartAt, first_page, rounded, size_of, parts_size}
use Rattle.vm_model.specs.Legal.{IsUnmapped, IsMapped, IsBare}
use Rattle.vm_model.specs.Places.{Place, PurgeFragmenting, PurgeUnlinking, UnlinkingBlock, AddingBlock, MappingPart, SettlingPart, UnmappingPart, Retiring}
use Rattle.vm_model.specs.Carried.{count_of}
use Rattle.map_laws.proofs.TestsAndFilters.{IsIn, in_more}
use Rattle.vm_model.proofs.RoundedPages.{rounded_some}
use Rattle.vm_model.specs.declared.areas.AreaKind.TheVariants as kind

-- on each of so many pages from a first one on
abbrev pub OnRow : (first n : ℕ) → (ℕ → Type 0) → Type 0
OnRow first n P = (page : ℕ) → first ≤ page → page < first + n → P page

-- the frame and the staleness of a page are as before, or it is no longer stale
pub record IsStill (m m' : PlainMap) (page : ℕ) : Type 0 where
  pub frame : slice_get m'.frames page ≡ slice_get m.frames page
  pub clean : slice_get m.stale page ≡ Some false → slice_get m'.stale page ≡ Some false

-- the live area of a block
pub record IsBlockArea (c : Setup) (m : PlainMap) (start : ℕ) : Type 0 where
  pub area : Area
  pub cpu : ℕ
  pub there : IsIn area m.areas
  pub span : area.span ≡ span start c.block_pages
  pub kind : area.kind ≡ kind.Block cpu

-- the parts lie one behind the other, from an offset on
abbrev pub AreStacked : ℕ → List Part → Type 0
AreStacked off [] = Unit {0}
AreStacked off (p ∷ ps) = (p.offset ≡ off) × (p.pages ≤ size_of p) × AreStacked (off + size_of p) ps

pub record IsPartFine (m : PlainMap) (start : ℕ) (p : Part) : Type 0 where
  pub lives : is_live p.life ≡ true → OnRow (start + p.offset) p.pages (IsMapped m)
  pub ended : is_ended p.life ≡ true → OnRow (start + p.offset) (size_of p) (IsUnmapped m)
  pub tail : (page : ℕ) → start + p.offset + p.pages ≤ page → page < start + p.offset + size_of p → IsBare m page

pub record IsBlockFine (c : Setup) (m : PlainMap) (b : Block) : Type 0 where
  pub area : IsBlockArea c m b.start
  pub stacked : AreStacked 0 b.parts
  pub within : parts_size b.parts ≤ c.block_pages
  pub parts : (p : Part) → IsIn p b.parts → IsPartFine m b.start p
  pub rest : (page : ℕ) → b.start + parts_size b.parts ≤ page → page < b.start + c.block_pages → IsBare m page

-- a part that a caller has in hand
pub record IsPartIn (m : PlainMap) (k : ℕ) (at : PartAt) : Type 0 where
  pub block : Block
  pub there : IsIn block m.blocks
  pub start : block.start ≡ at.block
  pub part : Part
  pub part_there : IsIn part block.parts
  pub offset : part.offset ≡ at.offset
  pub pages : part.pages ≡ at.pages
  pub life : part.life ≡ InHand k

-- a block that a caller took out
pub record IsOut (c : Setup) (m : PlainMap) (start : ℕ) : Type 0 where
  pub area : IsBlockArea c m start
  pub unmapped : OnRow start c.block_pages (IsUnmapped m)

-- the starts of blocks that a caller took out, or hasn't added yet
abbrev pub block_out : Place → List ℕ
block_out (PurgeFragmenting cpu gone extra after) = gone
block_out (PurgeUnlinking gone extra after) = gone
block_out (AddingBlock at) = at.block ∷ []
block_out (UnlinkingBlock start reply) = start ∷ []
block_out _ = []

-- of the blocks and parts of a caller's place
abbrev pub IsBlockAt : Setup → PlainMap → ℕ → Place → Type 0
IsBlockAt c m k (PurgeFragmenting cpu gone extra after) = (start : ℕ) → is_among gone start ≡ true → IsOut c m start
IsBlockAt c m k (PurgeUnlinking gone extra after) = (start : ℕ) → is_among gone start ≡ true → IsOut c m start
IsBlockAt c m k (UnlinkingBlock start reply) = IsOut c m start
IsBlockAt c m k (AddingBlock at) = (area : IsBlockArea c m at.block) × (area.cpu ≡ at.cpu) × OnRow at.block c.block_pages (IsBare m)
IsBlockAt c m k (MappingPart at) = IsPartIn m k at × OnRow (first_page at) (rounded at.pages) (IsBare m)
IsBlockAt c m k (SettlingPart at) = IsPartIn m k at × OnRow (first_page at) at.pages (IsMapped m)
IsBlockAt c m k (UnmappingPart at) = IsPartIn m k at × OnRow (first_page at) at.pages (IsMapped m)
IsBlockAt c m k (Retiring at reply) = IsPartIn m k at × OnRow (first_page at) at.pages (IsUnmapped m)
IsBlockAt c m k _ = Unit {0}

-- Counting starts.

abbrev pub block_starts : List Block → List ℕ
block_starts blocks = map (λ (b : Block). b.start) blocks

pub count_cons : (start x : ℕ) (xs : List ℕ) → count_of start (x ∷ xs) ≡ one_if (x == start) + count_of start xs
count_cons start x xs = sum_by-cons (λ other. cond (other == start) 1 0) x xs ∙ ap (λ n. n + count_of start xs) (as_one (x == start))
  where
    as_one : (b : Bool) → cond b 1 0 ≡ one_if b
    as_one true = refl
    as_one false = refl

pub count_append : (start : ℕ) (xs ys : List ℕ) → count_of start (xs ++ ys) ≡ count_of start xs + count_of start ys
count_append start xs ys = sum_by-append (λ other. cond (other == start) 1 0) xs ys

pub same_test : (n : ℕ) → (n == n) ≡ true
same_test n = grind (arith, nat_tests)

pub to_same : (a b : ℕ) → (a == b) ≡ true → a ≡ b
to_same a b h = grind (arith, nat_tests)

among_by : (start x : ℕ) (xs : List ℕ) (b : Bool) → (x == start) ≡ b → (b || is_among xs start) ≡ true → (is_among xs start ≡ true → 1 ≤ count_of start xs) → 1 ≤ count_of start (x ∷ xs)
among_by start x xs true e g more = omega (arith, count_cons start x xs, ap one_if e)
among_by start x xs false e g more = let n = more g in omega (arith, count_cons start x xs)

pub among_count : (start : ℕ) (xs : List ℕ) → is_among xs start ≡ true → 1 ≤ count_of start xs
among_count start [] h = cc
among_count start (x ∷ xs) h = among_by start x xs (x == start) refl h (among_count start xs)

pub not_among : (start : ℕ) (xs : List ℕ) → count_of start xs ≡ 0 → is_among xs start ≡ false
not_among start xs z = grind (arith, among_count, nat_tests)

pub count_among : (start : ℕ) (xs : List ℕ) → 1 ≤ count_of start xs → is_among xs start ≡ true
count_among start [] n = absurd (omega arith)
count_among start (x ∷ xs) n = grind (arith, count_among start xs, count_cons, nat_tests)

-- a block counts its start, and what counts is some block's
pub block_count : (b : Block) (blocks : List Block) → IsIn b blocks → 1 ≤ count_of b.start (block_starts blocks)
block_count b blocks h = by_place blocks h.place h.at
  where
    by_place : (blocks : List Block) (i : ℕ) → slice_get blocks i ≡ Some b → 1 ≤ count_of b.start (block_starts blocks)
    by_place [] i e = cc
    by_place (x ∷ xs) zero e = let same : x ≡ b = cc in omega (arith, count_cons b.start x.start (block_starts xs), ap (λ (y : Block). one_if (y.start == b.start)) same, ap one_if (same_test b.start))
    by_place (x ∷ xs) (suc i) e = let n = by_place xs i e in omega (arith, count_cons b.start x.start (block_starts xs))

pub counted_block : (start : ℕ) (blocks : List Block) → 1 ≤ count_of start (block_starts blocks) → (b : Block) × IsIn b blocks × (b.start ≡ start)
counted_block start [] n = absurd (omega arith)
counted_block start (x ∷ xs) n = grind (arith, counted_block start xs, to_same, count_cons, in_more, nat_tests)

-- two blocks with one start are one
pub same_block : (blocks : List Block) (start i j : ℕ) (b b' : Block) → count_of start (block_starts blocks) ≤ 1 → slice_get blocks i ≡ Some b → slice_get blocks j ≡ Some b' → b.start ≡ start → b'.start ≡ start → b ≡ b'
same_block (x ∷ xs) start zero (suc j) b b' once h h' e e' = let same : x ≡ b = cc in
    absurd (let n = block_count b' xs (record { place = j; at = h' }) in
    omega (arith, count_cons start x.start (block_starts xs), ap (λ (y : Block). one_if (y.start == start)) same, ap (λ n. one_if (n == start)) e, ap one_if (same_test start), ap (λ n. count_of n (block_starts xs)) e'))
same_block (x ∷ xs) start (suc i) zero b b' once h h' e e' = let same : x ≡ b' = cc in
    absurd (let n = block_count b xs (record { place = i; at = h }) in
    omega (arith, count_cons start x.start (block_starts xs), ap (λ (y : Block). one_if (y.start == start)) same, ap (λ n. one_if (n == start)) e', ap one_if (same_test start), ap (λ n. count_of n (block_starts xs)) e))
same_block (x ∷ xs) start (suc i) (suc j) b b' once h h' e e' = same_block xs start i j b b' (omega (arith, count_cons start x.start (block_starts xs))) h h' e e'
same_block _ start _ _ b b' once h h' e e' = cc

-- Stacked parts.

pub size_cons : (p : Part) (ps : List Part) → parts_size (p ∷ ps) ≡ size_of p + parts_size ps
size_cons p ps = sum_by-cons size_of p ps

-- where a part of the stack lies
pub stacked_at : (ps : List Part) (off i : ℕ) (p : Part) → AreStacked off ps → slice_get ps i ≡ Some p → (off ≤ p.offset) × (p.offset + size_of p ≤ off + parts_size ps) × (p.pages ≤ size_of p)
stacked_at [] off i p st h = cc
stacked_at (x ∷ ps) off zero p st h = grind (arith, size_cons, nat_tests)
stacked_at (x ∷ ps) off (suc i) p st h = let r = stacked_at ps (off + size_of x) i p st.2 h in ((let a = r.0 in omega arith), (let b = r.1 in omega (arith, size_cons x ps)), r.2)

-- two parts of the stack are one, or apart
pub stacked_apart : (ps : List Part) (off i j : ℕ) (p q : Part) → AreStacked off ps → slice_get ps i ≡ Some p → slice_get ps j ≡ Some q → (p ≡ q) ⊎ ((p.offset + size_of p ≤ q.offset) ⊎ (q.offset + size_of q ≤ p.offset))
stacked_apart [] off i j p q st h g = cc
stacked_apart (x ∷ ps) off zero zero p q st h g = inl cc
stacked_apart (x ∷ ps) off zero (suc j) p q st h g =
    let same : x ≡ p = cc in let r = stacked_at ps (off + size_of x) j q st.2 g in
    inr (inl (subst (λ (y : Part). y.offset + size_of y ≤ q.offset) same (let e = st.0 in let a = r.0 in omega arith)))
stacked_apart (x ∷ ps) off (suc i) zero p q st h g =
    let same : x ≡ q = cc in let r = stacked_at ps (off + size_of x) i p st.2 h in
    inr (inr (subst (λ (y : Part). y.offset + size_of y ≤ p.offset) same (let e = st.0 in let a = r.0 in omega arith)))
stacked_apart (x ∷ ps) off (suc i) (suc j) p q st h g = stacked_apart ps (off + size_of x) i j p q st.2 h g

-- parts with one offset are one
pub same_part : (ps : List Part) (off i j : ℕ) (p q : Part) → AreStacked off ps → slice_get ps i ≡ Some p → slice_get ps j ≡ Some q → p.offset ≡ q.offset → p ≡ q
same_part ps off i j p q st h g e = elim (stacked_apart ps off i j p q st h g) [
  | inl same ↦ same
  | inr apart ↦ absurd (elim apart [ inl low ↦ omega (arith, rounded_some p.pages) | inr low ↦ omega (arith, rounded_some q.pages) ])
]

-- each page of the stack is in a part
covers_by : (x : Part) (ps : List Part) (off page : ℕ) (t : Bool) → nat_lt page (off + size_of x) ≡ t → x.offset ≡ off → off ≤ page
    → (off + size_of x ≤ page → (p : Part) × IsIn p ps × (p.offset ≤ page) × (page < p.offset + size_of p)) → (p : Part) × IsIn p (x ∷ ps) × (p.offset ≤ page) × (page < p.offset + size_of p)
covers_by x ps off page true e st a more = let low : page < off + size_of x = grind (arith, nat_tests) in (x, record { place = 0; at = refl }, (omega arith), (omega arith))
covers_by x ps off page false e st a more = let high : off + size_of x ≤ page = grind (arith, nat_tests) in let is = more high in (is.0, in_more is.0 x ps is.1, is.2, is.3)

pub stacked_covers : (ps : List Part) (off page : ℕ) → AreStacked off ps → off ≤ page → page < off + parts_size ps → (p : Part) × IsIn p ps × (p.offset ≤ page) × (page < p.offset + size_of p)
stacked_covers [] off page st a b = absurd (omega arith)
stacked_covers (x ∷ ps) off page st a b = covers_by x ps off page _ refl st.0 a (λ high. stacked_covers ps (off + size_of x) page st.2 high (omega (arith, size_cons x ps)))

-- What stays where a block's area and pages do.

pub still_bare : (m m' : PlainMap) (page : ℕ) → IsStill m m' page → IsBare m page → IsBare m' page
still_bare m m' page is h = record { unmapped = is.frame ∙ h.unmapped; not_stale = is.clean h.not_stale }

pub still_mapped : (m m' : PlainMap) (page : ℕ) → IsStill m m' page → IsMapped m page → IsMapped m' page
still_mapped m m' page is h = (h.0, is.frame ∙ h.1)

pub still_unmapped : (m m' : PlainMap) (page : ℕ) → IsStill m m' page → IsUnmapped m page → IsUnmapped m' page
still_unmapped m m' page is h = is.frame ∙ h

pub part_stays : (m m' : PlainMap) (start : ℕ) (p : Part) → p.pages ≤ size_of p → OnRow (start + p.offset) (size_of p) (IsStill m m') → IsPartFine m start p → IsPartFine m' start p
part_stays m m' start p less still is = record {
  lives = λ h page a b. still_mapped m m' page (still page a (omega arith)) (is.lives h page a b);
  ended = λ h page a b. still_unmapped m m' page (still page a b) (is.ended h page a b);
  tail = λ page a b. still_bare m m' page (still page (omega arith) b) (is.tail page a b);
}

-- the area of a start stays, and its pages
pub record Stays (c : Setup) (m m' : PlainMap) (start : ℕ) : Type 0 where
  pub area : IsBlockArea c m start → IsBlockArea c m' start
  pub cpu : (is : IsBlockArea c m start) → (area is).cpu ≡ is.cpu
  pub pages : OnRow start c.block_pages (IsStill m m')

pub block_stays : (c : Setup) (m m' : PlainMap) (b : Block) → Stays c m m' b.start → IsBlockFine c m b → IsBlockFine c m' b
block_stays c m m' b stays is = record {
  area = stays.area is.area;
  stacked = is.stacked;
  within = is.within;
  parts = λ p there. (let r = stacked_at b.parts 0 there.place p is.stacked there.at in let w = is.within in
      part_stays m m' b.start p r.2 (λ page low high. stays.pages page (omega arith) (let q = r.1 in omega arith)) (is.parts p there));
  rest = λ page low high. still_bare m m' page (stays.pages page (omega arith) high) (is.rest page low high);
}

pub out_stays : (c : Setup) (m m' : PlainMap) (start : ℕ) → Stays c m m' start → IsOut c m start → IsOut c m' start
out_stays c m m' start stays is = record { area = stays.area is.area; unmapped = λ page a b. still_unmapped m m' page (stays.pages page a b) (is.unmapped page a b) }
