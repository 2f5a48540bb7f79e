-- The pages of a set, and those of units, in lists.
use Rattle.std.proofs.Common.{◌≡◌, ℕ, zero, suc, ◌+◌, ◌-◌, ◌*◌, ◌<◌, ◌≤◌, inl, inr, Bool, true, false, ◌||◌, ◌==◌, cond, List, [], ◌∷◌, ◌++◌, length, filter, drop, get_or, refl, ap, ◌∙◌, arith}
use Rattle.std.proofs.lemmas.Bool.{or_right, cases_lt}
use Rattle.std.proofs.lemmas.Bool.Decides.{nat_tests}
use Rattle.std.proofs.lemmas.List.{length-append, drop_all}
use Rattle.std.proofs.lemmas.Nat.Bits.{bit_at-zero}
use Rattle.std.specs.Int.{bit_at}
use Rattle.vm_model.specs.declared.areas.PageSet.{PageSet}
use Rattle.vm_model.specs.Space.{is_among, count_from}
use Rattle.vm_model.specs.PageSets.{has_page, pages_in}
use Rattle.page_pool.specs.Units.{pages_in_unit, pages_at}

-- The pages of a set from one on.

unfoldable pub pages_from : PageSet → ℕ → List ℕ
pages_from set page = filter (has_page set) (count_from (64 - page) page)

pub pages_from-first : (set : PageSet) → pages_in set ≡ pages_from set 0
unfolding pages_from pages_in
pages_from-first set = refl

-- the pages of a row from one on
pub row_from : (end page : ℕ) → page < end → count_from (end - page) page ≡ page ∷ count_from (end - (page + 1)) (page + 1)
row_from end page low =
    ap (λ n. count_from n page) (let e : end - page ≡ suc (end - (page + 1)) = omega arith in e) ∙ ap (λ p. page ∷ count_from (end - (page + 1)) p) (let e : suc page ≡ page + 1 = omega arith in e)

pub pages_from-has : (set : PageSet) (page : ℕ) → page < 64 → has_page set page ≡ true → pages_from set page ≡ page ∷ pages_from set (page + 1)
unfolding pages_from
pages_from-has set page low has =
    let rest = filter (has_page set) (count_from (64 - (page + 1)) (page + 1)) in
    ap (filter (has_page set)) (row_from 64 page low) ∙ ap (λ b. cond b (page ∷ rest) rest) has

pub pages_from-lacks : (set : PageSet) (page : ℕ) → page < 64 → has_page set page ≡ false → pages_from set page ≡ pages_from set (page + 1)
unfolding pages_from
pages_from-lacks set page low lacks =
    let rest = filter (has_page set) (count_from (64 - (page + 1)) (page + 1)) in
    ap (filter (has_page set)) (row_from 64 page low) ∙ ap (λ b. cond b (page ∷ rest) rest) lacks

pub pages_from-end : (set : PageSet) (page : ℕ) → 64 ≤ page → pages_from set page ≡ []
unfolding pages_from
pages_from-end set page high = ap (λ n. filter (has_page set) (count_from n page)) (let e : 64 - page ≡ 0 = omega arith in e)

-- a set without a bit has no pages
none_of : (set : PageSet) (n first : ℕ) → set.mask ≡ 0 → length (filter (has_page set) (count_from n first)) ≡ 0
none_of set zero first none = refl
none_of set (suc n) first none =
    let rest = filter (has_page set) (count_from n (suc first)) in
    let lacks : has_page set first ≡ false = ap (λ mask. bit_at mask first == 1) none ∙ ap (λ bit. bit == 1) (bit_at-zero first) in
    ap (λ b. length (cond b (first ∷ rest) rest)) lacks ∙ none_of set n (suc first) none

pub no_pages : (set : PageSet) → set.mask ≡ 0 → length (pages_in set) ≡ 0
unfolding pages_in
no_pages set none = none_of set 64 0 none

-- Pages among others.

pub among_first : (page : ℕ) (pages : List ℕ) → is_among (page ∷ pages) page ≡ true
among_first page pages = let e : (page == page) ≡ true = grind (arith, nat_tests) in ap (λ b. b || is_among pages page) e

pub among_more : (other page : ℕ) (pages : List ℕ) → is_among pages page ≡ true → is_among (other ∷ pages) page ≡ true
among_more other page pages h = or_right (other == page) (is_among pages page) h

or_assoc : (a b c : Bool) → (a || (b || c)) ≡ ((a || b) || c)
or_assoc true b c = refl
or_assoc false b c = refl

pub is_among-append : (pages more : List ℕ) (page : ℕ) → is_among (pages ++ more) page ≡ (is_among pages page || is_among more page)
is_among-append [] more page = refl
is_among-append (other ∷ pages) more page = ap (λ b. (other == page) || b) (is_among-append pages more page) ∙ or_assoc (other == page) (is_among pages page) (is_among more page)

pub among_front : (pages more : List ℕ) (page : ℕ) → is_among pages page ≡ true → is_among (pages ++ more) page ≡ true
among_front pages more page h = is_among-append pages more page ∙ ap (λ b. b || is_among more page) h

-- Pages of units.

pub length-pages_in_unit : (base unit : ℕ) (pages : List ℕ) → length (pages_in_unit base unit pages) ≡ length pages
length-pages_in_unit base unit [] = refl
length-pages_in_unit base unit (page ∷ pages) = ap suc (length-pages_in_unit base unit pages)

pub length-pages_at : (base : ℕ) (units pages : List ℕ) → length (pages_at base units pages) ≡ length units * length pages
length-pages_at base [] pages = omega arith
length-pages_at base (unit ∷ units) pages =
    length-append (pages_in_unit base unit pages) (pages_at base units pages) ∙ ap (λ n. n + length (pages_at base units pages)) (length-pages_in_unit base unit pages)
    ∙ ap (λ n. length pages + n) (length-pages_at base units pages) ∙ (let e : length pages + length units * length pages ≡ suc (length units) * length pages = omega arith in e)

-- the unit at an index, and those behind it
pub units_from : (units : List ℕ) (index : ℕ) → index < length units → drop index units ≡ get_or units index 0 ∷ drop (index + 1) units
units_from [] index within = absurd (omega arith)
units_from (first ∷ units) zero within = refl
units_from (first ∷ units) (suc index) within =
    units_from units index (omega arith) ∙ ap (λ n. get_or units index 0 ∷ drop n (first ∷ units)) (let e : suc (index + 1) ≡ suc index + 1 = omega arith in e)

pub units_end : (units : List ℕ) (index : ℕ) → length units ≤ index → drop index units ≡ []
units_end units index past = drop_all index units past

-- a page of one unit is a page of them all
pub among_units : (base : ℕ) (units pages : List ℕ) (index page : ℕ) → index < length units → is_among (pages_in_unit base (get_or units index 0) pages) page ≡ true → is_among (pages_at base units pages) page ≡ true
among_units base [] pages index page within h = absurd (omega arith)
among_units base (unit ∷ units) pages zero page within h =
    is_among-append (pages_in_unit base unit pages) (pages_at base units pages) page ∙ ap (λ b. b || is_among (pages_at base units pages) page) h
among_units base (unit ∷ units) pages (suc index) page within h =
    is_among-append (pages_in_unit base unit pages) (pages_at base units pages) page
    ∙ or_right (is_among (pages_in_unit base unit pages) page) (is_among (pages_at base units pages) page) (among_units base units pages index page (omega arith) h)

-- a page of a row is a page of the unit
pub among_unit : (base unit n first page : ℕ) → first ≤ page → page < first + n → is_among (pages_in_unit base unit (count_from n first)) (base + unit + page) ≡ true
among_unit base unit zero first page low high = absurd (omega arith)
among_unit base unit (suc n) first page low high = elim (cases_lt first page) [
  | inl below ↦ among_more (base + unit + first) (base + unit + page) (pages_in_unit base unit (count_from n (suc first))) (among_unit base unit n (suc first) page (omega arith) (omega arith))
  | inr above ↦ ap (λ p. is_among ((base + unit + p) ∷ pages_in_unit base unit (count_from n (suc first))) (base + unit + page)) (let e : first ≡ page = omega arith in e)
      ∙ among_first (base + unit + page) (pages_in_unit base unit (count_from n (suc first)))
]
