-- What chunks cost, that a new one has room, and their sizes.
use Rattle.std.proofs.Common.{Bool, List, [], ap, arith, cond, false, filter, if◌then◌else◌, not, refl, replicate, slice_get, suc, sum_by, true, zero, ℕ, ◌&&◌, ◌*◌, ◌++◌, ◌+◌, ◌==◌, ◌∷◌, ◌≡◌, ◌≤◌, ◌/◌, ◌%◌, ◌<◌, nat_le, length, map, find, slice_index_or, Option, Some, None, is_some, option_map, option_and_then, sym, ◌∙◌, subst}
use Rattle.std.proofs.lemmas.List.Sums.{sum_by-append, sum_by-cons}
use Rattle.vm_model.specs.Chunks.{ObjectAt, change_chunk, new_chunk, with_live_object, with_object, with_page, without_object, plain_fit, placement, placed_at, placed_in, slot, is_populated, unpopulated_pages, page_in, page_to_fill, empty_count}
use Rattle.vm_model.specs.Effects.{effect_as}
use Rattle.vm_model.specs.Events.{AddChunk, Section}
use Rattle.vm_model.specs.PlainMap.{Chunk, Lives, PlainMap}
use Rattle.vm_model.specs.Setup.{Setup, cpus, unit_bits}
use Rattle.vm_model.specs.Space.{is_open, one_if, paint_from, count_from, covers, begins_free, fits, lowest, least_by}
use Rattle.map_laws.proofs.TestsAndFilters.{one_if_le, IsIn, filter_has, filter_in, least_in, least_some, count_from-below}
use Rattle.std.proofs.lemmas.Bool.Decides.{nat_tests}
use Rattle.std.proofs.lemmas.Option.{get_or_from_slice_get, slice_get-map}
use Rattle.vm_model.proofs.Search.{the_lowest_fits}
use Rattle.map_laws.proofs.KeptThroughSteps.{there, append_cases}
use Rattle.std.proofs.lemmas.List.{length-replicate}
use Rattle.vm_model.proofs.Paint.{length-paint_from}

-- What chunks are worth to a balance: each section but that of a new chunk leaves them worth no more.

-- how many pages of a chunk aren't populated
abbrev pub holes_in : List Bool → ℕ
holes_in populated = sum_by (λ b. one_if (not b)) populated

-- what a chunk is worth: the sections of giving it up, and three for each page to fill
abbrev pub worth : Setup → Chunk → ℕ
worth c h = 15 + cpus c + 3 * holes_in h.populated

abbrev pub worth_of : Setup → List Chunk → ℕ
worth_of c chunks = sum_by (worth c) chunks

-- whether the chunk has this number, and the page isn't populated
abbrev pub open_in : (number page : ℕ) → Chunk → ℕ
open_in number page h = one_if ((h.number == number) && is_open (slice_get h.populated page))

abbrev pub opens : (number page : ℕ) → List Chunk → ℕ
opens number page chunks = sum_by (open_in number page) chunks

-- what a section adds to the chunks' worth
abbrev pub added : Setup → Section → ℕ
added c (AddChunk chunk base at align missing) = 15 + cpus c + 3 * c.unit_pages
added c _ = 0

-- the chunks are worth no more than before and an extra, and less where the page is no longer open
pub record IsLower (c : Setup) (number page extra : ℕ) (before after : List Chunk) : Type 0 where
  pub less : worth_of c after ≤ worth_of c before + extra
  pub closes : 3 * opens number page before + worth_of c after ≤ 3 * opens number page after + worth_of c before + extra

-- Populating pages.

painted_hole : (t b : Bool) → one_if (not (if t then true else b)) ≤ one_if (not b)
painted_hole t b = grind arith

paint_fewer : (test : ℕ → Bool) (p : ℕ) (bits : List Bool) → holes_in (paint_from p test true bits) ≤ holes_in bits
paint_fewer test p [] = omega arith
paint_fewer test p (b ∷ bits) = search (paint_fewer test (suc p) bits, painted_hole, sum_by-cons, arith) depth 6

paint_closes : (test : ℕ → Bool) (p : ℕ) (bits : List Bool) (k : ℕ)
    → one_if (is_open (slice_get bits k)) + holes_in (paint_from p test true bits) ≤ one_if (is_open (slice_get (paint_from p test true bits) k)) + holes_in bits
paint_closes test p [] k = omega arith
paint_closes test p (b ∷ bits) zero = omega (
  arith,
  paint_fewer test (suc p) bits,
  sum_by-cons (λ b. one_if (not b)) b bits,
  sum_by-cons (λ b. one_if (not b)) (if test p then true else b) (paint_from (suc p) test true bits),
)
paint_closes test p (b ∷ bits) (suc k) = search (paint_closes test (suc p) bits k, painted_hole, sum_by-cons, arith) depth 6

-- a change of a chunk that only populates pages
pub record OnlyFills (change : Chunk → Chunk) : Type 0 where
  pub number : (h : Chunk) → (change h).number ≡ h.number
  pub fewer : (h : Chunk) → holes_in (change h).populated ≤ holes_in h.populated
  pub closes : (h : Chunk) (page : ℕ) → one_if (is_open (slice_get h.populated page)) + holes_in (change h).populated ≤ one_if (is_open (slice_get (change h).populated page)) + holes_in h.populated

object_fills : (k : ℕ) (at : ObjectAt) → OnlyFills (with_object k at)
object_fills k at = record { number = λ h. refl; fewer = λ h. omega arith; closes = λ h page. omega arith }

free_fills : (at : ObjectAt) → OnlyFills (without_object at)
free_fills at = record { number = λ h. refl; fewer = λ h. omega arith; closes = λ h page. omega arith }

live_fills : (at : ObjectAt) (serial : ℕ) → OnlyFills (with_live_object at (Lives serial))
live_fills at serial = record { number = λ h. refl; fewer = λ h. paint_fewer _ 0 h.populated; closes = λ h page. paint_closes _ 0 h.populated page }

page_fills : (page : ℕ) → OnlyFills (with_page page)
page_fills page = record { number = λ h. refl; fewer = λ h. paint_fewer _ 0 h.populated; closes = λ h other. paint_closes _ 0 h.populated other }

-- Lists of chunks.

module _ (c : Setup) (number page : ℕ) where
  lower_same : (chunks : List Chunk) → IsLower c number page 0 chunks chunks
  lower_same chunks = record { less = omega arith; closes = omega arith }

  lower_cons : (h h' : Chunk) (xs ys : List Chunk) → worth c h' ≤ worth c h → 3 * open_in number page h + worth c h' ≤ 3 * open_in number page h' + worth c h
      → IsLower c number page 0 xs ys → IsLower c number page 0 (h ∷ xs) (h' ∷ ys)
  lower_cons h h' xs ys a b more = search (sum_by-cons, arith) depth 6

  lower_drop : (h : Chunk) (xs ys : List Chunk) → IsLower c number page 0 xs ys → IsLower c number page 0 (h ∷ xs) ys
  lower_drop h xs ys more = search (sum_by-cons, one_if_le, arith) depth 6

  pub lower_change : (own : ℕ) (change : Chunk → Chunk) → OnlyFills change → (chunks : List Chunk) → IsLower c number page 0 chunks (change_chunk own change chunks)
  lower_change own change fills [] = lower_same []
  lower_change own change fills (h ∷ chunks) = grind (arith, lower_change own change fills chunks, lower_cons, nat_tests)

  lower_if : (p : Chunk → Bool) (b : Bool) (h : Chunk) (xs ys : List Chunk) → IsLower c number page 0 xs ys → IsLower c number page 0 (h ∷ xs) (cond b (h ∷ ys) ys)
  lower_if p b h xs ys more = grind (arith, lower_cons, lower_drop)

  lower_filter : (p : Chunk → Bool) (chunks : List Chunk) → IsLower c number page 0 chunks (filter p chunks)
  lower_filter p [] = lower_same []
  lower_filter p (h ∷ chunks) = lower_if p (p h) h chunks _ (lower_filter p chunks)

  empty_holes : (n : ℕ) → holes_in (replicate n false) ≡ n
  empty_holes zero = refl
  empty_holes (suc n) = omega (arith, sum_by-cons (λ b. one_if (not b)) false (replicate n false), empty_holes n)

  lower_new : (chunk base : ℕ) (chunks : List Chunk) → IsLower c number page (15 + cpus c + 3 * c.unit_pages) chunks (chunks ++ new_chunk c chunk base ∷ [])
  lower_new chunk base chunks = grind (arith, sum_by-append, empty_holes)

  pub lower_section : (m : PlainMap) (k : ℕ) (s : Section) → IsLower c number page (added c s) m.chunks (effect_as c m k s).chunks
  lower_section m k s = grind (arith, lower_new, lower_change, object_fills, live_fills, free_fills, lower_filter, page_fills, lower_same, nat_tests)

-- A new chunk has room for each object, and the page that a balance fills is unpopulated.

-- bits of which none is taken
none_taken : (n first k : ℕ) → k ≤ n → begins_free k (map (covers []) (count_from n first)) ≡ true
none_taken n first zero h = refl
none_taken zero first (suc k) h = absurd (omega arith)
none_taken (suc n) first (suc k) h = none_taken n (suc first) k (omega arith)

lowest_zero : (n k align : ℕ) → k ≤ n → 0 < n → lowest (map (covers []) (count_from n 0)) k align ≡ Some 0
lowest_zero n k align h p = grind (arith, the_lowest_fits, none_taken)

new_fit : (c : Setup) (number base bytes align : ℕ) → 8 ≤ c.unit_pages → bytes ≤ 32768 → plain_fit c bytes align (new_chunk c number base) ≡ Some 0
new_fit c number base bytes align u b = ap (option_map (λ bit. 4 * bit)) (lowest_zero (unit_bits c) (bytes / 4) (align / 4) (omega arith) (omega arith))

last_in : {X : Type 0} (xs : List X) (y : X) → slice_get (xs ++ y ∷ []) (length xs) ≡ Some y
last_in [] y = refl
last_in (x ∷ xs) y = last_in xs y

placed_some : (fit : Chunk → Option ℕ) (bytes : ℕ) (h : Chunk) (o : Option ℕ) → fit h ≡ o → is_some o ≡ true → (p : ObjectAt × List ℕ) × (placed_at fit bytes h ≡ Some p)
placed_some fit bytes h None e s = cc
placed_some fit bytes h (Some off) e s = (placed_in bytes h off, ap (option_map (placed_in bytes h)) e)

-- where some chunk has a fit there is a placement
pub placement_some : (c : Setup) (fit : Chunk → Option ℕ) (bytes : ℕ) (chunks : List Chunk) (h : Chunk) (i off : ℕ) → slice_get chunks i ≡ Some h → fit h ≡ Some off
    → (p : ObjectAt × List ℕ) × (placement c fit bytes chunks ≡ Some p)
placement_some c fit bytes chunks h i off at fits_there =
    let kept = filter_in (λ (h : Chunk). is_some (fit h)) chunks h i at (ap is_some fits_there) in
    let least = least_some (slot c) (filter (λ h. is_some (fit h)) chunks) h kept in
    let is = least_in (slot c) (filter (λ h. is_some (fit h)) chunks) least.0 least.1 in
    let passes = (filter_has (λ (h : Chunk). is_some (fit h)) chunks is.place least.0 is.at).passes in
    let p = placed_some fit bytes least.0 (fit least.0) refl passes in
    (p.0, ap (option_and_then (placed_at fit bytes)) least.1 ∙ p.1)

pub new_chunk_has_room : (c : Setup) (number base bytes align : ℕ) (chunks : List Chunk) → 8 ≤ c.unit_pages → bytes ≤ 32768
    → (p : ObjectAt × List ℕ) × (placement c (plain_fit c bytes align) bytes (chunks ++ new_chunk c number base ∷ []) ≡ Some p)
new_chunk_has_room c number base bytes align chunks u b =
    placement_some c (plain_fit c bytes align) bytes (chunks ++ new_chunk c number base ∷ []) (new_chunk c number base) (length chunks) 0 (last_in chunks _) (new_fit c number base bytes align u b)

-- The page to fill.

-- a chunk of the list, and a page of it that isn't populated
pub record IsFillable (chunks : List Chunk) (h : Chunk) (page : ℕ) : Type 0 where
  pub there : IsIn h chunks
  pub unpopulated : slice_get h.populated page ≡ Some false

page_is : (h : Chunk) (o : Option ℕ) (p : Chunk × ℕ) → option_map (λ page. (h, page)) o ≡ Some p → (h ≡ p.0) × (o ≡ Some p.1)
page_is h o p e = grind (arith, nat_tests)

pub hole_is : (populated : List Bool) (page : ℕ) → page < length populated → not (slice_index_or populated page false) ≡ true → slice_get populated page ≡ Some false
hole_is populated page h e =
    let is = there populated page h in
    let value : slice_index_or populated page false ≡ is.0 = get_or_from_slice_get populated page is.0 false is.1 in
    hole_of is.0 (ap not (sym value) ∙ e) is.1
  where
    hole_of : (b : Bool) → not b ≡ true → slice_get populated page ≡ Some b → slice_get populated page ≡ Some false
    hole_of true f g = cc
    hole_of false f g = g

chunk_page : (c : Setup) (h : Chunk) (p : Chunk × ℕ) → length h.populated ≡ c.unit_pages → page_in c h ≡ Some p → (h ≡ p.0) × (slice_get h.populated p.1 ≡ Some false)
chunk_page c h p size e =
    let is = page_is h (slice_get (unpopulated_pages c h) 0) p e in
    let kept = filter_has (λ page. not (is_populated h page)) (count_from c.unit_pages 0) 0 p.1 is.1 in
    grind (arith, count_from-below, hole_is)

unless_full : (b : Bool) (o : Option (Chunk × ℕ)) (p : Chunk × ℕ) → (if b then None else o) ≡ Some p → o ≡ Some p
unless_full b o p e = grind arith

page_of : (c : Setup) (chunks : List Chunk) (o : Option Chunk) (p : Chunk × ℕ) → ((i : ℕ) (h : Chunk) → slice_get chunks i ≡ Some h → length h.populated ≡ c.unit_pages)
    → ((h : Chunk) → o ≡ Some h → IsIn h chunks) → option_and_then (page_in c) o ≡ Some p → IsFillable chunks p.0 p.1
page_of c chunks None p sized from e = cc
page_of c chunks (Some h) p sized from e =
    let at = from h refl in
    grind (arith, chunk_page)

pub page_fillable : (c : Setup) (chunks : List Chunk) (p : Chunk × ℕ) → ((i : ℕ) (h : Chunk) → slice_get chunks i ≡ Some h → length h.populated ≡ c.unit_pages)
    → page_to_fill c chunks ≡ Some p → IsFillable chunks p.0 p.1
page_fillable c chunks p sized e =
    page_of c chunks (least_by (slot c) (filter (λ h. not (length (unpopulated_pages c h) == 0)) chunks)) p sized
    (λ h is. let at = least_in (slot c) _ h is in (filter_has (λ h. not (length (unpopulated_pages c h) == 0)) chunks at.place h at.at).there)
    (unless_full (nat_le 4 (empty_count c chunks)) _ p e)

-- Each chunk tells of each page of its unit whether it is populated.

pub record AreSized (c : Setup) (chunks : List Chunk) : Type 0 where
  pub each : (i : ℕ) (h : Chunk) → slice_get chunks i ≡ Some h → length h.populated ≡ c.unit_pages

-- what stands at a place of a mapped list is the image of what stood there
pub mapped_at : {X Y : Type 0} (f : X → Y) (xs : List X) (i : ℕ) (y : Y) → slice_get (map f xs) i ≡ Some y → (x : X) × (slice_get xs i ≡ Some x) × (f x ≡ y)
mapped_at f xs i y h = grind (arith, slice_get-map, nat_tests)

module _ (c : Setup) where
  sized_change : (own : ℕ) (change : Chunk → Chunk) (chunks : List Chunk) → ((h : Chunk) → length (change h).populated ≡ length h.populated) → AreSized c chunks → AreSized c (change_chunk own change chunks)
  sized_change own change chunks same sized = grind (arith, mapped_at, nat_tests)

  sized_filter : (p : Chunk → Bool) (chunks : List Chunk) → AreSized c chunks → AreSized c (filter p chunks)
  sized_filter p chunks sized = record { each = λ i h at. let was = (filter_has p chunks i h at).there in sized.each was.place h was.at }

  sized_new : (chunk base : ℕ) (chunks : List Chunk) → AreSized c chunks → AreSized c (chunks ++ new_chunk c chunk base ∷ [])
  sized_new chunk base chunks sized = grind (arith, append_cases, length-replicate, nat_tests)

  pub sized_section : (m : PlainMap) (k : ℕ) (s : Section) → AreSized c m.chunks → AreSized c (effect_as c m k s).chunks
  sized_section m k s sized = grind (arith, sized_change, sized_new, length-paint_from, sized_filter, nat_tests)
