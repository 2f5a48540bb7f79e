-- Free bits, slots and empty pages of a chunk.
use Rattle.std.proofs.Common.{◌≡◌, ◌≢◌, ℕ, zero, suc, ◌+◌, ◌*◌, ◌/◌, ◌<◌, ◌≤◌, Bool, true, false, not, cond, if◌then◌else◌, ◌&&◌, ◌||◌, ◌==◌, List, [], ◌∷◌, ◌++◌, length, replicate, map, filter, drop, slice_get, get_or, find, None, Some, option_map, refl, ap, sym, ◌∙◌, arith}
use Rattle.std.proofs.lemmas.Bool.Decides.{nat_tests}
use Rattle.vm_model.specs.declared.areas.Span.{Span}
use Rattle.vm_model.specs.declared.areas.PageSet.{PageSet}
use Rattle.vm_model.specs.declared.rows.Hint.{Hint}
use Rattle.vm_model.specs.declared.rows.ChunkRow.{ChunkRow}
use Rattle.vm_model.specs.Space.{span, count_from, covers, paint, taken_by}
use Rattle.vm_model.specs.Bits.{leading_free, hint_of, block_bits}
use Rattle.vm_model.proofs.FreePlaces.{left_free}
use Rattle.chunk_bitmaps.specs.ChunkMap.{ChunkMap, taken_bits, object_bits_at, without_object_at}
use Rattle.std.proofs.lemmas.Nat.Bits.{bit_at-zero}
use Rattle.std.specs.Int.{bit_at}
use Rattle.vm_model.proofs.Tabulated.{length-tabulated, slice_get-tabulated, same_tabulated}
use Rattle.vm_model.proofs.Tabulated.{paint_from-tabulated, tabulated_same}
use Rattle.vm_model.proofs.Tabulated.{filter-same}
use Rattle.vm_model.specs.PageSets.{has_page}
use Rattle.block_hints.specs.Populated.{blocked_bits}
use Rattle.chunk_slots.specs.KeptChunks.{KeptRow, pages_as, has_populated, page_is_free, empty_in, populated_in, unpopulated_in, taken_for}
use Rattle.vm_model.specs.PageSets.{pages_in}

pub positive : (n : ℕ) → n ≢ 0 → 0 < n
positive zero h = absurd (h refl)
positive (suc n) h = omega arith

-- Empty pages.

pub differs : (a n : ℕ) → a ≢ n → (a == n) ≡ false
differs a n h = grind (arith, nat_tests)

pub equals : (a n : ℕ) → a ≡ n → (a == n) ≡ true
equals a n h = grind (arith, nat_tests)

pub left_is_free : (m : ChunkMap) (page : ℕ) (h : Hint) → h ≡ hint_of (block_bits (taken_bits m) page) → h.left ≡ 1024 → page_is_free m page ≡ true
left_is_free m page h e whole =
    let is : leading_free (block_bits (taken_bits m) page) ≡ 1024 = sym (ap (λ (g : Hint). g.left) e) ∙ whole in
    sym (left_free 1024 (drop (1024 * page) (taken_bits m))) ∙ equals (leading_free (block_bits (taken_bits m) page)) 1024 is

pub left_is_taken : (m : ChunkMap) (page : ℕ) (h : Hint) → h ≡ hint_of (block_bits (taken_bits m) page) → h.left ≢ 1024 → page_is_free m page ≡ false
left_is_taken m page h e part =
    let apart : leading_free (block_bits (taken_bits m) page) ≢ 1024 = λ is. part (ap (λ (g : Hint). g.left) e ∙ is) in
    sym (left_free 1024 (drop (1024 * page) (taken_bits m))) ∙ differs (leading_free (block_bits (taken_bits m) page)) 1024 apart

pub both_pass : (a b : Bool) → a ≡ true → b ≡ true → (a && b) ≡ true
both_pass a b e f = ap (λ c. c && b) e ∙ f

pub one_fails : (a b : Bool) → a ≡ false → (a && b) ≡ false
one_fails a b e = ap (λ c. c && b) e

pub other_fails : (a b : Bool) → b ≡ false → (a && b) ≡ false
other_fails true b e = e
other_fails false b e = refl

and_swap : (a b : Bool) → (a && b) ≡ (b && a)
and_swap true true = refl
and_swap true false = refl
and_swap false true = refl
and_swap false false = refl

twice_by : (f g : ℕ → Bool) (x : ℕ) (xs : List ℕ) (b : Bool) → filter f (filter g xs) ≡ filter (λ y. f y && g y) xs
    → filter f (cond b (x ∷ filter g xs) (filter g xs)) ≡ cond (f x && b) (x ∷ filter (λ y. f y && g y) xs) (filter (λ y. f y && g y) xs)
twice_by f g x xs true h = ap (λ ys. cond (f x) (x ∷ ys) ys) h ∙ ap (λ b. cond b (x ∷ filter (λ y. f y && g y) xs) (filter (λ y. f y && g y) xs)) (and_true (f x))
  where
    and_true : (a : Bool) → a ≡ (a && true)
    and_true true = refl
    and_true false = refl
twice_by f g x xs false h = h ∙ ap (λ b. cond b (x ∷ filter (λ y. f y && g y) xs) (filter (λ y. f y && g y) xs)) (and_false (f x))
  where
    and_false : (a : Bool) → false ≡ (a && false)
    and_false true = refl
    and_false false = refl

twice : (f g : ℕ → Bool) (xs : List ℕ) → filter f (filter g xs) ≡ filter (λ y. f y && g y) xs
twice f g [] = refl
twice f g (x ∷ xs) = twice_by f g x xs (g x) (twice f g xs)

-- whether a page of so many is populated, by the set
pub populated_by : (pages : ℕ) (set : PageSet) (number base : ℕ) (bits : ChunkMap) (page : ℕ) → page < pages
    → has_populated (record { number = number; base = base; populated = pages_as pages set; bits = bits }) page ≡ has_page set page
populated_by pages set number base bits page low = open_get (pages_as pages set) page (has_page set page) (slice_get-tabulated (has_page set) pages page low)
  where
    open_get : (xs : List Bool) (i : ℕ) (b : Bool) → slice_get xs i ≡ Some b → get_or xs i false ≡ b
    open_get [] i b h = cc
    open_get (x ∷ xs) zero b h = cc
    open_get (x ∷ xs) (suc i) b h = open_get xs i b h

-- the empty pages by the set
pub empty_by : (pages : ℕ) (set : PageSet) (number base : ℕ) (bits : ChunkMap)
    → empty_in (record { number = number; base = base; populated = pages_as pages set; bits = bits }) ≡ filter (λ page. page_is_free bits page && has_page set page) (count_from pages 0)
empty_by pages set number base bits =
    let row : KeptRow = record { number = number; base = base; populated = pages_as pages set; bits = bits } in
    ap (λ n. filter (page_is_free bits) (filter (has_populated row) (count_from n 0))) (length-tabulated (has_page set) pages 0)
    ∙ ap (filter (page_is_free bits)) (filter-same (has_populated row) (has_page set) pages 0 (λ page low high. populated_by pages set number base bits page (omega arith)))
    ∙ twice (page_is_free bits) (has_page set) (count_from pages 0)

pub length-taken : (m : ChunkMap) → length (taken_bits m) ≡ m.bits
length-taken m = length-tabulated (covers m.objects) m.bits 0

-- Populated pages.

-- all is told but the facts: the row that the fields of a chunk make
abbrev pub row_with : (pages number base : ℕ) → PageSet → ChunkMap → KeptRow
row_with pages number base set bits = record { number = number; base = base; populated = pages_as pages set; bits = bits }

pub empty_told : (pages number base : ℕ) (set : PageSet) (bits : ChunkMap) (empty : ℕ)
    → empty ≡ length (filter (λ page. page_is_free bits page && has_page set page) (count_from pages 0)) → empty ≡ length (empty_in (row_with pages number base set bits))
empty_told pages number base set bits empty e = e ∙ sym (ap length (empty_by pages set number base bits))

either : (a b c : Bool) → c ≡ (b || a) → (if a then true else b) ≡ c
either true true c e = sym e
either true false c e = sym e
either false true c e = sym e
either false false c e = sym e

pub painted_pages : (n : ℕ) (old more now : PageSet) → n ≤ 64 → ((page : ℕ) → page < 64 → has_page now page ≡ (has_page old page || has_page more page)) → pages_as n now ≡ paint (has_page more) true (pages_as n old)
painted_pages n old more now few h =
    sym
    (paint_from-tabulated (has_page more) true (has_page old) n 0
    ∙ same_tabulated (λ page. if has_page more page then true else has_page old page) (has_page now) n 0 (λ page low high. either (has_page more page) (has_page old page) (has_page now page) (h page (omega arith))))

none_here : (page : ℕ) → has_page (record { mask = 0 }) page ≡ false
none_here page = ap (λ n. n == 1) (bit_at-zero page)

-- nothing is missing where the pages that are missing are a set without a bit
pub none_more : (old more missing : PageSet) (page : ℕ) → missing.mask ≡ 0 → has_page missing page ≡ (has_page more page && not (has_page old page)) → has_page old page ≡ (has_page old page || has_page more page)
none_more old more missing page none is = by_cases (has_page old page) (has_page more page) (sym is ∙ ap (λ mask. bit_at mask page == 1) none ∙ none_here page)
  where
    by_cases : (a b : Bool) → (b && not a) ≡ false → a ≡ (a || b)
    by_cases true b h = refl
    by_cases false true h = cc
    by_cases false false h = refl

none_kept : (test : ℕ → Bool) (n first : ℕ) → filter (λ page. test page && has_page (record { mask = 0 }) page) (count_from n first) ≡ []
none_kept test zero first = refl
none_kept test (suc n) first =
    ap (λ b. cond b (first ∷ filter (λ page. test page && has_page (record { mask = 0 }) page) (count_from n (suc first))) (filter (λ page. test page && has_page (record { mask = 0 }) page) (count_from n (suc first))))
    (other_fails (test first) (has_page (record { mask = 0 }) first) (none_here first))
    ∙ none_kept test n (suc first)

pub nothing_empty : (pages number base : ℕ) (bits : ChunkMap) → 0 ≡ length (empty_in (row_with pages number base (record { mask = 0 }) bits))
nothing_empty pages number base bits = empty_told pages number base (record { mask = 0 }) bits 0 (sym (ap length (none_kept (page_is_free bits) pages 0)))

pub nothing_populated : (pages : ℕ) → pages_as pages (record { mask = 0 }) ≡ replicate pages false
nothing_populated pages = same_tabulated (has_page (record { mask = 0 })) (λ page. false) pages 0 (λ page low high. none_here page) ∙ tabulated_same pages 0

pub told_pages : (pages : ℕ) (set : PageSet) → pages_as (length (pages_as pages set)) set ≡ pages_as pages set
told_pages pages set = ap (λ n. pages_as n set) (length-tabulated (has_page set) pages 0)

-- the bits that an atomic call may not take
pub blocked_are : (pages number base : ℕ) (set : PageSet) (bits : ChunkMap) → bits.bits ≡ 1024 * pages → (atomic : Bool)
    → (if atomic then blocked_bits set bits else taken_bits bits) ≡ taken_for atomic (row_with pages number base set bits)
blocked_are pages number base set bits size false = refl
blocked_are pages number base set bits size true =
    let row : KeptRow = row_with pages number base set bits in
    let blocks : bits.bits / 1024 ≡ pages = omega arith in
    let missing : filter (λ page. not (has_page set page)) (count_from (bits.bits / 1024) 0) ≡ unpopulated_in row =
    ap (λ n. filter (λ page. not (has_page set page)) (count_from n 0)) blocks
    ∙ sym
    (ap (λ n. filter (λ page. not (has_populated row page)) (count_from n 0)) (length-tabulated (has_page set) pages 0)
    ∙ filter-same (λ page. not (has_populated row page)) (λ page. not (has_page set page)) pages 0 (λ page low high. ap not (populated_by pages set number base bits page (omega arith)))) in
    ap (λ ps. taken_by (bits.objects ++ map (λ page. span (1024 * page) 1024) ps) bits.bits) missing

-- An object that is not there is not freed.
not_there_by : (at : ℕ) (s : Span) (spans : List Span) (b : Bool) → (s.start == at) ≡ b → option_map (λ (t : Span). t.pages) (cond b (Some s) (find (λ (t : Span). t.start == at) spans)) ≡ None
    → (option_map (λ (t : Span). t.pages) (find (λ (t : Span). t.start == at) spans) ≡ None → filter (λ (t : Span). not (t.start == at)) spans ≡ spans)
    → filter (λ (t : Span). not (t.start == at)) (s ∷ spans) ≡ s ∷ spans
not_there_by at s spans true e none rest = cc
not_there_by at s spans false e none rest =
    ap (λ b. cond (not b) (s ∷ filter (λ (t : Span). not (t.start == at)) spans) (filter (λ (t : Span). not (t.start == at)) spans)) e ∙ ap (λ ts. s ∷ ts) (rest none)

not_there : (at : ℕ) (spans : List Span) → option_map (λ (t : Span). t.pages) (find (λ (t : Span). t.start == at) spans) ≡ None → filter (λ (t : Span). not (t.start == at)) spans ≡ spans
not_there at [] none = refl
not_there at (s ∷ spans) none =
    not_there_by at s spans (s.start == at) refl none (not_there at spans)

pub nothing_freed : (at : ℕ) (m : ChunkMap) → object_bits_at at m ≡ None → without_object_at at m ≡ m
nothing_freed at m none = let put : List Span → ChunkMap = λ objects. record { bits = m.bits; objects = objects } in ap put (not_there at m.objects none)

-- What is told of pages.

pub populated_told : (pages number base : ℕ) (set : PageSet) (bits : ChunkMap) → length (filter (has_page set) (count_from pages 0)) ≡ length (populated_in (row_with pages number base set bits))
populated_told pages number base set bits =
    let row : KeptRow = row_with pages number base set bits in
    ap length
    (sym
    (ap (λ n. filter (has_populated row) (count_from n 0)) (length-tabulated (has_page set) pages 0)
    ∙ filter-same (has_populated row) (has_page set) pages 0 (λ page low high. populated_by pages set number base bits page (omega arith))))

pub missing_told : (pages number base : ℕ) (set object now : PageSet) (bits : ChunkMap) (n first : ℕ) → first + n ≤ pages → pages_in object ≡ count_from n first
    → ((page : ℕ) → page < 64 → has_page now page ≡ (has_page object page && not (has_page set page)))
    → pages_in now ≡ filter (λ page. not (has_populated (row_with pages number base set bits) page)) (count_from n first)
unfolding pages_in
missing_told pages number base set object now bits n first within told h =
    let row : KeptRow = row_with pages number base set bits in
    filter-same (has_page now) (λ page. not (has_page set page) && has_page object page) 64 0 (λ page low high. h page (omega arith) ∙ and_swap (has_page object page) (not (has_page set page)))
    ∙ sym (twice (λ page. not (has_page set page)) (has_page object) (count_from 64 0))
    ∙ ap (filter (λ page. not (has_page set page))) told
    ∙ filter-same (λ page. not (has_page set page)) (λ page. not (has_populated row page)) n first (λ page low high. ap not (sym (populated_by pages set number base bits page (omega arith))))

pub same_row : (chunk base : ℕ) (slot slot' free free' populated populated' empty empty' start start' run run' : ℕ) → slot ≡ slot' → free ≡ free' → populated ≡ populated' → empty ≡ empty' → start ≡ start' → run ≡ run'
    → (let row : ChunkRow = record { chunk = chunk; base = base; slot = slot; free = 4 * free; populated = populated; empty = empty; run_start = start; run = run } in row)
    ≡ record { chunk = chunk; base = base; slot = slot'; free = 4 * free'; populated = populated'; empty = empty'; run_start = start'; run = run' }
same_row chunk base slot slot' free free' populated populated' empty empty' start start' run run' a b d e f g = cc
