-- A chunk of the value has the bits, the slot and the pages of its row.
use Rattle.std.proofs.Common.{◌≡◌, ◌≢◌, ℕ, suc, ◌+◌, ◌-◌, ◌*◌, ◌/◌, ◌%◌, ◌<◌, ◌≤◌, ◌⊎◌, inl, inr, Bool, true, false, not, ◌&&◌, ◌||◌, if◌then◌else◌, nat_le, nat_lt, ◌==◌, cond, List, [], ◌∷◌, ◌++◌, length, map, filter, find, sum_by, Option, Some, None, option_map, refl, ap, sym, ◌∙◌, arith}
use Rattle.std.specs.List.{list_any}
use Rattle.std.proofs.lemmas.Bool.{cases_Bool, cases_lt, cases_eq}
use Rattle.std.proofs.lemmas.Bool.Decides.{nat_tests}
use Rattle.vm_model.specs.declared.areas.Span.{Span}
use Rattle.vm_model.specs.declared.rows.ChunkRow.{ChunkRow}
use Rattle.vm_model.specs.Space.{span, holds, covers, count_from, taken_by, longest}
use Rattle.vm_model.specs.Bits.{slot_of, free_count}
use Rattle.vm_model.specs.PlainMap.{Chunk}
use Rattle.vm_model.specs.Chunks.{object_bits, bit_list, populated_pages, unpopulated_pages, atomic_bits, offset_fit, plain_fit, atomic_fit, slot, touches, empty_pages, empty_count}
use Rattle.vm_model.specs.Tables.{chunk_row}
use Rattle.chunk_bitmaps.specs.ChunkMap.{ChunkMap, taken_bits}
use Rattle.vm_model.proofs.Tabulated.{length-tabulated, slice_get-tabulated}
use Rattle.vm_model.proofs.FreePlaces.{free_test, taken_test}
use Rattle.vm_model.proofs.Tabulated.{filter-same}
use Rattle.chunk_slots.specs.declared.holders.Holder.{Holder}
use Rattle.chunk_slots.specs.KeptObjects.{object_by, objects_by}
use Rattle.chunk_slots.specs.KeptChunks.{KeptRow, populated_in, unpopulated_in, has_populated, taken_for, page_is_free, empty_in, slot_in, row_of}
use Rattle.std.proofs.lemmas.List.Sums.{sum_by-cons}
use Rattle.chunk_bitmaps.proofs.ObjectLists.{filter-both}
use Rattle.chunk_slots.specs.KeptChunkSides.{chunk_in, Each, IsKeptSpan, IsKeptRow}
use Rattle.chunk_slots.specs.ChunkRegion.{unit_of}
use Rattle.chunk_slots.specs.ChunksBySlot.{fit_in}
use Rattle.chunk_slots.proofs.PagesInRow.{among_pages}

same_span : (a b c d : ℕ) → a ≡ c → b ≡ d → span a b ≡ span c d
same_span a b c d e f = cc

pub spans_back : (holders : ℕ → Option Holder) (n : ℕ) (spans : List Span) → map object_bits (objects_by holders n spans) ≡ spans
spans_back holders n [] = refl
spans_back holders n (s ∷ spans) =
    ap (λ (t : Span). t ∷ map object_bits (objects_by holders n spans)) (same_span (4 * s.start / 4) (4 * s.pages / 4) s.start s.pages (omega arith) (omega arith))
    ∙ ap (λ ss. s ∷ ss) (spans_back holders n spans)

pub bits_in_view : (pages : ℕ) (holders : ℕ → Option Holder) (row : KeptRow) → row.bits.bits ≡ 1024 * pages → bit_list (unit_of pages) (chunk_in holders row) ≡ taken_bits row.bits
bits_in_view pages holders row bits =
    ap (λ (spans : List Span). taken_by spans (1024 * pages)) (spans_back holders row.number row.bits.objects)
    ∙ ap (taken_by row.bits.objects) (sym bits)

pub slot_in_view : (pages : ℕ) (holders : ℕ → Option Holder) (row : KeptRow) → row.bits.bits ≡ 1024 * pages → slot (unit_of pages) (chunk_in holders row) ≡ slot_in row
slot_in_view pages holders row bits = ap slot_of (bits_in_view pages holders row bits)

pub unpopulated_in_view : (pages : ℕ) (holders : ℕ → Option Holder) (row : KeptRow) → length row.populated ≡ pages → unpopulated_pages (unit_of pages) (chunk_in holders row) ≡ unpopulated_in row
unpopulated_in_view pages holders row long = ap (λ n. filter (λ page. not (has_populated row page)) (count_from n 0)) (sym long)

pub populated_in_view : (pages : ℕ) (holders : ℕ → Option Holder) (row : KeptRow) → length row.populated ≡ pages → populated_pages (unit_of pages) (chunk_in holders row) ≡ populated_in row
populated_in_view pages holders row long = ap (λ n. filter (has_populated row) (count_from n 0)) (sym long)

abbrev with_pages_of : List Span → List ℕ → ℕ → List Bool
with_pages_of spans pages n = taken_by (spans ++ map (λ page. span (1024 * page) 1024) pages) n

atomic_in_view : (pages : ℕ) (holders : ℕ → Option Holder) (row : KeptRow) → row.bits.bits ≡ 1024 * pages → length row.populated ≡ pages → atomic_bits (unit_of pages) (chunk_in holders row) ≡ taken_for true row
atomic_in_view pages holders row bits long =
    ap (λ (spans : List Span). with_pages_of spans (unpopulated_pages (unit_of pages) (chunk_in holders row)) (1024 * pages)) (spans_back holders row.number row.bits.objects)
    ∙ ap (λ (ps : List ℕ). with_pages_of row.bits.objects ps (1024 * pages)) (unpopulated_in_view pages holders row long)
    ∙ ap (with_pages_of row.bits.objects (unpopulated_in row)) (sym bits)

-- the fit of either kind of call
pub fit_for : (atomic : Bool) (pages bytes align : ℕ) → Chunk → Option ℕ
fit_for atomic pages bytes align = if atomic then atomic_fit (unit_of pages) bytes align else plain_fit (unit_of pages) bytes align

pub fit_in_view : (atomic : Bool) (pages bytes align : ℕ) (holders : ℕ → Option Holder) (row : KeptRow) → row.bits.bits ≡ 1024 * pages → length row.populated ≡ pages
    → (if atomic then atomic_fit (unit_of pages) bytes align else plain_fit (unit_of pages) bytes align) (chunk_in holders row) ≡ option_map (λ bit. 4 * bit) (fit_in atomic (bytes / 4) (align / 4) row)
fit_in_view true pages bytes align holders row bits long = ap (offset_fit bytes align) (atomic_in_view pages holders row bits long)
fit_in_view false pages bytes align holders row bits long = ap (offset_fit bytes align) (bits_in_view pages holders row bits)

-- A page is free where no object has a byte in it.

abbrev inside : ℕ → ℕ → ℕ → Bool
inside first end page = nat_le first page && nat_lt page end

touches_is : (holders : ℕ → Option Holder) (n page : ℕ) (s : Span) → touches page (object_by holders n s) ≡ inside (4 * s.start / 4096) (4 * s.start / 4096 + (suc ((4 * s.start + 4 * s.pages - 1) / 4096) - 4 * s.start / 4096)) page
touches_is holders n page s = among_pages (suc ((4 * s.start + 4 * s.pages - 1) / 4096) - 4 * s.start / 4096) (4 * s.start / 4096) page

abbrev IsLong : Span → Type 0
IsLong s = 1 ≤ s.pages

-- a place of the page that an object of the list has
abbrev Covered : List Span → ℕ → Type 0
Covered spans page = (place : ℕ) × (1024 * page ≤ place) × (place < 1024 * page + 1024) × (covers spans place ≡ true)

inside_true : (first end page : ℕ) → inside first end page ≡ true → (first ≤ page) × (page < end)
inside_true first end page e = (grind (arith, nat_tests), grind (arith, nat_tests))

inside_false : (first end page : ℕ) → inside first end page ≡ false → (page < first) ⊎ (end ≤ page)
inside_false first end page e = elim (cases_lt page first) [
  | inl low ↦ inl low
  | inr within ↦ inr (grind (arith, nat_tests))
]

pub held_at : (s : Span) (place : ℕ) → s.start ≤ place → place < s.start + s.pages → holds s place ≡ true
held_at s place low high = grind (arith, nat_tests)

not_held : (s : Span) (place : ℕ) → (place < s.start) ⊎ (s.start + s.pages ≤ place) → holds s place ≡ false
not_held s place (inl low) = grind (arith, nat_tests)
not_held s place (inr high) = grind (arith, nat_tests)

pub or_left : (a b : Bool) → a ≡ true → (a || b) ≡ true
or_left a b e = ap (λ x. x || b) e

or_right : (a b : Bool) → b ≡ true → (a || b) ≡ true
or_right true b e = refl
or_right false b e = e

or_none : (a b : Bool) → (a || b) ≡ false → (a ≡ false) × (b ≡ false)
or_none true b e = absurd (cc)
or_none false b e = (refl, e)

span_covers : (s : Span) (spans : List Span) (page first last : ℕ) → IsLong s → first ≡ 4 * s.start / 4096 → last ≡ (4 * s.start + 4 * s.pages - 1) / 4096 → first ≤ page → page < first + (suc last - first) → Covered (s ∷ spans) page
span_covers s spans page first last long is_first is_last low high = elim (cases_lt s.start (1024 * page)) [
  | inl less ↦ (1024 * page, omega arith, omega arith, or_left (holds s (1024 * page)) (covers spans (1024 * page)) (held_at s (1024 * page) (omega arith) (omega arith)))
  | inr le ↦ (s.start, le, omega arith, or_left (holds s s.start) (covers spans s.start) (held_at s s.start (omega arith) (omega arith)))
]

pub some_touches : (holders : ℕ → Option Holder) (n page : ℕ) (spans : List Span) → Each IsLong spans → list_any (touches page) (objects_by holders n spans) ≡ true → Covered spans page
some_touches holders n page [] long some = absurd (cc)
some_touches holders n page (s ∷ spans) long some = elim (cases_Bool (touches page (object_by holders n s))) [
  | inl here ↦
      let first : ℕ = 4 * s.start / 4096 in let last : ℕ = (4 * s.start + 4 * s.pages - 1) / 4096 in
      let in_it = inside_true first (first + (suc last - first)) page (sym (touches_is holders n page s) ∙ here) in
      span_covers s spans page first last long.0 refl refl in_it.0 in_it.1
  | inr not_here ↦
      let later = some_touches holders n page spans long.1 (sym (ap (λ b. b || list_any (touches page) (objects_by holders n spans)) not_here) ∙ some) in
      (later.0, later.1, later.2, or_right (holds s later.0) (covers spans later.0) later.3)
]

pub none_touches : (holders : ℕ → Option Holder) (n page : ℕ) (spans : List Span) → Each IsLong spans → list_any (touches page) (objects_by holders n spans) ≡ false
    → (place : ℕ) → 1024 * page ≤ place → place < 1024 * page + 1024 → covers spans place ≡ false
none_touches holders n page [] long none place low high = refl
none_touches holders n page (s ∷ spans) long none place low high =
    let first : ℕ = 4 * s.start / 4096 in let last : ℕ = (4 * s.start + 4 * s.pages - 1) / 4096 in
    let own = long.0 in
    let both = or_none (touches page (object_by holders n s)) (list_any (touches page) (objects_by holders n spans)) none in
    let out = inside_false first (first + (suc last - first)) page (sym (touches_is holders n page s) ∙ both.0) in
    ap (λ b. b || covers spans place) (not_held s place (apart first last refl refl own out))
    ∙ none_touches holders n page spans long.1 both.1 place low high
  where
    apart : (first last : ℕ) → first ≡ 4 * s.start / 4096 → last ≡ (4 * s.start + 4 * s.pages - 1) / 4096 → 1 ≤ s.pages → (page < first) ⊎ (first + (suc last - first) ≤ page) → (place < s.start) ⊎ (s.start + s.pages ≤ place)
    apart first last is_first is_last own (inl less) = inl (omega arith)
    apart first last is_first is_last own (inr more) = inr (omega arith)

pub free_page_in_view : (holders : ℕ → Option Holder) (n page : ℕ) (bits : ChunkMap) → Each IsLong bits.objects → 1024 * page + 1024 ≤ bits.bits
    → not (list_any (touches page) (objects_by holders n bits.objects)) ≡ page_is_free bits page
free_page_in_view holders n page bits long within = elim (cases_Bool (list_any (touches page) (objects_by holders n bits.objects))) [
  | inl some ↦
      let at = some_touches holders n page bits.objects long some in
      ap not some ∙ sym (taken_test (taken_bits bits) (1024 * page) 1024 at.0 at.1 at.2
      (slice_get-tabulated (covers bits.objects) bits.bits at.0 (let low = at.2 in omega arith) ∙ ap Some at.3))
  | inr none ↦ ap not none ∙ sym (free_test (taken_bits bits) (1024 * page) 1024 (record {
    within = omega (arith, length-tabulated (covers bits.objects) bits.bits 0);
    free = λ place low high. slice_get-tabulated (covers bits.objects) bits.bits place (omega arith) ∙ ap Some (none_touches holders n page bits.objects long none place low high);
  }))
]

-- The empty pages, and the row.

and_same : (a b c : Bool) → (a ≡ true → b ≡ c) → (a && b) ≡ (a && c)
and_same true b c h = h refl
and_same false b c h = refl

pub long_spans : (holders : ℕ → Option Holder) (n bits : ℕ) (spans : List Span) → Each (IsKeptSpan holders n bits) spans → Each IsLong spans
long_spans holders n bits [] kept = tt
long_spans holders n bits (s ∷ spans) kept = (kept.0.some, long_spans holders n bits spans kept.1)

pub empty_in_view : (pages next : ℕ) (holders : ℕ → Option Holder) (row : KeptRow) → IsKeptRow pages next holders row → empty_pages (unit_of pages) (chunk_in holders row) ≡ empty_in row
empty_in_view pages next holders row kept =
    let free : ℕ → Bool = λ page. not (list_any (touches page) (objects_by holders row.number row.bits.objects)) in
    let long = long_spans holders row.number (1024 * pages) row.bits.objects kept.spans_are in
    let size = kept.bits_are in let count = kept.pages_are in
    ap (filter free) (populated_in_view pages holders row kept.pages_are)
    ∙ sym (filter-both (has_populated row) free (count_from (length row.populated) 0))
    ∙ filter-same (λ page. has_populated row page && free page) (λ page. has_populated row page && page_is_free row.bits page) (length row.populated) 0
    (λ page low high. and_same (has_populated row page) (free page) (page_is_free row.bits page) (λ there. free_page_in_view holders row.number page row.bits long (omega arith)))
    ∙ filter-both (has_populated row) (page_is_free row.bits) (count_from (length row.populated) 0)

abbrev row_by : (chunk base : ℕ) → List Bool → (populated empty : ℕ) → ChunkRow
row_by chunk base bits populated empty = record {
  chunk = chunk;
  base = base;
  slot = slot_of bits;
  free = 4 * free_count bits;
  populated = populated;
  empty = empty;
  run_start = (longest bits).start;
  run = (longest bits).pages;
}

pub row_in_view : (pages next : ℕ) (holders : ℕ → Option Holder) (row : KeptRow) → IsKeptRow pages next holders row → chunk_row (unit_of pages) (chunk_in holders row) ≡ row_of row
row_in_view pages next holders row kept =
    ap (λ bits. row_by row.number row.base bits (length (populated_pages (unit_of pages) (chunk_in holders row))) (length (empty_pages (unit_of pages) (chunk_in holders row)))) (bits_in_view pages holders row kept.bits_are)
    ∙ ap (λ ps. row_by row.number row.base (taken_bits row.bits) (length ps) (length (empty_pages (unit_of pages) (chunk_in holders row)))) (populated_in_view pages holders row kept.pages_are)
    ∙ ap (λ ps. row_by row.number row.base (taken_bits row.bits) (length (populated_in row)) (length ps)) (empty_in_view pages next holders row kept)

pub empty_total : (pages next : ℕ) (holders : ℕ → Option Holder) (rows : List KeptRow) → Each (IsKeptRow pages next holders) rows → sum_by (λ row. length (empty_in row)) rows ≡ empty_count (unit_of pages) (map (chunk_in holders) rows)
empty_total pages next holders [] kept = refl
empty_total pages next holders (row ∷ rows) kept =
    let here = ap length (empty_in_view pages next holders row kept.0) in
    omega (arith, sum_by-cons (λ (r : KeptRow). length (empty_in r)) row rows, sum_by-cons (λ (h : Chunk). length (empty_pages (unit_of pages) h)) (chunk_in holders row) (map (chunk_in holders) rows), empty_total pages next holders rows kept.1)

-- The object at an offset, by its bits.

abbrev begins_at : ℕ → Span → Bool
begins_at at s = s.start == at

abbrev has_offset : ℕ → Span → Bool
has_offset off s = 4 * s.start == off

same_test : (off : ℕ) (s : Span) → off % 4 ≡ 0 → begins_at (off / 4) s ≡ has_offset off s
same_test off s words = elim (cases_eq s.start (off / 4)) [
  | inl same ↦
      let one : begins_at (off / 4) s ≡ true = grind (arith, nat_tests) in
      let other : has_offset off s ≡ true = let e : 4 * s.start ≡ off = omega arith in grind (arith, nat_tests) in one ∙ sym other
  | inr apart ↦
      let one : begins_at (off / 4) s ≡ false = grind (arith, nat_tests) in
      let other : has_offset off s ≡ false = let e : 4 * s.start ≢ off = (λ x. apart (omega arith)) in grind (arith, nat_tests) in one ∙ sym other
]

pub bytes_by_bits : (off : ℕ) (spans : List Span) → off % 4 ≡ 0
    → option_map (λ b. 4 * b) (option_map (λ (s : Span). s.pages) (find (begins_at (off / 4)) spans)) ≡ option_map (λ (s : Span). 4 * s.pages) (find (has_offset off) spans)
bytes_by_bits off [] words = refl
bytes_by_bits off (s ∷ spans) words =
    ap (λ b. option_map (λ b. 4 * b) (option_map (λ (t : Span). t.pages) (cond b (Some s) (find (begins_at (off / 4)) spans)))) (same_test off s words)
    ∙ by (has_offset off s) (bytes_by_bits off spans words)
  where
    by : (b : Bool) → option_map (λ n. 4 * n) (option_map (λ (t : Span). t.pages) (find (begins_at (off / 4)) spans)) ≡ option_map (λ (t : Span). 4 * t.pages) (find (has_offset off) spans)
        → option_map (λ n. 4 * n) (option_map (λ (t : Span). t.pages) (cond b (Some s) (find (begins_at (off / 4)) spans))) ≡ option_map (λ (t : Span). 4 * t.pages) (cond b (Some s) (find (has_offset off) spans))
    by true rest = refl
    by false rest = rest

pub no_odd_offset : (off : ℕ) (spans : List Span) → off % 4 ≢ 0 → find (has_offset off) spans ≡ None
no_odd_offset off [] odd = refl
no_odd_offset off (s ∷ spans) odd =
    let apart : has_offset off s ≡ false = let e : 4 * s.start ≢ off = (λ x. odd (omega arith)) in grind (arith, nat_tests) in
    ap (λ b. cond b (Some s) (find (has_offset off) spans)) apart ∙ no_odd_offset off spans odd
