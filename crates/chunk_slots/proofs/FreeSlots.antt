-- The chunks in the free slot are those without an object.
use Rattle.std.proofs.Common.{◌≡◌, ℕ, ◌+◌, ◌*◌, ◌<◌, ◌≤◌, inl, inr, Bool, true, false, cond, if◌then◌else◌, ◌==◌, List, [], ◌∷◌, length, filter, Option, Some, refl, ap, sym, ◌∙◌, subst, arith}
use Rattle.std.proofs.lemmas.Bool.{cases_eq}
use Rattle.std.proofs.lemmas.Bool.Decides.{nat_tests}
use Rattle.vm_model.specs.declared.areas.Span.{Span}
use Rattle.vm_model.specs.Space.{covers, holds, is_free_at, is_open, longest}
use Rattle.vm_model.specs.Bits.{slot_for, slot_of, free_count}
use Rattle.vm_model.specs.PlainMap.{Chunk}
use Rattle.vm_model.specs.Chunks.{slot}
use Rattle.vm_model.proofs.LongestRun.{the_longest_run_is_longest}
use Rattle.vm_model.proofs.SlotByRun.{all_free, run_within, slot_none, slot_run}
use Rattle.vm_model.proofs.Tabulated.{slice_get-tabulated}
use Rattle.chunk_bitmaps.specs.ChunkMap.{ChunkMap, taken_bits}
use Rattle.chunk_slots.specs.declared.holders.Holder.{Holder}
use Rattle.chunk_slots.specs.KeptObjects.{objects_by}
use Rattle.chunk_slots.specs.KeptChunks.{KeptRow}
use Rattle.chunk_slots.specs.KeptChunkSides.{chunk_in, chunks_in, Each, IsKeptSpan, IsKeptRow}
use Rattle.chunk_slots.specs.ChunkRegion.{unit_of}
use Rattle.chunk_slots.proofs.FreeBits.{length-taken, equals, differs}
use Rattle.chunk_slots.proofs.SlotFitProofs.{slots_grow}
use Rattle.chunk_slots.proofs.ChunkViews.{held_at, or_left, slot_in_view}

all_free_slot : (bits : List Bool) → 0 < length bits → free_count bits ≡ length bits → slot_of bits ≡ slot_for (4 * length bits) + 2
all_free_slot bits some all =
    let none : (free_count bits == 0) ≡ false = grind (arith, nat_tests) in
    let whole : (free_count bits == length bits) ≡ true = grind (arith, nat_tests) in
    ap (λ b. if b then 0 else (if free_count bits == length bits then slot_for (4 * length bits) + 2 else slot_for (4 * (longest bits).pages))) none
    ∙ ap (λ b. if b then slot_for (4 * length bits) + 2 else slot_for (4 * (longest bits).pages)) whole

some_taken_slot : (bits : List Bool) (place : ℕ) → place < length bits → is_free_at bits place ≡ false → slot_of bits < slot_for (4 * length bits) + 2
some_taken_slot bits place within taken = elim (cases_eq (longest bits).pages 0) [
  | inl none ↦ omega (arith, slot_none bits none)
  | inr some ↦ elim (cases_eq (longest bits).pages (length bits)) [
    | inl whole ↦
        let is = the_longest_run_is_longest bits in let end = is.within in
        absurd (let clash : false ≡ true = sym taken ∙ is.free place (omega arith) (omega arith) in cc)
    | inr part ↦ let few = run_within bits in omega (arith, slot_run bits some part, slots_grow (4 * (longest bits).pages) (4 * length bits) (omega arith))
  ]
]

no_object_slot : (m : ChunkMap) → 0 < m.bits → m.objects ≡ [] → slot_of (taken_bits m) ≡ slot_for (4 * m.bits) + 2
no_object_slot m some none =
    let long : length (taken_bits m) ≡ m.bits = length-taken m in
    let free : (place : ℕ) → place < length (taken_bits m) → is_free_at (taken_bits m) place ≡ true =
    λ place low. ap is_open (slice_get-tabulated (covers m.objects) m.bits place (omega arith) ∙ ap (λ (ss : List Span). Some (covers ss place)) none) in
    all_free_slot (taken_bits m) (omega arith) (all_free (taken_bits m) free) ∙ ap (λ n. slot_for (4 * n) + 2) long

some_object_slot : (m : ChunkMap) (s : Span) (rest : List Span) → m.objects ≡ s ∷ rest → 1 ≤ s.pages → s.start + s.pages ≤ m.bits → slot_of (taken_bits m) < slot_for (4 * m.bits) + 2
some_object_slot m s rest are some within =
    let long : length (taken_bits m) ≡ m.bits = length-taken m in
    let taken : is_free_at (taken_bits m) s.start ≡ false =
    ap is_open
    (slice_get-tabulated (covers m.objects) m.bits s.start (omega arith) ∙ ap (λ (ss : List Span). Some (covers ss s.start)) are
    ∙ ap Some (or_left (holds s s.start) (covers rest s.start) (held_at s s.start (omega arith) (omega arith)))) in
    subst (λ n. slot_of (taken_bits m) < slot_for (4 * n) + 2) long (some_taken_slot (taken_bits m) s.start (omega arith) taken)

-- a chunk is in the free slot exactly where it has no object
free_test : (pages next : ℕ) (h : ℕ → Option Holder) (row : KeptRow) → 8 ≤ pages → IsKeptRow pages next h row
    → (slot (unit_of pages) (chunk_in h row) == slot_for (4096 * pages) + 2) ≡ (length (objects_by h row.number row.bits.objects) == 0)
free_test pages next h row least kept = by row.bits.objects refl
  where
    size : row.bits.bits ≡ 1024 * pages
    size = kept.bits_are

    at_most : slot_for (4 * row.bits.bits) ≡ slot_for (4096 * pages)
    at_most = ap slot_for (let e : 4 * row.bits.bits ≡ 4096 * pages = omega (arith, size) in e)

    is_slot : slot (unit_of pages) (chunk_in h row) ≡ slot_of (taken_bits row.bits)
    is_slot = slot_in_view pages h row size

    below : (a b n : ℕ) → a < b + 2 → b ≡ n → a ≡ n + 2 → ⊥
    below a b n low e same = absurd (omega arith)

    by : (spans : List Span) → row.bits.objects ≡ spans → (slot (unit_of pages) (chunk_in h row) == slot_for (4096 * pages) + 2) ≡ (length (objects_by h row.number row.bits.objects) == 0)
    by [] none =
        let free = no_object_slot row.bits (omega (arith, size)) none in
        equals (slot (unit_of pages) (chunk_in h row)) (slot_for (4096 * pages) + 2) (is_slot ∙ free ∙ ap (λ n. n + 2) at_most)
        ∙ sym (ap (λ (ss : List Span). length (objects_by h row.number ss) == 0) none)
    by (s ∷ rest) are =
        let span = (subst (Each (IsKeptSpan h row.number (1024 * pages))) are kept.spans_are).0 in
        let some = span.some in let within = span.within in
        let low = some_object_slot row.bits s rest are some (omega (arith, size)) in
        differs (slot (unit_of pages) (chunk_in h row)) (slot_for (4096 * pages) + 2) (λ same. absurd (below (slot_of (taken_bits row.bits)) (slot_for (4 * row.bits.bits)) (slot_for (4096 * pages)) low at_most (sym is_slot ∙ same)))
        ∙ sym (ap (λ (ss : List Span). length (objects_by h row.number ss) == 0) are ∙ differs (length (objects_by h row.number (s ∷ rest))) 0 (λ e. absurd (omega (arith, e))))

pub free_in_view : (pages next : ℕ) (h : ℕ → Option Holder) (rows : List KeptRow) → 8 ≤ pages → Each (IsKeptRow pages next h) rows
    → filter (λ c. slot (unit_of pages) c == slot_for (4096 * pages) + 2) (chunks_in h rows) ≡ filter (λ (c : Chunk). length c.objects == 0) (chunks_in h rows)
free_in_view pages next h [] least kept = refl
free_in_view pages next h (row ∷ rows) least kept =
    let in_slot : List Chunk = filter (λ c. slot (unit_of pages) c == slot_for (4096 * pages) + 2) (chunks_in h rows) in
    ap (λ b. cond b (chunk_in h row ∷ in_slot) in_slot) (free_test pages next h row least kept.0)
    ∙ ap (λ cs. cond (length (objects_by h row.number row.bits.objects) == 0) (chunk_in h row ∷ cs) cs) (free_in_view pages next h rows least kept.1)
