-- The bits that an object in a set of pages may not take, block by block.
use Rattle.std.proofs.Common.{◌≡◌, ℕ, ◌+◌, ◌*◌, ◌/◌, ◌<◌, ◌≤◌, Bool, true, false, not, ◌||◌, List, [], ◌∷◌, ◌++◌, length, refl, ap, sym, ◌∙◌, arith}
use Rattle.std.proofs.lemmas.Bool.Decides.{nat_tests}
use Rattle.vm_model.specs.declared.areas.Span.{Span}
use Rattle.vm_model.specs.declared.areas.PageSet.{PageSet}
use Rattle.vm_model.specs.Space.{span, holds, covers, is_free_at, is_open, taken_by}
use Rattle.chunk_bitmaps.specs.ChunkMap.{ChunkMap, taken_bits}
use Rattle.vm_model.proofs.Tabulated.{slice_get-tabulated, length-tabulated}
use Rattle.chunk_bitmaps.proofs.ObjectLists.{covers-from, covers-to}
use Rattle.vm_model.specs.PageSets.{has_page}
use Rattle.block_hints.specs.Populated.{missing_bits, blocked_bits}
use Rattle.block_hints.proofs.LowestFit.{AreAlikeIn}

pub is_free-taken_by : (spans : List Span) (n place : ℕ) → place < n → is_free_at (taken_by spans n) place ≡ not (covers spans place)
is_free-taken_by spans n place h = ap is_open (slice_get-tabulated (covers spans) n place h)

or_assoc : (a b c : Bool) → ((a || b) || c) ≡ (a || (b || c))
or_assoc true b c = refl
or_assoc false b c = refl

pub covers-append : (xs ys : List Span) (place : ℕ) → covers (xs ++ ys) place ≡ (covers xs place || covers ys place)
covers-append [] ys place = refl
covers-append (x ∷ xs) ys place = ap (λ b. holds x place || b) (covers-append xs ys place) ∙ sym (or_assoc (holds x place) (covers xs place) (covers ys place))

or_nothing : (a b : Bool) → b ≡ false → (a || b) ≡ a
or_nothing true b e = refl
or_nothing false b e = e

or_there : (a b : Bool) → b ≡ true → (a || b) ≡ true
or_there true b e = refl
or_there false b e = e

abbrev page_span : ℕ → Span
page_span page = span (1024 * page) 1024

of_page : (page place : ℕ) → holds (page_span page) place ≡ true → (1024 * page ≤ place) × (place < 1024 * page + 1024)
of_page page place h = (grind (arith, nat_tests), grind (arith, nat_tests))

in_page : (page place : ℕ) → 1024 * page ≤ place → place < 1024 * page + 1024 → holds (page_span page) place ≡ true
in_page page place low high = grind (arith, nat_tests)

not_true : (b : Bool) → (b ≡ true → ⊥) → b ≡ false
not_true true h = absurd (h refl)
not_true false h = refl

not_both : (b : Bool) {A : Type 0} → not b ≡ true → b ≡ true → A
not_both true e f = cc
not_both false e f = cc

-- a page of the set misses nothing
there : (pages : PageSet) (bits page place : ℕ) → has_page pages page ≡ true → 1024 * page ≤ place → place < 1024 * page + 1024 → covers (missing_bits pages bits) place ≡ false
there pages bits page place h low high =
    not_true (covers (missing_bits pages bits) place) (λ e. (
    let over = covers-from page_span (λ page. not (has_page pages page)) (bits / 1024) 0 place e in
    let held = of_page over.place place over.held in
    let same : over.place ≡ page = omega (arith, held.0, held.1) in
    not_both (has_page pages page) (ap (λ q. not (has_page pages q)) (sym same) ∙ over.passes) h))

-- another page misses all its bits
missing : (pages : PageSet) (bits page place : ℕ) → has_page pages page ≡ false → 1024 * page + 1024 ≤ bits → 1024 * page ≤ place → place < 1024 * page + 1024 → covers (missing_bits pages bits) place ≡ true
missing pages bits page place h inside low high =
    covers-to page_span (λ page. not (has_page pages page)) (bits / 1024) 0 place page (ap not h) (omega arith) (omega arith) (in_page page place low high)

pub alike_page : (pages : PageSet) (m : ChunkMap) (page : ℕ) → has_page pages page ≡ true → 1024 * page + 1024 ≤ m.bits → AreAlikeIn (taken_bits m) (blocked_bits pages m) (1024 * page) (1024 * page + 1024)
alike_page pages m page h inside place low high =
    is_free-taken_by (m.objects ++ missing_bits pages m.bits) m.bits place (omega arith)
    ∙ ap not (covers-append m.objects (missing_bits pages m.bits) place ∙ or_nothing (covers m.objects place) _ (there pages m.bits page place h low high))
    ∙ sym (is_free-taken_by m.objects m.bits place (omega arith))

pub taken_page : (pages : PageSet) (m : ChunkMap) (page place : ℕ) → has_page pages page ≡ false → 1024 * page + 1024 ≤ m.bits → 1024 * page ≤ place → place < 1024 * page + 1024 → is_free_at (blocked_bits pages m) place ≡ false
taken_page pages m page place h inside low high =
    is_free-taken_by (m.objects ++ missing_bits pages m.bits) m.bits place (omega arith)
    ∙ ap not (covers-append m.objects (missing_bits pages m.bits) place ∙ or_there (covers m.objects place) _ (missing pages m.bits page place h inside low high))

pub length-blocked : (pages : PageSet) (m : ChunkMap) → length (blocked_bits pages m) ≡ m.bits
length-blocked pages m = length-tabulated (covers (m.objects ++ missing_bits pages m.bits)) m.bits 0

pub length-taken : (m : ChunkMap) → length (taken_bits m) ≡ m.bits
length-taken m = length-tabulated (covers m.objects) m.bits 0
