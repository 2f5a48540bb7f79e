-- The hints that are kept, before and after an object is put in or taken out.
use Rattle.std.proofs.Common.{◌≡◌, ℕ, zero, suc, ◌+◌, ◌-◌, ◌*◌, ◌/◌, ◌<◌, ◌≤◌, inl, inr, Bool, true, false, not, ◌||◌, ◌==◌, if◌then◌else◌, List, [], ◌∷◌, ◌++◌, length, map, filter, take, drop, replicate, slice_get, Option, Some, None, option_map, refl, ap, sym, ◌∙◌, subst, arith}
use Rattle.std.proofs.lemmas.Bool.Decides.{nat_tests}
use Rattle.std.proofs.lemmas.Nat.Bits.{bit_at_ones}
use Rattle.std.specs.Int.{bit_at}
use Rattle.vm_model.specs.declared.areas.Span.{Span}
use Rattle.vm_model.specs.declared.areas.PageSet.{PageSet}
use Rattle.vm_model.specs.declared.rows.Hint.{Hint}
use Rattle.vm_model.specs.Space.{span, holds, covers, paint, count_from, is_free_at, is_open, begins_free, fits, lowest, taken_by}
use Rattle.vm_model.specs.Bits.{hint_of, block_bits}
use Rattle.vm_model.specs.Hints.{IsHintIn}
use Rattle.vm_model.proofs.Paint.{slice_get-paint}
use Rattle.vm_model.proofs.PaintRuns.{lowest_is_free}
use Rattle.vm_model.proofs.Scans.{free_read}
use Rattle.vm_model.proofs.HintProofs.{the_hint_is_the_only_one}
use Rattle.chunk_bitmaps.specs.ChunkMap.{ChunkMap, empty_chunk, taken_bits}
use Rattle.vm_model.proofs.FreePlaces.{free_test}
use Rattle.chunk_bitmaps.proofs.FirstFits.{before_all}
use Rattle.block_hints.specs.declared.block_scan.Block.{Block}
use Rattle.block_hints.specs.KeptHints.{AreKept, AreHints, AreOthersKept, IsApart, IsBlockIn}
use Rattle.vm_model.specs.PageSets.{has_page}
use Rattle.block_hints.specs.Populated.{missing_bits, blocked_bits}
use Rattle.block_hints.proofs.Blocked.{is_free-taken_by, covers-append, length-blocked, length-taken}
use Rattle.block_hints.proofs.LowestFit.{AreAlikeIn, block_alike, get_free, free_of_fits, fits_taken, lowest_none, IsSearched}

-- Bits that were set or cleared leave the others.

pub unpainted : (b : Bool) (x : Bool) (o : Option Bool) → b ≡ false → option_map (λ y. if b then x else y) o ≡ o
unpainted true x o e = cc
unpainted false x None e = refl
unpainted false x (Some y) e = refl

apart_test : (at count low high place : ℕ) → IsApart at count low high → low ≤ place → place < high → holds (span at count) place ≡ false
apart_test at count low high place (inl h) a b = grind (arith, nat_tests)
apart_test at count low high place (inr h) a b = grind (arith, nat_tests)

pub alike_apart : (bits now : List Bool) (at count low high : ℕ) (x : Bool) → now ≡ paint (holds (span at count)) x bits → IsApart at count low high → AreAlikeIn bits now low high
alike_apart bits now at count low high x is apart place a b =
    ap (λ bs. is_free_at bs place) is ∙ ap is_open (slice_get-paint (holds (span at count)) x bits place ∙ unpainted (holds (span at count) place) x (slice_get bits place) (apart_test at count low high place apart a b))

pub others_kept : (bits now : List Bool) (blocks : List Block) (at count : ℕ) (x : Bool) → now ≡ paint (holds (span at count)) x bits → AreHints bits blocks → AreOthersKept now blocks at count
others_kept bits now blocks at count x is are block h e apart =
    block_alike bits now (1024 * block) (1024 * block + 1024) h (alike_apart bits now at count (1024 * block) (1024 * block + 1024) x is apart) (are block h e)

-- The fit that a search gives is free.

or_left_free : (a b : Bool) → not (a || b) ≡ true → not a ≡ true
or_left_free true b e = cc
or_left_free false b e = refl

pub free_of_blocked : (pages : PageSet) (m : ChunkMap) (place : ℕ) → place < m.bits → is_free_at (blocked_bits pages m) place ≡ true → is_free_at (taken_bits m) place ≡ true
free_of_blocked pages m place h e =
    is_free-taken_by m.objects m.bits place h
    ∙ or_left_free (covers m.objects place) (covers (missing_bits pages m.bits) place)
    (ap not (sym (covers-append m.objects (missing_bits pages m.bits) place)) ∙ sym (is_free-taken_by (m.objects ++ missing_bits pages m.bits) m.bits place h) ∙ e)

not_true : (b : Bool) → (b ≡ true → ⊥) → b ≡ false
not_true true h = absurd (h refl)
not_true false h = refl

-- a place before the first free bit may not be taken
pub blocked_before_first : (pages : PageSet) (m : ChunkMap) (chunk : Hint) (place : ℕ) → IsHintIn (taken_bits m) 0 m.bits chunk → place < chunk.first → is_free_at (blocked_bits pages m) place ≡ false
blocked_before_first pages m chunk place is below =
    let within = is.first_within in
    not_true (is_free_at (blocked_bits pages m) place) (λ free. let yes = free_of_blocked pages m place (omega arith) free in let no = is.first_taken place (omega arith) (omega arith) in cc)

-- nothing before a place is free
pub searched_from : (bits : List Bool) (n k low : ℕ) → 1 ≤ n → ((place : ℕ) → place < low → is_free_at bits place ≡ false) → IsSearched bits n k low low
searched_from bits n k low some taken = record {
  order = omega arith;
  free = λ place a b. absurd (omega arith);
  before = λ start below. fits_taken bits n k start start some (omega arith) (omega arith) (taken start below);
  inside = λ start within. fits_taken bits n k start start some (omega arith) (omega arith) (taken start (omega arith));
}

pub fit_is_free : (pages : PageSet) (m : ChunkMap) (n k at : ℕ) → Some at ≡ lowest (blocked_bits pages m) n k → (at + n ≤ m.bits) × (begins_free n (drop at (taken_bits m)) ≡ true)
fit_is_free pages m n k at h =
    let are = lowest_is_free (blocked_bits pages m) n k at (sym h) in
    let within = are.within in
    let inside : at + n ≤ m.bits = omega (arith, length-blocked pages m) in (
      inside,
      free_test (taken_bits m) at n (record {
        within = omega (arith, length-taken m);
        free = λ place a b. get_free (taken_bits m) place (free_of_blocked pages m place (omega arith) (free_read (blocked_bits pages m) place (are.free place a b)));
      }),
    )

-- nothing fits that is longer than the longest run
pub longer_than_all : (pages : PageSet) (m : ChunkMap) (chunk : Hint) (n k : ℕ) → 1 ≤ n → IsHintIn (taken_bits m) 0 m.bits chunk → chunk.run < n → None ≡ lowest (blocked_bits pages m) n k
longer_than_all pages m chunk n k some is more =
    lowest_none (blocked_bits pages m) n k some (λ start h. not_true (fits (blocked_bits pages m) n k start) (λ e. (
    let are = (free_of_fits (blocked_bits pages m) n k start some e).1 in
    let inside : start + n ≤ m.bits = omega (arith, length-blocked pages m) in
    let most = (is.run.longest start n (omega arith) inside some (λ place a b. free_of_blocked pages m place (omega arith) (are place a b))).0 in
    absurd (omega arith))))

-- In all pages nothing more is blocked.

filter-nothing : (test : ℕ → Bool) (n first : ℕ) → ((page : ℕ) → first ≤ page → page < first + n → test page ≡ false) → filter test (count_from n first) ≡ []
filter-nothing test zero first h = refl
filter-nothing test (suc n) first h =
    let e = h first (omega arith) (omega arith) in
    skip (test first) (first) (filter test (count_from n (suc first))) e (filter-nothing test n (suc first) (λ page a b. h page (omega arith) (omega arith)))
  where
    skip : (b : Bool) (x : ℕ) (xs : List ℕ) → b ≡ false → xs ≡ [] → (if b then x ∷ xs else xs) ≡ []
    skip true x xs e f = cc
    skip false x xs e f = f

append-nothing : (xs : List Span) → xs ++ [] ≡ xs
append-nothing [] = refl
append-nothing (x ∷ xs) = ap (λ ys. x ∷ ys) (append-nothing xs)

pub all_pages : (m : ChunkMap) → m.bits ≤ 65536 → blocked_bits (record { mask = 18446744073709551615 }) m ≡ taken_bits m
all_pages m h =
    let every : PageSet = record { mask = 18446744073709551615 } in
    let nothing : missing_bits every m.bits ≡ [] = ap (map (λ page. span (1024 * page) 1024)) (filter-nothing (λ page. not (has_page every page)) (m.bits / 1024) 0 (λ page a b.
    let one : bit_at 18446744073709551615 page ≡ 1 = bit_at_ones 64 page (omega arith) in ap (λ n. not (n == 1)) one)) in
    ap (λ spans. taken_by spans m.bits) (ap (λ ys. m.objects ++ ys) nothing ∙ append-nothing m.objects)

-- What the hints tell.

pub block_hint : (bits : List Bool) (block : ℕ) (h : Hint) → 1024 * block + 1024 ≤ length bits → IsHintIn bits (1024 * block) (1024 * block + 1024) h → h ≡ hint_of (block_bits bits block)
block_hint bits block h inside is =
    the_hint_is_the_only_one bits (1024 * block) (1024 * block + 1024) h (omega arith) inside is
    ∙ ap (λ n. hint_of (take n (drop (1024 * block) bits))) (let e : 1024 * block + 1024 - 1024 * block ≡ 1024 = omega arith in e)

pub chunk_hint : (bits : List Bool) (n : ℕ) (h : Hint) → length bits ≡ n → IsHintIn bits 0 n h → h ≡ hint_of bits
chunk_hint bits n h long is =
    the_hint_is_the_only_one bits 0 n h (omega arith) (omega arith) is
    ∙ ap (λ m. hint_of (take m bits)) (let e : n - 0 ≡ length bits = omega arith in e) ∙ ap hint_of (before_all bits)

-- At first all bits are free.

abbrev free_hint : Hint
free_hint = record { run_start = 0; run = 1024; left = 1024; right = 1024; first = 0 }

abbrev pub free_block : Block
free_block = record { hint = free_hint; before = 0; behind = 0 }

all_free_hint : (bits : List Bool) (low : ℕ) → ((place : ℕ) → low ≤ place → place < low + 1024 → is_free_at bits place ≡ true) → IsHintIn bits low (low + 1024) free_hint
all_free_hint bits low free = record {
  run = record {
    free = λ place a b. free place (omega arith) (omega arith);
    after = omega arith;
    within = omega arith;
    longest = λ start pages low_is inside some are. (omega arith, λ same. omega arith);
    none = λ e. absurd (omega arith);
  };
  left_within = omega arith;
  left_free = λ place a b. free place a b;
  left_end = λ l. absurd (omega arith);
  right_within = omega arith;
  right_free = λ place a b. free place (omega arith) (omega arith);
  right_end = λ l. absurd (omega arith);
  first_within = omega arith;
  first_taken = λ place a b. absurd (omega arith);
  first_free = λ l. free (low + 0) (omega arith) (omega arith);
}

replicated : (n block : ℕ) (h x : Block) → slice_get (replicate n x) block ≡ Some h → (x ≡ h) × (block < n)
replicated zero block h x e = cc
replicated (suc n) zero h x e = ((let f : x ≡ h = cc in f), omega arith)
replicated (suc n) (suc block) h x e = let r = replicated n block h x e in (r.0, omega (arith, r.1))

pub free_hints : (pages : ℕ) → AreHints (taken_bits (empty_chunk (1024 * pages))) (replicate pages free_block)
free_hints pages block h e =
    let r = replicated pages block h free_block e in
    let inside = r.1 in
    let bits = taken_bits (empty_chunk (1024 * pages)) in
    subst (IsBlockIn bits (1024 * block) (1024 * block + 1024)) r.0 (record {
      hint = all_free_hint bits (1024 * block) (λ place a b. is_free-taken_by [] (1024 * pages) place (omega arith));
      before = λ start pages after within some are. absurd (omega arith);
      behind = λ start pages after within some are. absurd (omega arith);
    })

-- A list that was lent as a slice.

append_none : (xs : List Block) → xs ++ [] ≡ xs
append_none [] = refl
append_none (x ∷ xs) = ap (λ ys. x ∷ ys) (append_none xs)

drop_all : (xs : List Block) (n : ℕ) → length xs ≤ n → drop n xs ≡ []
drop_all [] zero h = refl
drop_all [] (suc n) h = refl
drop_all (x ∷ xs) zero h = absurd (omega arith)
drop_all (x ∷ xs) (suc n) h = drop_all xs n (omega arith)

take_all : (xs : List Block) (n : ℕ) → length xs ≤ n → take n xs ≡ xs
take_all [] zero h = refl
take_all [] (suc n) h = refl
take_all (x ∷ xs) zero h = absurd (omega arith)
take_all (x ∷ xs) (suc n) h = ap (λ ys. x ∷ ys) (take_all xs n (omega arith))

pub written_back : (items now : List Block) (n : ℕ) → n ≡ length items → length now ≡ length items → take n (now ++ drop (length now) items) ≡ now
written_back items now n long same =
    ap (λ ys. take n (now ++ ys)) (drop_all items (length now) (omega arith)) ∙ ap (take n) (append_none now) ∙ take_all now n (omega arith)

-- the hints of the blocks and of all bits, after a change
pub kept_after : (m now : ChunkMap) (items after : List Block) (chunk : Hint) (n : ℕ) → n ≡ length items → now.bits ≡ m.bits → m.bits ≡ 1024 * length items → length items ≤ 64 → length after ≡ length items
    → AreHints (taken_bits now) after → IsHintIn (taken_bits now) 0 now.bits chunk → AreKept now (take n (after ++ drop (length after) items)) chunk
kept_after m now items after chunk n long bits size few same hints whole =
    subst (λ blocks. AreKept now blocks chunk) (sym (written_back items after n long same)) (record {
      size = omega arith;
      few = omega arith;
      hints = hints;
      whole = whole;
    })
