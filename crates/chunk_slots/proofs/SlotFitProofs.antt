-- No chunk below the slot of a size has room for it.
use Rattle.std.proofs.Common.{◌≡◌, ◌≢◌, ℕ, zero, suc, ◌-◌, ◌*◌, ◌/◌, ◌<◌, ◌≤◌, inl, inr, Bool, true, false, not, ◌||◌, ◌==◌, if◌then◌else◌, List, length, map, drop, ◌++◌, find, None, refl, ap, sym, ◌∙◌, subst, arith}
use Rattle.std.proofs.lemmas.Bool.{cases_Bool, cases_lt, cases_eq}
use Rattle.std.proofs.lemmas.Bool.Decides.{nat_tests}
use Rattle.vm_model.specs.declared.areas.Span.{Span}
use Rattle.vm_model.specs.Space.{span, count_from, is_free_at, is_open, longest, lowest, fits, begins_free, covers}
use Rattle.vm_model.specs.Bits.{digits_within, slot_for, slot_of}
use Rattle.vm_model.specs.Hints.{IsFreeSpan, IsLongestIn}
use Rattle.vm_model.proofs.LongestRun.{the_longest_run_is_longest, is_free_within}
use Rattle.vm_model.proofs.Search.{the_lowest_fits}
use Rattle.chunk_bitmaps.specs.ChunkMap.{taken_bits}
use Rattle.vm_model.proofs.Tabulated.{length-tabulated}
use Rattle.vm_model.proofs.FreePlaces.{are_free}
use Rattle.vm_model.proofs.Finds.{find_none}
use Rattle.chunk_bitmaps.proofs.FirstFits.{fits_not_free}
use Rattle.block_hints.proofs.Blocked.{covers-append, is_free-taken_by}
use Rattle.chunk_slots.specs.KeptChunks.{KeptRow, taken_for, unpopulated_in}
use Rattle.chunk_slots.specs.SlotFits.{NothingFitsBelowItsSlot}
use Rattle.vm_model.proofs.SlotByRun.{slot_all, slot_run}
use Rattle.chunk_slots.proofs.FreeBits.{length-taken}

-- More digits of more.

digits_step : (most n : ℕ) (b : Bool) → (n == 0) ≡ b → n ≢ 0 → (if b then 0 else suc (digits_within most (n / 2))) ≡ suc (digits_within most (n / 2))
digits_step most n true e some = absurd (some (let z : n ≡ 0 = grind (arith, nat_tests) in z))
digits_step most n false e some = refl

no_digits : (most n : ℕ) → n ≡ 0 → digits_within most n ≡ 0
no_digits zero n e = refl
no_digits (suc most) n e = let yes' : (n == 0) ≡ true = grind (arith, nat_tests) in ap (λ b. if b then 0 else suc (digits_within most (n / 2))) yes'

digits_grow : (most a b : ℕ) → a ≤ b → digits_within most a ≤ digits_within most b
digits_grow zero a b h = omega arith
digits_grow (suc most) a b h = elim (cases_eq a 0) [
  | inl none ↦ omega (arith, no_digits (suc most) a none)
  | inr some ↦
      let half = digits_grow most (a / 2) (b / 2) (omega arith) in
      omega (arith, half, digits_step most a (a == 0) refl some, digits_step most b (b == 0) refl (λ e. some (omega arith)))
]

pub slots_grow : (a b : ℕ) → a ≤ b → slot_for a ≤ slot_for b
slots_grow a b h = let more = digits_grow 32 a b h in omega arith

-- The slot is at least that of the longest run.

run_slot : (bits : List Bool) → 0 < (longest bits).pages → slot_for (4 * (longest bits).pages) ≤ slot_of bits
run_slot bits some = elim (cases_eq (longest bits).pages (length bits)) [
  | inl whole ↦ omega (arith, slot_all bits (λ e. omega arith) whole, slots_grow (4 * (longest bits).pages) (4 * length bits) (omega arith))
  | inr part ↦ omega (arith, slot_run bits (λ e. omega arith) part)
]

-- Where fewer bits are free, as many in a row are free in the others.

no_fit_at : (taken blocked : List Bool) (n k i : ℕ) → 1 ≤ n → length blocked ≡ length taken → ((place : ℕ) → is_free_at blocked place ≡ true → is_free_at taken place ≡ true) → (longest taken).pages < n → fits blocked n k i ≡ false
no_fit_at taken blocked n k i some long within short = elim (cases_Bool (begins_free n (drop i blocked))) [
  | inl free ↦
      let are = are_free blocked i n some free in
      let in_blocked = are.within in
      let span_free : IsFreeSpan taken (span i n) = λ place low high. within place (ap is_open (are.free place low high)) in
      let law : IsLongestIn taken 0 (length taken) (longest taken) = the_longest_run_is_longest taken in
      absurd (let most = (law.longest i n (omega arith) (omega arith) (omega arith) span_free).0 in omega arith)
  | inr taken' ↦ fits_not_free blocked n k i taken'
]

pub no_fit : (taken blocked : List Bool) (n k : ℕ) → 1 ≤ n → length blocked ≡ length taken → ((place : ℕ) → is_free_at blocked place ≡ true → is_free_at taken place ≡ true) → (longest taken).pages < n → lowest blocked n k ≡ None
no_fit taken blocked n k some long within short =
    the_lowest_fits blocked n k
    ∙ ap (λ m. find (fits blocked n k) (count_from m 0)) (let e : length blocked ≡ length blocked - 0 = omega arith in e)
    ∙ find_none (fits blocked n k) (length blocked) 0 (omega arith) (λ i low high. no_fit_at taken blocked n k i some long within short)

-- What is free for an atomic call is free.

either_false : (a b : Bool) → not (a || b) ≡ true → not a ≡ true
either_false true b h = h
either_false false b h = refl

in_list : (bits : List Bool) (place : ℕ) → is_free_at bits place ≡ true → place < length bits
in_list bits place h = is_free_within bits place h

free_for : (atomic : Bool) (row : KeptRow) (place : ℕ) → is_free_at (taken_for atomic row) place ≡ true → is_free_at (taken_bits row.bits) place ≡ true
free_for false row place h = h
free_for true row place h =
    let blocked : List Span = map (λ page. span (1024 * page) 1024) (unpopulated_in row) in
    let low : place < row.bits.bits = subst (λ n. place < n) (length-tabulated (covers (row.bits.objects ++ blocked)) row.bits.bits 0) (in_list (taken_for true row) place h) in
    is_free-taken_by row.bits.objects row.bits.bits place low
    ∙ either_false (covers row.bits.objects place) (covers blocked place)
    (ap not (sym (covers-append row.bits.objects blocked place)) ∙ sym (is_free-taken_by (row.bits.objects ++ blocked) row.bits.bits place low) ∙ h)

length_for : (atomic : Bool) (row : KeptRow) → length (taken_for atomic row) ≡ length (taken_bits row.bits)
length_for false row = refl
length_for true row = length-tabulated (covers (row.bits.objects ++ map (λ page. span (1024 * page) 1024) (unpopulated_in row))) row.bits.bits 0 ∙ sym (length-taken row.bits)

pub nothing_fits_below_its_slot : NothingFitsBelowItsSlot
nothing_fits_below_its_slot atomic row bits align some low =
    no_fit (taken_bits row.bits) (taken_for atomic row) bits align some (length_for atomic row) (free_for atomic row)
    (elim (cases_lt (longest (taken_bits row.bits)).pages bits) [
      | inl short ↦ short
      | inr long ↦ absurd (let above = run_slot (taken_bits row.bits) (omega arith) in let more = slots_grow (4 * bits) (4 * (longest (taken_bits row.bits)).pages) (omega arith) in omega arith)
    ])
