-- How many places are free from one on, and the lowest fit from a place on.
use Rattle.std.proofs.Common.{◌≡◌, ◌≢◌, ℕ, zero, suc, ◌+◌, ◌-◌, ◌*◌, ◌/◌, ◌%◌, ◌<◌, ◌≤◌, ◌⊎◌, inl, inr, Bool, true, false, ◌&&◌, ◌==◌, List, [], ◌∷◌, length, take, drop, slice_get, Some, None, refl, ap, sym, ◌∙◌, subst, arith}
use Rattle.std.proofs.lemmas.Bool.{cases_lt}
use Rattle.std.proofs.lemmas.Bool.Decides.{nat_tests}
use Rattle.std.proofs.Math.Nat.{mul-le-mul_left}
use Rattle.vm_model.specs.Space.{begins_free, fits}
use Rattle.vm_model.specs.Bits.{leading_free}
use Rattle.vm_model.proofs.Elements.{slice_get-drop}
use Rattle.vm_model.proofs.FreePlaces.{free_test, taken_test, short_test}
use Rattle.vm_model.proofs.Finds.{find_skip, find_at_end, find_none, find_here}
use Rattle.std.proofs.lemmas.List.{length-drop, length-take}
use Rattle.chunk_bitmaps.specs.Bitmap.{IsNextBit}
use Rattle.chunk_bitmaps.specs.ChunkMap.{first_fit}

-- How many places are free before the first taken one.

leading_free-get : (bits : List Bool) (n : ℕ) → n ≤ length bits → ((k : ℕ) → k < n → slice_get bits k ≡ Some false) → (n < length bits → slice_get bits n ≡ Some true) → leading_free bits ≡ n
leading_free-get [] zero h free end = refl
leading_free-get [] (suc n) h free end = absurd (omega arith)
leading_free-get (true ∷ bits) zero h free end = refl
leading_free-get (true ∷ bits) (suc n) h free end = let e = free 0 (omega arith) in cc
leading_free-get (false ∷ bits) zero h free end = let e = end (omega arith) in cc
leading_free-get (false ∷ bits) (suc n) h free end = ap suc (leading_free-get bits n (omega arith) (λ k l. free (suc k) (omega arith)) (λ l. end (omega arith)))

pub leading_free-next : (bits : List Bool) (at next : ℕ) → at ≤ length bits → IsNextBit bits true at (length bits) next → leading_free (drop at bits) ≡ next - at
leading_free-next bits at next h is =
    let low = is.after in let high = is.within in
    leading_free-get (drop at bits) (next - at) (omega (arith, length-drop at bits))
    (λ k l. slice_get-drop at bits k ∙ is.others (at + k) (omega arith) (omega arith))
    (λ l. slice_get-drop at bits (next - at) ∙ (let i : at + (next - at) ≡ next = omega arith in ap (slice_get bits) i ∙ is.here (omega (arith, length-drop at bits))))

-- whether so many are free, by the next taken one
pub free_by_next : (bits : List Bool) (at n next : ℕ) → at + n ≤ length bits → IsNextBit bits true at (at + n) next → (next == at + n) ≡ begins_free n (drop at bits)
free_by_next bits at n next h is = by_cases (cases_lt next (at + n))
  where
    by_cases : (next < at + n) ⊎ (at + n ≤ next) → (next == at + n) ≡ begins_free n (drop at bits)
    by_cases (inl below) =
        let low = is.after in
        let no : (next == at + n) ≡ false = grind (arith, nat_tests) in
        no ∙ sym (taken_test bits at n next low below (is.here below))
    by_cases (inr past) =
        let high = is.within in
        let yes : (next == at + n) ≡ true = grind (arith, nat_tests) in
        let same : next ≡ at + n = omega arith in
        yes ∙ sym (free_test bits at n (record { within = h; free = λ place low below. is.others place low (omega arith) }))

-- The lowest fit from a place on.

and_false : (a b : Bool) → b ≡ false → (a && b) ≡ false
and_false true b e = e
and_false false b e = refl

pub fits_not_free : (bits : List Bool) (n k start : ℕ) → begins_free n (drop start bits) ≡ false → fits bits n k start ≡ false
fits_not_free bits n k start e = and_false (start % k == 0) (begins_free n (drop start bits)) e

pub fits_not_aligned : (bits : List Bool) (n k start : ℕ) → start % k ≢ 0 → fits bits n k start ≡ false
fits_not_aligned bits n k start h = let e : (start % k == 0) ≡ false = grind (arith, nat_tests) in ap (λ b. b && begins_free n (drop start bits)) e

pub fits_here : (bits : List Bool) (n k start : ℕ) → start % k ≡ 0 → begins_free n (drop start bits) ≡ true → fits bits n k start ≡ true
fits_here bits n k start h e = let a : (start % k == 0) ≡ true = grind (arith, nat_tests) in ap (λ b. b && begins_free n (drop start bits)) a ∙ e

-- no multiple is between a number and the next multiple
quotients : (k a b : ℕ) → k * a < k * b → a < b
quotients k a b h = by_cases (cases_lt a b)
  where
    by_cases : (a < b) ⊎ (b ≤ a) → a < b
    by_cases (inl l) = l
    by_cases (inr g) = absurd (omega (arith, mul-le-mul_left k g))

pub not_multiple : (k from next i : ℕ) → 0 < k → next % k ≡ 0 → next < from + k → from ≤ i → i < next → i % k ≢ 0
not_multiple k from next i some multiple below low high = λ e.
    let q : i / k < next / k = quotients k (i / k) (next / k) (omega arith) in
    let step = mul-le-mul_left k (let s : i / k + 1 ≤ next / k = omega arith in s) in
    omega arith

-- one turn of the search: the next free place, the next multiple, and the next taken place
pub record IsTurn (bits : List Bool) (n k place free start : ℕ) : Type 0 where
  pub next : IsNextBit bits false place (length bits) free
  pub low : free ≤ start
  pub high : start < free + k
  pub multiple : start % k ≡ 0

none_up_to_start : (bits : List Bool) (n k place free start i : ℕ) → 1 ≤ n → 1 ≤ k → IsTurn bits n k place free start → place ≤ i → i < start → (i < free) ⊎ (free ≤ i) → fits bits n k i ≡ false
none_up_to_start bits n k place free start i some align turn low high (inl below) = fits_not_free bits n k i (taken_test bits i n i (omega arith) (omega arith) (turn.next.others i low below))
none_up_to_start bits n k place free start i some align turn low high (inr past) = fits_not_aligned bits n k i (not_multiple k free start i align turn.multiple turn.high past high)

pub turn_none : (bits : List Bool) (n k place free start : ℕ) → 1 ≤ n → 1 ≤ k → place ≤ length bits → IsTurn bits n k place free start → length bits < start + n → first_fit bits place n k ≡ None
turn_none bits n k place free start some align order turn past =
    find_none (fits bits n k) (length bits) place order (λ i low high. by_cases i low high (cases_lt i start))
  where
    by_cases : (i : ℕ) → place ≤ i → i < length bits → (i < start) ⊎ (start ≤ i) → fits bits n k i ≡ false
    by_cases i low high (inl below) = none_up_to_start bits n k place free start i some align turn low below (cases_lt i free)
    by_cases i low high (inr from) = fits_not_free bits n k i (short_test bits i n (omega arith) some)

pub turn_found : (bits : List Bool) (n k place free start : ℕ) → 1 ≤ n → 1 ≤ k → IsTurn bits n k place free start → start + n ≤ length bits → IsNextBit bits true start (start + n) (start + n) → first_fit bits place n k ≡ Some start
turn_found bits n k place free start some align turn within is =
    let low = turn.low in let after = turn.next.after in
    find_skip (fits bits n k) (length bits) place start (omega arith) (omega arith) (λ i l h. none_up_to_start bits n k place free start i some align turn l h (cases_lt i free))
    ∙ find_here (fits bits n k) (length bits) start (omega arith) (fits_here bits n k start turn.multiple (free_test bits start n (record { within = within; free = is.others })))

pub turn_on : (bits : List Bool) (n k place free start next : ℕ) → 1 ≤ n → 1 ≤ k → IsTurn bits n k place free start → start + n ≤ length bits → IsNextBit bits true start (start + n) next → next < start + n
    → first_fit bits place n k ≡ first_fit bits (next + 1) n k
turn_on bits n k place free start next some align turn within is below =
    let low = turn.low in let after = turn.next.after in let from = is.after in
    find_skip (fits bits n k) (length bits) place (next + 1) (omega arith) (omega arith) (λ i l h. by_cases i l h (cases_lt i start))
  where
    by_cases : (i : ℕ) → place ≤ i → i < next + 1 → (i < start) ⊎ (start ≤ i) → fits bits n k i ≡ false
    by_cases i l h (inl under) = none_up_to_start bits n k place free start i some align turn l under (cases_lt i free)
    by_cases i l h (inr from) = fits_not_free bits n k i (taken_test bits i n next (omega arith) (omega arith) (is.here below))

-- A search before an end.

slice_get-before : (end place : ℕ) (bits : List Bool) → place < end → slice_get (take end bits) place ≡ slice_get bits place
slice_get-before zero place bits h = absurd (omega arith)
slice_get-before (suc end) place [] h = refl
slice_get-before (suc end) zero (b ∷ bits) h = refl
slice_get-before (suc end) (suc place) (b ∷ bits) h = slice_get-before end place bits (omega arith)

pub length-before : (bits : List Bool) (end : ℕ) → end ≤ length bits → length (take end bits) ≡ end
length-before bits end h = omega (arith, length-take end bits)

pub before_all : (bits : List Bool) → take (length bits) bits ≡ bits
before_all [] = refl
before_all (b ∷ bits) = ap (λ bs. b ∷ bs) (before_all bits)

pub next_before : (bits : List Bool) (end : ℕ) (value : Bool) (from to next : ℕ) → to ≤ end → IsNextBit bits value from to next → IsNextBit (take end bits) value from to next
next_before bits end value from to next h is =
    let within = is.within in
    record {
      after = is.after;
      within = within;
      others = λ other low high. slice_get-before end other bits (omega arith) ∙ is.others other low high;
      here = λ l. slice_get-before end next bits (omega arith) ∙ is.here l;
    }

pub turn_before : (bits : List Bool) (end n k place free start : ℕ) → end ≤ length bits → IsNextBit bits false place end free → free ≤ start → start < free + k → start % k ≡ 0 → IsTurn (take end bits) n k place free start
turn_before bits end n k place free start h next low high multiple = record {
  next = subst (λ to. IsNextBit (take end bits) false place to free) (sym (length-before bits end h)) (next_before bits end false place end free (omega arith) next);
  low = low;
  high = high;
  multiple = multiple;
}

pub fit_past : (bits : List Bool) (n k place : ℕ) → length bits ≤ place → first_fit bits place n k ≡ None
fit_past bits n k place h = find_at_end (fits bits n k) (length bits) place h
