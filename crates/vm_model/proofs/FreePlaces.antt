-- Free places in a row, place by place.
use Rattle.std.proofs.Common.{◌≡◌, ℕ, zero, suc, ◌+◌, ◌-◌, ◌<◌, ◌≤◌, Bool, true, false, ◌==◌, List, [], ◌∷◌, length, take, drop, slice_get, Some, refl, ap, sym, ◌∙◌, arith}
use Rattle.std.proofs.lemmas.Bool.Decides.{nat_tests}
use Rattle.std.proofs.lemmas.List.{length-drop}
use Rattle.vm_model.specs.Space.{begins_free}
use Rattle.vm_model.specs.Bits.{leading_free}
use Rattle.vm_model.proofs.Elements.{slice_get-drop}

-- so many places from one on are there and free
pub record AreFree (bits : List Bool) (at n : ℕ) : Type 0 where
  pub within : at + n ≤ length bits
  pub free : (place : ℕ) → at ≤ place → place < at + n → slice_get bits place ≡ Some false

begins_free-get : (n : ℕ) (bits : List Bool) → n ≤ length bits → ((k : ℕ) → k < n → slice_get bits k ≡ Some false) → begins_free n bits ≡ true
begins_free-get zero bits h free = refl
begins_free-get (suc n) [] h free = absurd (omega arith)
begins_free-get (suc n) (true ∷ bits) h free = let e = free 0 (omega arith) in cc
begins_free-get (suc n) (false ∷ bits) h free = begins_free-get n bits (omega arith) (λ k l. free (suc k) (omega arith))

begins_free-taken : (n : ℕ) (bits : List Bool) (k : ℕ) → k < n → slice_get bits k ≡ Some true → begins_free n bits ≡ false
begins_free-taken zero bits k h e = absurd (omega arith)
begins_free-taken (suc n) [] k h e = refl
begins_free-taken (suc n) (true ∷ bits) k h e = refl
begins_free-taken (suc n) (false ∷ bits) zero h e = cc
begins_free-taken (suc n) (false ∷ bits) (suc k) h e = begins_free-taken n bits k (omega arith) e

begins_free-short : (n : ℕ) (bits : List Bool) → length bits < n → begins_free n bits ≡ false
begins_free-short zero bits h = absurd (omega arith)
begins_free-short (suc n) [] h = refl
begins_free-short (suc n) (true ∷ bits) h = refl
begins_free-short (suc n) (false ∷ bits) h = begins_free-short n bits (omega arith)

pub begins_free-at : (n : ℕ) (bits : List Bool) (k : ℕ) → begins_free n bits ≡ true → k < n → slice_get bits k ≡ Some false
begins_free-at zero bits k h l = absurd (omega arith)
begins_free-at (suc n) [] k h l = cc
begins_free-at (suc n) (true ∷ bits) k h l = cc
begins_free-at (suc n) (false ∷ bits) zero h l = refl
begins_free-at (suc n) (false ∷ bits) (suc k) h l = begins_free-at n bits k h (omega arith)

pub begins_free-length : (n : ℕ) (bits : List Bool) → begins_free n bits ≡ true → n ≤ length bits
begins_free-length zero bits h = omega arith
begins_free-length (suc n) [] h = cc
begins_free-length (suc n) (true ∷ bits) h = cc
begins_free-length (suc n) (false ∷ bits) h = omega (arith, begins_free-length n bits h)

-- the test is that fact
pub free_test : (bits : List Bool) (at n : ℕ) → AreFree bits at n → begins_free n (drop at bits) ≡ true
free_test bits at n are =
    let within = are.within in
    begins_free-get n (drop at bits) (omega (arith, length-drop at bits)) (λ k h. slice_get-drop at bits k ∙ are.free (at + k) (omega arith) (omega arith))

pub taken_test : (bits : List Bool) (at n place : ℕ) → at ≤ place → place < at + n → slice_get bits place ≡ Some true → begins_free n (drop at bits) ≡ false
taken_test bits at n place low high e =
    begins_free-taken n (drop at bits) (place - at) (omega arith) (slice_get-drop at bits (place - at) ∙ (let i : at + (place - at) ≡ place = omega arith in ap (slice_get bits) i ∙ e))

pub short_test : (bits : List Bool) (at n : ℕ) → length bits < at + n → 1 ≤ n → begins_free n (drop at bits) ≡ false
short_test bits at n h some = begins_free-short n (drop at bits) (omega (arith, length-drop at bits))

pub are_free : (bits : List Bool) (at n : ℕ) → 1 ≤ n → begins_free n (drop at bits) ≡ true → AreFree bits at n
are_free bits at n some h = record {
  within = omega (arith, begins_free-length n (drop at bits) h, length-drop at bits);
  free = λ place low high. let i : at + (place - at) ≡ place = omega arith in
      ap (slice_get bits) (sym i) ∙ sym (slice_get-drop at bits (place - at)) ∙ begins_free-at n (drop at bits) (place - at) h (omega arith);
}

next_equal : (a n : ℕ) → (suc a == suc n) ≡ (a == n)
next_equal a n = grind (arith, nat_tests)

zero_differs : (n : ℕ) → (0 == suc n) ≡ false
zero_differs n = grind (arith, nat_tests)

-- so many are free at the front where the free ones at the front of so many are all
pub left_free : (n : ℕ) (bits : List Bool) → (leading_free (take n bits) == n) ≡ begins_free n bits
left_free zero bits = refl
left_free (suc n) [] = zero_differs n
left_free (suc n) (true ∷ bits) = zero_differs n
left_free (suc n) (false ∷ bits) = next_equal (leading_free (take n bits)) n ∙ left_free n bits
