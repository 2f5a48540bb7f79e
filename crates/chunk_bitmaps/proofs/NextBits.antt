-- The next bit with a value, word by word.
use Rattle.std.proofs.Common.{◌≡◌, ℕ, ◌+◌, ◌-◌, ◌%◌, ◌^◌, ◌<◌, ◌≤◌, ◌⊎◌, inl, inr, min, Bool, true, false, not, if◌then◌else◌, List, length, slice_get, Some, refl, ap, sym, ◌∙◌, arith}
use Rattle.std.proofs.lemmas.Bool.{cases_lt}
use Rattle.std.specs.Int.{bit_at, w64, trailing_zeros}
use Rattle.std.proofs.lemmas.Nat.Bits.{bit_at-trailing_zeros, bit_at-zero}
use Rattle.vm_model.specs.Space.{one_if}
use Rattle.chunk_bitmaps.specs.Bitmap.{IsNextBit}
use Rattle.vm_model.specs.Bits.{value_at}
use Rattle.vm_model.proofs.Tabulated.{get-value_at}

pub is_other : (value b : Bool) → one_if (if value then b else not b) ≡ 0 → b ≡ not value
is_other true true e = cc
is_other true false e = refl
is_other false true e = refl
is_other false false e = cc

pub is_value : (value b : Bool) → one_if (if value then b else not b) ≡ 1 → b ≡ value
is_value true true e = refl
is_value true false e = cc
is_value false true e = cc
is_value false false e = refl

-- the set bits of a word are those of the rest of a word that have the value
pub record IsRest (bits : List Bool) (place : ℕ) (value : Bool) (word : ℕ) : Type 0 where
  pub rest : (i : ℕ) → i < 64 - place % 64 → place + i < length bits → bit_at word i ≡ one_if (if value then value_at bits (place + i) else not (value_at bits (place + i)))
  pub above : (i : ℕ) → 64 - place % 64 ≤ i → bit_at word i ≡ 0

-- from a place on no bit before the other place and the end has the value
pub record NoneBefore (bits : List Bool) (value : Bool) (from end place : ℕ) : Type 0 where
  pub after : from ≤ place
  pub others : (other : ℕ) → from ≤ other → other < place → other < end → slice_get bits other ≡ Some (not value)

pub none_at_first : (bits : List Bool) (value : Bool) (from end : ℕ) → NoneBefore bits value from end from
none_at_first bits value from end = record { after = omega arith; others = λ other low high within. absurd (omega arith) }

get_other : (bits : List Bool) (value : Bool) (place word other : ℕ) → IsRest bits place value word → place ≤ other → other < place + (64 - place % 64) → other < length bits
    → bit_at word (other - place) ≡ 0 → slice_get bits other ≡ Some (not value)
get_other bits value place word other r low high within e =
    let is : place + (other - place) ≡ other = omega arith in
    let bit = r.rest (other - place) (omega arith) (omega arith) in
    get-value_at bits other (not value) within (ap (value_at bits) (sym is) ∙ is_other value (value_at bits (place + (other - place))) (sym bit ∙ e))

none_more_at : (bits : List Bool) (value : Bool) (from end place word other : ℕ) → end ≤ length bits → IsRest bits place value word → NoneBefore bits value from end place → word ≡ 0
    → from ≤ other → other < place + (64 - place % 64) → other < end → (other < place) ⊎ (place ≤ other) → slice_get bits other ≡ Some (not value)
none_more_at bits value from end place word other inside r before none low high within (inl below) = before.others other low below within
none_more_at bits value from end place word other inside r before none low high within (inr here) =
    get_other bits value place word other r here high (omega arith) (ap (λ n. bit_at n (other - place)) none ∙ bit_at-zero (other - place))

pub none_more : (bits : List Bool) (value : Bool) (from end place word : ℕ) → end ≤ length bits → IsRest bits place value word → NoneBefore bits value from end place → word ≡ 0
    → NoneBefore bits value from end (place + (64 - place % 64))
none_more bits value from end place word inside r before none = record {
  after = let low = before.after in omega arith;
  others = λ other low high within. none_more_at bits value from end place word other inside r before none low high within (cases_lt other place);
}

pub none_at_end : (bits : List Bool) (value : Bool) (from end place : ℕ) → from ≤ end → end ≤ place → NoneBefore bits value from end place → IsNextBit bits value from end end
none_at_end bits value from end place order past before = record {
  after = order;
  within = omega arith;
  others = λ other low high. before.others other low (omega arith) high;
  here = λ h. absurd (omega arith);
}

found_before : (bits : List Bool) (value : Bool) (from end place word first other : ℕ) → end ≤ length bits → IsRest bits place value word → NoneBefore bits value from end place
    → first < 64 - place % 64 → ((i : ℕ) → i < first → bit_at word i ≡ 0) → from ≤ other → other < place + first → other < end → (other < place) ⊎ (place ≤ other) → slice_get bits other ≡ Some (not value)
found_before bits value from end place word first other inside r before few zeros low high within (inl below) = before.others other low below within
found_before bits value from end place word first other inside r before few zeros low high within (inr here) =
    get_other bits value place word other r here (omega arith) (omega arith) (zeros (other - place) (omega arith))

in_rest : (bits : List Bool) (place : ℕ) (value : Bool) (word first : ℕ) → IsRest bits place value word → bit_at word first ≡ 1 → (first < 64 - place % 64) ⊎ (64 - place % 64 ≤ first) → first < 64 - place % 64
in_rest bits place value word first r one (inl h) = h
in_rest bits place value word first r one (inr h) = let none = r.above first h in absurd (omega arith)

pub first_found : (bits : List Bool) (value : Bool) (from end place word : ℕ) → place < end → end ≤ length bits → IsRest bits place value word → NoneBefore bits value from end place → 0 < word → word < 2 ^ 64
    → IsNextBit bits value from end (min end (place + trailing_zeros w64 word))
first_found bits value from end place word more inside r before some fits =
    let first = trailing_zeros w64 word in
    let lowest = bit_at-trailing_zeros w64 word some fits in
    let few : first < 64 - place % 64 = in_rest bits place value word first r lowest.1 (cases_lt first (64 - place % 64)) in
    let low = before.after in
    record {
      after = omega arith;
      within = omega arith;
      others = λ other from_on below. found_before bits value from end place word first other inside r before few lowest.2 from_on (omega arith) (omega arith) (cases_lt other place);
      here = λ h. let at : min end (place + first) ≡ place + first = omega arith in
          ap (slice_get bits) at ∙ get-value_at bits (place + first) value (omega arith) (is_value value (value_at bits (place + first)) (sym (r.rest first few (omega arith)) ∙ lowest.1));
    }
