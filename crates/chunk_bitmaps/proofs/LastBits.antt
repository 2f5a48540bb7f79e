-- The last bit with a value, word by word.
use Rattle.std.proofs.Common.{◌≡◌, ℕ, suc, ◌+◌, ◌-◌, ◌*◌, ◌/◌, ◌%◌, ◌^◌, ◌<◌, ◌≤◌, ◌⊎◌, inl, inr, max, Bool, not, List, length, slice_get, Some, ap, sym, ◌∙◌, subst, arith}
use Rattle.std.proofs.lemmas.Bool.{cases_lt}
use Rattle.std.specs.Int.{bit_at}
use lib.Count.{count_leading_zeros}
use Rattle.std.proofs.lemmas.Nat.{leading_top, shr_below, shr_split, mod_below, pow_pos}
use Rattle.std.proofs.lemmas.Nat.Bits.{bit_at_above, bit_at-zero}
use Rattle.chunk_bitmaps.specs.Bitmap.{IsLastBit, IsWordUpTo}
use Rattle.vm_model.specs.Bits.{value_at}
use Rattle.vm_model.proofs.Tabulated.{get-value_at}
use Rattle.chunk_bitmaps.proofs.NextBits.{is_other, is_value}

-- no bit from a place on and from the first one on, before the end, has the value
pub record NoneBehind (bits : List Bool) (value : Bool) (from end place : ℕ) : Type 0 where
  pub within : place ≤ end
  pub others : (other : ℕ) → from ≤ other → place ≤ other → other < end → slice_get bits other ≡ Some (not value)

pub none_behind_end : (bits : List Bool) (value : Bool) (from end : ℕ) → NoneBehind bits value from end end
none_behind_end bits value from end = record { within = omega arith; others = λ other low high within. absurd (omega arith) }

pub none_from_first : (bits : List Bool) (value : Bool) (from end place : ℕ) → from ≤ end → place ≤ from → NoneBehind bits value from end place → IsLastBit bits value from end from
none_from_first bits value from end place order past behind = record {
  after = omega arith;
  within = order;
  others = λ other low high. behind.others other low (omega arith) high;
  here = λ h. absurd (omega arith);
}

-- a place of the word that has no bit
get_no_bit : (bits : List Bool) (value : Bool) (place word other : ℕ) → IsWordUpTo bits place value word → place / 64 * 64 ≤ other → other ≤ place → other < length bits → bit_at word (other % 64) ≡ 0 → slice_get bits other ≡ Some (not value)
get_no_bit bits value place word other is low high within e =
    get-value_at bits other (not value) within (is_other value (value_at bits other) (sym (is.rest other (omega arith) high) ∙ e))

pub none_more_behind : (bits : List Bool) (value : Bool) (from end place word : ℕ) → end ≤ length bits → from < place → IsWordUpTo bits (place - 1) value word → NoneBehind bits value from end place → word ≡ 0
    → NoneBehind bits value from end ((place - 1) / 64 * 64)
none_more_behind bits value from end place word inside more is behind none = record {
  within = let within = behind.within in omega arith;
  others = λ other low high within. by_cases other low high within (cases_lt other place);
}
  where
    by_cases : (other : ℕ) → from ≤ other → (place - 1) / 64 * 64 ≤ other → other < end → (other < place) ⊎ (place ≤ other) → slice_get bits other ≡ Some (not value)
    by_cases other low high within (inl here) = get_no_bit bits value (place - 1) word other is high (omega arith) (omega arith) (ap (λ n. bit_at n (other % 64)) none ∙ bit_at-zero (other % 64))
    by_cases other low high within (inr past) = behind.others other low past within

-- The highest bit of a word.

abbrev top_of : ℕ → ℕ
top_of word = 63 - count_leading_zeros 64 word

record IsTop (word : ℕ) : Type 0 where
  pub few : count_leading_zeros 64 word < 64
  pub set : bit_at word (top_of word) ≡ 1
  pub above : (i : ℕ) → top_of word < i → bit_at word i ≡ 0

highest_set : (word j : ℕ) → 2 ^ j ≤ word → word < 2 ^ suc j → bit_at word j ≡ 1
highest_set word j low high =
    let one : word / 2 ^ j ≡ 1 = omega (arith, some, shr_below word 1 j (subst (λ n. word < 2 ^ n) one_more high)) in
    ap (λ n. n % 2) one
  where
    one_more : suc j ≡ 1 + j
    one_more = omega arith

    some : 1 ≤ word / 2 ^ j
    some = by_cases (cases_lt 0 (word / 2 ^ j))
      where
        by_cases : (0 < word / 2 ^ j) ⊎ (word / 2 ^ j ≤ 0) → 1 ≤ word / 2 ^ j
        by_cases (inl h) = h
        by_cases (inr none) =
            let zero_is : word / 2 ^ j ≡ 0 = omega arith in
            let split = ap (λ q. q * 2 ^ j + word % 2 ^ j) (sym zero_is) ∙ shr_split word j in
            absurd (omega (arith, split, mod_below word (2 ^ j) (pow_pos j)))

top_is : (word : ℕ) → 0 < word → word < 2 ^ 64 → IsTop word
top_is word some fits =
    let found = leading_top 64 word some fits in
    let j = found.0 in
    let count = found.1 in
    let top : j ≡ top_of word = omega arith in
    record {
      few = omega arith;
      set = ap (bit_at word) (sym top) ∙ highest_set word j found.2 found.3;
      above = λ i h. bit_at_above word (suc j) i found.3 (omega arith);
    }

-- the last bit is in a word
pub last_found : (bits : List Bool) (value : Bool) (from end place word : ℕ) → from < place → end ≤ length bits → IsWordUpTo bits (place - 1) value word → NoneBehind bits value from end place → 0 < word → word < 2 ^ 64
    → IsLastBit bits value from end (max from ((place - 1) / 64 * 64 + 64 - count_leading_zeros 64 word))
last_found bits value from end place word more inside is behind some fits =
    let top = top_is word some fits in
    let within = behind.within in
    let few = top.few in
    let low = in_word (cases_lt ((place - 1) % 64) (top_of word)) in
    record {
      after = omega arith;
      within = omega arith;
      others = λ other past high. by_cases other (omega arith) high (cases_lt other place);
      here = λ h.
          let at : max from ((place - 1) / 64 * 64 + 64 - count_leading_zeros 64 word) - 1 ≡ (place - 1) / 64 * 64 + top_of word = omega arith in
          let bit : ((place - 1) / 64 * 64 + top_of word) % 64 ≡ top_of word = omega arith in
          ap (slice_get bits) at ∙ get-value_at bits ((place - 1) / 64 * 64 + top_of word) value (omega arith) (is_value value (value_at bits ((place - 1) / 64 * 64 + top_of word))
          (sym (is.rest ((place - 1) / 64 * 64 + top_of word) (omega arith) (omega arith)) ∙ ap (bit_at word) bit ∙ top.set));
    }
  where
    in_word : ((place - 1) % 64 < top_of word) ⊎ (top_of word ≤ (place - 1) % 64) → top_of word ≤ (place - 1) % 64
    in_word (inl h) = let none = is.above (top_of word) h in let set = (top_is word some fits).set in absurd (omega arith)
    in_word (inr h) = h

    by_cases : (other : ℕ) → (place - 1) / 64 * 64 + 64 - count_leading_zeros 64 word ≤ other → other < end → (other < place) ⊎ (place ≤ other) → slice_get bits other ≡ Some (not value)
    by_cases other past high (inl here) =
        let top = top_is word some fits in
        let few = top.few in
        get_no_bit bits value (place - 1) word other is (omega arith) (omega arith) (omega (arith, behind.within)) (top.above (other % 64) (omega arith))
    by_cases other past high (inr above) = behind.others other (omega arith) above high
