-- Free bits, run by run.
use Rattle.std.proofs.Common.{◌≡◌, ℕ, zero, suc, ◌+◌, ◌-◌, ◌<◌, ◌≤◌, inl, inr, Bool, true, false, not, List, length, take, slice_get, get_or, Some, ap, sym, ◌∙◌, arith}
use Rattle.std.proofs.lemmas.Bool.{cases_lt}
use Rattle.std.proofs.lemmas.List.{length-take, take_all}
use Rattle.std.proofs.lemmas.List.Sums.{count_by_more_no, count_by_more_yes, count_by-le-length}
use Rattle.std.proofs.lemmas.Option.{slice_get-get_or}
use Rattle.vm_model.specs.Bits.{free_count}
use Rattle.chunk_bitmaps.specs.Bitmap.{IsNextBit}

-- so many free bits are in front of a place
pub record IsCounted (bits : List Bool) (place free : ℕ) : Type 0 where
  pub within : place ≤ length bits
  pub count : free ≡ free_count (take place bits)

read : (bits : List Bool) (i : ℕ) (b : Bool) → i < length bits → slice_get bits i ≡ Some b → get_or bits i false ≡ b
read bits i b low e = some_same (get_or bits i false) b (sym (slice_get-get_or bits i false low) ∙ e)
  where
    some_same : (x y : Bool) → Some x ≡ Some y → x ≡ y
    some_same x y e = cc

past_taken : (bits : List Bool) (place n : ℕ) → place + n ≤ length bits → ((i : ℕ) → place ≤ i → i < place + n → slice_get bits i ≡ Some true) → free_count (take (place + n) bits) ≡ free_count (take place bits)
past_taken bits place zero within taken = ap (λ m. free_count (take m bits)) (let e : place + 0 ≡ place = omega arith in e)
past_taken bits place (suc n) within taken =
    let e : place + suc n ≡ place + n + 1 = omega arith in
    ap (λ m. free_count (take m bits)) e
    ∙ count_by_more_no not bits (place + n) false (omega arith) (ap not (read bits (place + n) true (omega arith) (taken (place + n) (omega arith) (omega arith))))
    ∙ past_taken bits place n (omega arith) (λ i low high. taken i low (omega arith))

past_free : (bits : List Bool) (place n : ℕ) → place + n ≤ length bits → ((i : ℕ) → place ≤ i → i < place + n → slice_get bits i ≡ Some false) → free_count (take (place + n) bits) ≡ free_count (take place bits) + n
past_free bits place zero within free = let e : place + 0 ≡ place = omega arith in omega (arith, ap (λ m. free_count (take m bits)) e)
past_free bits place (suc n) within free =
    let e : place + suc n ≡ place + n + 1 = omega arith in
    let one = count_by_more_yes not bits (place + n) false (omega arith) (ap not (read bits (place + n) false (omega arith) (free (place + n) (omega arith) (omega arith)))) in
    omega (arith, ap (λ m. free_count (take m bits)) e, one, past_free bits place n (omega arith) (λ i low high. free i low (omega arith)))

-- over the taken bits up to the next free one, and over that run
pub counted_on : (bits : List Bool) (place free start next : ℕ) → IsCounted bits place free → IsNextBit bits false place (length bits) start → IsNextBit bits true start (length bits) next → IsCounted bits next (free + (next - start))
counted_on bits place free start next counted first second =
    let after = first.after in let within = second.within in let order = second.after in
    let start_is : place + (start - place) ≡ start = omega arith in
    let next_is : start + (next - start) ≡ next = omega arith in
    let taken = past_taken bits place (start - place) (omega arith) (λ i low high. first.others i low (omega arith)) in
    let run = past_free bits start (next - start) (omega arith) (λ i low high. second.others i low (omega arith)) in
    record {
      within = within;
      count = omega (arith, counted.count, taken, run, ap (λ m. free_count (take m bits)) start_is, ap (λ m. free_count (take m bits)) next_is);
    }

clash : (bits : List Bool) (i : ℕ) → slice_get bits i ≡ Some false → slice_get bits i ≡ Some true → ⊥
clash bits i a b = let e : Some false ≡ Some true = sym a ∙ b in cc

pub goes_on : (bits : List Bool) (place end start next : ℕ) → place < end → IsNextBit bits false place end start → IsNextBit bits true start end next → place < next
goes_on bits place end start next low first second =
    let after = first.after in let order = second.after in let within = first.within in
    elim (cases_lt place next) [
      | inl on ↦ on
      | inr stays ↦
          let same : start ≡ place = omega arith in
          let same' : next ≡ start = omega arith in
          absurd (clash bits start (first.here (omega arith)) (ap (slice_get bits) (sym same') ∙ second.here (omega arith)))
    ]

pub few_counted : (bits : List Bool) (place free : ℕ) → IsCounted bits place free → free ≤ place
few_counted bits place free counted = omega (arith, counted.count, counted.within, count_by-le-length not (take place bits), length-take place bits)

pub all_counted : (bits : List Bool) (place free : ℕ) → length bits ≤ place → IsCounted bits place free → free ≡ free_count bits
all_counted bits place free past counted = counted.count ∙ ap free_count (take_all place bits past)
