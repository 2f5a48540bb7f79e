-- The hint once free bits that are apart from the longest run are taken.
use Rattle.std.proofs.Common.{◌≡◌, ◌≢◌, ℕ, suc, ◌+◌, ◌-◌, ◌<◌, ◌≤◌, ◌⊎◌, inl, inr, Bool, true, false, ◌&&◌, nat_lt, if◌then◌else◌, List, drop, Some, option_map, refl, ap, sym, ◌∙◌, subst, arith}
use Rattle.std.proofs.lemmas.Bool.{cases_lt, cases_eq}
use Rattle.std.proofs.lemmas.Bool.Decides.{nat_tests}
use Rattle.vm_model.specs.declared.rows.Hint.{Hint}
use Rattle.vm_model.specs.Space.{span, holds, paint, is_free_at, begins_free}
use Rattle.vm_model.specs.Hints.{IsLongestIn, IsHintIn}
use Rattle.vm_model.proofs.Paint.{slice_get-paint}
use Rattle.vm_model.proofs.Scans.{free_read, taken_read}
use Rattle.vm_model.proofs.FreePlaces.{are_free}
use Rattle.chunk_bitmaps.specs.Bitmap.{IsNextBit}
use Rattle.block_hints.specs.KeptHints.{hint_around, IsBoundIn}
use Rattle.block_hints.proofs.Borders.{IsLeft, IsRight, IsFirst, choose}
use Rattle.block_hints.proofs.KeptHintProofs.{alike_apart}

-- so many places were free and are taken now, and the others are as they were
pub record AreTakenNow (old now : List Bool) (at count : ℕ) : Type 0 where
  pub some : 1 ≤ count
  pub were_free : (place : ℕ) → at ≤ place → place < at + count → is_free_at old place ≡ true
  pub are_taken : (place : ℕ) → at ≤ place → place < at + count → is_free_at now place ≡ false
  pub before : (place : ℕ) → place < at → is_free_at now place ≡ is_free_at old place
  pub behind : (place : ℕ) → at + count ≤ place → is_free_at now place ≡ is_free_at old place

pub painted_taken : (bits : List Bool) (at count : ℕ) → 1 ≤ count → begins_free count (drop at bits) ≡ true → AreTakenNow bits (paint (holds (span at count)) true bits) at count
painted_taken bits at count some free =
    let are = are_free bits at count some free in
    let now = paint (holds (span at count)) true bits in
    record {
      some = some;
      were_free = λ place a b. free_read bits place (are.free place a b);
      are_taken = λ place a b.
          let inside : holds (span at count) place ≡ true = grind (arith, nat_tests) in
          taken_read now place (slice_get-paint (holds (span at count)) true bits place ∙ ap (option_map (λ y. if holds (span at count) place then true else y)) (are.free place a b)
          ∙ ap (λ b. Some (if b then true else false)) inside);
      before = λ place a. alike_apart bits now at count 0 at true refl (inl (omega arith)) place (omega arith) a;
      behind = λ place a. alike_apart bits now at count (at + count) (suc place) true refl (inr (omega arith)) place a (omega arith);
    }

-- What stays.

pub still_free : (old now : List Bool) (at count place : ℕ) → AreTakenNow old now at count → is_free_at now place ≡ true → is_free_at old place ≡ true
still_free old now at count place are free = by_cases (cases_lt place at) (cases_lt place (at + count))
  where
    by_cases : (place < at) ⊎ (at ≤ place) → (place < at + count) ⊎ (at + count ≤ place) → is_free_at old place ≡ true
    by_cases (inl low) end = sym (are.before place low) ∙ free
    by_cases (inr from) (inl to) = are.were_free place from to
    by_cases (inr from) (inr past) = sym (are.behind place past) ∙ free

still_taken : (old now : List Bool) (at count place : ℕ) → AreTakenNow old now at count → is_free_at old place ≡ false → is_free_at now place ≡ false
still_taken old now at count place are taken = by_cases (cases_lt place at) (cases_lt place (at + count))
  where
    by_cases : (place < at) ⊎ (at ≤ place) → (place < at + count) ⊎ (at + count ≤ place) → is_free_at now place ≡ false
    by_cases (inl low) end = are.before place low ∙ taken
    by_cases (inr from) (inl to) = are.are_taken place from to
    by_cases (inr from) (inr past) = are.behind place past ∙ taken

pub run_stays : (old now : List Bool) (low high at count start pages : ℕ) → AreTakenNow old now at count → (start + pages ≤ at) ⊎ (at + count ≤ start) → IsLongestIn old low high (span start pages) → IsLongestIn now low high (span start pages)
run_stays old now low high at count start pages are apart is = record {
  free = λ place a b. free_by place a b apart;
  after = is.after;
  within = is.within;
  longest = λ from many under inside some free. is.longest from many under inside some (λ place a b. still_free old now at count place are (free place a b));
  none = is.none;
}
  where
    free_by : (place : ℕ) → start ≤ place → place < start + pages → (start + pages ≤ at) ⊎ (at + count ≤ start) → is_free_at now place ≡ true
    free_by place a b (inl before) = are.before place (omega arith) ∙ is.free place a b
    free_by place a b (inr past) = are.behind place (omega arith) ∙ is.free place a b

-- free spans are no longer than before
pub bound_stays : (old now : List Bool) (low high at count most : ℕ) → AreTakenNow old now at count → IsBoundIn old low high most → IsBoundIn now low high most
bound_stays old now low high at count most are is start pages after inside some free = is start pages after inside some (λ place a b. still_free old now at count place are (free place a b))

-- some places between two others
pub record IsPlaced (low high at count : ℕ) : Type 0 where
  pub after : low ≤ at
  pub within : at + count ≤ high

left_stays : (old now : List Bool) (low high at count : ℕ) (h : Hint) → AreTakenNow old now at count → IsPlaced low high at count → IsHintIn old low high h → IsLeft now low high (if nat_lt (at - low) h.left then at - low else h.left)
left_stays old now low high at count h are placed is =
    let some = are.some in let left = is.left_within in let after = placed.after in let within = placed.within in
    choose (IsLeft now low high) (at - low) h.left (at - low) h.left
    (λ l. record {
      within = omega arith;
      free = λ place a b. are.before place (omega arith) ∙ is.left_free place a (omega arith);
      end = λ more. let e : low + (at - low) ≡ at = omega arith in ap (is_free_at now) e ∙ are.are_taken at (omega arith) (omega arith);
    })
    (λ g. record {
      within = is.left_within;
      free = λ place a b. are.before place (omega arith) ∙ is.left_free place a b;
      end = λ more. still_taken old now at count (low + h.left) are (is.left_end more);
    })

right_stays : (old now : List Bool) (low high at count n : ℕ) (h : Hint) → AreTakenNow old now at count → IsPlaced low high at count → IsHintIn old low high h → n ≡ high - (at + count) → IsRight now low high (if nat_lt n h.right then n else h.right)
right_stays old now low high at count n h are placed is e =
    let some = are.some in let right = is.right_within in let after = placed.after in let within = placed.within in
    choose (IsRight now low high) n h.right n h.right
    (λ l. record {
      within = omega arith;
      free = λ place a b. are.behind place (omega arith) ∙ is.right_free place (omega arith) (omega arith);
      end = λ more. are.are_taken (high - suc n) (omega arith) (omega arith);
    })
    (λ g. record {
      within = is.right_within;
      free = λ place a b. are.behind place (omega arith) ∙ is.right_free place a b;
      end = λ more. still_taken old now at count (high - suc h.right) are (is.right_end more);
    })

-- the first free place, by a search where the one before is taken
first_behind : (old now : List Bool) (low high at count first : ℕ) (h : Hint) → AreTakenNow old now at count → IsPlaced low high at count → IsHintIn old low high h → at ≡ low + h.first → IsNextBit old false (at + count) high first
    → IsFirst now low high (first - low)
first_behind old now low high at count first h are placed is same next =
    let after = next.after in let from = placed.after in
    record {
      within = omega (arith, next.within);
      taken = λ place a b. taken_by place a (omega arith) (cases_lt place at) (cases_lt place (at + count));
      end = λ more. let e : low + (first - low) ≡ first = omega arith in ap (is_free_at now) e ∙ are.behind first after ∙ free_read old first (next.here (omega arith));
    }
  where
    taken_by : (place : ℕ) → low ≤ place → place < first → (place < at) ⊎ (at ≤ place) → (place < at + count) ⊎ (at + count ≤ place) → is_free_at now place ≡ false
    taken_by place a b (inl before) end = still_taken old now at count place are (is.first_taken place a (omega arith))
    taken_by place a b (inr from) (inl to) = are.are_taken place from to
    taken_by place a b (inr from) (inr past) = are.behind place past ∙ taken_read old place (next.others place past b)

first_stays : (old now : List Bool) (low high at count : ℕ) (h : Hint) → AreTakenNow old now at count → IsPlaced low high at count → IsHintIn old low high h → at ≢ low + h.first → IsFirst now low high h.first
first_stays old now low high at count h are placed is apart = record {
  within = is.first_within;
  taken = λ place a b. still_taken old now at count place are (is.first_taken place a b);
  end = λ more. are.before (low + h.first) (omega (arith, before (cases_lt (low + h.first) at))) ∙ is.first_free more;
}
  where
    before : (low + h.first < at) ⊎ (at ≤ low + h.first) → low + h.first < at
    before (inl under) = under
    before (inr from) =
        let some = are.some in
        let free = are.were_free at (omega arith) (omega arith) in
        let taken = is.first_taken at placed.after (omega arith) in
        cc

-- the bits between two places, or the longest run, are before the others
pub not_cut : (at end start run_end : ℕ) → (nat_lt at run_end && nat_lt start end) ≡ false → (run_end ≤ at) ⊎ (end ≤ start)
not_cut at end start run_end h = by_cases (cases_lt at run_end) (cases_lt start end)
  where
    by_cases : (at < run_end) ⊎ (run_end ≤ at) → (start < end) ⊎ (end ≤ start) → (run_end ≤ at) ⊎ (end ≤ start)
    by_cases (inr low) other = inl low
    by_cases (inl one) (inr past) = inr past
    by_cases (inl one) (inl two) = let both : (nat_lt at run_end && nat_lt start end) ≡ true = grind (arith, nat_tests) in cc

-- the hint, whose longest run is told
pub ends_taken : (old now : List Bool) (low high at count first start pages : ℕ) (h : Hint) → AreTakenNow old now at count → IsPlaced low high at count → IsLongestIn now low high (span (low + start) pages) → IsHintIn old low high h → IsFirst now low high first
    → IsHintIn now low high (record (hint_around (high - low) (at - low) (at + count - low) first h) { run_start = start; run = pages })
ends_taken old now low high at count first start pages h are placed run is begins =
    let after = placed.after in let within = placed.within in
    let left = left_stays old now low high at count h are placed is in
    let right = right_stays old now low high at count (high - low - (at + count - low)) h are placed is (omega arith) in
    record {
      run = run;
      left_within = left.within;
      left_free = left.free;
      left_end = left.end;
      right_within = right.within;
      right_free = right.free;
      right_end = right.end;
      first_within = begins.within;
      first_taken = begins.taken;
      first_free = begins.end;
    }

pub around_taken : (old now : List Bool) (low high at count first : ℕ) (h : Hint) → AreTakenNow old now at count → IsPlaced low high at count → (low + h.run_start + h.run ≤ at) ⊎ (at + count ≤ low + h.run_start) → IsHintIn old low high h → IsFirst now low high first
    → IsHintIn now low high (hint_around (high - low) (at - low) (at + count - low) first h)
around_taken old now low high at count first h are placed apart is begins =
    ends_taken old now low high at count first h.run_start h.run h are placed (run_stays old now low high at count (low + h.run_start) h.run are apart is.run) is begins

-- the first free place
pub first_taken : (old now : List Bool) (low high at count first : ℕ) (h : Hint) → AreTakenNow old now at count → IsPlaced low high at count → IsHintIn old low high h
    → (at ≢ low + h.first → first ≡ h.first) → (at ≡ low + h.first → (next : ℕ) × IsNextBit old false (at + count) high next × (first ≡ next - low)) → IsFirst now low high first
first_taken old now low high at count first h are placed is other next = by_cases (cases_eq at (low + h.first))
  where
    by_cases : (at ≡ low + h.first) ⊎ (at ≢ low + h.first) → IsFirst now low high first
    by_cases (inl same) = let n = next same in subst (IsFirst now low high) (sym n.2) (first_behind old now low high at count n.0 h are placed is same n.1)
    by_cases (inr apart) = subst (IsFirst now low high) (sym (other apart)) (first_stays old now low high at count h are placed is apart)
