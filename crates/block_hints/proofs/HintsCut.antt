-- The longest run once free bits of it are taken: what is left before or behind them, where no other run is longer.
use Rattle.std.proofs.Common.{◌≡◌, ℕ, ◌+◌, ◌-◌, ◌<◌, ◌≤◌, ◌⊎◌, inl, inr, min, max, Bool, true, false, nat_le, nat_lt, ◌&&◌, if◌then◌else◌, List, Some, None, refl, sym, ◌∙◌, subst, arith}
use Rattle.std.proofs.lemmas.Bool.{cases_lt}
use Rattle.std.proofs.lemmas.Bool.Decides.{nat_tests}
use Rattle.vm_model.specs.Space.{span, is_free_at}
use Rattle.vm_model.specs.Hints.{IsFreeSpan, IsLongestIn}
use Rattle.block_hints.specs.declared.block_scan.Block.{Block}
use Rattle.block_hints.specs.KeptHints.{IsBoundIn, IsBlockIn, block_cut}
use Rattle.block_hints.proofs.HintsAround.{AreTakenNow, IsPlaced, still_free, bound_stays, run_stays}

-- a free span that has a place of the longest run lies in it
union_free : (bits : List Bool) (start pages from count : ℕ) → IsFreeSpan bits (span start pages) → IsFreeSpan bits (span from count) → from < start + pages → start < from + count → IsFreeSpan bits (span (min from start) (max (from + count) (start + pages) - min from start))
union_free bits start pages from count one other over under place a b = by_cases (cases_lt place start) (cases_lt place (start + pages))
  where
    by_cases : (place < start) ⊎ (start ≤ place) → (place < start + pages) ⊎ (start + pages ≤ place) → is_free_at bits place ≡ true
    by_cases (inl before) end = other place (omega arith) (omega arith)
    by_cases (inr after) (inl within) = one place after within
    by_cases (inr after) (inr past) = other place (omega arith) (omega arith)

in_longest : (bits : List Bool) (low high start pages from count : ℕ) → IsLongestIn bits low high (span start pages) → low ≤ from → from + count ≤ high → IsFreeSpan bits (span from count) → from < start + pages → start < from + count → (start ≤ from) × (from + count ≤ start + pages)
in_longest bits low high start pages from count is low_is inside are over under =
    let after = is.after in let within = is.within in
    let l = is.longest (min from start) (max (from + count) (start + pages) - min from start) (omega arith) (omega arith) (omega arith) (union_free bits start pages from count is.free are over under) in
    (omega (arith, l.0), omega (arith, l.0))

-- a free span is before the taken places or behind them
beside_taken : (old now : List Bool) (at count from pages : ℕ) → AreTakenNow old now at count → 0 < pages → IsFreeSpan now (span from pages) → (from + pages ≤ at) ⊎ (at + count ≤ from)
beside_taken old now at count from pages are more free = by_cases (cases_lt at (from + pages)) (cases_lt from (at + count)) (cases_lt from at)
  where
    by_cases : (at < from + pages) ⊎ (from + pages ≤ at) → (from < at + count) ⊎ (at + count ≤ from) → (from < at) ⊎ (at ≤ from) → (from + pages ≤ at) ⊎ (at + count ≤ from)
    by_cases (inr before) two three = inl before
    by_cases one (inr past) three = inr past
    by_cases (inl over) (inl under) (inl first) = let some = are.some in let taken = are.are_taken at (omega arith) (omega arith) in let yes = free at (omega arith) over in cc
    by_cases (inl over) (inl under) (inr after) = let taken = are.are_taken from after under in let yes = free from (omega arith) (omega arith) in cc

-- the taken places are of the longest run, and how long the others are at most
record IsCut (old now : List Bool) (low high at count start pages before behind : ℕ) : Type 0 where
  pub taken : AreTakenNow old now at count
  pub longest : IsLongestIn old low high (span start pages)
  pub after : start ≤ at
  pub within : at + count ≤ start + pages
  pub bound_before : IsBoundIn old low start before
  pub bound_behind : IsBoundIn old (start + pages) high behind

-- where a free span is then, and how long at most
place_of_span : (old now : List Bool) (low high at count start pages before behind from n : ℕ) → IsCut old now low high at count start pages before behind → low ≤ from → from + n ≤ high → 0 < n → IsFreeSpan now (span from n)
    → ((from + n ≤ start) × (n ≤ before)) ⊎ (((start ≤ from) × (from + n ≤ at)) ⊎ (((at + count ≤ from) × (from + n ≤ start + pages)) ⊎ ((start + pages ≤ from) × (n ≤ behind))))
place_of_span old now low high at count start pages before behind from n cut low_is inside more free =
    by_cases (beside_taken old now at count from n cut.taken more free) (cases_lt start (from + n)) (cases_lt from (start + pages))
  where
    was : IsFreeSpan old (span from n)
    was = λ place a b. still_free old now at count place cut.taken (free place a b)

    by_cases : (from + n ≤ at) ⊎ (at + count ≤ from) → (start < from + n) ⊎ (from + n ≤ start) → (from < start + pages) ⊎ (start + pages ≤ from)
        → ((from + n ≤ start) × (n ≤ before)) ⊎ (((start ≤ from) × (from + n ≤ at)) ⊎ (((at + count ≤ from) × (from + n ≤ start + pages)) ⊎ ((start + pages ≤ from) × (n ≤ behind))))
    by_cases one (inr ends) three = inl (ends, cut.bound_before from n low_is ends more was)
    by_cases one (inl over) (inr past) = inr (inr (inr (past, cut.bound_behind from n past inside more was)))
    by_cases (inl left) (inl over) (inl under) = let i = in_longest old low high start pages from n cut.longest low_is inside was under over in inr (inl (i.0, left))
    by_cases (inr right) (inl over) (inl under) = let i = in_longest old low high start pages from n cut.longest low_is inside was under over in inr (inr (inl (right, i.1)))

-- what is left before them
cut_front : (old now : List Bool) (low high at count start pages before behind : ℕ) → IsCut old now low high at count start pages before behind → before < at - start → behind ≤ at - start → start + pages - (at + count) ≤ at - start → IsLongestIn now low high (span start (at - start))
cut_front old now low high at count start pages before behind cut one two three =
    let after = cut.after in let within = cut.within in let end = cut.longest.within in let some = cut.taken.some in
    record {
      free = λ place a b. cut.taken.before place (omega arith) ∙ cut.longest.free place a (omega arith);
      after = cut.longest.after;
      within = omega arith;
      longest = λ from n low_is inside more free. by_cases from n (place_of_span old now low high at count start pages before behind from n cut low_is inside more free);
      none = λ e. absurd (omega arith);
    }
  where
    by_cases : (from n : ℕ) → ((from + n ≤ start) × (n ≤ before)) ⊎ (((start ≤ from) × (from + n ≤ at)) ⊎ (((at + count ≤ from) × (from + n ≤ start + pages)) ⊎ ((start + pages ≤ from) × (n ≤ behind)))) → (n ≤ at - start) × (n ≡ at - start → start ≤ from)
    by_cases from n (inl i) = (omega (arith, i.1), λ same. absurd (omega (arith, i.1)))
    by_cases from n (inr (inl i)) = (omega (arith, i.0, i.1), λ same. i.0)
    by_cases from n (inr (inr (inl i))) = let after = cut.after in (omega (arith, i.0, i.1), λ same. omega (arith, i.0))
    by_cases from n (inr (inr (inr i))) = let after = cut.after in (omega (arith, i.1), λ same. omega (arith, i.0))

-- what is left behind them
cut_back : (old now : List Bool) (low high at count start pages before behind : ℕ) → IsCut old now low high at count start pages before behind → before < start + pages - (at + count) → behind ≤ start + pages - (at + count) → at - start < start + pages - (at + count)
    → IsLongestIn now low high (span (at + count) (start + pages - (at + count)))
cut_back old now low high at count start pages before behind cut one two three =
    let after = cut.after in let within = cut.within in let low_is = cut.longest.after in let end = cut.longest.within in
    record {
      free = λ place a b. cut.taken.behind place a ∙ cut.longest.free place (omega arith) (omega arith);
      after = omega arith;
      within = omega arith;
      longest = λ from n low_is inside more free. by_cases from n (place_of_span old now low high at count start pages before behind from n cut low_is inside more free);
      none = λ e. absurd (omega arith);
    }
  where
    by_cases : (from n : ℕ) → ((from + n ≤ start) × (n ≤ before)) ⊎ (((start ≤ from) × (from + n ≤ at)) ⊎ (((at + count ≤ from) × (from + n ≤ start + pages)) ⊎ ((start + pages ≤ from) × (n ≤ behind))))
        → (n ≤ start + pages - (at + count)) × (n ≡ start + pages - (at + count) → at + count ≤ from)
    by_cases from n (inl i) = (omega (arith, i.1), λ same. absurd (omega (arith, i.1)))
    by_cases from n (inr (inl i)) = (omega (arith, i.0, i.1), λ same. absurd (omega (arith, i.0, i.1)))
    by_cases from n (inr (inr (inl i))) = (omega (arith, i.0, i.1), λ same. i.0)
    by_cases from n (inr (inr (inr i))) = let within = cut.within in (omega (arith, i.1), λ same. omega (arith, i.0))

-- how long the others are at most
front_bound : (old now : List Bool) (low high at count start pages before behind : ℕ) → IsCut old now low high at count start pages before behind → IsBoundIn now (start + (at - start)) high (max (start + pages - (at + count)) behind)
front_bound old now low high at count start pages before behind cut from n past inside more free =
    let after = cut.after in let low_is = cut.longest.after in
    by_cases (place_of_span old now low high at count start pages before behind from n cut (omega arith) inside more free)
  where
    by_cases : ((from + n ≤ start) × (n ≤ before)) ⊎ (((start ≤ from) × (from + n ≤ at)) ⊎ (((at + count ≤ from) × (from + n ≤ start + pages)) ⊎ ((start + pages ≤ from) × (n ≤ behind)))) → n ≤ max (start + pages - (at + count)) behind
    by_cases (inl i) = let after = cut.after in absurd (omega (arith, i.0))
    by_cases (inr (inl i)) = let after = cut.after in absurd (omega (arith, i.1))
    by_cases (inr (inr (inl i))) = omega (arith, i.0, i.1)
    by_cases (inr (inr (inr i))) = omega (arith, i.1)

back_bound : (old now : List Bool) (low high at count start pages before behind : ℕ) → IsCut old now low high at count start pages before behind → IsBoundIn now low (at + count) (max (at - start) before)
back_bound old now low high at count start pages before behind cut from n low_is inside more free =
    let within = cut.within in let end = cut.longest.within in
    by_cases (place_of_span old now low high at count start pages before behind from n cut low_is (omega arith) more free)
  where
    by_cases : ((from + n ≤ start) × (n ≤ before)) ⊎ (((start ≤ from) × (from + n ≤ at)) ⊎ (((at + count ≤ from) × (from + n ≤ start + pages)) ⊎ ((start + pages ≤ from) × (n ≤ behind)))) → n ≤ max (at - start) before
    by_cases (inl i) = omega (arith, i.1)
    by_cases (inr (inl i)) = omega (arith, i.0, i.1)
    by_cases (inr (inr (inl i))) = absurd (omega (arith, i.0))
    by_cases (inr (inr (inr i))) = let within = cut.within in absurd (omega (arith, i.0))

-- the runs of a block
pub record AreRunsIn (bits : List Bool) (low high : ℕ) (b : Block) : Type 0 where
  pub longest : IsLongestIn bits low high (span (low + b.hint.run_start) b.hint.run)
  pub before : IsBoundIn bits low (low + b.hint.run_start) b.before
  pub behind : IsBoundIn bits (low + b.hint.run_start + b.hint.run) high b.behind

-- they stay, where the taken places are apart from the longest one
pub runs_stay : (old now : List Bool) (low high at count : ℕ) (b : Block) → AreTakenNow old now at count → (low + b.hint.run_start + b.hint.run ≤ at) ⊎ (at + count ≤ low + b.hint.run_start) → IsBlockIn old low high b → AreRunsIn now low high b
runs_stay old now low high at count b are apart is = record {
  longest = run_stays old now low high at count (low + b.hint.run_start) b.hint.run are apart is.hint.run;
  before = bound_stays old now low (low + b.hint.run_start) at count b.before are is.before;
  behind = bound_stays old now (low + b.hint.run_start + b.hint.run) high at count b.behind are is.behind;
}

some_is : {A : Type 0} (x y : A) → Some x ≡ Some y → x ≡ y
some_is x y e = cc

-- and are told by the cut, where they are of the longest one
pub runs_cut : (old now : List Bool) (low high at count : ℕ) (b cut : Block) → AreTakenNow old now at count → low + b.hint.run_start ≤ at → at + count ≤ low + b.hint.run_start + b.hint.run → IsBlockIn old low high b
    → block_cut (at - low) (at + count - low) b ≡ Some cut → AreRunsIn now low high cut
runs_cut old now low high at count b cut are from to is told = by_front (nat_le back front && nat_lt b.before front && nat_le b.behind front) refl told
  where
    front : ℕ
    front = at - low - b.hint.run_start

    back : ℕ
    back = b.hint.run_start + b.hint.run - (at + count - low)

    is_cut : IsCut old now low high at count (low + b.hint.run_start) b.hint.run b.before b.behind
    is_cut = record { taken = are; longest = is.hint.run; after = from; within = to; bound_before = is.before; bound_behind = is.behind }

    front_is : front ≡ at - (low + b.hint.run_start)
    front_is = omega arith

    back_is : back ≡ low + b.hint.run_start + b.hint.run - (at + count)
    back_is = omega arith

    front_cut : Block
    front_cut = record b { hint = record b.hint { run = front }; behind = max back b.behind }

    back_cut : Block
    back_cut = record b { hint = record b.hint { run_start = at + count - low; run = back }; before = max front b.before }

    by_back : (t : Bool) → (nat_lt front back && nat_lt b.before back && nat_le b.behind back) ≡ t → (if t then Some back_cut else None) ≡ Some cut → AreRunsIn now low high cut
    by_back true e told =
        let tests : (front < back) × (b.before < back) × (b.behind ≤ back) = (grind (arith, nat_tests), grind (arith, nat_tests), grind (arith, nat_tests)) in
        let at_is : at + count ≡ low + (at + count - low) = omega arith in
        subst (AreRunsIn now low high) (some_is back_cut cut told) (record {
          longest = subst (λ n. IsLongestIn now low high (span n back)) at_is (subst (λ n. IsLongestIn now low high (span (at + count) n)) (sym back_is) (cut_back old now low high at count (low + b.hint.run_start) b.hint.run b.before b.behind is_cut (omega (arith, tests.1, back_is)) (omega (arith, tests.2, back_is)) (omega (arith, tests.0, front_is, back_is))));
          before = subst (λ n. IsBoundIn now low n (max front b.before)) at_is (subst (λ n. IsBoundIn now low (at + count) (max n b.before)) (sym front_is) (back_bound old now low high at count (low + b.hint.run_start) b.hint.run b.before b.behind is_cut));
          behind = let end : low + b.hint.run_start + b.hint.run ≡ low + (at + count - low) + back = omega (arith, back_is) in
              subst (λ n. IsBoundIn now n high b.behind) end (bound_stays old now (low + b.hint.run_start + b.hint.run) high at count b.behind are is.behind);
        })
    by_back false e told = absurd (let no : None ≡ Some cut = told in cc)

    by_front : (t : Bool) → (nat_le back front && nat_lt b.before front && nat_le b.behind front) ≡ t → (if t then Some front_cut else (if nat_lt front back && nat_lt b.before back && nat_le b.behind back then Some back_cut else None)) ≡ Some cut → AreRunsIn now low high cut
    by_front true e told =
        let tests : (back ≤ front) × (b.before < front) × (b.behind ≤ front) = (grind (arith, nat_tests), grind (arith, nat_tests), grind (arith, nat_tests)) in
        subst (AreRunsIn now low high) (some_is front_cut cut told) (record {
          longest = subst (λ n. IsLongestIn now low high (span (low + b.hint.run_start) n)) (sym front_is) (cut_front old now low high at count (low + b.hint.run_start) b.hint.run b.before b.behind is_cut (omega (arith, tests.1, front_is)) (omega (arith, tests.2, front_is)) (omega (arith, tests.0, front_is, back_is)));
          before = bound_stays old now low (low + b.hint.run_start) at count b.before are is.before;
          behind = subst (λ n. IsBoundIn now (low + b.hint.run_start + n) high (max back b.behind)) (sym front_is) (subst (λ n. IsBoundIn now (low + b.hint.run_start + (at - (low + b.hint.run_start))) high (max n b.behind)) (sym back_is) (front_bound old now low high at count (low + b.hint.run_start) b.hint.run b.before b.behind is_cut));
        })
    by_front false e told = by_back (nat_lt front back && nat_lt b.before back && nat_le b.behind back) refl told

-- the places of which one is of the longest run are all
pub cut_inside : (old now : List Bool) (low high at count : ℕ) (b : Block) → AreTakenNow old now at count → IsPlaced low high at count → IsBlockIn old low high b → (nat_lt (at - low) (b.hint.run_start + b.hint.run) && nat_lt b.hint.run_start (at - low + count)) ≡ true
    → (b.hint.run_start ≤ at - low) × (at - low + count ≤ b.hint.run_start + b.hint.run)
cut_inside old now low high at count b are placed is e =
    let after = placed.after in let some = are.some in
    let tests : (at - low < b.hint.run_start + b.hint.run) × (b.hint.run_start < at - low + count) = (grind (arith, nat_tests), grind (arith, nat_tests)) in
    let i = in_longest old low high (low + b.hint.run_start) b.hint.run at count is.hint.run after placed.within (λ place one two. are.were_free place one two) (omega (arith, tests.0)) (omega (arith, tests.1)) in
    (omega (arith, i.0), omega (arith, i.1))
