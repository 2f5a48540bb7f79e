-- A scan of bits upward: the longest free span so far, and the free span at the end.
use Rattle.std.proofs.Common.{◌≡◌, ℕ, ◌+◌, ◌-◌, ◌<◌, ◌≤◌, ◌⊎◌, inl, inr, Bool, true, false, List, slice_get, Some, refl, ap, ◌∙◌, arith}
use Rattle.std.proofs.lemmas.Bool.{cases_lt}
use Rattle.vm_model.specs.declared.areas.Span.{Span}
use Rattle.vm_model.specs.Space.{span, is_free_at, is_open}
use Rattle.vm_model.specs.Hints.{IsFreeSpan, IsLongestIn}

-- the free places at the end of those between two places begin at the start
pub record IsEnding (bits : List Bool) (low high start : ℕ) : Type 0 where
  pub after : low ≤ start
  pub within : start ≤ high
  pub free : IsFreeSpan bits (span start (high - start))
  pub before : low < start → is_free_at bits (start - 1) ≡ false

pub longest_at_first : (bits : List Bool) (low : ℕ) → IsLongestIn bits low low (span low 0)
longest_at_first bits low = record {
  free = λ place a b. absurd (omega arith);
  after = omega arith;
  within = omega arith;
  longest = λ start pages from to some are. absurd (omega arith);
  none = λ e. refl;
}

pub ending_at_first : (bits : List Bool) (low : ℕ) → IsEnding bits low low low
ending_at_first bits low = record { after = omega arith; within = omega arith; free = λ place a b. absurd (omega arith); before = λ h. absurd (omega arith) }

pub ending_taken : (bits : List Bool) (low place : ℕ) → low ≤ place → is_free_at bits place ≡ false → IsEnding bits low (place + 1) (place + 1)
ending_taken bits low place h taken = record {
  after = omega arith;
  within = omega arith;
  free = λ other a b. absurd (omega arith);
  before = λ l. let e : place + 1 - 1 ≡ place = omega arith in ap (is_free_at bits) e ∙ taken;
}

pub ending_grown : (bits : List Bool) (low mid high start : ℕ) → mid ≤ high → IsEnding bits low mid start → ((place : ℕ) → mid ≤ place → place < high → is_free_at bits place ≡ true) → IsEnding bits low high start
ending_grown bits low mid high start order is free =
    let within = is.within in
    record {
      after = is.after;
      within = omega arith;
      free = λ place a b. by_cases place a b (cases_lt place mid);
      before = is.before;
    }
  where
    by_cases : (place : ℕ) → start ≤ place → place < start + (high - start) → (place < mid) ⊎ (mid ≤ place) → is_free_at bits place ≡ true
    by_cases place a b (inl below) = is.free place a (omega arith)
    by_cases place a b (inr past) = let within = is.within in free place past (omega arith)

-- a free span over the end so far begins there at the earliest
pub not_before_ending : (bits : List Bool) (low high start from pages : ℕ) → IsEnding bits low high start → low ≤ from → high ≤ from + pages → IsFreeSpan bits (span from pages) → start ≤ from
not_before_ending bits low high start from pages is low_is over are = by_cases (cases_lt from start)
  where
    by_cases : (from < start) ⊎ (start ≤ from) → start ≤ from
    by_cases (inl below) = let within = is.within in let none = is.before (omega arith) in let yes = are (start - 1) (omega arith) (omega arith) in cc
    by_cases (inr h) = h

-- what is as long as each free span up to a place, and as each one over it, is longest
over_end : (bits : List Bool) (low mid high start from pages : ℕ) → IsEnding bits low mid start → low ≤ from → from + pages ≤ high → mid < from + pages → IsFreeSpan bits (span from pages) → (start ≤ from) × (pages ≤ high - start)
over_end bits low mid high start from pages is low_is within over are =
    let first = not_before_ending bits low mid start from pages is low_is (omega arith) are in (first, omega arith)

pub longest_stays : (bits : List Bool) (low mid high start : ℕ) (best : Span) → mid ≤ high → IsEnding bits low mid start → IsLongestIn bits low mid best → high - start ≤ best.pages → IsLongestIn bits low high best
longest_stays bits low mid high start best order is longest few =
    let inside = longest.within in
    record {
      free = longest.free;
      after = longest.after;
      within = omega arith;
      longest = λ from pages low_is within some are. by_cases from pages low_is within some are (cases_lt mid (from + pages));
      none = longest.none;
    }
  where
    by_cases : (from pages : ℕ) → low ≤ from → from + pages ≤ high → 0 < pages → IsFreeSpan bits (span from pages) → (mid < from + pages) ⊎ (from + pages ≤ mid) → (pages ≤ best.pages) × (pages ≡ best.pages → best.start ≤ from)
    by_cases from pages low_is within some are (inr before) = longest.longest from pages low_is before some are
    by_cases from pages low_is within some are (inl over) =
        let inside = longest.within in let o = over_end bits low mid high start from pages is low_is within over are in
        (omega (arith, o.1), λ same. omega (arith, o.0, o.1))

pub longest_grows : (bits : List Bool) (low mid high start : ℕ) (best : Span) → mid ≤ high → IsEnding bits low mid start → IsLongestIn bits low mid best → best.pages < high - start
    → ((place : ℕ) → mid ≤ place → place < high → is_free_at bits place ≡ true) → IsLongestIn bits low high (span start (high - start))
longest_grows bits low mid high start best order is longest more free =
    let grown = ending_grown bits low mid high start order is free in
    let within = grown.within in
    record {
      free = grown.free;
      after = is.after;
      within = omega arith;
      longest = λ from pages low_is inside some are. by_cases from pages low_is inside some are (cases_lt mid (from + pages));
      none = λ e. absurd (omega arith);
    }
  where
    by_cases : (from pages : ℕ) → low ≤ from → from + pages ≤ high → 0 < pages → IsFreeSpan bits (span from pages) → (mid < from + pages) ⊎ (from + pages ≤ mid) → (pages ≤ high - start) × (pages ≡ high - start → start ≤ from)
    by_cases from pages low_is inside some are (inr before) = let l = longest.longest from pages low_is before some are in (omega (arith, l.0), λ same. absurd (omega (arith, l.0)))
    by_cases from pages low_is inside some are (inl over) = let o = over_end bits low mid high start from pages is low_is inside over are in (o.1, λ same. o.0)

-- taken places add nothing
pub longest_taken : (bits : List Bool) (low mid high : ℕ) (best : Span) → mid ≤ high → IsLongestIn bits low mid best → ((place : ℕ) → mid ≤ place → place < high → is_free_at bits place ≡ false) → IsLongestIn bits low high best
longest_taken bits low mid high best order longest taken =
    let inside = longest.within in
    record {
      free = longest.free;
      after = longest.after;
      within = omega arith;
      longest = λ from pages low_is within some are. by_cases from pages low_is within some are (cases_lt mid (from + pages));
      none = longest.none;
    }
  where
    by_cases : (from pages : ℕ) → low ≤ from → from + pages ≤ high → 0 < pages → IsFreeSpan bits (span from pages) → (mid < from + pages) ⊎ (from + pages ≤ mid) → (pages ≤ best.pages) × (pages ≡ best.pages → best.start ≤ from)
    by_cases from pages low_is within some are (inr before) = longest.longest from pages low_is before some are
    by_cases from pages low_is within some are (inl over) = let none = taken (from + pages - 1) (omega arith) (omega arith) in let yes = are (from + pages - 1) (omega arith) (omega arith) in cc

pub free_read : (bits : List Bool) (place : ℕ) → slice_get bits place ≡ Some false → is_free_at bits place ≡ true
free_read bits place e = ap is_open e

pub taken_read : (bits : List Bool) (place : ℕ) → slice_get bits place ≡ Some true → is_free_at bits place ≡ false
taken_read bits place e = ap is_open e
