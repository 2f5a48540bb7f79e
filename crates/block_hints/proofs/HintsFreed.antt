-- What is kept once bits are free, from the free run in which they lie.
use Rattle.std.proofs.Common.{◌≡◌, ◌≢◌, ℕ, suc, ◌+◌, ◌-◌, ◌<◌, ◌≤◌, ◌⊎◌, inl, inr, min, max, Bool, true, false, ◌==◌, nat_lt, if◌then◌else◌, List, length, slice_get, Option, Some, None, option_map, refl, ap, sym, ◌∙◌, subst, arith}
use Rattle.std.proofs.lemmas.Bool.{cases_lt, cases_eq}
use Rattle.std.proofs.lemmas.Option.{slice_get-get_or}
use Rattle.std.proofs.lemmas.Bool.Decides.{nat_tests}
use Rattle.vm_model.specs.declared.rows.Hint.{Hint}
use Rattle.vm_model.specs.Space.{span, holds, paint, is_free_at}
use Rattle.vm_model.specs.Hints.{IsFreeSpan, IsLongestIn, IsHintIn}
use Rattle.vm_model.proofs.Paint.{slice_get-paint}
use Rattle.vm_model.proofs.Scans.{free_read}
use Rattle.block_hints.specs.declared.block_scan.Block.{Block}
use Rattle.block_hints.specs.KeptHints.{IsBoundIn, IsBlockIn}
use Rattle.block_hints.specs.Freed.{IsRunAround, is_longer, hint_with_run, block_with}
use Rattle.block_hints.proofs.Borders.{IsLeft, IsRight, IsFirst, choose}
use Rattle.block_hints.proofs.KeptHintProofs.{alike_apart}

-- so many places are free now, and the others are as they were
pub record AreFreeNow (old now : List Bool) (at count : ℕ) : Type 0 where
  pub some : 1 ≤ count
  pub are_free : (place : ℕ) → at ≤ place → place < at + count → is_free_at now place ≡ true
  pub before : (place : ℕ) → place < at → is_free_at now place ≡ is_free_at old place
  pub behind : (place : ℕ) → at + count ≤ place → is_free_at now place ≡ is_free_at old place

pub painted_free : (bits now : List Bool) (at count : ℕ) → now ≡ paint (holds (span at count)) false bits → 1 ≤ count → ((place : ℕ) → at ≤ place → place < at + count → is_free_at now place ≡ true) → AreFreeNow bits now at count
painted_free bits now at count is some free = record {
  some = some;
  are_free = free;
  before = λ place a. alike_apart bits now at count 0 at false is (inl (omega arith)) place (omega arith) a;
  behind = λ place a. alike_apart bits now at count (at + count) (suc place) false is (inr (omega arith)) place a (omega arith);
}

pub freed_is_free : (bits now : List Bool) (at count place : ℕ) → now ≡ paint (holds (span at count)) false bits → place < length now → at ≤ place → place < at + count → is_free_at now place ≡ true
freed_is_free bits now at count place is inside from to =
    free_by (slice_get bits place) (ap (λ bs. slice_get bs place) is ∙ slice_get-paint (holds (span at count)) false bits place)
  where
    free_by : (o : Option Bool) → slice_get now place ≡ option_map (λ y. if holds (span at count) place then false else y) o → is_free_at now place ≡ true
    free_by None e = let there = slice_get-get_or now place false inside in cc
    free_by (Some y) e =
        let inside : holds (span at count) place ≡ true = grind (arith, nat_tests) in
        free_read now place (e ∙ ap (λ b. Some (if b then false else y)) inside)

-- what was free stays free
still_free : (old now : List Bool) (at count place : ℕ) → AreFreeNow old now at count → is_free_at old place ≡ true → is_free_at now place ≡ true
still_free old now at count place are free = by_cases (cases_lt place at) (cases_lt place (at + count))
  where
    by_cases : (place < at) ⊎ (at ≤ place) → (place < at + count) ⊎ (at + count ≤ place) → is_free_at now place ≡ true
    by_cases (inl before) end = are.before place before ∙ free
    by_cases (inr from) (inl to) = are.are_free place from to
    by_cases (inr from) (inr past) = are.behind place past ∙ free

-- A free span lies in the run, or is apart from it and was free.

inside_or_apart : (now : List Bool) (low high at end start stop from pages : ℕ) → IsRunAround now low high at end start stop → low ≤ from → from + pages ≤ high → 0 < pages → IsFreeSpan now (span from pages)
    → ((start ≤ from) × (from + pages ≤ stop)) ⊎ ((from + pages ≤ start) ⊎ (stop ≤ from))
inside_or_apart now low high at end start stop from pages run after inside some are = by_cases (cases_lt from start) (cases_lt start (from + pages)) (cases_lt from stop) (cases_lt stop (from + pages))
  where
    by_cases : (from < start) ⊎ (start ≤ from) → (start < from + pages) ⊎ (from + pages ≤ start) → (from < stop) ⊎ (stop ≤ from) → (stop < from + pages) ⊎ (from + pages ≤ stop) → ((start ≤ from) × (from + pages ≤ stop)) ⊎ ((from + pages ≤ start) ⊎ (stop ≤ from))
    by_cases one (inr before) three four = inr (inl before)
    by_cases one two (inr past) four = inr (inr past)
    by_cases (inl under) (inl over) three four = let taken = run.left (omega arith) in let free = are (start - 1) (omega arith) (omega arith) in cc
    by_cases (inr from_on) two (inl short) (inl over) = let taken = run.right (omega arith) in let free = are stop (omega arith) over in cc
    by_cases (inr from_on) two (inl short) (inr to) = inl (from_on, to)

was_free : (old now : List Bool) (low high at count start stop from pages : ℕ) → AreFreeNow old now at count → IsRunAround now low high at (at + count) start stop → (from + pages ≤ start) ⊎ (stop ≤ from) → IsFreeSpan now (span from pages) → IsFreeSpan old (span from pages)
was_free old now low high at count start stop from pages are run (inl before) free = let order = run.before in λ place a b. sym (are.before place (omega arith)) ∙ free place a b
was_free old now low high at count start stop from pages are run (inr past) free = let order = run.behind in λ place a b. sym (are.behind place (omega arith)) ∙ free place a b

-- The longest run.

longer_true : (start count : ℕ) (h : Hint) → is_longer start count h ≡ true → (h.run ≤ count) × (count ≤ h.run → start < h.run_start)
longer_true start count h e = (grind (arith, nat_tests), λ same. grind (arith, nat_tests))

longer_false : (start count : ℕ) (h : Hint) → is_longer start count h ≡ false → (count ≤ h.run) × (h.run ≤ count → h.run_start ≤ start)
longer_false start count h e = (grind (arith, nat_tests), λ same. grind (arith, nat_tests))

longest_taken_over : (old now : List Bool) (low high at count start stop n : ℕ) (h : Hint) → AreFreeNow old now at count → IsRunAround now low high at (at + count) start stop → n ≡ stop - start
    → (h.run ≤ n) × (n ≤ h.run → start - low < h.run_start) → IsLongestIn old low high (span (low + h.run_start) h.run) → IsLongestIn now low high (span (low + (start - low)) n)
longest_taken_over old now low high at count start stop n h are run long longer is =
    let after = run.after in let before = run.before in let behind = run.behind in let within = run.within in let some = are.some in
    record {
      free = λ place a b. run.free place (omega arith) (omega arith);
      after = omega arith;
      within = omega arith;
      longest = λ from pages low_is inside many free. by_cases from pages low_is inside many free (inside_or_apart now low high at (at + count) start stop from pages run low_is inside many free);
      none = λ e. absurd (omega arith);
    }
  where
    by_cases : (from pages : ℕ) → low ≤ from → from + pages ≤ high → 0 < pages → IsFreeSpan now (span from pages) → ((start ≤ from) × (from + pages ≤ stop)) ⊎ ((from + pages ≤ start) ⊎ (stop ≤ from)) → (pages ≤ n) × (pages ≡ n → low + (start - low) ≤ from)
    by_cases from pages low_is inside many free (inl within) = let after = run.after in (omega (arith, within.0, within.1), λ same. omega (arith, within.0))
    by_cases from pages low_is inside many free (inr apart) =
        let l = is.longest from pages low_is inside many (was_free old now low high at count start stop from pages are run apart free) in
        (omega (arith, l.0, longer.0), λ same. let less = longer.1 (omega (arith, l.0)) in let first = l.1 (omega (arith, l.0, longer.0)) in let after = run.after in omega arith)

longest_kept : (old now : List Bool) (low high at count start stop n : ℕ) (h : Hint) → AreFreeNow old now at count → IsRunAround now low high at (at + count) start stop → n ≡ stop - start
    → (n ≤ h.run) × (h.run ≤ n → h.run_start ≤ start - low) → IsLongestIn old low high (span (low + h.run_start) h.run) → IsLongestIn now low high (span (low + h.run_start) h.run)
longest_kept old now low high at count start stop n h are run long shorter is =
    let before = run.before in let behind = run.behind in let some = are.some in
    record {
      free = λ place a b. still_free old now at count place are (is.free place a b);
      after = is.after;
      within = is.within;
      longest = λ from pages low_is inside many free. by_cases from pages low_is inside many free (inside_or_apart now low high at (at + count) start stop from pages run low_is inside many free);
      none = λ e. absurd (omega (arith, shorter.0));
    }
  where
    by_cases : (from pages : ℕ) → low ≤ from → from + pages ≤ high → 0 < pages → IsFreeSpan now (span from pages) → ((start ≤ from) × (from + pages ≤ stop)) ⊎ ((from + pages ≤ start) ⊎ (stop ≤ from)) → (pages ≤ h.run) × (pages ≡ h.run → low + h.run_start ≤ from)
    by_cases from pages low_is inside many free (inl within) =
        let after = run.after in (omega (arith, within.0, within.1, shorter.0), λ same. let first = shorter.1 (omega (arith, within.0, within.1)) in omega (arith, within.0, within.1))
    by_cases from pages low_is inside many free (inr apart) = is.longest from pages low_is inside many (was_free old now low high at count start stop from pages are run apart free)

longest_with : (old now : List Bool) (low high at count start stop n : ℕ) (h : Hint) (b : Bool) → AreFreeNow old now at count → IsRunAround now low high at (at + count) start stop → n ≡ stop - start → is_longer (start - low) n h ≡ b
    → IsLongestIn old low high (span (low + h.run_start) h.run) → IsLongestIn now low high (span (low + (if b then start - low else h.run_start)) (max n h.run))
longest_with old now low high at count start stop n h true are run long e is =
    let longer = longer_true (start - low) n h e in
    let most : n ≡ max n h.run = omega (arith, longer.0) in
    subst (λ k. IsLongestIn now low high (span (low + (start - low)) k)) most (longest_taken_over old now low high at count start stop n h are run long longer is)
longest_with old now low high at count start stop n h false are run long e is =
    let shorter = longer_false (start - low) n h e in
    let most : h.run ≡ max n h.run = omega (arith, shorter.0) in
    subst (λ k. IsLongestIn now low high (span (low + h.run_start) k)) most (longest_kept old now low high at count start stop n h are run long shorter is)

-- The ends.

choose_same : (P : ℕ → Type 0) (a c x y : ℕ) → (a ≡ c → P x) → (a ≢ c → P y) → P (if a == c then x else y)
choose_same P a c x y f g = by_cases (cases_eq a c)
  where
    by_cases : (a ≡ c) ⊎ (a ≢ c) → P (if a == c then x else y)
    by_cases (inl same) = let e : (a == c) ≡ true = grind (arith, nat_tests) in subst (λ b. P (if b then x else y)) (sym e) (f same)
    by_cases (inr other) = let e : (a == c) ≡ false = grind (arith, nat_tests) in subst (λ b. P (if b then x else y)) (sym e) (g other)

left_with : (old now : List Bool) (low high at count start stop n : ℕ) (h : Hint) → AreFreeNow old now at count → IsRunAround now low high at (at + count) start stop → n ≡ stop - start → IsHintIn old low high h → IsLeft now low high (if start - low == 0 then n else h.left)
left_with old now low high at count start stop n h are run long is =
    let after = run.after in let before = run.before in let behind = run.behind in let within = run.within in
    choose_same (IsLeft now low high) (start - low) 0 n h.left
    (λ same. record {
      within = omega arith;
      free = λ place a b. run.free place (omega arith) (omega arith);
      end = λ more. let e : low + n ≡ stop = omega arith in ap (is_free_at now) e ∙ run.right (omega arith);
    })
    (λ other. record {
      within = is.left_within;
      free = λ place a b. still_free old now at count place are (is.left_free place a b);
      end = λ more. are.before (low + h.left) (omega (arith, short other (cases_lt (low + h.left) start))) ∙ is.left_end more;
    })
  where
    short : start - low ≢ 0 → (low + h.left < start) ⊎ (start ≤ low + h.left) → low + h.left < start
    short other (inl h) = h
    short other (inr over) = let after = run.after in
        let taken = run.left (omega arith) in let free = still_free old now at count (start - 1) are (is.left_free (start - 1) (omega arith) (omega arith)) in cc

right_with : (old now : List Bool) (low high at count start stop n : ℕ) (h : Hint) → AreFreeNow old now at count → IsRunAround now low high at (at + count) start stop → n ≡ stop - start → IsHintIn old low high h → IsRight now low high (if stop - low == high - low then n else h.right)
right_with old now low high at count start stop n h are run long is =
    let after = run.after in let before = run.before in let behind = run.behind in let within = run.within in
    choose_same (IsRight now low high) (stop - low) (high - low) n h.right
    (λ same. record {
      within = omega arith;
      free = λ place a b. run.free place (omega arith) (omega arith);
      end = λ more. let e : high - suc n ≡ start - 1 = omega arith in ap (is_free_at now) e ∙ run.left (omega arith);
    })
    (λ other. record {
      within = is.right_within;
      free = λ place a b. still_free old now at count place are (is.right_free place a b);
      end = λ more. are.behind (high - suc h.right) (omega (arith, short other (cases_lt stop (high - h.right)), is.right_within)) ∙ is.right_end more;
    })
  where
    short : stop - low ≢ high - low → (stop < high - h.right) ⊎ (high - h.right ≤ stop) → stop < high - h.right
    short other (inl h) = h
    short other (inr over) = let after = run.after in let before = run.before in let behind = run.behind in let within = run.within in
        let taken = run.right (omega arith) in let free = still_free old now at count stop are (is.right_free stop over (omega arith)) in cc

first_with : (old now : List Bool) (low high at count : ℕ) (h : Hint) → AreFreeNow old now at count → low ≤ at → at + count ≤ high → IsHintIn old low high h → IsFirst now low high (min h.first (at - low))
first_with old now low high at count h are after inside is =
    let within = is.first_within in
    record {
      within = omega arith;
      taken = λ place a b. are.before place (omega arith) ∙ is.first_taken place a (omega arith);
      end = λ more. free_by (cases_lt (at - low) h.first) more;
    }
  where
    free_by : (at - low < h.first) ⊎ (h.first ≤ at - low) → low + min h.first (at - low) < high → is_free_at now (low + min h.first (at - low)) ≡ true
    free_by (inl under) more = let some = are.some in let e : low + min h.first (at - low) ≡ at = omega arith in ap (is_free_at now) e ∙ are.are_free at (omega arith) (omega arith)
    free_by (inr over) more = let e : low + min h.first (at - low) ≡ low + h.first = omega arith in ap (is_free_at now) e ∙ still_free old now at count (low + h.first) are (is.first_free (omega arith))

-- the hint
pub freed_hint : (old now : List Bool) (low high at count start stop : ℕ) (h : Hint) → AreFreeNow old now at count → IsRunAround now low high at (at + count) start stop → IsHintIn old low high h
    → IsHintIn now low high (hint_with_run (high - low) (at - low) (start - low) (stop - low) h)
freed_hint old now low high at count start stop h are run is =
    let after = run.after in let before = run.before in let behind = run.behind in let within = run.within in
    let n = stop - low - (start - low) in
    let long : n ≡ stop - start = omega arith in
    let left = left_with old now low high at count start stop n h are run long is in
    let right = right_with old now low high at count start stop n h are run long is in
    let first = first_with old now low high at count h are (omega arith) (omega arith) is in
    record {
      run = longest_with old now low high at count start stop n h (is_longer (start - low) n h) are run long refl is.run;
      left_within = left.within;
      left_free = left.free;
      left_end = left.end;
      right_within = right.within;
      right_free = right.free;
      right_end = right.end;
      first_within = first.within;
      first_taken = first.taken;
      first_free = first.end;
    }

-- How long the runs before the longest one are at most.

before_run : (old now : List Bool) (low high at count start stop end most : ℕ) → AreFreeNow old now at count → IsRunAround now low high at (at + count) start stop → end ≤ start → IsBoundIn old low end most → IsBoundIn now low end most
before_run old now low high at count start stop end most are run order is from pages low_is inside some free =
    is from pages low_is inside some (was_free old now low high at count start stop from pages are run (inl (omega arith)) free)

before_longer : (old now : List Bool) (low high at count start stop : ℕ) (b : Block) → AreFreeNow old now at count → IsRunAround now low high at (at + count) start stop → IsBlockIn old low high b
    → IsBoundIn now low (low + (start - low)) (if nat_lt b.hint.run_start (start - low) then b.hint.run else b.before)
before_longer old now low high at count start stop b are run is =
    let after = run.after in let before = run.before in let behind = run.behind in let within = run.within in
    choose (IsBoundIn now low (low + (start - low))) b.hint.run_start (start - low) b.hint.run b.before
    (λ less. before_run old now low high at count start stop (low + (start - low)) b.hint.run are run (omega arith) (λ from pages low_is inside some free. (is.hint.run.longest from pages low_is (omega arith) some free).0))
    (λ more. before_run old now low high at count start stop (low + (start - low)) b.before are run (omega arith) (λ from pages low_is inside some free. is.before from pages low_is (omega arith) some free))

before_shorter : (old now : List Bool) (low high at count start stop n : ℕ) (b : Block) → AreFreeNow old now at count → IsRunAround now low high at (at + count) start stop → n ≡ stop - start → IsBlockIn old low high b
    → IsBoundIn now low (low + b.hint.run_start) (if nat_lt (start - low) b.hint.run_start then max n b.before else b.before)
before_shorter old now low high at count start stop n b are run long is =
    let after = run.after in let run_end = is.hint.run.within in
    choose (IsBoundIn now low (low + b.hint.run_start)) (start - low) b.hint.run_start (max n b.before) b.before
    (λ less. λ from pages low_is inside some free. by_cases from pages low_is inside some free (inside_or_apart now low high at (at + count) start stop from pages run low_is (omega arith) some free))
    (λ more. before_run old now low high at count start stop (low + b.hint.run_start) b.before are run (omega arith) is.before)
  where
    by_cases : (from pages : ℕ) → low ≤ from → from + pages ≤ low + b.hint.run_start → 0 < pages → IsFreeSpan now (span from pages) → ((start ≤ from) × (from + pages ≤ stop)) ⊎ ((from + pages ≤ start) ⊎ (stop ≤ from)) → pages ≤ max n b.before
    by_cases from pages low_is inside some free (inl within) = omega (arith, within.0, within.1)
    by_cases from pages low_is inside some free (inr apart) = omega (arith, is.before from pages low_is inside some (was_free old now low high at count start stop from pages are run apart free))

-- And behind it.

behind_run : (old now : List Bool) (low high at count start stop begin most : ℕ) → AreFreeNow old now at count → IsRunAround now low high at (at + count) start stop → stop ≤ begin → IsBoundIn old begin high most → IsBoundIn now begin high most
behind_run old now low high at count start stop begin most are run order is from pages after inside some free =
    is from pages after inside some (was_free old now low high at count start stop from pages are run (inr (omega arith)) free)

behind_longer : (old now : List Bool) (low high at count start stop n : ℕ) (b : Block) → AreFreeNow old now at count → IsRunAround now low high at (at + count) start stop → n ≡ stop - start → IsBlockIn old low high b
    → IsBoundIn now (low + (start - low) + n) high (if nat_lt (stop - low) b.hint.run_start then b.hint.run else b.behind)
behind_longer old now low high at count start stop n b are run long is =
    let after = run.after in let before = run.before in let behind = run.behind in let within = run.within in
    choose (IsBoundIn now (low + (start - low) + n) high) (stop - low) b.hint.run_start b.hint.run b.behind
    (λ less. behind_run old now low high at count start stop (low + (start - low) + n) b.hint.run are run (omega arith) (λ from pages past inside some free. (is.hint.run.longest from pages (omega arith) inside some free).0))
    (λ more. behind_run old now low high at count start stop (low + (start - low) + n) b.behind are run (omega arith) (λ from pages past inside some free. is.behind from pages (let end = past_longest more (cases_lt stop (low + b.hint.run_start + b.hint.run)) in omega arith) inside some free))
  where
    past_longest : b.hint.run_start ≤ stop - low → (stop < low + b.hint.run_start + b.hint.run) ⊎ (low + b.hint.run_start + b.hint.run ≤ stop) → low + b.hint.run_start + b.hint.run ≤ stop
    past_longest more (inr past) = past
    past_longest more (inl inside) =
        let after = run.after in let before = run.before in let behind = run.behind in let within = is.hint.run.within in
        let taken = run.right (omega arith) in let free = still_free old now at count stop are (is.hint.run.free stop (omega arith) inside) in cc

behind_shorter : (old now : List Bool) (low high at count start stop n : ℕ) (b : Block) → AreFreeNow old now at count → IsRunAround now low high at (at + count) start stop → n ≡ stop - start → n ≤ b.hint.run → IsBlockIn old low high b
    → IsBoundIn now (low + b.hint.run_start + b.hint.run) high (if nat_lt (start - low) b.hint.run_start then b.behind else max n b.behind)
behind_shorter old now low high at count start stop n b are run long short is =
    let after = run.after in
    choose (IsBoundIn now (low + b.hint.run_start + b.hint.run) high) (start - low) b.hint.run_start b.behind (max n b.behind)
    (λ less. λ from pages past inside some free. apart_by less from pages past inside some free (inside_or_apart now low high at (at + count) start stop from pages run (omega arith) inside some free))
    (λ more. λ from pages past inside some free. by_cases from pages past inside some free (inside_or_apart now low high at (at + count) start stop from pages run (omega arith) inside some free))
  where
    by_cases : (from pages : ℕ) → low + b.hint.run_start + b.hint.run ≤ from → from + pages ≤ high → 0 < pages → IsFreeSpan now (span from pages) → ((start ≤ from) × (from + pages ≤ stop)) ⊎ ((from + pages ≤ start) ⊎ (stop ≤ from)) → pages ≤ max n b.behind
    by_cases from pages past inside some free (inl within) = omega (arith, within.0, within.1)
    by_cases from pages past inside some free (inr apart) = omega (arith, is.behind from pages past inside some (was_free old now low high at count start stop from pages are run apart free))

    apart_by : start - low < b.hint.run_start → (from pages : ℕ) → low + b.hint.run_start + b.hint.run ≤ from → from + pages ≤ high → 0 < pages → IsFreeSpan now (span from pages) → ((start ≤ from) × (from + pages ≤ stop)) ⊎ ((from + pages ≤ start) ⊎ (stop ≤ from)) → pages ≤ b.behind
    apart_by less from pages past inside some free (inl within) = absurd (omega (arith, within.1))
    apart_by less from pages past inside some free (inr apart) = is.behind from pages past inside some (was_free old now low high at count start stop from pages are run apart free)

bounds_with : (old now : List Bool) (low high at count start stop n : ℕ) (b : Block) (longer : Bool) → AreFreeNow old now at count → IsRunAround now low high at (at + count) start stop → n ≡ stop - start → is_longer (start - low) n b.hint ≡ longer → IsBlockIn old low high b
    → (IsBoundIn now low (low + (if longer then start - low else b.hint.run_start))
    (if longer then (if nat_lt b.hint.run_start (start - low) then b.hint.run else b.before) else (if nat_lt (start - low) b.hint.run_start then max n b.before else b.before)))
    × (IsBoundIn now (low + (if longer then start - low else b.hint.run_start) + max n b.hint.run) high
    (if longer then (if nat_lt (stop - low) b.hint.run_start then b.hint.run else b.behind) else (if nat_lt (start - low) b.hint.run_start then b.behind else max n b.behind)))
bounds_with old now low high at count start stop n b true are run long e is =
    let longer = longer_true (start - low) n b.hint e in
    let most : n ≡ max n b.hint.run = omega (arith, longer.0) in (
      before_longer old now low high at count start stop b are run is,
      subst (λ k. IsBoundIn now (low + (start - low) + k) high (if nat_lt (stop - low) b.hint.run_start then b.hint.run else b.behind)) most (behind_longer old now low high at count start stop n b are run long is),
    )
bounds_with old now low high at count start stop n b false are run long e is =
    let shorter = longer_false (start - low) n b.hint e in
    let most : b.hint.run ≡ max n b.hint.run = omega (arith, shorter.0) in (
      before_shorter old now low high at count start stop n b are run long is,
      subst (λ k. IsBoundIn now (low + b.hint.run_start + k) high (if nat_lt (start - low) b.hint.run_start then b.behind else max n b.behind)) most (behind_shorter old now low high at count start stop n b are run long shorter.0 is),
    )

-- what is kept of a block
pub freed_block : (old now : List Bool) (low high at count start stop : ℕ) (b : Block) → AreFreeNow old now at count → IsRunAround now low high at (at + count) start stop → IsBlockIn old low high b
    → IsBlockIn now low high (block_with (high - low) (at - low) (start - low) (stop - low) b)
freed_block old now low high at count start stop b are run is =
    let after = run.after in let before = run.before in let behind = run.behind in
    let n = stop - low - (start - low) in
    let bounds = bounds_with old now low high at count start stop n b (is_longer (start - low) n b.hint) are run (omega arith) refl is in
    record {
      hint = freed_hint old now low high at count start stop b.hint are run is.hint;
      before = bounds.0;
      behind = bounds.1;
    }
