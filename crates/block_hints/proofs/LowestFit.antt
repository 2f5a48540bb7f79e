-- A search for the lowest fit, block by block.
use Rattle.std.proofs.Common.{◌≡◌, ◌≢◌, ℕ, zero, suc, ◌+◌, ◌-◌, ◌%◌, ◌<◌, ◌≤◌, ◌⊎◌, inl, inr, Bool, true, false, cond, ◌&&◌, ◌==◌, List, [], ◌∷◌, length, take, drop, find, slice_get, Option, Some, None, is_some, nat_le, max, if◌then◌else◌, refl, ap, sym, ◌∙◌, subst, arith}
use Rattle.std.proofs.lemmas.Bool.{cases_lt}
use Rattle.std.proofs.lemmas.Bool.Decides.{nat_tests}
use Rattle.vm_model.specs.declared.areas.Span.{Span}
use Rattle.vm_model.specs.declared.rows.Hint.{Hint}
use Rattle.vm_model.specs.Space.{span, is_free_at, count_from, begins_free, fits, lowest}
use Rattle.vm_model.specs.Hints.{IsFreeSpan, IsLongestIn, IsHintIn}
use Rattle.vm_model.proofs.Search.{the_lowest_fits}
use Rattle.vm_model.proofs.LongestRun.{is_free_within}
use Rattle.vm_model.proofs.Scans.{free_read}
use Rattle.chunk_bitmaps.specs.ChunkMap.{first_fit}
use Rattle.vm_model.proofs.FreePlaces.{are_free, free_test, taken_test, short_test}
use Rattle.chunk_bitmaps.proofs.FirstFits.{fits_not_free, fits_not_aligned, fits_here, length-before}
use Rattle.vm_model.proofs.Finds.{find_skip, find_here, find_none}
use Rattle.block_hints.specs.declared.block_scan.Block.{Block}
use Rattle.block_hints.specs.KeptHints.{IsBlockIn}
use Rattle.block_hints.specs.FirstMultiples.{IsMultipleAt, IsFirstMultiple}

-- Whether places fit, by what is free.

pub get_free : (bits : List Bool) (place : ℕ) → is_free_at bits place ≡ true → slice_get bits place ≡ Some false
get_free [] place h = cc
get_free (true ∷ bits) zero h = cc
get_free (false ∷ bits) zero h = refl
get_free (b ∷ bits) (suc place) h = get_free bits place h

pub get_taken : (bits : List Bool) (place : ℕ) → is_free_at bits place ≡ false → place < length bits → slice_get bits place ≡ Some true
get_taken [] place h l = absurd (omega arith)
get_taken (true ∷ bits) zero h l = refl
get_taken (false ∷ bits) zero h l = cc
get_taken (b ∷ bits) (suc place) h l = get_taken bits place h (omega arith)

pub fits_taken : (bits : List Bool) (n k start place : ℕ) → 1 ≤ n → start ≤ place → place < start + n → is_free_at bits place ≡ false → fits bits n k start ≡ false
fits_taken bits n k start place some low high h = by_cases (cases_lt place (length bits))
  where
    by_cases : (place < length bits) ⊎ (length bits ≤ place) → fits bits n k start ≡ false
    by_cases (inl l) = fits_not_free bits n k start (taken_test bits start n place low high (get_taken bits place h l))
    by_cases (inr past) = fits_not_free bits n k start (short_test bits start n (omega arith) some)

pub fits_free : (bits : List Bool) (n k start : ℕ) → 1 ≤ n → start % k ≡ 0 → IsFreeSpan bits (span start n) → fits bits n k start ≡ true
fits_free bits n k start some multiple are =
    let last = is_free_within bits (start + n - 1) (are (start + n - 1) (omega arith) (omega arith)) in
    fits_here bits n k start multiple (free_test bits start n (record { within = omega arith; free = λ place low high. get_free bits place (are place low high) }))

and_parts : (a b : Bool) → (a && b) ≡ true → (a ≡ true) × (b ≡ true)
and_parts true b h = (refl, h)
and_parts false b h = cc

is_zero : (n : ℕ) → (n == 0) ≡ true → n ≡ 0
is_zero n h = grind (arith, nat_tests)

pub free_of_fits : (bits : List Bool) (n k start : ℕ) → 1 ≤ n → fits bits n k start ≡ true → (start % k ≡ 0) × IsFreeSpan bits (span start n)
free_of_fits bits n k start some h =
    let parts = and_parts (start % k == 0) (begins_free n (drop start bits)) h in
    (is_zero (start % k) parts.0, λ place low high. free_read bits place ((are_free bits start n some parts.1).free place low high))

not_true : (b : Bool) → (b ≡ true → ⊥) → b ≡ false
not_true true h = absurd (h refl)
not_true false h = refl

-- The lowest fit.

pub lowest_found : (bits : List Bool) (n k at : ℕ) → 1 ≤ n → ((start : ℕ) → start < at → fits bits n k start ≡ false) → at % k ≡ 0 → IsFreeSpan bits (span at n) → Some at ≡ lowest bits n k
lowest_found bits n k at some none multiple are =
    let first = is_free_within bits at (are at (omega arith) (omega arith)) in
    let all : length bits - 0 ≡ length bits = omega arith in
    sym (the_lowest_fits bits n k ∙ ap (λ m. find (fits bits n k) (count_from m 0)) (sym all)
    ∙ find_skip (fits bits n k) (length bits) 0 at (omega arith) (omega arith) (λ i low high. none i high)
    ∙ find_here (fits bits n k) (length bits) at first (fits_free bits n k at some multiple are))

pub lowest_none : (bits : List Bool) (n k : ℕ) → 1 ≤ n → ((start : ℕ) → start + n ≤ length bits → fits bits n k start ≡ false) → None ≡ lowest bits n k
lowest_none bits n k some none =
    let all : length bits - 0 ≡ length bits = omega arith in
    sym (the_lowest_fits bits n k ∙ ap (λ m. find (fits bits n k) (count_from m 0)) (sym all) ∙ find_none (fits bits n k) (length bits) 0 (omega arith) (λ i low high. by_cases i (cases_lt (length bits) (i + n))))
  where
    by_cases : (i : ℕ) → (length bits < i + n) ⊎ (i + n ≤ length bits) → fits bits n k i ≡ false
    by_cases i (inl past) = fits_not_free bits n k i (short_test bits i n past some)
    by_cases i (inr within) = none i within

-- What a search found, or not.

cond_none : {X : Type 0} (b : Bool) (x : X) (o : Option X) → cond b (Some x) o ≡ None → (b ≡ false) × (o ≡ None)
cond_none true x o h = cc
cond_none false x o h = (refl, h)

at_or_after : (first i : ℕ) → first ≤ i → (first ≡ i) ⊎ (suc first ≤ i)
at_or_after first i h = by_cases (cases_lt first i)
  where
    by_cases : (first < i) ⊎ (i ≤ first) → (first ≡ i) ⊎ (suc first ≤ i)
    by_cases (inl l) = inr (omega arith)
    by_cases (inr g) = inl (omega arith)

none_passes : (test : ℕ → Bool) (n first i : ℕ) → find test (count_from n first) ≡ None → first ≤ i → i < first + n → test i ≡ false
none_passes test zero first i h low high = absurd (omega arith)
none_passes test (suc n) first i h low high =
    let parts = cond_none (test first) first (find test (count_from n (suc first))) h in
    by_cases parts.0 (at_or_after first i low) (λ later. none_passes test n (suc first) i parts.1 later (omega arith))
  where
    by_cases : test first ≡ false → (first ≡ i) ⊎ (suc first ≤ i) → (suc first ≤ i → test i ≡ false) → test i ≡ false
    by_cases e (inl same) rest = ap test (sym same) ∙ e
    by_cases e (inr later) rest = rest later

-- the first that passes
record IsFound (test : ℕ → Bool) (first x : ℕ) : Type 0 where
  after : first ≤ x
  passes : test x ≡ true
  others : (i : ℕ) → first ≤ i → i < x → test i ≡ false

found_by : (test : ℕ → Bool) (n first x : ℕ) (b : Bool) → test first ≡ b → cond b (Some first) (find test (count_from n (suc first))) ≡ Some x → (find test (count_from n (suc first)) ≡ Some x → IsFound test (suc first) x) → IsFound test first x
found_by test n first x true e h rest = let same : first ≡ x = cc in record { after = omega arith; passes = ap test (sym same) ∙ e; others = λ i low high. absurd (omega arith) }
found_by test n first x false e h rest =
    let later = rest h in let after = later.after in
    record { after = omega arith; passes = later.passes; others = λ i low high. by_cases i high (at_or_after first i low) }
  where
    by_cases : (i : ℕ) → i < x → (first ≡ i) ⊎ (suc first ≤ i) → test i ≡ false
    by_cases i high (inl same) = ap test (sym same) ∙ e
    by_cases i high (inr later) = (rest h).others i later high

found_first : (test : ℕ → Bool) (n first x : ℕ) → find test (count_from n first) ≡ Some x → IsFound test first x
found_first test zero first x h = cc
found_first test (suc n) first x h = found_by test n first x (test first) refl h (found_first test n (suc first) x)

-- The places of a block are free in two lists alike.

abbrev pub AreAlikeIn : List Bool → List Bool → (low high : ℕ) → Type 0
AreAlikeIn bits other low high = (place : ℕ) → low ≤ place → place < high → is_free_at other place ≡ is_free_at bits place

longest_alike : (bits other : List Bool) (low high : ℕ) (s : Span) → AreAlikeIn bits other low high → IsLongestIn bits low high s → IsLongestIn other low high s
longest_alike bits other low high s alike is =
    let after = is.after in let within = is.within in
    record {
      free = λ place a b. alike place (omega arith) (omega arith) ∙ is.free place a b;
      after = after;
      within = within;
      longest = λ start pages low_is inside some are. is.longest start pages low_is inside some (λ place a b. sym (alike place (omega arith) (omega arith)) ∙ are place a b);
      none = is.none;
    }

pub hint_alike : (bits other : List Bool) (low high : ℕ) (h : Hint) → AreAlikeIn bits other low high → IsHintIn bits low high h → IsHintIn other low high h
hint_alike bits other low high h alike is =
    let left = is.left_within in let right = is.right_within in let first = is.first_within in
    record {
      run = longest_alike bits other low high (span (low + h.run_start) h.run) alike is.run;
      left_within = left;
      left_free = λ place a b. alike place a (omega arith) ∙ is.left_free place a b;
      left_end = λ l. alike (low + h.left) (omega arith) l ∙ is.left_end l;
      right_within = right;
      right_free = λ place a b. alike place (omega arith) (omega arith) ∙ is.right_free place a b;
      right_end = λ l. alike (high - suc h.right) (omega arith) (omega arith) ∙ is.right_end l;
      first_within = first;
      first_taken = λ place a b. alike place a (omega arith) ∙ is.first_taken place a b;
      first_free = λ l. alike (low + h.first) (omega arith) l ∙ is.first_free l;
    }

pub block_alike : (bits other : List Bool) (low high : ℕ) (b : Block) → AreAlikeIn bits other low high → IsBlockIn bits low high b → IsBlockIn other low high b
block_alike bits other low high b alike is =
    let within = is.hint.run.within in
    record {
      hint = hint_alike bits other low high b.hint alike is.hint;
      before = λ start pages after end some are. is.before start pages after end some (λ place a c. sym (alike place (omega arith) (omega arith)) ∙ are place a c);
      behind = λ start pages after end some are. is.behind start pages after end some (λ place a c. sym (alike place (omega arith) (omega arith)) ∙ are place a c);
    }

-- How far a search has come: what fits begins at a place or later, where the free places before the next block begin, and does not end before that block.
pub record IsSearched (bits : List Bool) (n k low from : ℕ) : Type 0 where
  pub order : from ≤ low
  pub free : (place : ℕ) → from ≤ place → place < low → is_free_at bits place ≡ true
  pub before : (start : ℕ) → start < from → fits bits n k start ≡ false
  pub inside : (start : ℕ) → start + n ≤ low → fits bits n k start ≡ false

pub searched_at_first : (bits : List Bool) (n k : ℕ) → 1 ≤ n → IsSearched bits n k 0 0
searched_at_first bits n k some = record { order = omega arith; free = λ place a b. absurd (omega arith); before = λ start h. absurd (omega arith); inside = λ start h. absurd (omega arith) }

-- over a block of which nothing may be taken
pub searched_missing : (bits : List Bool) (n k low from : ℕ) → 1 ≤ n → IsSearched bits n k low from → ((place : ℕ) → low ≤ place → place < low + 1024 → is_free_at bits place ≡ false) → IsSearched bits n k (low + 1024) (low + 1024)
searched_missing bits n k low from some is taken = record {
  order = omega arith;
  free = λ place a b. absurd (omega arith);
  before = none;
  inside = λ start h. none start (omega arith);
}
  where
    by_cases : (start : ℕ) → start < low + 1024 → (start + n ≤ low) ⊎ (low < start + n) → (start < low) ⊎ (low ≤ start) → fits bits n k start ≡ false
    by_cases start h (inl within) where_is = is.inside start within
    by_cases start h (inr over) (inl below) = fits_taken bits n k start low some (omega arith) over (taken low (omega arith) (omega arith))
    by_cases start h (inr over) (inr past) = fits_taken bits n k start start some (omega arith) (omega arith) (taken start past h)

    cases_le : (a b : ℕ) → (a ≤ b) ⊎ (b < a)
    cases_le a b = turned (cases_lt b a)
      where
        turned : (b < a) ⊎ (a ≤ b) → (a ≤ b) ⊎ (b < a)
        turned (inl l) = inr l
        turned (inr g) = inl g

    none : (start : ℕ) → start < low + 1024 → fits bits n k start ≡ false
    none start h = by_cases start h (cases_le (start + n) low) (cases_lt start low)

-- over the border of a block

pub found_over : (bits : List Bool) (n k low from at left : ℕ) → 1 ≤ n → IsSearched bits n k low from → ((place : ℕ) → low ≤ place → place < low + left → is_free_at bits place ≡ true) → IsMultipleAt from (low + left) n k at → Some at ≡ lowest bits n k
found_over bits n k low from at left some is front multiple =
    let after = multiple.after in let within = multiple.within in
    lowest_found bits n k at some (λ start h. by_cases start h (cases_lt start from)) multiple.multiple (λ place a b. either place a b (cases_lt place low))
  where
    by_cases : (start : ℕ) → start < at → (start < from) ⊎ (from ≤ start) → fits bits n k start ≡ false
    by_cases start h (inl below) = is.before start below
    by_cases start h (inr past) = fits_not_aligned bits n k start (multiple.first start past h)

    either : (place : ℕ) → at ≤ place → place < at + n → (place < low) ⊎ (low ≤ place) → is_free_at bits place ≡ true
    either place a b (inl below) = let after = multiple.after in is.free place (omega arith) below
    either place a b (inr past) = let within = multiple.within in front place past (omega arith)

abbrev pub NoMultiple : (from to n k : ℕ) → Type 0
NoMultiple from to n k = (place : ℕ) → from ≤ place → place + n ≤ to → place % k ≢ 0

none_over : (bits : List Bool) (n k low from left start : ℕ) → IsSearched bits n k low from → NoMultiple from (low + left) n k → start + n ≤ low + left → (start < from) ⊎ (from ≤ start) → fits bits n k start ≡ false
none_over bits n k low from left start is none within (inl below) = is.before start below
none_over bits n k low from left start is none within (inr past) = fits_not_aligned bits n k start (none start past within)

-- over a block that is free whole
pub searched_free : (bits : List Bool) (n k low from : ℕ) → IsSearched bits n k low from → ((place : ℕ) → low ≤ place → place < low + 1024 → is_free_at bits place ≡ true) → NoMultiple from (low + 1024) n k → IsSearched bits n k (low + 1024) from
searched_free bits n k low from is front none =
    let order = is.order in
    record {
      order = omega arith;
      free = λ place a b. either place a b (cases_lt place low);
      before = is.before;
      inside = λ start h. none_over bits n k low from 1024 start is none h (cases_lt start from);
    }
  where
    either : (place : ℕ) → from ≤ place → place < low + 1024 → (place < low) ⊎ (low ≤ place) → is_free_at bits place ≡ true
    either place a b (inl below) = is.free place a below
    either place a b (inr past) = front place past b

-- Inside a block.

none_up_to : (bits : List Bool) (n k low from left start : ℕ) → 1 ≤ n → IsSearched bits n k low from → NoMultiple from (low + left) n k → is_free_at bits (low + left) ≡ false → start ≤ low + left → (start + n ≤ low + left) ⊎ (low + left < start + n) → fits bits n k start ≡ false
none_up_to bits n k low from left start some is none taken h (inl within) = none_over bits n k low from left start is none within (cases_lt start from)
none_up_to bits n k low from left start some is none taken h (inr over) = fits_taken bits n k start (low + left) some h over taken

cases_le : (a b : ℕ) → (a ≤ b) ⊎ (b < a)
cases_le a b = turned (cases_lt b a)
  where
    turned : (b < a) ⊎ (a ≤ b) → (a ≤ b) ⊎ (b < a)
    turned (inl l) = inr l
    turned (inr g) = inl g

-- where nothing in the block behind its front fits, the search goes on at the free places of its end
pub searched_block : (bits : List Bool) (n k low from : ℕ) (h : Hint) → 1 ≤ n → IsSearched bits n k low from → IsHintIn bits low (low + 1024) h → h.left < 1024 → NoMultiple from (low + h.left) n k
    → ((start : ℕ) → low + h.left ≤ start → start + n ≤ low + 1024 → fits bits n k start ≡ false) → IsSearched bits n k (low + 1024) (low + 1024 - h.right)
searched_block bits n k low from h some is hint part none inner =
    let within = hint.right_within in
    record {
      order = omega arith;
      free = λ place a b. hint.right_free place a (omega arith);
      before = λ start l. before start l (cases_le (start + n) (low + 1024));
      inside = all;
    }
  where
    taken : is_free_at bits (low + h.left) ≡ false
    taken = hint.left_end (omega arith)

    few : low + h.right < low + 1024
    few = by_cases (cases_lt h.right 1024)
      where
        by_cases : (h.right < 1024) ⊎ (1024 ≤ h.right) → low + h.right < low + 1024
        by_cases (inl l) = omega arith
        by_cases (inr g) = let within = hint.right_within in let yes = hint.right_free (low + h.left) (omega arith) (omega arith) in let none_there = hint.left_end (omega arith) in cc

    all : (start : ℕ) → start + n ≤ low + 1024 → fits bits n k start ≡ false
    all start inside = by_cases (cases_le start (low + h.left))
      where
        by_cases : (start ≤ low + h.left) ⊎ (low + h.left < start) → fits bits n k start ≡ false
        by_cases (inl l) = none_up_to bits n k low from h.left start some is none taken l (cases_le (start + n) (low + h.left))
        by_cases (inr g) = inner start (omega arith) inside

    before : (start : ℕ) → start < low + 1024 - h.right → (start + n ≤ low + 1024) ⊎ (low + 1024 < start + n) → fits bits n k start ≡ false
    before start l (inl inside) = all start inside
    before start l (inr over) = let less = few in fits_taken bits n k start (low + 1024 - suc h.right) some (omega arith) (omega arith) (hint.right_end less)

-- a longer object than the longest run does not fit
pub too_long : (bits : List Bool) (n k low start : ℕ) (h : Hint) → 1 ≤ n → IsHintIn bits low (low + 1024) h → h.run < n → low ≤ start → start + n ≤ low + 1024 → fits bits n k start ≡ false
too_long bits n k low start h some hint long from within =
    not_true (fits bits n k start) (λ e. (let are = (free_of_fits bits n k start some e).1 in let most = (hint.run.longest start n from within some are).0 in absurd (omega arith)))

-- The places before the longest run, where each run before it is too short.

-- the place before the longest run is taken
before_run : (bits : List Bool) (low high : ℕ) (s : Span) → IsLongestIn bits low high s → 0 < s.pages → low < s.start → is_free_at bits (s.start - 1) ≡ false
before_run bits low high s is some h =
    not_true (is_free_at bits (s.start - 1)) (λ free. (let within = is.within in
    let longer = (is.longest (s.start - 1) (suc s.pages) (omega arith) (omega arith) (omega arith) (λ place a b. either free place a b (cases_lt place s.start))).0 in absurd (omega arith)))
  where
    either : is_free_at bits (s.start - 1) ≡ true → (place : ℕ) → s.start - 1 ≤ place → place < s.start - 1 + suc s.pages → (place < s.start) ⊎ (s.start ≤ place) → is_free_at bits place ≡ true
    either free place a b (inl below) = let same : place ≡ s.start - 1 = omega arith in ap (is_free_at bits) same ∙ free
    either free place a b (inr past) = is.free place past (omega arith)

too_early : (bits : List Bool) (n k low start : ℕ) (b : Block) → 1 ≤ n → IsBlockIn bits low (low + 1024) b → b.before < n → n ≤ b.hint.run → low ≤ start → start < low + b.hint.run_start → (start + n ≤ low + b.hint.run_start) ⊎ (low + b.hint.run_start < start + n) → fits bits n k start ≡ false
too_early bits n k low start b some is short long from before (inl within) =
    not_true (fits bits n k start) (λ e. (let are = (free_of_fits bits n k start some e).1 in let most = is.before start n from within some are in absurd (omega arith)))
too_early bits n k low start b some is short long from before (inr over) =
    fits_taken bits n k start (low + b.hint.run_start - 1) some (omega arith) (omega arith) (before_run bits low (low + 1024) (span (low + b.hint.run_start) b.hint.run) is.hint.run (omega arith) (omega arith))

abbrev pub skip_of : ℕ → Block → ℕ
skip_of n b = if nat_le n b.before then b.hint.left else max b.hint.left b.hint.run_start

skip_by : (n : ℕ) (b : Block) → (P : ℕ → Type 0) → (n ≤ b.before → P b.hint.left) → (b.before < n → P (max b.hint.left b.hint.run_start)) → P (skip_of n b)
skip_by n b P f g = by_cases (cases_lt b.before n)
  where
    by_cases : (b.before < n) ⊎ (n ≤ b.before) → P (skip_of n b)
    by_cases (inl h) = let e : nat_le n b.before ≡ false = grind (arith, nat_tests) in subst (λ t. P (if t then b.hint.left else max b.hint.left b.hint.run_start)) (sym e) (g h)
    by_cases (inr h) = let e : nat_le n b.before ≡ true = grind (arith, nat_tests) in subst (λ t. P (if t then b.hint.left else max b.hint.left b.hint.run_start)) (sym e) (f h)

-- what is passed over lies between the front and the end, and nothing that begins there fits
pub record IsSkip (bits : List Bool) (n k low left skip : ℕ) : Type 0 where
  pub after : left ≤ skip
  pub within : skip ≤ 1024
  pub none : (start : ℕ) → low + left ≤ start → start < low + skip → fits bits n k start ≡ false

pub is_skip : (bits : List Bool) (n k low : ℕ) (b : Block) → 1 ≤ n → IsBlockIn bits low (low + 1024) b → n ≤ b.hint.run → IsSkip bits n k low b.hint.left (skip_of n b)
is_skip bits n k low b some is long =
    let front = is.hint.left_within in let run = is.hint.run.within in
    skip_by n b (IsSkip bits n k low b.hint.left)
    (λ h. record { after = omega arith; within = omega arith; none = λ start a c. absurd (omega arith) })
    (λ h. record { after = omega arith; within = omega arith; none = λ start a c. too_early bits n k low start b some is h long (omega arith) (omega arith) (cases_le (start + n) (low + b.hint.run_start)) })

-- The fits of the whole bits that lie in a block are those of the bits before its end.

alike_take : (end : ℕ) (bits : List Bool) (place : ℕ) → place < end → is_free_at (take end bits) place ≡ is_free_at bits place
alike_take zero bits place h = absurd (omega arith)
alike_take (suc end) [] place h = refl
alike_take (suc end) (b ∷ bits) zero h = refl
alike_take (suc end) (b ∷ bits) (suc place) h = alike_take end bits place (omega arith)

fits_before : (bits other : List Bool) (n k low end start : ℕ) → 1 ≤ n → AreAlikeIn bits other low end → low ≤ start → start + n ≤ end → fits (take end bits) n k start ≡ false → fits other n k start ≡ false
fits_before bits other n k low end start some alike from within none =
    not_true (fits other n k start) (λ e. (let are = free_of_fits other n k start some e in
    let yes = fits_free (take end bits) n k start some are.0 (λ place a b. alike_take end bits place (omega arith) ∙ sym (alike place (omega arith) (omega arith)) ∙ are.1 place a b) in clash yes none))
  where
    clash : {b : Bool} → b ≡ true → b ≡ false → ⊥
    clash e f = cc

pub inner_none : (bits other : List Bool) (n k low end from start : ℕ) → 1 ≤ n → end ≤ length bits → AreAlikeIn bits other low end → low ≤ from → first_fit (take end bits) from n k ≡ None → from ≤ start → start + n ≤ end → fits other n k start ≡ false
inner_none bits other n k low end from start some inside alike order none low_is within =
    fits_before bits other n k low end start some alike (omega arith) within
    (none_passes (fits (take end bits) n k) (length (take end bits) - from) from start none low_is (omega (arith, length-before bits end inside)))

pub inner_found : (bits other : List Bool) (n k low end from at : ℕ) → 1 ≤ n → end ≤ length bits → AreAlikeIn bits other low end → low ≤ from → first_fit (take end bits) from n k ≡ Some at
    → ((start : ℕ) → start < from → fits other n k start ≡ false) → Some at ≡ lowest other n k
inner_found bits other n k low end from at some inside alike order e before =
    let found = found_first (fits (take end bits) n k) (length (take end bits) - from) from at e in
    let after = found.after in
    let are = free_of_fits (take end bits) n k at some found.passes in
    let last = is_free_within (take end bits) (at + n - 1) (are.1 (at + n - 1) (omega arith) (omega arith)) in
    let cut = length-before bits end inside in
    lowest_found other n k at some (λ start h. by_cases start h (cases_lt start from)) are.0 (λ place a b. alike place (omega arith) (omega arith) ∙ sym (alike_take end bits place (omega arith)) ∙ are.1 place a b)
  where
    by_cases : (start : ℕ) → start < at → (start < from) ⊎ (from ≤ start) → fits other n k start ≡ false
    by_cases start h (inl below) = before start below
    by_cases start h (inr past) =
        let found = found_first (fits (take end bits) n k) (length (take end bits) - from) from at e in
        let are = free_of_fits (take end bits) n k at some found.passes in
        let last = is_free_within (take end bits) (at + n - 1) (are.1 (at + n - 1) (omega arith) (omega arith)) in
        let cut = length-before bits end inside in
        fits_before bits other n k low end start some alike (omega arith) (omega arith) (found.others start past h)

-- nothing fits before the inside of a block
pub before_inner : (bits : List Bool) (n k low from : ℕ) (h : Hint) → 1 ≤ n → IsSearched bits n k low from → IsHintIn bits low (low + 1024) h → h.left < 1024 → NoMultiple from (low + h.left) n k → (start : ℕ) → start < low + h.left → fits bits n k start ≡ false
before_inner bits n k low from h some is hint part none start l = none_up_to bits n k low from h.left start some is none (hint.left_end (omega arith)) (omega arith) (cases_le (start + n) (low + h.left))

pub searched_all : (bits : List Bool) (n k low from : ℕ) → 1 ≤ n → low ≡ length bits → IsSearched bits n k low from → None ≡ lowest bits n k
searched_all bits n k low from some all is = lowest_none bits n k some (λ start h. is.inside start (omega arith))

-- What a search for a multiple answers.

pub multiple_none : (from to n k : ℕ) (o : Option ℕ) → is_some o ≡ false → IsFirstMultiple from to n k o → NoMultiple from to n k
multiple_none from to n k None e is = is
multiple_none from to n k (Some at) e is = cc

pub multiple_found : (bits : List Bool) (from to n k : ℕ) (o : Option ℕ) → is_some o ≡ true → IsFirstMultiple from to n k o → ((at : ℕ) → IsMultipleAt from to n k at → Some at ≡ lowest bits n k) → o ≡ lowest bits n k
multiple_found bits from to n k None e is f = cc
multiple_found bits from to n k (Some at) e is f = f at is

pub is_none : (o : Option ℕ) → is_some o ≡ false → o ≡ None
is_none None e = refl
is_none (Some at) e = cc

pub inner_found_by : (other : List Bool) (n k : ℕ) (fit o : Option ℕ) → is_some o ≡ true → o ≡ fit → ((at : ℕ) → fit ≡ Some at → Some at ≡ lowest other n k) → o ≡ lowest other n k
inner_found_by other n k fit None e same f = cc
inner_found_by other n k fit (Some at) e same f = f at (sym same)

-- A search that passes over some places.

pub before_skip : (bits : List Bool) (n k low left skip start : ℕ) → IsSkip bits n k low left skip → start < low + skip → (start < low + left → fits bits n k start ≡ false) → fits bits n k start ≡ false
before_skip bits n k low left skip start is h front = by_cases (cases_lt start (low + left))
  where
    by_cases : (start < low + left) ⊎ (low + left ≤ start) → fits bits n k start ≡ false
    by_cases (inl below) = front below
    by_cases (inr past) = is.none start past h

pub behind_skip : (bits : List Bool) (n k low left skip start : ℕ) → IsSkip bits n k low left skip → low + left ≤ start → (low + skip ≤ start → fits bits n k start ≡ false) → fits bits n k start ≡ false
behind_skip bits n k low left skip start is h later = by_cases (cases_lt start (low + skip))
  where
    by_cases : (start < low + skip) ⊎ (low + skip ≤ start) → fits bits n k start ≡ false
    by_cases (inl below) = is.none start h below
    by_cases (inr past) = later past
