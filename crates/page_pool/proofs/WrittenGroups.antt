-- Groups of elements that are written when they are first asked for.
use Rattle.std.proofs.Common.{◌≡◌, ◌≢◌, ℕ, zero, suc, ◌+◌, ◌-◌, ◌*◌, ◌/◌, ◌%◌, ◌^◌, ◌<◌, ◌≤◌, ◌==◌, ◌⊎◌, inl, inr, Bool, true, false, cond, if◌then◌else◌, List, ◌∷◌, length, map, count_by, replicate, get_or, slice_set, refl, ap, sym, ◌∙◌, arith}
use Rattle.std.proofs.lemmas.Bool.{cases_eq}
use Rattle.std.proofs.lemmas.Bool.Decides.{nat_tests}
use Rattle.std.proofs.lemmas.List.{same_lists, length-replicate, length-set, get_or-set_same, get_or-set_other}
use Rattle.std.proofs.lemmas.List.Sums.{sum_by-set, sum_by-cons}
use Rattle.std.proofs.lemmas.Option.{get_or_from_slice_get}
use Rattle.vm_model.specs.Space.{span, holds, paint, count_from}
use Rattle.vm_model.proofs.Tabulated.{length-tabulated, slice_get-tabulated, same_tabulated}
use Rattle.page_pool.specs.Late.{with_blanks}
use Rattle.page_pool.specs.GroupedLists.{in_groups, with_groups, is_unwritten, AreGroups, IsOwn}
use Rattle.vm_model.proofs.Paint.{length-paint_from}
use Rattle.page_pool.proofs.Painting.{paint-again, read-paint}
use Rattle.page_pool.proofs.Flags.{rest_in_group}
use Rattle.page_pool.proofs.LateWrites.{length-with_blanks, read_before, read_behind}

-- Groups of which none was written.

get_or-blanks : {X : Type 0} (blank : X) (n k : ℕ) → get_or (replicate n blank) k blank ≡ blank
get_or-blanks blank zero k = refl
get_or-blanks blank (suc n) zero = refl
get_or-blanks blank (suc n) (suc k) = get_or-blanks blank n k

all_unwritten : (n : ℕ) → count_by is_unwritten (replicate n 0) ≡ n
all_unwritten zero = refl
all_unwritten (suc n) = omega (arith, all_unwritten n, sum_by-cons (λ number. cond (is_unwritten number) 1 0) 0 (replicate n 0))

tabulated_blanks : {X : Type 0} (blank : X) (n first : ℕ) → map (λ (place : ℕ). blank) (count_from n first) ≡ replicate n blank
tabulated_blanks blank zero first = refl
tabulated_blanks blank (suc n) first = ap (λ xs. blank ∷ xs) (tabulated_blanks blank n (suc first))

pub blank_groups : {X : Type 0} (blank : X) (groups n : ℕ) → with_groups blank (replicate groups 0) (replicate 128 blank) n ≡ replicate n blank
blank_groups blank groups n =
    same_tabulated (in_groups blank (replicate groups 0) (replicate 128 blank)) (λ place. blank) n 0 (λ place low high. get_or-blanks blank 128 (128 * get_or (replicate groups 0) (place / 128) 0 + place % 128))
    ∙ tabulated_blanks blank n 0

pub groups_first : {X : Type 0} (blank : X) (groups capacity : ℕ) → groups < 2 ^ 32 → 128 * (groups + 1) ≤ capacity → AreGroups X blank (replicate groups 0) (replicate 128 blank) capacity
groups_first blank groups capacity few enough =
    let long : length (replicate 128 blank) ≡ 128 = length-replicate 128 blank in
    let count : length (replicate {A = ℕ} groups 0) ≡ groups = length-replicate {A = ℕ} groups 0 in
    record {
      full = omega (arith, all_unwritten groups);
      room = omega arith;
      small = omega arith;
      within = λ group. omega (arith, get_or-blanks {X = ℕ} 0 groups group);
      apart = λ group other some same. absurd (omega (arith, get_or-blanks {X = ℕ} 0 groups group));
      unwritten = λ place low. get_or-blanks blank 128 place;
    }

-- A group that gets a number.

fewer : (numbers : List ℕ) (group number : ℕ) → group < length numbers → get_or numbers group 0 ≡ 0 → 0 < number → count_by is_unwritten (slice_set numbers group number) + 1 ≡ count_by is_unwritten numbers
fewer numbers group number within none some =
    let test : (number == 0) ≡ false = grind (arith, nat_tests) in
    let new : cond {A = ℕ} (is_unwritten number) 1 0 ≡ 0 = ap (λ b. cond b 1 0) test in
    let old : cond {A = ℕ} (is_unwritten (get_or numbers group 0)) 1 0 ≡ 1 = ap (λ n. cond (n == 0) 1 0) none in
    omega (arith, sum_by-set (λ n. cond (is_unwritten n) 1 0) numbers group number 0 within)

here : (numbers : List ℕ) (group number g : ℕ) → group < length numbers → g ≡ group → get_or (slice_set numbers group number) g 0 ≡ number
here numbers group number g within same = ap (λ k. get_or (slice_set numbers group number) k 0) same ∙ get_or-set_same numbers group number 0 within

there : (numbers : List ℕ) (group number g : ℕ) → g ≢ group → get_or (slice_set numbers group number) g 0 ≡ get_or numbers g 0
there numbers group number g apart = get_or-set_other numbers group g number 0 apart

within_more : (numbers : List ℕ) (group number long g : ℕ) → group < length numbers → 128 * number ≤ long → 128 * get_or numbers g 0 + 128 ≤ long → ((g ≡ group) ⊎ (g ≢ group))
    → 128 * get_or (slice_set numbers group number) g 0 + 128 ≤ long + 128
within_more numbers group number long g within low old (inl same) = omega (arith, here numbers group number g within same)
within_more numbers group number long g within low old (inr apart) = omega (arith, there numbers group number g apart)

apart_more : (numbers : List ℕ) (group number g h : ℕ) → group < length numbers → ((k : ℕ) → get_or numbers k 0 < number) → (0 < get_or numbers g 0 → get_or numbers g 0 ≡ get_or numbers h 0 → g ≡ h)
    → 0 < get_or (slice_set numbers group number) g 0 → get_or (slice_set numbers group number) g 0 ≡ get_or (slice_set numbers group number) h 0 → ((g ≡ group) ⊎ (g ≢ group)) → ((h ≡ group) ⊎ (h ≢ group)) → g ≡ h
apart_more numbers group number g h within below old some same (inl a) (inl b) = a ∙ sym b
apart_more numbers group number g h within below old some same (inl a) (inr b) = absurd (omega (arith, below h, here numbers group number g within a, there numbers group number h b))
apart_more numbers group number g h within below old some same (inr a) (inl b) = absurd (omega (arith, below g, there numbers group number g a, here numbers group number h within b))
apart_more numbers group number g h within below old some same (inr a) (inr b) =
    let g_is = there numbers group number g a in
    let h_is = there numbers group number h b in
    old (omega arith) (sym g_is ∙ same ∙ h_is)

same_more : {X : Type 0} (blank : X) (numbers : List ℕ) (written : List X) (capacity group place : ℕ) → AreGroups X blank numbers written capacity → group < length numbers → get_or numbers group 0 ≡ 0
    → ((place / 128 ≡ group) ⊎ (place / 128 ≢ group)) → in_groups blank (slice_set numbers group (length written / 128)) (with_blanks blank written (length written + 128)) place ≡ in_groups blank numbers written place
same_more blank numbers written capacity group place is within none (inl same) =
    let number : get_or (slice_set numbers group (length written / 128)) (place / 128) 0 ≡ length written / 128 = here numbers group (length written / 128) (place / 128) within same in
    let was : get_or numbers (place / 128) 0 ≡ 0 = ap (λ k. get_or numbers k 0) same ∙ none in
    let whole : 128 * (length written / 128) ≡ length written = omega (arith, is.full) in
    let low : length written ≤ 128 * get_or (slice_set numbers group (length written / 128)) (place / 128) 0 + place % 128 = omega arith in
    let first : 128 * get_or numbers (place / 128) 0 + place % 128 < 128 = omega arith in
    read_behind blank written (length written + 128) _ low ∙ sym (is.unwritten (128 * get_or numbers (place / 128) 0 + place % 128) first)
same_more blank numbers written capacity group place is within none (inr apart) =
    let number = there numbers group (length written / 128) (place / 128) apart in
    let low : 128 * get_or numbers (place / 128) 0 + place % 128 < length written = omega (arith, is.within (place / 128)) in
    ap (λ k. get_or (with_blanks blank written (length written + 128)) (128 * k + place % 128) blank) number
    ∙ read_before written (replicate (length written + 128 - length written) blank) (128 * get_or numbers (place / 128) 0 + place % 128) blank low

pub opened : {X : Type 0} (blank : X) (numbers : List ℕ) (written : List X) (capacity new_capacity group : ℕ) → AreGroups X blank numbers written capacity → group < length numbers → get_or numbers group 0 ≡ 0 → capacity ≤ new_capacity
    → IsOwn X blank numbers written (slice_set numbers group (length written / 128)) (with_blanks blank written (length written + 128)) new_capacity group (length written)
opened blank numbers written capacity new_capacity group is within none more =
    let long = length-with_blanks blank written (length written + 128) (omega arith) in
    let count = length-set numbers group (length written / 128) in
    let whole : 128 * (length written / 128) ≡ length written = omega (arith, is.full) in
    let some : 0 < length written / 128 = omega (arith, is.within group) in
    let number = here numbers group (length written / 128) group within refl in
    record {
      groups = record {
        full = omega (arith, is.full, fewer numbers group (length written / 128) within none some);
        room = omega (arith, is.room);
        small = omega (arith, is.small);
        within = λ g. let at = within_more numbers group (length written / 128) (length written) g within (omega arith) (is.within g) (cases_eq g group) in omega arith;
        apart = λ g h here_some same. apart_more numbers group (length written / 128) g h within (λ k. omega (arith, is.within k)) (is.apart g h) here_some same (cases_eq g group) (cases_eq h group);
        unwritten = λ place low. read_before written (replicate (length written + 128 - length written) blank) place blank (omega (arith, is.within group)) ∙ is.unwritten place low;
      };
      count = count;
      at = omega arith;
      own = omega arith;
      same = λ place. same_more blank numbers written capacity group place is within none (cases_eq (place / 128) group);
    }

-- a group that has one
pub owned : {X : Type 0} (blank : X) (numbers : List ℕ) (written : List X) (capacity group first : ℕ) → AreGroups X blank numbers written capacity → 0 < get_or numbers group 0 → first ≡ get_or numbers group 0 * 128
    → IsOwn X blank numbers written numbers written capacity group first
owned blank numbers written capacity group first is some at = record { groups = is; count = refl; at = omega arith; own = some; same = λ place. refl }

-- An element that is written.

pub groups_set : {X : Type 0} (blank x : X) (numbers : List ℕ) (written : List X) (capacity group rest : ℕ) → AreGroups X blank numbers written capacity → 0 < get_or numbers group 0
    → AreGroups X blank numbers (slice_set written (128 * get_or numbers group 0 + rest) x) capacity
groups_set blank x numbers written capacity group rest is some =
    let long = length-set written (128 * get_or numbers group 0 + rest) x in
    record {
      full = omega (arith, is.full);
      room = is.room;
      small = is.small;
      within = λ g. omega (arith, is.within g);
      apart = is.apart;
      unwritten = λ place low.
          let apart : place ≢ 128 * get_or numbers group 0 + rest = omega arith in
          get_or-set_other written (128 * get_or numbers group 0 + rest) place x blank apart ∙ is.unwritten place low;
    }

tabulated_at : {X : Type 0} (f : ℕ → X) (n k : ℕ) (d : X) → k < n → get_or (map f (count_from n 0)) k d ≡ f k
tabulated_at f n k d h = get_or_from_slice_get (map f (count_from n 0)) k (f k) d (slice_get-tabulated f n k h)

other_place : (numbers : List ℕ) (place k : ℕ) → (get_or numbers (place / 128) 0 ≡ get_or numbers (k / 128) 0 → place / 128 ≡ k / 128) → k ≢ place
    → 128 * get_or numbers (k / 128) 0 + k % 128 ≢ 128 * get_or numbers (place / 128) 0 + place % 128
other_place numbers place k groups apart same =
    let number : get_or numbers (place / 128) 0 ≡ get_or numbers (k / 128) 0 = omega arith in
    let group : place / 128 ≡ k / 128 = groups number in
    apart (omega arith)

set_at : {X : Type 0} (blank x : X) (numbers : List ℕ) (written : List X) (capacity n place k : ℕ) (d : X) → AreGroups X blank numbers written capacity → 0 < get_or numbers (place / 128) 0 → place < n → k < n → ((k ≡ place) ⊎ (k ≢ place))
    → in_groups blank numbers (slice_set written (128 * get_or numbers (place / 128) 0 + place % 128) x) k ≡ get_or (slice_set (with_groups blank numbers written n) place x) k d
set_at blank x numbers written capacity n place k d is some low high (inl same) =
    let long = length-tabulated (in_groups blank numbers written) n 0 in
    let at : 128 * get_or numbers (place / 128) 0 + place % 128 < length written = omega (arith, is.within (place / 128)) in
    ap (λ i. get_or (slice_set written (128 * get_or numbers (place / 128) 0 + place % 128) x) (128 * get_or numbers (i / 128) 0 + i % 128) blank) same
    ∙ get_or-set_same written (128 * get_or numbers (place / 128) 0 + place % 128) x blank at
    ∙ sym (ap (λ i. get_or (slice_set (with_groups blank numbers written n) place x) i d) same ∙ get_or-set_same (with_groups blank numbers written n) place x d (omega arith))
set_at blank x numbers written capacity n place k d is some low high (inr apart) =
    get_or-set_other written (128 * get_or numbers (place / 128) 0 + place % 128) (128 * get_or numbers (k / 128) 0 + k % 128) x blank (other_place numbers place k (λ same. is.apart (place / 128) (k / 128) some same) apart)
    ∙ sym (get_or-set_other (with_groups blank numbers written n) place k x d apart ∙ tabulated_at (in_groups blank numbers written) n k d high)

pub written_in_group : {X : Type 0} (blank x : X) (numbers : List ℕ) (written : List X) (capacity n place : ℕ) → AreGroups X blank numbers written capacity → 0 < get_or numbers (place / 128) 0 → place < n
    → with_groups blank numbers (slice_set written (128 * get_or numbers (place / 128) 0 + place % 128) x) n ≡ slice_set (with_groups blank numbers written n) place x
written_in_group {X = X} blank x numbers written capacity n place is some low =
    let now : List X = with_groups blank numbers (slice_set written (128 * get_or numbers (place / 128) 0 + place % 128) x) n in
    let same : length now ≡ length (slice_set (with_groups blank numbers written n) place x) =
    length-tabulated (in_groups blank numbers (slice_set written (128 * get_or numbers (place / 128) 0 + place % 128) x)) n 0
    ∙ sym (length-set (with_groups blank numbers written n) place x ∙ length-tabulated (in_groups blank numbers written) n 0) in
    same_lists now (slice_set (with_groups blank numbers written n) place x) same
    (λ k d h.
    let high : k < n = omega (arith, length-tabulated (in_groups blank numbers (slice_set written (128 * get_or numbers (place / 128) 0 + place % 128) x)) n 0) in
    tabulated_at (in_groups blank numbers (slice_set written (128 * get_or numbers (place / 128) 0 + place % 128) x)) n k d high
    ∙ set_at blank x numbers written capacity n place k d is some low high (cases_eq k place))

-- The list as it is read.

pub same_view : {X : Type 0} (blank : X) (numbers new_numbers : List ℕ) (written new_written : List X) (n : ℕ) → ((place : ℕ) → in_groups blank new_numbers new_written place ≡ in_groups blank numbers written place)
    → with_groups blank new_numbers new_written n ≡ with_groups blank numbers written n
same_view blank numbers new_numbers written new_written n same = same_tabulated (in_groups blank new_numbers new_written) (in_groups blank numbers written) n 0 (λ place low high. same place)

pub length-with_groups : {X : Type 0} (blank : X) (numbers : List ℕ) (written : List X) (n : ℕ) → length (with_groups blank numbers written n) ≡ n
length-with_groups blank numbers written n = length-tabulated (in_groups blank numbers written) n 0

pub read_group : {X : Type 0} (blank : X) (numbers : List ℕ) (written : List X) (n place : ℕ) (d : X) → place < n → get_or (with_groups blank numbers written n) place d ≡ in_groups blank numbers written place
read_group blank numbers written n place d low = tabulated_at (in_groups blank numbers written) n place d low

-- A group that was never written.

unwritten_at : {X : Type 0} (blank : X) (numbers : List ℕ) (written : List X) (capacity n place : ℕ) → AreGroups X blank numbers written capacity → get_or numbers (place / 128) 0 ≡ 0 → place < n
    → get_or (with_groups blank numbers written n) place blank ≡ blank
unwritten_at blank numbers written capacity n place is none low =
    read_group blank numbers written n place blank low
    ∙ ap (λ i. get_or written i blank) (let e : 128 * get_or numbers (place / 128) 0 + place % 128 ≡ place % 128 = omega arith in e)
    ∙ is.unwritten (place % 128) (omega arith)

-- no group was ever written
pub none_written : {X : Type 0} (blank : X) (numbers : List ℕ) (written : List X) (capacity n place : ℕ) → AreGroups X blank numbers written capacity → length written ≤ 128 → place < n
    → get_or (with_groups blank numbers written n) place blank ≡ blank
none_written blank numbers written capacity n place is few low = unwritten_at blank numbers written capacity n place is (omega (arith, is.within (place / 128))) low

pub cleared_unwritten : {X : Type 0} (blank : X) (numbers : List ℕ) (written : List X) (capacity n first count : ℕ) → AreGroups X blank numbers written capacity → get_or numbers (first / 128) 0 ≡ 0 → first % 128 + count ≤ 128
    → with_groups blank numbers written n ≡ paint (holds (span first count)) blank (with_groups blank numbers written n)
cleared_unwritten blank numbers written capacity n first count is none few =
    sym (paint-again (holds (span first count)) blank (with_groups blank numbers written n) (λ place held low.
    let same : place / 128 ≡ first / 128 = rest_in_group 128 first count place (omega arith) (omega arith) held in
    unwritten_at blank numbers written capacity n place is (ap (λ group. get_or numbers group 0) same ∙ none) (omega (arith, length-with_groups blank numbers written n))))

-- Places of a group that was written, when they are blank.

shifted : (low first count place k : ℕ) → place + first ≡ k + low → holds (span low count) place ≡ holds (span first count) k
shifted low first count place k h = grind (arith, nat_tests)

same_number : (a b count number rest : ℕ) → b + count ≤ 128 → rest < 128 → holds (span (128 * a + b) count) (128 * number + rest) ≡ true → a ≡ number
same_number a b count number rest few small held =
    let low : 128 * a + b ≤ 128 * number + rest = grind (arith, nat_tests) in
    let high : 128 * number + rest < 128 * a + b + count = grind (arith, nat_tests) in
    omega arith

not_true : (b : Bool) → b ≢ true → b ≡ false
not_true true never = absurd (never refl)
not_true false never = refl

same_test : (numbers : List ℕ) (first count k : ℕ) → first % 128 + count ≤ 128 → (get_or numbers (first / 128) 0 ≡ get_or numbers (k / 128) 0 → first / 128 ≡ k / 128) → ((k / 128 ≡ first / 128) ⊎ (k / 128 ≢ first / 128))
    → holds (span (128 * get_or numbers (first / 128) 0 + first % 128) count) (128 * get_or numbers (k / 128) 0 + k % 128) ≡ holds (span first count) k
same_test numbers first count k few groups (inl same) =
    let number : get_or numbers (k / 128) 0 ≡ get_or numbers (first / 128) 0 = ap (λ group. get_or numbers group 0) same in
    shifted (128 * get_or numbers (first / 128) 0 + first % 128) first count (128 * get_or numbers (k / 128) 0 + k % 128) k (omega arith)
same_test numbers first count k few groups (inr apart) =
    not_true _ (λ held. apart (sym (groups (same_number (get_or numbers (first / 128) 0) (first % 128) count (get_or numbers (k / 128) 0) (k % 128) few (omega arith) held))))
    ∙ sym (not_true _ (λ held. apart (rest_in_group 128 first count k (omega arith) (omega arith) held)))

either_way : {X : Type 0} (b : Bool) (x y : X) → y ≡ x → (if b then x else y) ≡ x
either_way true x y h = refl
either_way false x y h = h

pub groups_cleared : {X : Type 0} (blank : X) (numbers : List ℕ) (written : List X) (capacity first count : ℕ) → AreGroups X blank numbers written capacity
    → AreGroups X blank numbers (paint (holds (span first count)) blank written) capacity
groups_cleared blank numbers written capacity first count is =
    let t = holds (span first count) in
    let long : length (paint t blank written) ≡ length written = length-paint_from t blank written 0 in
    record {
      full = omega (arith, is.full);
      room = is.room;
      small = is.small;
      within = λ group. omega (arith, is.within group);
      apart = is.apart;
      unwritten = λ place low. read-paint t blank written place blank (omega (arith, is.within 0)) ∙ either_way (t place) blank (get_or written place blank) (is.unwritten place low);
    }

pub cleared_in_group : {X : Type 0} (blank : X) (numbers : List ℕ) (written : List X) (capacity n first count : ℕ) → AreGroups X blank numbers written capacity → 0 < get_or numbers (first / 128) 0 → first % 128 + count ≤ 128
    → with_groups blank numbers (paint (holds (span (128 * get_or numbers (first / 128) 0 + first % 128) count)) blank written) n ≡ paint (holds (span first count)) blank (with_groups blank numbers written n)
cleared_in_group {X = X} blank numbers written capacity n first count is some few =
    let inner = holds (span (128 * get_or numbers (first / 128) 0 + first % 128) count) in
    let outer = holds (span first count) in
    let before : List X = with_groups blank numbers written n in
    let now : List X = with_groups blank numbers (paint inner blank written) n in
    let long = length-tabulated (in_groups blank numbers written) n 0 in
    let long_now = length-tabulated (in_groups blank numbers (paint inner blank written)) n 0 in
    same_lists now (paint outer blank before) (long_now ∙ sym (length-paint_from outer blank before 0 ∙ long))
    (λ k d h.
    let low : k < n = omega arith in
    let place = 128 * get_or numbers (k / 128) 0 + k % 128 in
    tabulated_at (in_groups blank numbers (paint inner blank written)) n k d low
    ∙ read-paint inner blank written place blank (omega (arith, is.within (k / 128)))
    ∙ ap (λ b. if b then blank else get_or written place blank) (same_test numbers first count k few (is.apart (first / 128) (k / 128) some) (cases_eq (k / 128) (first / 128)))
    ∙ sym (read-paint outer blank before k d (omega arith) ∙ ap (λ y. if outer k then blank else y) (tabulated_at (in_groups blank numbers written) n k d low)))
