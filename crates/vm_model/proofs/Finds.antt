-- What is found or kept among the numbers from one up.
use Rattle.std.proofs.Common.{◌≡◌, ℕ, zero, suc, ◌+◌, ◌-◌, ◌<◌, ◌≤◌, Bool, true, false, cond, if◌then◌else◌, List, [], ◌∷◌, length, filter, find, slice_get, Some, None, refl, ap, ◌∙◌, arith}
use Rattle.vm_model.specs.Space.{count_from}

find_next : (test : ℕ → Bool) (end place : ℕ) → place < end → test place ≡ false → find test (count_from (end - place) place) ≡ find test (count_from (end - suc place) (suc place))
find_next test end place h e =
    let s : end - place ≡ suc (end - suc place) = omega arith in
    ap (λ n. find test (count_from n place)) s ∙ ap (λ b. cond b (Some place) (find test (count_from (end - suc place) (suc place)))) e

find_over : (test : ℕ → Bool) (end place d : ℕ) → place + d ≤ end → ((i : ℕ) → place ≤ i → i < place + d → test i ≡ false) → find test (count_from (end - place) place) ≡ find test (count_from (end - (place + d)) (place + d))
find_over test end place zero h none = let e : place ≡ place + 0 = omega arith in ap (λ p. find test (count_from (end - p) p)) e
find_over test end place (suc d) h none =
    let e : suc place + d ≡ place + suc d = omega arith in
    find_next test end place (omega arith) (none place (omega arith) (omega arith))
    ∙ find_over test end (suc place) d (omega arith) (λ i low high. none i (omega arith) (omega arith))
    ∙ ap (λ p. find test (count_from (end - p) p)) e

-- a search goes on behind places that do not pass
pub find_skip : (test : ℕ → Bool) (end place next : ℕ) → place ≤ next → next ≤ end → ((i : ℕ) → place ≤ i → i < next → test i ≡ false) → find test (count_from (end - place) place) ≡ find test (count_from (end - next) next)
find_skip test end place next order within none =
    let e : place + (next - place) ≡ next = omega arith in
    find_over test end place (next - place) (omega arith) (λ i low high. none i low (omega arith)) ∙ ap (λ p. find test (count_from (end - p) p)) e

pub find_at_end : (test : ℕ → Bool) (end place : ℕ) → end ≤ place → find test (count_from (end - place) place) ≡ None
find_at_end test end place h = let e : end - place ≡ 0 = omega arith in ap (λ n. find test (count_from n place)) e

pub find_none : (test : ℕ → Bool) (end place : ℕ) → place ≤ end → ((i : ℕ) → place ≤ i → i < end → test i ≡ false) → find test (count_from (end - place) place) ≡ None
find_none test end place order none = find_skip test end place end order (omega arith) none ∙ find_at_end test end end (omega arith)

pub find_here : (test : ℕ → Bool) (end place : ℕ) → place < end → test place ≡ true → find test (count_from (end - place) place) ≡ Some place
find_here test end place h e =
    let s : end - place ≡ suc (end - suc place) = omega arith in
    ap (λ n. find test (count_from n place)) s ∙ ap (λ b. cond b (Some place) (find test (count_from (end - suc place) (suc place)))) e

-- Numbers that pass a test.

abbrev one_of : Bool → ℕ
one_of b = if b then 1 else 0

kept_more_by : (test : ℕ → Bool) (n first : ℕ) (b : Bool) → length (cond b (first ∷ filter test (count_from n (suc first))) (filter test (count_from n (suc first)))) ≡ one_of b + length (filter test (count_from n (suc first)))
kept_more_by test n first true = omega arith
kept_more_by test n first false = omega arith

kept_from : (test : ℕ → Bool) (n first : ℕ) → length (filter test (count_from (suc n) first)) ≡ length (filter test (count_from n first)) + one_of (test (first + n))
kept_from test zero first = kept_more_by test zero first (test first) ∙ (let e : first + 0 ≡ first = omega arith in let same = ap one_of (ap test e) in omega (arith, same))
kept_from test (suc n) first =
    let rest = kept_from test n (suc first) in
    let e : suc first + n ≡ first + suc n = omega arith in
    let same = ap one_of (ap test e) in
    omega (arith, kept_more_by test (suc n) first (test first), kept_more_by test n first (test first), rest, same)

pub count_yes : (test : ℕ → Bool) (n found : ℕ) → found ≡ length (filter test (count_from n 0)) → test n ≡ true → found + 1 ≡ length (filter test (count_from (n + 1) 0))
count_yes test n found e pass =
    let one : n + 1 ≡ suc n = omega arith in
    let last = ap one_of (ap test (let z : 0 + n ≡ n = omega arith in z) ∙ pass) in
    let all = ap (λ m. length (filter test (count_from m 0))) one in
    omega (arith, kept_from test n 0, last, all)

pub count_no : (test : ℕ → Bool) (n found : ℕ) → found ≡ length (filter test (count_from n 0)) → test n ≡ false → found ≡ length (filter test (count_from (n + 1) 0))
count_no test n found e fail =
    let one : n + 1 ≡ suc n = omega arith in
    let last = ap one_of (ap test (let z : 0 + n ≡ n = omega arith in z) ∙ fail) in
    let all = ap (λ m. length (filter test (count_from m 0))) one in
    omega (arith, kept_from test n 0, last, all)

few_by : (test : ℕ → Bool) (n first : ℕ) (b : Bool) → length (filter test (count_from n (suc first))) ≤ n → length (cond b (first ∷ filter test (count_from n (suc first))) (filter test (count_from n (suc first)))) ≤ suc n
few_by test n first true h = omega arith
few_by test n first false h = omega arith

pub count_few : (test : ℕ → Bool) (n first : ℕ) → length (filter test (count_from n first)) ≤ n
count_few test zero first = omega arith
count_few test (suc n) first = few_by test n first (test first) (count_few test n (suc first))

first_by : {X : Type 0} (test : X → Bool) (x : X) (xs : List X) (b : Bool) → slice_get (filter test xs) 0 ≡ find test xs → slice_get (cond b (x ∷ filter test xs) (filter test xs)) 0 ≡ cond b (Some x) (find test xs)
first_by test x xs true h = refl
first_by test x xs false h = h

-- the first that is kept is the first that is found
pub first_kept : {X : Type 0} (test : X → Bool) (xs : List X) → slice_get (filter test xs) 0 ≡ find test xs
first_kept test [] = refl
first_kept test (x ∷ xs) = first_by test x xs (test x) (first_kept test xs)
