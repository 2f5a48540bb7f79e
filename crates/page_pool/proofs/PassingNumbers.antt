-- The numbers of a row that pass a test.
use Rattle.std.proofs.Common.{◌≡◌, ◌≢◌, ℕ, zero, suc, ◌+◌, ◌<◌, ◌≤◌, ◌⊎◌, inl, inr, Bool, true, false, ◌||◌, ◌==◌, cond, nat_lt, if◌then◌else◌, List, [], ◌∷◌, length, filter, take, drop, ◌++◌, refl, ap, sym, ◌∙◌, subst, arith}
use Rattle.std.proofs.lemmas.Bool.{cases_lt, or_right, false≢true}
use Rattle.std.proofs.lemmas.Bool.Decides.{nat_tests}
use Rattle.std.proofs.lemmas.List.{drop_all, take_all, append-nil}
use Rattle.std.proofs.lemmas.List.Sums.{length-filter, count_by-le-length}
use Rattle.vm_model.specs.Space.{count_from, is_among, one_if, put_by}
use Rattle.vm_model.proofs.Search.{length-count_from}

pub one_if-below : (n m : ℕ) → n < m → one_if (nat_lt n m) ≡ 1
one_if-below n m h = let e : nat_lt n m ≡ true = grind (arith, nat_tests) in ap one_if e

pub one_if-above : (n m : ℕ) → m ≤ n → one_if (nat_lt n m) ≡ 0
one_if-above n m h = let e : nat_lt n m ≡ false = grind (arith, nat_tests) in ap one_if e

pub one_if-cond : (b : Bool) → cond b 1 0 ≡ one_if b
one_if-cond true = refl
one_if-cond false = refl

kept : (b c : Bool) (x : ℕ) (xs ys : List ℕ) → b ≡ c → xs ≡ ys → cond b (x ∷ xs) xs ≡ cond c (x ∷ ys) ys
kept b c x xs ys e f = ap (λ b. cond b (x ∷ xs) xs) e ∙ ap (λ zs. cond c (x ∷ zs) zs) f

pub filter-alike : (p q : ℕ → Bool) (n first : ℕ) → ((i : ℕ) → first ≤ i → i < first + n → p i ≡ q i) → filter p (count_from n first) ≡ filter q (count_from n first)
filter-alike p q zero first h = refl
filter-alike p q (suc n) first h = kept (p first) (q first) first _ _ (h first (omega arith) (omega arith)) (filter-alike p q n (suc first) (λ i a b. h i (omega arith) (omega arith)))

filter-always : (xs : List ℕ) → filter (λ i. true) xs ≡ xs
filter-always [] = refl
filter-always (x ∷ xs) = ap (λ ys. x ∷ ys) (filter-always xs)

filter-never : (xs : List ℕ) → filter (λ i. false) xs ≡ []
filter-never [] = refl
filter-never (x ∷ xs) = filter-never xs

pub filter-all : (p : ℕ → Bool) (n first : ℕ) → ((i : ℕ) → first ≤ i → i < first + n → p i ≡ true) → filter p (count_from n first) ≡ count_from n first
filter-all p n first h = filter-alike p (λ i. true) n first h ∙ filter-always (count_from n first)

pub filter-none : (p : ℕ → Bool) (n first : ℕ) → ((i : ℕ) → p i ≡ false) → filter p (count_from n first) ≡ []
filter-none p n first h = filter-alike p (λ i. false) n first (λ i a b. h i) ∙ filter-never (count_from n first)

pub length-filter-row : (p : ℕ → Bool) (n first : ℕ) → length (filter p (count_from n first)) ≤ n
length-filter-row p n first = omega (arith, length-filter p (count_from n first), count_by-le-length p (count_from n first), length-count_from n first)

-- a part of a `Vec` that is the whole, after it was written to
pub written_back : {X : Type 0} (n : ℕ) (new old : List X) → n ≡ length old → length new ≡ length old → take n (new ++ drop (length new) old) ≡ new
written_back n new old whole same =
    ap (λ rest. take n (new ++ rest)) (drop_all (length new) old (omega arith)) ∙ ap (take n) (append-nil new) ∙ take_all n new (omega arith)

-- two numbers are the same, or apart
same_if : (x y : ℕ) (b : Bool) → (x == y) ≡ b → (x ≡ y) ⊎ (x ≢ y)
same_if x y true e = inl (let same : x ≡ y = grind (arith, nat_tests) in same)
same_if x y false e = inr (λ same. let other : x ≡ y = same in grind (arith, nat_tests))

pub same_or_apart : (x y : ℕ) → (x ≡ y) ⊎ (x ≢ y)
same_or_apart x y = same_if x y _ refl

-- A number that is put among those that pass.

put_by-below : (x y : ℕ) (ys : List ℕ) → x < y → put_by (λ n. n) x (y ∷ ys) ≡ x ∷ y ∷ ys
put_by-below x y ys h = let e : nat_lt x y ≡ true = grind (arith, nat_tests) in ap (λ b. if b then x ∷ y ∷ ys else y ∷ put_by (λ n. n) x ys) e

put_by-above : (x y : ℕ) (ys : List ℕ) → y ≤ x → put_by (λ n. n) x (y ∷ ys) ≡ y ∷ put_by (λ n. n) x ys
put_by-above x y ys h = let e : nat_lt x y ≡ false = grind (arith, nat_tests) in ap (λ b. if b then x ∷ y ∷ ys else y ∷ put_by (λ n. n) x ys) e

pub length-put_by : (x : ℕ) (ys : List ℕ) → length (put_by (λ n. n) x ys) ≡ suc (length ys)
length-put_by x [] = refl
length-put_by x (y ∷ ys) = elim (cases_lt x y) [
  | inl below ↦ ap length (put_by-below x y ys below)
  | inr above ↦ ap length (put_by-above x y ys above) ∙ ap suc (length-put_by x ys)
]

-- the least is put first
least_if : (x first : ℕ) (rest : List ℕ) (b : Bool) → (b ≡ true → x < first) → put_by (λ n. n) x rest ≡ x ∷ rest → put_by (λ n. n) x (cond b (first ∷ rest) rest) ≡ x ∷ cond b (first ∷ rest) rest
least_if x first rest true below more = put_by-below x first rest (below refl)
least_if x first rest false below more = more

pub put_by-least : (q : ℕ → Bool) (x n first : ℕ) → ((i : ℕ) → first ≤ i → q i ≡ true → x < i) → put_by (λ n. n) x (filter q (count_from n first)) ≡ x ∷ filter q (count_from n first)
put_by-least q x zero first least = refl
put_by-least q x (suc n) first least =
    least_if x first (filter q (count_from n (suc first))) (q first) (least first (omega arith)) (put_by-least q x n (suc first) (λ i a t. least i (omega arith) t))

-- one more number passes
test_adds : (q : ℕ → Bool) (x i : ℕ) → x ≢ i → ((x == i) || q i) ≡ q i
test_adds q x i apart = let e : (x == i) ≡ false = grind (arith, nat_tests) in ap (λ b. b || q i) e

put_later : (x first : ℕ) (rest : List ℕ) (b : Bool) → first ≤ x → cond b (first ∷ put_by (λ n. n) x rest) (put_by (λ n. n) x rest) ≡ put_by (λ n. n) x (cond b (first ∷ rest) rest)
put_later x first rest true low = sym (put_by-above x first rest low)
put_later x first rest false low = refl

put_here : (q : ℕ → Bool) (x n : ℕ) → q x ≡ false → filter (λ i. (x == i) || q i) (count_from (suc n) x) ≡ put_by (λ n. n) x (filter q (count_from (suc n) x))
put_here q x n fails =
    let rest = filter q (count_from n (suc x)) in
    let passes : (x == x) ≡ true = grind (arith, nat_tests) in
    kept ((x == x) || q x) true x _ _ (ap (λ b. b || q x) passes) (filter-alike (λ i. (x == i) || q i) q n (suc x) (λ i a b. test_adds q x i (omega arith)))
    ∙ sym (put_by-least q x n (suc x) (λ i a t. omega arith)) ∙ sym (ap (λ b. put_by (λ n. n) x (cond b (x ∷ rest) rest)) fails)

pub filter-puts : (q : ℕ → Bool) (x n first : ℕ) → q x ≡ false → first ≤ x → x < first + n → filter (λ i. (x == i) || q i) (count_from n first) ≡ put_by (λ n. n) x (filter q (count_from n first))
filter-puts q x zero first fails low high = absurd (omega arith)
filter-puts q x (suc n) first fails low high = elim (cases_lt first x) [
  | inl below ↦ kept ((x == first) || q first) (q first) first _ _ (test_adds q x first (omega arith)) (filter-puts q x n (suc first) fails (omega arith) (omega arith))
      ∙ put_later x first (filter q (count_from n (suc first))) (q first) low
  | inr above ↦
      let same : x ≡ first = omega arith in
      subst (λ i. filter (λ j. (x == j) || q j) (count_from (suc n) i) ≡ put_by (λ n. n) x (filter q (count_from (suc n) i))) same (put_here q x n fails)
]

-- Which numbers are among those that pass.

passes_among : (p : ℕ → Bool) (x y : ℕ) (ys : List ℕ) (b : Bool) → p y ≡ b → p x ≡ false → is_among (filter p ys) x ≡ false → is_among (cond b (y ∷ filter p ys) (filter p ys)) x ≡ false
passes_among p x y ys true e fails rest = elim (same_or_apart y x) [
  | inl same ↦ absurd (false≢true (sym (ap p same ∙ fails) ∙ e))
  | inr apart ↦ test_adds (is_among (filter p ys)) y x apart ∙ rest
]
passes_among p x y ys false e fails rest = rest

pub not_among : (p : ℕ → Bool) (x : ℕ) (ys : List ℕ) → p x ≡ false → is_among (filter p ys) x ≡ false
not_among p x [] fails = refl
not_among p x (y ∷ ys) fails = passes_among p x y ys _ refl fails (not_among p x ys fails)

first_among : (x : ℕ) (ys : List ℕ) → is_among (x ∷ ys) x ≡ true
first_among x ys = let e : (x == x) ≡ true = grind (arith, nat_tests) in ap (λ b. b || is_among ys x) e

still_among : (x y : ℕ) (ys : List ℕ) (b : Bool) → is_among ys x ≡ true → is_among (cond b (y ∷ ys) ys) x ≡ true
still_among x y ys true h = or_right _ _ h
still_among x y ys false h = h

pub among : (p : ℕ → Bool) (x n first : ℕ) → p x ≡ true → first ≤ x → x < first + n → is_among (filter p (count_from n first)) x ≡ true
among p x zero first passes low high = absurd (omega arith)
among p x (suc n) first passes low high = elim (same_or_apart first x) [
  | inl same ↦ ap (λ b. is_among (cond b (first ∷ filter p (count_from n (suc first))) (filter p (count_from n (suc first)))) x) (ap p same ∙ passes)
      ∙ subst (λ i. is_among (i ∷ filter p (count_from n (suc first))) x ≡ true) (sym same) (first_among x (filter p (count_from n (suc first))))
  | inr apart ↦ still_among x first (filter p (count_from n (suc first))) (p first) (among p x n (suc first) passes (omega arith) (omega arith))
]

-- the first that passes
first_if : (p : ℕ → Bool) (n first x : ℕ) (rest : List ℕ) (b : Bool) → p first ≡ b → cond b (first ∷ filter p (count_from n (suc first))) (filter p (count_from n (suc first))) ≡ x ∷ rest
    → (filter p (count_from n (suc first)) ≡ x ∷ rest → (p x ≡ true) × (x < suc first + n)) → (p x ≡ true) × (x < first + suc n)
first_if p n first x rest true e h more = let same : first ≡ x = cc in (ap p (sym same) ∙ e, omega arith)
first_if p n first x rest false e h more = let later = more h in (later.0, omega arith)

pub first_passes : (p : ℕ → Bool) (n first x : ℕ) (rest : List ℕ) → filter p (count_from n first) ≡ x ∷ rest → (p x ≡ true) × (x < first + n)
first_passes p zero first x rest h = absurd (let e : length (x ∷ rest) ≡ 0 = ap length (sym h) in omega arith)
first_passes p (suc n) first x rest h = first_if p n first x rest _ refl h (first_passes p n (suc first) x rest)

-- fewer pass where one does not
pub length-filter-fewer : (p : ℕ → Bool) (x n : ℕ) → p x ≡ false → x < n → length (filter p (count_from n 0)) < n
length-filter-fewer p x n fails low =
    omega (arith, ap length (filter-puts p x n 0 fails (omega arith) (omega arith)), length-put_by x (filter p (count_from n 0)), length-filter-row (λ i. (x == i) || p i) n 0)
