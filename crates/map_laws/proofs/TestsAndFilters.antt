-- What tests, filters, least elements and rows of numbers hold, and what is put among others.
use Rattle.std.proofs.Common.{Bool, arith, false, inl, inr, refl, true, ◌||◌, ◌≡◌, ◌≤◌, ◌⊎◌, List, None, Option, Some, [], ap, cond, filter, find, if◌then◌else◌, nat_le, slice_get, suc, sum_by, sym, zero, ℕ, ◌+◌, ◌<◌, ◌==◌, ◌∙◌, ◌∷◌, ◌++◌}
pub use Rattle.std.proofs.lemmas.Bool.{or_left, or_right, or_cases as or_either, or_parts as or_none, false_from_ne_true as not_true}
use Rattle.vm_model.specs.Space.{one_if, count_from, is_among, least_by, smaller_by, put_by, covers, holds, hull, times}
use Rattle.std.proofs.lemmas.Bool.Decides.{nat_tests}
use Rattle.std.proofs.lemmas.List.Sums.{sum_by-cons, sum_by-append}
use Rattle.vm_model.specs.Setup.{last_of}
use Rattle.map_laws.proofs.KeptThroughSteps.{there}
use Rattle.vm_model.specs.declared.areas.Span.{Span}

-- What holds of tests that are joined by `||`, and how often a test counts.

pub or_false : (b : Bool) → (b || false) ≡ b
or_false b = grind arith

pub or_assoc : (a b d : Bool) → (a || (b || d)) ≡ ((a || b) || d)
or_assoc a b d = grind arith

pub one_if_le : (b : Bool) → one_if b ≤ 1
one_if_le b = grind arith

-- what holds whether a test holds or not
pub by_test : {P : Type 0} (t : Bool) → (t ≡ true → P) → (t ≡ false → P) → P
by_test t f g = grind arith

-- two counts that are not both above 0
pub one_of_two : (a b : ℕ) → a ≤ 1 → b ≤ 1 → (1 ≤ a → 1 ≤ b → ⊥) → a + b ≤ 1
one_of_two a b few few' apart = grind arith

pub some_of_two : {P : Type 0} (a b : ℕ) → 1 ≤ a + b → (1 ≤ a → P) → (1 ≤ b → P) → P
some_of_two a b n f g = grind arith

-- What a filter, a least element and a row of numbers hold.

pub record IsIn {X : Type 0} (x : X) (xs : List X) : Type 0 where
  pub place : ℕ
  pub at : slice_get xs place ≡ Some x

pub in_more : {X : Type 0} (x y : X) (xs : List X) → IsIn x xs → IsIn x (y ∷ xs)
in_more x y xs h = record { place = suc h.place; at = h.at }

-- what a filter keeps stood in the list and passes
pub record IsKept {X : Type 0} (p : X → Bool) (xs : List X) (x : X) : Type 0 where
  pub there : IsIn x xs
  pub passes : p x ≡ true

kept_by : {X : Type 0} (p : X → Bool) (xs : List X) (y : X) (b : Bool) → p y ≡ b → (i : ℕ) (x : X) → slice_get (cond b (y ∷ filter p xs) (filter p xs)) i ≡ Some x
    → ((j : ℕ) → slice_get (filter p xs) j ≡ Some x → IsKept p xs x) → IsKept p (y ∷ xs) x
kept_by p xs y b e i x h more = grind (arith, in_more)

pub filter_has : {X : Type 0} (p : X → Bool) (xs : List X) (i : ℕ) (x : X) → slice_get (filter p xs) i ≡ Some x → IsKept p xs x
filter_has p [] i x h = cc
filter_has p (y ∷ xs) i x h = kept_by p xs y _ refl i x h (λ j e. filter_has p xs j x e)

pub least_in : {X : Type 0} (key : X → ℕ) (xs : List X) (y : X) → least_by key xs ≡ Some y → IsIn y xs
least_in key [] y h = cc
least_in key (x ∷ xs) y h = grind (arith, least_in key xs, in_more, nat_tests)

-- where there is an element there is a least one
smaller_some : {X : Type 0} (key : X → ℕ) (x : X) (o : Option X) → (y : X) × (smaller_by key x o ≡ Some y)
smaller_some key x None = (x, refl)
smaller_some key x (Some z) = case (nat_le (key x) (key z)) refl
  where
    case : (b : Bool) → nat_le (key x) (key z) ≡ b → (y : _) × ((if nat_le (key x) (key z) then Some x else Some z) ≡ Some y)
    case true t = (x, ap (λ b. if b then Some x else Some z) t)
    case false t = (z, ap (λ b. if b then Some x else Some z) t)

pub least_some : {X : Type 0} (key : X → ℕ) (xs : List X) (x : X) → IsIn x xs → (y : X) × (least_by key xs ≡ Some y)
least_some key [] x h = let at = h.at in cc
least_some key (z ∷ xs) x h = smaller_some key z (least_by key xs)

pub filter_in : {X : Type 0} (p : X → Bool) (xs : List X) (x : X) (i : ℕ) → slice_get xs i ≡ Some x → p x ≡ true → IsIn x (filter p xs)
filter_in p [] x i h e = cc
filter_in p (y ∷ xs) x i h e = grind (arith, filter_in p xs, in_more)

-- a sum loses what a filter leaves out
sum_kept : {X : Type 0} (f : X → ℕ) (p : X → Bool) (y : X) (xs : List X) (b : Bool) → sum_by f (cond b (y ∷ filter p xs) (filter p xs)) ≤ f y + sum_by f (filter p xs)
sum_kept f p y xs b = grind (arith, sum_by-cons)

pub sum_by-filter-le : {X : Type 0} (f : X → ℕ) (p : X → Bool) (xs : List X) → sum_by f (filter p xs) ≤ sum_by f xs
sum_by-filter-le f p [] = omega arith
sum_by-filter-le f p (y ∷ xs) = omega (arith, sum_kept f p y xs (p y), sum_by-filter-le f p xs, sum_by-cons f y xs)

pub sum_without : {X : Type 0} (f : X → ℕ) (p : X → Bool) (xs : List X) (x : X) (i : ℕ) → slice_get xs i ≡ Some x → p x ≡ false → sum_by f (filter p xs) + f x ≤ sum_by f xs
sum_without f p [] x i h e = cc
sum_without f p (y ∷ xs) x i h e = grind (arith, sum_without f p xs, sum_by-filter-le, sum_by-cons)

-- the sum has each of its terms
pub sum_has : {X : Type 0} (f : X → ℕ) (xs : List X) (x : X) (i : ℕ) → slice_get xs i ≡ Some x → f x ≤ sum_by f xs
sum_has f [] x i h = cc
sum_has f (y ∷ xs) x i h = grind (arith, sum_has f xs, sum_by-cons)

-- a row of numbers
pub count_from-below : (n first i x : ℕ) → slice_get (count_from n first) i ≡ Some x → x < first + n
count_from-below zero first i x h = cc
count_from-below (suc n) first i x h = grind (arith, count_from-below n)

pub find_has : {X : Type 0} (p : X → Bool) (xs : List X) (x : X) → find p xs ≡ Some x → IsIn x xs × (p x ≡ true)
find_has p [] x h = cc
find_has p (y ∷ xs) x h = grind (arith, find_has p xs x, in_more, nat_tests)

-- the last of the elements is one of them
pub last_in : {X : Type 0} (xs : List X) (x : X) → last_of xs ≡ Some x → IsIn x xs
last_in [] x h = cc
last_in (y ∷ []) x h = record { place = 0; at = h }
last_in (y ∷ z ∷ xs) x h = in_more x y (z ∷ xs) (last_in (z ∷ xs) x h)

pub among_in : (x : ℕ) (xs : List ℕ) → is_among xs x ≡ true → IsIn x xs
among_in x [] h = cc
among_in x (y ∷ xs) h = grind (arith, among_in x xs, in_more, nat_tests)

in_by : (x : ℕ) (xs : List ℕ) (i : ℕ) → slice_get xs i ≡ Some x → is_among xs x ≡ true
in_by x [] i e = cc
in_by x (y ∷ xs) i e = grind (arith, in_by x xs)

pub in_among : (x : ℕ) (xs : List ℕ) → IsIn x xs → is_among xs x ≡ true
in_among x xs h = in_by x xs h.place h.at

pub count_at : (n first x : ℕ) → x < n → slice_get (count_from n first) x ≡ Some (first + x)
count_at zero first x h = grind (arith, nat_tests)
count_at (suc n) first x h = grind (arith, count_at n)

-- Elements that are put among others, by a number of each.

module _ {X : Type 0} where
  pub first_or : (a x : X) (xs : List X) → IsIn a (x ∷ xs) → (a ≡ x) ⊎ IsIn a xs
  first_or a x xs h = grind (arith, nat_tests)

  pub put_in : (key : X → ℕ) (x : X) (ys : List X) (a : X) → IsIn a (put_by key x ys) → (a ≡ x) ⊎ IsIn a ys
  put_in key x [] a h = first_or a x [] h
  put_in key x (y ∷ ys) a h = grind (arith, put_in key x ys a, first_or, there, in_more, nat_tests)

  put_sum_by : (f : X → ℕ) (key : X → ℕ) (x y : X) (ys : List X) (b : Bool) → sum_by f (put_by key x ys) ≡ f x + sum_by f ys → sum_by f (if b then x ∷ y ∷ ys else y ∷ put_by key x ys) ≡ f x + sum_by f (y ∷ ys)
  put_sum_by f key x y ys true e = sum_by-cons f x (y ∷ ys)
  put_sum_by f key x y ys false e = omega (arith, sum_by-cons f y (put_by key x ys), sum_by-cons f y ys)

  pub put_sum : (f : X → ℕ) (key : X → ℕ) (x : X) (ys : List X) → sum_by f (put_by key x ys) ≡ f x + sum_by f ys
  put_sum f key x [] = sum_by-cons f x []
  put_sum f key x (y ∷ ys) = put_sum_by f key x y ys _ (put_sum f key x ys)

  pub put_keeps : (key : X → ℕ) (x : X) (ys : List X) (a : X) → IsIn a ys → IsIn a (put_by key x ys)
  put_keeps key x [] a h = (let no = h.at in cc)
  put_keeps key x (y ∷ ys) a h = grind (arith, put_keeps key x ys a, in_more, first_or, there, nat_tests)

  pub put_new : (key : X → ℕ) (x : X) (ys : List X) → IsIn x (put_by key x ys)
  put_new key x [] = record { place = 0; at = refl }
  put_new key x (y ∷ ys) = grind (arith, put_new key x ys, in_more, nat_tests)

-- In how many spans a page is, and whether it is in one.

pub times-cons : (page : ℕ) (s : Span) (spans : List Span) → times page (s ∷ spans) ≡ one_if (holds s page) + times page spans
times-cons page s spans = sum_by-cons (λ (s : Span). one_if (holds s page)) s spans

pub times-append : (page : ℕ) (xs ys : List Span) → times page (xs ++ ys) ≡ times page xs + times page ys
times-append page xs ys = sum_by-append (λ (s : Span). one_if (holds s page)) xs ys

pub times-one : (page : ℕ) (s : Span) → times page (s ∷ []) ≡ one_if (holds s page)
times-one page s = omega (arith, times-cons page s [])

pub covers_times : (page : ℕ) (spans : List Span) → covers spans page ≡ true → 1 ≤ times page spans
covers_times page [] h = cc
covers_times page (s ∷ spans) h = grind (arith, covers_times page spans, times-cons, nat_tests)

pub covers_none : (page : ℕ) (spans : List Span) → covers spans page ≡ false → times page spans ≡ 0
covers_none page [] h = refl
covers_none page (s ∷ spans) h = grind (arith, covers_none page spans, times-cons, nat_tests)

-- a page is in one of the spans, or in none
pub data InSpans (page : ℕ) (spans : List Span) : Type 0 where
  Inside : covers spans page ≡ true → 1 ≤ times page spans → InSpans page spans
  Outside : covers spans page ≡ false → times page spans ≡ 0 → InSpans page spans

pub in_spans : (page : ℕ) (spans : List Span) → InSpans page spans
in_spans page spans = grind (arith, covers_times, covers_none, nat_tests)

pub none_covers : (page : ℕ) (spans : List Span) → times page spans ≡ 0 → covers spans page ≡ false
none_covers page spans z = grind (arith, in_spans, nat_tests)

pub covers_one : (s : Span) (page : ℕ) → covers (s ∷ []) page ≡ holds s page
covers_one s page = or_false (holds s page)

pub holds_times : (s : Span) (page : ℕ) → holds s page ≡ true → one_if (holds s page) ≡ 1
holds_times s page h = ap one_if h

pub holds_to : (s : Span) (page : ℕ) → holds s page ≡ true → (s.start ≤ page) × (page < s.start + s.pages)
holds_to s page h = (grind (arith, nat_tests), grind (arith, nat_tests))

pub holds_from : (s : Span) (page : ℕ) → s.start ≤ page → page < s.start + s.pages → holds s page ≡ true
holds_from s page a b = grind (arith, nat_tests)

pub covers_append : (page : ℕ) (xs ys : List Span) → covers (xs ++ ys) page ≡ (covers xs page || covers ys page)
covers_append page xs ys = grind (arith, times-append, in_spans)

-- a page that spans cover is in one of them
pub covers_in : (page : ℕ) (spans : List Span) → covers spans page ≡ true → (s : Span) × IsIn s spans × (holds s page ≡ true)
covers_in page [] h = cc
covers_in page (s ∷ spans) h = grind (arith, covers_in page spans, in_more, nat_tests)

pub in_covers : (page : ℕ) (spans : List Span) (i : ℕ) (s : Span) → slice_get spans i ≡ Some s → holds s page ≡ true → covers spans page ≡ true
in_covers page [] i s e h = cc
in_covers page (t ∷ spans) i s e h = grind (arith, in_covers page spans, nat_tests)

-- The hull covers each of its spans.

pub record IsHull (spans : List Span) (o : Option Span) : Type 0 where
  pub covered : (page : ℕ) → covers spans page ≡ true → (h : Span) × (o ≡ Some h) × (holds h page ≡ true)

pub hull_is : (spans : List Span) → IsHull spans (hull spans)
hull_is [] = record { covered = λ page h. cc }
hull_is (s ∷ spans) = grind (arith, hull_is spans, holds_to, holds_from, nat_tests)
