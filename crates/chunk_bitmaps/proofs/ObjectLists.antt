-- Lists of objects that begin at the places which pass a test.
use Rattle.std.proofs.Common.{◌≡◌, ◌≢◌, ℕ, zero, suc, ◌+◌, ◌<◌, ◌≤◌, ◌⊎◌, inl, inr, Bool, true, false, not, cond, ◌&&◌, ◌||◌, ◌==◌, nat_lt, if◌then◌else◌, List, [], ◌∷◌, map, filter, find, Some, None, refl, ap, sym, ◌∙◌, arith}
use Rattle.std.proofs.lemmas.Bool.{cases_eq}
use Rattle.std.proofs.lemmas.Bool.Decides.{nat_tests}
use Rattle.vm_model.specs.declared.areas.Span.{Span}
use Rattle.vm_model.specs.Space.{holds, covers, count_from, put_by}
use Rattle.vm_model.proofs.Tabulated.{filter-same}

filter-cons : {X : Type 0} (test : X → Bool) (x : X) (xs : List X) (b : Bool) → test x ≡ b → filter test (x ∷ xs) ≡ cond b (x ∷ filter test xs) (filter test xs)
filter-cons test x xs b e = ap (λ c. cond c (x ∷ filter test xs) (filter test xs)) e

-- and where they pass, functions that agree make the same
map-filter-same_by : {X Y : Type 0} (f g : X → Y) (test : X → Bool) (x : X) (xs : List X) (b : Bool) → test x ≡ b → (test x ≡ true → f x ≡ g x) → map f (filter test xs) ≡ map g (filter test xs)
    → map f (cond b (x ∷ filter test xs) (filter test xs)) ≡ map g (cond b (x ∷ filter test xs) (filter test xs))
map-filter-same_by f g test x xs true e h rest = ap (λ y. y ∷ map f (filter test xs)) (h e) ∙ ap (λ ys. g x ∷ ys) rest
map-filter-same_by f g test x xs false e h rest = rest

pub map-filter-same : {X Y : Type 0} (f g : X → Y) (test : X → Bool) (xs : List X) → ((x : X) → test x ≡ true → f x ≡ g x) → map f (filter test xs) ≡ map g (filter test xs)
map-filter-same f g test [] h = refl
map-filter-same f g test (x ∷ xs) h = map-filter-same_by f g test x xs (test x) refl (h x) (map-filter-same f g test xs h)

-- One more place passes.

put_first_by : (f : ℕ → Bool) (at n first : ℕ) (b : Bool) → f first ≡ b → at < first → put_by (λ p. p) at (filter f (count_from n (suc first))) ≡ at ∷ filter f (count_from n (suc first))
    → put_by (λ p. p) at (cond b (first ∷ filter f (count_from n (suc first))) (filter f (count_from n (suc first)))) ≡ at ∷ cond b (first ∷ filter f (count_from n (suc first))) (filter f (count_from n (suc first)))
put_first_by f at n first true e h rest = let yes : nat_lt at first ≡ true = grind (arith, nat_tests) in
    ap (λ t. if t then at ∷ first ∷ filter f (count_from n (suc first)) else first ∷ put_by (λ p. p) at (filter f (count_from n (suc first)))) yes
put_first_by f at n first false e h rest = rest

put_first : (f : ℕ → Bool) (at n first : ℕ) → at < first → put_by (λ p. p) at (filter f (count_from n first)) ≡ at ∷ filter f (count_from n first)
put_first f at zero first h = refl
put_first f at (suc n) first h = put_first_by f at n first (f first) refl h (put_first f at n (suc first) (omega arith))

or_self : (at p : ℕ) (b : Bool) → p ≡ at → ((p == at) || b) ≡ true
or_self at p b e = grind (arith, nat_tests)

or_other : (at p : ℕ) (b : Bool) → p ≢ at → ((p == at) || b) ≡ b
or_other at p b e = grind (arith, nat_tests)

put_later_by : (f : ℕ → Bool) (at n first : ℕ) (b : Bool) → first < at → filter (λ p. (p == at) || f p) (count_from n (suc first)) ≡ put_by (λ p. p) at (filter f (count_from n (suc first)))
    → cond b (first ∷ filter (λ p. (p == at) || f p) (count_from n (suc first))) (filter (λ p. (p == at) || f p) (count_from n (suc first))) ≡ put_by (λ p. p) at (cond b (first ∷ filter f (count_from n (suc first))) (filter f (count_from n (suc first))))
put_later_by f at n first true h rest = let no : nat_lt at first ≡ false = grind (arith, nat_tests) in
    ap (λ xs. first ∷ xs) rest ∙ sym (ap (λ t. if t then at ∷ first ∷ filter f (count_from n (suc first)) else first ∷ put_by (λ p. p) at (filter f (count_from n (suc first)))) no)
put_later_by f at n first false h rest = rest

filter-one_more_at : (f : ℕ → Bool) (at n first : ℕ) → first ≤ at → at < first + suc n → f at ≡ false → (first ≡ at) ⊎ (first ≢ at)
    → (suc first ≤ at → filter (λ p. (p == at) || f p) (count_from n (suc first)) ≡ put_by (λ p. p) at (filter f (count_from n (suc first))))
    → filter (λ p. (p == at) || f p) (count_from (suc n) first) ≡ put_by (λ p. p) at (filter f (count_from (suc n) first))
filter-one_more_at f at n first low high none (inl same) rest =
    let here : f first ≡ false = ap f same ∙ none in
    let others : filter (λ p. (p == at) || f p) (count_from n (suc first)) ≡ filter f (count_from n (suc first)) = filter-same (λ p. (p == at) || f p) f n (suc first) (λ p l h. or_other at p (f p) (omega arith)) in
    filter-cons (λ p. (p == at) || f p) first (count_from n (suc first)) true (or_self at first (f first) same)
    ∙ ap (λ xs. first ∷ xs) others ∙ ap (λ p. p ∷ filter f (count_from n (suc first))) same
    ∙ sym (put_first f at n (suc first) (omega arith)) ∙ ap (put_by (λ p. p) at) (sym (filter-cons f first (count_from n (suc first)) false here))
filter-one_more_at f at n first low high none (inr apart) rest =
    filter-cons (λ p. (p == at) || f p) first (count_from n (suc first)) (f first) (or_other at first (f first) apart)
    ∙ put_later_by f at n first (f first) (omega arith) (rest (omega arith))

pub filter-one_more : (f : ℕ → Bool) (at n first : ℕ) → first ≤ at → at < first + n → f at ≡ false → filter (λ p. (p == at) || f p) (count_from n first) ≡ put_by (λ p. p) at (filter f (count_from n first))
filter-one_more f at zero first low high none = absurd (omega arith)
filter-one_more f at (suc n) first low high none = filter-one_more_at f at n first low high none (cases_eq first at) (λ h. filter-one_more f at n (suc first) h (omega arith) none)

map-put_by_if : {X Y : Type 0} (f : X → Y) (b : Bool) (xs ys : List X) → map f (if b then xs else ys) ≡ (if b then map f xs else map f ys)
map-put_by_if f true xs ys = refl
map-put_by_if f false xs ys = refl

-- objects stand by their places
pub map-put_by : (f : ℕ → Span) (at : ℕ) (xs : List ℕ) → ((p : ℕ) → (f p).start ≡ p) → map f (put_by (λ p. p) at xs) ≡ put_by (λ (s : Span). s.start) (f at) (map f xs)
map-put_by f at [] h = refl
map-put_by f at (x ∷ xs) h =
    map-put_by_if f (nat_lt at x) (at ∷ x ∷ xs) (x ∷ put_by (λ p. p) at xs)
    ∙ ap (λ ss. if nat_lt at x then f at ∷ f x ∷ map f xs else f x ∷ ss) (map-put_by f at xs h)
    ∙ ap (λ p. if nat_lt p x then f at ∷ f x ∷ map f xs else f x ∷ put_by (λ (s : Span). s.start) (f at) (map f xs)) (sym (h at))
    ∙ ap (λ p. if nat_lt (f at).start p then f at ∷ f x ∷ map f xs else f x ∷ put_by (λ (s : Span). s.start) (f at) (map f xs)) (sym (h x))

covers-put_by_if : (b : Bool) (xs ys : List Span) (p : ℕ) (c : Bool) → covers xs p ≡ c → covers ys p ≡ c → covers (if b then xs else ys) p ≡ c
covers-put_by_if true xs ys p c e f = e
covers-put_by_if false xs ys p c e f = f

or_swap : (a b c : Bool) → (a || (b || c)) ≡ (b || (a || c))
or_swap true true c = refl
or_swap true false c = refl
or_swap false true c = refl
or_swap false false c = refl

pub covers-put_by : (s : Span) (spans : List Span) (p : ℕ) → covers (put_by (λ (t : Span). t.start) s spans) p ≡ (holds s p || covers spans p)
covers-put_by s [] p = refl
covers-put_by s (t ∷ spans) p =
    covers-put_by_if (nat_lt s.start t.start) (s ∷ t ∷ spans) (t ∷ put_by (λ (t : Span). t.start) s spans) p (holds s p || covers (t ∷ spans) p) refl
    (ap (λ b. holds t p || b) (covers-put_by s spans p) ∙ or_swap (holds t p) (holds s p) (covers spans p))

-- The objects without those at one place.

filter-both_by : {X : Type 0} (f g : X → Bool) (x : X) (xs : List X) (b : Bool) → f x ≡ b → filter (λ y. f y && g y) xs ≡ filter g (filter f xs)
    → cond (b && g x) (x ∷ filter (λ y. f y && g y) xs) (filter (λ y. f y && g y) xs) ≡ filter g (cond b (x ∷ filter f xs) (filter f xs))
filter-both_by f g x xs true e rest = ap (λ ys. cond (g x) (x ∷ ys) ys) rest
filter-both_by f g x xs false e rest = rest

pub filter-both : {X : Type 0} (f g : X → Bool) (xs : List X) → filter (λ x. f x && g x) xs ≡ filter g (filter f xs)
filter-both f g [] = refl
filter-both f g (x ∷ xs) = filter-both_by f g x xs (f x) refl (filter-both f g xs)

map-filter_by : {X Y : Type 0} (f : X → Y) (test : Y → Bool) (x : X) (xs : List X) (b : Bool) → map f (filter (λ y. test (f y)) xs) ≡ filter test (map f xs)
    → map f (cond b (x ∷ filter (λ y. test (f y)) xs) (filter (λ y. test (f y)) xs)) ≡ cond b (f x ∷ filter test (map f xs)) (filter test (map f xs))
map-filter_by f test x xs true rest = ap (λ ys. f x ∷ ys) rest
map-filter_by f test x xs false rest = rest

pub map-filter : {X Y : Type 0} (f : X → Y) (test : Y → Bool) (xs : List X) → map f (filter (λ x. test (f x)) xs) ≡ filter test (map f xs)
map-filter f test [] = refl
map-filter f test (x ∷ xs) = map-filter_by f test x xs (test (f x)) (map-filter f test xs)

-- What covers a place, and what is found at one.

-- an object that begins at a place that passes, and covers the given one
pub record CoversFrom (f : ℕ → Span) (test : ℕ → Bool) (n first p : ℕ) : Type 0 where
  pub place : ℕ
  pub passes : test place ≡ true
  pub low : first ≤ place
  pub high : place < first + n
  pub held : holds (f place) p ≡ true

covers-from_by : (f : ℕ → Span) (test : ℕ → Bool) (n first p : ℕ) (b c : Bool) → test first ≡ b → holds (f first) p ≡ c
    → covers (cond b (f first ∷ map f (filter test (count_from n (suc first)))) (map f (filter test (count_from n (suc first))))) p ≡ true
    → (covers (map f (filter test (count_from n (suc first)))) p ≡ true → CoversFrom f test n (suc first) p) → CoversFrom f test (suc n) first p
covers-from_by f test n first p true true e h cov rest = record { place = first; passes = e; low = omega arith; high = omega arith; held = h }
covers-from_by f test n first p true false e h cov rest =
    let later = rest (sym (ap (λ d. d || covers (map f (filter test (count_from n (suc first)))) p) h) ∙ cov) in
    let low = later.low in let high = later.high in
    record { place = later.place; passes = later.passes; low = omega arith; high = omega arith; held = later.held }
covers-from_by f test n first p false c e h cov rest =
    let later = rest cov in let low = later.low in let high = later.high in
    record { place = later.place; passes = later.passes; low = omega arith; high = omega arith; held = later.held }

map-cond : {X Y : Type 0} (f : X → Y) (b : Bool) (x : X) (xs : List X) → map f (cond b (x ∷ xs) xs) ≡ cond b (f x ∷ map f xs) (map f xs)
map-cond f true x xs = refl
map-cond f false x xs = refl

pub covers-from : (f : ℕ → Span) (test : ℕ → Bool) (n first p : ℕ) → covers (map f (filter test (count_from n first))) p ≡ true → CoversFrom f test n first p
covers-from f test zero first p h = cc
covers-from f test (suc n) first p h =
    covers-from_by f test n first p (test first) (holds (f first) p) refl refl
    (sym (ap (λ ss. covers ss p) (map-cond f (test first) first (filter test (count_from n (suc first))))) ∙ h) (covers-from f test n (suc first) p)

or_left : (a b : Bool) → a ≡ true → (a || b) ≡ true
or_left true b e = refl
or_left false b e = cc

or_right : (a b : Bool) → b ≡ true → (a || b) ≡ true
or_right true b e = refl
or_right false b e = e

covers-later : (b : Bool) (s : Span) (spans : List Span) (p : ℕ) → covers spans p ≡ true → covers (cond b (s ∷ spans) spans) p ≡ true
covers-later true s spans p h = or_right (holds s p) (covers spans p) h
covers-later false s spans p h = h

covers-to_at : (f : ℕ → Span) (test : ℕ → Bool) (n first p place : ℕ) → test place ≡ true → first ≤ place → holds (f place) p ≡ true → (first ≡ place) ⊎ (first ≢ place)
    → (suc first ≤ place → covers (map f (filter test (count_from n (suc first)))) p ≡ true) → covers (map f (filter test (count_from (suc n) first))) p ≡ true
covers-to_at f test n first p place e low h (inl same) rest =
    ap (λ ss. covers (map f ss) p) (filter-cons test first (count_from n (suc first)) true (ap test same ∙ e))
    ∙ or_left (holds (f first) p) _ (ap (λ q. holds (f q) p) same ∙ h)
covers-to_at f test n first p place e low h (inr apart) rest =
    ap (λ ss. covers ss p) (map-cond f (test first) first (filter test (count_from n (suc first))))
    ∙ covers-later (test first) (f first) (map f (filter test (count_from n (suc first)))) p (rest (omega arith))

pub covers-to : (f : ℕ → Span) (test : ℕ → Bool) (n first p place : ℕ) → test place ≡ true → first ≤ place → place < first + n → holds (f place) p ≡ true → covers (map f (filter test (count_from n first))) p ≡ true
covers-to f test zero first p place e low high h = absurd (omega arith)
covers-to f test (suc n) first p place e low high h = covers-to_at f test n first p place e low h (cases_eq first place) (λ later. covers-to f test n (suc first) p place e later (omega arith) h)

find_later : (s : Span) (spans : List Span) (at : ℕ) (b : Bool) → s.start ≢ at → find (λ (t : Span). t.start == at) (cond b (s ∷ spans) spans) ≡ find (λ (t : Span). t.start == at) spans
find_later s spans at true h = let not_it : (s.start == at) ≡ false = grind (arith, nat_tests) in ap (λ b. cond b (Some s) (find (λ (t : Span). t.start == at) spans)) not_it
find_later s spans at false h = refl

is_start : (s : Span) (at : ℕ) → s.start ≡ at → (s.start == at) ≡ true
is_start s at h = grind (arith, nat_tests)

find_here_at : (f : ℕ → Span) (test : ℕ → Bool) (at n first : ℕ) → ((p : ℕ) → (f p).start ≡ p) → first ≤ at → test at ≡ true → (first ≡ at) ⊎ (first ≢ at)
    → (suc first ≤ at → find (λ (s : Span). s.start == at) (map f (filter test (count_from n (suc first)))) ≡ Some (f at))
    → find (λ (s : Span). s.start == at) (map f (filter test (count_from (suc n) first))) ≡ Some (f at)
find_here_at f test at n first h low e (inl same) rest =
    ap (λ ss. find (λ (s : Span). s.start == at) (map f ss)) (filter-cons test first (count_from n (suc first)) true (ap test same ∙ e))
    ∙ ap (λ b. cond b (Some (f first)) (find (λ (s : Span). s.start == at) (map f (filter test (count_from n (suc first)))))) (is_start (f first) at (h first ∙ same))
    ∙ ap (λ p. Some (f p)) same
find_here_at f test at n first h low e (inr apart) rest =
    let start = h first in
    ap (find (λ (s : Span). s.start == at)) (map-cond f (test first) first (filter test (count_from n (suc first))))
    ∙ find_later (f first) (map f (filter test (count_from n (suc first)))) at (test first) (omega arith)
    ∙ rest (omega arith)

find_here_by : (f : ℕ → Span) (test : ℕ → Bool) (at n first : ℕ) → ((p : ℕ) → (f p).start ≡ p) → first ≤ at → at < first + n → test at ≡ true → find (λ (s : Span). s.start == at) (map f (filter test (count_from n first))) ≡ Some (f at)
find_here_by f test at zero first h low high e = absurd (omega arith)
find_here_by f test at (suc n) first h low high e = find_here_at f test at n first h low e (cases_eq first at) (λ later. find_here_by f test at n (suc first) h later (omega arith) e)

pub find_object : (f : ℕ → Span) (test : ℕ → Bool) (at n : ℕ) → ((p : ℕ) → (f p).start ≡ p) → at < n → test at ≡ true → find (λ (s : Span). s.start == at) (map f (filter test (count_from n 0))) ≡ Some (f at)
find_object f test at n h within e = find_here_by f test at n 0 h (omega arith) (omega arith) e

find_none_by : (f : ℕ → Span) (test : ℕ → Bool) (at n first : ℕ) (b : Bool) → ((p : ℕ) → (f p).start ≡ p) → test at ≡ false → test first ≡ b → (first ≡ at) ⊎ (first ≢ at)
    → find (λ (s : Span). s.start == at) (map f (filter test (count_from n (suc first)))) ≡ None
    → find (λ (s : Span). s.start == at) (cond b (f first ∷ map f (filter test (count_from n (suc first)))) (map f (filter test (count_from n (suc first))))) ≡ None
find_none_by f test at n first true h none e (inl same) rest = let yes = ap test same in cc
find_none_by f test at n first true h none e (inr apart) rest = let start = h first in find_later (f first) (map f (filter test (count_from n (suc first)))) at true (omega arith) ∙ rest
find_none_by f test at n first false h none e at_first rest = rest

pub find_no_object : (f : ℕ → Span) (test : ℕ → Bool) (at n first : ℕ) → ((p : ℕ) → (f p).start ≡ p) → test at ≡ false → find (λ (s : Span). s.start == at) (map f (filter test (count_from n first))) ≡ None
find_no_object f test at zero first h none = refl
find_no_object f test at (suc n) first h none =
    ap (find (λ (s : Span). s.start == at)) (map-cond f (test first) first (filter test (count_from n (suc first))))
    ∙ find_none_by f test at n first (test first) h none refl (cases_eq first at) (find_no_object f test at n (suc first) h none)

-- without the objects at a place where none is found nothing changes
filter-none_by : (s : Span) (spans : List Span) (at : ℕ) (b : Bool) → (s.start == at) ≡ b → cond b (Some s) (find (λ (t : Span). t.start == at) spans) ≡ None
    → (find (λ (t : Span). t.start == at) spans ≡ None → filter (λ (t : Span). not (t.start == at)) spans ≡ spans) → cond (not b) (s ∷ filter (λ (t : Span). not (t.start == at)) spans) (filter (λ (t : Span). not (t.start == at)) spans) ≡ s ∷ spans
filter-none_by s spans at true e h rest = cc
filter-none_by s spans at false e h rest = ap (λ ss. s ∷ ss) (rest h)

pub filter-none : (spans : List Span) (at : ℕ) → find (λ (s : Span). s.start == at) spans ≡ None → filter (λ (s : Span). not (s.start == at)) spans ≡ spans
filter-none [] at h = refl
filter-none (s ∷ spans) at h = filter-none_by s spans at (s.start == at) refl h (filter-none spans at)
