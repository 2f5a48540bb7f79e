-- Places that are set one by one, and the same places painted.
use Rattle.std.proofs.Common.{◌≡◌, ◌≢◌, ℕ, zero, suc, ◌+◌, ◌-◌, ◌≤◌, min, Bool, true, false, ◌||◌, ◌==◌, if◌then◌else◌, List, [], ◌∷◌, length, ◌<◌, get_or, slice_get, slice_set, Option, Some, None, option_map, refl, ap, sym, ◌∙◌, arith}
use Rattle.std.proofs.lemmas.Bool.Decides.{nat_tests}
use Rattle.std.proofs.lemmas.List.{set-get_or}
use Rattle.vm_model.specs.Bits.{value_at}
use Rattle.vm_model.specs.declared.areas.Span.{Span}
use Rattle.vm_model.specs.Space.{span, end_of, holds, paint_from, paint}
use Rattle.vm_model.proofs.Elements.{same_by_get}
use Rattle.vm_model.proofs.Paint.{slice_get-paint}

paint_from-within : {X : Type 0} (t t' : ℕ → Bool) (x : X) (ys : List X) (p : ℕ) → ((i : ℕ) → p ≤ i → i < p + length ys → t i ≡ t' i) → paint_from p t x ys ≡ paint_from p t' x ys
paint_from-within t t' x [] p h = refl
paint_from-within t t' x (y ∷ ys) p h =
    ap (λ b. (if b then x else y) ∷ paint_from (suc p) t x ys) (h p (omega arith) (omega arith)) ∙ ap (λ zs. (if t' p then x else y) ∷ zs) (paint_from-within t t' x ys (suc p) (λ i a b. h i (omega arith) (omega arith)))

paint_from-alike : {X : Type 0} (t t' : ℕ → Bool) (x : X) (ys : List X) (p : ℕ) → ((i : ℕ) → p ≤ i → t i ≡ t' i) → paint_from p t x ys ≡ paint_from p t' x ys
paint_from-alike t t' x ys p h = paint_from-within t t' x ys p (λ i a b. h i a)

unchanged : {X : Type 0} (x : X) (o : Option X) → option_map (λ y. if false then x else y) o ≡ o
unchanged x None = refl
unchanged x (Some y) = refl

pub paint-none : {X : Type 0} (t : ℕ → Bool) (x : X) (ys : List X) → ((i : ℕ) → t i ≡ false) → paint t x ys ≡ ys
paint-none t x ys h = same_by_get (paint t x ys) ys (λ k. slice_get-paint t x ys k ∙ ap (λ b. option_map (λ y. if b then x else y) (slice_get ys k)) (h k) ∙ unchanged x (slice_get ys k))

other_test : (t t' : ℕ → Bool) (place i : ℕ) → place ≢ i → t' i ≡ (t i || (place == i)) → t' i ≡ t i
other_test t t' place i apart h = let e : (place == i) ≡ false = grind (arith, nat_tests) in h ∙ or_false (t i) (place == i) e
  where
    or_false : (a b : Bool) → b ≡ false → (a || b) ≡ a
    or_false true b e = refl
    or_false false b e = e

this_test : (t t' : ℕ → Bool) (place i : ℕ) → place ≡ i → t' i ≡ (t i || (place == i)) → t' i ≡ true
this_test t t' place i same h = let e : (place == i) ≡ true = grind (arith, nat_tests) in h ∙ or_true (t i) (place == i) e
  where
    or_true : (a b : Bool) → b ≡ true → (a || b) ≡ true
    or_true true b e = refl
    or_true false b e = e

paint_from-set : {X : Type 0} (t t' : ℕ → Bool) (x : X) (ys : List X) (p k : ℕ) → ((i : ℕ) → t' i ≡ (t i || (p + k == i))) → slice_set (paint_from p t x ys) k x ≡ paint_from p t' x ys
paint_from-set t t' x [] p zero h = refl
paint_from-set t t' x [] p (suc k) h = refl
paint_from-set t t' x (y ∷ ys) p zero h =
    ap (λ zs. x ∷ zs) (paint_from-alike t t' x ys (suc p) (λ i a. sym (other_test t t' (p + 0) i (omega arith) (h i))))
    ∙ ap (λ b. (if b then x else y) ∷ paint_from (suc p) t' x ys) (sym (this_test t t' (p + 0) p (omega arith) (h p)))
paint_from-set t t' x (y ∷ ys) p (suc k) h =
    ap (λ b. (if b then x else y) ∷ slice_set (paint_from (suc p) t x ys) k x) (sym (other_test t t' (p + suc k) p (omega arith) (h p)))
    ∙ ap (λ zs. (if t' p then x else y) ∷ zs) (paint_from-set t t' x ys (suc p) k (λ i. h i ∙ ap (λ n. t i || (n == i)) (let e : p + suc k ≡ suc p + k = omega arith in e)))

-- one more place is painted
pub paint-set : {X : Type 0} (t t' : ℕ → Bool) (x : X) (ys : List X) (k : ℕ) → ((i : ℕ) → t' i ≡ (t i || (k == i))) → slice_set (paint t x ys) k x ≡ paint t' x ys
paint-set t t' x ys k h = paint_from-set t t' x ys 0 k (λ i. h i ∙ ap (λ n. t i || (n == i)) (let e : k ≡ 0 + k = omega arith in e))

-- The pages of a span are painted one by one, the page at hand being the next one.

holds-more : (start page i : ℕ) → start ≤ page → holds (span start (page + 1 - start)) i ≡ (holds (span start (page - start)) i || (page == i))
holds-more start page i h = grind (arith, nat_tests)

holds-none : (start i : ℕ) → holds (span start (start - start)) i ≡ false
holds-none start i = grind (arith, nat_tests)

pub paint-first : {X : Type 0} (start : ℕ) (x : X) (ys : List X) → ys ≡ paint (holds (span start (start - start))) x ys
paint-first start x ys = sym (paint-none (holds (span start (start - start))) x ys (holds-none start))

pub paint-next : {X : Type 0} (start page : ℕ) (x : X) (ys now : List X) → start ≤ page → now ≡ paint (holds (span start (page - start))) x ys → slice_set now page x ≡ paint (holds (span start (page + 1 - start))) x ys
paint-next start page x ys now h is =
    ap (λ zs. slice_set zs page x) is ∙ paint-set (holds (span start (page - start))) (holds (span start (page + 1 - start))) x ys page (λ i. holds-more start page i h)

pub paint-last : {X : Type 0} (s : Span) (page : ℕ) (x : X) (ys now : List X) → page ≡ end_of s → now ≡ paint (holds (span s.start (page - s.start))) x ys → now ≡ paint (holds s) x ys
paint-last s page x ys now last is = is ∙ ap (λ n. paint (holds (span s.start n)) x ys) (let e : page - s.start ≡ s.pages = omega arith in e)

-- the page at hand is as it was
pub paint-ahead : {X : Type 0} (start page : ℕ) (x : X) (ys now : List X) → start ≤ page → now ≡ paint (holds (span start (page - start))) x ys → slice_get now page ≡ slice_get ys page
paint-ahead start page x ys now h is =
    ap (λ zs. slice_get zs page) is ∙ slice_get-paint (holds (span start (page - start))) x ys page
    ∙ ap (λ b. option_map (λ y. if b then x else y) (slice_get ys page)) (let e : holds (span start (page - start)) page ≡ false = grind (arith, nat_tests) in e) ∙ unchanged x (slice_get ys page)

-- Painted twice.

twice : {X : Type 0} (x : X) (o : Option X) (a b : Bool) → option_map (λ y. if b then x else y) (option_map (λ y. if a then x else y) o) ≡ option_map (λ y. if a || b then x else y) o
twice x None a b = refl
twice x (Some y) true true = refl
twice x (Some y) true false = refl
twice x (Some y) false b = refl

pub paint-paint : {X : Type 0} (t t' t'' : ℕ → Bool) (x : X) (ys : List X) → ((i : ℕ) → t'' i ≡ (t i || t' i)) → paint t' x (paint t x ys) ≡ paint t'' x ys
paint-paint t t' t'' x ys h = same_by_get _ _ (λ k.
    slice_get-paint t' x (paint t x ys) k ∙ ap (option_map (λ y. if t' k then x else y)) (slice_get-paint t x ys k) ∙ twice x (slice_get ys k) (t k) (t' k)
    ∙ ap (λ b. option_map (λ y. if b then x else y) (slice_get ys k)) (sym (h k)) ∙ sym (slice_get-paint t'' x ys k))

holds-on : (start page n i : ℕ) → start ≤ page → holds (span start (page + n - start)) i ≡ (holds (span start (page - start)) i || holds (span page n) i)
holds-on start page n i h = grind (arith, nat_tests)

-- the pages up to one, and some more from there on
pub paint-on : {X : Type 0} (start page n : ℕ) (x : X) (ys now after : List X) → start ≤ page → now ≡ paint (holds (span start (page - start))) x ys → after ≡ paint (holds (span page n)) x now
    → after ≡ paint (holds (span start (page + n - start))) x ys
paint-on start page n x ys now after h is more =
    more ∙ ap (paint (holds (span page n)) x) is ∙ paint-paint (holds (span start (page - start))) (holds (span page n)) (holds (span start (page + n - start))) x ys (λ i. holds-on start page n i h)

-- one place is painted
holds-one : (k i : ℕ) → holds (span k 1) i ≡ (false || (k == i))
holds-one k i = grind (arith, nat_tests)

pub paint_one : {X : Type 0} (k : ℕ) (x : X) (ys : List X) → paint (holds (span k 1)) x ys ≡ slice_set ys k x
paint_one k x ys = sym (ap (λ zs. slice_set zs k x) (sym (paint-none (λ i. false) x ys (λ i. refl))) ∙ paint-set (λ i. false) (holds (span k 1)) x ys k (holds-one k))

-- a place that already has the value
pub set_again : (bits : List Bool) (place : ℕ) (value : Bool) → place < length bits → value_at bits place ≡ value → slice_set bits place value ≡ bits
set_again bits place value within is = ap (slice_set bits place) (sym is) ∙ set-get_or bits place false

-- The places of a span that the list has are painted, up to the place at hand.
pub paint-up : {X : Type 0} (first count place : ℕ) (x : X) (ys now : List X) → first ≤ place → min (first + count) (length ys) ≤ place → (first ≤ min (first + count) (length ys) → place ≤ min (first + count) (length ys))
    → now ≡ paint (holds (span first (place - first))) x ys → now ≡ paint (holds (span first count)) x ys
paint-up first count place x ys now from all upto is =
    is ∙ paint_from-within (holds (span first (place - first))) (holds (span first count)) x ys 0 (λ i low high. let e : holds (span first (place - first)) i ≡ holds (span first count) i = grind (arith, nat_tests) in e)

-- places that already have the value
paint_from-again : {X : Type 0} (t : ℕ → Bool) (x : X) (ys : List X) (p : ℕ) → ((i : ℕ) → t (p + i) ≡ true → i < length ys → get_or ys i x ≡ x) → paint_from p t x ys ≡ ys
paint_from-again t x [] p h = refl
paint_from-again t x (y ∷ ys) p h =
    ap (λ z. z ∷ paint_from (suc p) t x ys) (kept (t p) x y (λ held. h 0 (ap t (let e : p + 0 ≡ p = omega arith in e) ∙ held) (omega arith)))
    ∙ ap (λ zs. y ∷ zs) (paint_from-again t x ys (suc p) (λ i held low. h (suc i) (ap t (let e : p + suc i ≡ suc p + i = omega arith in e) ∙ held) (omega arith)))
  where
    kept : {X : Type 0} (b : Bool) (x y : X) → (b ≡ true → y ≡ x) → (if b then x else y) ≡ y
    kept true x y h = sym (h refl)
    kept false x y h = refl

pub paint-again : {X : Type 0} (t : ℕ → Bool) (x : X) (ys : List X) → ((i : ℕ) → t i ≡ true → i < length ys → get_or ys i x ≡ x) → paint t x ys ≡ ys
paint-again t x ys h = paint_from-again t x ys 0 (λ i held low. h i (ap t (let e : i ≡ 0 + i = omega arith in e) ∙ held) low)

-- what is read of a list that was painted
read_from : {X : Type 0} (t : ℕ → Bool) (x : X) (ys : List X) (p k : ℕ) (d : X) → k < length ys → get_or (paint_from p t x ys) k d ≡ (if t (p + k) then x else get_or ys k d)
read_from t x [] p k d h = absurd (omega arith)
read_from t x (y ∷ ys) p zero d h = ap (λ n. if t n then x else y) (let e : p ≡ p + 0 = omega arith in e)
read_from t x (y ∷ ys) p (suc k) d h = read_from t x ys (suc p) k d (omega arith) ∙ ap (λ n. if t n then x else get_or ys k d) (let e : suc p + k ≡ p + suc k = omega arith in e)

pub read-paint : {X : Type 0} (t : ℕ → Bool) (x : X) (ys : List X) (k : ℕ) (d : X) → k < length ys → get_or (paint t x ys) k d ≡ (if t k then x else get_or ys k d)
read-paint t x ys k d h = read_from t x ys 0 k d h ∙ ap (λ n. if t n then x else get_or ys k d) (let e : 0 + k ≡ k = omega arith in e)
