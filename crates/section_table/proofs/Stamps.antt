-- The places at which callers stand, with one caller more; and that they are few.
use Rattle.std.proofs.Common.{◌≡◌, ◌≢◌, ℕ, zero, suc, ◌+◌, ◌*◌, ◌<◌, ◌≤◌, eqb, Bool, true, false, List, [], ◌∷◌, ◌++◌, length, refl, ap, ◌∙◌, subst, arith, eq-eqb, ne_eqb, if◌then◌else◌}
use mathlib.Core.Logic.{dite}
use native.Mathlib.Decide.{ℕ_discrete}
use Rattle.section_table.specs.CallerPlaces.{places_from, places, AreBelow}

one_more : (b : Bool) (k : ℕ) (p q : List ℕ) (y z : ℕ) → p ≡ q ++ y ∷ [] → y ≡ z → (if b then k ∷ p else p) ≡ (if b then k ∷ q else q) ++ z ∷ []
one_more true k p q y z e f = ap (λ l. k ∷ l) (e ∙ ap (λ w. q ++ w ∷ []) f)
one_more false k p q y z e f = e ∙ ap (λ w. q ++ w ∷ []) f

same_if : (b : Bool) (k : ℕ) (p q : List ℕ) → p ≡ q → (if b then k ∷ p else p) ≡ (if b then k ∷ q else q)
same_if b k p q e = ap (λ l. if b then k ∷ l else l) e

places_here : (k c : ℕ) (log : List ℕ) → places_from k c (log ++ c ∷ []) ≡ places_from k c log ++ (k + length log) ∷ []
places_here k c [] = ap (λ (b : Bool). if b then k ∷ [] else []) (eq-eqb c c refl) ∙ ap (λ (z : ℕ). z ∷ []) (let e : k ≡ k + 0 = omega arith in e)
places_here k c (x ∷ xs) = one_more (eqb x c) k _ _ _ _ (places_here (1 + k) c xs) (omega arith)

places_else : (k c x : ℕ) (log : List ℕ) → x ≢ c → places_from k c (log ++ x ∷ []) ≡ places_from k c log
places_else k c x [] ne = ap (λ (b : Bool). if b then k ∷ [] else []) (ne_eqb x c ne)
places_else k c x (y ∷ ys) ne = same_if (eqb y c) k _ _ (places_else (1 + k) c x ys ne)

pub more_here : (c : ℕ) (log : List ℕ) → places c (log ++ c ∷ []) ≡ places c log ++ length log ∷ []
more_here c log = places_here 0 c log ∙ ap (λ (z : ℕ). places c log ++ z ∷ []) (let e : 0 + length log ≡ length log = omega arith in e)

pub more_else : (c x : ℕ) (log : List ℕ) → x ≢ c → places c (log ++ x ∷ []) ≡ places c log
more_else c x log ne = places_else 0 c x log ne

pub below_more : (a b : ℕ) (xs : List ℕ) → a ≤ b → AreBelow a xs → AreBelow b xs
below_more a b [] le all = tt
below_more a b (x ∷ xs) le all = ((let h = all.0 in omega arith), below_more a b xs le all.1)

pub below_append : (n : ℕ) (xs ys : List ℕ) → AreBelow n xs → AreBelow n ys → AreBelow n (xs ++ ys)
below_append n [] ys a b = b
below_append n (x ∷ xs) ys a b = (a.0, below_append n xs ys a.1 b)

-- how often the caller stands in the list
abbrev count : ℕ → List ℕ → ℕ
count c [] = 0
count c (x ∷ xs) = (if eqb x c then 1 else 0) + count c xs

length_if : (b : Bool) (k : ℕ) (p : List ℕ) (n : ℕ) → length p ≡ n → length (if b then k ∷ p else p) ≡ (if b then 1 else 0) + n
length_if true k p n e = omega arith
length_if false k p n e = omega arith

count_is : (k c : ℕ) (log : List ℕ) → length (places_from k c log) ≡ count c log
count_is k c [] = refl
count_is k c (x ∷ xs) = length_if (eqb x c) k _ _ (count_is (1 + k) c xs)

abbrev tally : ℕ → List ℕ → ℕ
tally zero log = 0
tally (suc n) log = tally n log + count n log

count_here : (x : ℕ) (xs : List ℕ) → count x (x ∷ xs) ≡ 1 + count x xs
count_here x xs = ap (λ (b : Bool). (if b then 1 else 0) + count x xs) (eq-eqb x x refl)

count_else : (c x : ℕ) (xs : List ℕ) → x ≢ c → count c (x ∷ xs) ≡ count c xs
count_else c x xs ne = ap (λ (b : Bool). (if b then 1 else 0) + count c xs) (ne_eqb x c ne) ∙ (let e : 0 + count c xs ≡ count c xs = omega arith in e)

tally_past : (n x : ℕ) (xs : List ℕ) → n ≤ x → tally n (x ∷ xs) ≡ tally n xs
tally_past zero x xs le = refl
tally_past (suc n) x xs le = let a = tally_past n x xs (omega arith) in let b = count_else n x xs (λ e. absurd (omega arith)) in omega arith

tally_more : (n x : ℕ) (xs : List ℕ) → x < n → tally n (x ∷ xs) ≡ 1 + tally n xs
tally_more zero x xs lt = absurd (omega arith)
tally_more (suc n) x xs lt = dite (ℕ_discrete x n)
    (λ e. let a = tally_past n x xs (omega arith) in let b : count n (x ∷ xs) ≡ 1 + count n xs = subst (λ (z : ℕ). count z (x ∷ xs) ≡ 1 + count z xs) e (count_here x xs) in omega arith)
    (λ ne. let a = tally_more n x xs (omega arith) in let b = count_else n x xs ne in omega arith)

tally_most : (n m : ℕ) (log : List ℕ) → ((c : ℕ) → count c log ≤ m) → tally n log ≤ n * m
tally_most zero m log h = omega arith
tally_most (suc n) m log h = let a = tally_most n m log h in let b = h n in let x : ℕ = n * m in let e : suc n * m ≡ m + x = omega arith in omega arith

zero_tally : (n : ℕ) → 0 ≡ tally n []
zero_tally zero = refl
zero_tally (suc n) = let a = zero_tally n in omega arith

tally_all : (n : ℕ) (log : List ℕ) → AreBelow n log → length log ≡ tally n log
tally_all n [] b = zero_tally n
tally_all n (x ∷ xs) b = let a = tally_all n xs b.1 in let t = tally_more n x xs b.0 in omega arith

-- of n callers none stands more than m times
pub at_most : (n m : ℕ) (log : List ℕ) → AreBelow n log → ((c : ℕ) → length (places c log) ≤ m) → length log ≤ n * m
at_most n m log b h = let a = tally_all n log b in let t = tally_most n m log (λ c. subst (λ (z : ℕ). z ≤ m) (count_is 0 c log) (h c)) in let x : ℕ = n * m in let e : tally n log ≤ x = t in omega arith
