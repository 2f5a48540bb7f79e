-- Lists that are made of the numbers from one up.
use Rattle.std.proofs.Common.{◌≡◌, ℕ, zero, suc, ◌+◌, ◌<◌, ◌≤◌, Bool, false, cond, if◌then◌else◌, List, [], ◌∷◌, length, map, replicate, filter, slice_get, Some, refl, ap, ◌∙◌, arith}
use Rattle.vm_model.specs.Space.{count_from, paint_from}
use Rattle.vm_model.specs.Bits.{value_at}

pub length-tabulated : {X : Type 0} (f : ℕ → X) (n first : ℕ) → length (map f (count_from n first)) ≡ n
length-tabulated f zero first = refl
length-tabulated f (suc n) first = ap suc (length-tabulated f n (suc first))

slice_get-tabulated_from : {X : Type 0} (f : ℕ → X) (n first place : ℕ) → place < n → slice_get (map f (count_from n first)) place ≡ Some (f (first + place))
slice_get-tabulated_from f zero first place h = absurd (omega arith)
slice_get-tabulated_from f (suc n) first zero h = let e : first ≡ first + 0 = omega arith in ap (λ p. Some (f p)) e
slice_get-tabulated_from f (suc n) first (suc place) h =
    slice_get-tabulated_from f n (suc first) place (omega arith) ∙ (let e : suc first + place ≡ first + suc place = omega arith in ap (λ p. Some (f p)) e)

pub slice_get-tabulated : {X : Type 0} (f : ℕ → X) (n place : ℕ) → place < n → slice_get (map f (count_from n 0)) place ≡ Some (f place)
slice_get-tabulated f n place h = slice_get-tabulated_from f n 0 place h ∙ (let e : 0 + place ≡ place = omega arith in ap (λ p. Some (f p)) e)

-- functions that agree make the same
pub same_tabulated : {X : Type 0} (f g : ℕ → X) (n first : ℕ) → ((place : ℕ) → first ≤ place → place < first + n → f place ≡ g place) → map f (count_from n first) ≡ map g (count_from n first)
same_tabulated f g zero first h = refl
same_tabulated f g (suc n) first h =
    ap (λ x. x ∷ map f (count_from n (suc first))) (h first (omega arith) (omega arith))
    ∙ ap (λ xs. g first ∷ xs) (same_tabulated f g n (suc first) (λ place low high. h place (omega arith) (omega arith)))

-- tests that agree keep the same
pub filter-same : (f g : ℕ → Bool) (n first : ℕ) → ((p : ℕ) → first ≤ p → p < first + n → f p ≡ g p) → filter f (count_from n first) ≡ filter g (count_from n first)
filter-same f g zero first h = refl
filter-same f g (suc n) first h =
    let rest = filter-same f g n (suc first) (λ p low high. h p (omega arith) (omega arith)) in
    ap (λ xs. cond (f first) (first ∷ xs) xs) rest ∙ ap (λ b. cond b (first ∷ filter g (count_from n (suc first))) (filter g (count_from n (suc first)))) (h first (omega arith) (omega arith))

pub paint_from-tabulated : {X : Type 0} (test : ℕ → Bool) (x : X) (f : ℕ → X) (n first : ℕ) → paint_from first test x (map f (count_from n first)) ≡ map (λ place. if test place then x else f place) (count_from n first)
paint_from-tabulated test x f zero first = refl
paint_from-tabulated test x f (suc n) first = ap (λ xs. (if test first then x else f first) ∷ xs) (paint_from-tabulated test x f n (suc first))

pub tabulated_same : (n first : ℕ) → map (λ (p : ℕ). false) (count_from n first) ≡ replicate n false
tabulated_same zero first = refl
tabulated_same (suc n) first = ap (λ bs. false ∷ bs) (tabulated_same n (suc first))

-- The value at a place.

pub value_at-get : (bits : List Bool) (place : ℕ) (value : Bool) → slice_get bits place ≡ Some value → value_at bits place ≡ value
value_at-get [] place value h = cc
value_at-get (b ∷ bits) zero value h = cc
value_at-get (b ∷ bits) (suc place) value h = value_at-get bits place value h

pub get-value_at : (bits : List Bool) (place : ℕ) (value : Bool) → place < length bits → value_at bits place ≡ value → slice_get bits place ≡ Some value
get-value_at [] place value h e = absurd (omega arith)
get-value_at (b ∷ bits) zero value h e = ap Some e
get-value_at (b ∷ bits) (suc place) value h e = get-value_at bits place value (omega arith) e
