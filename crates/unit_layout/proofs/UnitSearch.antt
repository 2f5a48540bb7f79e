-- The search for the units of an allocation, candidate by candidate.
use Rattle.std.proofs.Common.{◌≡◌, ℕ, suc, ◌+◌, ◌-◌, ◌*◌, ◌/◌, ◌%◌, ◌<◌, ◌≤◌, nat_le, nat_lt, ◌==◌, true, false, List, [], ◌∷◌, filter, None, refl, sym, ◌∙◌, ap, subst, arith}
use Rattle.std.proofs.lemmas.Bool.Decides.{nat_tests}
use Rattle.unit_layout.specs.declared.request.GroupSpec.{GroupSpec}
use Rattle.unit_layout.specs.LayoutRule.{processors, allocations, wasted, kept, taken_after, taken_from, down_to_one}
use Rattle.unit_layout.proofs.Ceilings.{allocations_few, allocations_one}

-- the candidates that are kept among so many numbers down to 1
abbrev pub kept_below : List GroupSpec → (pages : ℕ) → ℕ → List ℕ
kept_below groups pages n = kept groups (filter (λ k. pages % k == 0) (down_to_one n))

is_zero : (n : ℕ) → n ≡ 0 → (n == 0) ≡ true
is_zero n h = grind (arith, nat_tests)

isnt_zero : (n : ℕ) → (n ≡ 0 → ⊥) → (n == 0) ≡ false
isnt_zero n h = grind (arith, nat_tests)

wastes_little : (a b c : ℕ) → a ≤ b + c → nat_le (a - b) c ≡ true
wastes_little a b c h = let k : a - b ≤ c = omega arith in grind (arith, nat_tests)

wastes_much : (a b c : ℕ) → b + c < a → nat_le (a - b) c ≡ false
wastes_much a b c h = let k : c < a - b = omega arith in grind (arith, nat_tests)

kept_at : (groups : List GroupSpec) (pages m : ℕ) → (pages % suc m == 0) ≡ true → nat_le (wasted groups (suc m)) (processors groups / 3) ≡ true → kept_below groups pages (suc m) ≡ suc m ∷ kept_below groups pages m
kept_at groups pages m divides little = rw (divides, little) refl

undivided_at : (groups : List GroupSpec) (pages m : ℕ) → (pages % suc m == 0) ≡ false → kept_below groups pages (suc m) ≡ kept_below groups pages m
undivided_at groups pages m h = rw h refl

passed_over_at : (groups : List GroupSpec) (pages m : ℕ) → (pages % suc m == 0) ≡ true → nat_le (wasted groups (suc m)) (processors groups / 3) ≡ false → kept_below groups pages (suc m) ≡ kept_below groups pages m
passed_over_at groups pages m divides much = rw (divides, much) refl

-- a candidate that divides the allocation and wastes little is kept
pub kept_here : (groups : List GroupSpec) (pages n k : ℕ) → 0 < n → k ≡ n - 1 + 1 → pages % k ≡ 0 → k * allocations groups k ≤ processors groups + processors groups / 3 → kept_below groups pages n ≡ k ∷ kept_below groups pages (n - 1)
kept_here groups pages n k pos e divides little =
    let s : n ≡ suc (n - 1) = omega arith in
    let t : k ≡ suc (n - 1) = omega arith in
    let d : pages % suc (n - 1) ≡ 0 = subst (λ (z : ℕ). pages % z ≡ 0) t divides in
    let l : suc (n - 1) * allocations groups (suc (n - 1)) ≤ processors groups + processors groups / 3 = subst (λ (z : ℕ). z * allocations groups z ≤ processors groups + processors groups / 3) t little in
    ap (kept_below groups pages) s ∙ kept_at groups pages (n - 1) (is_zero _ d) (wastes_little _ _ _ l) ∙ ap (λ (z : ℕ). z ∷ kept_below groups pages (n - 1)) (sym t)

-- one that doesn't divide it isn't
pub undivided_here : (groups : List GroupSpec) (pages n k : ℕ) → 0 < n → k ≡ n - 1 + 1 → (pages % k ≡ 0 → ⊥) → kept_below groups pages n ≡ kept_below groups pages (n - 1)
undivided_here groups pages n k pos e h =
    let s : n ≡ suc (n - 1) = omega arith in
    let t : k ≡ suc (n - 1) = omega arith in
    ap (kept_below groups pages) s ∙ undivided_at groups pages (n - 1) (isnt_zero _ (subst (λ (z : ℕ). pages % z ≡ 0 → ⊥) t h))

-- nor is one that wastes too much
pub passed_over_here : (groups : List GroupSpec) (pages n k : ℕ) → 0 < n → k ≡ n - 1 + 1 → pages % k ≡ 0 → processors groups + processors groups / 3 < k * allocations groups k → kept_below groups pages n ≡ kept_below groups pages (n - 1)
passed_over_here groups pages n k pos e divides much =
    let s : n ≡ suc (n - 1) = omega arith in
    let t : k ≡ suc (n - 1) = omega arith in
    let d : pages % suc (n - 1) ≡ 0 = subst (λ (z : ℕ). pages % z ≡ 0) t divides in
    let l : processors groups + processors groups / 3 < suc (n - 1) * allocations groups (suc (n - 1)) = subst (λ (z : ℕ). processors groups + processors groups / 3 < z * allocations groups z) t much in
    ap (kept_below groups pages) s ∙ passed_over_at groups pages (n - 1) (is_zero _ d) (wastes_much _ _ _ l)

is_less : (a b : ℕ) → a < b → nat_lt a b ≡ true
is_less a b h = grind (arith, nat_tests)

isnt_less : (a b : ℕ) → b ≤ a → nat_lt a b ≡ false
isnt_less a b h = grind (arith, nat_tests)

-- a candidate with more allocations ends the search
pub search_ends : (groups : List GroupSpec) (taken k : ℕ) (ks : List ℕ) → allocations groups taken < allocations groups k → taken_after groups taken (k ∷ ks) ≡ taken
search_ends groups taken k ks h = rw (is_less _ _ h) refl

-- and one with as many or fewer is taken
pub search_goes : (groups : List GroupSpec) (taken k : ℕ) (ks : List ℕ) → allocations groups k ≤ allocations groups taken → taken_after groups taken (k ∷ ks) ≡ taken_after groups k ks
search_goes groups taken k ks h = rw (isnt_less _ _ h) refl

-- the first candidate is taken as if 1 had been taken before, since none has more allocations than 1
pub search_begins : (groups : List GroupSpec) (ks : List ℕ) → taken_after groups 1 ks ≡ taken_from groups None ks
search_begins groups [] = refl
search_begins groups (k ∷ ks) =
    let few = allocations_few groups k in
    let one = allocations_one groups in
    search_goes groups 1 k ks (omega arith)

-- the test of the code for what a candidate wastes
pub little_here : (p a k : ℕ) (processors allocations : ℕ) → p ≡ processors → a ≡ allocations → k * a ≤ p + p / 3 → k * allocations ≤ processors + processors / 3
little_here p a k processors allocations e f h = subst (λ (z : ℕ). k * z ≤ processors + processors / 3) f (subst (λ (z : ℕ). k * a ≤ z + z / 3) e h)

pub much_here : (p a k : ℕ) (processors allocations : ℕ) → p ≡ processors → a ≡ allocations → p + p / 3 < k * a → processors + processors / 3 < k * allocations
much_here p a k processors allocations e f h = subst (λ (z : ℕ). processors + processors / 3 < k * z) f (subst (λ (z : ℕ). z + z / 3 < k * a) e h)
