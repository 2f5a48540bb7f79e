-- What the longest run says of the free bits, and that the slot goes by it alone.
use Rattle.std.proofs.Common.{◌≡◌, ◌≢◌, ℕ, zero, suc, ◌+◌, ◌*◌, ◌<◌, ◌≤◌, ◌⊎◌, inl, inr, Bool, true, false, not, cond, ◌==◌, if◌then◌else◌, List, [], ◌∷◌, length, refl, ap, sym, ◌∙◌, arith}
use Rattle.std.proofs.lemmas.Bool.{cases_eq}
use Rattle.std.proofs.lemmas.Bool.Decides.{nat_tests}
use Rattle.std.proofs.lemmas.List.Sums.{sum_by-cons}
use Rattle.vm_model.specs.Space.{span, is_free_at, longest}
use Rattle.vm_model.specs.Bits.{slot_for, slot_of, free_count}
use Rattle.vm_model.specs.Hints.{IsFreeSpan, slot_by_run, TheSlotGoesByTheRun}
use Rattle.vm_model.proofs.LongestRun.{the_longest_run_is_longest, is_free_within}

count-taken : (bits : List Bool) → free_count (true ∷ bits) ≡ free_count bits
count-taken bits = sum_by-cons (λ (b : Bool). cond (not b) 1 0) true bits ∙ (let e : 0 + free_count bits ≡ free_count bits = omega arith in e)

count-free : (bits : List Bool) → free_count (false ∷ bits) ≡ suc (free_count bits)
count-free bits = sum_by-cons (λ (b : Bool). cond (not b) 1 0) false bits ∙ (let e : 1 + free_count bits ≡ suc (free_count bits) = omega arith in e)

none_free : (bits : List Bool) → ((place : ℕ) → is_free_at bits place ≡ false) → free_count bits ≡ 0
none_free [] h = refl
none_free (true ∷ bits) h = count-taken bits ∙ none_free bits (λ place. h (suc place))
none_free (false ∷ bits) h = let e = h 0 in cc

pub some_free : (bits : List Bool) (place : ℕ) → is_free_at bits place ≡ true → 0 < free_count bits
some_free [] place h = cc
some_free (true ∷ bits) zero h = cc
some_free (true ∷ bits) (suc place) h = omega (arith, count-taken bits, some_free bits place h)
some_free (false ∷ bits) place h = omega (arith, count-free bits)

pub few_free : (bits : List Bool) → free_count bits ≤ length bits
few_free [] = omega arith
few_free (true ∷ bits) = omega (arith, count-taken bits, few_free bits)
few_free (false ∷ bits) = omega (arith, count-free bits, few_free bits)

pub all_free : (bits : List Bool) → ((place : ℕ) → place < length bits → is_free_at bits place ≡ true) → free_count bits ≡ length bits
all_free [] h = refl
all_free (true ∷ bits) h = let e = h 0 (omega arith) in cc
all_free (false ∷ bits) h = omega (arith, count-free bits, all_free bits (λ place l. h (suc place) (omega arith)))

full : (bits : List Bool) (place : ℕ) → free_count bits ≡ length bits → place < length bits → is_free_at bits place ≡ true
full [] place e h = absurd (omega arith)
full (true ∷ bits) place e h = absurd (omega (arith, count-taken bits, few_free bits))
full (false ∷ bits) zero e h = refl
full (false ∷ bits) (suc place) e h = full bits place (omega (arith, count-free bits)) (omega arith)

not_true : (b : Bool) → (b ≡ true → ⊥) → b ≡ false
not_true true h = absurd (h refl)
not_true false h = refl

one_place : (bits : List Bool) (place : ℕ) → is_free_at bits place ≡ true → IsFreeSpan bits (span place 1)
one_place bits place h other a b = let e : other ≡ place = omega arith in ap (is_free_at bits) e ∙ h

if_yes : {X : Type 0} (a b : ℕ) (x y : X) → a ≡ b → (if a == b then x else y) ≡ x
if_yes a b x y e = let t : (a == b) ≡ true = grind (arith, nat_tests) in ap (λ c. if c then x else y) t

if_no : {X : Type 0} (a b : ℕ) (x y : X) → a ≢ b → (if a == b then x else y) ≡ y
if_no a b x y e = let t : (a == b) ≡ false = grind (arith, nat_tests) in ap (λ c. if c then x else y) t

pub no_run : (bits : List Bool) → (longest bits).pages ≡ 0 → free_count bits ≡ 0
no_run bits e = none_free bits (λ place. not_true (is_free_at bits place) (λ h. (
    let inside = is_free_within bits place h in
    let most = ((the_longest_run_is_longest bits).longest place 1 (omega arith) (omega arith) (omega arith) (one_place bits place h)).0 in absurd (omega arith))))

pub whole_run : (bits : List Bool) → (longest bits).pages ≡ length bits → free_count bits ≡ length bits
whole_run bits e =
    let is = the_longest_run_is_longest bits in let end = is.within in
    all_free bits (λ place l. is.free place (omega arith) (omega arith))

pub some_run : (bits : List Bool) → (longest bits).pages ≢ 0 → free_count bits ≢ 0
some_run bits n = λ e. (let is = the_longest_run_is_longest bits in let some = some_free bits (longest bits).start (is.free (longest bits).start (omega arith) (omega arith)) in absurd (omega arith))

pub part_run : (bits : List Bool) → (longest bits).pages ≢ 0 → (longest bits).pages ≢ length bits → free_count bits ≢ length bits
part_run bits some n = λ e. (
    let is = the_longest_run_is_longest bits in let end = is.within in
    let most = (is.longest 0 (length bits) (omega arith) (omega arith) (omega arith) (λ place a b. full bits place e (omega arith))).0 in absurd (omega arith))

pub run_within : (bits : List Bool) → (longest bits).pages ≤ length bits
run_within bits = let within = (the_longest_run_is_longest bits).within in omega arith

-- The slot in the three cases.

pub slot_none : (bits : List Bool) → (longest bits).pages ≡ 0 → slot_of bits ≡ 0
slot_none bits none = if_yes (free_count bits) 0 _ _ (no_run bits none)

pub slot_all : (bits : List Bool) → (longest bits).pages ≢ 0 → (longest bits).pages ≡ length bits → slot_of bits ≡ slot_for (4 * length bits) + 2
slot_all bits some whole = if_no (free_count bits) 0 _ _ (some_run bits some) ∙ if_yes (free_count bits) (length bits) _ _ (whole_run bits whole)

pub slot_run : (bits : List Bool) → (longest bits).pages ≢ 0 → (longest bits).pages ≢ length bits → slot_of bits ≡ slot_for (4 * (longest bits).pages)
slot_run bits some part = if_no (free_count bits) 0 _ _ (some_run bits some) ∙ if_no (free_count bits) (length bits) _ _ (part_run bits some part)

pub the_slot_goes_by_the_run : TheSlotGoesByTheRun
the_slot_goes_by_the_run bits = by_cases (cases_eq (longest bits).pages 0) (cases_eq (longest bits).pages (length bits))
  where
    by_cases : ((longest bits).pages ≡ 0) ⊎ ((longest bits).pages ≢ 0) → ((longest bits).pages ≡ length bits) ⊎ ((longest bits).pages ≢ length bits) → slot_of bits ≡ slot_by_run (length bits) (longest bits).pages
    by_cases (inl none) whole = slot_none bits none ∙ sym (if_yes (longest bits).pages 0 _ _ none)
    by_cases (inr some) (inl whole) = slot_all bits some whole ∙ sym (if_no (longest bits).pages 0 _ _ some ∙ if_yes (longest bits).pages (length bits) _ _ whole)
    by_cases (inr some) (inr part) = slot_run bits some part ∙ sym (if_no (longest bits).pages 0 _ _ some ∙ if_no (longest bits).pages (length bits) _ _ part)
