-- The pages of spans, counted page by page.
use Rattle.std.proofs.Common.{◌≡◌, ℕ, zero, suc, ◌+◌, ◌<◌, ◌≤◌, inl, inr, true, false, List, [], ◌∷◌, ◌++◌, All, refl, ap, sym, ◌∙◌, arith}
use Rattle.std.proofs.lemmas.Bool.{cases_lt}
use Rattle.std.proofs.lemmas.Bool.Decides.{nat_tests}
use Rattle.std.proofs.lemmas.List.Elements.{All-head, All-tail, All-append}
use Rattle.std.proofs.lemmas.List.Sums.{sum_by-cons, sum_by-append}
use Rattle.vm_model.specs.declared.areas.Span.{Span}
use Rattle.vm_model.specs.Space.{HasEnd}
use Rattle.lazy_purge.specs.WaitingSet.{HasPage, AreCounted}
use Rattle.vm_model.specs.Space.{end_of, holds, one_if, times, sum_of_pages}

-- how many pages below n a span has
abbrev inside : ℕ → Span → ℕ
inside zero s = 0
inside (suc n) s = one_if (holds s n) + inside n s

within_is : (n : ℕ) (s : Span) → s.start ≤ n → n < end_of s → one_if (holds s n) ≡ 1
within_is n s low high = ap one_if (let e : holds s n ≡ true = grind (arith, nat_tests) in e)

before_is : (n : ℕ) (s : Span) → n < s.start → one_if (holds s n) ≡ 0
before_is n s low = ap one_if (let e : holds s n ≡ false = grind (arith, nat_tests) in e)

behind_is : (n : ℕ) (s : Span) → end_of s ≤ n → one_if (holds s n) ≡ 0
behind_is n s high = ap one_if (let e : holds s n ≡ false = grind (arith, nat_tests) in e)

inside-before : (n : ℕ) (s : Span) → n ≤ s.start → inside n s ≡ 0
inside-before zero s h = refl
inside-before (suc n) s h = omega (arith, before_is n s (omega arith), inside-before n s (omega arith))

inside-within : (n : ℕ) (s : Span) → s.start ≤ n → n ≤ end_of s → inside n s + s.start ≡ n
inside-within zero s low high = omega arith
inside-within (suc n) s low high = elim (cases_lt n s.start) [
  | inl before ↦ omega (arith, before_is n s before, inside-before n s (omega arith))
  | inr from ↦ omega (arith, within_is n s from (omega arith), inside-within n s from (omega arith))
]

inside-behind : (n : ℕ) (s : Span) → end_of s ≤ n → inside n s ≡ s.pages
inside-behind zero s h = omega arith
inside-behind (suc n) s h = elim (cases_lt n (end_of s)) [
  | inl last ↦ omega (arith, inside-within (suc n) s (omega arith) (omega arith))
  | inr behind ↦ omega (arith, behind_is n s behind, inside-behind n s behind)
]

-- how often pages below n are in spans
abbrev total : ℕ → List Span → ℕ
total zero spans = 0
total (suc n) spans = times n spans + total n spans

total-nil : (n : ℕ) → total n [] ≡ 0
total-nil zero = refl
total-nil (suc n) = omega (arith, total-nil n)

total-cons : (n : ℕ) (s : Span) (spans : List Span) → total n (s ∷ spans) ≡ inside n s + total n spans
total-cons zero s spans = omega arith
total-cons (suc n) s spans = omega (arith, sum_by-cons (λ (s : Span). one_if (holds s n)) s spans, total-cons n s spans)

total-le : (n : ℕ) (spans : List Span) → ((page : ℕ) → times page spans ≤ 1) → total n spans ≤ n
total-le zero spans once = omega arith
total-le (suc n) spans once = omega (arith, once n, total-le n spans once)

sum-total : (space : ℕ) (spans : List Span) → All (λ (s : Span). end_of s ≤ space) spans → sum_of_pages spans ≡ total space spans
sum-total space [] ends = omega (arith, total-nil space)
sum-total space (s ∷ spans) ends =
    let EndsBy : Span → Type 0 = λ s. end_of s ≤ space in
    omega (arith, sum_by-cons (λ (s : Span). s.pages) s spans, total-cons space s spans, inside-behind space s (All-head EndsBy s spans ends), sum-total space spans (All-tail EndsBy s spans ends))

-- spans of a space that share no page have no more pages than the space
disjoint_spans_fit : (space : ℕ) (spans : List Span) → All (λ (s : Span). end_of s ≤ space) spans → ((page : ℕ) → times page spans ≤ 1) → sum_of_pages spans ≤ space
disjoint_spans_fit space spans ends once = omega (arith, sum-total space spans ends, total-le space spans once)

-- what waits and what is added
module _ (old spans : List Span) (pages : ℕ) (is : AreCounted old pages) (some : All HasPage spans) (ends : All HasEnd spans) (once : (page : ℕ) → times page (old ++ spans) ≤ 1) where
  pub joined_fit : pages + sum_of_pages spans ≤ 1048576
  joined_fit =
      let fit = disjoint_spans_fit 1048576 (old ++ spans) (All-append HasEnd old spans is.ends ends) once in
      let count = is.count in
      omega (arith, sum_by-append (λ (s : Span). s.pages) old spans)

  pub joined : AreCounted (old ++ spans) (pages + sum_of_pages spans)
  joined = record {
    count = ap (λ n. n + sum_of_pages spans) is.count ∙ sym (sum_by-append (λ (s : Span). s.pages) old spans);
    fits = joined_fit;
    some = All-append HasPage old spans is.some some;
    ends = All-append HasEnd old spans is.ends ends;
  }
