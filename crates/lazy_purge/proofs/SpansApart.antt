-- Spans that share no page, one after another.
use Rattle.std.proofs.Common.{◌≡◌, ℕ, ◌+◌, ◌<◌, ◌≤◌, inl, inr, true, false, ◌||◌, length, List, [], ◌∷◌, ◌++◌, take, get_or, refl, ap, sym, ◌∙◌, subst, arith}
use Rattle.std.proofs.lemmas.Bool.{cases_Bool}
use Rattle.std.proofs.lemmas.Bool.Decides.{nat_tests}
use Rattle.std.proofs.lemmas.List.{take_more, take_all}
use Rattle.std.proofs.lemmas.List.Sums.{sum_by-cons, sum_by-append}
use Rattle.vm_model.specs.declared.areas.Span.{Span}
use Rattle.vm_model.specs.Space.{end_of, holds, covers, times, one_if}

-- no page of the span is in one of the spans
abbrev pub IsClearOf : List Span → Span → Type 0
IsClearOf spans s = (page : ℕ) → holds s page ≡ true → covers spans page ≡ false

-- no page is in two of the spans
abbrev pub AreApart : List Span → Type 0
AreApart spans = (page : ℕ) → times page spans ≤ 1

covers-append : (spans : List Span) (t : Span) (page : ℕ) → covers spans page ≡ false → holds t page ≡ false → covers (spans ++ t ∷ []) page ≡ false
covers-append [] t page none out = rw out refl
covers-append (s ∷ spans) t page none out = elim (cases_Bool (holds s page)) [
  | inl within ↦ absurd (let both = sym (ap (λ b. b || covers spans page) within) ∙ none in cc)
  | inr behind ↦ ap (λ b. b || covers (spans ++ t ∷ []) page) behind ∙ covers-append spans t page (sym (ap (λ b. b || covers spans page) behind) ∙ none) out
]

-- where one of two spans ends before the other, they share no page
shares_none : (s t : Span) (page : ℕ) → end_of t ≤ s.start → holds s page ≡ true → holds t page ≡ false
shares_none s t page before within = grind (arith, nat_tests)

shares_none-behind : (s t : Span) (page : ℕ) → end_of s ≤ t.start → holds s page ≡ true → holds t page ≡ false
shares_none-behind s t page behind within = grind (arith, nat_tests)

module _ (spans : List Span) (i : ℕ) (d s : Span) (clear : IsClearOf (take i spans) s) (more : i < length spans) where
  one_more : ((page : ℕ) → holds s page ≡ true → holds (get_or spans i d) page ≡ false) → IsClearOf (take (i + 1) spans) s
  one_more out page within = ap (λ some. covers some page) (take_more spans i d more) ∙ covers-append (take i spans) (get_or spans i d) page (clear page within) (out page within)

  pub clear_before : (n : ℕ) → n ≡ end_of (get_or spans i d) → n ≤ s.start → IsClearOf (take (i + 1) spans) s
  clear_before n is before = one_more (λ page within. shares_none s (get_or spans i d) page (omega arith) within)

  pub clear_behind : (n : ℕ) → n ≡ (get_or spans i d).start → end_of s ≤ n → IsClearOf (take (i + 1) spans) s
  clear_behind n is behind = one_more (λ page within. shares_none-behind s (get_or spans i d) page (omega arith) within)

uncovered : (spans : List Span) (page : ℕ) → covers spans page ≡ false → times page spans ≡ 0
uncovered [] page none = refl
uncovered (s ∷ spans) page none = elim (cases_Bool (holds s page)) [
  | inl within ↦ absurd (let both = sym (ap (λ b. b || covers spans page) within) ∙ none in cc)
  | inr out ↦ omega (arith, sum_by-cons (λ (s : Span). one_if (holds s page)) s spans, ap one_if out, uncovered spans page (sym (ap (λ b. b || covers spans page) out) ∙ none))
]

times-one : (s : Span) (page : ℕ) → times page (s ∷ []) ≡ one_if (holds s page)
times-one s page = omega (arith, sum_by-cons (λ (s : Span). one_if (holds s page)) s [])

pub apart_more : (spans : List Span) (i : ℕ) (d : Span) → AreApart (take i spans) → IsClearOf (take i spans) (get_or spans i d) → i < length spans → AreApart (take (i + 1) spans)
apart_more spans i d apart clear more page =
    let s = get_or spans i d in
    let all = ap (times page) (take_more spans i d more) in
    let parts = sum_by-append (λ (s : Span). one_if (holds s page)) (take i spans) (s ∷ []) in
    let last = times-one s page in
    elim (cases_Bool (holds s page)) [
      | inl within ↦ omega (arith, all, parts, last, ap one_if within, uncovered (take i spans) page (clear page within))
      | inr out ↦ omega (arith, all, parts, last, ap one_if out, apart page)
    ]

pub all_apart : (spans : List Span) (i : ℕ) → AreApart (take i spans) → length spans ≤ i → AreApart spans
all_apart spans i apart all = subst AreApart (take_all i spans all) apart
