-- Hulls of spans and of one more.
use Rattle.std.proofs.Common.{◌≡◌, ℕ, ◌-◌, ◌≤◌, min, max, All, List, [], ◌∷◌, ◌++◌, Option, Some, None, subst, refl, ap, sym, ◌∙◌, arith}
use Rattle.std.proofs.lemmas.Bool.Decides.{nat_tests}
use Rattle.std.proofs.lemmas.List.Elements.{All-nil, All-cons, All-head, All-tail}
use Rattle.vm_model.specs.declared.areas.Span.{Span}
use Rattle.std.specs.Option.{ForSome}
use Rattle.vm_model.specs.Space.{HasEnd, span, end_of, hull, wider}
use Rattle.callers.specs.CarriedPlaces.{EndsWithin, IsExtra}

-- the hull of spans that end by n ends by n
wider_within : (n : ℕ) (s : Span) (o : Option Span) → end_of s ≤ n → ((t : Span) → o ≡ Some t → end_of t ≤ n) → end_of (wider s o) ≤ n
wider_within n s None low all = low
wider_within n s (Some t) low all = let other = all t refl in grind (arith, nat_tests)

pub hull_within : (n : ℕ) (spans : List Span) (s : Span) → All (λ (t : Span). end_of t ≤ n) spans → hull spans ≡ Some s → end_of s ≤ n
hull_within n [] s all h = cc
hull_within n (t ∷ spans) s all h =
    let EndsBy : Span → Type 0 = λ t. end_of t ≤ n in
    let same : wider t (hull spans) ≡ s = cc in
    subst (λ u. end_of u ≤ n) same (wider_within n t (hull spans) (All-head EndsBy t spans all) (λ u e. hull_within n spans u (All-tail EndsBy t spans all) e))

same_span : (a b c d : ℕ) → a ≡ c → b ≡ d → span a b ≡ span c d
same_span a b c d e f = ap (λ x. span x b) e ∙ ap (span c) f

max_swap : (a b c : ℕ) → max a (max b c) ≡ max b (max a c)
max_swap a b c = omega arith

end_wider : (s t : Span) → end_of (wider s (Some t)) ≡ max (end_of s) (end_of t)
end_wider s t = omega arith

-- it is no matter which of two spans is joined first
wider_swap : (s t : Span) (o : Option Span) → wider s (Some (wider t o)) ≡ wider t (Some (wider s o))
wider_swap s t None = same_span _ _ _ _ (omega arith) (omega arith)
wider_swap s t (Some u) =
    let starts : min s.start (min t.start u.start) ≡ min t.start (min s.start u.start) = omega arith in
    let ends : max (end_of s) (max (end_of t) (end_of u)) ≡ max (end_of t) (max (end_of s) (end_of u)) = max_swap (end_of s) (end_of t) (end_of u) in
    same_span _ _ _ _ starts
    (ap (λ x. max (end_of s) x - min s.start (min t.start u.start)) (end_wider t u) ∙ ap (λ x. x - min s.start (min t.start u.start)) ends
    ∙ ap (λ n. max (end_of t) (max (end_of s) (end_of u)) - n) starts ∙ ap (λ x. max (end_of t) x - min t.start (min s.start u.start)) (sym (end_wider s u)))

-- a span behind the others
pub hull_last : (spans : List Span) (s : Span) → hull (spans ++ s ∷ []) ≡ Some (wider s (hull spans))
hull_last [] s = refl
hull_last (t ∷ spans) s = ap (λ o. Some (wider t o)) (hull_last spans s) ∙ ap (λ u. Some u) (wider_swap t s (hull spans))

-- the hull of spans in the space lies there
pub hull_in : (space : ℕ) (spans : List Span) → All (EndsWithin space) spans → IsExtra space (hull spans)
hull_in space spans all = by (hull spans) refl
  where
    by : (o : Option Span) → hull spans ≡ o → IsExtra space o
    by None e = All-nil (EndsWithin space)
    by (Some s) e = All-cons (EndsWithin space) s [] (hull_within space spans s all e) (All-nil (EndsWithin space))

pub hull_ends : (spans : List Span) → All HasEnd spans → ForSome (hull spans) HasEnd
hull_ends spans all = by (hull spans) refl
  where
    by : (o : Option Span) → hull spans ≡ o → ForSome o HasEnd
    by None e = λ s h. cc
    by (Some s) e = λ t h. let same : s ≡ t = cc in subst HasEnd same (hull_within 1048576 spans s all e)
