-- Groups' spans carved one after another.
use Rattle.std.proofs.Common.{◌≡◌, ℕ, suc, ◌+◌, ◌-◌, ◌<◌, inl, inr, Bool, true, false, not, ◌&&◌, ◌||◌, if◌then◌else◌, List, [], ◌∷◌, ◌++◌, length, take, get_or, refl, ap, sym, ◌∙◌, subst, arith, get_or-take, length-take}
use Rattle.std.proofs.lemmas.Bool.{or_cases, false_from_ne_true}
use Rattle.std.proofs.lemmas.Bool.Decides.{nat_tests}
use Rattle.std.proofs.lemmas.List.{map-append, take_more}
use Rattle.vm_model.specs.declared.areas.Span.{Span}
use Rattle.vm_model.specs.Space.{span, holds, covers, paint_from, paint}
use Rattle.vm_model.proofs.PaintRuns.{paint_nowhere}
use Rattle.vm_model.specs.Rules.{AreDisjoint}
use Rattle.augmented_tree.proofs.SeparateBlocks.{covers-append}
use Rattle.unit_layout.specs.declared.layout.Group.{Group}
use Rattle.congruent_areas.proofs.LaidOut.{span_there}
use Rattle.augmented_tree.specs.FreeBlocks.{IsFree}
use Rattle.congruent_areas.specs.GroupsAtBase.{spans_of, span_at, spans_at}

-- What was painted twice.

paint-both_by : (a b : Bool) (y : Bool) → (if b then true else (if a then true else y)) ≡ (if a || b then true else y)
paint-both_by true true y = refl
paint-both_by true false y = refl
paint-both_by false true y = refl
paint-both_by false false y = refl

paint-both_from : (first then' both : ℕ → Bool) → ((page : ℕ) → both page ≡ (first page || then' page)) → (p : ℕ) (ys : List Bool)
    → paint_from p then' true (paint_from p first true ys) ≡ paint_from p both true ys
paint-both_from first then' both same p [] = refl
paint-both_from first then' both same p (y ∷ ys) =
    ap (λ b. b ∷ paint_from (suc p) then' true (paint_from (suc p) first true ys)) (paint-both_by (first p) (then' p) y ∙ ap (λ b. if b then true else y) (sym (same p)))
    ∙ ap (λ zs. (if both p then true else y) ∷ zs) (paint-both_from first then' both same (suc p) ys)

-- One more group.

module _ (base : ℕ) (groups : List Group) (i : ℕ) (d : Group) (h : i < length groups) where
  pub spans-more : spans_at base (take (i + 1) groups) ≡ spans_at base (take i groups) ++ span_at base (get_or groups i d) ∷ []
  spans-more = ap (spans_at base) (take_more groups i d h) ∙ map-append (span_at base) (take i groups) (get_or groups i d ∷ [])

  or_none : (b : Bool) → (b || false) ≡ b
  or_none true = refl
  or_none false = refl

  pub covers-more : (page : ℕ) → covers (spans_at base (take (i + 1) groups)) page ≡ (covers (spans_at base (take i groups)) page || holds (span_at base (get_or groups i d)) page)
  covers-more page =
      ap (λ spans. covers spans page) spans-more ∙ covers-append (spans_at base (take i groups)) (span_at base (get_or groups i d) ∷ []) page
      ∙ ap (λ b. covers (spans_at base (take i groups)) page || b) (or_none (holds (span_at base (get_or groups i d)) page))

  pub paint-more : (taken : List Bool) → paint (holds (span_at base (get_or groups i d))) true (paint (covers (spans_at base (take i groups))) true taken) ≡ paint (covers (spans_at base (take (i + 1) groups))) true taken
  paint-more taken = paint-both_from (covers (spans_at base (take i groups))) (holds (span_at base (get_or groups i d))) (covers (spans_at base (take (i + 1) groups))) covers-more 0 taken

  left : (old earlier here : Bool) → ((old && not earlier) && not here) ≡ (old && not (earlier || here))
  left old earlier here = grind arith

  pub cover-more : (old new after : List Span) → ((page : ℕ) → covers new page ≡ (covers old page && not (covers (spans_at base (take i groups)) page)))
      → ((page : ℕ) → covers after page ≡ (covers new page && not (holds (span_at base (get_or groups i d)) page)))
      → (page : ℕ) → covers after page ≡ (covers old page && not (covers (spans_at base (take (i + 1) groups)) page))
  cover-more old new after was then' page =
      then' page ∙ ap (λ b. b && not (holds (span_at base (get_or groups i d)) page)) (was page)
      ∙ left (covers old page) (covers (spans_at base (take i groups)) page) (holds (span_at base (get_or groups i d)) page)
      ∙ ap (λ b. covers old page && not b) (sym (covers-more page))

-- The groups are apart at each base.

holds-shifted : (base page : ℕ) (g : Group) → holds (span_at base g) page ≡ true → holds (span g.offset g.pages) (page - base) ≡ true
holds-shifted base page g h = grind (arith, nat_tests)

-- a covered page is in the span of some group
record Covering (base : ℕ) (groups : List Group) (page : ℕ) : Type 0 where
  at : ℕ
  within : at < length groups
  there : (d : Group) → holds (span_at base (get_or groups at d)) page ≡ true

covering : (base : ℕ) (groups : List Group) (page : ℕ) → covers (spans_at base groups) page ≡ true → Covering base groups page
covering base [] page c = cc
covering base (g ∷ groups) page c =
    elim (or_cases (holds (span_at base g) page) (covers (spans_at base groups) page) c) [
      | inl h ↦ record { at = 0; within = omega arith; there = λ d. h }
      | inr h ↦ let later = covering base groups page h in record { at = suc later.at; within = omega (arith, later.within); there = λ d. later.there d }
    ]

pub not_earlier : (base : ℕ) (groups : List Group) (i : ℕ) (d : Group) (page : ℕ) → AreDisjoint (spans_of groups) → i < length groups → holds (span_at base (get_or groups i d)) page ≡ true
    → covers (spans_at base (take i groups)) page ≡ false
not_earlier base groups i d page apart h here =
    false_from_ne_true _
    (λ c. let earlier = covering base (take i groups) page c in
    let below : earlier.at < i = omega (arith, earlier.within, length-take i groups) in
    let there : holds (span_at base (get_or groups earlier.at d)) page ≡ true = subst (λ g. holds (span_at base g) page ≡ true) (get_or-take i groups earlier.at d below) (earlier.there d) in
    apart earlier.at i _ _ below (span_there groups earlier.at d (omega arith)) (span_there groups i d h) (page - base)
    (holds-shifted base page (get_or groups earlier.at d) there) (holds-shifted base page (get_or groups i d) here))

kept : (old earlier : Bool) → old ≡ true → earlier ≡ false → (old && not earlier) ≡ true
kept old earlier p q = grind arith

-- so a span that was free is free until its turn
pub still_free : (base : ℕ) (groups : List Group) (i : ℕ) (d : Group) (old new : List Span) → AreDisjoint (spans_of groups) → i < length groups → IsFree old (span_at base (get_or groups i d))
    → ((page : ℕ) → covers new page ≡ (covers old page && not (covers (spans_at base (take i groups)) page))) → IsFree new (span_at base (get_or groups i d))
still_free base groups i d old new apart h free was page here = was page ∙ kept _ _ (free page here) (not_earlier base groups i d page apart h here)

-- no spans take nothing
pub paint-none : (taken : List Bool) → paint (covers []) true taken ≡ taken
paint-none taken = paint_nowhere (covers []) true taken (λ page. refl)

pub and_true : (b : Bool) → b ≡ (b && true)
and_true true = refl
and_true false = refl
