-- Pages that were looked up one after another.
use Rattle.std.proofs.Common.{◌≡◌, ℕ, suc, ◌+◌, ◌<◌, ◌≤◌, inl, inr, Bool, true, false, ◌||◌, cond, List, [], ◌∷◌, find, Contains, Option, Some, None, IfSome, IsNone, ◌↔◌, is_some, refl, ap, sym, ◌∙◌, subst, arith}
use Rattle.std.proofs.lemmas.Bool.{cases_lt}
use Rattle.std.proofs.lemmas.Bool.Decides.{nat_tests}
use Rattle.vm_model.specs.declared.areas.Span.{Span}
use Rattle.vm_model.specs.declared.areas.Area.{Area}
use Rattle.vm_model.specs.Space.{end_of, holds, covers}
use Rattle.vm_model.specs.Areas.{spans_of}
use Rattle.busy_areas.specs.KeptAreas.{IsUnused}

abbrev first_with : ℕ → List Area → Option Area
first_with page areas = find (λ (a : Area). holds a.span page) areas

-- what is known of an area that was found
pub record IsFound (page : ℕ) (areas : List Area) (a : Area) : Type 0 where
  pub kept : Contains areas a
  pub within : holds a.span page ≡ true

found-behind : (page : ℕ) (a b : Area) (areas : List Area) → IsFound page areas a → IsFound page (b ∷ areas) a
found-behind page a b areas is = record { kept = (suc is.kept.0, (let low = is.kept.1 in omega arith), is.kept.2); within = is.within }

found_among : (page : ℕ) (b : Area) (areas : List Area) (c : Bool) → holds b.span page ≡ c → IfSome (first_with page areas) (IsFound page areas) → IfSome (cond c (Some b) (first_with page areas)) (IsFound page (b ∷ areas))
found_among page b areas true is rest = record { kept = (0, omega arith, refl); within = is }
found_among page b areas false is rest = found-later (first_with page areas) rest
  where
    found-later : (o : Option Area) → IfSome o (IsFound page areas) → IfSome o (IsFound page (b ∷ areas))
    found-later None h = h
    found-later (Some a) h = found-behind page a b areas h

-- the first area that holds a page is kept, and it holds the page
pub found_is : (page : ℕ) (areas : List Area) → IfSome (first_with page areas) (IsFound page areas)
found_is page [] = tt
found_is page (b ∷ areas) = found_among page b areas (holds b.span page) refl (found_is page areas)

found-covered : (page : ℕ) (a : Area) (areas : List Area) (b : Bool) → is_some (first_with page areas) ≡ covers (spans_of areas) page → is_some (cond b (Some a) (first_with page areas)) ≡ (b || covers (spans_of areas) page)
found-covered page a areas true is = refl
found-covered page a areas false is = is

-- there is one exactly where an area covers the page
pub found_where_covered : (page : ℕ) (areas : List Area) → is_some (first_with page areas) ≡ covers (spans_of areas) page
found_where_covered page [] = refl
found_where_covered page (a ∷ areas) = found-covered page a areas (holds a.span page) (found_where_covered page areas)

kept_of : (page : ℕ) (areas : List Area) (o : Option Area) → IfSome o (IsFound page areas) → IfSome o (Contains areas)
kept_of page areas None h = tt
kept_of page areas (Some a) h = h.kept

within_of : (page : ℕ) (areas : List Area) (o : Option Area) → IfSome o (IsFound page areas) → IfSome o (λ a. holds a.span page ≡ true)
within_of page areas None h = tt
within_of page areas (Some a) h = h.within

-- what is told of a page
pub record IsTold (page : ℕ) (areas : List Area) (o : Option Area) : Type 0 where
  pub kept : IfSome o (Contains areas)
  pub found : IfSome o (λ a. holds a.span page ≡ true)
  pub none : IsNone o ↔ (covers (spans_of areas) page ≡ false)

pub told : (page : ℕ) (areas : List Area) (o : Option Area) → o ≡ first_with page areas → IsTold page areas o
told page areas o is =
    let is_some_covered = ap is_some is ∙ found_where_covered page areas in
    let found = subst (λ (o : Option Area). IfSome o (IsFound page areas)) (sym is) (found_is page areas) in
    record { kept = kept_of page areas o found; found = within_of page areas o found; none = ((λ none. sym is_some_covered ∙ none), (λ clear. is_some_covered ∙ clear)) }

-- no area covers the pages from one to another
abbrev pub AreUnused : List Area → ℕ → ℕ → Type 0
AreUnused areas from to = (page : ℕ) → from ≤ page → page < to → covers (spans_of areas) page ≡ false

pub unused_more : (areas : List Area) (from to : ℕ) → AreUnused areas from to → covers (spans_of areas) to ≡ false → AreUnused areas from (to + 1)
unused_more areas from to unused here page low high = elim (cases_lt page to) [
  | inl before ↦ unused page low before
  | inr at ↦ subst (λ (p : ℕ). covers (spans_of areas) p ≡ false) (let e : to ≡ page = omega arith in e) here
]

pub unused_span : (areas : List Area) (s : Span) → AreUnused areas s.start (end_of s) → IsUnused areas s
unused_span areas s unused page within =
    let low : s.start ≤ page = grind (arith, nat_tests) in
    let high : page < end_of s = grind (arith, nat_tests) in
    unused page low high
