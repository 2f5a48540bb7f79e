-- Areas without those that have one of some starts.
use Rattle.std.proofs.Common.{◌≡◌, ℕ, ◌+◌, ◌<◌, inl, inr, Bool, true, false, not, ◌||◌, ◌==◌, cond, length, List, [], ◌∷◌, take, filter, get_or, refl, ap, sym, ◌∙◌, arith}
use Rattle.std.proofs.lemmas.Bool.{cases_Bool}
use Rattle.std.proofs.lemmas.Bool.Decides.{nat_tests}
use Rattle.std.proofs.lemmas.List.Folds.{list_any_more}
use Rattle.std.specs.Map.{values_of}
use Rattle.vm_model.specs.declared.areas.Area.{Area}
use Rattle.vm_model.specs.Space.{end_of, is_among}
use Rattle.vm_model.specs.Areas.{areas_elsewhere}
use Rattle.busy_areas.specs.KeptAreas.{AreApartFrom}
use Rattle.busy_areas.proofs.AreaInserted.{AreApartFrom-weaken}
use Rattle.busy_areas.proofs.NamedAreas.{starts_at, without, without-here, without-there, own_key, other_key}

-- the areas that don't start there
abbrev pub differs : ℕ → Area → Bool
differs start a = not (start == a.span.start)

abbrev pub behind_start : ℕ → List Area → List Area
behind_start start areas = filter (differs start) areas

skip_area : (start : ℕ) (a : Area) (areas : List Area) → differs start a ≡ false → behind_start start (a ∷ areas) ≡ behind_start start areas
skip_area start a areas h = ap (λ (b : Bool). cond b (a ∷ behind_start start areas) (behind_start start areas)) h

keep_area : (start : ℕ) (a : Area) (areas : List Area) → differs start a ≡ true → behind_start start (a ∷ areas) ≡ a ∷ behind_start start areas
keep_area start a areas h = ap (λ (b : Bool). cond b (a ∷ behind_start start areas) (behind_start start areas)) h

all_differ : (low start : ℕ) (entries : List (ℕ × Area)) → AreApartFrom low entries → start < low → behind_start start (values_of entries) ≡ values_of entries
all_differ low start [] apart past = refl
all_differ low start (e ∷ entries) apart past =
    let key = apart.0 in
    let from = apart.1 in
    let other : differs start e.1 ≡ true = grind (arith, nat_tests) in
    keep_area start e.1 (values_of entries) other
    ∙ ap (λ areas. e.1 ∷ areas) (all_differ low start entries (AreApartFrom-weaken low (end_of e.1.span) entries (omega arith) apart.3) past)

-- a map without a start has the areas that don't start there
pub values_without : (low start : ℕ) (entries : List (ℕ × Area)) → AreApartFrom low entries → values_of (without start entries) ≡ behind_start start (values_of entries)
values_without low start [] apart = refl
values_without low start (e ∷ entries) apart = elim (cases_Bool (starts_at start e.0)) [
  | inl here ↦
      let key = apart.0 in
      let some = apart.2 in
      let own = own_key start e.0 here in
      let this : differs start e.1 ≡ false = grind (arith, nat_tests) in
      ap values_of (without-here start e entries here)
      ∙ sym (skip_area start e.1 (values_of entries) this ∙ all_differ (end_of e.1.span) start entries apart.3 (omega arith))
  | inr there ↦
      let key = apart.0 in
      let apart' = other_key start e.0 there in
      let other : differs start e.1 ≡ true = grind (arith, nat_tests) in
      ap values_of (without-there start e entries there)
      ∙ ap (λ areas. e.1 ∷ areas) (values_without (end_of e.1.span) start entries apart.3)
      ∙ sym (keep_area start e.1 (values_of entries) other)
]

more_at : (start : ℕ) (a : Area) (some more : List Area) (b : Bool) → behind_start start some ≡ more
    → behind_start start (cond (not b) (a ∷ some) some) ≡ cond (not (b || (start == a.span.start))) (a ∷ more) more
more_at start a some more true h = h
more_at start a some more false h = ap (λ (areas : List Area). cond (differs start a) (a ∷ areas) areas) h

pub elsewhere_more : (front all : List ℕ) (start : ℕ) (areas : List Area) → ((n : ℕ) → is_among all n ≡ (is_among front n || (start == n)))
    → behind_start start (areas_elsewhere front areas) ≡ areas_elsewhere all areas
elsewhere_more front all start [] is = refl
elsewhere_more front all start (a ∷ areas) is =
    more_at start a (areas_elsewhere front areas) (areas_elsewhere all areas) (is_among front a.span.start) (elsewhere_more front all start areas is)
    ∙ ap (λ (b : Bool). cond (not b) (a ∷ areas_elsewhere all areas) (areas_elsewhere all areas)) (sym (is a.span.start))

-- one more start
pub elsewhere_step : (starts : List ℕ) (i : ℕ) (areas : List Area) → i < length starts → behind_start (get_or starts i 0) (areas_elsewhere (take i starts) areas) ≡ areas_elsewhere (take (i + 1) starts) areas
elsewhere_step starts i areas h = elsewhere_more (take i starts) (take (i + 1) starts) (get_or starts i 0) areas (λ n. list_any_more (λ m. m == n) starts i 0 h)

pub nowhere_else : (areas : List Area) → areas_elsewhere [] areas ≡ areas
nowhere_else [] = refl
nowhere_else (a ∷ areas) = ap (λ areas. a ∷ areas) (nowhere_else areas)
