-- The area with a start and a serial.
use Rattle.std.proofs.Common.{◌≡◌, ℕ, ◌<◌, ◌≤◌, inl, inr, Bool, true, false, ◌==◌, cond, length, List, [], ◌∷◌, Option, Some, None, refl, ap, sym, ◌∙◌, subst, arith}
use Rattle.std.proofs.lemmas.Bool.{cases_Bool}
use Rattle.std.proofs.lemmas.Bool.Decides.{nat_tests}
use Rattle.std.specs.Ordering.{nat_cmp}
use Rattle.std.specs.Map.{values_of, lookup, remove_entry}
use Rattle.std.specs.BTreeMap.{is_at}
use Rattle.vm_model.specs.declared.areas.Area.{Area}
use Rattle.vm_model.specs.Space.{end_of}
use Rattle.vm_model.specs.Areas.{is_area, named_areas, without_area}
use Rattle.busy_areas.specs.KeptAreas.{AreApartFrom, AreBelow, AreKept}
use Rattle.busy_areas.proofs.AreaInserted.{AreApartFrom-weaken}

-- whether a key of the map is this start
abbrev pub starts_at : ℕ → ℕ → Bool
starts_at start key = is_at (nat_cmp start) key

at_own : (start : ℕ) → starts_at start start ≡ true
at_own start = grind (arith, nat_tests)

at_other : (start key : ℕ) → (key == start) ≡ false → starts_at start key ≡ false
at_other start key h = grind (arith, nat_tests)

-- the areas with a start and a serial, and the others
pub record AreNamed (start serial : ℕ) (areas named others : List Area) : Type 0 where
  pub own : named_areas start serial areas ≡ named
  pub rest : without_area start serial areas ≡ others

named-skip : (start serial : ℕ) (a : Area) (areas named others : List Area) → is_area start serial a ≡ false → AreNamed start serial areas named others → AreNamed start serial (a ∷ areas) named (a ∷ others)
named-skip start serial a areas named others other more = record { own = rw other more.own; rest = rw other (ap (λ areas. a ∷ areas) more.rest) }

named-take : (start serial : ℕ) (a : Area) (areas named others : List Area) → is_area start serial a ≡ true → AreNamed start serial areas named others → AreNamed start serial (a ∷ areas) (a ∷ named) others
named-take start serial a areas named others this more = record { own = rw this (ap (λ areas. a ∷ areas) more.own); rest = rw this more.rest }

-- no area that starts behind it has it
pub named-past : (low start serial : ℕ) (entries : List (ℕ × Area)) → AreApartFrom low entries → start < low → AreNamed start serial (values_of entries) [] (values_of entries)
named-past low start serial [] apart past = record { own = refl; rest = refl }
named-past low start serial (e ∷ entries) apart past =
    let at = apart.0 in
    let from = apart.1 in
    let other : is_area start serial e.1 ≡ false = grind (arith, nat_tests) in
    let more = AreApartFrom-weaken low (end_of e.1.span) entries (omega arith) apart.3 in
    named-skip start serial e.1 (values_of entries) [] (values_of entries) other (named-past low start serial entries more past)

is_not : (start serial : ℕ) (a : Area) → (a.span.start == start) ≡ false → is_area start serial a ≡ false
is_not start serial a h = rw h refl

is_this : (start serial : ℕ) (a : Area) → (a.span.start == start) ≡ true → a.serial ≡ serial → is_area start serial a ≡ true
is_this start serial a h same = let e : (a.serial == serial) ≡ true = grind (arith, nat_tests) in rw (h, e) refl

is_old : (start serial : ℕ) (a : Area) → (a.serial == serial) ≡ false → is_area start serial a ≡ false
is_old start serial a h = rw h (grind arith)

-- the map without the entry at a start
abbrev pub without : ℕ → List (ℕ × Area) → List (ℕ × Area)
without start entries = remove_entry (starts_at start) entries

abbrev pub at : ℕ → List (ℕ × Area) → Option Area
at start entries = lookup (starts_at start) entries

at-here : (start : ℕ) (e : ℕ × Area) (entries : List (ℕ × Area)) → starts_at start e.0 ≡ true → at start (e ∷ entries) ≡ Some e.1
at-here start e entries here = ap (λ (b : Bool). cond b (Some e.1) (at start entries)) here

at-there : (start : ℕ) (e : ℕ × Area) (entries : List (ℕ × Area)) → starts_at start e.0 ≡ false → at start (e ∷ entries) ≡ at start entries
at-there start e entries there = ap (λ (b : Bool). cond b (Some e.1) (at start entries)) there

pub without-here : (start : ℕ) (e : ℕ × Area) (entries : List (ℕ × Area)) → starts_at start e.0 ≡ true → without start (e ∷ entries) ≡ entries
without-here start e entries here = ap (λ (b : Bool). cond b entries (e ∷ without start entries)) here

pub without-there : (start : ℕ) (e : ℕ × Area) (entries : List (ℕ × Area)) → starts_at start e.0 ≡ false → without start (e ∷ entries) ≡ e ∷ without start entries
without-there start e entries there = ap (λ (b : Bool). cond b entries (e ∷ without start entries)) there

pub own_key : (start key : ℕ) → starts_at start key ≡ true → key ≡ start
own_key start key h = grind (arith, nat_tests)

pub other_key : (start key : ℕ) → starts_at start key ≡ false → (key == start) ≡ false
other_key start key h = grind (arith, nat_tests)

-- the areas behind one with this start have another one
past-here : (low start serial : ℕ) (e : ℕ × Area) (entries : List (ℕ × Area)) → AreApartFrom low (e ∷ entries) → starts_at start e.0 ≡ true → AreNamed start serial (values_of entries) [] (values_of entries)
past-here low start serial e entries apart here =
    let key = apart.0 in
    let some = apart.2 in
    let own = own_key start e.0 here in
    named-past (end_of e.1.span) start serial entries apart.3 (omega arith)

other_start : (low start serial : ℕ) (e : ℕ × Area) (entries : List (ℕ × Area)) → AreApartFrom low (e ∷ entries) → starts_at start e.0 ≡ false → is_area start serial e.1 ≡ false
other_start low start serial e entries apart there =
    let key = apart.0 in
    is_not start serial e.1 (subst (λ (k : ℕ). (k == start) ≡ false) key (other_key start e.0 there))

named-here : (low start serial : ℕ) (e : ℕ × Area) (entries : List (ℕ × Area)) → AreApartFrom low (e ∷ entries) → starts_at start e.0 ≡ true → e.1.serial ≡ serial
    → AreNamed start serial (values_of (e ∷ entries)) (e.1 ∷ []) (values_of (without start (e ∷ entries)))
named-here low start serial e entries apart here same =
    let key = apart.0 in
    let own = own_key start e.0 here in
    let is : (e.1.span.start == start) ≡ true = grind (arith, nat_tests) in
    subst (λ (es : List (ℕ × Area)). AreNamed start serial (values_of (e ∷ entries)) (e.1 ∷ []) (values_of es)) (sym (without-here start e entries here))
    (named-take start serial e.1 (values_of entries) [] (values_of entries) (is_this start serial e.1 is same) (past-here low start serial e entries apart here))

named-there : (low start serial : ℕ) (a : Area) (e : ℕ × Area) (entries : List (ℕ × Area)) → AreApartFrom low (e ∷ entries) → starts_at start e.0 ≡ false
    → AreNamed start serial (values_of entries) (a ∷ []) (values_of (without start entries))
    → AreNamed start serial (values_of (e ∷ entries)) (a ∷ []) (values_of (without start (e ∷ entries)))
named-there low start serial a e entries apart there more =
    subst (λ (es : List (ℕ × Area)). AreNamed start serial (values_of (e ∷ entries)) (a ∷ []) (values_of es)) (sym (without-there start e entries there))
    (named-skip start serial e.1 (values_of entries) (a ∷ []) (values_of (without start entries)) (other_start low start serial e entries apart there) more)

same_area : (start : ℕ) (a : Area) (e : ℕ × Area) (entries : List (ℕ × Area)) → starts_at start e.0 ≡ true → at start (e ∷ entries) ≡ Some a → e.1 ≡ a
same_area start a e entries here found = let is = sym (at-here start e entries here) ∙ found in cc

-- the area that a start finds, with its serial
pub named_found : (low start serial : ℕ) (a : Area) (entries : List (ℕ × Area)) → AreApartFrom low entries → at start entries ≡ Some a → a.serial ≡ serial
    → AreNamed start serial (values_of entries) (a ∷ []) (values_of (without start entries))
named_found low start serial a [] apart found same = absurd cc
named_found low start serial a (e ∷ entries) apart found same = elim (cases_Bool (starts_at start e.0)) [
  | inl here ↦
      let own = same_area start a e entries here found in
      subst (λ (b : Area). AreNamed start serial (values_of (e ∷ entries)) (b ∷ []) (values_of (without start (e ∷ entries)))) own
      (named-here low start serial e entries apart here (ap (λ (b : Area). b.serial) own ∙ same))
  | inr there ↦
      named-there low start serial a e entries apart there (named_found (end_of e.1.span) start serial a entries apart.3 (sym (at-there start e entries there) ∙ found) same)
]

-- an area that a start finds has a page
pub found_page : (low start : ℕ) (a : Area) (entries : List (ℕ × Area)) → AreApartFrom low entries → at start entries ≡ Some a → 1 ≤ a.span.pages
found_page low start a [] apart found = absurd cc
found_page low start a (e ∷ entries) apart found = elim (cases_Bool (starts_at start e.0)) [
  | inl here ↦ subst (λ (b : Area). 1 ≤ b.span.pages) (same_area start a e entries here found) apart.2
  | inr there ↦ found_page (end_of e.1.span) start a entries apart.3 (sym (at-there start e entries there) ∙ found)
]

none-more : (start serial : ℕ) (a : Area) (areas : List Area) → is_area start serial a ≡ false → named_areas start serial areas ≡ [] → named_areas start serial (a ∷ areas) ≡ []
none-more start serial a areas other none = ap (λ (b : Bool). cond b (a ∷ named_areas start serial areas) (named_areas start serial areas)) other ∙ none

-- where the area that a start finds has another serial, none has it
pub named_other : (low start serial : ℕ) (a : Area) (entries : List (ℕ × Area)) → AreApartFrom low entries → at start entries ≡ Some a → (a.serial == serial) ≡ false
    → named_areas start serial (values_of entries) ≡ []
named_other low start serial a [] apart found other = absurd cc
named_other low start serial a (e ∷ entries) apart found other = elim (cases_Bool (starts_at start e.0)) [
  | inl here ↦
      let old = subst (λ (b : Area). (b.serial == serial) ≡ false) (sym (same_area start a e entries here found)) other in
      none-more start serial e.1 (values_of entries) (is_old start serial e.1 old) (past-here low start serial e entries apart here).own
  | inr there ↦
      none-more start serial e.1 (values_of entries) (other_start low start serial e entries apart there)
      (named_other (end_of e.1.span) start serial a entries apart.3 (sym (at-there start e entries there) ∙ found) other)
]

-- where a start finds no area, none has it
pub named_none : (low start serial : ℕ) (entries : List (ℕ × Area)) → AreApartFrom low entries → at start entries ≡ None → named_areas start serial (values_of entries) ≡ []
named_none low start serial [] apart found = refl
named_none low start serial (e ∷ entries) apart found = elim (cases_Bool (starts_at start e.0)) [
  | inl here ↦ absurd (let is = sym (at-here start e entries here) ∙ found in cc)
  | inr there ↦
      none-more start serial e.1 (values_of entries) (other_start low start serial e entries apart there)
      (named_none (end_of e.1.span) start serial entries apart.3 (sym (at-there start e entries there) ∙ found))
]

-- What stays without an area.

pub apart_without : (low start : ℕ) (entries : List (ℕ × Area)) → AreApartFrom low entries → AreApartFrom low (without start entries)
apart_without low start [] apart = tt
apart_without low start (e ∷ entries) apart = elim (cases_Bool (starts_at start e.0)) [
  | inl here ↦
      let key = apart.0 in
      let from = apart.1 in
      subst (AreApartFrom low) (sym (without-here start e entries here)) (AreApartFrom-weaken low (end_of e.1.span) entries (omega arith) apart.3)
  | inr there ↦
      subst (AreApartFrom low) (sym (without-there start e entries there)) (apart.0, apart.1, apart.2, apart_without (end_of e.1.span) start entries apart.3)
]

below_without : (next start : ℕ) (entries : List (ℕ × Area)) → AreBelow next entries → AreBelow next (without start entries)
below_without next start [] below = tt
below_without next start (e ∷ entries) below = elim (cases_Bool (starts_at start e.0)) [
  | inl here ↦ subst (AreBelow next) (sym (without-here start e entries here)) below.1
  | inr there ↦ subst (AreBelow next) (sym (without-there start e entries there)) (below.0, below_without next start entries below.1)
]

length-without : (start : ℕ) (entries : List (ℕ × Area)) → length (without start entries) ≤ length entries
length-without start [] = omega arith
length-without start (e ∷ entries) = elim (cases_Bool (starts_at start e.0)) [
  | inl here ↦ omega (arith, ap length (without-here start e entries here))
  | inr there ↦ omega (arith, ap length (without-there start e entries there), length-without start entries)
]

pub kept_without : (next start : ℕ) (entries new : List (ℕ × Area)) → AreKept entries next → new ≡ without start entries → AreKept new next
kept_without next start entries new kept is = record {
  apart = subst (AreApartFrom 0) (sym is) (apart_without 0 start entries kept.apart);
  serials = subst (AreBelow next) (sym is) (below_without next start entries kept.serials);
  count = (let before = kept.count in omega (arith, ap length is, length-without start entries));
  fits = kept.fits;
}
