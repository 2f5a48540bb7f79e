-- The last area that starts at a page or before it.
use Rattle.std.proofs.Common.{◌≡◌, ℕ, ◌-◌, ◌<◌, ◌≤◌, inl, inr, Bool, true, false, cond, length, length-append, List, [], ◌∷◌, ◌++◌, find, Option, Some, None, if◌then◌else◌, refl, ap, sym, ◌∙◌, subst, arith}
use Rattle.std.proofs.lemmas.Bool.{cases_lt}
use Rattle.std.proofs.lemmas.Bool.Decides.{nat_tests}
use Rattle.std.specs.declared.ops.Bound.TheVariants.{Included, Unbounded}
use Rattle.std.specs.Ordering.{nat_cmp}
use Rattle.std.specs.Map.{values_of}
use Rattle.std.specs.BTreeMap.Range.{range_contains, entries_between}
use Rattle.vm_model.specs.declared.areas.Area.{Area}
use Rattle.vm_model.specs.Space.{end_of, holds}
use Rattle.busy_areas.specs.KeptAreas.{AreApartFrom}

-- the entries whose keys are at most a page
abbrev pub up_to : ℕ → List (ℕ × Area) → List (ℕ × Area)
up_to page entries = entries_between nat_cmp Unbounded (Included page) entries

abbrev pub area_with : ℕ → List (ℕ × Area) → Option Area
area_with page entries = find (λ (a : Area). holds a.span page) (values_of entries)

passes : (key page : ℕ) → key ≤ page → range_contains nat_cmp Unbounded (Included page) key ≡ true
passes key page h = grind (arith, nat_tests)

fails : (key page : ℕ) → page < key → range_contains nat_cmp Unbounded (Included page) key ≡ false
fails key page h = grind (arith, nat_tests)

-- where all areas start behind a page, none is up to it, and none holds it
pub record AreBehind (page : ℕ) (entries : List (ℕ × Area)) : Type 0 where
  pub none : up_to page entries ≡ []
  pub empty : area_with page entries ≡ None

pub behind : (low page : ℕ) (entries : List (ℕ × Area)) → AreApartFrom low entries → page < low → AreBehind page entries
behind low page [] apart past = record { none = refl; empty = refl }
behind low page (e ∷ entries) apart past =
    let at = apart.0 in
    let from = apart.1 in
    let rest = behind (end_of e.1.span) page entries apart.3 (omega arith) in
    let out : holds e.1.span page ≡ false = grind (arith, nat_tests) in
    record { none = rw (fails e.0 page (omega arith)) rest.none; empty = rw out rest.empty }

-- the area of an entry is the one that may hold the page
pub record IsLastUpTo (low page : ℕ) (entries : List (ℕ × Area)) (a : Area) : Type 0 where
  pub from : low ≤ a.span.start
  pub reached : a.span.start ≤ page
  pub found : area_with page entries ≡ (if holds a.span page then Some a else None)

nothing_ends : (front : List (ℕ × Area)) (e : ℕ × Area) → [] ≡ front ++ e ∷ [] → ⊥
nothing_ends front e h = omega (arith, length-append front (e ∷ []), ap length h)

up_to-passes : (page : ℕ) (e : ℕ × Area) (entries : List (ℕ × Area)) → e.0 ≤ page → up_to page (e ∷ entries) ≡ e ∷ up_to page entries
up_to-passes page e entries h = ap (λ (b : Bool). cond b (e ∷ up_to page entries) (up_to page entries)) (passes e.0 page h)

from_own : (low : ℕ) (e : ℕ × Area) (entries : List (ℕ × Area)) → AreApartFrom low (e ∷ entries) → AreApartFrom e.0 (e ∷ entries)
from_own low e entries apart = (apart.0, omega arith, apart.2, apart.3)

area_of-fails : (page : ℕ) (a : Area) (found : Option Area) → holds a.span page ≡ false → cond (holds a.span page) (Some a) found ≡ found
area_of-fails page a found out = ap (λ (b : Bool). cond b (Some a) found) out

-- where no area is up to a page, none holds it
pub none_holds : (low page : ℕ) (entries : List (ℕ × Area)) → AreApartFrom low entries → up_to page entries ≡ [] → area_with page entries ≡ None
none_holds low page [] apart none = refl
none_holds low page (e ∷ entries) apart none = elim (cases_lt page e.0) [
  | inl past ↦ (behind e.0 page (e ∷ entries) (from_own low e entries apart) past).empty
  | inr reached ↦ absurd (let is = sym (up_to-passes page e entries reached) ∙ none in cc)
]

last-here : (low page : ℕ) (e : ℕ × Area) (entries : List (ℕ × Area)) → AreApartFrom low (e ∷ entries) → e.0 ≤ page → up_to page entries ≡ [] → IsLastUpTo low page (e ∷ entries) e.1
last-here low page e entries apart reached none =
    let at = apart.0 in
    let from = apart.1 in
    record {
      from = omega arith;
      reached = omega arith;
      found = ap (λ (o : Option Area). cond (holds e.1.span page) (Some e.1) o) (none_holds (end_of e.1.span) page entries apart.3 none);
    }

last-further : (low page : ℕ) (a : Area) (e : ℕ × Area) (entries : List (ℕ × Area)) → AreApartFrom low (e ∷ entries) → IsLastUpTo (end_of e.1.span) page entries a → IsLastUpTo low page (e ∷ entries) a
last-further low page a e entries apart last =
    let at = apart.0 in
    let from = apart.1 in
    let ends = last.from in
    let reached = last.reached in
    let out : holds e.1.span page ≡ false = grind (arith, nat_tests) in
    record { from = omega arith; reached = reached; found = area_of-fails page e.1 (area_with page entries) out ∙ last.found }

-- the last entry up to a page has the area that may hold it
pub last_up_to : (low page : ℕ) (e : ℕ × Area) (entries front : List (ℕ × Area)) → AreApartFrom low entries → up_to page entries ≡ front ++ e ∷ [] → IsLastUpTo low page entries e.1
last_up_to low page e [] front apart is = absurd (nothing_ends front e is)
last_up_to low page e (d ∷ entries) [] apart is = elim (cases_lt page d.0) [
  | inl past ↦ absurd (nothing_ends [] e (sym (behind d.0 page (d ∷ entries) (from_own low d entries apart) past).none ∙ is))
  | inr reached ↦
      let both = sym (up_to-passes page d entries reached) ∙ is in
      let own : d ≡ e = cc in
      let none : up_to page entries ≡ [] = cc in
      subst (λ (x : ℕ × Area). IsLastUpTo low page (d ∷ entries) x.1) own (last-here low page d entries apart reached none)
]
last_up_to low page e (d ∷ entries) (f ∷ front) apart is = elim (cases_lt page d.0) [
  | inl past ↦ absurd (nothing_ends (f ∷ front) e (sym (behind d.0 page (d ∷ entries) (from_own low d entries apart) past).none ∙ is))
  | inr reached ↦
      let both = sym (up_to-passes page d entries reached) ∙ is in
      let rest : up_to page entries ≡ front ++ e ∷ [] = cc in
      last-further low page e.1 d entries apart (last_up_to (end_of d.1.span) page e entries front apart.3 rest)
]

-- whether an area that starts up to a page holds it
pub inside_is : (page : ℕ) (a : Area) → a.span.start ≤ page → page - a.span.start < a.span.pages → (if holds a.span page then Some a else None) ≡ Some a
inside_is page a reached h = let in' : holds a.span page ≡ true = grind (arith, nat_tests) in ap (λ (b : Bool). cond b (Some a) None) in'

pub outside_is : (page : ℕ) (a : Area) → a.span.start ≤ page → a.span.pages ≤ page - a.span.start → (if holds a.span page then Some a else None) ≡ None
outside_is page a reached h = area_of-fails page a None (let out : holds a.span page ≡ false = grind (arith, nat_tests) in out)
