-- An area put among others that share no page with it.
use Rattle.std.proofs.Common.{◌≡◌, ℕ, ◌+◌, ◌^◌, ◌<◌, ◌≤◌, length, inl, inr, Bool, true, false, ◌||◌, nat_lt, List, [], ◌∷◌, refl, ap, sym, ◌∙◌, subst, arith}
use Rattle.std.proofs.lemmas.Bool.{cases_lt}
use Rattle.std.proofs.lemmas.Bool.Decides.{nat_tests}
use Rattle.std.specs.declared.cmp.Ordering.{Ordering}
use Rattle.std.specs.declared.cmp.Ordering.TheVariants.{Less, Equal, Greater}
use Rattle.std.specs.Ordering.{nat_cmp, match_ordering}
use Rattle.std.specs.Map.{values_of}
use Rattle.std.specs.BTreeMap.{insert_entry}
use Rattle.vm_model.specs.declared.areas.Span.{Span}
use Rattle.vm_model.specs.declared.areas.Area.{Area}
use Rattle.vm_model.specs.Space.{end_of, holds, covers, put_by}
use Rattle.vm_model.specs.Areas.{spans_of}
use Rattle.busy_areas.specs.LiveAreaRows.{LiveRows}
use Rattle.busy_areas.specs.KeptAreas.{AreApartFrom, AreBelow, AreKept, IsUnused}

-- the areas as entries, from a higher page on
pub AreApartFrom-weaken : (low high : ℕ) (entries : List (ℕ × Area)) → low ≤ high → AreApartFrom high entries → AreApartFrom low entries
AreApartFrom-weaken low high [] h apart = tt
AreApartFrom-weaken low high (e ∷ entries) h apart = (apart.0, (let high' = apart.1 in omega arith), apart.2, apart.3)

neither : (b c : Bool) → (b || c) ≡ false → (b ≡ false) × (c ≡ false)
neither true c h = cc
neither false c h = (refl, h)

pub unused_rest : (a : Area) (areas : List Area) (s : Span) → IsUnused (a ∷ areas) s → IsUnused areas s
unused_rest a areas s unused page within = (neither (holds a.span page) (covers (spans_of areas) page) (unused page within)).1

pub unused_first : (a : Area) (areas : List Area) (s : Span) → IsUnused (a ∷ areas) s → (page : ℕ) → holds s page ≡ true → holds a.span page ≡ false
unused_first a areas s unused page within = (neither (holds a.span page) (covers (spans_of areas) page) (unused page within)).0

pub holds-from : (s : Span) (page : ℕ) → s.start ≤ page → page < end_of s → holds s page ≡ true
holds-from s page from below = grind (arith, nat_tests)

-- of two spans that share no page, the one that starts lower ends before the other
ends_before : (s t : Span) → 0 < t.pages → ((page : ℕ) → holds s page ≡ true → holds t page ≡ false) → s.start < t.start → end_of s ≤ t.start
ends_before s t some apart lower = elim (cases_lt t.start (end_of s)) [
  | inl inside ↦ absurd (let both = sym (apart t.start (holds-from s t.start (omega arith) inside)) ∙ holds-from t t.start (omega arith) (omega arith) in cc)
  | inr outside ↦ outside
]

ends_behind : (s t : Span) → 0 < s.pages → ((page : ℕ) → holds s page ≡ true → holds t page ≡ false) → t.start ≤ s.start → end_of t ≤ s.start
ends_behind s t some apart lower = elim (cases_lt s.start (end_of t)) [
  | inl inside ↦ absurd (let both = sym (apart s.start (holds-from s s.start (omega arith) (omega arith))) ∙ holds-from t s.start lower inside in cc)
  | inr outside ↦ outside
]

before_is : (x y : ℕ) → x < y → nat_cmp x y ≡ Less
before_is x y h = grind (arith, nat_tests)

behind_is : (x y : ℕ) → y < x → nat_cmp x y ≡ Greater
behind_is x y h = grind (arith, nat_tests)

-- entries that are areas by rising start, and a list of areas
pub record ArePut (low : ℕ) (entries : List (ℕ × Area)) (rows : List Area) : Type 0 where
  pub areas : values_of entries ≡ rows
  pub apart : AreApartFrom low entries

abbrev pub put : Area → List Area → List Area
put a areas = put_by (λ (b : Area). b.span.start) a areas

put-before : (low : ℕ) (a : Area) (e : ℕ × Area) (entries : List (ℕ × Area)) → AreApartFrom low (e ∷ entries) → 0 < a.span.pages → low ≤ a.span.start → end_of a.span ≤ e.0 → a.span.start < e.0
    → ArePut low (insert_entry nat_cmp (e ∷ entries) a.span.start a) (put a (values_of (e ∷ entries)))
put-before low a e entries apart some from ends lower =
    let less : nat_lt a.span.start e.1.span.start ≡ true = (let at = apart.0 in grind (arith, nat_tests)) in
    rw (before_is a.span.start e.0 lower, less) (record { areas = refl; apart = (refl, from, some, (apart.0, ends, apart.2, apart.3)) })

put-behind : (low : ℕ) (a : Area) (e : ℕ × Area) (entries : List (ℕ × Area)) → AreApartFrom low (e ∷ entries) → e.0 < a.span.start
    → ArePut (end_of e.1.span) (insert_entry nat_cmp entries a.span.start a) (put a (values_of entries))
    → ArePut low (insert_entry nat_cmp (e ∷ entries) a.span.start a) (put a (values_of (e ∷ entries)))
put-behind low a e entries apart behind rest =
    let more : nat_lt a.span.start e.1.span.start ≡ false = (let at = apart.0 in grind (arith, nat_tests)) in
    rw (behind_is a.span.start e.0 behind, more) (record { areas = ap (λ areas. e.1 ∷ areas) rest.areas; apart = (apart.0, apart.1, apart.2, rest.apart) })

-- the areas with one more, which shares no page with them
pub put_apart : (low : ℕ) (a : Area) (entries : List (ℕ × Area)) → AreApartFrom low entries → 0 < a.span.pages → low ≤ a.span.start → IsUnused (values_of entries) a.span
    → ArePut low (insert_entry nat_cmp entries a.span.start a) (put a (values_of entries))
put_apart low a [] apart some from unused = record { areas = refl; apart = (refl, from, some, tt) }
put_apart low a (e ∷ entries) apart some from unused =
    let clear = unused_first e.1 (values_of entries) a.span unused in
    elim (cases_lt a.span.start e.0) [
      | inl lower ↦
          let at = apart.0 in
          let ends = ends_before a.span e.1.span apart.2 clear (omega arith) in
          put-before low a e entries apart some from (omega arith) lower
      | inr higher ↦
          let at = apart.0 in
          let page = apart.2 in
          let ends = ends_behind a.span e.1.span some clear (omega arith) in
          put-behind low a e entries apart (omega arith) (put_apart (end_of e.1.span) a entries apart.3 some ends (unused_rest e.1 (values_of entries) a.span unused))
    ]

-- serials stay below the next one
pub AreBelow-weaken : (next later : ℕ) (entries : List (ℕ × Area)) → next ≤ later → AreBelow next entries → AreBelow later entries
AreBelow-weaken next later [] h below = tt
AreBelow-weaken next later (e ∷ entries) h below = ((let first = below.0 in omega arith), AreBelow-weaken next later entries h below.1)

AreBelow-placed : (next start : ℕ) (a : Area) (e : ℕ × Area) (entries more : List (ℕ × Area)) (o : Ordering) → a.serial < next → AreBelow next (e ∷ entries) → AreBelow next more
    → AreBelow next (match_ordering o ((start, a) ∷ e ∷ entries) ((e.0, a) ∷ entries) (e ∷ more))
AreBelow-placed next start a e entries more Less own below rest = (own, below)
AreBelow-placed next start a e entries more Equal own below rest = (own, below.1)
AreBelow-placed next start a e entries more Greater own below rest = (below.0, rest)

pub AreBelow-insert : (next start : ℕ) (a : Area) (entries : List (ℕ × Area)) → a.serial < next → AreBelow next entries → AreBelow next (insert_entry nat_cmp entries start a)
AreBelow-insert next start a [] own below = (own, tt)
AreBelow-insert next start a (e ∷ entries) own below =
    AreBelow-placed next start a e entries (insert_entry nat_cmp entries start a) (nat_cmp start e.0) own below (AreBelow-insert next start a entries own below.1)

length-placed : (start : ℕ) (a : Area) (e : ℕ × Area) (entries more : List (ℕ × Area)) (o : Ordering) → length more ≤ length entries + 1
    → length (match_ordering o ((start, a) ∷ e ∷ entries) ((e.0, a) ∷ entries) (e ∷ more)) ≤ length (e ∷ entries) + 1
length-placed start a e entries more Less h = omega arith
length-placed start a e entries more Equal h = omega arith
length-placed start a e entries more Greater h = omega arith

pub length-insert_entry : (start : ℕ) (a : Area) (entries : List (ℕ × Area)) → length (insert_entry nat_cmp entries start a) ≤ length entries + 1
length-insert_entry start a [] = omega arith
length-insert_entry start a (e ∷ entries) = length-placed start a e entries (insert_entry nat_cmp entries start a) (nat_cmp start e.0) (length-insert_entry start a entries)

-- what is kept with one more area under the next serial
pub kept_with : (next : ℕ) (a : Area) (entries new : List (ℕ × Area)) → AreKept entries next → a.serial ≡ next → next + 1 < 2 ^ 32 → 0 < a.span.pages → IsUnused (values_of entries) a.span
    → new ≡ insert_entry nat_cmp entries a.span.start a → AreKept new (next + 1)
kept_with next a entries new kept own more some unused is = record {
  apart = subst (AreApartFrom 0) (sym is) (put_apart 0 a entries kept.apart some (omega arith) unused).apart;
  serials = subst (AreBelow (next + 1)) (sym is) (AreBelow-insert (next + 1) a.span.start a entries (omega arith) (AreBelow-weaken next (next + 1) entries (omega arith) kept.serials));
  count = (let before = kept.count in let one : length new ≤ length entries + 1 = subst (λ (es : List (ℕ × Area)). length es ≤ length entries + 1) (sym is) (length-insert_entry a.span.start a entries) in omega arith);
  fits = more;
}

abbrev pub rows : List Area → ℕ → LiveRows
rows areas next = record { areas = areas; next = next }

pub rows_with : (next later : ℕ) (a : Area) (entries new : List (ℕ × Area)) → AreKept entries next → 0 < a.span.pages → IsUnused (values_of entries) a.span → new ≡ insert_entry nat_cmp entries a.span.start a → later ≡ next + 1
    → rows (values_of new) later ≡ rows (put a (values_of entries)) (next + 1)
rows_with next later a entries new kept some unused is then' = ap (λ areas. rows areas later) (ap values_of is ∙ (put_apart 0 a entries kept.apart some (omega arith) unused).areas) ∙ ap (rows (put a (values_of entries))) then'
