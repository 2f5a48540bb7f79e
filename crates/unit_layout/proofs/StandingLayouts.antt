-- A layout that isn't refused is one that a machine may have.
use Rattle.std.proofs.Common.{◌≡◌, ℕ, zero, suc, ◌+◌, ◌*◌, ◌%◌, ◌<◌, ◌≤◌, ◌⊎◌, inl, inr, nat_lt, true, false, List, [], ◌∷◌, ◌++◌, length, map, Some, None, refl, ◌∙◌, ap, subst, arith}
use Rattle.std.specs.List.{slice_get, flat_map}
use Rattle.std.specs.Int.{div_ceil}
use Rattle.std.specs.Option.{option_map}
use Rattle.std.proofs.Math.Nat.{mul-le-mul_right, one-le-mul, div-le_self}
use Rattle.std.proofs.lemmas.Nat.{le-div}
use Rattle.std.proofs.lemmas.Grind.{div_ceil_times}
use Rattle.std.proofs.lemmas.Option.{get_or_from_slice_get, slice_get_within}
use Rattle.std.proofs.lemmas.Bool.Decides.{nat_tests}
use Rattle.vm_model.specs.declared.areas.Span.{Span}
use Rattle.vm_model.specs.Space.{span, holds, end_of, count_from}
use Rattle.vm_model.specs.Setup.{Setup}
use Rattle.vm_model.specs.Rules.{AreApart, AreDisjoint, AreGroups, AreUnits}
use Rattle.unit_layout.specs.declared.request.GroupSpec.{GroupSpec}
use Rattle.unit_layout.specs.declared.request.LayoutSpec.{LayoutSpec}
use Rattle.unit_layout.specs.declared.division.Division.{Division}
use Rattle.unit_layout.specs.declared.errors.LayoutError.TheVariants.{NoCpu, TooManyGroups, TooWide}
use Rattle.unit_layout.specs.NumberRanges.{IsInRange, IsAligned}
use Rattle.unit_layout.specs.LayoutRule.{allocation, division_of, span_of, units_of, pages_of_group, layout_of, with_layout}
use Rattle.unit_layout.specs.Refusals.{first_place, has_no_processor, or_else, too_many, overlap, width, too_wide, refusal}
use Rattle.unit_layout.specs.LayoutLaws.{LayoutsStand}
use Rattle.unit_layout.proofs.Ceilings.{allocation_high}
use Rattle.unit_layout.proofs.GroupPlaces.{end_in_width, groups_in_processors, has_one, units_in_all, length-mapped}
use Rattle.unit_layout.proofs.GroupsApart.{laid_spans, groups_apart, or_else-none, option_map-none, if-none}
use Rattle.unit_layout.proofs.Lying.{division_room, lies_in, unit_in_group}

-- none of the four reasons stands
pub record IsAccepted (d : Division) (groups : List GroupSpec) : Type 0 where
  pub cpus : first_place has_no_processor 0 groups ≡ None
  pub few : length groups ≤ 8
  pub apart : overlap d 0 groups ≡ None
  pub wide : width d groups ≤ 1048576

at_most : (n m : ℕ) → nat_lt n m ≡ false → m ≤ n
at_most n m h = grind (arith, nat_tests)

accepted : (s : LayoutSpec) → refusal s ≡ None → IsAccepted (division_of s) s.groups
accepted s h =
    let d = division_of s in
    let first = or_else-none (option_map NoCpu (first_place has_no_processor 0 s.groups)) (or_else (too_many s.groups) (or_else (overlap d 0 s.groups) (too_wide d s.groups))) h in
    let second = or_else-none (too_many s.groups) (or_else (overlap d 0 s.groups) (too_wide d s.groups)) first.1 in
    let third = or_else-none (overlap d 0 s.groups) (too_wide d s.groups) second.1 in
    record {
      cpus = option_map-none NoCpu (first_place has_no_processor 0 s.groups) first.0;
      few = at_most 8 (length s.groups) (if-none (nat_lt 8 (length s.groups)) (TooManyGroups (length s.groups)) None second.0).0;
      apart = third.0;
      wide = at_most 1048576 (width d s.groups) (if-none (nat_lt 1048576 (width d s.groups)) (TooWide (width d s.groups)) None third.1).0;
    }

-- a group that is laid is one that was asked for
laid_place : (d : Division) (groups : List GroupSpec) (i : ℕ) (t : Span) → slice_get (laid_spans d groups) i ≡ Some t → (g : GroupSpec) × (slice_get groups i ≡ Some g) × (span_of d g ≡ t)
laid_place d [] i t h = cc
laid_place d (g ∷ groups) zero t h = (g, refl, cc)
laid_place d (g ∷ groups) (suc i) t h = laid_place d groups i t h

pub cpus_at : (groups : List GroupSpec) (p i : ℕ) (g : GroupSpec) → first_place has_no_processor p groups ≡ None → slice_get groups i ≡ Some g → 1 ≤ g.cpus
cpus_at [] p i g h e = cc
cpus_at (x ∷ groups) p zero g h e = let same : x ≡ g = cc in subst (λ (y : GroupSpec). 1 ≤ y.cpus) same (has_one x.cpus p (first_place has_no_processor (suc p) groups) h).0
cpus_at (x ∷ groups) p (suc i) g h e = cpus_at groups (suc p) i g (has_one x.cpus p (first_place has_no_processor (suc p) groups) h).1 e

end_at : (d : Division) (groups : List GroupSpec) (i : ℕ) (g : GroupSpec) → slice_get groups i ≡ Some g → end_of (span_of d g) ≤ width d groups
end_at d groups i g e = subst (λ (y : GroupSpec). end_of (span_of d y) ≤ width d groups) (get_or_from_slice_get groups i g g e) (end_in_width d groups i g (slice_get_within groups i g e))

pub pages_at : (d : Division) (g : GroupSpec) → 1 ≤ d.units → 1 ≤ d.unit_pages → 1 ≤ g.cpus → 1 ≤ pages_of_group d g
pages_at d g u p h =
    let room = (div_ceil_times g.cpus d.units u).0 in
    let n : 1 ≤ d.units * div_ceil g.cpus d.units = omega arith in
    one-le-mul p n

groups_stand : (s : LayoutSpec) (c : Setup) → IsInRange s → 1 ≤ (division_of s).unit_pages → IsAccepted (division_of s) s.groups → AreGroups (with_layout (layout_of s) c)
groups_stand s c range p a =
    let d = division_of s in
    let same : length (laid_spans d s.groups) ≡ length s.groups = length-mapped _ _ ∙ length-mapped _ _ in
    record {
      some = let some = range.some in omega arith;
      few = let few = a.few in omega arith;
      first = λ t e. let q = laid_place d s.groups 0 t e in subst (λ (x : Span). x.start ≡ 0) q.2 (range.first q.0 q.1);
      pages = λ i t e. let q = laid_place d s.groups i t e in subst (λ (x : Span). 1 ≤ x.pages) q.2 (pages_at d q.0 (division_room s range).low p (cpus_at s.groups 0 i q.0 a.cpus q.1));
      aligned = λ i t e.
          let q = laid_place d s.groups i t e in
          subst (λ (x : Span). x.start % s.atom ≡ 0) q.2 (subst (IsAligned s.atom) (get_or_from_slice_get s.groups i q.0 q.0 q.1) (range.aligned i q.0 (slice_get_within s.groups i q.0 q.1)));
      within = λ i t e. let q = laid_place d s.groups i t e in let high = end_at d s.groups i q.0 q.1 in let wide = a.wide in subst (λ (x : Span). end_of x ≤ 1048576) q.2 (omega arith);
      apart = groups_apart d 0 s.groups a.apart;
    }

mapped_place : (f : ℕ → Span) (xs ys : List ℕ) (i : ℕ) (t : Span) → slice_get (map f (xs ++ ys)) i ≡ Some t → ((k : ℕ) × (slice_get (map f xs) k ≡ Some t)) ⊎ ((k : ℕ) × (slice_get (map f ys) k ≡ Some t))
mapped_place f [] ys i t h = inr (i, h)
mapped_place f (x ∷ xs) ys zero t h = inl (0, h)
mapped_place f (x ∷ xs) ys (suc i) t h = elim (mapped_place f xs ys i t h) [ inl p ↦ inl (suc p.0, p.1) | inr p ↦ inr p ]

-- lists of spans that are apart from each other, one behind the other
disjoint_append : (f : ℕ → Span) (xs ys : List ℕ) → AreDisjoint (map f xs) → AreDisjoint (map f ys) → ((i j : ℕ) (s t : Span) → slice_get (map f xs) i ≡ Some s → slice_get (map f ys) j ≡ Some t → AreApart s t) → AreDisjoint (map f (xs ++ ys))
disjoint_append f [] ys dx dy cross i j s t less a b = dy i j s t less a b
disjoint_append f (x ∷ xs) ys dx dy cross zero zero s t less a b = absurd (omega arith)
disjoint_append f (x ∷ xs) ys dx dy cross zero (suc j) s t less a b =
    elim (mapped_place f xs ys j t b) [
      | inl p ↦ dx zero (suc p.0) s t (omega arith) a p.1
      | inr p ↦ cross zero p.0 s t a p.1
    ]
disjoint_append f (x ∷ xs) ys dx dy cross (suc i) zero s t less a b = absurd (omega arith)
disjoint_append f (x ∷ xs) ys dx dy cross (suc i) (suc j) s t less a b =
    disjoint_append f xs ys (λ i j s t less a b. dx (suc i) (suc j) s t (omega arith) a b) dy (λ i j s t a b. cross (suc i) j s t a b) i j s t (omega arith) a b

-- the units of one group, one behind the other
unit_place : (f : ℕ → ℕ) (pages n first k : ℕ) (t : Span) → slice_get (map (λ unit. span unit pages) (map f (count_from n first))) k ≡ Some t → (i : ℕ) × (first ≤ i) × (i < first + n) × (span (f i) pages ≡ t)
unit_place f pages zero first k t h = cc
unit_place f pages (suc n) first zero t h = (first, omega arith, omega arith, cc)
unit_place f pages (suc n) first (suc k) t h = let p = unit_place f pages n (suc first) k t h in (p.0, omega arith, omega arith, p.3)

behind : (s t : Span) → end_of s ≤ t.start → AreApart s t
behind s t h page in_s in_t = grind (arith, nat_tests)

units_of_one : (offset pages n first : ℕ) → AreDisjoint (map (λ unit. span unit pages) (map (λ i. offset + i * pages) (count_from n first)))
units_of_one offset pages zero first i j s t less a b = cc
units_of_one offset pages (suc n) first zero zero s t less a b = absurd (omega arith)
units_of_one offset pages (suc n) first zero (suc j) s t less a b =
    let p = unit_place (λ i. offset + i * pages) pages n (suc first) j t b in
    let same : span (offset + first * pages) pages ≡ s = cc in
    let more : suc first * pages ≤ p.0 * pages = mul-le-mul_right pages p.1 in
    subst (λ (x : Span). AreApart x t) same (subst (AreApart (span (offset + first * pages) pages)) p.3 (behind (span (offset + first * pages) pages) (span (offset + p.0 * pages) pages) (omega arith)))
units_of_one offset pages (suc n) first (suc i) zero s t less a b = absurd (omega arith)
units_of_one offset pages (suc n) first (suc i) (suc j) s t less a b = units_of_one offset pages n (suc first) i j s t (omega arith) a b

-- spans within spans that are apart
apart_within : (s t a b : Span) → AreApart a b → a.start ≤ s.start → end_of s ≤ end_of a → b.start ≤ t.start → end_of t ≤ end_of b → AreApart s t
apart_within s t a b h low high low_t high_t page in_s in_t =
    let in_a : holds a page ≡ true = grind (arith, nat_tests) in
    let in_b : holds b page ≡ true = grind (arith, nat_tests) in
    h page in_a in_b

unit_of : (pages : ℕ) (units : List ℕ) (k : ℕ) (t : Span) → slice_get (map (λ unit. span unit pages) units) k ≡ Some t → (unit : ℕ) × (slice_get units k ≡ Some unit) × (span unit pages ≡ t)
unit_of pages [] k t h = cc
unit_of pages (x ∷ units) zero t h = (x, refl, cc)
unit_of pages (x ∷ units) (suc k) t h = unit_of pages units k t h

none_apart : AreDisjoint []
none_apart i j s t less a b = cc

units_apart : (d : Division) (groups : List GroupSpec) → 1 ≤ d.units → AreDisjoint (laid_spans d groups) → AreDisjoint (map (λ unit. span unit d.unit_pages) (flat_map (units_of d) groups))
units_apart d [] pos h = none_apart
units_apart d (g ∷ groups) pos h =
    disjoint_append (λ unit. span unit d.unit_pages) (units_of d g) (flat_map (units_of d) groups) (units_of_one g.offset d.unit_pages g.cpus 0)
    (units_apart d groups pos (λ i j s t less a b. h (suc i) (suc j) s t (omega arith) a b))
    (λ i j s t a b.
    let p = unit_place (λ i. g.offset + i * d.unit_pages) d.unit_pages g.cpus 0 i s a in
    let q = unit_of d.unit_pages (flat_map (units_of d) groups) j t b in
    let in_rest = lies_in d groups j q.0 pos q.1 in
    let below = p.2 in
    let inside = unit_in_group d g p.0 pos (omega arith) in
    let low = in_rest.low in
    let high = in_rest.high in
    subst (λ (x : Span). AreApart x t) p.3 (subst (AreApart (span (g.offset + p.0 * d.unit_pages) d.unit_pages)) q.2
    (apart_within (span (g.offset + p.0 * d.unit_pages) d.unit_pages) (span q.0 d.unit_pages) (span_of d g) in_rest.at (h zero (suc in_rest.group) (span_of d g) in_rest.at (omega arith) refl in_rest.found) (omega arith) (omega arith) (omega arith) (omega arith))))

first_unit : (n offset pages : ℕ) (more : List ℕ) → 1 ≤ n → offset ≡ 0 → slice_get (map (λ i. offset + i * pages) (count_from n 0) ++ more) 0 ≡ Some 0
first_unit zero offset pages more h e = absurd (omega arith)
first_unit (suc n) offset pages more h e = ap Some (let z : offset + 0 * pages ≡ 0 = omega arith in z)

first_of_all : (d : Division) (groups : List GroupSpec) → 1 ≤ length groups → ((i : ℕ) (g : GroupSpec) → slice_get groups i ≡ Some g → 1 ≤ g.cpus) → ((g : GroupSpec) → slice_get groups 0 ≡ Some g → g.offset ≡ 0) → slice_get (flat_map (units_of d) groups) 0 ≡ Some 0
first_of_all d [] some cpus first = absurd (omega arith)
first_of_all d (g ∷ groups) some cpus first = first_unit g.cpus g.offset d.unit_pages (flat_map (units_of d) groups) (cpus 0 g refl) (first g refl)

units_stand : (s : LayoutSpec) (c : Setup) → IsInRange s → IsAccepted (division_of s) s.groups → AreUnits (with_layout (layout_of s) c)
units_stand s c range a =
    let d = division_of s in
    let pos = (division_room s range).low in
    let all = units_in_all d s.groups in
    let many = groups_in_processors s.groups 0 a.cpus in
    record {
      some = let some = range.some in omega arith;
      few = let few = range.processors in omega arith;
      first = first_of_all d s.groups range.some (λ i g e. cpus_at s.groups 0 i g a.cpus e) range.first;
      within = λ cpu unit e. let q = lies_in d s.groups cpu unit pos e in (q.group, q.at, q.found, q.low, q.high);
      apart = units_apart d s.groups pos (groups_apart d 0 s.groups a.apart);
    }

unit_pages_eight : (s : LayoutSpec) → IsInRange s → 8 ≤ (division_of s).unit_pages
unit_pages_eight s range =
    let room = division_room s range in
    let low = range.unit_low in
    let more = le-div s.unit (allocation s.unit s.atom) (division_of s).units room.low (let fits = room.fits in omega arith) in
    omega arith

pub unit_pages_low : (s : LayoutSpec) → IsInRange s → 1 ≤ (division_of s).unit_pages
unit_pages_low s range = let eight = unit_pages_eight s range in omega arith

pub layouts_stand : LayoutsStand
layouts_stand s c range h =
    let pages = unit_pages_eight s range in
    let a = accepted s h in
    record {
      unit_low = pages;
      unit_high = let high = allocation_high s.unit s.atom range.unit_high range.atom range.atom_high in let less = div-le_self (allocation s.unit s.atom) (division_of s).units in omega arith;
      atom = range.atom;
      atom_high = range.atom_high;
      groups = groups_stand s c range (omega arith) a;
      units = units_stand s c range a;
    }
