-- The two groups that an overlap names.
use Rattle.std.proofs.Common.{◌≡◌, ℕ, zero, suc, ◌+◌, ◌<◌, ◌≤◌, max, length, ◌⊎◌, inl, inr, nat_lt, if◌then◌else◌, Bool, true, false, List, [], ◌∷◌, Option, Some, None, refl, sym, ◌∙◌, ap, arith}
use Rattle.std.specs.List.{slice_get}
use Rattle.std.specs.Option.{option_map}
use Rattle.std.proofs.lemmas.Bool.Decides.{nat_tests}
use Rattle.vm_model.specs.declared.areas.Span.{Span}
use Rattle.vm_model.specs.Space.{holds}
use Rattle.unit_layout.specs.declared.request.GroupSpec.{GroupSpec}
use Rattle.unit_layout.specs.declared.request.LayoutSpec.{LayoutSpec}
use Rattle.unit_layout.specs.declared.division.Division.{Division}
use Rattle.unit_layout.specs.declared.errors.LayoutError.TheVariants.{NoCpu, TooManyGroups, Overlap, TooWide}
use Rattle.unit_layout.specs.LayoutRule.{span_of, division_of}
use Rattle.unit_layout.specs.Refusals.{first_place, has_no_processor, or_else, share_a_page, too_many, overlap, width, too_wide}
use Rattle.unit_layout.proofs.GroupsApart.{if-none, option_map-none, apart_from}
use Rattle.unit_layout.proofs.Lying.{division_room}
use Rattle.unit_layout.proofs.StandingLayouts.{cpus_at, pages_at, unit_pages_low}
use Rattle.unit_layout.specs.NumberRanges.{IsInRange}
use Rattle.unit_layout.specs.LayoutLaws.{IsLeastOverlap, OverlapsAreTheLeast}

if-some : {X : Type 0} (b : Bool) (x y : X) (more : Option X) → (if b then Some x else more) ≡ Some y → ((b ≡ true) × (x ≡ y)) ⊎ ((b ≡ false) × (more ≡ Some y))
if-some true x y more h = inl (refl, cc)
if-some false x y more h = inr (refl, h)

-- the place that is found holds an element that passes, and those before it don't
pub record IsFirstPlace {X : Type 0} (test : X → Bool) (p : ℕ) (xs : List X) (place : ℕ) : Type 0 where
  pub behind : ℕ
  pub is : place ≡ p + behind
  pub element : X
  pub found : slice_get xs behind ≡ Some element
  pub passes : test element ≡ true
  pub before : (k : ℕ) (y : X) → k < behind → slice_get xs k ≡ Some y → test y ≡ false

later : {X : Type 0} (test : X → Bool) (xs : List X) (x : X) (n : ℕ) → test x ≡ false → ((k : ℕ) (y : X) → k < n → slice_get xs k ≡ Some y → test y ≡ false) → (k : ℕ) (y : X) → k < suc n → slice_get (x ∷ xs) k ≡ Some y → test y ≡ false
later test xs x n first before zero y less e = let same : x ≡ y = cc in ap test (sym same) ∙ first
later test xs x n first before (suc k) y less e = before k y (omega arith) e

pub first_place_is : {X : Type 0} (test : X → Bool) (p : ℕ) (xs : List X) (place : ℕ) → first_place test p xs ≡ Some place → IsFirstPlace test p xs place
first_place_is test p [] place h = cc
first_place_is test p (x ∷ xs) place h =
    elim (if-some (test x) p place (first_place test (suc p) xs) h) [
      | inl q ↦ let e = q.1 in record { behind = 0; is = omega arith; element = x; found = refl; passes = q.0; before = λ k y less e. absurd (omega arith) }
      | inr q ↦
          let r = first_place_is test (suc p) xs place q.1 in
          let e = r.is in
          record { behind = suc r.behind; is = omega arith; element = r.element; found = r.found; passes = r.passes; before = later test xs x r.behind q.0 r.before }
    ]

or_else-some : {X : Type 0} (a b : Option X) (x : X) → or_else a b ≡ Some x → (a ≡ Some x) ⊎ ((a ≡ None) × (b ≡ Some x))
or_else-some None b x h = inr (refl, h)
or_else-some (Some y) b x h = inl h

overlap-some : (first i j : ℕ) (o : Option ℕ) → option_map (Overlap first) o ≡ Some (Overlap i j) → (first ≡ i) × (o ≡ Some j)
overlap-some first i j None h = cc
overlap-some first i j (Some k) h = (cc, cc)

first_place-none : {X : Type 0} (test : X → Bool) (p : ℕ) (xs : List X) → first_place test p xs ≡ None → (k : ℕ) (y : X) → slice_get xs k ≡ Some y → test y ≡ false
first_place-none test p [] h k y e = cc
first_place-none test p (x ∷ xs) h zero y e = let same : x ≡ y = cc in ap test (sym same) ∙ (if-none (test x) p (first_place test (suc p) xs) h).0
first_place-none test p (x ∷ xs) h (suc k) y e = first_place-none test (suc p) xs (if-none (test x) p (first_place test (suc p) xs) h).1 k y e

-- the pair that is found shares a page, and those before it don't
pub record IsFirstPair (d : Division) (p : ℕ) (groups : List GroupSpec) (i j : ℕ) : Type 0 where
  pub a : ℕ
  pub b : ℕ
  pub is_a : i ≡ p + a
  pub is_b : j ≡ p + b
  pub order : a < b
  pub g : GroupSpec
  pub h : GroupSpec
  pub first : slice_get groups a ≡ Some g
  pub second : slice_get groups b ≡ Some h
  pub shares : share_a_page (span_of d g) (span_of d h) ≡ true
  pub before : (k l : ℕ) (x y : GroupSpec) → k < l → (k < a) ⊎ ((k ≡ a) × (l < b)) → slice_get groups k ≡ Some x → slice_get groups l ≡ Some y → share_a_page (span_of d x) (span_of d y) ≡ false

before_here : (d : Division) (g : GroupSpec) (groups : List GroupSpec) (n : ℕ) → ((k : ℕ) (y : GroupSpec) → k < n → slice_get groups k ≡ Some y → share_a_page (span_of d g) (span_of d y) ≡ false) → (k l : ℕ) (x y : GroupSpec) → k < l → (k < 0) ⊎ ((k ≡ 0) × (l < suc n)) → slice_get (g ∷ groups) k ≡ Some x → slice_get (g ∷ groups) l ≡ Some y → share_a_page (span_of d x) (span_of d y) ≡ false
before_here d g groups n before zero zero x y less case e f = absurd (omega arith)
before_here d g groups n before zero (suc l) x y less case e f =
    let same : g ≡ x = cc in
    elim case [ inl q ↦ absurd (omega arith) | inr q ↦ let high = q.1 in ap (λ (z : GroupSpec). share_a_page (span_of d z) (span_of d y)) (sym same) ∙ before l y (omega arith) f ]
before_here d g groups n before (suc k) l x y less case e f = elim case [ inl q ↦ absurd (omega arith) | inr q ↦ let no = q.0 in absurd (omega arith) ]

before_later : (d : Division) (g : GroupSpec) (groups : List GroupSpec) (a b : ℕ) → ((k : ℕ) (y : GroupSpec) → slice_get groups k ≡ Some y → share_a_page (span_of d g) (span_of d y) ≡ false) → ((k l : ℕ) (x y : GroupSpec) → k < l → (k < a) ⊎ ((k ≡ a) × (l < b)) → slice_get groups k ≡ Some x → slice_get groups l ≡ Some y → share_a_page (span_of d x) (span_of d y) ≡ false) → (k l : ℕ) (x y : GroupSpec) → k < l → (k < suc a) ⊎ ((k ≡ suc a) × (l < suc b)) → slice_get (g ∷ groups) k ≡ Some x → slice_get (g ∷ groups) l ≡ Some y → share_a_page (span_of d x) (span_of d y) ≡ false
before_later d g groups a b none before zero zero x y less case e f = absurd (omega arith)
before_later d g groups a b none before zero (suc l) x y less case e f = let same : g ≡ x = cc in ap (λ (z : GroupSpec). share_a_page (span_of d z) (span_of d y)) (sym same) ∙ none l y f
before_later d g groups a b none before (suc k) zero x y less case e f = absurd (omega arith)
before_later d g groups a b none before (suc k) (suc l) x y less case e f =
    before k l x y (omega arith) (elim case [ inl q ↦ inl (omega arith) | inr q ↦ let here = q.0 in let high = q.1 in inr (omega arith, omega arith) ]) e f

pub first_pair : (d : Division) (p : ℕ) (groups : List GroupSpec) (i j : ℕ) → overlap d p groups ≡ Some (Overlap i j) → IsFirstPair d p groups i j
first_pair d p [] i j h = cc
first_pair d p (g ∷ groups) i j h =
    elim (or_else-some (option_map (Overlap p) (first_place (λ other. share_a_page (span_of d g) (span_of d other)) (suc p) groups)) (overlap d (suc p) groups) (Overlap i j) h) [
      | inl q ↦
          let both = overlap-some p i j (first_place (λ other. share_a_page (span_of d g) (span_of d other)) (suc p) groups) q in
          let r = first_place_is (λ other. share_a_page (span_of d g) (span_of d other)) (suc p) groups j both.1 in
          let e = both.0 in
          let f = r.is in
          record { a = 0; b = suc r.behind; is_a = omega arith; is_b = omega arith; order = omega arith; g = g; h = r.element; first = refl; second = r.found; shares = r.passes; before = before_here d g groups r.behind r.before }
      | inr q ↦
          let r = first_pair d (suc p) groups i j q.1 in
          let none = first_place-none (λ other. share_a_page (span_of d g) (span_of d other)) (suc p) groups (option_map-none (Overlap p) (first_place (λ other. share_a_page (span_of d g) (span_of d other)) (suc p) groups) q.0) in
          let e = r.is_a in
          let f = r.is_b in
          let o = r.order in
          record { a = suc r.a; b = suc r.b; is_a = omega arith; is_b = omega arith; order = omega arith; g = r.g; h = r.h; first = r.first; second = r.second; shares = r.shares; before = before_later d g groups r.a r.b none r.before }
    ]

shared_page : (s t : Span) → 1 ≤ s.pages → 1 ≤ t.pages → share_a_page s t ≡ true → (page : ℕ) × (holds s page ≡ true) × (holds t page ≡ true)
shared_page s t one other h = (max s.start t.start, grind (arith, nat_tests), grind (arith, nat_tests))

not_no_cpu : (i j : ℕ) (o : Option ℕ) → option_map NoCpu o ≡ Some (Overlap i j) → ⊥
not_no_cpu i j None h = cc
not_no_cpu i j (Some k) h = cc

not_too_many : (i j n : ℕ) (b : Bool) → (if b then Some (TooManyGroups n) else None) ≡ Some (Overlap i j) → ⊥
not_too_many i j n true h = cc
not_too_many i j n false h = cc

not_too_wide : (i j n : ℕ) (b : Bool) → (if b then Some (TooWide n) else None) ≡ Some (Overlap i j) → ⊥
not_too_wide i j n true h = cc
not_too_wide i j n false h = cc

as_asked : (s : LayoutSpec) → IsInRange s → (i j : ℕ) → first_place has_no_processor 0 s.groups ≡ None → IsFirstPair (division_of s) 0 s.groups i j → IsLeastOverlap s i j
as_asked s range i j none r =
    let d = division_of s in
    let pos = (division_room s range).low in
    let pages = unit_pages_low s range in
    let first : slice_get s.groups i ≡ Some r.g = let e = r.is_a in ap (slice_get s.groups) (let same : i ≡ r.a = omega arith in same) ∙ r.first in
    let second : slice_get s.groups j ≡ Some r.h = let e = r.is_b in ap (slice_get s.groups) (let same : j ≡ r.b = omega arith in same) ∙ r.second in
    let page = shared_page (span_of d r.g) (span_of d r.h) (pages_at d r.g pos pages (cpus_at s.groups 0 i r.g none first)) (pages_at d r.h pos pages (cpus_at s.groups 0 j r.h none second)) r.shares in
    record {
      order = let a = r.is_a in let b = r.is_b in let o = r.order in omega arith;
      one = r.g;
      other = r.h;
      first = first;
      second = second;
      page = page.0;
      in_one = page.1;
      in_other = page.2;
      before = λ k l x y less case e f. apart_from (span_of d x) (span_of d y) (r.before k l x y less (let a = r.is_a in let b = r.is_b in elim case [ inl q ↦ inl (omega arith) | inr q ↦ let here = q.0 in let high = q.1 in inr (omega arith, omega arith) ]) e f);
    }

pub overlaps_are_the_least : OverlapsAreTheLeast
overlaps_are_the_least s range i j h =
    let d = division_of s in
    elim (or_else-some (option_map NoCpu (first_place has_no_processor 0 s.groups)) (or_else (too_many s.groups) (or_else (overlap d 0 s.groups) (too_wide d s.groups))) (Overlap i j) h) [
      | inl q ↦ absurd (not_no_cpu i j (first_place has_no_processor 0 s.groups) q)
      | inr q ↦ elim (or_else-some (too_many s.groups) (or_else (overlap d 0 s.groups) (too_wide d s.groups)) (Overlap i j) q.1) [
        | inl r ↦ absurd (not_too_many i j (length s.groups) (nat_lt 8 (length s.groups)) r)
        | inr r ↦ elim (or_else-some (overlap d 0 s.groups) (too_wide d s.groups) (Overlap i j) r.1) [
          | inl t ↦ as_asked s range i j (option_map-none NoCpu (first_place has_no_processor 0 s.groups) q.0) (first_pair d 0 s.groups i j t)
          | inr t ↦ absurd (not_too_wide i j (width d s.groups) (nat_lt 1048576 (width d s.groups)) t.1)
        ]
      ]
    ]
