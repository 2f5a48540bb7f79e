-- Units lie in their groups.
use Rattle.std.proofs.Common.{◌≡◌, ℕ, zero, suc, ◌+◌, ◌*◌, ◌/◌, ◌%◌, ◌<◌, ◌≤◌, ◌==◌, ◌⊎◌, inl, inr, nat_lt, nat_le, Bool, true, false, cond, List, [], ◌∷◌, ◌++◌, map, filter, Some, refl, subst, arith}
use Rattle.std.specs.List.{slice_get, flat_map}
use Rattle.std.specs.Int.{div_ceil}
use Rattle.std.proofs.Math.Nat.{mul-le-mul_left, mul-le-mul_right, div-mul-le_self}
use Rattle.std.proofs.lemmas.Grind.{div_ceil_times}
use Rattle.vm_model.specs.declared.areas.Span.{Span}
use Rattle.vm_model.specs.Space.{end_of, count_from}
use Rattle.unit_layout.specs.declared.request.GroupSpec.{GroupSpec}
use Rattle.unit_layout.specs.declared.request.LayoutSpec.{LayoutSpec}
use Rattle.unit_layout.specs.declared.division.Division.{Division}
use Rattle.unit_layout.specs.NumberRanges.{IsInRange}
use Rattle.unit_layout.specs.LayoutRule.{processors, wasted, allocations, allocation, candidates, kept, taken_after, down_to_one, units_in, division_of, span_of, units_of}
use Rattle.unit_layout.proofs.Ceilings.{power_pos}
use Rattle.unit_layout.proofs.UnitSearch.{search_begins}
use Rattle.unit_layout.proofs.GroupsApart.{laid_spans}

-- a number of units that an allocation has room for
pub record HasRoom (pages unit k : ℕ) : Type 0 where
  pub low : 1 ≤ k
  pub fits : k * unit ≤ pages

abbrev Each : (ℕ → Type 0) → List ℕ → Type 0
Each P [] = Unit {0}
Each P (k ∷ ks) = P k × Each P ks

either : {X : Type 0} (P : X → Type 0) (b : Bool) (x y : X) → P x → P y → P (cond b x y)
either P true x y p q = p
either P false x y p q = q

filter-each : (P : ℕ → Type 0) (test : ℕ → Bool) (ks : List ℕ) → Each P ks → Each P (filter test ks)
filter-each P test [] h = tt
filter-each P test (k ∷ ks) h = either (Each P) (test k) (k ∷ filter test ks) (filter test ks) (h.0, filter-each P test ks h.1) (filter-each P test ks h.1)

taken-each : (P : ℕ → Type 0) (groups : List GroupSpec) (taken : ℕ) (ks : List ℕ) → P taken → Each P ks → P (taken_after groups taken ks)
taken-each P groups taken [] p h = p
taken-each P groups taken (k ∷ ks) p h = either P (nat_lt (allocations groups taken) (allocations groups k)) taken (taken_after groups k ks) p (taken-each P groups k ks h.0 h.1)

down-each : (pages unit n : ℕ) → n ≤ pages / unit → Each (HasRoom pages unit) (down_to_one n)
down-each pages unit zero h = tt
down-each pages unit (suc n) h =
    let m : suc n * unit ≤ pages / unit * unit = mul-le-mul_right unit h in
    let most = div-mul-le_self pages unit in
    (record { low = omega arith; fits = omega arith }, down-each pages unit n (omega arith))

pub units_have_room : (groups : List GroupSpec) (pages unit : ℕ) → unit ≤ pages → HasRoom pages unit (units_in groups pages unit)
units_have_room groups pages unit h =
    let each = filter-each (HasRoom pages unit) (λ k. pages % k == 0) (down_to_one (pages / unit)) (down-each pages unit (pages / unit) (omega arith)) in
    let all = filter-each (HasRoom pages unit) (λ k. nat_le (wasted groups k) (processors groups / 3)) (candidates pages unit) each in
    let one : HasRoom pages unit 1 = record { low = omega arith; fits = omega arith } in
    subst (HasRoom pages unit) (search_begins groups (kept groups (candidates pages unit))) (taken-each (HasRoom pages unit) groups 1 (kept groups (candidates pages unit)) one all)

-- the allocation is no smaller than the unit
pub allocation_low : (unit atom : ℕ) → 1 ≤ atom → unit ≤ allocation unit atom
allocation_low unit atom pos = let t = (div_ceil_times unit atom pos).0 in omega arith

pub division_room : (s : LayoutSpec) → IsInRange s → HasRoom (allocation s.unit s.atom) s.unit (division_of s).units
division_room s h = units_have_room s.groups (allocation s.unit s.atom) s.unit (allocation_low s.unit s.atom (power_pos s.atom h.atom))

-- a place in a list that is put together of two is one of them
pub append_place : {X : Type 0} (xs ys : List X) (i : ℕ) (x : X) → slice_get (xs ++ ys) i ≡ Some x → ((k : ℕ) × (slice_get xs k ≡ Some x)) ⊎ ((k : ℕ) × (slice_get ys k ≡ Some x))
append_place [] ys i x h = inr (i, h)
append_place (y ∷ xs) ys zero x h = inl (0, h)
append_place (y ∷ xs) ys (suc i) x h = elim (append_place xs ys i x h) [ inl p ↦ inl (suc p.0, p.1) | inr p ↦ inr p ]

-- what stands in a mapped row of numbers
pub counted_place : (f : ℕ → ℕ) (n first k unit : ℕ) → slice_get (map f (count_from n first)) k ≡ Some unit → (i : ℕ) × (i < first + n) × (unit ≡ f i)
counted_place f zero first k unit h = cc
counted_place f (suc n) first zero unit h = (first, omega arith, cc)
counted_place f (suc n) first (suc k) unit h = let p = counted_place f n (suc first) k unit h in (p.0, omega arith, p.2)

-- a unit of a group's processor lies in the group
pub unit_in_group : (d : Division) (g : GroupSpec) (i : ℕ) → 1 ≤ d.units → i < g.cpus → g.offset + i * d.unit_pages + d.unit_pages ≤ end_of (span_of d g)
unit_in_group d g i pos h =
    let room = (div_ceil_times g.cpus d.units pos).0 in
    let most : d.unit_pages * (i + 1) ≤ d.unit_pages * (d.units * div_ceil g.cpus d.units) = mul-le-mul_left d.unit_pages (omega arith) in
    omega arith

pub record LiesIn (unit pages : ℕ) (spans : List Span) : Type 0 where
  pub group : ℕ
  pub at : Span
  pub found : slice_get spans group ≡ Some at
  pub low : at.start ≤ unit
  pub high : unit + pages ≤ end_of at

pub lies_in : (d : Division) (groups : List GroupSpec) (cpu unit : ℕ) → 1 ≤ d.units → slice_get (flat_map (units_of d) groups) cpu ≡ Some unit → LiesIn unit d.unit_pages (laid_spans d groups)
lies_in d [] cpu unit pos h = cc
lies_in d (g ∷ groups) cpu unit pos h =
    elim (append_place (units_of d g) (flat_map (units_of d) groups) cpu unit h) [
      | inl p ↦
          let q = counted_place (λ i. g.offset + i * d.unit_pages) g.cpus 0 p.0 unit p.1 in
          let inside = unit_in_group d g q.0 pos (omega arith) in
          let is = q.2 in
          record { group = 0; at = span_of d g; found = refl; low = omega arith; high = omega arith }
      | inr p ↦
          let q = lies_in d groups p.0 unit pos p.1 in
          record { group = suc q.group; at = q.at; found = q.found; low = q.low; high = q.high }
    ]
