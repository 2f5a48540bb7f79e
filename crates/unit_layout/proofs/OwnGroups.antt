-- The units of a group's processors lie in that group.
use Rattle.std.proofs.Common.{◌≡◌, ℕ, zero, suc, ◌+◌, ◌*◌, ◌<◌, List, [], ◌∷◌, ◌++◌, map, take, Some, ◌∙◌, ap, arith}
use Rattle.std.specs.List.{slice_get, flat_map}
use Rattle.std.proofs.lemmas.List.Sums.{sum_by-cons}
use Rattle.vm_model.specs.Space.{count_from}
use Rattle.unit_layout.specs.declared.request.GroupSpec.{GroupSpec}
use Rattle.unit_layout.specs.declared.division.Division.{Division}
use Rattle.unit_layout.specs.LayoutRule.{processors, division_of, units_of, group_of}
use Rattle.unit_layout.specs.LayoutLaws.{UnitsLieInTheirGroup, first_processor}
use Rattle.unit_layout.proofs.Lying.{division_room, unit_in_group}

-- of two rows of numbered units the second begins behind the first
counted_front : (f : ℕ → ℕ) (n first k : ℕ) (more : List ℕ) → k < n → slice_get (map f (count_from n first) ++ more) k ≡ Some (f (first + k))
counted_front f zero first k more h = absurd (omega arith)
counted_front f (suc n) first zero more h = ap (λ (z : ℕ). Some (f z)) (let same : first ≡ first + 0 = omega arith in same)
counted_front f (suc n) first (suc k) more h = counted_front f n (suc first) k more (omega arith) ∙ ap (λ (z : ℕ). Some (f z)) (let same : suc first + k ≡ first + suc k = omega arith in same)

counted_behind : (f : ℕ → ℕ) (n first k : ℕ) (more : List ℕ) → slice_get (map f (count_from n first) ++ more) (n + k) ≡ slice_get more k
counted_behind f zero first k more = ap (slice_get more) (let same : 0 + k ≡ k = omega arith in same)
counted_behind f (suc n) first k more = ap (slice_get (f first ∷ map f (count_from n (suc first)) ++ more)) (let same : suc n + k ≡ suc (n + k) = omega arith in same) ∙ counted_behind f n (suc first) k more

-- where the unit of a group's processor begins
unit_at : (d : Division) (groups : List GroupSpec) (i k : ℕ) (g : GroupSpec) → slice_get groups i ≡ Some g → k < g.cpus → slice_get (flat_map (units_of d) groups) (first_processor groups i + k) ≡ Some (g.offset + k * d.unit_pages)
unit_at d [] i k g e h = cc
unit_at d (x ∷ groups) zero k g e h =
    let same : x ≡ g = cc in
    let here : 0 + k ≡ k = omega arith in
    ap (λ (y : GroupSpec). slice_get (units_of d y ++ flat_map (units_of d) groups) (0 + k)) same
    ∙ ap (slice_get (units_of d g ++ flat_map (units_of d) groups)) here
    ∙ counted_front (λ j. g.offset + j * d.unit_pages) g.cpus 0 k (flat_map (units_of d) groups) h
    ∙ ap (λ (z : ℕ). Some (g.offset + z * d.unit_pages)) here
unit_at d (x ∷ groups) (suc i) k g e h =
    let sum = sum_by-cons (λ (y : GroupSpec). y.cpus) x (take i groups) in
    ap (slice_get (units_of d x ++ flat_map (units_of d) groups)) (let same : processors (x ∷ take i groups) + k ≡ x.cpus + (processors (take i groups) + k) = omega arith in same)
    ∙ counted_behind (λ j. x.offset + j * d.unit_pages) x.cpus 0 (processors (take i groups) + k) (flat_map (units_of d) groups)
    ∙ unit_at d groups i k g e h

group_at : (d : Division) (groups : List GroupSpec) (i : ℕ) (g : GroupSpec) → slice_get groups i ≡ Some g → slice_get (map (group_of d) groups) i ≡ Some (group_of d g)
group_at d [] i g e = cc
group_at d (x ∷ groups) zero g e = let same : x ≡ g = cc in ap (λ (y : GroupSpec). Some (group_of d y)) same
group_at d (x ∷ groups) (suc i) g e = group_at d groups i g e

pub units_in_group : UnitsLieInTheirGroup
units_in_group s range h i k g e less =
    let d = division_of s in
    record {
      group = group_of d g;
      unit = g.offset + k * d.unit_pages;
      is_group = group_at d s.groups i g e;
      is_unit = unit_at d s.groups i k g e less;
      low = omega arith;
      high = unit_in_group d g k (division_room s range).low less;
    }
