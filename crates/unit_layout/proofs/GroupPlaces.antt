-- Where groups and units lie, and how many there are.
use Rattle.std.proofs.Common.{◌≡◌, ℕ, zero, suc, ◌+◌, ◌-◌, ◌*◌, ◌<◌, ◌≤◌, ◌==◌, if◌then◌else◌, false, List, [], ◌∷◌, ◌++◌, append_assoc, length, map, drop, get_or, Option, Some, None, refl, sym, ◌∙◌, ap, arith, add-one}
use Rattle.std.specs.List.{flat_map}
use Rattle.std.specs.Option.{option_map}
use Rattle.std.proofs.Math.Seq.{drop-cons}
use Rattle.std.proofs.lemmas.Bool.Decides.{nat_tests}
use Rattle.std.proofs.lemmas.List.Sums.{sum_by-cons}
use Rattle.std.proofs.lemmas.List.Concat.{length-flat_map}
use Rattle.vm_model.specs.Space.{end_of, count_from}
use Rattle.unit_layout.specs.declared.request.GroupSpec.{GroupSpec}
use Rattle.unit_layout.specs.declared.division.Division.{Division}
use Rattle.unit_layout.specs.declared.errors.LayoutError.TheVariants.{Overlap}
use Rattle.unit_layout.specs.LayoutRule.{processors, span_of, units_of}
use Rattle.unit_layout.specs.Refusals.{first_place, has_no_processor, or_else, share_a_page, overlap, width}

-- no group ends above the greatest end
pub end_in_width : (d : Division) (groups : List GroupSpec) (i : ℕ) (x : GroupSpec) → i < length groups → end_of (span_of d (get_or groups i x)) ≤ width d groups
end_in_width d [] i x h = absurd (omega arith)
end_in_width d (g ∷ groups) zero x h = omega arith
end_in_width d (g ∷ groups) (suc i) x h = let more = end_in_width d groups i x (omega arith) in omega arith

pub has_one : (n p : ℕ) (more : Option ℕ) → (if n == 0 then Some p else more) ≡ None → (1 ≤ n) × (more ≡ None)
has_one zero p more h = cc
has_one (suc n) p more h = let other : (suc n == 0) ≡ false = grind (arith, nat_tests) in (omega arith, rw other at h)

-- where each group has a processor there are at least as many processors as groups
pub groups_in_processors : (groups : List GroupSpec) (p : ℕ) → first_place has_no_processor p groups ≡ None → length groups ≤ processors groups
groups_in_processors [] p h = omega arith
groups_in_processors (g ∷ groups) p h =
    let one = has_one g.cpus p (first_place has_no_processor (suc p) groups) h in
    let more = groups_in_processors groups (suc p) one.1 in
    let sum = sum_by-cons (λ (g : GroupSpec). g.cpus) g groups in
    omega arith

-- the groups from a place on, and those behind it
pub overlap_at : (d : Division) (groups : List GroupSpec) (i : ℕ) (x : GroupSpec) → i < length groups →
    overlap d i (drop i groups) ≡ or_else (option_map (Overlap i) (first_place (λ other. share_a_page (span_of d (get_or groups i x)) (span_of d other)) (i + 1) (drop (i + 1) groups))) (overlap d (i + 1) (drop (i + 1) groups))
overlap_at d groups i x h =
    ap (overlap d i) (drop-cons groups i x h) ∙ ap (λ (n : ℕ). or_else (option_map (Overlap i) (first_place (λ other. share_a_page (span_of d (get_or groups i x)) (span_of d other)) n (drop n groups))) (overlap d n (drop n groups))) (sym (add-one i))

length-count_from : (n first : ℕ) → length (count_from n first) ≡ n
length-count_from zero first = refl
length-count_from (suc n) first = ap suc (length-count_from n (suc first))

pub length-mapped : {A B : Type 0} (f : A → B) (xs : List A) → length (map f xs) ≡ length xs
length-mapped f [] = refl
length-mapped f (x ∷ xs) = ap suc (length-mapped f xs)

units_each : (d : Division) (g : GroupSpec) → length (units_of d g) ≡ g.cpus
units_each d g = length-mapped (λ i. g.offset + i * d.unit_pages) (count_from g.cpus 0) ∙ length-count_from g.cpus 0

-- each processor has a unit
pub units_in_all : (d : Division) (groups : List GroupSpec) → length (flat_map (units_of d) groups) ≡ processors groups
units_in_all d [] = refl
units_in_all d (g ∷ groups) =
    let all = length-flat_map (units_of d) (g ∷ groups) in
    let rest = length-flat_map (units_of d) groups in
    let sum = sum_by-cons (λ (g : GroupSpec). length (units_of d g)) g groups in
    let cpus = sum_by-cons (λ (g : GroupSpec). g.cpus) g groups in
    let one = units_each d g in
    let more = units_in_all d groups in
    omega arith

-- the next unit is put behind those that are there
pub unit_pushed : (units all : List ℕ) (f : ℕ → ℕ) (n i : ℕ) → i < n → units ++ map f (count_from (n - i) i) ≡ all → (units ++ f i ∷ []) ++ map f (count_from (n - (i + 1)) (i + 1)) ≡ all
unit_pushed units all f n i h e =
    let s : n - i ≡ suc (n - (i + 1)) = omega arith in
    let c : count_from (n - i) i ≡ i ∷ count_from (n - (i + 1)) (i + 1) = ap (λ (m : ℕ). count_from m i) s ∙ ap (λ (k : ℕ). i ∷ count_from (n - (i + 1)) k) (sym (add-one i)) in
    append_assoc units (f i ∷ []) (map f (count_from (n - (i + 1)) (i + 1))) ∙ ap (λ (ks : List ℕ). units ++ map f ks) (sym c) ∙ e
