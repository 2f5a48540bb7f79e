use Rattle.std.proofs.Common.{◌≡◌, ℕ, ◌≤◌, List, [], ◌∷◌, length, Some, sym, ◌∙◌, subst, arith, ◌==◌, true, false, count_ones}
use Rattle.std.proofs.lemmas.Bool.Decides.{nat_tests}
use Rattle.std.specs.List.{All, slice_get, slice_index_or}
use Rattle.vm_model.specs.Rules.{IsPower}
use Rattle.vm_model.proofs.Powers.{power_with}
use Rattle.unit_layout.specs.declared.request.GroupSpec.{GroupSpec}
use Rattle.unit_layout.specs.LayoutRule.{processors}
use Rattle.unit_layout.specs.NumberRanges.{IsGroupInRange, IsAligned}
use Rattle.tests_layouts.proofs.ranges.is_in_range.Goals as goal

first_offset : (groups : List GroupSpec) (d g : GroupSpec) → slice_get groups 0 ≡ Some g → (slice_index_or groups 0 d).offset ≡ 0 → g.offset ≡ 0
first_offset [] d g e zero_is = cc
first_offset (x ∷ groups) d g e zero_is = let same : x ≡ g = cc in subst (λ (y : GroupSpec). y.offset ≡ 0) same zero_is

is_one : (n : ℕ) → (n == 1) ≡ true → n ≡ 1
is_one n h = grind (arith, nat_tests)

isnt_zero : (n : ℕ) → (n == 0) ≡ false → 1 ≤ n
isnt_zero n h = grind (arith, nat_tests)

power : (n : ℕ) → n ≤ 64 → count_ones n ≡ 1 → IsPower n
power n h e = let p = power_with 7 n (omega arith) e in (p.0, p.2)

pub returns : goal.returns
returns c ok =
    let same = c.as_slice-groups.ensures in
    record {
      unit_low = omega arith;
      unit_high = omega arith;
      atom = power c.args.spec.now.atom c.if-spec-gt64-2.false (is_one (count_ones c.args.spec.now.atom) (sym c.is_power_of_two.ensures ∙ c.if-not-is_power_of_two.false));
      atom_high = omega arith;
      some = subst (λ (groups : List GroupSpec). 1 ≤ length groups) same (isnt_zero (length c.as_slice-groups.result.now) (sym c.is_empty.ensures ∙ c.if-is_empty.false));
      groups = subst (λ (groups : List GroupSpec). All IsGroupInRange groups) same (c.are_in_range.ensures.groups ok);
      aligned = subst (λ (groups : List GroupSpec). All (IsAligned c.args.spec.now.atom) groups) same (c.are_in_range.ensures.aligned ok);
      first = λ g e. first_offset c.args.spec.now.groups (record { cpus = 0; offset = 0 }) g e (subst (λ (groups : List GroupSpec). (slice_index_or groups 0 (record { cpus = 0; offset = 0 })).offset ≡ 0) same c.if-groups-ne0.false);
      processors = subst (λ (groups : List GroupSpec). processors groups ≤ 64) same (c.are_in_range.ensures.processors ok);
    }
