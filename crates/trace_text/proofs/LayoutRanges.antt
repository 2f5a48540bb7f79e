-- What unit and group lines ask of a layout is in its ranges.
use Rattle.std.proofs.Common.{◌≡◌, ◌∙◌, ℕ, ◌+◌, ◌%◌, ◌<◌, ◌≤◌, ◌^◌, true, ◌&&◌, ◌==◌, List, [], ◌∷◌, ◌++◌, refl, ap, sym, subst, arith}
use Rattle.std.proofs.Math.Nat.{zero-mod}
use Rattle.std.proofs.lemmas.Bool.{and_parts, eqb-true, ltb-true}
use Rattle.std.proofs.lemmas.List.Elements.{All-nil, All-cons, All-append}
use Rattle.vm_model.specs.Rules.{IsPower}
use Rattle.unit_layout.specs.declared.request.GroupSpec.{GroupSpec}
use Rattle.unit_layout.specs.NumberRanges.{IsInRange, IsGroupInRange, IsAligned}
use Rattle.unit_layout.specs.LayoutRule.{processors}
use Rattle.vm_model.specs.Words.{within, is_number}
use Rattle.trace_text.specs.SpelledLines.{Line, GroupOf, is_spelt}
use Rattle.trace_text.specs.Reading.{Reading}
use Rattle.trace_text.specs.ToldTraces.{asked_layout}
use Rattle.trace_text.specs.Grammar.{may_stand, follows, rank_of, is_allowed, is_first_at_0}
use Rattle.trace_text.proofs.HeaderLines.{AreUnitSizes, in_range}
use Rattle.trace_text.proofs.GroupLine.{processors-more}

-- the group that stands where no line names one
abbrev default_group : GroupSpec
default_group = record { cpus = 1; offset = 0 }

-- the place of a line that may stand, and its rule
pub place_and_rule : (r : Reading) (l : Line) → may_stand r l ≡ true → (is_spelt l ≡ true) × (follows r.rank (rank_of l) ≡ true) × (is_allowed r l ≡ true)
place_and_rule r l h =
    let all = and_parts (is_spelt l && follows r.rank (rank_of l)) (is_allowed r l) h in
    let place = and_parts (is_spelt l) (follows r.rank (rank_of l)) all.0 in
    (place.0, place.1, all.1)

-- one group is in its ranges with such numbers
one_group : (pages atom : ℕ) (g : GroupSpec) → 8 ≤ pages → pages ≤ 64 → IsPower atom → atom ≤ 64 → g.cpus ≤ 64 → g.offset ≡ 0 → IsInRange (record { unit = pages; atom = atom; groups = g ∷ [] })
one_group pages atom g low high power small few first = record {
  unit_low = low;
  unit_high = high;
  atom = power;
  atom_high = small;
  some = omega arith;
  groups = All-cons IsGroupInRange g [] (record { cpus = few; offset = omega arith }) (All-nil IsGroupInRange);
  aligned = All-cons (IsAligned atom) g [] (ap (λ offset. offset % atom) first ∙ zero-mod atom) (All-nil (IsAligned atom));
  first = λ h e. let same : g ≡ h = cc in subst (λ (h : GroupSpec). h.offset ≡ 0) same first;
  processors = omega arith;
}

-- what a group line says
pub record IsNextGroup (atom : ℕ) (groups : List GroupSpec) (g : GroupSpec) : Type 0 where
  pub few : processors groups + g.cpus ≤ 64
  pub short : g.offset < 10 ^ 10
  pub aligned : g.offset % atom ≡ 0
  pub first : is_first_at_0 groups g.offset ≡ true

pub next_group : (r : Reading) (cpus offset : ℕ) → may_stand r (GroupOf cpus offset) ≡ true → IsNextGroup r.header.atom r.header.groups (record { cpus = cpus; offset = offset })
next_group r cpus offset h =
    let line = place_and_rule r (GroupOf cpus offset) h in
    let all = and_parts (within 0 64 (processors r.header.groups + cpus) && (offset % r.header.atom == 0)) (is_first_at_0 r.header.groups offset) line.2 in
    let both = and_parts (within 0 64 (processors r.header.groups + cpus)) (offset % r.header.atom == 0) all.0 in
    record {
      few = (in_range 0 64 (processors r.header.groups + cpus) both.0).1;
      short = ltb-true offset (10 ^ 10) (and_parts (is_number cpus) (is_number offset) line.0).1;
      aligned = eqb-true (offset % r.header.atom) 0 both.1;
      first = all.1;
    }

-- with no line of groups a layout is in its ranges
pub ungrouped_layout : (pages atom : ℕ) (groups : List GroupSpec) → groups ≡ [] → AreUnitSizes pages atom → IsInRange (asked_layout pages atom groups)
ungrouped_layout pages atom groups none sizes =
    subst (λ groups. IsInRange (asked_layout pages atom groups)) (sym none) (one_group pages atom default_group sizes.low sizes.high sizes.power sizes.small (omega arith) refl)

-- the groups that are asked for are in their ranges with one more
pub one_more : (pages atom : ℕ) (groups : List GroupSpec) (g : GroupSpec) → IsInRange (asked_layout pages atom groups) → IsNextGroup atom groups g → IsInRange (asked_layout pages atom (groups ++ g ∷ []))
one_more pages atom [] g has next = one_group pages atom g has.unit_low has.unit_high has.atom has.atom_high (let few = next.few in omega arith) (eqb-true g.offset 0 next.first)
one_more pages atom (x ∷ groups) g has next = record {
  unit_low = has.unit_low;
  unit_high = has.unit_high;
  atom = has.atom;
  atom_high = has.atom_high;
  some = omega arith;
  groups = All-append IsGroupInRange (x ∷ groups) (g ∷ []) has.groups (All-cons IsGroupInRange g [] (record { cpus = let few = next.few in omega arith; offset = next.short }) (All-nil IsGroupInRange));
  aligned = All-append (IsAligned atom) (x ∷ groups) (g ∷ []) has.aligned (All-cons (IsAligned atom) g [] next.aligned (All-nil (IsAligned atom)));
  first = has.first;
  processors = let few = next.few in omega (arith, processors-more (x ∷ groups) g);
}
