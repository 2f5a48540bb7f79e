-- Where a group line stands, what is held after it, and how many processors there are.
use Rattle.std.proofs.Common.{◌≡◌, ◌∙◌, ℕ, ◌+◌, ◌≤◌, true, false, List, [], ◌∷◌, ◌++◌, refl, ap, sym, arith, codes, decimal}
use Rattle.std.proofs.lemmas.Bool.Decides.{nat_tests}
use Rattle.std.proofs.lemmas.List.Sums.{sum_by-append}
use Rattle.unit_layout.specs.declared.request.GroupSpec.{GroupSpec}
use Rattle.unit_layout.specs.LayoutRule.{processors}
use Rattle.trace_text.specs.declared.progress.Progress.{Progress}
use Rattle.vm_model.specs.Words.{fields, is_number}
use Rattle.trace_text.specs.SpelledLines.{GroupOf}
use Rattle.trace_text.specs.Reading.{Reading, Header, groups_of, cpus_of}
use Rattle.trace_text.specs.Grammar.{follows, is_allowed, read}
use Rattle.trace_text.specs.HeldLines.{IsHeld, Steps, header_of}
use Rattle.trace_text.proofs.PairLines.{group_lines, pair_refused, pair_stands}

group_at : (rank : ℕ) → follows rank 7 ≡ true → (2 ≤ rank) × (rank ≤ 7)
group_at rank h = grind (arith, nat_tests)

group_follows : (rank : ℕ) → 2 ≤ rank → rank ≤ 7 → follows rank 7 ≡ true
group_follows rank low high = grind (arith, nat_tests)

-- the groups that are held are those of the header
pub held_groups : (p : Progress) (r : Reading) → IsHeld p r → r.header.groups ≡ p.groups.items
held_groups p r held = ap (λ (h : Header). h.groups) held.header

pub processors-more : (groups : List GroupSpec) (g : GroupSpec) → processors (groups ++ g ∷ []) ≡ processors groups + g.cpus
processors-more groups g = sum_by-append (λ (g : GroupSpec). g.cpus) groups (g ∷ []) ∙ omega arith

pub group_refused : (p q : Progress) (r : Reading) (text : List ℕ) (a b : ℕ) → IsHeld p r → is_number a ≡ true → is_number b ≡ true → text ≡ fields (decimal a ∷ decimal b ∷ [])
    → (2 ≤ p.rank → p.rank ≤ 7 → is_allowed r (GroupOf a b) ≡ true → ⊥) → Steps r (codes "group " ++ text) false q
group_refused p q r text a b held wide long e none =
    pair_refused q r (codes "group") text GroupOf 7 (λ a b. is_allowed r (GroupOf a b)) a b (group_lines r) wide long e (λ place rules.
    let at = group_at r.rank place in
    let same = held.rank in
    none (omega arith) (omega arith) rules)

-- what is held after one more group
held_with_group : (p q : Progress) (r : Reading) (g : GroupSpec) → IsHeld p r → r.rank ≤ 7 → q.groups.items ≡ p.groups.items ++ g ∷ []
    → IsHeld (record p { rank = 7; groups = q.groups; cpus = p.cpus + g.cpus }) (read r (GroupOf g.cpus g.offset))
held_with_group p q r g held early put = record {
  rank = refl;
  header = ap (λ (h : Header). record h { groups = h.groups ++ g ∷ [] }) held.header ∙ ap (λ groups. record (header_of p) { groups = groups }) (sym put);
  cpus = ap (λ n. n + g.cpus) held.cpus ∙ sym (processors-more r.header.groups g);
  caller = held.caller;
  among = held.among;
  opening = λ before. held.opening (omega arith);
  closed = held.closed;
  calls = held.calls;
  uncalled = held.uncalled;
  count = held.count;
  counts = held.counts;
  picks = held.picks;
  names = held.names;
  opening_names = held.opening_names;
  named = held.named;
  sized = held.sized;
  unnamed = held.unnamed;
}

pub group_stands : (p q : Progress) (r : Reading) (text : List ℕ) (g : GroupSpec) → IsHeld p r → is_number g.cpus ≡ true → is_number g.offset ≡ true → text ≡ fields (decimal g.cpus ∷ decimal g.offset ∷ []) → 2 ≤ p.rank → p.rank ≤ 7 → is_allowed r (GroupOf g.cpus g.offset) ≡ true
    → q.groups.items ≡ p.groups.items ++ g ∷ [] → Steps r (codes "group " ++ text) true (record p { rank = 7; groups = q.groups; cpus = p.cpus + g.cpus })
group_stands p q r text g held wide long e after before rules put =
    let same = held.rank in
    pair_stands _ r (codes "group") text GroupOf 7 (λ a b. is_allowed r (GroupOf a b)) g.cpus g.offset (group_lines r) wide long e (group_follows r.rank (omega arith) (omega arith)) rules
    (held_with_group p q r g held (omega arith) put)

-- without a line of groups there is one processor
pub cpus_of_none : (r : Reading) → r.header.groups ≡ [] → cpus_of r.header ≡ 1
cpus_of_none r none = ap (λ groups. processors (groups_of groups)) none

groups_of-some : (groups : List GroupSpec) → (groups ≡ [] → ⊥) → groups_of groups ≡ groups
groups_of-some [] some = absurd (some refl)
groups_of-some (g ∷ groups) some = refl

pub cpus_of_some : (p : Progress) (r : Reading) → IsHeld p r → (p.groups.items ≡ [] → ⊥) → p.cpus ≡ cpus_of r.header
cpus_of_some p r held some = held.cpus ∙ sym (ap processors (groups_of-some r.header.groups (λ none. some (sym (held_groups p r held) ∙ none))))
