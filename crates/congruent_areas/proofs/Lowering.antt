-- How far down a group's span moves a base.
use Rattle.std.proofs.Common.{◌≡◌, ℕ, ◌+◌, ◌-◌, ◌*◌, ◌/◌, ◌%◌, ◌<◌, ◌≤◌, inl, inr, true, List, length, get_or, All, Option, Some, None, IfNone, ap, ◌∙◌, arith}
use Rattle.std.proofs.lemmas.Bool.{cases_lt, both_ways}
use Rattle.std.proofs.lemmas.Bool.Decides.{nat_tests}
use Rattle.std.proofs.Math.Nat.{div-add-mod, mul-le-mul_left, mul-mod_right, le-div_iff_mul-le, div-mul-le_self}
use Rattle.std.proofs.lemmas.List.Elements.{All-get_or}
use Rattle.vm_model.specs.declared.areas.Span.{Span}
use Rattle.vm_model.specs.Space.{end_of, holds, covers}
use Rattle.vm_model.proofs.Runs.{holds-in}
use Rattle.unit_layout.specs.declared.layout.Group.{Group}
use Rattle.augmented_tree.specs.FreeBlocks.{IsFree}
use Rattle.congruent_areas.specs.GroupsAtBase.{IsBase, IsLastUpTo, span_at}

-- between a span's first page and its end
pub holds-from : (s : Span) (page : ℕ) → holds s page ≡ true → s.start ≤ page
holds-from s page h = grind (arith, nat_tests)

pub holds-to : (s : Span) (page : ℕ) → holds s page ≡ true → page < end_of s
holds-to s page h = grind (arith, nat_tests)

-- the first page of a group's span at a base, and that of the first group
pub first_free : (blocks : List Span) (g : Group) (b : ℕ) → 1 ≤ g.pages → IsFree blocks (span_at b g) → covers blocks (b + g.offset) ≡ true
first_free blocks g b some free = free (b + g.offset) (holds-in (span_at b g) (b + g.offset) (omega arith) (omega arith))

pub first_page : (blocks : List Span) (groups : List Group) (align b : ℕ) → 1 ≤ length groups → All (λ (g : Group). 1 ≤ g.pages) groups → IsBase blocks groups align b
    → covers blocks (b + (get_or groups 0 (record { offset = 0; pages = 0 })).offset) ≡ true
first_page blocks groups align b some pages free =
    first_free blocks (get_or groups 0 (record { offset = 0; pages = 0 })) b
    (All-get_or (λ (g : Group). 1 ≤ g.pages) groups 0 (record { offset = 0; pages = 0 }) (omega arith) pages)
    (All-get_or (λ (g : Group). IsFree blocks (span_at b g)) groups 0 (record { offset = 0; pages = 0 }) (omega arith) free.free)

-- a lower span that is free ends with the block, or before it
pub ends_by : (blocks : List Span) (g : Group) (base b : ℕ) (block : Span) → IsLastUpTo blocks (base + g.offset) block → 1 ≤ g.pages → b ≤ base → IsFree blocks (span_at b g)
    → b + (g.offset + g.pages) ≤ end_of block
ends_by blocks g base b block top some h free =
    elim (cases_lt (end_of block) (b + (g.offset + g.pages))) [
      | inl short ↦ elim (cases_lt (b + g.offset) (end_of block)) [
        | inl under ↦
            absurd (both_ways (covers blocks (end_of block)) (top.behind (end_of block) (omega arith) (omega arith)) (free (end_of block) (holds-in (span_at b g) (end_of block) (omega arith) (omega arith))))
        | inr over ↦ absurd (both_ways (covers blocks (b + g.offset)) (top.behind (b + g.offset) over (omega arith)) (first_free blocks g b some free))
      ]
      | inr le ↦ le
    ]

-- the greatest multiple up to a number
pub multiple_below : (n k : ℕ) → 1 ≤ k → (n - n % k) % k ≡ 0
multiple_below n k some =
    let is : n - n % k ≡ k * (n / k) = omega (arith, div-add-mod n k) in
    ap (λ m. m % k) is ∙ mul-mod_right k (n / k)

-- no multiple lies between it and the number
pub multiples_up_to : (b n k : ℕ) → 1 ≤ k → b % k ≡ 0 → b ≤ n → b ≤ n - n % k
multiples_up_to b n k some e h =
    let few : b / k ≤ n / k = (le-div_iff_mul-le {k = k} {x = b / k} {y = n} (omega arith)).1 (omega (arith, div-mul-le_self b k)) in
    omega (arith, div-add-mod n k, div-add-mod b k, mul-le-mul_left k few)

-- what holds anyway holds of no answer
pub IfNone-anyway : {X : Type 0} (found : Option X) (P : Type 0) → P → IfNone found P
IfNone-anyway None P p = p
IfNone-anyway (Some x) P p = tt
