use Rattle.std.proofs.Common.{◌≡◌, ◌≢◌, ◌⊎◌, inl, inr, ℕ, ◌+◌, ◌%◌, ◌<◌, ◌≤◌, ap, sym, ◌∙◌, arith}
use Rattle.std.proofs.lemmas.Bool.{cases_lt}
use Rattle.chunk_bitmaps.proofs.FirstFits.{not_multiple}
use Rattle.block_hints.proofs.search.first_multiple.Goals as goal

pub returns-then-start-from : goal.returns-then-start-from
returns-then-start-from c =
    let start = c.next_multiple_of-start.result in
    let align : c.from-5.result ≡ c.args.align = omega arith in
    let multiple : start % c.args.align ≡ 0 = ap (λ k. start % k) (sym align) ∙ c.next_multiple_of-start.ensures.multiple in
    record {
      after = omega arith;
      within = omega arith;
      multiple = multiple;
      first = λ place low high. not_multiple c.args.align c.args.from start place c.requires.align multiple (omega arith) low high;
    }

none_before : (align from start bits to place : ℕ) → 1 ≤ align → start % align ≡ 0 → start < from + align → to < start + bits → from ≤ place → place + bits ≤ to → (place < start) ⊎ (start ≤ place) → place % align ≢ 0
none_before align from start bits to place some multiple near past low within (inl below) = not_multiple align from start place some multiple near low below
none_before align from start bits to place some multiple near past low within (inr over) = absurd (omega arith)

pub returns-else-start-from : goal.returns-else-start-from
returns-else-start-from c = λ place low within.
    let start = c.next_multiple_of-start.result in
    let align : c.from-5.result ≡ c.args.align = omega arith in
    let multiple : start % c.args.align ≡ 0 = ap (λ k. start % k) (sym align) ∙ c.next_multiple_of-start.ensures.multiple in
    none_before c.args.align c.args.from start c.args.bits c.args.to place c.requires.align multiple (omega arith) (omega arith) low within (cases_lt place start)
