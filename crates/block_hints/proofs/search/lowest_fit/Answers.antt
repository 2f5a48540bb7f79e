use Rattle.std.proofs.Common.{◌≡◌, ◌≤◌, ◌<◌, ◌+◌, ◌*◌, ◌/◌, ℕ, List, Bool, true, false, length, take, get_or, sym, ◌∙◌, subst, arith}
use Rattle.block_hints.specs.declared.block_scan.Block.{Block}
use Rattle.vm_model.specs.Space.{fits}
use Rattle.chunk_bitmaps.specs.ChunkMap.{taken_bits, first_fit}
use Rattle.block_hints.specs.KeptHints.{AreHints}
use Rattle.vm_model.specs.PageSets.{has_page}
use Rattle.block_hints.specs.Populated.{blocked_bits}
use Rattle.block_hints.proofs.BlockHints.{no_block, hint_at, in_block}
use Rattle.block_hints.proofs.Blocked.{alike_page, taken_page, length-blocked, length-taken}
use Rattle.block_hints.proofs.KeptHintProofs.{blocked_before_first, searched_from}
use Rattle.block_hints.proofs.LowestFit.{IsSearched, IsSkip, skip_of, is_skip, before_skip, behind_skip, block_alike, searched_missing, searched_free, searched_block, found_over, multiple_none, multiple_found, inner_found, inner_none, inner_found_by, too_long, before_inner, is_none, searched_all}
use Rattle.block_hints.proofs.search.lowest_fit.Goals as goal
use Rattle.block_hints.proofs.search.lowest_fit.Goals.{then-hint-lt-BLOCK_BITS, else-hint-lt-BLOCK_BITS, then-count-hint+else-is_some-2, else-count-hint}

pub loop-block-init : goal.loop-block-init
loop-block-init c =
    searched_from (blocked_bits c.args.pages c.args.bits.now) c.args.count c.args.align (1024 * (c.args.chunk.first / 1024)) c.requires.count (λ place below. blocked_before_first c.args.pages c.args.bits.now c.args.chunk place c.requires.chunk (omega arith))

-- one block further
next : (bits : List Bool) (n k block from : ℕ) → IsSearched bits n k (1024 * block + 1024) from → IsSearched bits n k (1024 * (block + 1)) from
next bits n k block from is = let e : 1024 * block + 1024 ≡ 1024 * (block + 1) = omega arith in subst (λ low. IsSearched bits n k low from) e is

pub loop-block-preserved-then-not-contains : goal.loop-block-preserved-then-not-contains
loop-block-preserved-then-not-contains c =
    let missing : has_page c.args.pages c.loop-block.block ≡ false = sym c.contains.ensures ∙ c.if-not-contains.true in
    next (blocked_bits c.args.pages c.args.bits.now) c.args.count c.args.align c.loop-block.block (1024 * c.loop-block.block + 1024)
    (searched_missing (blocked_bits c.args.pages c.args.bits.now) c.args.count c.args.align (1024 * c.loop-block.block) c.loop-block.from c.requires.count c.loop-block.invariant
    (λ place low high. taken_page c.args.pages c.args.bits.now c.loop-block.block place missing (omega arith) low high))

pub overflow_add-low : goal.overflow_add-low
overflow_add-low c =
    let is = hint_at (taken_bits c.args.bits.now) c.args.blocks.now c.loop-block.block no_block c.requires.blocks (omega arith) in
    let left = (in_block (taken_bits c.args.bits.now) c.loop-block.block (get_or c.args.blocks.now c.loop-block.block no_block).hint is.hint).left in
    record { fits = omega arith }

pub returns-then-is_some : goal.returns-then-is_some
returns-then-is_some c =
    let taken = taken_bits c.args.bits.now in
    let bits = blocked_bits c.args.pages c.args.bits.now in
    let low = 1024 * c.loop-block.block in
    let b = get_or c.args.blocks.now c.loop-block.block no_block in
    let h = b.hint in
    let there : has_page c.args.pages c.loop-block.block ≡ true = sym c.contains.ensures ∙ c.if-not-contains.false in
    let alike = alike_page c.args.pages c.args.bits.now c.loop-block.block there (omega arith) in
    let is = block_alike taken bits low (low + 1024) b alike (hint_at taken c.args.blocks.now c.loop-block.block no_block c.requires.blocks (omega arith)) in
    let hint = is.hint in
    multiple_found bits c.loop-block.from (low + h.left) c.args.count c.args.align c.first_multiple-at.result (sym c.is_some.ensures ∙ c.if-is_some.true) c.first_multiple-at.ensures
    (λ at is. found_over bits c.args.count c.args.align low c.loop-block.from at h.left c.requires.count c.loop-block.invariant hint.left_free is)

pub returns-then-is_some-2 : goal.returns-then-is_some-2
returns-then-is_some-2 c =
    let taken = taken_bits c.args.bits.now in
    let bits = blocked_bits c.args.pages c.args.bits.now in
    let low = 1024 * c.loop-block.block in
    let b = get_or c.args.blocks.now c.loop-block.block no_block in
    let h = b.hint in
    let there : has_page c.args.pages c.loop-block.block ≡ true = sym c.contains.ensures ∙ c.if-not-contains.false in
    let alike = alike_page c.args.pages c.args.bits.now c.loop-block.block there (omega arith) in
    let is = block_alike taken bits low (low + 1024) b alike (hint_at taken c.args.blocks.now c.loop-block.block no_block c.requires.blocks (omega arith)) in
    let hint = is.hint in
    let none = multiple_none c.loop-block.from (low + h.left) c.args.count c.args.align c.first_multiple-at.result (sym c.is_some.ensures ∙ c.if-is_some.false) c.first_multiple-at.ensures in
    let part : h.left < 1024 = c.if-hint-lt-BLOCK_BITS.true in
    let skip : IsSkip bits c.args.count c.args.align low h.left c.skipped-skip.result = subst (IsSkip bits c.args.count c.args.align low h.left) (sym c.skipped-skip.ensures) (is_skip bits c.args.count c.args.align low b c.requires.count is c.if-count-hint.true) in
    inner_found_by bits c.args.count c.args.align (first_fit (take (low + 1024) taken) (low + c.skipped-skip.result) c.args.count c.args.align) c.first_fit_between-at.result (sym c.is_some-then-count-hint.ensures ∙ c.if-is_some-2.true) c.first_fit_between-at.ensures
    (λ at e. inner_found taken bits c.args.count c.args.align low (low + 1024) (low + c.skipped-skip.result) at c.requires.count (omega (arith, length-taken c.args.bits.now)) alike (omega arith) e
    (λ start l. before_skip bits c.args.count c.args.align low h.left c.skipped-skip.result start skip l (before_inner bits c.args.count c.args.align low c.loop-block.from h c.requires.count c.loop-block.invariant hint part none start)))

pub overflow_sub-from : goal.overflow_sub-from
overflow_sub-from c =
    let is = hint_at (taken_bits c.args.bits.now) c.args.blocks.now c.loop-block.block no_block c.requires.blocks (omega arith) in
    let right = (in_block (taken_bits c.args.bits.now) c.loop-block.block (get_or c.args.blocks.now c.loop-block.block no_block).hint is.hint).right in
    omega arith

pub loop-block-preserved : goal.loop-block-preserved
loop-block-preserved c =
    let taken = taken_bits c.args.bits.now in
    let bits = blocked_bits c.args.pages c.args.bits.now in
    let low = 1024 * c.loop-block.block in
    let n = c.args.count in let k = c.args.align in let from = c.loop-block.from in
    let block = get_or c.args.blocks.now c.loop-block.block no_block in
    let h = block.hint in
    let there : has_page c.args.pages c.loop-block.block ≡ true = sym c.contains.ensures ∙ c.if-not-contains.false in
    let alike = alike_page c.args.pages c.args.bits.now c.loop-block.block there (omega arith) in
    let is = block_alike taken bits low (low + 1024) block alike (hint_at taken c.args.blocks.now c.loop-block.block no_block c.requires.blocks (omega arith)) in
    let hint = is.hint in
    let none = multiple_none from (low + h.left) n k c.first_multiple-at.result (sym c.is_some.ensures ∙ c.if-is_some.false) c.first_multiple-at.ensures in
    next bits n k c.loop-block.block c.if-hint-lt-BLOCK_BITS.from
    (elim c.if-hint-lt-BLOCK_BITS.branch [
      | then-hint-lt-BLOCK_BITS w ↦
          let part : h.left < 1024 = w.if-hint-lt-BLOCK_BITS.true in
          let inner : (start : ℕ) → low + h.left ≤ start → start + n ≤ low + 1024 → fits bits n k start ≡ false = λ start a e.
          elim w.if-count-hint.branch [
            | then-count-hint+else-is_some-2 w' ↦
                let skip : IsSkip bits n k low h.left w'.skipped-skip.result = subst (IsSkip bits n k low h.left) (sym w'.skipped-skip.ensures) (is_skip bits n k low block c.requires.count is w'.if-count-hint.true) in
                behind_skip bits n k low h.left w'.skipped-skip.result start skip a (λ later.
                inner_none taken bits n k low (low + 1024) (low + w'.skipped-skip.result) start c.requires.count (omega (arith, length-taken c.args.bits.now)) alike (omega arith)
                (sym w'.first_fit_between-at.ensures ∙ is_none w'.first_fit_between-at.result (sym w'.is_some-then-count-hint.ensures ∙ w'.if-is_some-2.false)) later e)
            | else-count-hint w' ↦ too_long bits n k low start h c.requires.count hint w'.if-count-hint.false (omega arith) e
          ] in
          subst (IsSearched bits n k (low + 1024)) (sym w.from-is) (searched_block bits n k low from h c.requires.count c.loop-block.invariant hint part none inner)
      | else-hint-lt-BLOCK_BITS w ↦
          let all : h.left ≡ 1024 = (let most = hint.left_within in let whole : 1024 ≤ h.left = w.if-hint-lt-BLOCK_BITS.false in omega arith) in
          subst (IsSearched bits n k (low + 1024)) (sym w.from-is)
          (searched_free bits n k low from c.loop-block.invariant (λ place a b. hint.left_free place a (omega arith)) (λ place a b. none place a (omega arith)))
    ])

pub returns : goal.returns
returns c =
    searched_all (blocked_bits c.args.pages c.args.bits.now) c.args.count c.args.align (1024 * c.loop-block.block) c.loop-block.from c.requires.count (omega (arith, length-blocked c.args.pages c.args.bits.now)) c.loop-block.invariant

-- what is passed over is in the block
skip_fits : (bits : List Bool) (blocks : List Block) (block n k skip : ℕ) → AreHints bits blocks → block < length blocks → 1 ≤ n → n ≤ (get_or blocks block no_block).hint.run → skip ≡ skip_of n (get_or blocks block no_block) → skip ≤ 1024
skip_fits bits blocks block n k skip are h some long is =
    let within = (is_skip bits n k (1024 * block) (get_or blocks block no_block) some (hint_at bits blocks block no_block are h) long).within in
    omega (arith, within, is)

pub overflow_add-low-then-count-hint : goal.overflow_add-low-then-count-hint
overflow_add-low-then-count-hint c =
    let few = skip_fits (taken_bits c.args.bits.now) c.args.blocks.now c.loop-block.block c.args.count c.args.align c.skipped-skip.result c.requires.blocks (omega arith) c.requires.count c.if-count-hint.true c.skipped-skip.ensures in
    record { fits = omega arith }

pub first_fit_between-at-requires-clause-from : goal.first_fit_between-at-requires-clause-from
first_fit_between-at-requires-clause-from c =
    let few = skip_fits (taken_bits c.args.bits.now) c.args.blocks.now c.loop-block.block c.args.count c.args.align c.skipped-skip.result c.requires.blocks (omega arith) c.requires.count c.if-count-hint.true c.skipped-skip.ensures in
    omega arith
