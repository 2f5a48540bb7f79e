use Rattle.std.proofs.Common.{◌≡◌, ◌+◌, ◌-◌, ◌*◌, min, max, true, get_or, subst, arith}
use Rattle.chunk_bitmaps.specs.ChunkMap.{taken_bits}
use Rattle.block_hints.specs.Taken.{WasBlockIn}
use Rattle.block_hints.proofs.BlockHints.{no_block}
use Rattle.block_hints.proofs.HintsMended.{mended_before, mended_more, mended_all, kept_still, part_taken}
use Rattle.block_hints.proofs.takes.mend_taken.Goals as goal

pub loop-block-init : goal.loop-block-init
loop-block-init c = mended_before c.requires.before.old (taken_bits c.args.bits.now) c.args.blocks.now c.args.at (c.args.end - c.args.at) true c.requires.before.taken c.requires.before.kept

pub block_with_taken-requires-clause-old : goal.block_with_taken-requires-clause-old
block_with_taken-requires-clause-old c =
    let block = c.loop-block.block in
    let to : c.args.at + (c.args.end - c.args.at) ≡ c.args.end = omega arith in
    let kept = kept_still c.requires.before.old (taken_bits c.args.bits.now) c.args.blocks.now c.loop-block.blocks block c.requires.before.kept c.loop-block.invariant (omega (arith, c.loop-block.invariant.size)) in
    subst (λ n. WasBlockIn (taken_bits c.args.bits.now) (1024 * block) (1024 * block + 1024) (max c.args.at (1024 * block)) (min n (1024 * block + 1024) - max c.args.at (1024 * block)) (get_or c.loop-block.blocks block no_block)) to
    (part_taken c.requires.before.old (taken_bits c.args.bits.now) (1024 * block) c.args.at (c.args.end - c.args.at) (get_or c.loop-block.blocks block no_block) c.requires.before.taken c.requires.before.free (omega arith) (omega arith) (omega arith) kept)

pub loop-block-preserved : goal.loop-block-preserved
loop-block-preserved c =
    mended_more (taken_bits c.args.bits.now) c.args.blocks.now c.loop-block.blocks c.loop-block.block c.block_with_taken.result (omega (arith, c.loop-block.invariant.size)) c.loop-block.invariant c.block_with_taken.ensures

pub returns-clause-blocks : goal.returns-clause-blocks
returns-clause-blocks c = mended_all c.requires.before.old (taken_bits c.args.bits.now) c.args.blocks.now c.loop-block.blocks c.args.at (c.args.end - c.args.at) c.loop-block.block true c.requires.before.taken c.requires.before.kept c.loop-block.invariant (omega arith)

pub returns-clause-size : goal.returns-clause-size
returns-clause-size c = c.loop-block.invariant.size
