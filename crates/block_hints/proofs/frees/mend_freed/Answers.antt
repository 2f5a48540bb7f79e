use Rattle.std.proofs.Common.{◌≡◌, ◌+◌, ◌-◌, ◌*◌, ◌<◌, min, max, false, length, get_or, sym, ◌∙◌, subst, arith}
use Rattle.vm_model.specs.Hints.{IsHintIn}
use Rattle.chunk_bitmaps.specs.ChunkMap.{taken_bits}
use Rattle.block_hints.specs.Freed.{IsRunAround, hint_with_run, block_with}
use Rattle.block_hints.specs.KeptHints.{IsBlockIn}
use Rattle.block_hints.proofs.Blocked.{length-taken}
use Rattle.block_hints.proofs.BlockHints.{no_block}
use Rattle.block_hints.proofs.HintsFreed.{painted_free, freed_is_free, freed_hint}
use Rattle.block_hints.proofs.HintsMended.{mended_before, mended_more, mended_all, kept_still, part_freed}
use Rattle.block_hints.proofs.frees.mend_freed.Goals as goal

pub loop-block-init : goal.loop-block-init
loop-block-init c = mended_before c.requires.before.old (taken_bits c.args.bits.now) c.args.blocks.now c.args.at c.args.count false c.requires.before.freed c.requires.before.kept

pub loop-block-preserved : goal.loop-block-preserved
loop-block-preserved c =
    let now = taken_bits c.args.bits.now in
    let block = c.loop-block.block in let low = 1024 * block in
    let run = c.run_around-run.result in
    let b = get_or c.loop-block.blocks block no_block in
    let within : block < length c.loop-block.blocks = omega (arith, c.loop-block.invariant.size) in
    let kept = kept_still c.requires.before.old now c.args.blocks.now c.loop-block.blocks block c.requires.before.kept c.loop-block.invariant within in
    let around = subst (λ n. IsRunAround now 0 n c.args.at (c.args.at + c.args.count) run.start run.end) c.len-len.ensures.len c.run_around-run.ensures in
    let mended = part_freed c.requires.before.old now low c.args.at c.args.count c.args.bits.now.bits run.start run.end b c.requires.before.freed c.requires.some (omega (arith, length-taken c.args.bits.now)) (omega arith) (omega arith) (omega arith) around kept in
    let all : low + 1024 - low ≡ 1024 = omega arith in
    let it : c.block_with_run.result ≡ block_with 1024 (max c.args.at low - low) (max run.start low - low) (min run.end (low + 1024) - low) b =
    c.block_with_run.ensures ∙ (λ i. block_with (all i) (c.max-in-loop-block.ensures i - low) (c.max.ensures i - low) (c.min.ensures i - low) b) in
    mended_more now c.args.blocks.now c.loop-block.blocks block c.block_with_run.result within c.loop-block.invariant (subst (IsBlockIn now low (low + 1024)) (sym it) mended)

pub run_around-run-requires-clause-free : goal.run_around-run-requires-clause-free
run_around-run-requires-clause-free c = λ place from to. freed_is_free c.requires.before.old (taken_bits c.args.bits.now) c.args.at c.args.count place c.requires.before.freed (omega (arith, length-taken c.args.bits.now)) from to

pub returns-clause-whole : goal.returns-clause-whole
returns-clause-whole c =
    let now = taken_bits c.args.bits.now in let bits = c.args.bits.now.bits in
    let at = c.args.at in let count = c.args.count in
    let run = c.run_around-run.result in
    let freed = painted_free c.requires.before.old now at count c.requires.before.freed c.requires.some (λ place from to. freed_is_free c.requires.before.old now at count place c.requires.before.freed (omega (arith, length-taken c.args.bits.now)) from to) in
    let around = subst (λ n. IsRunAround now 0 n at (at + count) run.start run.end) c.len-len.ensures.len c.run_around-run.ensures in
    let all : bits - 0 ≡ c.len-len.result = omega (arith, c.len-len.ensures.len) in
    let from : at - 0 ≡ at = omega arith in let start : run.start - 0 ≡ run.start = omega arith in let end : run.end - 0 ≡ run.end = omega arith in
    let it : hint_with_run (bits - 0) (at - 0) (run.start - 0) (run.end - 0) c.args.chunk ≡ hint_with_run c.len-len.result at run.start run.end c.args.chunk = (λ i. hint_with_run (all i) (from i) (start i) (end i) c.args.chunk) in
    subst (IsHintIn now 0 bits) (it ∙ sym c.with_run.ensures) (freed_hint c.requires.before.old now 0 bits at count run.start run.end c.args.chunk freed around c.requires.before.whole)

pub returns-clause-blocks : goal.returns-clause-blocks
returns-clause-blocks c = mended_all c.requires.before.old (taken_bits c.args.bits.now) c.args.blocks.now c.loop-block.blocks c.args.at c.args.count c.loop-block.block false c.requires.before.freed c.requires.before.kept c.loop-block.invariant (omega arith)
