use Rattle.std.proofs.Common.{◌∙◌, ◌++◌, ◌∷◌, [], sym, ap, arith, add-one, take}
use Rattle.std.proofs.lemmas.List.{take_all}
use Rattle.callers.proofs.AnswersGiven.{take_one}
use Rattle.kernel_steps.proofs.tables.free_blocks.Goals as goal

pub loop-index-preserved : goal.loop-index-preserved
loop-index-preserved c =
    c.in_ok-push.ensures.items ∙ ap (λ spans. spans ++ c.block_at.result ∷ []) c.loop-index.invariant ∙ sym (take_one c.args.free.now.blocks c.loop-index.index c.block_at.result c.block_at.ensures)
    ∙ ap (λ n. take n c.args.free.now.blocks) (sym (add-one c.loop-index.index))

pub returns : goal.returns
returns c = c.loop-index.invariant ∙ take_all c.loop-index.index c.args.free.now.blocks (let all = c.loop-index-test.false in let count = c.len-index-end.ensures.count in omega arith)
