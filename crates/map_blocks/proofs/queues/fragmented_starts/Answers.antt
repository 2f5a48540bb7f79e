use Rattle.std.proofs.Common.{◌≢◌, ◌++◌, ◌∷◌, [], filter, get_or, sym, ap, ◌∙◌}
use Rattle.std.proofs.lemmas.List.{take_all}
use Rattle.map_blocks.specs.KeptBlockSides.{is_broken}
use Rattle.map_blocks.proofs.Fragments.{taken_yes, taken_no, some_taken, on_err}
use Rattle.map_blocks.proofs.queues.fragmented_starts.Goals.{then-is_fragmented_at+in_ok-push, else-is_fragmented_at}
use Rattle.map_blocks.proofs.queues.fragmented_starts.Goals as goal

pub loop-start-init : goal.loop-start-init
loop-start-init c = c.new-starts.ensures.items

pub loop-start-preserved : goal.loop-start-preserved
loop-start-preserved c =
    elim c.if-is_fragmented_at.branch [
      | then-is_fragmented_at+in_ok-push w ↦ ap (λ v. v.items) w.starts-is ∙ w.in_ok-push.ensures.items ∙ ap (λ xs. xs ++ get_or c.args.queue.now c.loop-start.start-index 0 ∷ []) c.loop-start.invariant
          ∙ sym (taken_yes (is_broken c.args.blocks.now.entries) c.args.queue.now c.loop-start.start-index c.loop-start-test.true (sym c.is_fragmented_at.ensures ∙ w.if-is_fragmented_at.true))
      | else-is_fragmented_at w ↦ ap (λ v. v.items) w.starts-is ∙ c.loop-start.invariant
          ∙ sym (taken_no (is_broken c.args.blocks.now.entries) c.args.queue.now c.loop-start.start-index c.loop-start-test.true (sym c.is_fragmented_at.ensures ∙ w.if-is_fragmented_at.false))
    ]

pub returns-in_err-push-clause-memory : goal.returns-in_err-push-clause-memory
returns-in_err-push-clause-memory c =
    on_err (filter (is_broken c.args.blocks.now.entries) c.args.queue.now ≢ []) c.from_residual.result
    (some_taken (is_broken c.args.blocks.now.entries) c.args.queue.now c.loop-start.start-index c.loop-start-test.true (sym c.is_fragmented_at.ensures ∙ c.if-is_fragmented_at.true))

pub returns-clause-starts : goal.returns-clause-starts
returns-clause-starts c = c.loop-start.invariant ∙ ap (filter (is_broken c.args.blocks.now.entries)) (take_all _ _ c.loop-start-test.false)
