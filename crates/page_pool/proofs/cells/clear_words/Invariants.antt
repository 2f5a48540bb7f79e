use Rattle.std.proofs.Common.{◌≡◌, ◌-◌, pos}
use Rattle.vm_model.specs.Space.{span, holds, paint}
use Rattle.page_pool.proofs.cells.clear_words.Given as goal

abbrev pub invariant-loop-place : goal.invariant-loop-place
invariant-loop-place l = l.words ≡ paint (holds (span l.first (l.place - l.first))) (pos 0) l.initial.words
