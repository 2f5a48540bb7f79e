use Rattle.std.proofs.Common.{◌++◌, ◌∷◌, [], ap, sym, ◌∙◌, arith}
use Rattle.std.specs.Slots.{slots_items}
use Rattle.percpu_counters.proofs.ReadRows.{take_at}
use Rattle.percpu_counters.proofs.close.closed_words.Goals as goal

pub loop-i-preserved : goal.loop-i-preserved
loop-i-preserved c = record {
  words = c.in-Ok.ensures.items ∙ ap (λ items. items ++ c.word.result ∷ []) c.loop-i.invariant.words ∙ sym (take_at (slots_items c.close_with-closed.result.words) c.loop-i.i c.word.result c.word.ensures);
  room = omega arith;
}
