use Rattle.std.proofs.Common.{ap, sym, ◌∙◌}
use Rattle.std.proofs.lemmas.Nat.Bits.{bit_at_ones}
use Rattle.vm_model.specs.Space.{one_if}
use Rattle.chunk_bitmaps.proofs.bitmap.whole_word.Goals as goal

pub returns-then-value : goal.returns-then-value
returns-then-value c = λ i low. bit_at_ones 64 i low ∙ ap one_if (sym c.if-value.true)
