use Rattle.std.proofs.Common.{◌≡◌, ◌+◌, ◌<◌, ◌^◌, ◌-◌, ◌%◌, ◌/◌, not, get_or, ap, ◌∙◌, arith}
use Rattle.std.proofs.lemmas.List.{get_or_read}
use Rattle.std.specs.Int.{bit_at}
use Rattle.vm_model.specs.Space.{one_if}
use Rattle.chunk_bitmaps.proofs.WordBits.{in_words, bit_is, chosen_true, chosen_false, rest_set, rest_clear, rest_above}
use Rattle.chunk_bitmaps.proofs.bitmap.Bitmap.word_from.Goals as goal
use Rattle.chunk_bitmaps.proofs.bitmap.Bitmap.word_from.Goals.{then-value, else-value}

pub index-word-requires : goal.index-word-requires
index-word-requires c =
    let at = in_words c.self.inside.words.items c.self.inside.bits c.args.place c.args.self.now c.self.view_is c.self.invariant c.requires in
    omega (arith, at.1, c.self.inside.words.ok.0)

pub returns-clause-rest : goal.returns-clause-rest
returns-clause-rest c = λ i low within.
    let words = c.self.inside.words.items in
    let at = in_words words c.self.inside.bits c.args.place c.args.self.now c.self.view_is c.self.invariant c.requires in
    let word : c.index-word.result.now ≡ get_or words (c.args.place / 64) 0 = get_or_read words _ _ (omega (arith, c.self.inside.words.ok.0)) c.index-word.ensures 0 in
    let fits : get_or words (c.args.place / 64) 0 < 2 ^ 64 = omega arith in
    let bit = bit_is words c.self.inside.bits (c.args.place + i) c.args.self.now c.self.view_is within in
    elim c.if-value.branch [
      | then-value w ↦ ap (λ n. bit_at (n / 2 ^ (c.args.place % 64)) i) (w.result-is ∙ word) ∙ rest_set words c.args.place i low ∙ ap one_if bit ∙ chosen_true c.args.value _ w.if-value.true
      | else-value w ↦ ap (λ n. bit_at (n / 2 ^ (c.args.place % 64)) i) (w.result-is ∙ ap (λ n. 18446744073709551615 - n) word) ∙ rest_clear words c.args.place i fits low
          ∙ ap (λ b. one_if (not b)) bit ∙ chosen_false c.args.value _ w.if-value.false
    ]

pub returns-clause-above : goal.returns-clause-above
returns-clause-above c = λ i high.
    let fits : c.index-word.result.now < 2 ^ 64 = omega arith in
    elim c.if-value.branch [
      | then-value w ↦ rest_above c.if-value.result c.args.place i (omega (arith, w.result-is)) high
      | else-value w ↦ rest_above c.if-value.result c.args.place i (omega (arith, w.result-is)) high
    ]
