use Rattle.std.proofs.Common.{◌≡◌, ◌+◌, ◌<◌, ◌^◌, ◌-◌, ◌%◌, ◌/◌, not, get_or, bit_and, ap, ◌∙◌, arith}
use Rattle.std.proofs.lemmas.List.{get_or_read}
use Rattle.std.specs.Int.{bit_at}
use Rattle.vm_model.specs.Space.{one_if}
use Rattle.chunk_bitmaps.proofs.WordBits.{in_words, bit_is, chosen_true, chosen_false, word_bit, word_bit_clear, masked_inside, masked_above}
use Rattle.chunk_bitmaps.proofs.bitmap.Bitmap.word_up_to.Goals as goal
use Rattle.chunk_bitmaps.proofs.bitmap.Bitmap.word_up_to.Goals.{then-value, else-value}

pub index-word-requires : goal.index-word-requires
index-word-requires c =
    let at = in_words c.self.inside.words.items c.self.inside.bits c.args.place c.args.self.now c.self.view_is c.self.invariant c.requires in
    omega (arith, at.1, c.self.inside.words.ok.0)

pub returns : goal.returns
returns c =
    let words = c.self.inside.words.items in let place = c.args.place in
    let at = in_words words c.self.inside.bits place c.args.self.now c.self.view_is c.self.invariant c.requires in
    let word : c.index-word.result.now ≡ get_or words (place / 64) 0 = get_or_read words _ _ (omega (arith, c.self.inside.words.ok.0)) c.index-word.ensures 0 in
    let fits : get_or words (place / 64) 0 < 2 ^ 64 = omega arith in
    record {
      rest = λ other same up.
          let bit = bit_is words c.self.inside.bits other c.args.self.now c.self.view_is (omega (arith, c.requires)) in
          ap (λ m. bit_at (bit_and c.if-value.result m) (other % 64)) c.mask_of.ensures ∙ masked_inside c.if-value.result (place % 64 + 1) (other % 64) (omega arith)
          ∙ elim c.if-value.branch [
            | then-value w ↦ ap (λ n. bit_at n (other % 64)) (w.result-is ∙ word) ∙ word_bit words place other same ∙ ap one_if bit ∙ chosen_true c.args.value _ w.if-value.true
            | else-value w ↦ ap (λ n. bit_at n (other % 64)) (w.result-is ∙ ap (λ n. 18446744073709551615 - n) word) ∙ word_bit_clear words place other fits same
                ∙ ap (λ b. one_if (not b)) bit ∙ chosen_false c.args.value _ w.if-value.false
          ];
      above = λ i high. ap (λ m. bit_at (bit_and c.if-value.result m) i) c.mask_of.ensures ∙ masked_above c.if-value.result (place % 64 + 1) i (omega arith);
    }
