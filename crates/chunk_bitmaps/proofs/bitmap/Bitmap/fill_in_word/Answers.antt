use Rattle.std.proofs.Common.{◌≡◌, ℕ, ◌<◌, ◌≤◌, ◌+◌, ◌-◌, ◌/◌, ◌%◌, ◌^◌, ◌∙◌, false, length, get_or, arith, ap, sym}
use Rattle.std.proofs.lemmas.Bool.Decides.{nat_tests}
use Rattle.std.proofs.lemmas.List.{get_or_read}
use Rattle.std.specs.Int.{bit_at}
use Rattle.vm_model.specs.Space.{span, holds, paint}
use Rattle.vm_model.proofs.PaintRuns.{paint_nowhere}
use Rattle.chunk_bitmaps.proofs.WordBits.{few_bits}
use Rattle.chunk_bitmaps.proofs.Fills.{IsChanged, changed_more, changed_none, painted}
use Rattle.chunk_bitmaps.proofs.bitmap.Bitmap.fill_in_word.Goals as goal

no_place : (start end p : ℕ) → end ≤ start → holds (span start (end - start)) p ≡ false
no_place start end p none = grind (arith, nat_tests)

pub returns-then-start-end : goal.returns-then-start-end
returns-then-start-end c = sym (paint_nowhere (holds (span c.args.start (c.args.end - c.args.start))) c.args.value c.args.self.now (λ p. no_place c.args.start c.args.end p (omega arith)))

pub index_mut-word-requires : goal.index_mut-word-requires
index_mut-word-requires c =
    let few = few_bits c.self.inside.words.items c.self.inside.bits c.args.self.now c.self.view_is c.self.invariant in
    let room = c.self.invariant.room in
    omega (arith, few.0, c.self.inside.words.ok.0)

pub returns : goal.returns
returns c =
    let few = few_bits c.self.inside.words.items c.self.inside.bits c.args.self.now c.self.view_is c.self.invariant in
    let room = c.self.invariant.room in
    let words = c.self.inside.words.items in
    let count = c.args.end - c.args.start in
    let at : c.args.start / 64 < length words = omega (arith, few.0) in
    let word : c.index_mut-word.result.now ≡ get_or words (c.args.start / 64) 0 = get_or_read words _ _ at c.index_mut-word.ensures.value 0 in
    let is : IsChanged (get_or words (c.args.start / 64) 0) (2 ^ (c.args.start % 64 + count) - 2 ^ (c.args.start % 64)) c.args.value c.with_bits.result = record {
      inside = λ i low e. c.with_bits.ensures.inside i low (ap (λ m. bit_at m i) c.mask_of.ensures ∙ e);
      outside = λ i low e. c.with_bits.ensures.outside i low (ap (λ m. bit_at m i) c.mask_of.ensures ∙ e) ∙ ap (λ n. bit_at n i) word;
    } in
    painted words _ c.self.inside.bits c.args.value c.args.start count
    (changed_more words words c.args.value c.args.start c.args.start count c.with_bits.result (omega arith) at c.requires.word is (changed_none words c.args.value c.args.start))
    ∙ ap (paint (holds (span c.args.start count)) c.args.value) c.self.view_is
