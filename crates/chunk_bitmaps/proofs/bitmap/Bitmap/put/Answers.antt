use Rattle.std.proofs.Common.{◌≡◌, ◌<◌, ◌+◌, ◌-◌, ◌/◌, ◌%◌, ◌^◌, ◌∙◌, length, get_or, arith, ap}
use Rattle.std.proofs.lemmas.List.{get_or_read}
use Rattle.std.specs.Int.{bit_at}
use Rattle.vm_model.specs.Space.{span, holds, paint}
use Rattle.chunk_bitmaps.proofs.WordBits.{few_bits}
use Rattle.chunk_bitmaps.proofs.Fills.{IsChanged, changed_more, changed_none, painted}
use Rattle.chunk_bitmaps.proofs.bitmap.Bitmap.put.Goals as goal

pub index_mut-word-requires : goal.index_mut-word-requires
index_mut-word-requires c =
    let few = few_bits c.self.inside.words.items c.self.inside.bits c.args.self.now c.self.view_is c.self.invariant in
    let room = c.self.invariant.room in
    omega (arith, few.0, c.self.inside.words.ok.0)

pub returns : goal.returns
returns c =
    let few = few_bits c.self.inside.words.items c.self.inside.bits c.args.self.now c.self.view_is c.self.invariant in
    let room = c.self.invariant.room in
    let words = c.self.inside.words.items in
    let at : c.args.place / 64 < length words = omega (arith, few.0) in
    let word : c.index_mut-word.result.now ≡ get_or words (c.args.place / 64) 0 = get_or_read words _ _ at c.index_mut-word.ensures.value 0 in
    let is : IsChanged (get_or words (c.args.place / 64) 0) (2 ^ (c.args.place % 64 + 1) - 2 ^ (c.args.place % 64)) c.args.value c.with_bits.result = record {
      inside = λ i low e. c.with_bits.ensures.inside i low (ap (λ m. bit_at m i) c.mask_of.ensures ∙ e);
      outside = λ i low e. c.with_bits.ensures.outside i low (ap (λ m. bit_at m i) c.mask_of.ensures ∙ e) ∙ ap (λ n. bit_at n i) word;
    } in
    painted words _ c.self.inside.bits c.args.value c.args.place 1
    (changed_more words words c.args.value c.args.place c.args.place 1 c.with_bits.result (omega arith) at (omega arith) is (changed_none words c.args.value c.args.place))
    ∙ ap (paint (holds (span c.args.place 1)) c.args.value) c.self.view_is
