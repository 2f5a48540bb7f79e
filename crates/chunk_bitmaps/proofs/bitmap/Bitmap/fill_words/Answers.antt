use Rattle.std.proofs.Common.{◌≡◌, ◌*◌, ◌-◌, ◌+◌, ◌<◌, length, ap, ◌∙◌, subst, arith}
use Rattle.std.proofs.lemmas.List.{length-set}
use Rattle.vm_model.specs.Space.{span, holds, paint}
use Rattle.chunk_bitmaps.specs.Bitmap.{bits_of}
use Rattle.chunk_bitmaps.proofs.WordBits.{few_bits}
use Rattle.chunk_bitmaps.proofs.Fills.{ChangedUpTo, changed_word, painted}
use Rattle.chunk_bitmaps.proofs.bitmap.Bitmap.fill_words.Goals as goal

pub index_mut-requires : goal.index_mut-requires
index_mut-requires c =
    let few = few_bits c.self.inside.words.items c.self.inside.bits c.args.self.now c.self.view_is c.self.invariant in
    let room = c.self.invariant.room in
    omega (arith, few.0, c.loop-index.self-inside.words.ok.0)

pub loop-index-preserved : goal.loop-index-preserved
loop-index-preserved c =
    let few = few_bits c.self.inside.words.items c.self.inside.bits c.args.self.now c.self.view_is c.self.invariant in
    let room = c.self.invariant.room in
    let words = c.loop-index.self-inside.words.items in
    let within : c.loop-index.index < length words = omega (arith, few.0, c.loop-index.invariant.room) in
    record {
      room = length-set words c.loop-index.index c.whole_word.result ∙ c.loop-index.invariant.room;
      bits = c.loop-index.invariant.bits;
      changed = changed_word c.self.inside.words.items words c.args.value c.args.first c.loop-index.index c.whole_word.result (omega arith) within c.whole_word.ensures c.loop-index.invariant.changed;
    }

pub returns : goal.returns
returns c =
    let count = 64 * (c.args.end - c.args.first) in
    let end : 64 * c.loop-index.index ≡ 64 * c.args.first + count = omega arith in
    let changed : ChangedUpTo c.self.inside.words.items c.loop-index.self-inside.words.items c.args.value (64 * c.args.first) (64 * c.args.first + count) =
    subst (ChangedUpTo c.self.inside.words.items c.loop-index.self-inside.words.items c.args.value (64 * c.args.first)) end c.loop-index.invariant.changed in
    ap (bits_of c.loop-index.self-inside.words.items) c.loop-index.invariant.bits
    ∙ painted c.self.inside.words.items c.loop-index.self-inside.words.items c.self.inside.bits c.args.value (64 * c.args.first) count changed
    ∙ ap (paint (holds (span (64 * c.args.first) count)) c.args.value) c.self.view_is
