use Rattle.std.proofs.Common.{arith}
use Rattle.chunk_bitmaps.proofs.WordBits.{few_bits}
use Rattle.chunk_bitmaps.proofs.LastBits.{none_more_behind, last_found}
use Rattle.chunk_bitmaps.proofs.bitmap.Bitmap.find_last.Goals as goal

pub overflow_add-start : goal.overflow_add-start
overflow_add-start c =
    let few = few_bits c.self.inside.words.items c.self.inside.bits c.args.self.now c.self.view_is c.self.invariant in
    let within = c.loop-place.invariant.within in
    record { fits = omega (arith, few.1) }

pub returns-then-word-ne0 : goal.returns-then-word-ne0
returns-then-word-ne0 c =
    rw c.max.ensures (last_found c.args.self.now c.args.value c.args.from c.args.end c.loop-place.place c.word_up_to-word.result c.loop-place-test.true c.requires.within c.word_up_to-word.ensures c.loop-place.invariant (omega arith) (omega arith))

pub loop-place-preserved : goal.loop-place-preserved
loop-place-preserved c =
    none_more_behind c.args.self.now c.args.value c.args.from c.args.end c.loop-place.place c.word_up_to-word.result c.requires.within c.loop-place-test.true c.word_up_to-word.ensures c.loop-place.invariant (omega arith)
