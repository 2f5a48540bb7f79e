use Rattle.std.proofs.Common.{◌∙◌, ◌≡◌, ◌<◌, ◌+◌, ◌%◌, true, None, take, ap, sym, subst, arith}
use Rattle.chunk_bitmaps.specs.Bitmap.{IsNextBit}
use Rattle.chunk_bitmaps.specs.ChunkMap.{first_fit}
use Rattle.chunk_bitmaps.proofs.FirstFits.{turn_before, next_before, length-before, turn_none, turn_found, turn_on, fit_past}
use Rattle.chunk_bitmaps.proofs.TakenBits.{taken_is, bits_are}
use Rattle.chunk_bitmaps.proofs.chunk_bits.ChunkBits.first_fit_between.Goals as goal

pub returns-then-start-from : goal.returns-then-start-from
returns-then-start-from c =
    let taken = c.self.inside.taken in
    let part = take c.args.end taken in
    let start = c.next_multiple_of-start.result in
    let long = bits_are taken c.self.inside.bounds c.args.self.now c.self.view_is in
    let cut = length-before taken c.args.end (omega arith) in
    let same : c.from.result ≡ c.args.align = omega arith in
    let turn = turn_before taken c.args.end c.args.bits c.args.align c.loop-place.place c.find_next.result start (omega arith) c.find_next.ensures (omega arith) (omega arith) (ap (λ k. start % k) (sym same) ∙ c.next_multiple_of-start.ensures.multiple) in
    let none : first_fit part c.loop-place.place c.args.bits c.args.align ≡ None = turn_none part c.args.bits c.args.align c.loop-place.place c.find_next.result start c.requires.bits c.requires.align (omega arith) turn (omega arith) in
    sym (ap (λ bs. first_fit (take c.args.end bs) c.args.from c.args.bits c.args.align) (sym (taken_is taken c.self.inside.bounds c.args.self.now c.self.view_is c.self.invariant)) ∙ c.loop-place.invariant.left ∙ none)

pub returns-then-next-start : goal.returns-then-next-start
returns-then-next-start c =
    let taken = c.self.inside.taken in
    let part = take c.args.end taken in
    let start = c.next_multiple_of-start.result in
    let long = bits_are taken c.self.inside.bounds c.args.self.now c.self.view_is in
    let cut = length-before taken c.args.end (omega arith) in
    let same : c.from.result ≡ c.args.align = omega arith in
    let turn = turn_before taken c.args.end c.args.bits c.args.align c.loop-place.place c.find_next.result start (omega arith) c.find_next.ensures (omega arith) (omega arith) (ap (λ k. start % k) (sym same) ∙ c.next_multiple_of-start.ensures.multiple) in
    let at : c.find_next-next.result ≡ start + c.args.bits = omega arith in
    let all : IsNextBit part true start (start + c.args.bits) (start + c.args.bits) = subst (λ place. IsNextBit part true start (start + c.args.bits) place) at (next_before taken c.args.end true start (start + c.args.bits) c.find_next-next.result (omega arith) c.find_next-next.ensures) in
    sym (ap (λ bs. first_fit (take c.args.end bs) c.args.from c.args.bits c.args.align) (sym (taken_is taken c.self.inside.bounds c.args.self.now c.self.view_is c.self.invariant)) ∙ c.loop-place.invariant.left
    ∙ turn_found part c.args.bits c.args.align c.loop-place.place c.find_next.result start c.requires.bits c.requires.align turn (omega arith) all)

pub loop-place-preserved : goal.loop-place-preserved
loop-place-preserved c =
    let taken = c.self.inside.taken in
    let part = take c.args.end taken in
    let start = c.next_multiple_of-start.result in
    let long = bits_are taken c.self.inside.bounds c.args.self.now c.self.view_is in
    let cut = length-before taken c.args.end (omega arith) in
    let same : c.from.result ≡ c.args.align = omega arith in
    let turn = turn_before taken c.args.end c.args.bits c.args.align c.loop-place.place c.find_next.result start (omega arith) c.find_next.ensures (omega arith) (omega arith) (ap (λ k. start % k) (sym same) ∙ c.next_multiple_of-start.ensures.multiple) in
    let high = c.find_next-next.ensures.within in
    let below : c.find_next-next.result < start + c.args.bits = omega arith in
    record {
      within = omega arith;
      left = c.loop-place.invariant.left ∙ turn_on part c.args.bits c.args.align c.loop-place.place c.find_next.result start c.find_next-next.result c.requires.bits c.requires.align turn (omega arith)
          (next_before taken c.args.end true start (start + c.args.bits) c.find_next-next.result (omega arith) c.find_next-next.ensures) below;
    }

pub returns : goal.returns
returns c =
    let taken = c.self.inside.taken in
    let long = bits_are taken c.self.inside.bounds c.args.self.now c.self.view_is in
    let cut = length-before taken c.args.end (omega arith) in
    sym (ap (λ bs. first_fit (take c.args.end bs) c.args.from c.args.bits c.args.align) (sym (taken_is taken c.self.inside.bounds c.args.self.now c.self.view_is c.self.invariant)) ∙ c.loop-place.invariant.left
    ∙ fit_past (take c.args.end taken) c.args.bits c.args.align c.loop-place.place (omega arith))
