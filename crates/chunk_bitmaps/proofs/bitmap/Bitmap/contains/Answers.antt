use Rattle.std.proofs.Common.{◌≡◌, ◌/◌, ◌%◌, ◌∙◌, ◌==◌, get_or, ap, sym, arith}
use Rattle.std.proofs.lemmas.List.{get_or_read}
use Rattle.std.proofs.lemmas.Nat.Bits.{shr_and_one}
use Rattle.std.specs.Int.{bit_at}
use Rattle.chunk_bitmaps.proofs.WordBits.{few_bits, value_at-bits_of}
use Rattle.vm_model.specs.Bits.{value_at}
use Rattle.chunk_bitmaps.proofs.bitmap.Bitmap.contains.Goals as goal

pub index-requires : goal.index-requires
index-requires c =
    let few = few_bits c.self.inside.words.items c.self.inside.bits c.args.self.now c.self.view_is c.self.invariant in
    let room = c.self.invariant.room in
    omega (arith, few.0, c.self.inside.words.ok.0)

pub returns : goal.returns
returns c =
    let few = few_bits c.self.inside.words.items c.self.inside.bits c.args.self.now c.self.view_is c.self.invariant in
    let room = c.self.invariant.room in
    let word : c.index.result.now ≡ get_or c.self.inside.words.items (c.args.place / 64) 0 = get_or_read c.self.inside.words.items _ _ (omega (arith, few.0)) c.index.ensures 0 in
    ap (λ n. n == 1) (shr_and_one c.index.result.now (c.args.place % 64))
    ∙ ap (λ n. bit_at n (c.args.place % 64) == 1) word
    ∙ sym (value_at-bits_of c.self.inside.words.items c.self.inside.bits c.args.place (omega (arith, few.0)))
    ∙ ap (λ bs. value_at bs c.args.place) c.self.view_is
