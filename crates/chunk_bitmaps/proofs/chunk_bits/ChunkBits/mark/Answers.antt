use Rattle.std.proofs.Common.{◌≡◌, ◌+◌, ◌∙◌, true, false, length, drop, ap, sym, arith, subst}
use Rattle.vm_model.specs.Space.{begins_free, holds, span, paint}
use Rattle.vm_model.proofs.PaintRuns.{length-paint}
use Rattle.chunk_bitmaps.specs.ChunkMap.{AreMaps, chunk_map}
use Rattle.vm_model.proofs.FreePlaces.{are_free}
use Rattle.chunk_bitmaps.proofs.TakenBits.{taken_is, bits_are}
use Rattle.chunk_bitmaps.proofs.Objects.{has_places, maps_marked, chunk_marked, marked_bounds}
use Rattle.chunk_bitmaps.proofs.chunk_bits.ChunkBits.mark.Goals as goal

pub put-requires : goal.put-requires
put-requires c =
    let taken = c.self.inside.taken in let bounds = c.self.inside.bounds in
    let long = bits_are taken bounds c.args.self.now c.self.view_is in let longer = c.self.invariant.longer in
    let same = ap length c.fill-2.ensures ∙ length-paint (holds (span c.args.at c.args.bits)) false bounds in
    omega arith

pub put-requires-2 : goal.put-requires-2
put-requires-2 c =
    let taken = c.self.inside.taken in let bounds = c.self.inside.bounds in
    let long = bits_are taken bounds c.args.self.now c.self.view_is in let longer = c.self.invariant.longer in
    let same = ap length c.fill-2.ensures ∙ length-paint (holds (span c.args.at c.args.bits)) false bounds in
    let again = ap length c.put.ensures ∙ length-paint (holds (span c.args.at 1)) true c.fill-2.new.self in
    omega arith

pub invariant_of-self : goal.invariant_of-self
invariant_of-self c =
    let taken = c.self.inside.taken in let bounds = c.self.inside.bounds in
    let are = are_free taken c.args.at c.args.bits c.requires.some (ap (λ bs. begins_free c.args.bits (drop c.args.at bs)) (taken_is taken bounds c.args.self.now c.self.view_is c.self.invariant) ∙ c.requires.free) in
    let places = has_places taken bounds c.args.at c.args.bits c.self.invariant c.requires.some are in
    let bound : c.put-2.new.self ≡ marked_bounds bounds c.args.at c.args.bits = c.put-2.ensures ∙ ap (paint (holds (span (c.args.at + c.args.bits) 1)) true) (c.put.ensures ∙ ap (paint (holds (span c.args.at 1)) true) c.fill-2.ensures) in
    subst (λ bs. AreMaps c.fill.new.self bs) (sym bound) (subst (λ ts. AreMaps ts (marked_bounds bounds c.args.at c.args.bits)) (sym c.fill.ensures) (maps_marked taken bounds c.args.at c.args.bits places))

pub returns-clause-object : goal.returns-clause-object
returns-clause-object c =
    let taken = c.self.inside.taken in let bounds = c.self.inside.bounds in
    let are = are_free taken c.args.at c.args.bits c.requires.some (ap (λ bs. begins_free c.args.bits (drop c.args.at bs)) (taken_is taken bounds c.args.self.now c.self.view_is c.self.invariant) ∙ c.requires.free) in
    let places = has_places taken bounds c.args.at c.args.bits c.self.invariant c.requires.some are in
    let bound : c.put-2.new.self ≡ marked_bounds bounds c.args.at c.args.bits = c.put-2.ensures ∙ ap (paint (holds (span (c.args.at + c.args.bits) 1)) true) (c.put.ensures ∙ ap (paint (holds (span c.args.at 1)) true) c.fill-2.ensures) in
    ap (chunk_map c.fill.new.self) bound ∙ ap (λ ts. chunk_map ts (marked_bounds bounds c.args.at c.args.bits)) c.fill.ensures
    ∙ chunk_marked taken bounds c.args.at c.args.bits c.args.self.now places c.self.view_is

pub returns-clause-taken : goal.returns-clause-taken
returns-clause-taken c =
    let maps : AreMaps c.fill.new.self c.put-2.new.self = invariant_of-self c in
    sym maps.covered ∙ c.fill.ensures ∙ ap (paint (holds (span c.args.at c.args.bits)) true) (taken_is c.self.inside.taken c.self.inside.bounds c.args.self.now c.self.view_is c.self.invariant)
