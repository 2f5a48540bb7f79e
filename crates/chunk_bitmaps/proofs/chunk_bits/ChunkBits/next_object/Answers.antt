use Rattle.std.proofs.Common.{◌≡◌, suc, ◌+◌, ◌-◌, ◌≤◌, ◌∙◌, ◌∷◌, List, true, length, ap, sym, arith, subst}
use Rattle.vm_model.specs.declared.areas.Span.{Span}
use Rattle.vm_model.specs.Space.{span}
use Rattle.chunk_bitmaps.specs.Bitmap.{IsNextBit}
use Rattle.chunk_bitmaps.specs.ChunkMap.{begins, up_to_next}
use Rattle.chunk_bitmaps.proofs.TakenBits.{bits_are}
use Rattle.chunk_bitmaps.proofs.Objects.{next_found}
use Rattle.chunk_bitmaps.proofs.ObjectsFrom.{begun, begun_is, begun_next, begun_past, begun_none, begun_here}
use Rattle.chunk_bitmaps.proofs.chunk_bits.ChunkBits.next_object.Goals as goal

pub loop-place-init : goal.loop-place-init
loop-place-init c =
    let taken = c.self.inside.taken in let bounds = c.self.inside.bounds in
    let next : IsNextBit taken true c.args.from (length taken) c.find_next-place.result = subst (λ end. IsNextBit taken true c.args.from end c.find_next-place.result) c.len-len.ensures.len c.find_next-place.ensures in
    record { after = c.find_next-place.ensures.after; within = c.find_next-place.ensures.within; left = begun_next taken bounds c.args.from c.find_next-place.result next }

pub loop-place-preserved : goal.loop-place-preserved
loop-place-preserved c =
    let taken = c.self.inside.taken in let bounds = c.self.inside.bounds in
    let next : IsNextBit taken true (c.loop-place.place + 1) (length taken) c.find_next-place-in-loop-place.result =
    subst (λ end. IsNextBit taken true (c.loop-place.place + 1) end c.find_next-place-in-loop-place.result) c.len-len.ensures.len c.find_next-place-in-loop-place.ensures in
    let after = c.find_next-place-in-loop-place.ensures.after in let from = c.loop-place.invariant.after in
    let low = c.loop-place-test.true in
    record {
      after = omega arith;
      within = c.find_next-place-in-loop-place.ensures.within;
      left = c.loop-place.invariant.left ∙ begun_past taken bounds c.loop-place.place c.find_next-place-in-loop-place.result (omega (arith, c.len-len.ensures.len)) (sym c.begins_at.ensures ∙ c.if-begins_at.false) next;
    }

pub returns-then-begins_at-clause-next : goal.returns-then-begins_at-clause-next
returns-then-begins_at-clause-next c =
    let taken = c.self.inside.taken in let bounds = c.self.inside.bounds in let place = c.loop-place.place in
    let here : begins taken bounds place ≡ true = sym c.begins_at.ensures ∙ c.if-begins_at.true in
    let next : IsNextBit bounds true (suc place) (length taken) c.find_next-end.result =
    subst (λ end. IsNextBit bounds true (suc place) end c.find_next-end.result) c.len-len.ensures.len (subst (λ from. IsNextBit bounds true from c.len-len.result c.find_next-end.result) (let e : place + 1 ≡ suc place = omega arith in e) c.find_next-end.ensures) in
    let end = next_found taken bounds place c.find_next-end.result c.self.invariant here next in
    let long : up_to_next bounds place ≡ c.find_next-end.result - place = omega arith in
    let low = c.loop-place-test.true in let length_is = c.len-len.ensures.len in
    let bits = bits_are taken bounds c.args.self.now c.self.view_is in
    let within : place + (c.find_next-end.result - place) ≤ length taken = let inside = next.within in let after = next.after in omega arith in
    sym (begun_is taken bounds c.args.from c.args.self.now (omega (arith, c.requires)) c.self.view_is)
    ∙ c.loop-place.invariant.left
    ∙ begun_here taken bounds place c.self.invariant (omega arith) here
    ∙ ap (λ n. span place n ∷ begun taken bounds (place + n)) long
    ∙ ap (λ (ss : List Span). span place (c.find_next-end.result - place) ∷ ss) (begun_is taken bounds (place + (c.find_next-end.result - place)) c.args.self.now within c.self.view_is)

pub returns-clause-next : goal.returns-clause-next
returns-clause-next c =
    let taken = c.self.inside.taken in let bounds = c.self.inside.bounds in
    let past = c.loop-place-test.false in let length_is = c.len-len.ensures.len in
    let bits = bits_are taken bounds c.args.self.now c.self.view_is in
    sym (begun_is taken bounds c.args.from c.args.self.now (omega (arith, c.requires)) c.self.view_is)
    ∙ c.loop-place.invariant.left ∙ begun_none taken bounds c.loop-place.place (omega arith)
