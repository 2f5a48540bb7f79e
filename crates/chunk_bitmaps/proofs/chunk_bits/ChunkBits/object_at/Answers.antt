use Rattle.std.proofs.Common.{◌≡◌, suc, ◌+◌, ◌-◌, ◌∙◌, Some, true, false, length, ap, sym, arith, subst}
use Rattle.chunk_bitmaps.specs.Bitmap.{IsNextBit}
use Rattle.chunk_bitmaps.specs.ChunkMap.{up_to_next, begins}
use Rattle.chunk_bitmaps.proofs.TakenBits.{bits_are}
use Rattle.chunk_bitmaps.proofs.Objects.{next_found, bits_found, none_found, begins_past}
use Rattle.chunk_bitmaps.proofs.chunk_bits.ChunkBits.object_at.Goals as goal
use Rattle.chunk_bitmaps.proofs.chunk_bits.ChunkBits.object_at.Goals.{then-at-len-via-then-at-len, then-at-len-via-else-at-len+then-not-begins_at}

pub returns-then-at-len-clause-bits : goal.returns-then-at-len-clause-bits
returns-then-at-len-clause-bits c =
    let none : begins c.self.inside.taken c.self.inside.bounds c.args.at ≡ false =
    elim c.then-at-len.branch [
      | then-at-len-via-then-at-len w ↦ begins_past c.self.inside.taken c.self.inside.bounds c.args.at (omega (arith, w.if-at-len.true, c.len.ensures.len))
      | then-at-len-via-else-at-len+then-not-begins_at w ↦ sym w.begins_at.ensures ∙ w.if-not-begins_at.true
    ] in
    (none_found c.self.inside.taken c.self.inside.bounds c.args.at c.args.self.now none c.self.view_is).0

pub returns-clause-bits : goal.returns-clause-bits
returns-clause-bits c =
    let taken = c.self.inside.taken in let bounds = c.self.inside.bounds in
    let here : begins taken bounds c.args.at ≡ true = sym c.begins_at.ensures ∙ c.if-not-begins_at.false in
    let next : IsNextBit bounds true (suc c.args.at) (length taken) c.find_next.result =
    subst (λ end. IsNextBit bounds true (suc c.args.at) end c.find_next.result) c.len-2.ensures.len (subst (λ from. IsNextBit bounds true from c.len-2.result c.find_next.result) (let e : c.args.at + 1 ≡ suc c.args.at = omega arith in e) c.find_next.ensures) in
    let end = next_found taken bounds c.args.at c.find_next.result c.self.invariant here next in
    let long : c.find_next.result - c.args.at ≡ up_to_next bounds c.args.at = omega arith in
    let inside = bits_are taken bounds c.args.self.now c.self.view_is in
    ap Some long ∙ bits_found taken bounds c.args.at c.args.self.now (omega arith) here c.self.view_is
