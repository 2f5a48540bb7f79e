use Rattle.std.proofs.Common.{◌≡◌, ℕ, ◌+◌, ◌-◌, ◌≤◌, ◌⊎◌, inl, inr, true, false, sym, ◌∙◌, subst, arith}
use Rattle.vm_model.specs.Space.{span, holds, paint}
use Rattle.vm_model.specs.Hints.{IsHintIn}
use Rattle.chunk_bitmaps.specs.ChunkMap.{taken_bits}
use Rattle.block_hints.specs.KeptHints.{hint_around}
use Rattle.block_hints.proofs.HintsAround.{AreTakenNow, IsPlaced, painted_taken, not_cut, first_taken, around_taken}
use Rattle.block_hints.proofs.takes.chunk_with_taken.Goals as goal

pub returns : goal.returns
returns c =
    let old = taken_bits c.args.bits.now in
    let bits = c.args.bits.now.bits in
    let at = c.args.at in let count = c.args.count in
    let now = paint (holds (span at count)) true old in
    let h = c.args.hint in
    let are : AreTakenNow old now at count = painted_taken old at count c.requires.some c.requires.free in
    let placed : IsPlaced 0 bits at count = record { after = omega arith; within = c.requires.inside } in
    let next = c.first_with_taken-first.result in
    let len = c.len-len.ensures.len in
    let first = first_taken old now 0 bits at count next h are placed c.requires.hint c.first_with_taken-first.ensures.other
    (λ same. subst (λ n. (first : ℕ) × Rattle.chunk_bitmaps.specs.Bitmap.IsNextBit old false (at + count) n first × (next ≡ first - 0)) len (c.first_with_taken-first.ensures.next same)) in
    let apart = apart_by h.run_start h.run at count (not_cut at (at + count) h.run_start (h.run_start + h.run) (sym c.is_cut.ensures ∙ c.if-is_cut.false)) in
    let all : bits - 0 ≡ c.len-len.result = omega (arith, len) in let from : at - 0 ≡ at = omega arith in let to : at + count - 0 ≡ at + count = omega arith in
    let it : hint_around (bits - 0) (at - 0) (at + count - 0) next h ≡ hint_around c.len-len.result at (at + count) next h = (λ i. hint_around (all i) (from i) (to i) next h) in
    subst (IsHintIn now 0 bits) (it ∙ sym c.around.ensures) (around_taken old now 0 bits at count next h are placed apart c.requires.hint first)
  where
    apart_by : (run_start run at count : ℕ) → (run_start + run ≤ at) ⊎ (at + count ≤ run_start) → (0 + run_start + run ≤ at) ⊎ (at + count ≤ 0 + run_start)
    apart_by run_start run at count (inl before) = inl (omega arith)
    apart_by run_start run at count (inr past) = inr (omega arith)
