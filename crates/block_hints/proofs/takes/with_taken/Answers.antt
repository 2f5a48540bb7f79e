use Rattle.std.proofs.Common.{◌≡◌, ℕ, ◌+◌, ◌-◌, ◌≤◌, ◌<◌, ◌⊎◌, inl, inr, true, false, Bool, List, ◌&&◌, nat_lt, Some, sym, ◌∙◌, ap, subst, arith}
use Rattle.vm_model.specs.declared.rows.Hint.{Hint}
use Rattle.vm_model.specs.Hints.{IsHintIn}
use Rattle.chunk_bitmaps.specs.Bitmap.{IsNextBit}
use Rattle.chunk_bitmaps.specs.ChunkMap.{taken_bits}
use Rattle.block_hints.specs.declared.block_scan.Block.{Block}
use Rattle.block_hints.specs.KeptHints.{hint_around, block_cut}
use Rattle.block_hints.specs.Taken.{WasBlockIn}
use Rattle.block_hints.proofs.HintsAround.{AreTakenNow, IsPlaced, painted_taken, not_cut, first_taken, ends_taken}
use Rattle.block_hints.proofs.HintsCut.{AreRunsIn, runs_stay, runs_cut, cut_inside}
use Rattle.block_hints.proofs.HintsMended.{next_was}
use Rattle.block_hints.proofs.takes.with_taken.Goals as goal
use Rattle.block_hints.proofs.takes.with_taken.Goals.{then-is_cut+in_ok-block, else-is_cut}

taken_now : (now : List Bool) (low high at count : ℕ) (b : Block) → 1 ≤ count → (was : WasBlockIn now low high at count b) → AreTakenNow was.old now at count
taken_now now low high at count b some was = subst (λ bits. AreTakenNow was.old bits at count) (sym was.taken) (painted_taken was.old at count some was.free)

-- the places of which one is of the longest run are all
all_inside : (now : List Bool) (low high at end : ℕ) (b : Block) → low ≤ at → at < end → end ≤ high → WasBlockIn now low high at (end - at) b → (nat_lt (at - low) (b.hint.run_start + b.hint.run) && nat_lt b.hint.run_start (end - low)) ≡ true
    → (b.hint.run_start ≤ at - low) × (end - low ≤ b.hint.run_start + b.hint.run)
all_inside now low high at end b after order within was cut =
    let to : end - low ≡ at - low + (end - at) = omega arith in
    let i = cut_inside was.old now low high at (end - at) b (taken_now now low high at (end - at) b (omega arith) was) (record { after = after; within = omega arith }) was.kept
    (subst (λ n. (nat_lt (at - low) (b.hint.run_start + b.hint.run) && nat_lt b.hint.run_start n) ≡ true) to cut) in
    (i.0, omega (arith, i.1))

pub is_cut-requires : goal.is_cut-requires
is_cut-requires c = let within = c.requires.before.kept.hint.run.within in omega arith

pub with_run_cut-requires-clause-start : goal.with_run_cut-requires-clause-start
with_run_cut-requires-clause-start c =
    (all_inside (taken_bits c.args.bits.now) c.args.low c.args.high c.args.at c.args.end c.args.old c.requires.low c.requires.order c.requires.inside c.requires.before (sym c.is_cut.ensures ∙ c.if-is_cut.true)).0

pub with_run_cut-requires-clause-end : goal.with_run_cut-requires-clause-end
with_run_cut-requires-clause-end c =
    (all_inside (taken_bits c.args.bits.now) c.args.low c.args.high c.args.at c.args.end c.args.old c.requires.low c.requires.order c.requires.inside c.requires.before (sym c.is_cut.ensures ∙ c.if-is_cut.true)).1

apart_by : (low run_start run at end count : ℕ) → low ≤ at → at + count ≡ end → (run_start + run ≤ at - low) ⊎ (end - low ≤ run_start) → (low + run_start + run ≤ at) ⊎ (at + count ≤ low + run_start)
apart_by low run_start run at end count after to (inl before) = inl (omega arith)
apart_by low run_start run at end count after to (inr past) = inr (omega arith)

pub returns : goal.returns
returns c =
    let now = taken_bits c.args.bits.now in
    let old = c.requires.before.old in
    let low = c.args.low in let high = c.args.high in
    let at = c.args.at in let end = c.args.end in let count = end - at in
    let b = c.args.old in
    let block = c.if-is_cut.block in
    let is = c.requires.before.kept in
    let are : AreTakenNow old now at count = taken_now now low high at count b (omega arith) c.requires.before in
    let to : at + count ≡ end = omega arith in
    let placed : IsPlaced low high at count = record { after = c.requires.low; within = omega arith } in
    let runs : AreRunsIn now low high block = elim c.if-is_cut.branch [
      | then-is_cut+in_ok-block w ↦
          let inside = all_inside now low high at end b c.requires.low c.requires.order c.requires.inside c.requires.before (sym c.is_cut.ensures ∙ w.if-is_cut.true) in
          subst (AreRunsIn now low high) (sym w.block-is) (runs_cut old now low high at count b w.in_ok-block.block are (omega (arith, inside.0)) (omega (arith, inside.1)) is (subst (λ n. block_cut (at - low) (n - low) b ≡ Some w.in_ok-block.block) (sym to) (sym w.with_run_cut.ensures ∙ w.in_ok-block.was)))
      | else-is_cut w ↦
          subst (AreRunsIn now low high) (sym w.block-is) (runs_stay old now low high at count b are (apart_by low b.hint.run_start b.hint.run at end count c.requires.low to (not_cut (at - low) (end - low) b.hint.run_start (b.hint.run_start + b.hint.run) (sym c.is_cut.ensures ∙ w.if-is_cut.false))) is)
    ] in
    let next = c.first_with_taken-first.result in
    let first = first_taken old now low high at count next b.hint are placed is.hint c.first_with_taken-first.ensures.other
    (λ same. let n = c.first_with_taken-first.ensures.next same in
    (n.0, subst (λ k. IsNextBit old false k high n.0) (sym to) (next_was old now at count end high n.0 c.requires.before.taken (omega arith) n.1), n.2)) in
    let ends = ends_taken old now low high at count next block.hint.run_start block.hint.run b.hint are placed runs.longest is.hint first in
    let around : hint_around (high - low) (at - low) (at + count - low) next b.hint ≡ c.around.result = ap (λ n. hint_around (high - low) (at - low) (n - low) next b.hint) to ∙ sym c.around.ensures in
    record {
      hint = subst (λ (h : Hint). IsHintIn now low high (record h { run_start = block.hint.run_start; run = block.hint.run })) around ends;
      before = runs.before;
      behind = runs.behind;
    }
