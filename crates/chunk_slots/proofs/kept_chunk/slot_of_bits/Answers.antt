use Rattle.std.proofs.Common.{◌≡◌, ◌+◌, ◌*◌, length, ap, sym, ◌∙◌, arith}
use Rattle.vm_model.specs.Space.{longest}
use Rattle.vm_model.specs.Bits.{slot_for}
use Rattle.vm_model.specs.declared.rows.Hint.{Hint}
use Rattle.chunk_bitmaps.specs.ChunkMap.{taken_bits}
use Rattle.vm_model.proofs.SlotByRun.{slot_none, slot_all, slot_run, run_within}
use Rattle.chunk_slots.proofs.FreeBits.{length-taken}
use Rattle.chunk_slots.proofs.kept_chunk.slot_of_bits.Goals as goal

pub overflow_mul-run : goal.overflow_mul-run
overflow_mul-run c =
    let bits = taken_bits c.args.bits.now in
    let run : c.longest-run.result.run ≡ (longest bits).pages = ap (λ (h : Hint). h.run) c.longest-run.ensures in
    omega (arith, run, run_within bits, length-taken c.args.bits.now, c.requires.size, c.requires.most)

pub returns-then-run-eq0 : goal.returns-then-run-eq0
returns-then-run-eq0 c =
    let bits = taken_bits c.args.bits.now in
    sym (slot_none bits (sym (ap (λ (h : Hint). h.run) c.longest-run.ensures) ∙ c.if-run-eq0.true))

pub returns-then-run-pages : goal.returns-then-run-pages
returns-then-run-pages c =
    let bits = taken_bits c.args.bits.now in
    let run : c.longest-run.result.run ≡ (longest bits).pages = ap (λ (h : Hint). h.run) c.longest-run.ensures in
    let all : length bits ≡ 1024 * c.args.pages = length-taken c.args.bits.now ∙ c.requires.size in
    let nonzero = c.if-run-eq0.false in
    let same : 4096 * c.args.pages ≡ 4 * length bits = omega arith in
    ap (λ n. n + 2) (c.slot_for.ensures.slot ∙ ap slot_for same) ∙ sym (slot_all bits (λ e. nonzero (run ∙ e)) (omega (arith, run, c.if-run-pages.true)))

pub returns-else-run-pages : goal.returns-else-run-pages
returns-else-run-pages c =
    let bits = taken_bits c.args.bits.now in
    let run : c.longest-run.result.run ≡ (longest bits).pages = ap (λ (h : Hint). h.run) c.longest-run.ensures in
    let all : length bits ≡ 1024 * c.args.pages = length-taken c.args.bits.now ∙ c.requires.size in
    let apart = c.if-run-pages.false in
    let nonzero = c.if-run-eq0.false in
    c.slot_for-else-run-pages.ensures.slot ∙ ap (λ n. slot_for (4 * n)) run
    ∙ sym (slot_run bits (λ e. nonzero (run ∙ e)) (λ e. apart (run ∙ e ∙ all)))
