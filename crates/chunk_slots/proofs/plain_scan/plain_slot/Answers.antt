use Rattle.std.proofs.Common.{◌≡◌, ◌+◌, ◌*◌, ap, sym, ◌∙◌, arith}
use Rattle.vm_model.specs.declared.areas.Span.{Span}
use Rattle.vm_model.specs.Space.{longest}
use Rattle.vm_model.specs.Bits.{slot_for}
use Rattle.vm_model.proofs.SlotByRun.{slot_none, slot_all, slot_run, run_within}
use Rattle.chunk_slots.proofs.plain_scan.plain_slot.Goals as goal

pub overflow_mul-run : goal.overflow_mul-run
overflow_mul-run c =
    let run : c.plain_longest-run.result.1 ≡ (longest c.args.bits.now).pages = ap (λ (s : Span). s.pages) c.plain_longest-run.ensures in
    omega (arith, run, run_within c.args.bits.now, c.requires)

pub returns-then-run-eq0 : goal.returns-then-run-eq0
returns-then-run-eq0 c = sym (slot_none c.args.bits.now (sym (ap (λ (s : Span). s.pages) c.plain_longest-run.ensures) ∙ c.if-run-eq0.true))

pub returns-then-run-all : goal.returns-then-run-all
returns-then-run-all c =
    let run : c.plain_longest-run.result.1 ≡ (longest c.args.bits.now).pages = ap (λ (s : Span). s.pages) c.plain_longest-run.ensures in
    let some = c.if-run-eq0.false in
    ap (λ n. n + 2) c.slot_for.ensures.slot ∙ sym (slot_all c.args.bits.now (λ e. some (run ∙ e)) (sym run ∙ c.if-run-all.true))

pub returns-else-run-all : goal.returns-else-run-all
returns-else-run-all c =
    let run : c.plain_longest-run.result.1 ≡ (longest c.args.bits.now).pages = ap (λ (s : Span). s.pages) c.plain_longest-run.ensures in
    let some = c.if-run-eq0.false in let apart = c.if-run-all.false in
    c.slot_for-else-run-all.ensures.slot ∙ ap (λ n. slot_for (4 * n)) run ∙ sym (slot_run c.args.bits.now (λ e. some (run ∙ e)) (λ e. apart (run ∙ e)))
