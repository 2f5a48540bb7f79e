use Rattle.std.proofs.Common.{◌≡◌, ◌<◌, ◌+◌, ◌∷◌, ◌++◌, [], suc, List, Some, map, length, slice_get, sym, ◌∙◌, ap, arith, refl, length-append}
use Rattle.std.proofs.lemmas.Option.{slice_get_read}
use Rattle.std.proofs.lemmas.Bool.Decides.{nat_tests}
use Rattle.std.specs.Arc.{arc_value}
use Rattle.unit_layout.specs.Config.{setup_of}
use Rattle.unit_layout.specs.declared.config.Config.{Config}
use Rattle.vm_model.specs.History.{started}
use Rattle.callers.specs.declared.answers.Answered.{Answered as Code}
use Rattle.callers.specs.CallerParts.{answer_of}
use Rattle.callers.proofs.CallersStarted.{removed_first, callers_next}
use Rattle.callers.proofs.local.first_callers.Goals as goal

pub loop-alloc-preserved : goal.loop-alloc-preserved
loop-alloc-preserved c =
    let some : 0 < length c.loop-alloc.rest.items = (let wide = c.loop-alloc.rest.ok.0 in let test = sym c.is_empty.ensures ∙ c.loop-alloc-test.true in grind (arith, nat_tests)) in
    let first : slice_get c.loop-alloc.rest.items 0 ≡ Some c.remove-calls.result = slice_get_read c.loop-alloc.rest.items (length c.loop-alloc.rest.items) 0 c.remove-calls.result refl some c.remove-calls.ensures.value in
    let split : c.loop-alloc.rest.items ≡ c.remove-calls.result ∷ c.remove-calls.new.self.items = removed_first c.loop-alloc.rest.items c.remove-calls.new.self.items c.remove-calls.result c.remove-calls.ensures.items first in
    let started_is : c.in_ok-start.field-0 ≡ started (setup_of (arc_value c.args.config.now)) (map answer_of (arc_value c.args.opening.now)) (length c.loop-alloc.callers.items + 1) c.remove-calls.result =
    c.in_ok-start.ensures ∙ ap (λ (x : Config). started (setup_of x) (map answer_of (arc_value c.in_ok-opening.opening)) (c.len-in-loop-alloc.result + 1) c.remove-calls.result) c.in_ok-config.ensures
    ∙ ap (λ (answers : List Code). started (setup_of (arc_value c.args.config.now)) (map answer_of answers) (c.len-in-loop-alloc.result + 1) c.remove-calls.result) c.in_ok-opening.ensures
    ∙ ap (λ n. started (setup_of (arc_value c.args.config.now)) (map answer_of (arc_value c.args.opening.now)) (n + 1) c.remove-calls.result) (c.len-in-loop-alloc.ensures ∙ c.loop-alloc.callers.ok.0) in
    let pushed : c.push.new.self.items ≡ c.loop-alloc.callers.items ++ started (setup_of (arc_value c.args.config.now)) (map answer_of (arc_value c.args.opening.now)) (length c.loop-alloc.callers.items + 1) c.remove-calls.result ∷ [] =
    c.in_ok-push.ensures.items ∙ ap (λ l. c.loop-alloc.callers.items ++ l ∷ []) started_is in
    record {
      told = c.loop-alloc.invariant.told ∙ callers_next (setup_of (arc_value c.args.config.now)) (map answer_of (arc_value c.args.opening.now)) c.loop-alloc.callers.items c.push.new.self.items c.loop-alloc.rest.items c.remove-calls.new.self.items c.remove-calls.result split pushed;
      few = let n = ap length split in let m = ap length pushed ∙ length-append c.loop-alloc.callers.items _ in let low = c.loop-alloc.invariant.few in omega arith;
      sound = λ k own h. c.loop-alloc.invariant.sound (suc k) own (ap (λ xs. slice_get xs (suc k)) split ∙ h);
      short = λ k own h. c.loop-alloc.invariant.short (suc k) own (ap (λ xs. slice_get xs (suc k)) split ∙ h);
    }
