use Rattle.std.proofs.Common.{◌∷◌, [], List, map, sym, ◌∙◌, ap, subst, arith}
use Rattle.std.specs.Arc.{arc_value}
use Rattle.unit_layout.specs.Config.{setup_of}
use Rattle.unit_layout.specs.declared.config.Config.{Config}
use Rattle.vm_model.specs.PlainMap.{at_first}
use Rattle.vm_model.specs.Parts.{regions_of}
use Rattle.vm_model.specs.History.{Local, started, opening_world}
use Rattle.callers.specs.declared.answers.Answered.{Answered as Code}
use Rattle.callers.specs.CallerParts.{answer_of, OpeningTellsFreed}
use Rattle.callers.proofs.SoundCalls.{ruled_sound}
use Rattle.kernel_steps.proofs.KernelStarts.{stands_before}
use Rattle.kernel_steps.proofs.kernel.Kernel.before.Goals as goal

pub start-requires-clause-sound : goal.start-requires-clause-sound
start-requires-clause-sound c = let trace = c.requires.1.can.trace in ruled_sound (setup_of (arc_value c.args.config.now)) trace.setup [] c.args.opening trace.opening_ruled

pub start-requires-clause-opening : goal.start-requires-clause-opening
start-requires-clause-opening c = subst OpeningTellsFreed (sym (c.in_ok-none.ensures.ok ∙ c.of.ensures ∙ c.new.ensures.items)) (λ i o h. cc)

pub start-requires-clause-few : goal.start-requires-clause-few
start-requires-clause-few c = let few = c.requires.1.can.trace.few in omega arith

pub invariant_of-result : goal.invariant_of-result
invariant_of-result c =
    let calls = c.requires.0 in (
      setup_of (arc_value c.args.config.now),
      c.args.opening,
      calls,
      opening_world (setup_of (arc_value c.args.config.now)) c.args.opening calls,
      stands_before (setup_of (arc_value c.args.config.now)) c.args.opening calls c.args.room (record { regions = c.in_ok-first_regions.field-0.items; locals = c.in_ok-vec.field-0.items; moved = c.new-3.result.items }) c.requires.1 (c.in_ok-first_regions.ensures ∙ ap (λ (x : Config). regions_of (setup_of x) (at_first (setup_of x) c.args.room)) c.deref.ensures)
          (c.in_ok-vec.ensures.items ∙ ap (λ (l : Local). l ∷ []) (c.in_ok-first.ensures ∙ ap (λ (x : Config). started (setup_of x) (map answer_of (arc_value c.in_ok-none.none)) 0 c.args.opening) c.in_ok-try_clone.ensures ∙ ap (λ (answers : List Code). started (setup_of (arc_value c.args.config.now)) (map answer_of answers) 0 c.args.opening) (c.in_ok-none.ensures.ok ∙ c.of.ensures ∙ c.new.ensures.items))) c.new-3.ensures.items,
    )

pub returns : goal.returns
returns c = λ calls can.
    stands_before (setup_of (arc_value c.args.config.now)) c.args.opening calls c.args.room (record { regions = c.in_ok-first_regions.field-0.items; locals = c.in_ok-vec.field-0.items; moved = c.new-3.result.items }) can (c.in_ok-first_regions.ensures ∙ ap (λ (x : Config). regions_of (setup_of x) (at_first (setup_of x) c.args.room)) c.deref.ensures)
    (c.in_ok-vec.ensures.items ∙ ap (λ (l : Local). l ∷ []) (c.in_ok-first.ensures ∙ ap (λ (x : Config). started (setup_of x) (map answer_of (arc_value c.in_ok-none.none)) 0 c.args.opening) c.in_ok-try_clone.ensures ∙ ap (λ (answers : List Code). started (setup_of (arc_value c.args.config.now)) (map answer_of answers) 0 c.args.opening) (c.in_ok-none.ensures.ok ∙ c.of.ensures ∙ c.new.ensures.items))) c.new-3.ensures.items
