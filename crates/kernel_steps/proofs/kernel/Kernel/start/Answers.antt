use Rattle.std.proofs.Common.{slice_index_or, ◌≡◌, ◌≤◌, ◌∷◌, List, map, length, slice_get, sym, ◌∙◌, ap, subst, refl, arith}
use Rattle.std.specs.Arc.{arc_value}
use Rattle.vm_model.specs.declared.calls.Call.{Call}
use Rattle.unit_layout.specs.Config.{setup_of}
use Rattle.unit_layout.specs.declared.config.Config.{Config}
use Rattle.vm_model.specs.History.{opening_world, placing_calls}
use Rattle.callers.specs.CallerParts.{answer_of, OpeningTellsFreed}
use Rattle.callers.proofs.SoundCalls.{ruled_sound}
use Rattle.kernel_steps.specs.Kernels.{KernelState, IsStanding, CanStart, IsBefore, start_of, opening_of, callers_of}
use Rattle.callers.proofs.CallersStarted.{removed_first}
use Rattle.kernel_steps.proofs.KernelStarts.{section_short, few_together, can_join}
use Rattle.std.proofs.Common.{remove}
use Rattle.std.proofs.lemmas.Option.{slice_get_read}
use Rattle.kernel_steps.proofs.kernel.Kernel.start.Goals as goal

-- the sections are the opening and the others
split_as : (sections : List (List Call)) (held rest : List (List Call)) (opening : List Call) → held ≡ sections → 1 ≤ length sections → opening ≡ slice_index_or held 0 opening → rest ≡ remove held 0 → sections ≡ opening ∷ rest
split_as sections held rest opening e some first others =
    let n = ap length e in
    sym e ∙ removed_first held rest opening others (slice_get_read held (length held) 0 opening refl (omega arith) first)

pub first_callers-requires-clause-sound : goal.first_callers-requires-clause-sound
first_callers-requires-clause-sound c = λ k own h.
    let split = split_as c.args.sections c.into_vec-sections.result.items c.remove-opening.new.self.items c.remove-opening.result c.into_vec-sections.ensures c.requires.some c.remove-opening.ensures.value c.remove-opening.ensures.items in
    ruled_sound (setup_of c.args.config) c.requires.trace.setup (opening_of c.args.sections) own (c.requires.trace.callers_ruled k own (ap (λ xs. slice_get (callers_of xs) k) split ∙ h))

pub first_callers-requires-clause-opening : goal.first_callers-requires-clause-opening
first_callers-requires-clause-opening c = subst OpeningTellsFreed (sym c.in_ok-answers-2.ensures.ok) c.in_ok-answers.ensures.freed

pub first_callers-requires-clause-few : goal.first_callers-requires-clause-few
first_callers-requires-clause-few c = λ k own h.
    let split = split_as c.args.sections c.into_vec-sections.result.items c.remove-opening.new.self.items c.remove-opening.result c.into_vec-sections.ensures c.requires.some c.remove-opening.ensures.value c.remove-opening.ensures.items in
    let low = section_short (callers_of c.args.sections) k own (ap (λ xs. slice_get (callers_of xs) k) split ∙ h) in
    let few = c.requires.trace.few in
    omega arith

pub placing_calls-room-requires : goal.placing_calls-room-requires
placing_calls-room-requires c = few_together c.args.sections c.requires.some c.requires.trace.few

pub before-requires : goal.before-requires
before-requires c =
    let split = split_as c.args.sections c.into_vec-sections.result.items c.remove-opening.new.self.items c.remove-opening.result c.into_vec-sections.ensures c.requires.some c.remove-opening.ensures.value c.remove-opening.ensures.items in
    let can : CanStart (setup_of (arc_value c.in_ok-config.config)) (c.remove-opening.result ∷ c.remove-opening.new.self.items) = subst (CanStart (setup_of (arc_value c.in_ok-config.config))) split (subst (λ (x : Config). CanStart (setup_of x) c.args.sections) (sym c.in_ok-config.ensures.ok) c.requires) in
    (c.remove-opening.new.self.items, record { can = can; counted = c.placing_calls-room.ensures ∙ ap placing_calls split })

pub join-requires : goal.join-requires
join-requires c =
    let split = split_as c.args.sections c.into_vec-sections.result.items c.remove-opening.new.self.items c.remove-opening.result c.into_vec-sections.ensures c.requires.some c.remove-opening.ensures.value c.remove-opening.ensures.items in
    let can : CanStart (setup_of (arc_value c.in_ok-config.config)) (c.remove-opening.result ∷ c.remove-opening.new.self.items) = subst (CanStart (setup_of (arc_value c.in_ok-config.config))) split (subst (λ (x : Config). CanStart (setup_of x) c.args.sections) (sym c.in_ok-config.ensures.ok) c.requires) in
    let before : IsBefore (setup_of (arc_value c.in_ok-config.config)) (c.remove-opening.result ∷ c.remove-opening.new.self.items) c.placing_calls-room.result = record { can = can; counted = c.placing_calls-room.ensures ∙ ap placing_calls split } in (
      setup_of (arc_value c.in_ok-config.config),
      c.remove-opening.result ∷ c.remove-opening.new.self.items,
      can_join (setup_of (arc_value c.in_ok-config.config)) c.remove-opening.result c.remove-opening.new.self.items c.in_ok-kernel.kernel c.finish.new.self c.kernel-2.inside.locals.items c.in_ok-first_callers.field-0.items c.index.result.now
          (map answer_of (arc_value c.in_ok-answers-2.answers)) can (c.in_ok-kernel.ensures c.remove-opening.new.self.items before)
          (c.in_ok-finish.ensures.ok (setup_of (arc_value c.in_ok-config.config)) c.remove-opening.result c.remove-opening.new.self.items (opening_world (setup_of (arc_value c.in_ok-config.config)) c.remove-opening.result c.remove-opening.new.self.items) (c.in_ok-kernel.ensures c.remove-opening.new.self.items before))
          c.finish.ensures.callers (ap (λ (k : KernelState). k.locals) c.kernel-2.view_is) c.index.ensures (ap (map answer_of) c.in_ok-answers-2.ensures.ok ∙ c.in_ok-answers.ensures.answers) c.in_ok-first_callers.ensures,
    )

pub returns : goal.returns
returns c =
    let split = split_as c.args.sections c.into_vec-sections.result.items c.remove-opening.new.self.items c.remove-opening.result c.into_vec-sections.ensures c.requires.some c.remove-opening.ensures.value c.remove-opening.ensures.items in
    let can : CanStart (setup_of (arc_value c.in_ok-config.config)) (c.remove-opening.result ∷ c.remove-opening.new.self.items) = subst (CanStart (setup_of (arc_value c.in_ok-config.config))) split (subst (λ (x : Config). CanStart (setup_of x) c.args.sections) (sym c.in_ok-config.ensures.ok) c.requires) in
    let before : IsBefore (setup_of (arc_value c.in_ok-config.config)) (c.remove-opening.result ∷ c.remove-opening.new.self.items) c.placing_calls-room.result = record { can = can; counted = c.placing_calls-room.ensures ∙ ap placing_calls split } in
    let joined = c.in_ok-join.ensures (setup_of (arc_value c.in_ok-config.config)) (c.remove-opening.result ∷ c.remove-opening.new.self.items)
    (can_join (setup_of (arc_value c.in_ok-config.config)) c.remove-opening.result c.remove-opening.new.self.items c.in_ok-kernel.kernel c.finish.new.self c.kernel-2.inside.locals.items c.in_ok-first_callers.field-0.items c.index.result.now
    (map answer_of (arc_value c.in_ok-answers-2.answers)) can (c.in_ok-kernel.ensures c.remove-opening.new.self.items before)
    (c.in_ok-finish.ensures.ok (setup_of (arc_value c.in_ok-config.config)) c.remove-opening.result c.remove-opening.new.self.items (opening_world (setup_of (arc_value c.in_ok-config.config)) c.remove-opening.result c.remove-opening.new.self.items) (c.in_ok-kernel.ensures c.remove-opening.new.self.items before))
    c.finish.ensures.callers (ap (λ (k : KernelState). k.locals) c.kernel-2.view_is) c.index.ensures (ap (map answer_of) c.in_ok-answers-2.ensures.ok ∙ c.in_ok-answers.ensures.answers) c.in_ok-first_callers.ensures) in
    subst (λ (x : Config). IsStanding (setup_of x) (opening_of c.args.sections) (callers_of c.args.sections) (start_of (setup_of x) c.args.sections) c.join.new.self) c.in_ok-config.ensures.ok
    (subst (λ sections. IsStanding (setup_of (arc_value c.in_ok-config.config)) (opening_of sections) (callers_of sections) (start_of (setup_of (arc_value c.in_ok-config.config)) sections) c.join.new.self) (sym split) joined)
