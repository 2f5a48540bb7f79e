use Rattle.std.proofs.Common.{FitsSigned, w32, ℤ, rules, sym, subst, ◌∙◌, ap, map, arith}
use Rattle.std.proofs.lemmas.Int.{to_z-of_z}
use Rattle.vm_model.specs.Calls.{answers_in, begin, begin_add, begin_call, begin_free_area, begin_free_percpu, begin_sum, begin_unmap_ram, was_freed}
use Rattle.unit_layout.specs.Config.{setup_of}
use Rattle.callers.specs.CarriedPlaces.{made_of}
use Rattle.callers.specs.CallerParts.{answer_of, IsSoundCall}
use Rattle.callers.proofs.Lookups.{found_at}
use Rattle.callers.proofs.begin.place_before.Goals as goal

pub returns-in-Vfree-clause-whole : goal.returns-in-Vfree-clause-whole
returns-in-Vfree-clause-whole c = c.vfree_place.ensures.whole (setup_of c.args.config.now)

pub returns-in-UnmapRam-clause-whole : goal.returns-in-UnmapRam-clause-whole
returns-in-UnmapRam-clause-whole c = c.unmap_ram_place.ensures.whole (setup_of c.args.config.now)

pub returns-in-FreePercpu-clause-whole : goal.returns-in-FreePercpu-clause-whole
returns-in-FreePercpu-clause-whole c = c.free_percpu_place.ensures.whole (setup_of c.args.config.now)

pub returns-in-Add-clause-whole : goal.returns-in-Add-clause-whole
returns-in-Add-clause-whole c = c.add_place.ensures.whole (setup_of c.args.config.now)

pub returns-in-Sum-clause-whole : goal.returns-in-Sum-clause-whole
returns-in-Sum-clause-whole c = c.sum_place.ensures.whole (setup_of c.args.config.now)

pub returns-in-Vmalloc-clause-place : goal.returns-in-Vmalloc-clause-place
returns-in-Vmalloc-clause-place c = λ answers made.
    let at = found_at c.args.calls.now c.args.index c.in-Some.call.now c.in-Some.ensures.lookup.0 c.in-Some.ensures.lookup.1 in
    c.vmalloc_place.ensures.place ∙ sym (ap (begin_call (setup_of c.args.config.now) (map answer_of c.args.opening.now) answers) c.in-Vmalloc.is) ∙ ap (begin (setup_of c.args.config.now) (map answer_of c.args.opening.now) answers) (sym at)

pub returns-in-Vfree-clause-place : goal.returns-in-Vfree-clause-place
returns-in-Vfree-clause-place c = λ answers made.
    let at = found_at c.args.calls.now c.args.index c.in-Some.call.now c.in-Some.ensures.lookup.0 c.in-Some.ensures.lookup.1 in
    c.vfree_place.ensures.place ∙ ap begin_free_area (c.outcome_of.ensures.made answers made) ∙ sym (ap (begin_call (setup_of c.args.config.now) (map answer_of c.args.opening.now) answers) c.in-Vfree.is) ∙ ap (begin (setup_of c.args.config.now) (map answer_of c.args.opening.now) answers) (sym at)

pub returns-in-MapRam-clause-place : goal.returns-in-MapRam-clause-place
returns-in-MapRam-clause-place c = λ answers made.
    let at = found_at c.args.calls.now c.args.index c.in-Some.call.now c.in-Some.ensures.lookup.0 c.in-Some.ensures.lookup.1 in
    c.map_ram_place.ensures.place ∙ sym (ap (begin_call (setup_of c.args.config.now) (map answer_of c.args.opening.now) answers) c.in-MapRam.is) ∙ ap (begin (setup_of c.args.config.now) (map answer_of c.args.opening.now) answers) (sym at)

pub returns-in-UnmapRam-clause-place : goal.returns-in-UnmapRam-clause-place
returns-in-UnmapRam-clause-place c = λ answers made.
    let at = found_at c.args.calls.now c.args.index c.in-Some.call.now c.in-Some.ensures.lookup.0 c.in-Some.ensures.lookup.1 in
    c.unmap_ram_place.ensures.place ∙ ap begin_unmap_ram (c.outcome_of-in-UnmapRam.ensures.made answers made) ∙ sym (ap (begin_call (setup_of c.args.config.now) (map answer_of c.args.opening.now) answers) c.in-UnmapRam.is) ∙ ap (begin (setup_of c.args.config.now) (map answer_of c.args.opening.now) answers) (sym at)

pub returns-in-UnmapAliases-clause-place : goal.returns-in-UnmapAliases-clause-place
returns-in-UnmapAliases-clause-place c = λ answers made.
    let at = found_at c.args.calls.now c.args.index c.in-Some.call.now c.in-Some.ensures.lookup.0 c.in-Some.ensures.lookup.1 in
    sym (ap (begin_call (setup_of c.args.config.now) (map answer_of c.args.opening.now) answers) c.in-UnmapAliases.is) ∙ ap (begin (setup_of c.args.config.now) (map answer_of c.args.opening.now) answers) (sym at)

pub returns-in-AllocPercpu-clause-place : goal.returns-in-AllocPercpu-clause-place
returns-in-AllocPercpu-clause-place c = λ answers made.
    let at = found_at c.args.calls.now c.args.index c.in-Some.call.now c.in-Some.ensures.lookup.0 c.in-Some.ensures.lookup.1 in
    c.alloc_percpu_place.ensures.place ∙ sym (ap (begin_call (setup_of c.args.config.now) (map answer_of c.args.opening.now) answers) c.in-AllocPercpu.is) ∙ ap (begin (setup_of c.args.config.now) (map answer_of c.args.opening.now) answers) (sym at)

pub returns-in-AllocAtomic-clause-place : goal.returns-in-AllocAtomic-clause-place
returns-in-AllocAtomic-clause-place c = λ answers made.
    let at = found_at c.args.calls.now c.args.index c.in-Some.call.now c.in-Some.ensures.lookup.0 c.in-Some.ensures.lookup.1 in
    c.alloc_atomic_place.ensures.place ∙ sym (ap (begin_call (setup_of c.args.config.now) (map answer_of c.args.opening.now) answers) c.in-AllocAtomic.is) ∙ ap (begin (setup_of c.args.config.now) (map answer_of c.args.opening.now) answers) (sym at)

pub returns-in-FreePercpu-clause-place : goal.returns-in-FreePercpu-clause-place
returns-in-FreePercpu-clause-place c = λ answers made.
    let at = found_at c.args.calls.now c.args.index c.in-Some.call.now c.in-Some.ensures.lookup.0 c.in-Some.ensures.lookup.1 in
    c.free_percpu_place.ensures.place ∙ ap begin_free_percpu (c.outcome_of-in-FreePercpu.ensures.made answers made) ∙ sym (ap (begin_call (setup_of c.args.config.now) (map answer_of c.args.opening.now) answers) c.in-FreePercpu.is) ∙ ap (begin (setup_of c.args.config.now) (map answer_of c.args.opening.now) answers) (sym at)

pub returns-in-Add-clause-place : goal.returns-in-Add-clause-place
returns-in-Add-clause-place c = λ answers made.
    let at = found_at c.args.calls.now c.args.index c.in-Some.call.now c.in-Some.ensures.lookup.0 c.in-Some.ensures.lookup.1 in
    let fits : FitsSigned w32 c.in-Add.amount = search rules in
    c.add_place.ensures.place (was_freed (answers_in (map answer_of c.args.opening.now) answers c.in-Add.target) c.in-Add.target.call) (c.outcome_of-in-Add.ensures.freed answers made (subst (IsSoundCall c.args.index) c.in-Add.is (c.requires.sound c.args.index c.in-Some.call.now at)).0)
    ∙ ap (λ (amount : ℤ). begin_add (was_freed (answers_in (map answer_of c.args.opening.now) answers c.in-Add.target) c.in-Add.target.call) c.in-Add.cpu c.in-Add.index amount (made_of c.outcome_of-in-Add.result.made)) (to_z-of_z w32 c.in-Add.amount fits)
    ∙ ap (begin_add (was_freed (answers_in (map answer_of c.args.opening.now) answers c.in-Add.target) c.in-Add.target.call) c.in-Add.cpu c.in-Add.index c.in-Add.amount) (c.outcome_of-in-Add.ensures.made answers made) ∙ sym (ap (begin_call (setup_of c.args.config.now) (map answer_of c.args.opening.now) answers) c.in-Add.is) ∙ ap (begin (setup_of c.args.config.now) (map answer_of c.args.opening.now) answers) (sym at)

pub returns-in-Sum-clause-place : goal.returns-in-Sum-clause-place
returns-in-Sum-clause-place c = λ answers made.
    let at = found_at c.args.calls.now c.args.index c.in-Some.call.now c.in-Some.ensures.lookup.0 c.in-Some.ensures.lookup.1 in
    c.sum_place.ensures.place (was_freed (answers_in (map answer_of c.args.opening.now) answers c.in-Sum.target) c.in-Sum.target.call) (c.outcome_of-in-Sum.ensures.freed answers made (subst (IsSoundCall c.args.index) c.in-Sum.is (c.requires.sound c.args.index c.in-Some.call.now at))) ∙ ap (begin_sum (was_freed (answers_in (map answer_of c.args.opening.now) answers c.in-Sum.target) c.in-Sum.target.call) c.in-Sum.index) (c.outcome_of-in-Sum.ensures.made answers made) ∙ sym (ap (begin_call (setup_of c.args.config.now) (map answer_of c.args.opening.now) answers) c.in-Sum.is) ∙ ap (begin (setup_of c.args.config.now) (map answer_of c.args.opening.now) answers) (sym at)

pub returns-in-Balance-clause-place : goal.returns-in-Balance-clause-place
returns-in-Balance-clause-place c = λ answers made.
    let at = found_at c.args.calls.now c.args.index c.in-Some.call.now c.in-Some.ensures.lookup.0 c.in-Some.ensures.lookup.1 in
    sym (ap (begin_call (setup_of c.args.config.now) (map answer_of c.args.opening.now) answers) c.in-Balance.is) ∙ ap (begin (setup_of c.args.config.now) (map answer_of c.args.opening.now) answers) (sym at)

pub overflow_cast-cpu : goal.overflow_cast-cpu
overflow_cast-cpu c =
    let at = found_at c.args.calls.now c.args.index c.in-Some.call.now c.in-Some.ensures.lookup.0 c.in-Some.ensures.lookup.1 in
    let low = (subst (IsSoundCall c.args.index) c.in-MapRam.is (c.requires.sound c.args.index c.in-Some.call.now at)) in
    omega arith

pub overflow_cast-cpu-in-Add : goal.overflow_cast-cpu-in-Add
overflow_cast-cpu-in-Add c =
    let at = found_at c.args.calls.now c.args.index c.in-Some.call.now c.in-Some.ensures.lookup.0 c.in-Some.ensures.lookup.1 in
    let low = (subst (IsSoundCall c.args.index) c.in-Add.is (c.requires.sound c.args.index c.in-Some.call.now at)).1 in
    omega arith
