use Rattle.std.proofs.Common.{◌-◌, if◌then◌else◌, option_map, map, slice_get, sym, ◌∙◌, ap}
use Rattle.std.proofs.lemmas.Option.{slice_get-map}
use Rattle.vm_model.specs.Calls.{made_in, was_freed}
use Rattle.callers.specs.declared.answers.Answered.{Answered as Code}
use Rattle.callers.specs.declared.answers.Outcome.{Outcome}
use Rattle.callers.specs.CarriedPlaces.{made_of}
use Rattle.callers.specs.CallerParts.{answer_of}
use Rattle.callers.proofs.Lookups.{found_at, none_at}
use Rattle.callers.proofs.FreedTold.{freed_named}
use Rattle.callers.proofs.AnswersGiven.{made_or, made_by_own, made_by_opening}
use Rattle.callers.proofs.begin.outcome_of.Goals as goal

-- by the opening's answers
pub returns-in-Some-clause-made : goal.returns-in-Some-clause-made
returns-in-Some-clause-made c = λ answers made.
    let at = found_at c.args.opening.now c.saturating_sub-index.result c.in-Some.answered.now c.in-Some.ensures.lookup.0 c.in-Some.ensures.lookup.1 in
    sym (ap (λ b. made_in (slice_get (if b then map answer_of c.args.opening.now else answers) (c.args.target.call - 1))) c.if-target.true ∙ made_by_opening c.args.opening.now (c.args.target.call - 1)
    ∙ ap (λ i. made_or (option_map (λ (a : Code). made_of a.outcome.made) (slice_get c.args.opening.now i))) (sym c.saturating_sub-index.ensures) ∙ ap (λ o. made_or (option_map (λ (a : Code). made_of a.outcome.made) o)) at)

pub returns-in-Some-clause-freed : goal.returns-in-Some-clause-freed
returns-in-Some-clause-freed c = λ answers made named some.
    let at = found_at c.args.opening.now c.saturating_sub-index.result c.in-Some.answered.now c.in-Some.ensures.lookup.0 c.in-Some.ensures.lookup.1 in
    freed_named (map (λ (a : Code). a.outcome) c.args.opening.now) (map answer_of c.args.opening.now) c.args.target.call c.in-Some.answered.now.outcome c.requires.opening
    (slice_get-map (λ (a : Code). a.outcome) c.args.opening.now (c.args.target.call - 1) ∙ ap (option_map (λ (a : Code). a.outcome)) (ap (slice_get c.args.opening.now) (sym c.saturating_sub-index.ensures) ∙ at)) named
    ∙ ap (λ b. was_freed (if b then map answer_of c.args.opening.now else answers) c.args.target.call) (sym c.if-target.true)

pub returns-in-None-clause-made : goal.returns-in-None-clause-made
returns-in-None-clause-made c = λ answers made.
    let at = none_at c.args.opening.now c.saturating_sub-index.result c.in-None.ensures.lookup.0 in
    sym (ap (λ b. made_in (slice_get (if b then map answer_of c.args.opening.now else answers) (c.args.target.call - 1))) c.if-target.true ∙ made_by_opening c.args.opening.now (c.args.target.call - 1)
    ∙ ap (λ i. made_or (option_map (λ (a : Code). made_of a.outcome.made) (slice_get c.args.opening.now i))) (sym c.saturating_sub-index.ensures) ∙ ap (λ o. made_or (option_map (λ (a : Code). made_of a.outcome.made) o)) at)

-- by the caller's own
pub returns-in-Some-get-clause-made : goal.returns-in-Some-get-clause-made
returns-in-Some-get-clause-made c = λ answers made.
    let at = found_at c.args.own.now c.saturating_sub-index.result c.in-Some-get.outcome.now c.in-Some-get.ensures.lookup.0 c.in-Some-get.ensures.lookup.1 in
    sym (ap (λ b. made_in (slice_get (if b then map answer_of c.args.opening.now else answers) (c.args.target.call - 1))) c.if-target.false ∙ made_by_own c.args.own.now answers (c.args.target.call - 1) made
    ∙ ap (λ i. made_or (option_map (λ (o : Outcome). made_of o.made) (slice_get c.args.own.now i))) (sym c.saturating_sub-index.ensures) ∙ ap (λ o. made_or (option_map (λ (o : Outcome). made_of o.made) o)) at)

pub returns-in-Some-get-clause-freed : goal.returns-in-Some-get-clause-freed
returns-in-Some-get-clause-freed c = λ answers made named some.
    let at = found_at c.args.own.now c.saturating_sub-index.result c.in-Some-get.outcome.now c.in-Some-get.ensures.lookup.0 c.in-Some-get.ensures.lookup.1 in
    freed_named c.args.own.now answers c.args.target.call c.in-Some-get.outcome.now made.freed (ap (slice_get c.args.own.now) (sym c.saturating_sub-index.ensures) ∙ at) named
    ∙ ap (λ b. was_freed (if b then map answer_of c.args.opening.now else answers) c.args.target.call) (sym c.if-target.false)

pub returns-in-None-get-clause-made : goal.returns-in-None-get-clause-made
returns-in-None-get-clause-made c = λ answers made.
    let at = none_at c.args.own.now c.saturating_sub-index.result c.in-None-get.ensures.lookup.0 in
    sym (ap (λ b. made_in (slice_get (if b then map answer_of c.args.opening.now else answers) (c.args.target.call - 1))) c.if-target.false ∙ made_by_own c.args.own.now answers (c.args.target.call - 1) made
    ∙ ap (λ i. made_or (option_map (λ (o : Outcome). made_of o.made) (slice_get c.args.own.now i))) (sym c.saturating_sub-index.ensures) ∙ ap (λ o. made_or (option_map (λ (o : Outcome). made_of o.made) o)) at)
