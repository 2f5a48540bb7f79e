use Rattle.std.proofs.Common.{None, IfSome, IfNone, OnErr, Ok, Err, Bool, ◌≡◌, true, refl, sym, ◌∙◌, ap, subst, arith, List}
use Rattle.vm_model.specs.declared.areas.Span.{Span}
use Rattle.vm_model.specs.Space.{holds, lowest, paint, runs}
use Rattle.vm_model.specs.Events.{ForPages}
use Rattle.vm_model.specs.Places as model
use Rattle.vm_model.specs.Places.{SearchAgain, MadeNothing, ask}
use Rattle.vm_model.specs.Next.{Go, with_span}
use Rattle.vm_model.specs.Parts.{FreeRuns}
use Rattle.augmented_tree.specs.FreeBlocks.{FreeBlocks, AreFreeRuns}
use Rattle.callers.specs.CarriedPlaces.{aim_of, place_of, nothing}
use Rattle.section_core.specs.MadeSections.{IsMoved, TakesMemory}
use Rattle.section_core.proofs.FreeSections.{finds, finds_none, finds_with_memory, chosen, chosen_none, found_within}
use Rattle.section_core.proofs.areas.find.Goals as goal

pub place_for-requires-clause-carved : goal.place_for-requires-clause-carved
place_for-requires-clause-carved c =
    let is = chosen c.args.search.pages (lowest c.requires.stands.runs.0 c.args.search.pages c.args.search.align) c.in_ok-span.field-0 c.in-Some.span (c.in_ok-span.ensures.place c.requires.stands.runs.0 c.requires.stands.runs.2) c.in-Some.is in
    let pages : c.in-Some.span.pages ≡ c.args.search.pages = ap (λ (s : Span). s.pages) is.1 in
    let within = found_within c.requires.stands.runs.0 c.args.search.pages c.args.search.align c.in-Some.span.start is.0 in
    let some = c.requires.at.sized.pages in let wide = c.requires.stands.runs.1 in let space = c.requires.at.setup.space_high in
    record { pages = omega arith; within = omega arith }

pub returns-in-Some-clause-ok : goal.returns-in-Some-clause-ok
returns-in-Some-clause-ok c =
    let is = chosen c.args.search.pages (lowest c.requires.stands.runs.0 c.args.search.pages c.args.search.align) c.in_ok-span.field-0 c.in-Some.span (c.in_ok-span.ensures.place c.requires.stands.runs.0 c.requires.stands.runs.2) c.in-Some.is in
    subst (λ blocks. IsMoved c.args.local.now (FreeRuns blocks) c.go.new.self (FreeRuns c.carve.new.self.blocks)) (sym c.requires.stands.runs.2)
    (finds c.args.local.now c.requires.stands.runs.0 c.requires.stands.runs.1 c.args.search.pages c.args.search.align (model.Finding (ForPages c.args.search.pages c.args.search.align) (aim_of c.args.search.aim)) c.requires.at.place refl
    (Go (place_of c.place_for.result nothing)) c.go.new.self c.go.ensures c.in-Some.span.start c.carve.new.self.blocks is.0 (ap (with_span (aim_of c.args.search.aim)) (sym is.1) ∙ sym c.place_for.ensures.place)
    (subst (λ o. IfSome o (λ place. (taken : List Bool) → AreFreeRuns c.args.free.now taken → AreFreeRuns c.carve.new.self (paint (holds place) true taken))) c.in-Some.is c.in_ok-span.ensures.carved c.requires.stands.runs.0 c.requires.stands.runs.2
    ∙ ap (λ (s : Span). runs (paint (holds s) true c.requires.stands.runs.0)) is.1))

pub returns-in-None-clause-ok : goal.returns-in-None-clause-ok
returns-in-None-clause-ok c =
    let none = chosen_none c.args.search.pages (lowest c.requires.stands.runs.0 c.args.search.pages c.args.search.align) c.in_ok-span.field-0 (c.in_ok-span.ensures.place c.requires.stands.runs.0 c.requires.stands.runs.2) c.in-None.is in
    subst (λ blocks. IsMoved c.args.local.now (FreeRuns c.args.free.now.blocks) c.go-in-None.new.self (FreeRuns blocks)) (sym (ap (λ (side : FreeBlocks). side.blocks) (subst (λ o. IfNone o (c.carve.new.self ≡ c.args.free.now)) c.in-None.is c.in_ok-span.ensures.none)))
    (subst (λ blocks. IsMoved c.args.local.now (FreeRuns blocks) c.go-in-None.new.self (FreeRuns blocks)) (sym c.requires.stands.runs.2)
    (finds_none c.args.local.now c.requires.stands.runs.0 c.requires.stands.runs.1 c.args.search.pages c.args.search.align (model.Finding (ForPages c.args.search.pages c.args.search.align) (aim_of c.args.search.aim)) c.requires.at.place refl
    (Go (model.PurgeTaking None (SearchAgain (ForPages c.args.search.pages c.args.search.align) (aim_of c.args.search.aim)))) c.go-in-None.new.self c.go-in-None.ensures none refl))

pub returns-in_err-span-clause-memory : goal.returns-in_err-span-clause-memory
returns-in_err-span-clause-memory c =
    elim c.from_residual.result as (λ r. OnErr r (TakesMemory c.args.local.now (FreeRuns c.args.free.now.blocks))) [
      | Ok done ↦ tt
      | Err e ↦ subst (λ blocks. TakesMemory c.args.local.now (FreeRuns blocks)) (sym c.requires.stands.runs.2)
          (finds_with_memory c.args.local.now c.requires.stands.runs.0 c.requires.stands.runs.1 c.args.search.pages c.args.search.align (ap (ask c.args.local.now.setup) c.requires.at.place) (c.in_err-span.ensures.fits c.requires.stands.runs.0 c.requires.stands.runs.2))
    ]
