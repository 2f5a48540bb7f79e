use Rattle.std.proofs.Common.{OnErr, Ok, Err, refl, ap}
use Rattle.vm_model.specs.Events.{ForGroups}
use Rattle.vm_model.specs.Places as model
use Rattle.vm_model.specs.declared.calls.Reply.TheVariants as reply
use Rattle.vm_model.specs.Places.{MadeNothing, ask}
use Rattle.vm_model.specs.Next.{Go}
use Rattle.vm_model.specs.Parts.{FreeRuns}
use Rattle.callers.specs.CarriedPlaces.{aim_at}
use Rattle.section_core.specs.MadeSections.{TakesMemory}
use Rattle.section_core.proofs.GroupSections.{has_groups, laid_out, carves, carves_none, carves_with_memory}
use Rattle.section_core.proofs.groups.find_groups_again.Goals as goal

pub carve_groups-requires-clause-groups : goal.carve_groups-requires-clause-groups
carve_groups-requires-clause-groups c =
    laid_out c.args.local.now.setup c.groups.result.now c.atom.result c.requires.at.setup (has_groups c.args.local.now.setup c.config.result.now c.groups.result.now c.atom.result c.config.ensures c.groups.ensures c.atom.ensures)

pub returns-in-Some-clause-ok : goal.returns-in-Some-clause-ok
returns-in-Some-clause-ok c =
    let has = has_groups c.args.local.now.setup c.config.result.now c.groups.result.now c.atom.result c.config.ensures c.groups.ensures c.atom.ensures in
    carves c.args.local.now c.groups.result.now c.atom.result has c.args.free.now c.carve_groups.new.free c.requires.stands.runs (model.FindingAgain ForGroups (aim_at c.args.wanted)) c.requires.at.place refl
    c.in_ok-bundle.field-0 c.in_ok-bundle.ensures.base (Go (model.SettlingGroups c.in-Some.bundle.base c.args.wanted.number c.args.wanted.object.bytes c.args.wanted.object.align)) c.go.new.self c.go.ensures c.in-Some.bundle c.in-Some.is
    c.in_ok-bundle.ensures.spans c.in_ok-bundle.ensures.carved refl

pub returns-in-None-clause-ok : goal.returns-in-None-clause-ok
returns-in-None-clause-ok c =
    let has = has_groups c.args.local.now.setup c.config.result.now c.groups.result.now c.atom.result c.config.ensures c.groups.ensures c.atom.ensures in
    carves_none c.args.local.now c.groups.result.now c.atom.result has c.args.free.now c.carve_groups.new.free c.requires.stands.runs (model.FindingAgain ForGroups (aim_at c.args.wanted)) c.requires.at.place refl
    c.in_ok-bundle.field-0 c.in_ok-bundle.ensures.base (Go (model.GivingAlloc reply.NoSpace MadeNothing)) c.go-in-None.new.self c.go-in-None.ensures c.in-None.is c.in_ok-bundle.ensures.unchanged refl

pub returns-in_err-bundle-clause-memory : goal.returns-in_err-bundle-clause-memory
returns-in_err-bundle-clause-memory c =
    let has = has_groups c.args.local.now.setup c.config.result.now c.groups.result.now c.atom.result c.config.ensures c.groups.ensures c.atom.ensures in
    elim c.from_residual.result as (λ r. OnErr r (TakesMemory c.args.local.now (FreeRuns c.args.free.now.blocks))) [
      | Ok done ↦ tt
      | Err e ↦ carves_with_memory c.args.local.now c.groups.result.now c.atom.result has c.args.free.now c.carve_groups.new.free c.requires.stands.runs (ap (ask c.args.local.now.setup) c.requires.at.place) c.in_err-bundle.ensures.fits
    ]
