use Rattle.std.proofs.Common.{Ok, Err, OnErr}
use Rattle.section_core.specs.RegionSides.{percpu_region}
use Rattle.section_core.specs.MadeSections.{TakesMemory}
use Rattle.section_core.proofs.ChunkSections.{sized, adds_chunk, adds_with_memory}
use Rattle.section_core.proofs.objects.add_chunk.Goals as goal

pub returns-in_err-placed-clause-memory : goal.returns-in_err-placed-clause-memory
returns-in_err-placed-clause-memory c =
    elim c.from_residual.result as (λ r. OnErr r (TakesMemory c.args.local.now (percpu_region c.args.percpu.now))) [
      | Ok done ↦ tt
      | Err e ↦ adds_with_memory c.args.local.now c.args.percpu.now c.args.base c.args.wanted.number c.args.wanted.object.bytes c.args.wanted.object.align c.requires.at.place c.requires.stands.ready.2 c.requires.at.setup.unit_low c.requires.stands.ready.0
    ]

pub returns-clause-ok : goal.returns-clause-ok
returns-clause-ok c =
    adds_chunk c.args.local.now c.args.percpu.now c.go.new.self c.add_chunk_and_place.new.self c.set_unit_pages.new.self (sized c.args.local.now.setup _ c.unit_pages.result c.args.percpu.now c.set_unit_pages.new.self c.unit_pages.ensures c.config.ensures c.set_unit_pages.ensures)
    c.args.base c.args.wanted.number c.args.wanted.object.bytes c.args.wanted.object.align c.caller.result c.in_ok-placed.placed c.requires.at.place c.requires.stands.ready.2 c.caller.ensures c.in_ok-placed.ensures.place c.in_ok-placed.ensures.held c.go.ensures
