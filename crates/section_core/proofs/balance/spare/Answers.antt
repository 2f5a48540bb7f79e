use Rattle.section_core.proofs.ChunkSections.{sized, spares, spares_none}
use Rattle.section_core.proofs.balance.spare.Goals as goal

pub returns-in-Some : goal.returns-in-Some
returns-in-Some c =
    spares c.args.local.now c.args.percpu.now c.go.new.self c.take_spare_chunk.new.side c.set_unit_pages.new.self (sized c.args.local.now.setup _ c.unit_pages.result c.args.percpu.now c.set_unit_pages.new.self c.unit_pages.ensures c.config.ensures c.set_unit_pages.ensures)
    c.take_spare_chunk.result c.in-Some.spare c.requires.at.place c.take_spare_chunk.ensures.spare c.take_spare_chunk.ensures.gone c.in-Some.is c.go.ensures

pub returns-in-None : goal.returns-in-None
returns-in-None c =
    spares_none c.args.local.now c.args.percpu.now c.go-in-None.new.self c.take_spare_chunk.new.side c.set_unit_pages.new.self (sized c.args.local.now.setup _ c.unit_pages.result c.args.percpu.now c.set_unit_pages.new.self c.unit_pages.ensures c.config.ensures c.set_unit_pages.ensures)
    c.take_spare_chunk.result c.requires.at.place c.take_spare_chunk.ensures.spare c.take_spare_chunk.ensures.unchanged c.in-None.is c.go-in-None.ensures
