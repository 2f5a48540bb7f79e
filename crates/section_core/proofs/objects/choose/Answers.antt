use Rattle.section_core.proofs.ChunkSections.{sized, places, places_none}
use Rattle.section_core.proofs.objects.choose.Goals as goal

pub returns-in-Some : goal.returns-in-Some
returns-in-Some c =
    places c.args.local.now c.args.percpu.now c.go.new.self c.place.new.self c.set_unit_pages.new.self (sized c.args.local.now.setup _ c.unit_pages.result c.args.percpu.now c.set_unit_pages.new.self c.unit_pages.ensures c.config.ensures c.set_unit_pages.ensures)
    c.args.object.bytes c.args.object.align c.caller.result c.place.result c.caller.ensures c.in-Some.placed c.requires.at.place c.place.ensures.place c.place.ensures.held c.in-Some.is c.go.ensures

pub returns-in-None : goal.returns-in-None
returns-in-None c =
    places_none c.args.local.now c.args.percpu.now c.go-in-None.new.self c.place.new.self c.set_unit_pages.new.self (sized c.args.local.now.setup _ c.unit_pages.result c.args.percpu.now c.set_unit_pages.new.self c.unit_pages.ensures c.config.ensures c.set_unit_pages.ensures)
    c.args.object.bytes c.args.object.align c.caller.result c.place.result c.caller.ensures c.next_chunk.result c.requires.at.place c.place.ensures.place c.place.ensures.unchanged c.in-None.is c.next_chunk.ensures c.go-in-None.ensures
