use Rattle.section_core.proofs.ChunkSections.{sized, places_atomic, places_no_atomic}
use Rattle.section_core.proofs.objects.choose_atomic.Goals as goal

pub returns-in-Some : goal.returns-in-Some
returns-in-Some c =
    places_atomic c.args.local.now c.args.percpu.now c.go.new.self c.place_atomic.new.self c.set_unit_pages.new.self (sized c.args.local.now.setup _ c.unit_pages.result c.args.percpu.now c.set_unit_pages.new.self c.unit_pages.ensures c.config.ensures c.set_unit_pages.ensures)
    c.args.object.bytes c.args.object.align c.caller.result c.place_atomic.result c.caller.ensures c.in-Some.placed c.requires.at.place c.place_atomic.ensures.place c.place_atomic.ensures.held c.in-Some.is c.go.ensures

pub returns-in-None : goal.returns-in-None
returns-in-None c =
    places_no_atomic c.args.local.now c.args.percpu.now c.answer.new.self c.place_atomic.new.self c.set_unit_pages.new.self (sized c.args.local.now.setup _ c.unit_pages.result c.args.percpu.now c.set_unit_pages.new.self c.unit_pages.ensures c.config.ensures c.set_unit_pages.ensures)
    c.args.object.bytes c.args.object.align c.caller.result c.place_atomic.result c.caller.ensures c.requires.at.place c.place_atomic.ensures.place c.place_atomic.ensures.unchanged c.in-None.is c.answer.ensures
