use Rattle.std.proofs.Common.{refl}
use Rattle.section_core.proofs.ChunkSections.{sized, fills, fills_none}
use Rattle.section_core.proofs.balance.next_page.Goals as goal

pub returns-in-Some : goal.returns-in-Some
returns-in-Some c =
    fills c.args.local.now c.args.percpu.now c.go.new.self c.set_unit_pages.new.self c.set_unit_pages.new.self (sized c.args.local.now.setup _ c.unit_pages.result c.args.percpu.now c.set_unit_pages.new.self c.unit_pages.ensures c.config.ensures c.set_unit_pages.ensures)
    c.args.filled c.next_page.result c.next_page.ensures c.requires.at.place refl c.in-Some.next c.in-Some.is c.go.ensures

pub returns-in-None : goal.returns-in-None
returns-in-None c =
    fills_none c.args.local.now c.args.percpu.now c.go-in-None.new.self c.set_unit_pages.new.self c.set_unit_pages.new.self (sized c.args.local.now.setup _ c.unit_pages.result c.args.percpu.now c.set_unit_pages.new.self c.unit_pages.ensures c.config.ensures c.set_unit_pages.ensures)
    c.args.filled c.next_page.result c.next_page.ensures c.requires.at.place refl c.in-None.is c.go-in-None.ensures
