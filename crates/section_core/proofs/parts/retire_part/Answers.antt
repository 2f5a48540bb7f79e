use Rattle.std.proofs.Common.{if◌then◌else◌, sym, ◌∙◌, ap, subst}
use Rattle.vm_model.specs.Places as model
use Rattle.vm_model.specs.Places.{MadeNothing}
use Rattle.vm_model.specs.Next.{Go, Answer}
use Rattle.map_blocks.specs.BlockRows.{at_of}
use Rattle.section_core.specs.RegionSides.{blocks_region}
use Rattle.section_core.specs.MadeSections.{IsMoved}
use Rattle.section_core.proofs.BlockSections.{retires}
use Rattle.section_core.proofs.parts.retire_part.Goals as goal

pub returns-in-Some : goal.returns-in-Some
returns-in-Some c =
    subst (λ s. IsMoved c.args.local.now (blocks_region c.args.blocks.now) c.go.new.self (blocks_region s)) (sym c.retire.ensures.ended)
    (retires c.args.local.now c.args.blocks.now c.requires.stands.own (at_of c.args.blocks.now.cpu c.args.part) c.args.reply (Go (model.UnlinkingBlock c.in-Some.start c.args.reply)) c.go.new.self
    (c.requires.at.place ∙ ap (λ n. model.Retiring (at_of n c.args.part) c.args.reply) c.requires.stands.cpu)
    (ap (λ spent. if spent then Go (model.UnlinkingBlock c.args.part.block c.args.reply) else Answer c.args.reply MadeNothing) c.in-Some.ensures.some
    ∙ ap (λ start. Go (model.UnlinkingBlock start c.args.reply)) (sym c.in-Some.ensures.start)) c.go.ensures)

pub returns-in-None : goal.returns-in-None
returns-in-None c =
    subst (λ s. IsMoved c.args.local.now (blocks_region c.args.blocks.now) c.answer.new.self (blocks_region s)) (sym c.retire.ensures.ended)
    (retires c.args.local.now c.args.blocks.now c.requires.stands.own (at_of c.args.blocks.now.cpu c.args.part) c.args.reply (Answer c.args.reply MadeNothing) c.answer.new.self
    (c.requires.at.place ∙ ap (λ n. model.Retiring (at_of n c.args.part) c.args.reply) c.requires.stands.cpu)
    (ap (λ spent. if spent then Go (model.UnlinkingBlock c.args.part.block c.args.reply) else Answer c.args.reply MadeNothing) c.in-None.ensures.none) c.answer.ensures)
