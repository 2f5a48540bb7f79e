use Rattle.std.proofs.Common.{sym, ◌∙◌, ap, subst, refl}
use Rattle.vm_model.specs.Places as model
use Rattle.vm_model.specs.History.{moved_to}
use Rattle.map_blocks.specs.BlockRows.{at_of}
use Rattle.section_core.specs.RegionSides.{blocks_region}
use Rattle.section_core.specs.MadeSections.{IsMoved}
use Rattle.std.proofs.Common.{◌+◌}
use Rattle.vm_model.specs.Next.{Answer}
use Rattle.vm_model.specs.Places.{MadePart}
use Rattle.vm_model.specs.Space.{address_of}
use Rattle.vm_model.specs.declared.calls.Reply.TheVariants as reply
use Rattle.section_core.proofs.BlockSections.{settles}
use Rattle.section_core.proofs.parts.settle_part.Goals as goal

pub returns : goal.returns
returns c =
    subst (λ s. IsMoved c.args.local.now (blocks_region c.args.blocks.now) c.answer.new.self (blocks_region s)) (sym c.settle-serial.ensures.settled)
    (settles c.args.local.now c.args.blocks.now c.requires.stands.own (at_of c.args.blocks.now.cpu c.args.part) c.answer.new.self refl (c.requires.at.place ∙ ap (λ n. model.SettlingPart (at_of n c.args.part)) c.requires.stands.cpu)
    (c.answer.ensures ∙ ap (λ a. moved_to c.args.local.now (Answer (reply.Address a) (MadePart c.args.cpu (c.args.part.block + c.args.part.offset) c.settle-serial.result))) c.address_of.ensures
    ∙ ap (λ n. moved_to c.args.local.now (Answer (reply.Address (address_of (c.args.part.block + c.args.part.offset))) (MadePart n (c.args.part.block + c.args.part.offset) c.settle-serial.result))) c.requires.stands.cpu
    ∙ ap (λ n. moved_to c.args.local.now (Answer (reply.Address (address_of (c.args.part.block + c.args.part.offset))) (MadePart c.args.blocks.now.cpu (c.args.part.block + c.args.part.offset) n))) c.settle-serial.ensures.serial))
