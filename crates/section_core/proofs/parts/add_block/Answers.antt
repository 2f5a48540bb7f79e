use Rattle.std.proofs.Common.{◌≡◌, sym, ◌∙◌, ap, subst, refl}
use Rattle.vm_model.specs.Places as model
use Rattle.vm_model.specs.Next.{Go}
use Rattle.vm_model.specs.History.{moved_to}
use Rattle.map_blocks.specs.BlockRows.{at_of, with_block}
use Rattle.section_core.specs.RegionSides.{blocks_region}
use Rattle.section_core.specs.MadeSections.{IsMoved}
use Rattle.section_core.proofs.BlockSections.{adds}
use Rattle.section_core.proofs.parts.add_block.Goals as goal

pub returns-clause-ok : goal.returns-clause-ok
returns-clause-ok c =
    let at : at_of c.args.blocks.now.cpu c.in_ok-part.part ≡ record { cpu = c.args.cpu; block = c.args.start; offset = 0; pages = c.args.pages }
    = ap (λ n. at_of n c.in_ok-part.part) (sym c.requires.stands.cpu) ∙ ap (at_of c.args.cpu) c.in_ok-part.ensures.part in
    subst (λ s. IsMoved c.args.local.now (blocks_region c.args.blocks.now) c.go.new.self (blocks_region s)) (sym (c.in_ok-part.ensures.added ∙ ap (λ k. with_block k (at_of c.args.blocks.now.cpu c.in_ok-part.part) c.args.blocks.now) c.caller.ensures))
    (adds c.args.local.now c.args.blocks.now c.requires.stands.own (at_of c.args.blocks.now.cpu c.in_ok-part.part) c.go.new.self refl (c.requires.at.place ∙ ap model.AddingBlock (sym at))
    (c.go.ensures ∙ ap (λ n. moved_to c.args.local.now (Go (model.MappingPart (at_of n c.in_ok-part.part)))) c.requires.stands.cpu))
