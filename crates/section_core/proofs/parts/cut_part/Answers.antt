use Rattle.std.proofs.Common.{IfSome, IfNone, ◌≡◌, Some, None, sym, ◌∙◌, ap, subst}
use Rattle.vm_model.specs.Places as model
use Rattle.vm_model.specs.Events.{ForPages}
use Rattle.vm_model.specs.Places.{ForBlock}
use Rattle.vm_model.specs.Next.{Go}
use Rattle.vm_model.specs.History.{moved_to}
use Rattle.map_blocks.specs.declared.part.Part.{Part}
use Rattle.map_blocks.specs.BlockRows as rows
use Rattle.map_blocks.specs.BlockRows.{BlockRows, at_of, with_cut, with_block, with_held}
use Rattle.section_core.specs.RegionSides.{blocks_region}
use Rattle.section_core.specs.MadeSections.{IsMoved}
use Rattle.section_core.proofs.BlockSections.{cuts, cuts_none}
use Rattle.section_core.proofs.parts.cut_part.Goals as goal

pub returns-in-Some : goal.returns-in-Some
returns-in-Some c =
    let found = subst (λ o. IfSome o (λ (part : Part). rows.part_to_cut c.args.pages c.args.blocks.now ≡ Some (at_of c.args.blocks.now.cpu part))) c.in-Some.is c.take_part.ensures.place in
    let left = subst (λ o. IfSome o (λ (part : Part). c.take_part.new.self ≡ with_cut c.caller.result (at_of c.args.blocks.now.cpu part) c.args.blocks.now)) c.in-Some.is c.take_part.ensures.cut in
    subst (λ s. IsMoved c.args.local.now (blocks_region c.args.blocks.now) c.go.new.self (blocks_region s)) (sym (left ∙ ap (λ k. with_cut k (at_of c.args.blocks.now.cpu c.in-Some.part) c.args.blocks.now) c.caller.ensures))
    (cuts c.args.local.now c.args.blocks.now c.requires.stands.own c.args.pages (at_of c.args.blocks.now.cpu c.in-Some.part) c.go.new.self (c.requires.at.place ∙ ap (λ n. model.CuttingPart n c.args.pages) c.requires.stands.cpu) found
    (c.go.ensures ∙ ap (λ n. moved_to c.args.local.now (Go (model.MappingPart (at_of n c.in-Some.part)))) c.requires.stands.cpu))

pub returns-in-None : goal.returns-in-None
returns-in-None c =
    let none = subst (λ o. IfNone o (rows.part_to_cut c.args.pages c.args.blocks.now ≡ None)) c.in-None.is c.take_part.ensures.none in
    let same = subst (λ o. IfNone o (c.take_part.new.self ≡ c.args.blocks.now)) c.in-None.is c.take_part.ensures.unchanged in
    subst (λ s. IsMoved c.args.local.now (blocks_region c.args.blocks.now) c.go-in-None.new.self (blocks_region s)) (sym same)
    (cuts_none c.args.local.now c.args.blocks.now c.requires.stands.own c.args.pages c.go-in-None.new.self (c.requires.at.place ∙ ap (λ n. model.CuttingPart n c.args.pages) c.requires.stands.cpu) none
    (c.go-in-None.ensures ∙ ap (λ n. moved_to c.args.local.now (Go (model.Finding (ForPages n c.block_pages-in-None.result) (ForBlock c.args.cpu c.args.pages)))) c.block_pages.ensures
    ∙ ap (λ n. moved_to c.args.local.now (Go (model.Finding (ForPages c.args.local.now.setup.block_pages n) (ForBlock c.args.cpu c.args.pages)))) c.block_pages-in-None.ensures
    ∙ ap (λ n. moved_to c.args.local.now (Go (model.Finding (ForPages c.args.local.now.setup.block_pages c.args.local.now.setup.block_pages) (ForBlock n c.args.pages)))) c.requires.stands.cpu))
