use Rattle.std.proofs.Common.{IfSome, IfNone, [], ◌∷◌, ◌≡◌, sym, ◌∙◌, ap, subst}
use Rattle.vm_model.specs.Places as model
use Rattle.vm_model.specs.Next.{Go}
use Rattle.vm_model.specs.History.{moved_to}
use Rattle.map_blocks.specs.declared.part.Part.{Part}
use Rattle.map_blocks.specs.BlockRows as rows
use Rattle.map_blocks.specs.BlockRows.{BlockRows, at_of, with_cut, with_block, with_held}
use Rattle.section_core.specs.RegionSides.{blocks_region}
use Rattle.section_core.specs.MadeSections.{IsMoved}
use Rattle.section_core.proofs.BlockSections.{begins, begins_none}
use Rattle.section_core.proofs.parts.begin_unmap.Goals as goal

pub returns-in-Some : goal.returns-in-Some
returns-in-Some c =
    let found = subst (λ o. IfSome o (λ (part : Part). rows.named_parts c.args.page c.args.serial c.args.blocks.now ≡ at_of c.args.blocks.now.cpu part ∷ [])) c.in-Some.is c.begin_unmap.ensures.place in
    let left = subst (λ o. IfSome o (λ (part : Part). c.begin_unmap.new.self ≡ with_held c.caller.result (at_of c.args.blocks.now.cpu part) c.args.blocks.now)) c.in-Some.is c.begin_unmap.ensures.held in
    subst (λ s. IsMoved c.args.local.now (blocks_region c.args.blocks.now) c.go.new.self (blocks_region s)) (sym (left ∙ ap (λ k. with_held k (at_of c.args.blocks.now.cpu c.in-Some.part) c.args.blocks.now) c.caller.ensures))
    (begins c.args.local.now c.args.blocks.now c.requires.stands.own c.args.page c.args.serial (at_of c.args.blocks.now.cpu c.in-Some.part) c.go.new.self (c.requires.at.place ∙ ap (λ n. model.BeginningUnmap n c.args.page c.args.serial) c.requires.stands.cpu) found
    (c.go.ensures ∙ ap (λ n. moved_to c.args.local.now (Go (model.UnmappingPart (at_of n c.in-Some.part)))) c.requires.stands.cpu))

pub returns-in-None : goal.returns-in-None
returns-in-None c =
    let none = subst (λ o. IfNone o (rows.named_parts c.args.page c.args.serial c.args.blocks.now ≡ [])) c.in-None.is c.begin_unmap.ensures.none in
    let same = subst (λ o. IfNone o (c.begin_unmap.new.self ≡ c.args.blocks.now)) c.in-None.is c.begin_unmap.ensures.unchanged in
    subst (λ s. IsMoved c.args.local.now (blocks_region c.args.blocks.now) c.answer.new.self (blocks_region s)) (sym same)
    (begins_none c.args.local.now c.args.blocks.now c.requires.stands.own c.args.page c.args.serial c.answer.new.self (c.requires.at.place ∙ ap (λ n. model.BeginningUnmap n c.args.page c.args.serial) c.requires.stands.cpu) none c.answer.ensures)
