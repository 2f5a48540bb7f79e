use Rattle.std.proofs.Common.{◌≡◌, ap, ◌∙◌, subst, arith}
use Rattle.vm_model.specs.History.{Local}
use Rattle.vm_model.specs.Parts.{Region}
use Rattle.section_laws.specs.MovesInTurn.{reach}
use Rattle.section_laws.proofs.KeptLawful.{reach_kept}
use Rattle.section_core.specs.MadeSections.{Answers}
use Rattle.caller_threads.proofs.parts.CorePartsParts.section.Goals as goal

pub returns-in-Moved-clause-reach : goal.returns-in-Moved-clause-reach
returns-in-Moved-clause-reach c =
    let moved = subst (Answers c.args.local.now c.args.region.now c.section.new.local c.section.new.region) c.in-Moved.is c.in_ok-section.ensures.answer in
    let same : reach c.section.new.local ≡ reach c.args.local.now = ap (λ (both : Local × Region). reach both.0) moved.leaves ∙ reach_kept c.args.local.now c.args.region.now c.requires moved.moves in
    omega arith
