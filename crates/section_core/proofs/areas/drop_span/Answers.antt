use Rattle.std.proofs.Common.{◌∷◌, [], false, length, refl, sym, ◌∙◌, ap, subst, arith}
use Rattle.vm_model.specs.declared.calls.Reply.TheVariants as reply
use Rattle.vm_model.specs.Space.{holds, covers, runs}
use Rattle.vm_model.specs.Places.{MadeNothing}
use Rattle.vm_model.specs.Next.{Answer}
use Rattle.vm_model.specs.Parts.{FreeRuns}
use Rattle.vm_model.proofs.PaintRuns.{same_paint}
use Rattle.map_laws.proofs.TestsAndFilters.{covers_one}
use Rattle.section_core.specs.MadeSections.{IsMoved}
use Rattle.section_core.proofs.FreeSections.{drops, all_one}
use Rattle.section_core.proofs.areas.drop_span.Goals as goal

pub returns-clause-ok : goal.returns-clause-ok
returns-clause-ok c =
    let within = c.requires.stands.dropped.within in
    let wide = c.requires.stands.runs.1 in
    subst (λ blocks. IsMoved c.args.local.now (FreeRuns blocks) c.answer.new.self (FreeRuns c.release_all.new.self.blocks)) (sym c.requires.stands.runs.2)
    (drops c.args.local.now c.requires.stands.runs.0 c.requires.stands.runs.1 c.args.span (Answer reply.NoFrames MadeNothing) c.answer.new.self c.release_all.new.self.blocks c.requires.at.place refl c.answer.ensures
    (c.in_ok-release_all.ensures.ok c.requires.stands.runs.0 (all_one c.args.span (length c.requires.stands.runs.0) (omega arith)) c.requires.stands.runs.2
    ∙ ap runs (same_paint (covers (c.args.span ∷ [])) (holds c.args.span) false c.requires.stands.runs.0 (λ page h. covers_one c.args.span page))))
