use Rattle.std.proofs.Common.{All, subst, sym, ◌≤◌, length, refl}
use Rattle.vm_model.specs.declared.areas.Span.{Span}
use Rattle.vm_model.specs.Space.{end_of}
use Rattle.vm_model.specs.Next.{Go}
use Rattle.vm_model.specs.Places as model
use Rattle.vm_model.specs.Parts.{FreeRuns}
use Rattle.callers.specs.CarriedPlaces.{then_of, carried_at}
use Rattle.section_core.specs.MadeSections.{IsMoved}
use Rattle.section_core.proofs.FreeSections.{returns_spans}
use Rattle.section_core.proofs.purge.return_spans.Goals as goal

pub returns-clause-ok : goal.returns-clause-ok
returns-clause-ok c =
    let ends : All (λ (s : Span). end_of s ≤ length c.requires.stands.runs.0) (carried_at c.args.local.now.place).waited = subst (λ n. All (λ (s : Span). end_of s ≤ n) (carried_at c.args.local.now.place).waited) (sym c.requires.stands.runs.1) c.requires.stands.returned.within in
    let within : All (λ (s : Span). end_of s ≤ length c.requires.stands.runs.0) c.waited.result.now = subst (All (λ (s : Span). end_of s ≤ length c.requires.stands.runs.0)) (sym c.waited.ensures.spans) ends in
    subst (λ blocks. IsMoved c.args.local.now (FreeRuns blocks) c.go.new.self (FreeRuns c.release_all.new.self.blocks)) (sym c.requires.stands.runs.2)
    (returns_spans c.args.local.now c.requires.stands.runs.0 c.requires.stands.runs.1 (carried_at c.args.local.now.place).waited (then_of c.args.after) (Go (model.PurgeGiving (then_of c.args.after))) c.go.new.self c.release_all.new.self.blocks c.requires.at.place refl c.go.ensures
    (rw (c.waited.ensures.spans) at (c.in_ok-release_all.ensures.ok c.requires.stands.runs.0 within c.requires.stands.runs.2)))
