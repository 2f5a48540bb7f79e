use Rattle.std.proofs.Common.{◌+◌, drop, sym, ◌∙◌, ap}
use Rattle.std.specs.Option.{option_map}
use Rattle.unit_layout.specs.declared.errors.LayoutError.TheVariants.{Overlap}
use Rattle.unit_layout.specs.Refusals as rule
use Rattle.unit_layout.proofs.GroupPlaces.{overlap_at}
use Rattle.unit_layout.proofs.refusals.overlap.Goals as goal

pub returns-in-Some : goal.returns-in-Some
returns-in-Some c =
    let at = overlap_at c.args.division c.args.groups.now c.loop-first.first (record { cpus = 0; offset = 0 }) c.loop-first-test.true in
    sym (ap (λ o. rule.or_else (option_map (Overlap c.loop-first.first) o) (rule.overlap c.args.division (c.loop-first.first + 1) (drop (c.loop-first.first + 1) c.args.groups.now))) (sym c.overlapped.ensures ∙ c.in-Some.is)) ∙ sym at ∙ c.loop-first.invariant

pub loop-first-preserved : goal.loop-first-preserved
loop-first-preserved c =
    let at = overlap_at c.args.division c.args.groups.now c.loop-first.first (record { cpus = 0; offset = 0 }) c.loop-first-test.true in
    sym (ap (λ o. rule.or_else (option_map (Overlap c.loop-first.first) o) (rule.overlap c.args.division (c.loop-first.first + 1) (drop (c.loop-first.first + 1) c.args.groups.now))) (sym c.overlapped.ensures ∙ c.in_default.is)) ∙ sym at ∙ c.loop-first.invariant
