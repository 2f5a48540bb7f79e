use Rattle.std.proofs.Common.{◌≡◌}
use Rattle.section_table.proofs.sections.Sections.act.Given as goal

abbrev pub invariant-loop : goal.invariant-loop
invariant-loop g l =
    (l.pass.place.table_id ≡ l.initial.pass.place.table_id)
    × (l.pass.place.me.0 ≡ l.initial.pass.place.me.0)
