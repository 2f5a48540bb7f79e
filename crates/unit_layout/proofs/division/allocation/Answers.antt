use Rattle.unit_layout.proofs.Ceilings.{allocation_high}
use Rattle.unit_layout.proofs.division.allocation.Goals as goal

pub returns-clause-few : goal.returns-clause-few
returns-clause-few c =
    let high = allocation_high c.args.unit c.args.atom c.requires.unit c.requires.atom c.requires.atom_high in
    rw c.div_ceil.ensures high
