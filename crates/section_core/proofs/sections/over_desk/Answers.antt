use Rattle.section_core.proofs.SideRows.{at_place, none_desk}
use Rattle.section_core.proofs.sections.over_desk.Goals as goal

pub refuse-requires : goal.refuse-requires
refuse-requires c = at_place _ _ _ _ c.in-Refusing.is c.requires.can

pub unreachable-requires : goal.unreachable-requires
unreachable-requires c = none_desk _ c.requires.row c.in_default.not-Refusing
