use Rattle.section_core.proofs.SideRows.{at_place, none_purge}
use Rattle.section_core.proofs.sections.over_purge_turn.Goals as goal

pub take_purge-requires : goal.take_purge-requires
take_purge-requires c = at_place _ _ _ _ c.in-PurgeTaking.is c.requires.can

pub give_purge-requires : goal.give_purge-requires
give_purge-requires c = at_place _ _ _ _ c.in-PurgeGiving.is c.requires.can

pub unreachable-requires : goal.unreachable-requires
unreachable-requires c = none_purge _ c.args.turn.now c.requires.row c.in_default.not-PurgeTaking c.in_default.not-PurgeGiving
