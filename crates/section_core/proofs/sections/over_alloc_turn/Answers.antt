use Rattle.section_core.proofs.SideRows.{at_place, none_alloc}
use Rattle.section_core.proofs.sections.over_alloc_turn.Goals as goal

pub take_alloc-requires : goal.take_alloc-requires
take_alloc-requires c = at_place _ _ _ _ c.in-TakingAlloc.is c.requires.can

pub take_to_balance-requires : goal.take_to_balance-requires
take_to_balance-requires c = at_place _ _ _ _ c.in-TakingToBalance.is c.requires.can

pub give_alloc-requires : goal.give_alloc-requires
give_alloc-requires c = at_place _ _ _ _ c.in-GivingAlloc.is c.requires.can

pub unreachable-requires : goal.unreachable-requires
unreachable-requires c = none_alloc _ c.args.turn.now c.requires.row c.in_default.not-TakingAlloc c.in_default.not-TakingToBalance c.in_default.not-GivingAlloc
