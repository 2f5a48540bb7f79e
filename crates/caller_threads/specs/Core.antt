-- What sections over the allocators' regions do.
use Rattle.vm_model.specs.History.{Local}
use Rattle.vm_model.specs.Parts.{Region, wants, moves, after}
use Rattle.section_laws.specs.Lawful.{IsLawful}
use Rattle.section_laws.specs.MovesInTurn.{reach}
use Rattle.section_table.specs.Meanings.{Meanings}

abbrev pub core : Meanings Region Local
core = record { wanted = wants; reach = reach; moves = moves; after = after; lawful = IsLawful }
