use Rattle.unit_layout.proofs.StandingLayouts.{layouts_stand}
use Rattle.unit_layout.proofs.OwnGroups.{units_in_group}
use Rattle.unit_layout.proofs.Overlaps.{overlaps_are_the_least}
use Rattle.unit_layout.proofs.laws.layouts.Goals as goal

pub returns : goal.returns
returns c = record { layouts_stand = layouts_stand; units_in_group = units_in_group; overlaps_are_the_least = overlaps_are_the_least }
