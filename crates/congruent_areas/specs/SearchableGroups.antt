-- Which groups can be searched for.
use Rattle.std.specs.Prelude.{◌≡◌, ℕ, List, None}
use Rattle.vm_model.specs.Setup.{Setup, groups_at}
use Rattle.vm_model.specs.Rules.{AreGroups}
use Rattle.unit_layout.specs.declared.layout.Group.{Group}
use Rattle.unit_layout.specs.declared.request.LayoutSpec.{LayoutSpec}
use Rattle.unit_layout.specs.LayoutRule.{layout_of}
use Rattle.unit_layout.specs.NumberRanges.{IsInRange}
use Rattle.unit_layout.specs.Refusals.{refusal}
use Rattle.congruent_areas.specs.GroupsAtBase.{HasGroups, AreLaidOut, spans_at}

-- the groups of a machine's chunks
abbrev pub MachinesHaveSuchGroups : Type 0
MachinesHaveSuchGroups = (c : Setup) (laid : List Group) (align : ℕ) → AreGroups c → HasGroups c laid align → AreLaidOut laid

-- the groups of a layout that isn't refused
abbrev pub LayoutsHaveSuchGroups : Type 0
LayoutsHaveSuchGroups = (s : LayoutSpec) → IsInRange s → refusal s ≡ None → AreLaidOut (layout_of s).groups

-- the spans of a machine's groups at a base are those of the groups that were searched for
abbrev pub SpansAreTheGroups : Type 0
SpansAreTheGroups = (c : Setup) (laid : List Group) (align base : ℕ) → HasGroups c laid align → groups_at c base ≡ spans_at base laid
