use Rattle.std.proofs.Common.{◌≡◌, take}
use Rattle.std.specs.BTreeMap.{values}
use Rattle.vm_model.specs.Areas.{areas_elsewhere}
use Rattle.busy_areas.specs.KeptAreas.{AreApartFrom, asked_starts}
use Rattle.busy_areas.proofs.busy_side.take_back.Given as goal

-- the areas that start elsewhere than the spans so far
abbrev pub invariant-loop-span : goal.invariant-loop-span
invariant-loop-span l = record {
  apart : AreApartFrom 0 l.areas.entries;
  others : values l.areas ≡ areas_elsewhere (asked_starts (take l.span-index l.put)) (values l.initial.areas);
}
