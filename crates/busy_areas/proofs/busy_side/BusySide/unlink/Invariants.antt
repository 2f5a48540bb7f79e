use Rattle.std.proofs.Common.{◌≡◌, take}
use Rattle.std.specs.BTreeMap.{values}
use Rattle.vm_model.specs.Areas.{areas_elsewhere}
use Rattle.busy_areas.specs.KeptAreas.{AreKept}
use Rattle.busy_areas.proofs.busy_side.BusySide.unlink.Given as goal

-- the areas that start elsewhere than at the starts so far
abbrev pub invariant-loop-start : goal.invariant-loop-start
invariant-loop-start l = record {
  kept : AreKept l.self-inside.areas.entries l.self-inside.next;
  next : l.self-inside.next ≡ l.fn.self.next;
  others : values l.self-inside.areas ≡ areas_elsewhere (take l.start-index l.starts) l.fn.self.areas;
}
