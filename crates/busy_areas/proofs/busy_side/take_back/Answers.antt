use Rattle.std.proofs.Common.{subst, sym}
use Rattle.std.specs.BTreeMap.{values}
use Rattle.busy_areas.specs.KeptAreas.{AreApartFrom}
use Rattle.busy_areas.proofs.NamedAreas.{apart_without}
use Rattle.busy_areas.proofs.Elsewhere.{nowhere_else}
use Rattle.busy_areas.proofs.JoinedAreas.{back_more}
use Rattle.busy_areas.proofs.busy_side.take_back.Goals as goal

pub loop-span-init : goal.loop-span-init
loop-span-init c = record { apart = c.requires; others = sym (nowhere_else (values c.args.areas.now)) }

pub loop-span-preserved : goal.loop-span-preserved
loop-span-preserved c =
    let now = c.loop-span.areas.entries in
    let so_far = c.loop-span.invariant in
    record {
      apart = subst (AreApartFrom 0) (sym c.remove.ensures.entries) (apart_without 0 _ now so_far.apart);
      others = back_more c.args.put.now c.args.areas.now.entries now c.remove.new.self.entries c.loop-span.span-index _ c.loop-span-test.true so_far.apart so_far.others c.remove.ensures.entries;
    }
