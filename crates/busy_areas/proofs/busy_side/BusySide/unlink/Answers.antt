use Rattle.std.proofs.Common.{get_or, ap, sym, ◌∙◌}
use Rattle.std.specs.Map.{values_of}
use Rattle.busy_areas.specs.LiveAreaRows.{LiveRows}
use Rattle.busy_areas.proofs.NamedAreas.{kept_without}
use Rattle.busy_areas.proofs.Elsewhere.{behind_start, values_without, elsewhere_step, nowhere_else}
use Rattle.busy_areas.proofs.busy_side.BusySide.unlink.Goals as goal

pub loop-start-init : goal.loop-start-init
loop-start-init c = record {
  kept = c.self.invariant;
  next = ap (λ (r : LiveRows). r.next) c.self.view_is;
  others = ap (λ (r : LiveRows). r.areas) c.self.view_is ∙ sym (nowhere_else c.args.self.now.areas);
}

pub loop-start-preserved : goal.loop-start-preserved
loop-start-preserved c =
    let start = get_or c.args.starts.now c.loop-start.start-index 0 in
    let before = c.loop-start.self-inside.areas.entries in
    let kept = c.loop-start.invariant.kept in
    record {
      kept = kept_without c.loop-start.self-inside.next start before c.remove.new.self.entries kept c.remove.ensures.entries;
      next = c.loop-start.invariant.next;
      others =
          ap values_of c.remove.ensures.entries ∙ values_without 0 start before kept.apart ∙ ap (behind_start start) c.loop-start.invariant.others
          ∙ elsewhere_step c.args.starts.now c.loop-start.start-index c.args.self.now.areas c.loop-start-test.true;
    }
