use Rattle.std.proofs.Common.{rules, ◌≡◌, ◌<◌, ℕ, length, take, set, slice_index_or, sym, ap, ◌∙◌, subst, length-set}
use Rattle.section_table.specs.WrittenLists.{written}
use Rattle.section_table.proofs.WrittenPicks.{below_at, written_take}
use Rattle.section_table.proofs.close.write_picks.Goals as goal

pub index_mut-requires : goal.index_mut-requires
index_mut-requires c = let at = below_at (length c.args.picks.now.items) c.args.stamps.now c.loop-stamp.stamp-index c.requires c.loop-stamp-test.true in
    let inside : slice_index_or c.args.stamps.now c.loop-stamp.stamp-index 0 < length c.loop-stamp.picks.items = subst (λ (n : ℕ). slice_index_or c.args.stamps.now c.loop-stamp.stamp-index 0 < n) (sym c.loop-stamp.invariant.1) at in search rules

pub loop-stamp-preserved : goal.loop-stamp-preserved
loop-stamp-preserved c = let inv = c.loop-stamp.invariant in let stamp = slice_index_or c.args.stamps.now c.loop-stamp.stamp-index 0 in (
  ap (λ l. set l stamp c.args.caller) inv.0 ∙ sym (written_take c.args.picks.now.items c.args.caller c.args.stamps.now c.loop-stamp.stamp-index c.loop-stamp-test.true),
  length-set c.loop-stamp.picks.items stamp c.args.caller ∙ inv.1,
)
