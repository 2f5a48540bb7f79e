use Rattle.std.proofs.Common.{◌∙◌}
use Rattle.std.proofs.lemmas.List.Elements.{All-rest}
use Rattle.std.specs.Vec.Iter.{into_iter_items}
use Rattle.percpu_counters.specs.Passes.{adds_of}
use Rattle.count_lines.specs.Shares.{IsShareOf, IsFinished}
use Rattle.count_lines.proofs.OneByOne.{joined_more}
use Rattle.count_lines.proofs.sharing.join_all.Goals as goal

pub loop-share-preserved : goal.loop-share-preserved
loop-share-preserved c =
    let so_far = c.loop-share.invariant in
    let next = c.in-Some.ensures.steps.0 in
    record {
      pass = c.join_share.ensures.pass;
      adds = joined_more (adds_of c.loop-share.pass) (adds_of c.join_share.new.pass) _ c.in-Some.share (into_iter_items c.loop-share.share-iterator) (into_iter_items c.next.new.self) next c.join_share.ensures.adds so_far.adds;
      spare = c.join_share.ensures.spare ∙ so_far.spare;
      each = All-rest (IsShareOf c.args.counters.now) c.in-Some.share (into_iter_items c.next.new.self) (into_iter_items c.loop-share.share-iterator) next so_far.each;
      finished = All-rest IsFinished c.in-Some.share (into_iter_items c.next.new.self) (into_iter_items c.loop-share.share-iterator) next so_far.finished;
    }
