use Rattle.std.proofs.Common.{arith}
use Rattle.history_book.proofs.PlacesSoFar.{HavePlaces, HavePlaces-own}
use Rattle.history_book.proofs.entries.pass_to.Goals as goal

pub loop-passed-preserved : goal.loop-passed-preserved
loop-passed-preserved c =
    let k = c.args.caller in
    let moved = c.args.moved.now in
    let passed = c.loop-passed.passed in
    let have : HavePlaces k c.args.place moved c.next_own-next.result passed.own = record {
      callers_within = omega (arith, c.next_own-next.ensures.within);
      counted = c.next_own-next.ensures.counted;
      up_to = c.loop-passed.invariant.up_to;
      reached = λ last. absurd (omega (arith, c.loop-passed-test.true));
    } in
    HavePlaces-own k c.args.place moved c.next_own-next.result passed.own have c.loop-passed-test.true c.next_own-next.ensures.within c.next_own-next.ensures.own
