use Rattle.std.proofs.Common.{◌+◌, ◌<◌, length, arith}
use Rattle.history_book.proofs.PlacesSoFar.{HavePlaces-other, HavePlaces-rest}
use Rattle.history_book.proofs.entries.next_own.Goals as goal

pub loop-next-preserved : goal.loop-next-preserved
loop-next-preserved c =
    let k = c.args.caller in
    let own = c.args.passed.own in
    let moved = c.args.moved.now in
    let next = c.loop-next.next in
    let within : next < length moved = HavePlaces-rest k (own + 1) moved next own c.loop-next.invariant (omega arith) (omega (arith, c.requires.there)) in
    HavePlaces-other k (own + 1) moved next own c.loop-next.invariant (omega arith) within c.loop-next-test.true
