use Rattle.std.proofs.Common.{◌+◌, ◌-◌, length}
use Rattle.history_book.proofs.PlacesSoFar.{HavePlaces}
use Rattle.history_book.proofs.entries.next_own.Given as goal

-- none of the callers that are passed now is the one
abbrev pub invariant-loop-next : goal.invariant-loop-next
invariant-loop-next l = HavePlaces l.fn.caller (l.fn.passed.own + 1) l.moved l.next l.fn.passed.own

abbrev pub decreases-loop-next : goal.decreases-loop-next
decreases-loop-next l = length l.moved - l.next
