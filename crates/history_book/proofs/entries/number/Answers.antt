use Rattle.std.proofs.Common.{◌++◌, take, ap, ◌∙◌, arith}
use Rattle.std.proofs.lemmas.List.{take_all}
use Rattle.history_book.specs.BookEntries.{places_of, entries_noted}
use Rattle.history_book.proofs.EntriesOfRows.{entries_noted-more, entries_noted-history}
use Rattle.history_book.proofs.entries.number.Goals as goal

pub loop-index-preserved : goal.loop-index-preserved
loop-index-preserved c = record {
  callers = c.pass_to-passed.ensures.callers;
  counted = c.pass_to-passed.ensures.counted;
  entries = c.push_reserved.ensures.items ∙ entries_noted-more _ _ _ _ c.loop-index.index _ c.rows-rows.result.now _ c.loop-index-test.true c.pass_to-passed.ensures.place c.loop-index.invariant.entries;
  room = omega arith;
}

pub returns-clause-history : goal.returns-clause-history
returns-clause-history c answers events of =
    let moved = c.args.moved.now in
    let rows = c.rows-rows.result.now in
    let caller = c.caller-caller.result in
    c.loop-index.invariant.entries ∙ ap (λ before. before ++ entries_noted (places_of caller 1 moved) caller 1 (take c.loop-index.index rows)) c.in_ok-reserve.ensures.items
    ∙ ap (λ entries. c.args.into.now.items ++ entries) (ap (entries_noted (places_of caller 1 moved) caller 1) (take_all c.loop-index.index rows (omega arith) ∙ c.rows-rows.ensures.rows)
    ∙ ap (λ k. entries_noted (places_of k 1 moved) k 1 c.args.book.now.rows) c.caller-caller.ensures
    ∙ entries_noted-history c.args.book.now.caller moved c.args.book.now.rows answers events of)
