use Rattle.std.proofs.Common.{◌≡◌, ◌+◌, ◌-◌, option_map, slice_get, map, length, sym, ◌∙◌, ap, arith, length-append}
use Rattle.std.proofs.lemmas.List.{take_all}
use Rattle.std.proofs.lemmas.Option.{slice_get-get_or}
use Rattle.history_book.specs.declared.noted.Noted.{Noted}
use Rattle.callers.specs.declared.answers.Answered.{Answered as Code}
use Rattle.callers.specs.CallerParts.{answer_of, answers_with}
use Rattle.callers.proofs.AnswersGiven.{answers_at, kept_more, told_more, row_by, length-answers_with}
use Rattle.callers.proofs.noting.answers_noted.Goals as goal

pub loop-index-preserved : goal.loop-index-preserved
loop-index-preserved c = record {
  told =
      let inside = c.loop-index-test.true in
      let made = c.requires.made in
      let calls = c.requires.calls in
      let i : c.loop-index.index + 1 - 1 ≡ c.loop-index.index = omega arith in
      let row = row_by (slice_get c.args.book.now.rows c.loop-index.index) c.reply_at.result c.own_event_at.result
      (ap (λ n. option_map (λ (x : Noted). x.reply) (slice_get c.args.book.now.rows n)) (sym i) ∙ c.reply_at.ensures)
      (ap (λ n. option_map (λ (x : Noted). x.own_event) (slice_get c.args.book.now.rows n)) (sym i) ∙ c.own_event_at.ensures.place) in
      told_more c.loop-index.answers.items _ c.push_reserved.new.self.items (answers_with c.args.calls.now c.args.book.now.rows c.args.outcomes.now) c.loop-index.index c.push_reserved.ensures.items c.loop-index.invariant.told
      (answers_at c.args.calls.now c.args.book.now.rows c.args.outcomes.now c.loop-index.index _ (record { reply = c.reply_at.result; own_event = c.own_event_at.result }) _
      (slice_get-get_or c.args.calls.now c.loop-index.index _ (omega arith)) row (slice_get-get_or c.args.outcomes.now c.loop-index.index _ inside));
  kept =
      let inside = c.loop-index-test.true in
      kept_more c.loop-index.answers.items _ c.push_reserved.new.self.items c.args.outcomes.now c.loop-index.index c.push_reserved.ensures.items c.loop-index.invariant.kept (slice_get-get_or c.args.outcomes.now c.loop-index.index _ inside);
  count = ap length c.push_reserved.ensures.items ∙ length-append c.loop-index.answers.items _ ∙ ap (λ n. n + 1) c.loop-index.invariant.count;
  room = let same = c.push_reserved.ensures.capacity in let had = c.loop-index.invariant.room in omega arith;
}

pub returns-clause-answers : goal.returns-clause-answers
returns-clause-answers c =
    let high = c.loop-index-test.false in
    let wide = length-answers_with c.args.calls.now c.args.book.now.rows c.args.outcomes.now c.requires.made c.requires.calls in
    let same = c.requires.made in
    ap (map answer_of) c.of.ensures ∙ c.loop-index.invariant.told ∙ take_all c.loop-index.index (answers_with c.args.calls.now c.args.book.now.rows c.args.outcomes.now) (omega arith)

pub returns-clause-outcomes : goal.returns-clause-outcomes
returns-clause-outcomes c =
    let high = c.loop-index-test.false in
    ap (map (λ (a : Code). a.outcome)) c.of.ensures ∙ c.loop-index.invariant.kept ∙ take_all c.loop-index.index c.args.outcomes.now (omega arith)
