use Rattle.std.proofs.Common.{◌≡◌, ◌≤◌, ◌++◌, [], ap, ◌∙◌, arith, length, length-append}
use Rattle.std.proofs.lemmas.List.Elements.{All-push, All-same, All-weaker}
use Rattle.vm_model.specs.declared.calls.CountLine.{CountLine}
use Rattle.percpu_counters.specs.Passes.{shape_of}
use Rattle.count_lines.specs.declared.share.Share.{Share}
use Rattle.count_lines.specs.LinesOfCaller.{lines_by}
use Rattle.count_lines.specs.Shares.{done_in, IsLineOf, IsShareOf}
use Rattle.count_lines.proofs.SharedLines.{lines_from, few_from, each_line_is_shared}
use Rattle.count_lines.proofs.OneByOne.{callers_more, lines_more, count_more, room_for_next}
use Rattle.count_lines.proofs.sharing.share_out.Goals as goal

pub count_opening-requires-clause-room : goal.count_opening-requires-clause-room
count_opening-requires-clause-room c =
    let few : length (lines_by 0 c.args.lines.now ++ []) ≤ length c.args.lines.now = few_from 1 c.args.lines.now in
    let own = length-append (lines_by 0 c.args.lines.now) [] in
    let asked = c.requires.room in
    omega arith

pub share_of-requires-clause-room : goal.share_of-requires-clause-room
share_of-requires-clause-room c =
    let so_far = c.loop-done.invariant in
    let room = so_far.room in
    let own = ap length so_far.own in
    let next = room_for_next c.args.lines.now c.loop-done.done in
    let asked = c.requires.room in
    omega arith

pub loop-done-preserved : goal.loop-done-preserved
loop-done-preserved c =
    let so_far = c.loop-done.invariant in
    let share : Share = c.in_ok-share_of.field-0 in
    let old = c.loop-done.shares.items in
    let new = c.push.new.self.items in
    let more = c.in_ok-push.ensures.items in
    record {
      pass = c.in_ok-share_of.ensures.pass;
      adds = c.share_of.ensures.adds ∙ so_far.adds;
      room = (let count = count_more old new share more in let spent = c.in_ok-share_of.ensures.spare in let room = so_far.room in omega arith);
      each = All-same (IsShareOf c.args.counters.now) new _ more (All-push (IsShareOf c.args.counters.now) old share so_far.each c.in_ok-share_of.ensures.share);
      begin = All-same (λ (s : Share). done_in s ≡ 0) new _ more (All-push (λ (s : Share). done_in s ≡ 0) old share so_far.begin c.in_ok-share_of.ensures.done);
      callers = callers_more old new share c.loop-done.done so_far.callers more c.in_ok-share_of.ensures.caller;
      own = lines_more c.args.lines.now old new share c.loop-done.done so_far.own more c.in_ok-share_of.ensures.lines;
    }

pub returns-clause-spare : goal.returns-clause-spare
returns-clause-spare c =
    let so_far = c.loop-done.invariant in
    let lines = c.args.lines.now in
    let over = c.loop-done-test.false in
    let within = c.loop-done.auto.done-end in
    let last : c.loop-done.done ≡ c.args.callers = omega arith in
    let all : length (lines_by 0 lines ++ lines_from 1 c.args.callers lines) ≡ length lines =
    each_line_is_shared c.args.callers lines (All-weaker (IsLineOf (shape_of c.args.counters.now) c.args.callers) (λ (l : CountLine). l.caller ≤ c.args.callers) (λ l is. is.caller) lines c.requires.lines) in
    let parts = length-append (lines_by 0 lines) (lines_from 1 c.args.callers lines) in
    let own = ap length so_far.own ∙ ap (λ n. length (lines_from 1 n lines)) last in
    let room = so_far.room in
    omega arith
