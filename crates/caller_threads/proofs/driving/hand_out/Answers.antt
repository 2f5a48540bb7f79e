use Rattle.std.proofs.Common.{All, ◌≡◌, ◌+◌, ◌++◌, ℕ, List, length, map, sym, ap, ◌∙◌, subst, arith, length-append}
use Rattle.std.proofs.lemmas.List.{length-map}
use Rattle.std.proofs.lemmas.List.Elements.{All-rest, All-head, All-push, All-same}
use Rattle.std.specs.Vec.Iter.{into_iter_items}
use Rattle.section_table.specs.PassViews.{HasCaller, alone}
use Rattle.count_lines.specs.declared.share.Share.{Share}
use Rattle.count_lines.specs.Shares.{caller_of, IsShareOf}
use Rattle.caller_threads.specs.declared.worker.Worker.{Worker}
use Rattle.caller_threads.specs.Workers.{HasOnly, IsWorkerOf, AreNumbered, share_of}
use Rattle.caller_threads.proofs.CallersLeft.{still_has, alone_has}
use Rattle.caller_threads.proofs.NumberedWorkers.{first_is, rest_is, one_more, pushed}
use Rattle.caller_threads.proofs.driving.hand_out.Goals as goal

pub loop-share-preserved : goal.loop-share-preserved
loop-share-preserved c =
    let so_far = c.loop-share.invariant in
    let next = c.in-Some.ensures.steps.0 in
    let share : Share = c.in-Some.share in
    let items : List Share = into_iter_items c.loop-share.share-iterator in
    let rest : List Share = into_iter_items c.next.new.self in
    let old : List Worker = c.loop-share.workers.items in
    let new : List Worker = c.push.new.self.items in
    let more = c.in_ok-push.ensures.items in
    let n : ℕ = 1 + length old in
    let here : caller_of share ≡ n = first_is n share items rest next so_far.numbered in
    let all = ap length so_far.shares in
    let parts = length-append (map share_of old) items in
    let made = length-map old share_of in
    let some = ap length next in
    let count : length new ≡ length old + 1 = ap length more ∙ length-append old _ in
    record {
      table = c.split.ensures.table ∙ so_far.table;
      left = λ k low high. subst (HasCaller k) (sym c.in_ok-own.ensures.left) (still_has c.loop-share.pass.place.me.0 k c.caller.result (λ e. let apart = c.caller.ensures in omega arith) (so_far.left k (omega arith) high));
      each = All-rest (IsShareOf c.args.counters.now) share rest items next so_far.each;
      numbered = subst (λ k. AreNumbered k rest) (omega arith) (rest_is n share items rest next so_far.numbered);
      workers = All-same (IsWorkerOf c.args.table.now.table.shared.table_id c.args.counters.now) new _ more (All-push (IsWorkerOf c.args.table.now.table.shared.table_id c.args.counters.now) old _ so_far.workers (record {
        table = c.in_ok-own.ensures.new_table ∙ so_far.table;
        only = subst (HasOnly (caller_of share)) (sym c.in_ok-own.ensures.right) (subst (λ k. HasOnly k (alone c.caller.result c.loop-share.pass.place.me.0)) c.caller.ensures (alone_has c.loop-share.pass.place.me.0 c.caller.result (so_far.left c.caller.result (let same = c.caller.ensures in omega arith) (let same = c.caller.ensures in omega arith))));
        share = All-head (IsShareOf c.args.counters.now) share rest (subst (All (IsShareOf c.args.counters.now)) next so_far.each);
      }));
      shares = ap (λ (xs : List Share). xs ++ rest) (pushed old new _ more) ∙ one_more (map share_of old) c.args.shares.items share items rest next so_far.shares;
    }
