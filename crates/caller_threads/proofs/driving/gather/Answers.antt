use Rattle.std.proofs.Common.{All, ◌≡◌, ◌+◌, ◌<◌, ◌++◌, [], ◌∷◌, ℕ, List, length, map, sym, ap, ◌∙◌, subst, arith, length-append}
use Rattle.std.proofs.lemmas.List.Elements.{All-rest, All-head}
use Rattle.std.specs.Vec.Iter.{into_iter_items}
use Rattle.section_table.specs.PassViews.{HasCaller}
use Rattle.count_lines.specs.declared.share.Share.{Share}
use Rattle.count_lines.specs.Shares.{caller_of}
use Rattle.caller_threads.specs.declared.worker.Worker.{Worker}
use Rattle.caller_threads.specs.Workers.{AllEnded, IsDone, AreNumbered, share_of}
use Rattle.caller_threads.proofs.CallersLeft.{all_more, both_ended}
use Rattle.caller_threads.proofs.NumberedWorkers.{first_is, rest_is, one_more}
use Rattle.caller_threads.proofs.driving.gather.Goals as goal

pub loop-worker-preserved : goal.loop-worker-preserved
loop-worker-preserved c =
    let so_far = c.loop-worker.invariant in
    let next = c.in-Some.ensures.steps.0 in
    let worker : Worker = c.in-Some.worker in
    let items : List Worker = into_iter_items c.loop-worker.worker-iterator in
    let rest : List Worker = into_iter_items c.next.new.self in
    let old : List Share = c.loop-worker.shares.items in
    let new : List Share = c.push.new.self.items in
    let more : new ≡ old ++ worker.share ∷ [] = c.in_ok-push-in-Ok.ensures.items in
    let n : ℕ = 1 + length old in
    let done : IsDone c.args.table.now.table.shared.table_id worker = All-head (IsDone c.args.table.now.table.shared.table_id) worker rest (subst (All (IsDone c.args.table.now.table.shared.table_id)) next so_far.each) in
    let here : caller_of worker.share ≡ n = first_is n worker.share (map share_of items) (map share_of rest) (ap (map share_of) next) so_far.numbered in
    let count : length new ≡ length old + 1 = ap length more ∙ length-append old _ in
    let v = c.loop-worker.pass.place.me.0 in
    let w = worker.pass.place.me.0 in
    record {
      table = c.join.ensures.table ∙ so_far.table;
      all = λ k low. subst (HasCaller k) (sym c.in-Ok.ensures.joined) (all_more v w (caller_of worker.share) (subst (λ m. (i : ℕ) → i < m → HasCaller i v) (sym here) so_far.all) done.only.has k (omega arith));
      ended = subst AllEnded (sym c.in-Ok.ensures.joined) (both_ended v w so_far.ended (done.ended (search)));
      each = All-rest (IsDone c.args.table.now.table.shared.table_id) worker rest items next so_far.each;
      numbered = subst (λ k. AreNumbered k (map share_of rest)) (omega arith) (rest_is n worker.share (map share_of items) (map share_of rest) (ap (map share_of) next) so_far.numbered);
      shares = ap (λ (xs : List Share). xs ++ map share_of rest) more ∙ one_more old (map share_of c.args.workers.items) worker.share (map share_of items) (map share_of rest) (ap (map share_of) next) so_far.shares;
    }
