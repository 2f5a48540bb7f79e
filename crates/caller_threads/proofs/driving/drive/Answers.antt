use denote.Param.Send.{IsSync, sendable}
use Rattle.std.proofs.Crossing.{crosses}
use Rattle.std.proofs.Common.{All, rules, ◌≡◌, List, length, map, get_or, flat_map, sym, ap, ◌∙◌, subst, arith}
use Rattle.section_table.proofs.sections.Sections.TheSendSync as tabling
use Rattle.section_core.proofs.RegionsSent.{region_send}
use Rattle.percpu_counters.specs.contracts.counters.Counters as counters
use Rattle.percpu_counters.proofs.counters.Counters.TheSendSync as counting
use Rattle.section_table.specs.PassViews.{HasCaller}
use Rattle.count_lines.specs.declared.share.Share.{Share}
use Rattle.count_lines.specs.Shares.{lines_in, HasSameLines, IsShareOf, IsFinished}
use Rattle.caller_threads.specs.declared.worker.Worker.{Worker}
use Rattle.caller_threads.specs.Workers.{HasOnly, share_of}
use Rattle.caller_threads.proofs.WorkersSent.{worker_send}
use Rattle.caller_threads.proofs.CallersLeft.{still_has, alone_has}
use Rattle.caller_threads.proofs.NumberedWorkers.{still_numbered, same_lines, each_share}
use Rattle.caller_threads.proofs.driving.drive.Goals as goal

counters_sync : IsSync counters.the_row
counters_sync = counting.the_sync

pub make_events-requires-clause-only : goal.make_events-requires-clause-only
make_events-requires-clause-only g c = subst (HasOnly 0) (sym c.in_ok-pass.ensures.right) (alone_has c.args.pass.place.me.0 0 (c.requires.all 0 (omega arith)))

pub hand_out-requires-clause-all : goal.hand_out-requires-clause-all
hand_out-requires-clause-all g c = λ k low high. subst (HasCaller k) (sym c.in_ok-pass.ensures.left) (still_has c.args.pass.place.me.0 k 0 (λ e. omega arith) (c.requires.all k high))

pub map_vec-requires-send-J : goal.map_vec-requires-send-J
map_vec-requires-send-J g c κs within = search (sendable, crosses, worker_send) depth 10

pub map_vec-requires-send-X : goal.map_vec-requires-send-X
map_vec-requires-send-X g c κs within = search (sendable, crosses, worker_send) depth 10

pub map_vec-requires-sync-F : goal.map_vec-requires-sync-F
map_vec-requires-sync-F g c κs within = let sync_g = c.type_bounds.sync-G in let sync_r = c.type_bounds.sync-R in search (sendable, crosses, region_send, counters_sync, tabling.the_sync) depth 30

pub gather-requires-clause-numbered : goal.gather-requires-clause-numbered
gather-requires-clause-numbered g c =
    let old : List Worker = c.in_ok-workers.workers.items in
    let new : List Worker = c.in_ok-workers-2.workers.items in
    let many : length new ≡ length old = search rules in
    let made = c.in_ok-workers-2.ensures.each in
    still_numbered 1 old new c.args.shares.items c.in_ok-workers.ensures.shares many
    (λ k d low. let job = (made k d low).1 in subst (λ (w : Worker). HasSameLines w.share (get_or new k d).share) (sym (job.job_is d)) job.call.met.lines) c.requires.numbered

pub returns-clause-shares : goal.returns-clause-shares
returns-clause-shares g c =
    let old : List Worker = c.in_ok-workers.workers.items in
    let new : List Worker = c.in_ok-workers-2.workers.items in
    let left : List Share = c.in_ok-shares.shares.items in
    let all : left ≡ map share_of new = c.in_ok-shares.ensures.shares in
    let many : length new ≡ length old = search rules in
    let made = c.in_ok-workers-2.ensures.each in
    record {
      each = subst (All (IsShareOf c.args.counters.now)) (sym all) (each_share (IsShareOf c.args.counters.now) new (λ k d low. (made k d (omega arith)).1.call.met.share));
      finished = subst (All IsFinished) (sym all) (each_share IsFinished new (λ k d low. (made k d (omega arith)).1.call.met.finished));
      lines = ap (flat_map lines_in) all
          ∙ same_lines old new many (λ k d low. let job = (made k d low).1 in subst (λ (w : Worker). HasSameLines w.share (get_or new k d).share) (sym (job.job_is d)) job.call.met.lines)
          ∙ ap (flat_map lines_in) c.in_ok-workers.ensures.shares;
    }
