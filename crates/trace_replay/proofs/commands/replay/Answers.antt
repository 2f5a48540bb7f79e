use Rattle.trace_replay.specs.Headline.{IsReport}
use Rattle.trace_replay.proofs.ToldToSink.{room_for, commanded, faults_told, no_usage, not_silent}
use Rattle.trace_replay.proofs.commands.replay.Goals as goal

pub tell-requires : goal.tell-requires
tell-requires g c = room_for (IsReport c.args.mode) (g.S.Source.left c.args.source.now) (g.K.Sink.room c.args.sink.now) c.in-Ok.outcome.status c.in-Ok.outcome.text c.requires c.in-Ok.ensures.made.writes

pub returns-in-Ok : goal.returns-in-Ok
returns-in-Ok g c =
    let first = g.K.Sink.taken c.args.sink.now in
    let after = g.K.Sink.taken c.tell.new.sink in
    let before = g.K.Sink.faults c.args.sink.now in
    let now = g.K.Sink.faults c.tell.new.sink in
    let left = g.S.Source.left c.outcome_of.new.source in
    let made = c.in-Ok.ensures.made in
    let status = c.in-Ok.outcome.status in
    let text = c.in-Ok.outcome.text in
    record {
      replays = commanded (IsReport c.args.mode) (g.S.Source.left c.args.source.now) left status text c.tell.result first after before now made c.tell.ensures.told;
      faults = faults_told status text c.tell.result first after before now (g.S.Source.faults c.args.source.now) (g.S.Source.faults c.outcome_of.new.source) made.said c.tell.ensures.told (c.outcome_of.ensures.no_fault (λ e. cc)) c.tell.ensures.no_fault;
      silent = λ silent. absurd (not_silent status text c.tell.result first after before now made.said.read made.said.memory c.tell.ensures.told silent);
      usage = no_usage status text c.tell.result first after before now made.said.usage c.tell.ensures.told;
    }
