use Rattle.std.proofs.Common.{◌≡◌, ℕ, map, string_bytes, subst}
use Rattle.trace_maker.specs.Generated.{generated}
use Rattle.trace_replay.specs.declared.status.Status.TheVariants.{Done, Usage}
use Rattle.trace_replay.specs.declared.words.Command.TheVariants as command
use Rattle.trace_replay.specs.CommandWords.{Name}
use Rattle.trace_replay.specs.Commands.{Sends}
use Rattle.trace_replay.proofs.OneCommand.{at_numbers}
use Rattle.trace_replay.proofs.ToldToSink.{faults_sent}
use Rattle.trace_replay.proofs.commands.run.Goals as goal

pub returns-in-Some-Make-clause-makes : goal.returns-in-Some-Make-clause-makes
returns-in-Some-Make-clause-makes g c = λ start calls named.
    at_numbers (λ s n. Sends Done (generated s n) (g.K.Sink.taken c.args.sink.now) (g.K.Sink.taken c.make.new.sink) c.make.result)
    (map string_bytes c.args.words.now) c.in-Some-Make.start c.in-Some-Make.calls start calls (subst (λ named. Name named (map string_bytes c.args.words.now)) c.in-Some-Make.field-0-is c.in-Some-Make.ensures.some) named c.make.ensures.sends

pub returns-in-Some-Make-clause-faults : goal.returns-in-Some-Make-clause-faults
returns-in-Some-Make-clause-faults g c =
    faults_sent Done c.make.result (g.S.Source.faults c.args.source.now) (g.K.Sink.faults c.args.sink.now) (g.K.Sink.faults c.make.new.sink) (λ e. cc) c.make.ensures.sends.ends c.make.ensures.write_fault c.make.ensures.failed_write

pub returns-in-None-clause-faults : goal.returns-in-None-clause-faults
returns-in-None-clause-faults g c =
    faults_sent Usage c.refuse.result (g.S.Source.faults c.args.source.now) (g.K.Sink.faults c.args.sink.now) (g.K.Sink.faults c.refuse.new.sink) (λ e. cc) c.refuse.ensures.sends.ends c.refuse.ensures.write_fault c.refuse.ensures.failed_write

pub returns-in-None-clause-replays : goal.returns-in-None-clause-replays
returns-in-None-clause-replays g c = λ mode named. absurd (c.in-None.ensures.none (command.Replay mode) named)

pub returns-in-None-clause-lives : goal.returns-in-None-clause-lives
returns-in-None-clause-lives g c = λ named. absurd (c.in-None.ensures.none command.Live named)

pub returns-in-None-clause-makes : goal.returns-in-None-clause-makes
returns-in-None-clause-makes g c = λ start calls named. absurd (c.in-None.ensures.none (command.Make start calls) named)
