use Rattle.std.proofs.lemmas.Result.{IfOk-weaker}
use Rattle.trace_text.specs.Reading.{Reading}
use Rattle.trace_text.specs.ToldTraces.{Tells}
use Rattle.trace_replay.specs.declared.answer.Outcome.{Outcome}
use Rattle.trace_rules.specs.RuledTraces.{IsRuledTrace}
use Rattle.trace_rules.proofs.TracesRuled.{traces_keep_the_rules}
use Rattle.trace_replay.specs.Headline.{Writes, Reports}
use Rattle.trace_replay.specs.LiveReports.{IsLiveReport}
use Rattle.trace_replay.proofs.Reported.{done}
use Rattle.trace_replay.proofs.live_command.live_answer.Goals as goal

pub live_report-requires : goal.live_report-requires
live_report-requires g c = (c.type_bounds.sync-G, (c.type_bounds.sync-R, let (reading, trace, tells) = c.in-Ok.ensures.trace in (reading, traces_keep_the_rules c.args.bytes.now reading trace (c.in-Ok.ensures.stands reading trace), tells)))

pub returns-in-Ok : goal.returns-in-Ok
returns-in-Ok g c =
    let (reading, trace, tells) = c.in-Ok.ensures.trace in
    let stands = c.in-Ok.ensures.stands reading trace in
    let ruled = traces_keep_the_rules c.args.bytes.now reading trace stands in
    IfOk-weaker c.live_report.result (λ (o : Outcome). (r : Reading) → IsRuledTrace r → Tells c.in-Ok.trace r → Reports IsLiveReport r o.status o.text) (λ (o : Outcome). Writes IsLiveReport c.args.bytes.now o.status o.text)
    (λ o is. done IsLiveReport c.args.bytes.now o reading c.requires trace stands (is reading ruled tells)) c.live_report.ensures
