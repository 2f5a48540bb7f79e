use Rattle.std.proofs.Common.{◌≡◌, ap, Err}
use Rattle.trace_replay.specs.LiveReports.{IsLiveReport}
use Rattle.trace_replay.proofs.MadeOf.{made_of_too_many}
use Rattle.trace_replay.proofs.live_command.live_outcome.Goals as goal

pub returns-in_ok-too_long-in-Err-TooLong-clause-made : goal.returns-in_ok-too_long-in-Err-TooLong-clause-made
returns-in_ok-too_long-in-Err-TooLong-clause-made g c =
    let told = c.in_ok-too_long-in-Err-TooLong.ensures in
    made_of_too_many IsLiveReport (g.S.Source.left c.args.source.now) (g.S.Source.left c.gather.new.source) c.in_ok-too_long-in-Err-TooLong.field-0 told.0 told.1 (c.in-Err-TooLong.ensures.too_long (ap Err c.in-Err-TooLong.field-0-is))
