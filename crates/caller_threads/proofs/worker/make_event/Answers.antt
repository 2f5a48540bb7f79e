use Rattle.caller_threads.proofs.CallersLeft.{acts_only}
use Rattle.caller_threads.proofs.worker.make_event.Goals as goal

pub returns-in-Ok-Moved-clause-only : goal.returns-in-Ok-Moved-clause-only
returns-in-Ok-Moved-clause-only g c = acts_only c.args.caller c.args.pass.now.place.me.0 c.act.new.pass.place.me.0 c.act.result c.act.ensures.acts c.requires.only
