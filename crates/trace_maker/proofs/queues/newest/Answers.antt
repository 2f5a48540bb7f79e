use Rattle.std.proofs.Common.{◌∙◌}
use Rattle.trace_maker.proofs.Newest.{newest_is}
use Rattle.trace_maker.proofs.queues.newest.Goals as goal

pub returns : goal.returns
returns c = c.copied.ensures ∙ newest_is c.args.queue.now.items c.args.queue.now.len c.back.result c.args.queue.now.ok.0 c.back.ensures.item.0 c.back.ensures.item.2 c.back.ensures.lookup
