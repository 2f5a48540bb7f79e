use Rattle.trace_text.proofs.NamedCalls.{held_with_call}
use Rattle.trace_text.proofs.call_lines.add_call.Goals as goal

pub returns : goal.returns
returns c = λ r held. held_with_call c.args.progress.now c.put_call.new.progress r c.args.call held c.in_ok-put_call.ensures.adds c.in_ok-put_call.ensures.names
