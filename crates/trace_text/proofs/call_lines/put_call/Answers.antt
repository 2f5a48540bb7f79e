use Rattle.std.proofs.Common.{refl}
use Rattle.trace_text.proofs.call_lines.put_call.Goals as goal

pub returns-clause-adds : goal.returns-clause-adds
returns-clause-adds c = record { rank = refl; header = refl; cpus = refl; caller = refl; calls = c.in_ok-push_call.ensures; closed = refl; counts = refl; lines = refl; picks = refl; opening_names = refl }
