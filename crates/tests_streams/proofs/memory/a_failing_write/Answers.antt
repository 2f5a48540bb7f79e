use Rattle.trace_replay.proofs.ReplayTexts.{room_for_free_space}
use Rattle.tests_streams.proofs.memory.a_failing_write.Goals as goal

pub replay-status-requires : goal.replay-status-requires
replay-status-requires g c = room_for_free_space c.in_ok-source.source c.reserve.new.self.room c.in_ok-source.ensures c.in_ok-reserve.ensures.ok
