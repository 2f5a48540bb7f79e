use Rattle.trace_replay.proofs.ReplayTexts.{one_free_space, one_free_space_audited, two_areas_with_guards, places_as_picked, a_pick_stays}
use Rattle.trace_replay.proofs.worked.worked_replays.Goals as goal

pub returns : goal.returns
returns c = record { one_free_space = one_free_space; one_free_space_audited = one_free_space_audited; two_areas_with_guards = two_areas_with_guards; places_as_picked = places_as_picked; a_pick_stays = a_pick_stays }
