use Rattle.worked_rows.proofs.WorkedAreaProofs.{empty_trace, two_areas_with_guards, no_space_after_a_purge, freed_pages_wait, a_purge_makes_room, aligned_above_a_page, the_first_free_wins, the_other_free_wins, stays_at_the_turn, lazy_limit_purges, refused_calls, picks_in_turn, aligned_to_the_whole_range, two_free_runs, two_without_space}
use Rattle.worked_rows.proofs.area_rows.Goals as goal

pub returns : goal.returns
returns c = record { empty_trace = empty_trace; two_areas_with_guards = two_areas_with_guards; no_space_after_a_purge = no_space_after_a_purge; freed_pages_wait = freed_pages_wait; a_purge_makes_room = a_purge_makes_room; aligned_above_a_page = aligned_above_a_page; the_first_free_wins = the_first_free_wins; the_other_free_wins = the_other_free_wins; stays_at_the_turn = stays_at_the_turn; lazy_limit_purges = lazy_limit_purges; refused_calls = refused_calls; picks_in_turn = picks_in_turn; aligned_to_the_whole_range = aligned_to_the_whole_range; two_free_runs = two_free_runs; two_without_space = two_without_space }
