use Rattle.worked_rows.proofs.WorkedObjectProofs.{two_groups, offsets_in_a_chunk, objects_of_a_whole_unit, no_frames_for_a_chunk, no_space_for_a_chunk, units_that_share_an_allocation, a_sum_below_thirty_two_bits, words_of_an_object}
use Rattle.worked_rows.proofs.object_rows.Goals as goal

pub returns : goal.returns
returns c = record { two_groups = two_groups; offsets_in_a_chunk = offsets_in_a_chunk; objects_of_a_whole_unit = objects_of_a_whole_unit; no_frames_for_a_chunk = no_frames_for_a_chunk; no_space_for_a_chunk = no_space_for_a_chunk; units_that_share_an_allocation = units_that_share_an_allocation; a_sum_below_thirty_two_bits = a_sum_below_thirty_two_bits; words_of_an_object = words_of_an_object }
