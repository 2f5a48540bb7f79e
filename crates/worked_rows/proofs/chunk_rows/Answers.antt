use Rattle.worked_rows.proofs.WorkedChunkProofs.{hints_over_a_hole, the_hole_is_taken, aligned_fits, a_balance_without_frames, atomic_and_balance, a_second_chunk, spare_chunks_are_purged, spare_chunks_go}
use Rattle.worked_rows.proofs.chunk_rows.Goals as goal

pub returns : goal.returns
returns c = record { hints_over_a_hole = hints_over_a_hole; the_hole_is_taken = the_hole_is_taken; aligned_fits = aligned_fits; a_balance_without_frames = a_balance_without_frames; atomic_and_balance = atomic_and_balance; a_second_chunk = a_second_chunk; spare_chunks_are_purged = spare_chunks_are_purged; spare_chunks_go = spare_chunks_go }
