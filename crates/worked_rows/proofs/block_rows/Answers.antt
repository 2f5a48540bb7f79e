use Rattle.worked_rows.proofs.WorkedBlockProofs.{a_spent_block_waits, a_fragmented_block_is_retired, a_large_map_is_an_area, no_frames_spends_a_block, dirty_ranges_are_flushed}
use Rattle.worked_rows.proofs.block_rows.Goals as goal

pub returns : goal.returns
returns c = record { a_spent_block_waits = a_spent_block_waits; a_fragmented_block_is_retired = a_fragmented_block_is_retired; a_large_map_is_an_area = a_large_map_is_an_area; no_frames_spends_a_block = no_frames_spends_a_block; dirty_ranges_are_flushed = dirty_ranges_are_flushed }
