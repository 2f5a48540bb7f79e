-- What the worked traces of blocks leave, computed.
use Rattle.std.proofs.Common.{refl}
use Rattle.vm_model.specs.History.{history_of, finish}
use Rattle.worked_rows.specs.WorkedBlocks.{ASpentBlockWaits, AFragmentedBlockIsRetired, ALargeMapIsAnArea, NoFramesSpendsABlock, DirtyRangesAreFlushed}

pub a_spent_block_waits : ASpentBlockWaits
unfolding history_of finish
a_spent_block_waits = refl

pub a_fragmented_block_is_retired : AFragmentedBlockIsRetired
unfolding history_of finish
a_fragmented_block_is_retired = refl

pub a_large_map_is_an_area : ALargeMapIsAnArea
unfolding history_of finish
a_large_map_is_an_area = refl

pub no_frames_spends_a_block : NoFramesSpendsABlock
unfolding history_of finish
no_frames_spends_a_block = refl

pub dirty_ranges_are_flushed : DirtyRangesAreFlushed
unfolding history_of finish
dirty_ranges_are_flushed = refl
