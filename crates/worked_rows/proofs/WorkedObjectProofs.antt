-- What the worked traces of objects leave, computed.
use Rattle.std.proofs.Common.{refl}
use Rattle.vm_model.specs.History.{history_of, finish}
use Rattle.worked_rows.specs.WorkedObjects.{TwoGroups, OffsetsInAChunk, ObjectsOfAWholeUnit, NoFramesForAChunk, NoSpaceForAChunk, UnitsThatShareAnAllocation, ASumBelowThirtyTwoBits, WordsOfAnObject}

pub two_groups : TwoGroups
unfolding history_of finish
two_groups = refl

pub offsets_in_a_chunk : OffsetsInAChunk
unfolding history_of finish
offsets_in_a_chunk = refl

pub objects_of_a_whole_unit : ObjectsOfAWholeUnit
unfolding history_of finish
objects_of_a_whole_unit = refl

pub no_frames_for_a_chunk : NoFramesForAChunk
unfolding history_of finish
no_frames_for_a_chunk = refl

pub no_space_for_a_chunk : NoSpaceForAChunk
unfolding history_of finish
no_space_for_a_chunk = refl

pub units_that_share_an_allocation : UnitsThatShareAnAllocation
unfolding history_of finish
units_that_share_an_allocation = refl

pub a_sum_below_thirty_two_bits : ASumBelowThirtyTwoBits
unfolding history_of finish
a_sum_below_thirty_two_bits = refl

pub words_of_an_object : WordsOfAnObject
unfolding history_of finish
words_of_an_object = refl
