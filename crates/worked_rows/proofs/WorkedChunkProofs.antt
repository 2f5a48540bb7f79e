-- What the worked traces of chunks leave, computed.
use Rattle.std.proofs.Common.{refl}
use Rattle.vm_model.specs.History.{history_of, finish}
use Rattle.worked_rows.specs.WorkedChunks.{HintsOverAHole, TheHoleIsTaken, AlignedFits, ABalanceWithoutFrames, AtomicAndBalance, ASecondChunk, SpareChunksArePurged, SpareChunksGo}

pub hints_over_a_hole : HintsOverAHole
unfolding history_of finish
hints_over_a_hole = refl

pub the_hole_is_taken : TheHoleIsTaken
unfolding history_of finish
the_hole_is_taken = refl

pub aligned_fits : AlignedFits
unfolding history_of finish
aligned_fits = refl

pub a_balance_without_frames : ABalanceWithoutFrames
unfolding history_of finish
a_balance_without_frames = refl

pub atomic_and_balance : AtomicAndBalance
unfolding history_of finish
atomic_and_balance = refl

pub a_second_chunk : ASecondChunk
unfolding history_of finish
a_second_chunk = refl

pub spare_chunks_are_purged : SpareChunksArePurged
unfolding history_of finish
spare_chunks_are_purged = refl

pub spare_chunks_go : SpareChunksGo
unfolding history_of finish
spare_chunks_go = refl
