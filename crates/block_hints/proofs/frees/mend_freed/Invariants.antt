use Rattle.chunk_bitmaps.specs.ChunkMap.{taken_bits}
use Rattle.block_hints.proofs.HintsMended.{AreMendedUpTo}
use Rattle.block_hints.proofs.frees.mend_freed.Given as goal

abbrev pub invariant-loop-block : goal.invariant-loop-block
invariant-loop-block l = AreMendedUpTo (taken_bits l.bits) l.initial.blocks l.blocks l.block
