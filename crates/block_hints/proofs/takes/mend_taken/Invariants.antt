use Rattle.chunk_bitmaps.specs.ChunkMap.{taken_bits}
use Rattle.block_hints.proofs.HintsMended.{AreMendedUpTo}
use Rattle.block_hints.proofs.takes.mend_taken.Given as goal

abbrev pub invariant-loop-block : goal.invariant-loop-block
invariant-loop-block l = AreMendedUpTo (taken_bits l.bits) l.initial.blocks l.blocks l.block
