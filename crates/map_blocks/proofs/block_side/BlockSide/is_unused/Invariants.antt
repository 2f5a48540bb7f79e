use Rattle.map_blocks.proofs.SortedByNumber.{Holds}
use Rattle.map_blocks.proofs.BlockConditions.{IsApart, IsClear}
use Rattle.map_blocks.proofs.block_side.BlockSide.is_unused.Given as goal

abbrev pub invariant-loop-block : goal.invariant-loop-block
invariant-loop-block l =
    (Holds (IsApart l.start) l.block-iterator → Holds (IsApart l.start) l.initial.block-iterator)
    × (Holds (IsClear l.self.pages l.start) l.initial.block-iterator → Holds (IsClear l.self.pages l.start) l.block-iterator)
