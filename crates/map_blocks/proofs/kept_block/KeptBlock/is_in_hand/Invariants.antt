use Rattle.std.proofs.Common.{◌≡◌, ◌==◌, find, drop}
use Rattle.vm_model.specs.PlainMap.{Part}
use Rattle.map_blocks.proofs.kept_block.KeptBlock.is_in_hand.Given as goal

abbrev pub invariant-loop-part : goal.invariant-loop-part
invariant-loop-part l = find (λ (p : Part). p.offset == l.offset) (drop l.part-index l.part-items) ≡ find (λ (p : Part). p.offset == l.offset) l.part-items
