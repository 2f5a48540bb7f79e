-- What the drawn traces show, computed.
use Rattle.std.proofs.Common.{◌≡◌, true, refl}
use Rattle.std.specs.List.{list_all}
use Rattle.law_tests.specs.Machines.{model}
use Rattle.law_tests.specs.LawChecks.{passes, keeps_all}
use Rattle.law_tests.specs.DrawnBlocks.{drawn_blocks}
use Rattle.law_tests.specs.LawTests.{DrawnBlocksKeepTheLaws}

drawn_blocks_kept : list_all (passes keeps_all model) drawn_blocks ≡ true
drawn_blocks_kept = refl

pub blocks_keep : DrawnBlocksKeepTheLaws
blocks_keep = drawn_blocks_kept
