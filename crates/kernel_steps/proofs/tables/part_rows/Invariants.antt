use Rattle.std.proofs.Common.{◌≡◌, take, flat_map}
use Rattle.kernel_steps.specs.Kernels.{part_table_of}
use Rattle.kernel_steps.proofs.tables.part_rows.Given as goal

abbrev pub invariant-loop-region : goal.invariant-loop-region
invariant-loop-region l = l.rows.items ≡ flat_map part_table_of (take l.region-index l.regions)
