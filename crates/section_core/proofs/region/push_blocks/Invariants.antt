use Rattle.std.proofs.Common.{◌≡◌, ◌++◌, map}
use Rattle.unit_layout.specs.Config.{setup_of}
use Rattle.vm_model.specs.PlainMap.{at_first}
use Rattle.vm_model.specs.Parts.{cpu_blocks}
use Rattle.vm_model.specs.Space.{count_from}
use Rattle.section_core.proofs.region.push_blocks.Given as goal

abbrev pub invariant-loop-cpu : goal.invariant-loop-cpu
invariant-loop-cpu l = l.regions.items ≡ l.initial.regions.items ++ map (cpu_blocks (at_first (setup_of l.config) 0) l.config.block_pages) (count_from l.cpu 0)
