use Rattle.std.proofs.Common.{◌∙◌, ap, subst, ◌<◌}
use Rattle.unit_layout.specs.Config.{setup_of}
use Rattle.vm_model.specs.Setup.{cpus}
use Rattle.map_blocks.specs.BlockRows.{BlockRows}
use Rattle.section_core.specs.RegionSides.{blocks_region}
use Rattle.section_core.proofs.RegionStarts.{blocks_pushed}
use Rattle.section_core.proofs.region.push_blocks.Goals as goal

pub loop-cpu-preserved : goal.loop-cpu-preserved
loop-cpu-preserved c =
    let low : c.loop-cpu.cpu < cpus (setup_of c.args.config.now) = subst (λ n. c.loop-cpu.cpu < n) c.cpus-cpu-end.ensures c.loop-cpu-test.true in
    blocks_pushed (setup_of c.args.config.now) c.args.regions.now.items c.loop-cpu.regions.items c.push.new.self.items c.of.result c.loop-cpu.cpu low c.loop-cpu.invariant
    (c.of.ensures ∙ ap (λ (side : BlockRows). blocks_region side) c.new-blocks.ensures) c.in_ok-push.ensures.items
