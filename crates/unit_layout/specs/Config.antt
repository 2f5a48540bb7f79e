-- The machine that the numbers of a header and a layout give.
use Rattle.std.specs.Prelude.{[]}
use Rattle.vm_model.specs.Setup.{Setup}
use Rattle.unit_layout.specs.declared.config.Config.{Config}
use Rattle.unit_layout.specs.LayoutRule.{with_layout}

abbrev pub setup_of : Config → Setup
setup_of config = with_layout config.layout (record {
  space = config.space;
  frames = config.frames;
  lazy = config.lazy;
  block_pages = config.block_pages;
  part_limit = config.part_limit;
  unit_pages = 0;
  atom = 0;
  groups = [];
  units = [];
})
