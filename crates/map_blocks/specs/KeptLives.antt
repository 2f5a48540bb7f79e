-- Lives as blocks keep them.
use Rattle.vm_model.specs.PlainMap.{Life, InHand, Lives, Ended}
use Rattle.map_blocks.specs.declared.kept_part.KeptLife.{KeptLife}
use Rattle.map_blocks.specs.declared.kept_part.KeptLife.TheVariants as kept

abbrev pub life_of : KeptLife → Life
life_of (kept.InHand caller) = InHand caller
life_of (kept.Lives serial) = Lives serial
life_of kept.Ended = Ended
