use Rattle.std.proofs.Common.{◌+◌, drop, refl, sym, ap, ◌∙◌}
use Rattle.std.proofs.lemmas.List.{drop_all}
use Rattle.map_blocks.specs.KeptBlockSides.{without_all}
use Rattle.map_blocks.proofs.Fragments.{without_more}
use Rattle.map_blocks.proofs.queues.remove_all.Goals as goal

pub loop-start-init : goal.loop-start-init
loop-start-init c = refl

pub loop-start-preserved : goal.loop-start-preserved
loop-start-preserved c = ap (without_all (drop (c.loop-start.start-index + 1) c.args.starts.now)) c.remove.ensures.entries ∙ without_more c.args.starts.now c.loop-start.start-index c.loop-start.blocks.entries c.loop-start-test.true ∙ c.loop-start.invariant

pub returns : goal.returns
returns c = ap (λ ks. without_all ks c.loop-start.blocks.entries) (sym (drop_all c.loop-start.start-index c.args.starts.now c.loop-start-test.false)) ∙ c.loop-start.invariant
