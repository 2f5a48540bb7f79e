use Rattle.std.proofs.Common.{sym, ◌∙◌, ap, subst}
use Rattle.vm_model.specs.Places as model
use Rattle.vm_model.specs.Next.{next}
use Rattle.vm_model.specs.Events.{Fragment}
use Rattle.vm_model.specs.History.{moved_to}
use Rattle.map_blocks.specs.BlockRows as rows
use Rattle.callers.specs.CarriedPlaces.{then_of, carried_at}
use Rattle.section_core.specs.RegionSides.{blocks_region}
use Rattle.section_core.specs.MadeSections.{IsMoved}
use Rattle.section_core.proofs.BlockSections.{fragments, fragments_with_memory}
use Rattle.section_core.proofs.TurnSections.{ok_both, err_then}
use Rattle.section_core.proofs.purge.take_fragmented.Goals as goal

pub returns-clause-ok : goal.returns-clause-ok
returns-clause-ok c =
    ok_both c.take_fragmented.result
    (λ local blocks.
    subst (λ s. IsMoved c.args.local.now (blocks_region c.args.blocks.now) c.take_fragmented.new.self (blocks_region s)) (sym blocks)
    (fragments c.args.local.now c.args.blocks.now c.requires.stands.own (carried_at c.args.local.now.place).gone c.args.extra (then_of c.args.after) c.take_fragmented.new.self
    (c.requires.at.place ∙ ap (λ n. model.PurgeFragmenting n (carried_at c.args.local.now.place).gone c.args.extra (then_of c.args.after)) c.requires.stands.cpu)
    (local ∙ ap (λ n. moved_to c.args.local.now (next c.args.local.now.setup c.args.local.now.place (Fragment n (rows.fragmented c.args.blocks.now)))) c.requires.stands.cpu)))
    c.take_fragmented.ensures.local c.take_fragmented.ensures.blocks

pub returns-clause-memory : goal.returns-clause-memory
returns-clause-memory c =
    err_then c.take_fragmented.result
    (λ some. fragments_with_memory c.args.local.now c.args.blocks.now c.requires.stands.own (carried_at c.args.local.now.place).gone c.args.extra (then_of c.args.after)
    (c.requires.at.place ∙ ap (λ n. model.PurgeFragmenting n (carried_at c.args.local.now.place).gone c.args.extra (then_of c.args.after)) c.requires.stands.cpu) some)
    c.take_fragmented.ensures.memory
