use Rattle.std.proofs.Common.{◌∙◌, ap}
use Rattle.vm_model.specs.Places as model
use Rattle.vm_model.specs.History.{moved_to}
use Rattle.vm_model.specs.Next.{next}
use Rattle.vm_model.specs.Events.{Dirty}
use Rattle.callers.specs.CarriedPlaces.{carried_at}
use Rattle.section_core.proofs.BlockSections.{looks}
use Rattle.section_core.proofs.purge.look_at_dirty.Goals as goal

pub returns : goal.returns
returns c =
    looks c.args.local.now c.args.blocks.now c.requires.stands.own (carried_at c.args.local.now.place).ranges c.saw_dirty.new.self (c.requires.at.place ∙ ap (λ n. model.LookingAtDirty n (carried_at c.args.local.now.place).ranges) c.requires.stands.cpu)
    (c.saw_dirty.ensures ∙ ap (λ n. moved_to c.args.local.now (next c.args.local.now.setup c.args.local.now.place (Dirty n c.dirty_hull.result))) c.requires.stands.cpu
    ∙ ap (λ o. moved_to c.args.local.now (next c.args.local.now.setup c.args.local.now.place (Dirty c.args.blocks.now.cpu o))) c.dirty_hull.ensures.hull)
