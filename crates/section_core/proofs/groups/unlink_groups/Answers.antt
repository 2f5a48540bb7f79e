use Rattle.std.proofs.Common.{refl, ap, sym, ◌∙◌}
use Rattle.vm_model.specs.Areas.{areas_elsewhere}
use Rattle.section_core.proofs.GroupSections.{has_groups, are_starts, starts_within, unlinks_groups}
use Rattle.section_core.proofs.groups.unlink_groups.Goals as goal

pub group_starts-requires-clause-within : goal.group_starts-requires-clause-within
group_starts-requires-clause-within c =
    let has = has_groups c.args.local.now.setup c.config.result.now c.groups-groups.result.now c.config.result.now.layout.atom c.config.ensures c.groups-groups.ensures refl in
    starts_within c.args.local.now.setup c.groups-groups.result.now c.config.result.now.layout.atom c.requires.at.setup has c.args.base c.requires.stands.unlinked

pub returns : goal.returns
returns c =
    let has = has_groups c.args.local.now.setup c.config.result.now c.groups-groups.result.now c.config.result.now.layout.atom c.config.ensures c.groups-groups.ensures refl in
    unlinks_groups c.args.local.now c.args.base c.args.busy.now c.unlink.new.self c.unlinked_groups.new.self c.requires.at.place c.unlinked_groups.ensures
    (c.unlink.ensures.others ∙ ap (λ starts. record c.args.busy.now { areas = areas_elsewhere starts c.args.busy.now.areas })
    (c.as_slice-2.ensures ∙ c.group_starts.ensures ∙ sym (are_starts c.args.local.now.setup c.groups-groups.result.now c.config.result.now.layout.atom c.requires.at.setup has c.args.base)))
