use Rattle.std.proofs.Common.{refl, ap, ◌∙◌}
use Rattle.busy_areas.specs.LiveAreaRows.{with_new}
use Rattle.section_core.proofs.GroupSections.{has_groups, starts_within, are_areas, settled_pages, settled_unused, settled_disjoint, settled_serials, settled_ends, settles_groups}
use Rattle.section_core.proofs.groups.settle_groups.Goals as goal

pub group_areas-requires-clause-within : goal.group_areas-requires-clause-within
group_areas-requires-clause-within c =
    let has = has_groups c.args.local.now.setup c.config.result.now c.groups-groups.result.now c.config.result.now.layout.atom c.config.ensures c.groups-groups.ensures refl in
    starts_within c.args.local.now.setup c.groups-groups.result.now c.config.result.now.layout.atom c.requires.at.setup has c.args.base
    (settled_ends c.args.local.now.setup c.args.busy.now.areas c.args.busy.now.next c.args.base c.requires.at.setup c.requires.stands.ready)

pub insert_all-requires-clause-pages : goal.insert_all-requires-clause-pages
insert_all-requires-clause-pages c =
    let has = has_groups c.args.local.now.setup c.config.result.now c.groups-groups.result.now c.config.result.now.layout.atom c.config.ensures c.groups-groups.ensures refl in
    settled_pages c.args.local.now.setup c.groups-groups.result.now c.config.result.now.layout.atom has c.args.wanted.number c.args.base c.args.busy.now c.requires.stands.ready c.deref.result.now (c.deref.ensures.value ∙ c.in_ok-areas.ensures)

pub insert_all-requires-clause-unused : goal.insert_all-requires-clause-unused
insert_all-requires-clause-unused c =
    let has = has_groups c.args.local.now.setup c.config.result.now c.groups-groups.result.now c.config.result.now.layout.atom c.config.ensures c.groups-groups.ensures refl in
    settled_unused c.args.local.now.setup c.groups-groups.result.now c.config.result.now.layout.atom has c.args.wanted.number c.args.base c.args.busy.now c.requires.stands.ready c.deref.result.now (c.deref.ensures.value ∙ c.in_ok-areas.ensures)

pub insert_all-requires-clause-disjoint : goal.insert_all-requires-clause-disjoint
insert_all-requires-clause-disjoint c =
    let has = has_groups c.args.local.now.setup c.config.result.now c.groups-groups.result.now c.config.result.now.layout.atom c.config.ensures c.groups-groups.ensures refl in
    settled_disjoint c.args.local.now.setup c.groups-groups.result.now c.config.result.now.layout.atom has c.args.wanted.number c.args.base c.args.busy.now c.requires.stands.ready c.deref.result.now (c.deref.ensures.value ∙ c.in_ok-areas.ensures)

pub insert_all-requires-clause-serials : goal.insert_all-requires-clause-serials
insert_all-requires-clause-serials c =
    let has = has_groups c.args.local.now.setup c.config.result.now c.groups-groups.result.now c.config.result.now.layout.atom c.config.ensures c.groups-groups.ensures refl in
    settled_serials c.args.local.now.setup c.groups-groups.result.now c.config.result.now.layout.atom has c.args.wanted.number c.args.base c.args.busy.now c.requires.stands.ready c.deref.result.now (c.deref.ensures.value ∙ c.in_ok-areas.ensures)

pub returns-clause-ok : goal.returns-clause-ok
returns-clause-ok c =
    let has = has_groups c.args.local.now.setup c.config.result.now c.groups-groups.result.now c.config.result.now.layout.atom c.config.ensures c.groups-groups.ensures refl in
    settles_groups c.args.local.now c.args.base c.args.wanted.number c.args.wanted.object.bytes c.args.wanted.object.align c.args.busy.now c.insert_all.new.self c.go.new.self c.requires.at.place c.go.ensures
    (c.in_ok-insert_all.ensures.ok ∙ ap (λ k. with_new k c.deref.result.now c.args.busy.now) c.caller.ensures
    ∙ ap (λ new. with_new c.args.local.now.caller new c.args.busy.now) (are_areas c.args.local.now.setup c.groups-groups.result.now c.config.result.now.layout.atom has c.args.wanted.number c.args.base c.args.busy.now c.requires.stands.ready c.deref.result.now (c.deref.ensures.value ∙ c.in_ok-areas.ensures)))
