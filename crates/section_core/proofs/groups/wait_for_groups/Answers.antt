use Rattle.std.proofs.Common.{All, ◌++◌, ◌≤◌, refl, ap, sym, subst, ◌∙◌}
use Rattle.vm_model.specs.Space.{times, sum_of_pages, HasEnd}
use Rattle.vm_model.specs.Setup.{groups_at}
use Rattle.lazy_purge.specs.WaitingSet.{HasPage}
use Rattle.section_core.proofs.GroupSections.{has_groups, are_spans, starts_within, can_wait, waits_and_purges, waits_and_spares}
use Rattle.section_core.proofs.groups.wait_for_groups.Goals as goal

pub group_spans-requires-clause-within : goal.group_spans-requires-clause-within
group_spans-requires-clause-within c =
    let has = has_groups c.args.local.now.setup c.config.result.now c.groups-groups.result.now c.config.result.now.layout.atom c.config.ensures c.groups-groups.ensures refl in
    starts_within c.args.local.now.setup c.groups-groups.result.now c.config.result.now.layout.atom c.requires.at.setup has c.args.base
    (can_wait c.args.local.now c.args.base c.args.lazy.now c.requires.at.groups c.requires.stands).ends

pub add-requires-clause-some : goal.add-requires-clause-some
add-requires-clause-some c =
    let has = has_groups c.args.local.now.setup c.config.result.now c.groups-groups.result.now c.config.result.now.layout.atom c.config.ensures c.groups-groups.ensures refl in
    subst (All HasPage) (sym (c.as_slice-2.ensures ∙ c.group_spans.ensures ∙ sym (are_spans c.args.local.now.setup c.groups-groups.result.now c.config.result.now.layout.atom c.requires.at.setup has c.args.base)))
    (can_wait c.args.local.now c.args.base c.args.lazy.now c.requires.at.groups c.requires.stands).some

pub add-requires-clause-ends : goal.add-requires-clause-ends
add-requires-clause-ends c =
    let has = has_groups c.args.local.now.setup c.config.result.now c.groups-groups.result.now c.config.result.now.layout.atom c.config.ensures c.groups-groups.ensures refl in
    subst (All HasEnd) (sym (c.as_slice-2.ensures ∙ c.group_spans.ensures ∙ sym (are_spans c.args.local.now.setup c.groups-groups.result.now c.config.result.now.layout.atom c.requires.at.setup has c.args.base)))
    (can_wait c.args.local.now c.args.base c.args.lazy.now c.requires.at.groups c.requires.stands).ends

pub add-requires-clause-disjoint : goal.add-requires-clause-disjoint
add-requires-clause-disjoint c page =
    let has = has_groups c.args.local.now.setup c.config.result.now c.groups-groups.result.now c.config.result.now.layout.atom c.config.ensures c.groups-groups.ensures refl in
    subst (λ spans. times page (c.args.lazy.now ++ spans) ≤ 1) (sym (c.as_slice-2.ensures ∙ c.group_spans.ensures ∙ sym (are_spans c.args.local.now.setup c.groups-groups.result.now c.config.result.now.layout.atom c.requires.at.setup has c.args.base)))
    ((can_wait c.args.local.now c.args.base c.args.lazy.now c.requires.at.groups c.requires.stands).disjoint page)

pub returns-then-lazy_limit-pages-clause-ok : goal.returns-then-lazy_limit-pages-clause-ok
returns-then-lazy_limit-pages-clause-ok c =
    let has = has_groups c.args.local.now.setup c.config.result.now c.groups-groups.result.now c.config.result.now.layout.atom c.config.ensures c.groups-groups.ensures refl in
    let same = c.as_slice-2.ensures ∙ c.group_spans.ensures ∙ sym (are_spans c.args.local.now.setup c.groups-groups.result.now c.config.result.now.layout.atom c.requires.at.setup has c.args.base) in
    waits_and_purges c.args.local.now (groups_at c.args.local.now.setup c.args.base) c.args.lazy.now c.add.new.self c.lazy_limit.result c.in_ok-pages.pages c.go.new.self c.requires.at.groups c.lazy_limit.ensures
    (c.in_ok-pages.ensures.pages ∙ ap (λ spans. sum_of_pages (c.args.lazy.now ++ spans)) same) (c.in_ok-pages.ensures.ok ∙ ap (λ spans. c.args.lazy.now ++ spans) same) c.if-lazy_limit-pages.true c.go.ensures

pub returns-else-lazy_limit-pages-clause-ok : goal.returns-else-lazy_limit-pages-clause-ok
returns-else-lazy_limit-pages-clause-ok c =
    let has = has_groups c.args.local.now.setup c.config.result.now c.groups-groups.result.now c.config.result.now.layout.atom c.config.ensures c.groups-groups.ensures refl in
    let same = c.as_slice-2.ensures ∙ c.group_spans.ensures ∙ sym (are_spans c.args.local.now.setup c.groups-groups.result.now c.config.result.now.layout.atom c.requires.at.setup has c.args.base) in
    waits_and_spares c.args.local.now (groups_at c.args.local.now.setup c.args.base) c.args.lazy.now c.add.new.self c.lazy_limit.result c.in_ok-pages.pages c.go-else-lazy_limit-pages.new.self c.requires.at.groups c.lazy_limit.ensures
    (c.in_ok-pages.ensures.pages ∙ ap (λ spans. sum_of_pages (c.args.lazy.now ++ spans)) same) (c.in_ok-pages.ensures.ok ∙ ap (λ spans. c.args.lazy.now ++ spans) same) c.if-lazy_limit-pages.false c.go-else-lazy_limit-pages.ensures
