use Rattle.std.proofs.Common.{◌≡◌, ◌<◌, ◌≤◌, true, ◌∷◌, [], length, ap, sym, ◌∙◌, subst, arith}
use Rattle.vm_model.specs.Setup.{Setup, pages_in_units}
use Rattle.vm_model.specs.Space.{is_among}
use Rattle.page_pool.specs.PageMap.{free_of}
use Rattle.page_pool.specs.PageMap as pool
use Rattle.page_pool.specs.Units.{AreDistinct, pages_at, with_frames_for}
use Rattle.section_core.specs.RegionSides.{pages_region}
use Rattle.section_core.specs.MadeSections.{IsMoved}
use Rattle.section_core.proofs.PageSections.{distinct_once, one_page, fills, fills_none}
use Rattle.section_core.proofs.balance.fill.Goals as goal

pub populate-requires-clause-bare : goal.populate-requires-clause-bare
populate-requires-clause-bare c = λ page h.
    let units = c.units-units.ensures ∙ ap (λ (x : Setup). x.units) c.config.ensures in
    let most = c.requires.at.setup.unit_high in let own = c.requires.stands.ready.1 in
    let one = one_page c.pages_from.result c.args.page (omega arith) c.pages_from.ensures in
    let among = subst (λ us. is_among (pages_at c.args.base us (c.args.page ∷ [])) page ≡ true) units (subst (λ pages. is_among (pages_at c.args.base c.units-units.result.now pages) page ≡ true) one h) in
    record { unmapped = c.requires.stands.ready.0.unmapped page among; not_stale = c.requires.stands.ready.0.not_stale page among }

pub populate-requires-clause-distinct : goal.populate-requires-clause-distinct
populate-requires-clause-distinct c =
    let units = c.units-units.ensures ∙ ap (λ (x : Setup). x.units) c.config.ensures in
    let most = c.requires.at.setup.unit_high in let own = c.requires.stands.ready.1 in
    let one = one_page c.pages_from.result c.args.page (omega arith) c.pages_from.ensures in
    subst (λ pages. AreDistinct (pages_at c.args.base c.units-units.result.now pages)) (sym one)
    (subst (λ us. AreDistinct (pages_at c.args.base us (c.args.page ∷ []))) (sym units) (distinct_once (pages_in_units c.args.local.now.setup c.args.base (c.args.page ∷ [])) c.requires.stands.ready.0.once))

pub returns-in-Ok : goal.returns-in-Ok
returns-in-Ok c =
    let units = c.units-units.ensures ∙ ap (λ (x : Setup). x.units) c.config.ensures in
    let most = c.requires.at.setup.unit_high in let own = c.requires.stands.ready.1 in
    let one = one_page c.pages_from.result c.args.page (omega arith) c.pages_from.ensures in
    let low = subst (λ us. length (pages_at c.args.base us (c.args.page ∷ [])) ≤ length (free_of c.args.pages.now)) units
    (subst (λ pages. length (pages_at c.args.base c.units-units.result.now pages) ≤ length (free_of c.args.pages.now)) one c.in-Ok.ensures.enough) in
    fills c.args.local.now c.args.pages.now c.requires.stands.memory c.args.chunk c.args.base c.args.page c.args.filled c.go.new.self c.populate.new.self c.requires.at.place low c.go.ensures
    (c.in-Ok.ensures.mapped ∙ ap (λ pages. with_frames_for (pages_at c.args.base c.units-units.result.now pages) c.args.pages.now) one
    ∙ ap (λ us. with_frames_for (pages_at c.args.base us (c.args.page ∷ [])) c.args.pages.now) units)

pub returns-in-Err : goal.returns-in-Err
returns-in-Err c =
    let units = c.units-units.ensures ∙ ap (λ (x : Setup). x.units) c.config.ensures in
    let most = c.requires.at.setup.unit_high in let own = c.requires.stands.ready.1 in
    let one = one_page c.pages_from.result c.args.page (omega arith) c.pages_from.ensures in
    let few = subst (λ us. length (free_of c.args.pages.now) < length (pages_at c.args.base us (c.args.page ∷ []))) units
    (subst (λ pages. length (free_of c.args.pages.now) < length (pages_at c.args.base c.units-units.result.now pages)) one c.in-Err.ensures.too_few) in
    subst (λ (p : pool.Pages). IsMoved c.args.local.now (pages_region c.args.pages.now) c.go-in-Err.new.self (pages_region p)) (sym c.in-Err.ensures.err)
    (fills_none c.args.local.now c.args.pages.now c.requires.stands.memory c.args.chunk c.args.base c.args.page c.args.filled c.go-in-Err.new.self c.requires.at.place few c.go-in-Err.ensures)
