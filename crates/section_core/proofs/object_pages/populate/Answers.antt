use Rattle.std.proofs.Common.{◌≡◌, ◌<◌, ◌≤◌, true, length, ap, sym, ◌∙◌, subst}
use Rattle.vm_model.specs.Setup.{Setup, pages_in_units}
use Rattle.vm_model.specs.Space.{is_among}
use Rattle.vm_model.specs.PageSets.{pages_in}
use Rattle.vm_model.specs.Frames.{pages_of_bytes}
use Rattle.page_pool.specs.PageMap.{free_of, IsMapped}
use Rattle.page_pool.specs.PageMap as pool
use Rattle.page_pool.specs.Units.{AreDistinct, pages_at, with_frames_for, with_zeroed}
use Rattle.chunk_slots.specs.ChunkRegion.{at_of}
use Rattle.section_core.specs.RegionSides.{pages_region}
use Rattle.section_core.specs.MadeSections.{IsMoved}
use Rattle.section_core.proofs.PageSections.{distinct_once, mapped_then, populates, populates_none}
use Rattle.section_core.proofs.object_pages.populate.Goals as goal

pub populate-requires-clause-bare : goal.populate-requires-clause-bare
populate-requires-clause-bare c = λ page h.
    let units = c.units-units.ensures ∙ ap (λ (x : Setup). x.units) c.config.ensures in
    let among = subst (λ us. is_among (pages_at c.args.placed.base us (pages_in c.args.placed.missing)) page ≡ true) units h in
    record { unmapped = c.requires.stands.ready.0.unmapped page among; not_stale = c.requires.stands.ready.0.not_stale page among }

pub populate-requires-clause-distinct : goal.populate-requires-clause-distinct
populate-requires-clause-distinct c =
    let units = c.units-units.ensures ∙ ap (λ (x : Setup). x.units) c.config.ensures in
    subst (λ us. AreDistinct (pages_at c.args.placed.base us (pages_in c.args.placed.missing))) (sym units)
    (distinct_once (pages_in_units c.args.local.now.setup c.args.placed.base (pages_in c.args.placed.missing)) c.requires.stands.ready.0.once)

pub zero_words-requires : goal.zero_words-requires
zero_words-requires c = record {
  mapped = λ page h.
      let units = c.units-units.ensures ∙ ap (λ (x : Setup). x.units) c.config.ensures in
      let among = subst (λ us. is_among (pages_at c.args.placed.base us (pages_of_bytes c.args.placed.off c.args.placed.bytes)) page ≡ true) units h in
      let low = subst (λ us. length (pages_at c.args.placed.base us (pages_in c.args.placed.missing)) ≤ length (free_of c.args.pages.now)) units c.in-Ok.ensures.enough in
      let populated = c.in-Ok.ensures.mapped ∙ ap (λ us. with_frames_for (pages_at c.args.placed.base us (pages_in c.args.placed.missing)) c.args.pages.now) units in
      subst (λ (p : pool.Pages). IsMapped p page) (sym populated)
      (mapped_then c.args.pages.now (pages_in_units c.args.local.now.setup c.args.placed.base (pages_in c.args.placed.missing)) page low c.requires.stands.ready.0.unmapped (c.requires.stands.ready.2 page among));
}

pub returns-in-Ok : goal.returns-in-Ok
returns-in-Ok c =
    let units = c.units-units.ensures ∙ ap (λ (x : Setup). x.units) c.config.ensures in
    let low = subst (λ us. length (pages_at c.args.placed.base us (pages_in c.args.placed.missing)) ≤ length (free_of c.args.pages.now)) units c.in-Ok.ensures.enough in
    populates c.args.local.now c.args.pages.now c.requires.stands.memory (at_of c.args.placed) (pages_in c.args.placed.missing) c.go.new.self c.zero_words.new.self c.requires.at.place low c.go.ensures
    (c.zero_words.ensures.zeroed ∙ ap (with_zeroed c.args.placed.base c.units-units.result.now c.args.placed.off c.args.placed.bytes) c.in-Ok.ensures.mapped
    ∙ ap (λ us. with_zeroed c.args.placed.base us c.args.placed.off c.args.placed.bytes (with_frames_for (pages_at c.args.placed.base us (pages_in c.args.placed.missing)) c.args.pages.now)) units)

pub returns-in-Err : goal.returns-in-Err
returns-in-Err c =
    let units = c.units-units.ensures ∙ ap (λ (x : Setup). x.units) c.config.ensures in
    let few = subst (λ us. length (free_of c.args.pages.now) < length (pages_at c.args.placed.base us (pages_in c.args.placed.missing))) units c.in-Err.ensures.too_few in
    subst (λ (p : pool.Pages). IsMoved c.args.local.now (pages_region c.args.pages.now) c.go-in-Err.new.self (pages_region p)) (sym c.in-Err.ensures.err)
    (populates_none c.args.local.now c.args.pages.now c.requires.stands.memory (at_of c.args.placed) (pages_in c.args.placed.missing) c.go-in-Err.new.self c.requires.at.place few c.go-in-Err.ensures)
