use Rattle.std.proofs.Common.{◌∙◌, sym, ap}
use Rattle.vm_model.specs.Parts as parts
use Rattle.vm_model.specs.Parts.{Region, FreeRuns, LiveAreas, WaitingSpans}
use Rattle.page_pool.specs.PageMap as pool
use Rattle.busy_areas.specs.LiveAreaRows.{LiveRows}
use Rattle.section_core.specs.RegionSides.{percpu_region}
use Rattle.section_core.proofs.RegionStarts.{free_at_first, same_regions}
use Rattle.section_core.proofs.region.first_regions.Goals as goal

pub returns : goal.returns
returns c =
    same_regions c.in_ok-regions.regions.items c.push_blocks.new.regions.items _ _ _ _ _ _ _ _ _ _ _ _ _ _ _ _ _ c.in_ok-regions.ensures.items c.in_ok-push_blocks.ensures c.of.ensures c.of-2.ensures c.of-3.ensures
    (c.of-4.ensures ∙ ap (λ blocks. FreeRuns blocks) (c.in_ok-free.ensures.free ∙ sym (free_at_first c.args.config.now.space)))
    (c.of-5.ensures ∙ ap (λ (rows : LiveRows). LiveAreas rows.areas rows.next) c.new-2.ensures.empty)
    (c.of-6.ensures ∙ ap (λ spans. WaitingSpans spans) c.new-3.ensures.empty)
    (c.of-7.ensures ∙ ap (λ (p : pool.Pages). parts.Pages p.frames p.stale p.cells) c.in_ok-pages.ensures.first)
    (c.of-8.ensures ∙ ap percpu_region c.in_ok-percpu.ensures)
