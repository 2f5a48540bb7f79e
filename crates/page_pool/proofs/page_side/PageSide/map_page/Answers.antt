use Rattle.std.proofs.Common.{◌≡◌, ◌+◌, List, Option, ℕ, Some, None, slice_get, ap, sym, subst, ◌∙◌}
use Rattle.page_pool.specs.PageMap.{Pages, IsKept}
use Rattle.page_pool.proofs.KeptBesidePages.{one_mapped_fits, kept_one_mapped}
use Rattle.page_pool.proofs.page_side.PageSide.map_page.Goals as goal

pub overflow_add-self : goal.overflow_add-self
overflow_add-self c =
    let p : Pages = record { frames = c.self.inside.frames; stale = c.self.inside.stale; cells = c.self.inside.cells } in
    let page = c.args.base + c.args.unit + c.args.page in
    let unmapped : slice_get p.frames page ≡ Some None = ap (λ (v : Pages). slice_get v.frames page) c.self.view_is ∙ c.requires.bare.unmapped in
    record { fits = one_mapped_fits p c.self.inside.free c.self.inside.mapped page c.self.invariant unmapped }

pub invariant_of-self : goal.invariant_of-self
invariant_of-self c =
    let p : Pages = record { frames = c.self.inside.frames; stale = c.self.inside.stale; cells = c.self.inside.cells } in
    let page = c.args.base + c.args.unit + c.args.page in
    let unmapped : slice_get p.frames page ≡ Some None = ap (λ (v : Pages). slice_get v.frames page) c.self.view_is ∙ c.requires.bare.unmapped in
    subst (λ (frames : List (Option ℕ)). IsKept (record { frames = frames; stale = c.self.inside.stale; cells = c.self.inside.cells }) c.take_lowest-frame.new.self (c.self.inside.mapped + 1)) (sym c.set.ensures)
    (kept_one_mapped p c.self.inside.free c.take_lowest-frame.new.self c.self.inside.mapped page c.take_lowest-frame.result c.self.invariant unmapped c.take_lowest-frame.ensures)
