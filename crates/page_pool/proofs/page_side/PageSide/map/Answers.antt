use Rattle.std.proofs.Common.{◌≡◌, ℕ, Some, None, slice_get, true, ap, ◌∙◌, arith}
use Rattle.vm_model.specs.Space.{holds}
use Rattle.page_pool.specs.PageMap.{Pages}
use Rattle.page_pool.proofs.KeptBesidePages.{kept_mapped, mapped_fits}
use Rattle.page_pool.proofs.page_side.PageSide.map.Goals as goal

pub overflow_add-self : goal.overflow_add-self
overflow_add-self c =
    let p : Pages = record { frames = c.self.inside.frames; stale = c.self.inside.stale; cells = c.self.inside.cells } in
    let unmapped : (page : ℕ) → holds c.args.span page ≡ true → slice_get p.frames page ≡ Some None = λ page h. ap (λ (v : Pages). slice_get v.frames page) c.self.view_is ∙ (c.requires.bare page h).unmapped in
    record { fits = mapped_fits p c.self.inside.free c.self.inside.mapped c.args.span c.self.invariant unmapped (omega arith) }

pub invariant_of-self : goal.invariant_of-self
invariant_of-self c =
    let p : Pages = record { frames = c.self.inside.frames; stale = c.self.inside.stale; cells = c.self.inside.cells } in
    let unmapped : (page : ℕ) → holds c.args.span page ≡ true → slice_get p.frames page ≡ Some None = λ page h. ap (λ (v : Pages). slice_get v.frames page) c.self.view_is ∙ (c.requires.bare page h).unmapped in
    kept_mapped p c.self.inside.free c.give_lowest.new.free c.self.inside.mapped c.args.span c.give_lowest.new.frames c.self.invariant unmapped (omega arith)
    c.give_lowest.ensures.frames c.give_lowest.ensures.free c.give_lowest.ensures.shared
