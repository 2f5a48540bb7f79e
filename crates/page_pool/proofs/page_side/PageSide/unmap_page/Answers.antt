use Rattle.std.proofs.Common.{◌+◌, ◌-◌, List, Option, ℕ, Some, length, ap, sym, subst, arith}
use Rattle.page_pool.specs.PageMap.{Pages, IsKept}
use Rattle.page_pool.proofs.SharedFrames.{frame_of_page}
use Rattle.page_pool.proofs.KeptBesidePages.{kept_one_unmapped, read_at}
use Rattle.page_pool.proofs.page_side.PageSide.unmap_page.Goals as goal

pub put_back-requires : goal.put_back-requires
put_back-requires c =
    let page = c.args.base + c.args.unit + c.args.page in
    let frames = c.self.inside.frames in
    let long = ap (λ (v : Pages). length v.frames) c.self.view_is in
    let mapped = read_at frames page c.at-mapped.result (Some c.in-Some.frame) (omega arith) c.at-mapped.ensures c.in-Some.is in
    let here = frame_of_page frames c.self.inside.free page c.in-Some.frame c.self.invariant.shared mapped in
    record { memory = here.0; taken = here.1 }

pub invariant_of-self-2 : goal.invariant_of-self-2
invariant_of-self-2 c =
    let page = c.args.base + c.args.unit + c.args.page in
    let p : Pages = record { frames = c.self.inside.frames; stale = c.self.inside.stale; cells = c.self.inside.cells } in
    let long = ap (λ (v : Pages). length v.frames) c.self.view_is in
    let mapped = read_at p.frames page c.at-mapped.result (Some c.in-Some.frame) (omega arith) c.at-mapped.ensures c.in-Some.is in
    subst (λ (frames : List (Option ℕ)). IsKept (record { frames = frames; stale = c.mark_page.new.self; cells = c.self.inside.cells }) c.put_back.new.self (c.self.inside.mapped - 1)) (sym c.set.ensures)
    (kept_one_unmapped p c.self.inside.free c.put_back.new.self c.mark_page.new.self c.self.inside.mapped page c.in-Some.frame c.self.invariant mapped c.put_back.ensures c.mark_page.ensures)
