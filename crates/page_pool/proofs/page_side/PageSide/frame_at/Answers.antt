use Rattle.std.proofs.Common.{◌+◌, Some, length, ap, arith}
use Rattle.std.proofs.lemmas.Option.{slice_get_within}
use Rattle.page_pool.specs.PageMap.{Pages}
use Rattle.page_pool.proofs.SharedFrames.{frame_of_page}
use Rattle.page_pool.proofs.KeptBesidePages.{read_at}
use Rattle.page_pool.proofs.page_side.PageSide.frame_at.Goals as goal

pub returns-clause-memory : goal.returns-clause-memory
returns-clause-memory c =
    let page = c.args.base + c.args.unit + c.args.page in
    let frames = c.self.inside.frames in
    let within = slice_get_within c.args.self.now.frames page (Some c.requires.0) c.requires.1 in
    let long = ap (λ (v : Pages). length v.frames) c.self.view_is in
    let cells = ap (λ (v : Pages). length v.cells) c.self.view_is in
    let mapped = read_at frames page c.at.result (Some c.in-Some.frame) (omega arith) c.at.ensures c.in-Some.is in
    let low = (frame_of_page frames c.self.inside.free page c.in-Some.frame c.self.invariant.shared mapped).0 in
    omega (arith, c.self.invariant.all)
