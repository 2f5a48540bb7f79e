use Rattle.std.proofs.Common.{◌≡◌, ◌+◌, ◌*◌, ◌/◌, ◌%◌, ◌<◌, pos, length, get_or, to_z, of_z, w64, ap, sym, ◌∙◌, arith}
use Rattle.std.proofs.lemmas.Int.{ints}
use Rattle.std.proofs.lemmas.List.{get_or_read}
use Rattle.page_pool.proofs.WrittenGroups.{length-with_groups, read_group}
use Rattle.page_pool.proofs.cells.Cells.read.Goals as goal

pub index-requires : goal.index-requires
index-requires c =
    let long = length-with_groups (pos 0) c.self.inside.numbers.items c.self.inside.written.items (1024 * c.self.inside.frames) in
    let same = ap length c.self.view_is in
    omega (arith, c.self.invariant.places, c.self.inside.numbers.ok.0)

pub index-requires-2 : goal.index-requires-2
index-requires-2 c =
    let numbers = c.self.inside.numbers.items in
    let long = length-with_groups (pos 0) numbers c.self.inside.written.items (1024 * c.self.inside.frames) in
    let same = ap length c.self.view_is in
    let low : c.args.cell / 128 < length numbers = omega (arith, c.self.invariant.places) in
    let number : c.index.result.now ≡ get_or numbers (c.args.cell / 128) 0 = get_or_read numbers _ _ low c.index.ensures 0 in
    omega (arith, c.self.invariant.groups.within (c.args.cell / 128), c.self.inside.written.ok.0)

pub returns : goal.returns
returns c =
    let numbers = c.self.inside.numbers.items in
    let written = c.self.inside.written.items in
    let cells = 1024 * c.self.inside.frames in
    let long = length-with_groups (pos 0) numbers written cells in
    let same = ap length c.self.view_is in
    let low : c.args.cell / 128 < length numbers = omega (arith, c.self.invariant.places) in
    let number : c.index.result.now ≡ get_or numbers (c.args.cell / 128) 0 = get_or_read numbers _ _ low c.index.ensures 0 in
    let at : c.index.result.now * 128 + c.args.cell % 128 < length written = omega (arith, c.self.invariant.groups.within (c.args.cell / 128)) in
    let place : c.index.result.now * 128 + c.args.cell % 128 ≡ 128 * get_or numbers (c.args.cell / 128) 0 + c.args.cell % 128 = omega arith in
    (let e : to_z w64 (of_z w64 c.index-2.result.now) ≡ c.index-2.result.now = omega (arith, ints) in e)
    ∙ get_or_read written _ _ at c.index-2.ensures (pos 0)
    ∙ ap (λ i. get_or written i (pos 0)) place
    ∙ sym (read_group (pos 0) numbers written cells c.args.cell (pos 0) (omega arith))
    ∙ ap (λ words. get_or words c.args.cell (pos 0)) c.self.view_is
