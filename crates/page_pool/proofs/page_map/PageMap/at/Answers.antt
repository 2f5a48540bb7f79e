use Rattle.std.proofs.Common.{◌≡◌, ◌+◌, ◌*◌, ◌/◌, ◌%◌, ◌<◌, None, length, get_or, ap, sym, ◌∙◌, arith}
use Rattle.std.proofs.lemmas.List.{get_or_read}
use Rattle.page_pool.proofs.WrittenGroups.{length-with_groups, read_group}
use Rattle.page_pool.proofs.page_map.PageMap.at.Goals as goal

pub index-requires : goal.index-requires
index-requires c =
    let long = length-with_groups None c.self.inside.numbers.items c.self.inside.written.items c.self.inside.pages in
    let same = ap length c.self.view_is in
    omega (arith, c.self.invariant.places, c.self.inside.numbers.ok.0)

pub index-requires-2 : goal.index-requires-2
index-requires-2 c =
    let numbers = c.self.inside.numbers.items in
    let long = length-with_groups None numbers c.self.inside.written.items c.self.inside.pages in
    let same = ap length c.self.view_is in
    let low : c.args.page / 128 < length numbers = omega (arith, c.self.invariant.places) in
    let number : c.index.result.now ≡ get_or numbers (c.args.page / 128) 0 = get_or_read numbers _ _ low c.index.ensures 0 in
    omega (arith, c.self.invariant.groups.within (c.args.page / 128), c.self.inside.written.ok.0)

pub returns : goal.returns
returns c =
    let numbers = c.self.inside.numbers.items in
    let written = c.self.inside.written.items in
    let long = length-with_groups None numbers written c.self.inside.pages in
    let same = ap length c.self.view_is in
    let low : c.args.page / 128 < length numbers = omega (arith, c.self.invariant.places) in
    let number : c.index.result.now ≡ get_or numbers (c.args.page / 128) 0 = get_or_read numbers _ _ low c.index.ensures 0 in
    let at : c.index.result.now * 128 + c.args.page % 128 < length written = omega (arith, c.self.invariant.groups.within (c.args.page / 128)) in
    let place : c.index.result.now * 128 + c.args.page % 128 ≡ 128 * get_or numbers (c.args.page / 128) 0 + c.args.page % 128 = omega arith in
    get_or_read written _ _ at c.index-2.ensures None
    ∙ ap (λ i. get_or written i None) place
    ∙ sym (read_group None numbers written c.self.inside.pages c.args.page c.index-2.result.now (omega arith))
    ∙ ap (λ frames. get_or frames c.args.page c.index-2.result.now) c.self.view_is
