use Rattle.std.proofs.Common.{◌≡◌, ◌+◌, ◌*◌, ◌/◌, ◌%◌, ℤ, pos, vec_capacity, length, get_or, slice_set, to_z, of_z, w64, ap, sym, ◌∙◌, subst, arith}
use Rattle.std.proofs.lemmas.Int.{ints}
use Rattle.page_pool.specs.GroupedLists.{with_groups, AreGroups}
use Rattle.page_pool.proofs.WrittenGroups.{length-with_groups, groups_set, written_in_group, same_view}
use Rattle.page_pool.proofs.cells.Cells.write.Goals as goal

pub own_group-first-requires-clause-within : goal.own_group-first-requires-clause-within
own_group-first-requires-clause-within c =
    let long = length-with_groups (pos 0) c.self.inside.numbers.items c.self.inside.written.items (1024 * c.self.inside.frames) in
    let same = ap length c.self.view_is in
    omega (arith, c.self.invariant.places)

pub index_mut-requires : goal.index_mut-requires
index_mut-requires c =
    let own = c.own_group-first.ensures in
    omega (arith, own.at, own.groups.within (c.args.cell / 128), c.own_group-first.new.written.ok.0)

pub invariant_of-self : goal.invariant_of-self
invariant_of-self c =
    let own = c.own_group-first.ensures in
    let numbers = c.own_group-first.new.numbers.items in
    let written = c.own_group-first.new.written.items in
    let capacity = vec_capacity c.own_group-first.new.written in
    let word = to_z w64 (of_z w64 c.args.word) in
    let place : c.own_group-first.result + c.args.cell % 128 ≡ 128 * get_or numbers (c.args.cell / 128) 0 + c.args.cell % 128 = omega (arith, own.at) in
    record {
      groups = subst (λ i. AreGroups ℤ (pos 0) numbers (slice_set written i word) capacity) (sym place)
          (groups_set (pos 0) word numbers written capacity (c.args.cell / 128) (c.args.cell % 128) own.groups own.own);
      places = omega (arith, own.count, c.self.invariant.places);
    }

pub returns : goal.returns
returns c =
    let own = c.own_group-first.ensures in
    let numbers = c.own_group-first.new.numbers.items in
    let written = c.own_group-first.new.written.items in
    let cells = 1024 * c.self.inside.frames in
    let long = length-with_groups (pos 0) c.self.inside.numbers.items c.self.inside.written.items cells in
    let same = ap length c.self.view_is in
    let word : to_z w64 (of_z w64 c.args.word) ≡ c.args.word = omega (arith, ints) in
    let place : c.own_group-first.result + c.args.cell % 128 ≡ 128 * get_or numbers (c.args.cell / 128) 0 + c.args.cell % 128 = omega (arith, own.at) in
    ap (λ w. with_groups (pos 0) numbers (slice_set written (c.own_group-first.result + c.args.cell % 128) w) cells) word
    ∙ ap (λ i. with_groups (pos 0) numbers (slice_set written i c.args.word) cells) place
    ∙ written_in_group (pos 0) c.args.word numbers written (vec_capacity c.own_group-first.new.written) cells c.args.cell own.groups own.own (omega arith)
    ∙ ap (λ words. slice_set words c.args.cell c.args.word) (same_view (pos 0) c.self.inside.numbers.items numbers c.self.inside.written.items written cells own.same ∙ c.self.view_is)
