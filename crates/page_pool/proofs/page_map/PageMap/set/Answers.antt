use Rattle.std.proofs.Common.{◌≡◌, ◌+◌, ◌*◌, ◌/◌, ◌%◌, Option, ℕ, None, vec_capacity, length, get_or, slice_set, ap, sym, ◌∙◌, subst, arith}
use Rattle.page_pool.specs.GroupedLists.{with_groups, AreGroups}
use Rattle.page_pool.proofs.WrittenGroups.{length-with_groups, groups_set, written_in_group, same_view}
use Rattle.page_pool.proofs.page_map.PageMap.set.Goals as goal

pub own_group-first-requires : goal.own_group-first-requires
own_group-first-requires c =
    let long = length-with_groups None c.self.inside.numbers.items c.self.inside.written.items c.self.inside.pages in
    let same = ap length c.self.view_is in
    record { within = omega (arith, c.self.invariant.places); groups = c.self.invariant.groups }

pub index_mut-requires : goal.index_mut-requires
index_mut-requires c =
    let own = c.own_group-first.ensures in
    omega (arith, own.at, own.groups.within (c.args.page / 128), c.own_group-first.new.written.ok.0)

pub invariant_of-self : goal.invariant_of-self
invariant_of-self c =
    let own = c.own_group-first.ensures in
    let numbers = c.own_group-first.new.numbers.items in
    let written = c.own_group-first.new.written.items in
    let place : c.own_group-first.result + c.args.page % 128 ≡ 128 * get_or numbers (c.args.page / 128) 0 + c.args.page % 128 = omega (arith, own.at) in
    record {
      groups = subst (λ i. AreGroups (Option ℕ) None numbers (slice_set written i c.args.frame) (vec_capacity c.own_group-first.new.written)) (sym place)
          (groups_set None c.args.frame numbers written (vec_capacity c.own_group-first.new.written) (c.args.page / 128) (c.args.page % 128) own.groups own.own);
      places = omega (arith, own.count, c.self.invariant.places);
    }

pub returns : goal.returns
returns c =
    let own = c.own_group-first.ensures in
    let numbers = c.own_group-first.new.numbers.items in
    let written = c.own_group-first.new.written.items in
    let long = length-with_groups None c.self.inside.numbers.items c.self.inside.written.items c.self.inside.pages in
    let same = ap length c.self.view_is in
    let place : c.own_group-first.result + c.args.page % 128 ≡ 128 * get_or numbers (c.args.page / 128) 0 + c.args.page % 128 = omega (arith, own.at) in
    ap (λ i. with_groups None numbers (slice_set written i c.args.frame) c.self.inside.pages) place
    ∙ written_in_group None c.args.frame numbers written (vec_capacity c.own_group-first.new.written) c.self.inside.pages c.args.page own.groups own.own (omega arith)
    ∙ ap (λ frames. slice_set frames c.args.page c.args.frame) (same_view None c.self.inside.numbers.items numbers c.self.inside.written.items written c.self.inside.pages own.same ∙ c.self.view_is)
