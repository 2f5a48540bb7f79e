use Rattle.std.proofs.Common.{◌≡◌, ◌+◌, ◌*◌, ◌/◌, ◌%◌, ◌<◌, ◌≤◌, ℕ, List, ℤ, pos, vec_capacity, length, get_or, ap, sym, ◌∙◌, subst, arith}
use Rattle.std.proofs.lemmas.List.{get_or_read, with_items_is}
use Rattle.vm_model.specs.Space.{span, holds, paint}
use Rattle.vm_model.proofs.Paint.{length-paint_from}
use Rattle.page_pool.specs.GroupedLists.{with_groups, AreGroups}
use Rattle.page_pool.proofs.WrittenGroups.{length-with_groups, cleared_unwritten, groups_cleared, cleared_in_group}
use Rattle.page_pool.proofs.cells.Cells.clear_in_group.Goals as goal

pub index-requires : goal.index-requires
index-requires c =
    let long = length-with_groups (pos 0) c.self.inside.numbers.items c.self.inside.written.items (1024 * c.self.inside.frames) in
    let same = ap length c.self.view_is in
    omega (arith, c.self.invariant.places, c.self.inside.numbers.ok.0)

-- the number of the group that is cleared
numbered : (numbers : List ℕ) (cells first count read : ℕ) → cells ≤ 128 * length numbers → first + count ≤ cells → 0 < count → read ≡ get_or numbers (first / 128) read → read ≡ get_or numbers (first / 128) 0
numbered numbers cells first count read places inside some is = get_or_read numbers _ _ (let e : first / 128 < length numbers = omega arith in e) is 0

pub clear_words-requires : goal.clear_words-requires
clear_words-requires c =
    let numbers = c.self.inside.numbers.items in
    let cells = 1024 * c.self.inside.frames in
    let long = length-with_groups (pos 0) numbers c.self.inside.written.items cells in
    let same = ap length c.self.view_is in
    let number = numbered numbers cells c.args.first c.args.count c.index.result.now c.self.invariant.places (omega arith) c.requires.some c.index.ensures in
    omega (arith, c.self.invariant.groups.within (c.args.first / 128), ap length c.as_mut_slice.ensures.value, c.requires.group)

pub invariant_of-self : goal.invariant_of-self
invariant_of-self c =
    let written = c.self.inside.written.items in
    let place = c.index.result.now * 128 + c.args.first % 128 in
    let now : c.clear_words.new.words ≡ paint (holds (span place c.args.count)) (pos 0) written = c.clear_words.ensures ∙ ap (paint (holds (span place c.args.count)) (pos 0)) c.as_mut_slice.ensures.value in
    let items = with_items_is c.self.inside.written c.clear_words.new.words (ap length now ∙ length-paint_from (holds (span place c.args.count)) (pos 0) written 0 ∙ sym c.self.inside.written.ok.0) in
    record {
      groups = subst (λ words. AreGroups ℤ (pos 0) c.self.inside.numbers.items words (vec_capacity c.self.inside.written)) (sym (items ∙ now))
          (groups_cleared (pos 0) c.self.inside.numbers.items written (vec_capacity c.self.inside.written) place c.args.count c.self.invariant.groups);
      places = c.self.invariant.places;
    }

pub returns-then-number-gt0 : goal.returns-then-number-gt0
returns-then-number-gt0 c =
    let numbers = c.self.inside.numbers.items in
    let written = c.self.inside.written.items in
    let cells = 1024 * c.self.inside.frames in
    let place = c.index.result.now * 128 + c.args.first % 128 in
    let long = length-with_groups (pos 0) numbers written cells in
    let same = ap length c.self.view_is in
    let number = numbered numbers cells c.args.first c.args.count c.index.result.now c.self.invariant.places (omega arith) c.requires.some c.index.ensures in
    let now : c.clear_words.new.words ≡ paint (holds (span place c.args.count)) (pos 0) written = c.clear_words.ensures ∙ ap (paint (holds (span place c.args.count)) (pos 0)) c.as_mut_slice.ensures.value in
    let items = with_items_is c.self.inside.written c.clear_words.new.words (ap length now ∙ length-paint_from (holds (span place c.args.count)) (pos 0) written 0 ∙ sym c.self.inside.written.ok.0) in
    ap (λ words. with_groups (pos 0) numbers words cells) (items ∙ now)
    ∙ ap (λ i. with_groups (pos 0) numbers (paint (holds (span i c.args.count)) (pos 0) written) cells) (let e : place ≡ 128 * get_or numbers (c.args.first / 128) 0 + c.args.first % 128 = omega arith in e)
    ∙ cleared_in_group (pos 0) numbers written (vec_capacity c.self.inside.written) cells c.args.first c.args.count c.self.invariant.groups (omega arith) c.requires.group
    ∙ ap (paint (holds (span c.args.first c.args.count)) (pos 0)) c.self.view_is

pub returns-else-number-gt0 : goal.returns-else-number-gt0
returns-else-number-gt0 c =
    let numbers = c.self.inside.numbers.items in
    let written = c.self.inside.written.items in
    let cells = 1024 * c.self.inside.frames in
    let long = length-with_groups (pos 0) numbers written cells in
    let same = ap length c.self.view_is in
    let number = numbered numbers cells c.args.first c.args.count c.index.result.now c.self.invariant.places (omega arith) c.requires.some c.index.ensures in
    sym c.self.view_is
    ∙ cleared_unwritten (pos 0) numbers written (vec_capacity c.self.inside.written) cells c.args.first c.args.count c.self.invariant.groups (omega arith) c.requires.group
    ∙ ap (paint (holds (span c.args.first c.args.count)) (pos 0)) c.self.view_is
