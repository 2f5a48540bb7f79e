use Rattle.std.proofs.Common.{◌≡◌, ◌-◌, ◌++◌, None, vec_len, replicate, take, rules, ap, ◌∙◌}
use Rattle.page_pool.specs.GroupedLists.{with_groups}
use Rattle.page_pool.proofs.WrittenGroups.{blank_groups}
use Rattle.page_pool.proofs.page_map.PageMap.unmapped.Goals as goal

pub returns : goal.returns
returns c =
    let groups = c.div_ceil-groups.result in
    let numbers : c.in_ok-numbers.numbers.items ≡ replicate groups 0 = search rules in
    let written : c.resize.new.self.items ≡ replicate 128 None =
    c.in_ok-resize.ensures.items
    ∙ ap (λ xs. take 128 xs ++ replicate (128 - vec_len c.in_ok-written.written) None) c.in_ok-written.ensures.items
    ∙ ap (λ n. replicate (128 - n) None) c.in_ok-written.ensures.len in
    ap (λ ns. with_groups None ns c.resize.new.self.items c.args.pages) numbers
    ∙ ap (λ ws. with_groups None (replicate groups 0) ws c.args.pages) written
    ∙ blank_groups None groups c.args.pages
