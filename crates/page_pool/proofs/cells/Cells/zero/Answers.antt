use Rattle.std.proofs.Common.{◌≡◌, ◌-◌, ◌*◌, ◌++◌, pos, vec_len, replicate, take, rules, ap, ◌∙◌}
use Rattle.page_pool.specs.GroupedLists.{with_groups}
use Rattle.page_pool.proofs.WrittenGroups.{blank_groups}
use Rattle.page_pool.proofs.cells.Cells.zero.Goals as goal

pub returns : goal.returns
returns c =
    let groups = 8 * c.args.frames in
    let cells = 1024 * c.args.frames in
    let numbers : c.in_ok-numbers.numbers.items ≡ replicate groups 0 = search rules in
    let written : c.resize.new.self.items ≡ replicate 128 (pos 0) =
    c.in_ok-resize.ensures.items
    ∙ ap (λ xs. take 128 xs ++ replicate (128 - vec_len c.in_ok-written.written) (pos 0)) c.in_ok-written.ensures.items
    ∙ ap (λ n. replicate (128 - n) (pos 0)) c.in_ok-written.ensures.len in
    ap (λ ns. with_groups (pos 0) ns c.resize.new.self.items cells) numbers
    ∙ ap (λ ws. with_groups (pos 0) (replicate groups 0) ws cells) written
    ∙ blank_groups (pos 0) groups cells
