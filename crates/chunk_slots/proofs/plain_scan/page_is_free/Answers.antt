use Rattle.std.proofs.Common.{◌≡◌, ◌+◌, ◌-◌, ◌*◌, ◌==◌, take, drop, ap, ◌∙◌, arith}
use Rattle.vm_model.specs.Bits.{leading_free}
use Rattle.vm_model.proofs.FreePlaces.{left_free}
use Rattle.chunk_slots.proofs.plain_scan.page_is_free.Goals as goal

pub returns : goal.returns
returns c =
    let low = 1024 * c.args.page in
    let whole : low + 1024 - low ≡ 1024 = omega arith in
    ap (λ n. n == 1024) (c.free_at_front.ensures ∙ ap (λ n. leading_free (take n (drop low c.args.bits.now))) whole) ∙ left_free 1024 (drop low c.args.bits.now)
