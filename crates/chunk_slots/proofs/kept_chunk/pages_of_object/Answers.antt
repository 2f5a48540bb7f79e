use Rattle.std.proofs.Common.{◌≡◌, ℕ, suc, ◌+◌, ◌-◌, ◌/◌, ap, sym, ◌∙◌, arith}
use Rattle.vm_model.specs.Space.{count_from, is_among}
use Rattle.vm_model.specs.PageSets.{has_page}
use Rattle.vm_model.proofs.Tabulated.{filter-same}
use Rattle.vm_model.specs.PageSets.{pages_in}
use Rattle.chunk_slots.proofs.PagesInRow.{inside, from_before, among_pages}
use Rattle.chunk_slots.proofs.kept_chunk.pages_of_object.Goals as goal

pub returns-clause-pages : goal.returns-clause-pages
unfolding pages_in
returns-clause-pages c =
    let first : ℕ = c.args.off / 4096 in
    let count : ℕ = (c.args.off + c.args.bytes - 1) / 4096 + 1 - c.args.off / 4096 in
    let same : count ≡ suc ((c.args.off + c.args.bytes - 1) / 4096) - c.args.off / 4096 = omega arith in
    filter-same (has_page c.pages_from.result) (inside first (first + count)) 64 0 (λ page low high. c.pages_from.ensures page (omega arith))
    ∙ from_before first count 64 0 (omega arith) (omega (arith, c.requires.some, c.requires.within)) ∙ ap (λ n. count_from n first) same

pub returns-clause-among : goal.returns-clause-among
returns-clause-among c =
    let first : ℕ = c.args.off / 4096 in
    let count : ℕ = (c.args.off + c.args.bytes - 1) / 4096 + 1 - c.args.off / 4096 in
    let same : count ≡ suc ((c.args.off + c.args.bytes - 1) / 4096) - c.args.off / 4096 = omega arith in
    λ page low. c.pages_from.ensures page low ∙ sym (among_pages count first page) ∙ ap (λ n. is_among (count_from n first) page) same
