use Rattle.std.proofs.Common.{◌≡◌, ℕ, Option, Some, option_map, option_and_then, ap, sym, ◌∙◌, subst}
use Rattle.std.specs.Prelude.{IfSome}
use Rattle.vm_model.specs.PlainMap.{Chunk}
use Rattle.vm_model.specs.Chunks.{page_in}
use Rattle.chunk_slots.specs.ChunkRegion.{ChunkRegion, setup_of}
use Rattle.populate_balance.specs.Balance.{placed_page, told_page}
use Rattle.populate_balance.proofs.NumberedChunks.{chunk_by, no_chunk_by}
use Rattle.populate_balance.proofs.Unpopulated.{lowest_is}
use Rattle.populate_balance.proofs.fill.lowest_unpopulated.Goals as goal

pub returns-in_err-index : goal.returns-in_err-index
returns-in_err-index c =
    let r : ChunkRegion = c.args.side.now in
    ap (option_map told_page) c.from_residual.ensures
    ∙ sym (ap (λ (o : Option Chunk). option_map placed_page (option_and_then (page_in (setup_of r)) o)) (no_chunk_by c.args.chunk c.find.result r.chunks c.find.ensures.index c.in_err-index.was))

pub populated_at-requires : goal.populated_at-requires
populated_at-requires c = (chunk_by c.args.chunk c.in_ok-index.index c.find.result c.args.side.now.chunks c.find.ensures.rising c.find.ensures.index c.in_ok-index.was).within

pub base_at-base-requires : goal.base_at-base-requires
base_at-base-requires c = (chunk_by c.args.chunk c.in_ok-index.index c.find.result c.args.side.now.chunks c.find.ensures.rising c.find.ensures.index c.in_ok-index.was).within

pub returns-in_err-page : goal.returns-in_err-page
returns-in_err-page c =
    let r : ChunkRegion = c.args.side.now in
    let it = chunk_by c.args.chunk c.in_ok-index.index c.find.result r.chunks c.find.ensures.rising c.find.ensures.index c.in_ok-index.was in
    ap (option_map told_page) c.from_residual-in_err-page.ensures
    ∙ sym
    (ap (option_map placed_page)
    (lowest_is r c.in_ok-index.index c.unit_pages.result c.args.chunk c.lowest_missing.result c.populated_at.result it c.unit_pages.ensures.pages c.populated_at.ensures.each c.lowest_missing.ensures
    ∙ ap (option_map (λ page. (it.chunk, page))) c.in_err-page.was))

abbrev told : ℕ → ℕ → ℕ → Option (ℕ × ℕ × ℕ)
told n base page = Some (n, base, page)

pub returns : goal.returns
returns c =
    let r : ChunkRegion = c.args.side.now in
    let it = chunk_by c.args.chunk c.in_ok-index.index c.find.result r.chunks c.find.ensures.rising c.find.ensures.index c.in_ok-index.was in
    let base : c.base_at-base.result ≡ it.chunk.base = subst (λ (o : Option Chunk). IfSome o (λ h. c.base_at-base.result ≡ h.base)) it.there c.base_at-base.ensures in
    ap (λ n. told n c.base_at-base.result c.in_ok-page.page) (sym it.number)
    ∙ ap (λ n. told it.chunk.number n c.in_ok-page.page) base
    ∙ sym
    (ap (option_map placed_page)
    (lowest_is r c.in_ok-index.index c.unit_pages.result c.args.chunk c.lowest_missing.result c.populated_at.result it c.unit_pages.ensures.pages c.populated_at.ensures.each c.lowest_missing.ensures
    ∙ ap (option_map (λ page. (it.chunk, page))) c.in_ok-page.was))
