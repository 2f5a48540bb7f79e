use Rattle.std.proofs.Common.{◌≡◌, ◌<◌, length, option_map, ap, sym, ◌∙◌, arith}
use Rattle.vm_model.specs.Chunks.{slot, empty_count}
use Rattle.chunk_slots.specs.ChunksBySlot.{slot_key}
use Rattle.chunk_slots.specs.ChunkRegion.{ChunkRegion, setup_of, in_order}
use Rattle.chunk_slots.proofs.InSlots.{length_sorted}
use Rattle.populate_balance.specs.Balance.{placed_page}
use Rattle.populate_balance.proofs.Unpopulated.{past_one, page_found, none_found}
use Rattle.populate_balance.proofs.fill.next_page.Goals as goal

pub loop-place-preserved : goal.loop-place-preserved
loop-place-preserved c =
    past_one c.args.side.now c.loop-place.place c.in_order-chunk.result c.lowest_unpopulated-lowest.result c.chunks-place-end.ensures.rising c.in_order-chunk.ensures c.lowest_unpopulated-lowest.ensures
    (sym c.is_some.ensures ∙ c.if-is_some.false) c.loop-place.invariant

pub returns-then-is_some : goal.returns-then-is_some
returns-then-is_some c =
    let r : ChunkRegion = c.args.side.now in
    let few : empty_count (setup_of r) r.chunks < 4 = omega (arith, c.empty_pages.ensures, c.if-empty_pages-ge-EMPTY_PAGES.false) in
    page_found r c.loop-place.place c.in_order-chunk.result c.lowest_unpopulated-lowest.result c.chunks-place-end.ensures.rising c.chunks-place-end.ensures.small few c.in_order-chunk.ensures
    c.lowest_unpopulated-lowest.ensures (sym c.is_some.ensures ∙ c.if-is_some.true) c.loop-place.invariant

pub returns : goal.returns
returns c =
    let r : ChunkRegion = c.args.side.now in
    let few : empty_count (setup_of r) r.chunks < 4 = omega (arith, c.empty_pages.ensures, c.if-empty_pages-ge-EMPTY_PAGES.false) in
    let long : length (in_order r) ≡ length r.chunks = length_sorted (λ h. slot_key (slot (setup_of r) h) h.number) r.chunks in
    sym
    (ap (option_map placed_page)
    (none_found r c.loop-place.place c.chunks-place-end.ensures.rising c.chunks-place-end.ensures.small few (omega (arith, long, c.chunks-place-end.ensures.count, c.loop-place-test.false)) c.loop-place.invariant))
