use Rattle.std.proofs.Common.{◌≡◌, ◌<◌, length, map, slice_get, Some, option_map, ap, sym, ◌∙◌, arith}
use Rattle.std.proofs.lemmas.Option.{slice_get-get_or}
use Rattle.chunk_slots.specs.KeptObjects.{holder_in}
use Rattle.chunk_slots.specs.ChunkRegion.{ChunkRegion, numbers_in_order}
use Rattle.chunk_slots.proofs.RowLists.{length_in_view}
use Rattle.chunk_slots.proofs.InSlots.{chunk_of, get_chunk, order_in_view, length_slots}
use Rattle.chunk_slots.proofs.pcpu_side.PcpuSide.in_order.Goals as goal

pub index-requires : goal.index-requires
index-requires c =
    let i = c.self.inside in
    let long : length i.slots.items ≡ length i.chunks.items = ap length c.self.invariant.slots_are ∙ length_slots i.chunks.items in
    let same = ap (λ (r : ChunkRegion). length r.chunks) c.self.view_is in
    omega (arith, c.requires, long, same, length_in_view (holder_in i.holders) i.chunks.items)

pub returns : goal.returns
returns c =
    let i = c.self.inside in let h = holder_in i.holders in
    let long : length i.slots.items ≡ length i.chunks.items = ap length c.self.invariant.slots_are ∙ length_slots i.chunks.items in
    let same = ap (λ (r : ChunkRegion). length r.chunks) c.self.view_is in
    let within : c.args.place < length i.slots.items = omega (arith, c.requires, long, same, length_in_view h i.chunks.items) in
    let there : slice_get i.slots.items c.args.place ≡ Some c.index.result.now = slice_get-get_or i.slots.items c.args.place c.index.result.now within ∙ ap Some (sym c.index.ensures) in
    sym (ap (λ (r : ChunkRegion). slice_get (numbers_in_order r) c.args.place) c.self.view_is)
    ∙ sym (ap (λ ns. slice_get ns c.args.place) (ap (map chunk_of) c.self.invariant.slots_are ∙ order_in_view i.unit_pages i.next_chunk h i.chunks.items c.self.invariant.rows_are))
    ∙ get_chunk c.args.place i.slots.items
    ∙ ap (option_map chunk_of) there
