use Rattle.std.proofs.Common.{◌≡◌, ℕ, false, List, length, slice_get, Option, Some, None, refl, ap, sym, ◌∙◌, subst, arith}
use Rattle.vm_model.specs.PlainMap.{Chunk}
use Rattle.vm_model.specs.Chunks.{chunks_numbered, change_chunk, with_page}
use Rattle.chunk_slots.specs.KeptObjects.{holder_in}
use Rattle.chunk_slots.specs.KeptChunks.{KeptRow, slot_in, with_pages}
use Rattle.chunk_slots.specs.KeptChunkSides.{number_of, chunk_in, chunks_in, IsKeptRow}
use Rattle.chunk_slots.specs.ChunkRegion.{ChunkRegion, with_populated}
use Rattle.chunk_slots.proofs.RowLists.{chunks_changed}
use Rattle.chunk_slots.proofs.SideStaysKept.{empty_of, are_low, empty_few, empty_within, kept_changed}
use Rattle.vm_model.specs.PageSets.{has_page}
use Rattle.chunk_slots.proofs.SideCalls.{chunk_there, get_within, found_row, missing_row, same_place, slot_stays, region_by, row_populated, view_populated}
use Rattle.chunk_slots.proofs.pcpu_side.PcpuSide.set_populated.Goals as goal

first_of : ℕ → ChunkRegion → Option Chunk
first_of n r = slice_get (chunks_numbered n r.chunks) 0

pub unreachable-requires : goal.unreachable-requires
unfolding first_of
unreachable-requires c =
    let i = c.self.inside in let h = holder_in i.holders in
    let it = chunk_there h i.unit_pages i.next_chunk i.chunks.items c.args.chunk c.requires.row c.self.invariant.numbers c.self.invariant.rows_are (ap (first_of c.args.chunk) c.self.view_is ∙ c.requires.found) in
    let clash : None ≡ Some it.index = sym (missing_row c.args.chunk c.from.result c.index_of.result i.chunks.items c.deref.result.now c.deref.ensures.value c.from.ensures c.index_of.ensures c.in_default.is) ∙ it.index_is in cc

pub index_mut-kept-requires : goal.index_mut-kept-requires
index_mut-kept-requires c =
    let found = found_row c.args.chunk c.from.result c.in-Some.index c.index_of.result c.self.inside.chunks.items c.deref.result.now c.self.invariant.numbers c.deref.ensures.value c.from.ensures c.index_of.ensures c.in-Some.is in
    let within = found.within in let long = ap length c.deref.ensures.value in
    omega arith

pub pages_from-requires-clause-within : goal.pages_from-requires-clause-within
unfolding first_of
pages_from-requires-clause-within c =
    let i = c.self.inside in let h = holder_in i.holders in
    let it = chunk_there h i.unit_pages i.next_chunk i.chunks.items c.args.chunk c.requires.row c.self.invariant.numbers c.self.invariant.rows_are (ap (first_of c.args.chunk) c.self.view_is ∙ c.requires.found) in
    omega (arith, get_within c.args.page c.requires.row.populated false c.requires.unpopulated, ap (λ (r : Chunk). length r.populated) it.value_is, it.kept.pages_are, c.self.invariant.most)

pub overflow_sub-self : goal.overflow_sub-self
unfolding first_of
overflow_sub-self c =
    let i = c.self.inside in let h = holder_in i.holders in
    let it = chunk_there h i.unit_pages i.next_chunk i.chunks.items c.args.chunk c.requires.row c.self.invariant.numbers c.self.invariant.rows_are (ap (first_of c.args.chunk) c.self.view_is ∙ c.requires.found) in
    let same = same_place c.args.chunk c.from.result c.in-Some.index c.index_of.result i.chunks.items c.deref.result.now it.index c.deref.ensures.value c.from.ensures c.index_of.ensures c.in-Some.is it.index_is in
    let row = it.read c.in-Some.index c.index_mut-kept.result.now same c.index_mut-kept.ensures.value in
    omega (arith, empty_within it.index it.row c.self.invariant it.there, ap empty_of row)

pub overflow_add-self : goal.overflow_add-self
overflow_add-self c = omega (arith, empty_few c.self.invariant, c.empty-2.type_inv)

pub invariant_of-self : goal.invariant_of-self
unfolding first_of
invariant_of-self c =
    let i = c.self.inside in let h = holder_in i.holders in
    let it = chunk_there h i.unit_pages i.next_chunk i.chunks.items c.args.chunk c.requires.row c.self.invariant.numbers c.self.invariant.rows_are (ap (first_of c.args.chunk) c.self.view_is ∙ c.requires.found) in
    let same = same_place c.args.chunk c.from.result c.in-Some.index c.index_of.result i.chunks.items c.deref.result.now it.index c.deref.ensures.value c.from.ensures c.index_of.ensures c.in-Some.is it.index_is in
    let row = it.read c.in-Some.index c.index_mut-kept.result.now same c.index_mut-kept.ensures.value in
    let made = c.populate.ensures ∙ ap (with_pages (has_page c.pages_from.result)) row in
    let there = ap (slice_get i.chunks.items) same ∙ it.there in
    let within = empty_within it.index it.row c.self.invariant it.there in
    let old_empty = ap empty_of row in
    kept_changed c.in-Some.index it.row c.populate.new.self i.slots.items h _ i.next_object i.spare _ _ c.self.invariant there (ap number_of made)
    (subst (IsKeptRow i.unit_pages i.next_chunk h) (sym made) (row_populated h i.unit_pages i.next_chunk (has_page c.pages_from.result) it.row it.kept))
    (λ other apart k. k)
    (slot_stays c.in-Some.index i.chunks.items it.row c.populate.new.self i.slots.items c.self.invariant.numbers (are_low c.self.invariant) c.self.invariant.slots_are c.self.invariant.slots_rise there (ap slot_in made))
    c.self.invariant.slots_room
    (omega arith)
    (omega (arith, ap (λ (r : KeptRow). length r.bits.objects) made))
    c.self.invariant.room
    c.self.invariant.serials

pub returns : goal.returns
unfolding first_of
returns c =
    let i = c.self.inside in let h = holder_in i.holders in
    let it = chunk_there h i.unit_pages i.next_chunk i.chunks.items c.args.chunk c.requires.row c.self.invariant.numbers c.self.invariant.rows_are (ap (first_of c.args.chunk) c.self.view_is ∙ c.requires.found) in
    let same = same_place c.args.chunk c.from.result c.in-Some.index c.index_of.result i.chunks.items c.deref.result.now it.index c.deref.ensures.value c.from.ensures c.index_of.ensures c.in-Some.is it.index_is in
    let row = it.read c.in-Some.index c.index_mut-kept.result.now same c.index_mut-kept.ensures.value in
    let made = c.populate.ensures ∙ ap (with_pages (has_page c.pages_from.result)) row in
    let region : List Chunk → ChunkRegion = region_by i.unit_pages i.next_object i.next_chunk i.spare in
    ap region
    (chunks_changed h h (IsKeptRow i.unit_pages i.next_chunk h) (with_page c.args.page) 0 c.in-Some.index i.chunks.items it.row c.populate.new.self c.self.invariant.numbers (ap (slice_get i.chunks.items) same ∙ it.there)
    (ap (chunk_in h) made ∙ view_populated h i.unit_pages i.next_chunk c.args.page c.pages_from.result it.row it.kept c.self.invariant.most c.pages_from.ensures)
    (λ other apart k. refl) c.self.invariant.rows_are)
    ∙ ap (λ n. region (change_chunk n (with_page c.args.page) (chunks_in h i.chunks.items))) it.number
    ∙ ap (with_populated c.args.chunk c.args.page) c.self.view_is
