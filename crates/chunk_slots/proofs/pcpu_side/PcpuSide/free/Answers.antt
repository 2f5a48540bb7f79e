use Rattle.std.proofs.Common.{◌≡◌, ◌≢◌, ◌*◌, ◌⊎◌, inl, inr, length, find, Some, option_map, ap, sym, ◌∙◌, arith}
use Rattle.vm_model.specs.declared.areas.Span.{Span}
use Rattle.vm_model.specs.PlainMap.{Object}
use Rattle.vm_model.specs.Chunks.{find_object}
use Rattle.chunk_slots.specs.KeptObjects.{object_key, object_by, holder_in}
use Rattle.chunk_slots.specs.KeptChunks.{bytes_at}
use Rattle.chunk_slots.specs.KeptChunkSides.{chunks_in, IsKeptRow}
use Rattle.chunk_slots.specs.ChunkRegion.{ChunkRegion, at_offset, live_bytes}
use Rattle.chunk_slots.proofs.RowLists.{each_at}
use Rattle.chunk_slots.proofs.SideCalls.{IsFoundObject, found_row, missing_row, object_in_chunk, object_in_row, mapped_none, held_never, starts_at, some_is}
use Rattle.chunk_slots.proofs.Placing.{live_in_row, live_nowhere, find_living, find_no_living, find_absent, lives_by_serial, lives_by_no_serial}
use Rattle.chunk_slots.proofs.pcpu_side.PcpuSide.free.Goals as goal
use Rattle.chunk_slots.proofs.pcpu_side.PcpuSide.free.Goals.{then-serial-eq0-via-then-serial-eq0, then-serial-eq0-via-else-serial-eq0+then-holder-serial}

pub returns-in_err-index-clause-bytes : goal.returns-in_err-index-clause-bytes
returns-in_err-index-clause-bytes c =
    let i = c.self.inside in
    c.from_residual.ensures
    ∙ sym (live_nowhere (holder_in i.holders) i.unit_pages i.next_object i.next_chunk i.spare c.args.chunk c.args.off c.args.serial i.chunks.items
    (missing_row c.args.chunk c.from.result c.index_of.result i.chunks.items c.deref.result.now c.deref.ensures.value c.from.ensures c.index_of.ensures c.in_err-index.was))
    ∙ ap (live_bytes c.args.chunk c.args.off c.args.serial) c.self.view_is

pub index-requires : goal.index-requires
index-requires c =
    let found = found_row c.args.chunk c.from.result c.in_ok-index.index c.index_of.result c.self.inside.chunks.items c.deref.result.now c.self.invariant.numbers c.deref.ensures.value c.from.ensures c.index_of.ensures c.in_ok-index.was in
    let within = found.within in let long = ap length c.deref.ensures.value in
    omega arith

pub returns-in_err-bytes-clause-bytes : goal.returns-in_err-bytes-clause-bytes
returns-in_err-bytes-clause-bytes c =
    let i = c.self.inside in let h = holder_in i.holders in
    let f = found_row c.args.chunk c.from.result c.in_ok-index.index c.index_of.result i.chunks.items c.deref.result.now c.self.invariant.numbers c.deref.ensures.value c.from.ensures c.index_of.ensures c.in_ok-index.was in
    let none = mapped_none (λ (s : Span). 4 * s.pages) (find (starts_at c.args.off) f.row.bits.objects) (sym (ap (bytes_at c.args.off) (f.read c.index.result.now c.index.ensures)) ∙ sym c.object_at.ensures ∙ c.in_err-bytes.was) in
    c.from_residual-in_err-bytes.ensures
    ∙ sym (live_in_row h i.unit_pages i.next_object i.next_chunk i.spare c.args.chunk c.args.off c.args.serial c.in_ok-index.index i.chunks.items f c.self.invariant.numbers
    ∙ ap (option_map (λ (o : Object). o.bytes)) (find_absent h f.row.number c.args.off c.args.serial f.row.bits.objects none))
    ∙ ap (live_bytes c.args.chunk c.args.off c.args.serial) c.self.view_is

pub returns-in_err-holder-clause-bytes : goal.returns-in_err-holder-clause-bytes
returns-in_err-holder-clause-bytes c =
    let i = c.self.inside in let h = holder_in i.holders in
    let f = found_row c.args.chunk c.from.result c.in_ok-index.index c.index_of.result i.chunks.items c.deref.result.now c.self.invariant.numbers c.deref.ensures.value c.from.ensures c.index_of.ensures c.in_ok-index.was in
    let kept = each_at (IsKeptRow i.unit_pages i.next_chunk h) c.in_ok-index.index i.chunks.items f.row c.self.invariant.rows_are f.there in
    let o : IsFoundObject h f.row c.args.off c.in_ok-bytes.bytes = object_in_row h i.unit_pages i.next_chunk f.row c.args.off c.in_ok-bytes.bytes kept (sym (ap (bytes_at c.args.off) (f.read c.index.result.now c.index.ensures)) ∙ sym c.object_at.ensures ∙ c.in_ok-bytes.was) in
    absurd (held_never h f.row.number c.args.chunk c.args.off c.get.result o.held f.number c.get.ensures c.in_err-holder.was)

pub returns-then-serial-eq0-clause-bytes : goal.returns-then-serial-eq0-clause-bytes
returns-then-serial-eq0-clause-bytes c =
    let i = c.self.inside in let h = holder_in i.holders in
    let f = found_row c.args.chunk c.from.result c.in_ok-index.index c.index_of.result i.chunks.items c.deref.result.now c.self.invariant.numbers c.deref.ensures.value c.from.ensures c.index_of.ensures c.in_ok-index.was in
    let had : h (object_key f.row.number c.args.off) ≡ Some c.in_ok-holder.holder = ap (λ n. h (object_key n c.args.off)) f.number ∙ sym c.get.ensures ∙ c.in_ok-holder.was in
    let why : (c.args.serial ≡ 0) ⊎ (c.in_ok-holder.holder.serial ≢ c.args.serial) =
    elim c.then-serial-eq0.branch [ then-serial-eq0-via-then-serial-eq0 w ↦ inl w.if-serial-eq0.true | then-serial-eq0-via-else-serial-eq0+then-holder-serial w ↦ inr w.if-holder-serial.true ] in
    sym (live_in_row h i.unit_pages i.next_object i.next_chunk i.spare c.args.chunk c.args.off c.args.serial c.in_ok-index.index i.chunks.items f c.self.invariant.numbers
    ∙ ap (option_map (λ (o : Object). o.bytes)) (find_no_living h f.row.number c.args.off c.args.serial c.in_ok-holder.holder f.row.bits.objects had (lives_by_no_serial c.args.serial c.in_ok-holder.holder why)))
    ∙ ap (live_bytes c.args.chunk c.args.off c.args.serial) c.self.view_is

pub give_up-requires : goal.give_up-requires
give_up-requires c =
    let i = c.self.inside in let h = holder_in i.holders in let at = at_offset c.args.chunk c.args.off in
    let f = found_row c.args.chunk c.from.result c.in_ok-index.index c.index_of.result i.chunks.items c.deref.result.now c.self.invariant.numbers c.deref.ensures.value c.from.ensures c.index_of.ensures c.in_ok-index.was in
    let kept = each_at (IsKeptRow i.unit_pages i.next_chunk h) c.in_ok-index.index i.chunks.items f.row c.self.invariant.rows_are f.there in
    let o : IsFoundObject h f.row c.args.off c.in_ok-bytes.bytes = object_in_row h i.unit_pages i.next_chunk f.row c.args.off c.in_ok-bytes.bytes kept (sym (ap (bytes_at c.args.off) (f.read c.index.result.now c.index.ensures)) ∙ sym c.object_at.ensures ∙ c.in_ok-bytes.was) in
    let found : find_object at (chunks_in h i.chunks.items) ≡ Some (object_by h f.row.number o.span) = object_in_chunk h c.in_ok-index.index i.chunks.items f.row at c.self.invariant.numbers f.there f.number ∙ ap (option_map (object_by h f.row.number)) o.found in
    record { there = some_is (find_object at c.args.self.now.chunks) (object_by h f.row.number o.span) (ap (λ (r : ChunkRegion). find_object at r.chunks) (sym c.self.view_is) ∙ found) }

pub returns-clause-bytes : goal.returns-clause-bytes
returns-clause-bytes c =
    let i = c.self.inside in let h = holder_in i.holders in
    let f = found_row c.args.chunk c.from.result c.in_ok-index.index c.index_of.result i.chunks.items c.deref.result.now c.self.invariant.numbers c.deref.ensures.value c.from.ensures c.index_of.ensures c.in_ok-index.was in
    let kept = each_at (IsKeptRow i.unit_pages i.next_chunk h) c.in_ok-index.index i.chunks.items f.row c.self.invariant.rows_are f.there in
    let o : IsFoundObject h f.row c.args.off c.in_ok-bytes.bytes = object_in_row h i.unit_pages i.next_chunk f.row c.args.off c.in_ok-bytes.bytes kept (sym (ap (bytes_at c.args.off) (f.read c.index.result.now c.index.ensures)) ∙ sym c.object_at.ensures ∙ c.in_ok-bytes.was) in
    let had : h (object_key f.row.number c.args.off) ≡ Some c.in_ok-holder.holder = ap (λ n. h (object_key n c.args.off)) f.number ∙ sym c.get.ensures ∙ c.in_ok-holder.was in
    ap Some (sym o.size)
    ∙ sym (live_in_row h i.unit_pages i.next_object i.next_chunk i.spare c.args.chunk c.args.off c.args.serial c.in_ok-index.index i.chunks.items f c.self.invariant.numbers
    ∙ ap (option_map (λ (o : Object). o.bytes)) (find_living h f.row.number c.args.off c.args.serial c.in_ok-holder.holder f.row.bits.objects had (lives_by_serial c.args.serial c.in_ok-holder.holder c.if-serial-eq0.false c.if-holder-serial.false) ∙ ap (option_map (object_by h f.row.number)) o.found))
    ∙ ap (live_bytes c.args.chunk c.args.off c.args.serial) c.self.view_is
