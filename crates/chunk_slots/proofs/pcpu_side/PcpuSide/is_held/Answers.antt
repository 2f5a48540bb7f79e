use Rattle.std.proofs.Common.{length, ap, sym, ◌∙◌, arith}
use Rattle.std.proofs.lemmas.Bool.{eqb-true, eq-eqb}
use Rattle.chunk_slots.specs.KeptObjects.{holder_in}
use Rattle.chunk_slots.specs.KeptChunks.{bytes_at}
use Rattle.chunk_slots.specs.KeptChunkSides.{IsKeptRow}
use Rattle.chunk_slots.specs.ChunkRegion.{at_of}
use Rattle.chunk_slots.proofs.RowLists.{each_at}
use Rattle.chunk_slots.proofs.SideCalls.{found_row, missing_row, object_in_row, held_never}
use Rattle.chunk_slots.proofs.ObjectConditions.{never_held, never_held_in, held_by, held_of, held_known}
use Rattle.chunk_slots.proofs.pcpu_side.PcpuSide.is_held.Goals as goal

pub returns-in_default : goal.returns-in_default
returns-in_default c =
    let i = c.self.inside in let at = at_of c.args.placed.now in
    let none = missing_row at.chunk c.from.result c.index_of.result i.chunks.items c.deref.result.now c.deref.ensures.value c.from.ensures c.index_of.ensures c.in_default.is in
    rw (← c.self.view_is) (
      (λ yes. cc),
      (λ held. absurd (never_held (holder_in i.holders) i.chunks.items at none held)),
    )

pub index-requires : goal.index-requires
index-requires c =
    let found = found_row c.args.placed.now.chunk c.from.result c.in-Some.index c.index_of.result c.self.inside.chunks.items c.deref.result.now c.self.invariant.numbers c.deref.ensures.value c.from.ensures c.index_of.ensures c.in-Some.is in
    let within = found.within in let long = ap length c.deref.ensures.value in
    omega arith

pub returns-in_default-object_at : goal.returns-in_default-object_at
returns-in_default-object_at c =
    let i = c.self.inside in let at = at_of c.args.placed.now in
    let f = found_row at.chunk c.from.result c.in-Some.index c.index_of.result i.chunks.items c.deref.result.now c.self.invariant.numbers c.deref.ensures.value c.from.ensures c.index_of.ensures c.in-Some.is in
    let none = sym (ap (bytes_at at.off) (f.read c.index.result.now c.index.ensures)) ∙ sym c.object_at.ensures ∙ c.in_default-object_at.is in
    rw (← c.self.view_is) (
      (λ yes. cc),
      (λ held. absurd (never_held_in (holder_in i.holders) c.in-Some.index i.chunks.items at f c.self.invariant.numbers none held)),
    )

pub returns-in_default-get : goal.returns-in_default-get
returns-in_default-get c =
    let i = c.self.inside in let h = holder_in i.holders in let at = at_of c.args.placed.now in
    let f = found_row at.chunk c.from.result c.in-Some.index c.index_of.result i.chunks.items c.deref.result.now c.self.invariant.numbers c.deref.ensures.value c.from.ensures c.index_of.ensures c.in-Some.is in
    let kept = each_at (IsKeptRow i.unit_pages i.next_chunk h) c.in-Some.index i.chunks.items f.row c.self.invariant.rows_are f.there in
    let o = object_in_row h i.unit_pages i.next_chunk f.row at.off c.in-Some-object_at.bytes kept (sym (ap (bytes_at at.off) (f.read c.index.result.now c.index.ensures)) ∙ sym c.object_at.ensures ∙ c.in-Some-object_at.is) in
    absurd (held_never h f.row.number at.chunk at.off c.get.result o.held f.number c.get.ensures c.in_default-get.is)

pub returns-then-bytes-placed : goal.returns-then-bytes-placed
returns-then-bytes-placed c =
    let i = c.self.inside in let h = holder_in i.holders in let at = at_of c.args.placed.now in
    let f = found_row at.chunk c.from.result c.in-Some.index c.index_of.result i.chunks.items c.deref.result.now c.self.invariant.numbers c.deref.ensures.value c.from.ensures c.index_of.ensures c.in-Some.is in
    let kept = each_at (IsKeptRow i.unit_pages i.next_chunk h) c.in-Some.index i.chunks.items f.row c.self.invariant.rows_are f.there in
    let o = object_in_row h i.unit_pages i.next_chunk f.row at.off c.in-Some-object_at.bytes kept (sym (ap (bytes_at at.off) (f.read c.index.result.now c.index.ensures)) ∙ sym c.object_at.ensures ∙ c.in-Some-object_at.is) in
    let by = held_by h i.unit_pages i.next_chunk c.in-Some.index i.chunks.items at c.in-Some-object_at.bytes c.in-Some-get.holder f c.self.invariant.numbers kept o (sym c.get.ensures ∙ c.in-Some-get.is) in
    rw (← c.self.view_is) (
      (λ yes. held_of by c.if-bytes-placed.true (eqb-true c.in-Some-get.holder.serial 0 yes)),
      (λ held. eq-eqb c.in-Some-get.holder.serial 0 (held_known by held).1),
    )

pub returns-else-bytes-placed : goal.returns-else-bytes-placed
returns-else-bytes-placed c =
    let i = c.self.inside in let h = holder_in i.holders in let at = at_of c.args.placed.now in
    let f = found_row at.chunk c.from.result c.in-Some.index c.index_of.result i.chunks.items c.deref.result.now c.self.invariant.numbers c.deref.ensures.value c.from.ensures c.index_of.ensures c.in-Some.is in
    let kept = each_at (IsKeptRow i.unit_pages i.next_chunk h) c.in-Some.index i.chunks.items f.row c.self.invariant.rows_are f.there in
    let o = object_in_row h i.unit_pages i.next_chunk f.row at.off c.in-Some-object_at.bytes kept (sym (ap (bytes_at at.off) (f.read c.index.result.now c.index.ensures)) ∙ sym c.object_at.ensures ∙ c.in-Some-object_at.is) in
    let by = held_by h i.unit_pages i.next_chunk c.in-Some.index i.chunks.items at c.in-Some-object_at.bytes c.in-Some-get.holder f c.self.invariant.numbers kept o (sym c.get.ensures ∙ c.in-Some-get.is) in
    rw (← c.self.view_is) (
      (λ yes. absurd (c.if-bytes-placed.false (eqb-true c.in-Some-object_at.bytes c.args.placed.now.bytes yes))),
      (λ held. absurd (c.if-bytes-placed.false (held_known by held).0)),
    )
