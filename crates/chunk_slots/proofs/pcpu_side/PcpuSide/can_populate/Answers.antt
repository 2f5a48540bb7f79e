use Rattle.std.proofs.Common.{ℕ, length, ap, sym, subst, arith}
use Rattle.chunk_slots.specs.KeptObjects.{holder_in}
use Rattle.chunk_slots.specs.KeptChunks.{KeptRow}
use Rattle.chunk_slots.specs.KeptChunkSides.{IsKeptRow}
use Rattle.chunk_slots.proofs.RowLists.{each_at}
use Rattle.chunk_slots.proofs.SideCalls.{found_row, missing_row}
use Rattle.chunk_slots.proofs.ObjectConditions.{IsUnusedPage, never_can, can_of, can_known}
use Rattle.chunk_slots.proofs.pcpu_side.PcpuSide.can_populate.Goals as goal

abbrev unused_by : ℕ → KeptRow → Type 0
unused_by page row = IsUnusedPage row page

pub returns-in_default : goal.returns-in_default
returns-in_default c =
    let i = c.self.inside in
    let none = missing_row c.args.chunk c.from.result c.index_of.result i.chunks.items c.deref.result.now c.deref.ensures.value c.from.ensures c.index_of.ensures c.in_default.is in
    rw (← c.self.view_is) (
      (λ yes. cc),
      (λ can. absurd (never_can (holder_in i.holders) i.unit_pages i.next_object i.next_chunk i.spare c.args.chunk c.args.page i.chunks.items none can)),
    )

pub index-requires : goal.index-requires
index-requires c =
    let found = found_row c.args.chunk c.from.result c.in-Some.index c.index_of.result c.self.inside.chunks.items c.deref.result.now c.self.invariant.numbers c.deref.ensures.value c.from.ensures c.index_of.ensures c.in-Some.is in
    let within = found.within in let long = ap length c.deref.ensures.value in
    omega arith

pub returns : goal.returns
returns c =
    let i = c.self.inside in let h = holder_in i.holders in
    let f = found_row c.args.chunk c.from.result c.in-Some.index c.index_of.result i.chunks.items c.deref.result.now c.self.invariant.numbers c.deref.ensures.value c.from.ensures c.index_of.ensures c.in-Some.is in
    let kept = each_at (IsKeptRow i.unit_pages i.next_chunk h) c.in-Some.index i.chunks.items f.row c.self.invariant.rows_are f.there in
    let row = f.read c.index.result.now c.index.ensures in
    rw (← c.self.view_is) (
      (λ yes. can_of h i.unit_pages i.next_chunk i.next_object i.next_chunk i.spare c.args.chunk c.args.page c.in-Some.index i.chunks.items f c.self.invariant.numbers kept (subst (unused_by c.args.page) row (c.can_populate.ensures.0 yes))),
      (λ can. c.can_populate.ensures.1 (subst (unused_by c.args.page) (sym row) (can_known h i.unit_pages i.next_chunk i.next_object i.next_chunk i.spare c.args.chunk c.args.page c.in-Some.index i.chunks.items f c.self.invariant.numbers kept can))),
    )
