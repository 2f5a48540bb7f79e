use Rattle.std.proofs.Common.{◌≡◌, ℕ, ◌-◌, length, ap, sym, ◌∙◌, arith}
use Rattle.chunk_slots.specs.declared.object_rows.Sought.TheVariants.{Found, Past}
use Rattle.chunk_slots.specs.KeptObjects.{holder_in}
use Rattle.chunk_slots.specs.ChunkRegion.{ChunkRegion, object_table}
use Rattle.chunk_slots.proofs.LiveObjects.{seek_past, table_few}
use Rattle.chunk_slots.proofs.pcpu_side.PcpuSide.objects.Goals as goal

past_same : (a b : ℕ) → Past a ≡ Past b → a ≡ b
past_same a b e = cc

pub unreachable-requires : goal.unreachable-requires
unreachable-requires c =
    let few = c.self.invariant.few in let rows = table_few (holder_in c.self.inside.holders) c.self.inside.chunks.items in
    let same = ap (λ (r : ChunkRegion). length (object_table r)) c.self.view_is in
    let clash : Found c.in-Found.field-0 ≡ Past (4294967295 - length (object_table c.args.self.now)) = sym c.in-Found.is ∙ c.seek.ensures ∙ seek_past (object_table c.args.self.now) 4294967295 (omega arith) in cc

pub returns : goal.returns
returns c =
    let few = c.self.invariant.few in let rows = table_few (holder_in c.self.inside.holders) c.self.inside.chunks.items in
    let same = ap (λ (r : ChunkRegion). length (object_table r)) c.self.view_is in
    let left : c.in-Past.left ≡ 4294967295 - length (object_table c.args.self.now) = past_same c.in-Past.left (4294967295 - length (object_table c.args.self.now)) (sym c.in-Past.is ∙ c.seek.ensures ∙ seek_past (object_table c.args.self.now) 4294967295 (omega arith)) in
    omega arith
