use Rattle.std.proofs.Common.{sym, ◌∙◌}
use Rattle.chunk_slots.specs.ChunkRegion.{object_table}
use Rattle.chunk_slots.proofs.LiveObjects.{seek_get, seek_within}
use Rattle.chunk_slots.proofs.pcpu_side.PcpuSide.object_at.Goals as goal

pub unreachable-requires : goal.unreachable-requires
unreachable-requires c = seek_within (object_table c.args.self.now) c.args.index c.in-Past.field-0 c.requires (sym c.seek.ensures ∙ c.in-Past.is)

pub returns : goal.returns
returns c = seek_get (object_table c.args.self.now) c.args.index c.in-Found.row (sym c.seek.ensures ∙ c.in-Found.is)
