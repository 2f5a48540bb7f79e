use Rattle.std.proofs.Common.{◌≤◌, false, option_map, ap, sym, ◌∙◌, subst}
use Rattle.chunk_slots.specs.ChunkRegion.{ChunkRegion, told_of, place_for}
use Rattle.chunk_slots.proofs.NewChunks.{never_full}
use Rattle.chunk_slots.proofs.pcpu_side.PcpuSide.add_chunk_and_place.Goals as goal

pub unreachable-requires : goal.unreachable-requires
unreachable-requires c =
    never_full c.args.base c.args.bytes c.args.align c.args.self.now (subst (λ (r : ChunkRegion). 8 ≤ r.unit_pages) c.self.view_is c.self.invariant.least) c.requires.bytes c.requires.most
    (ap (option_map told_of) (sym c.in_default.is) ∙ c.hold.ensures.place ∙ ap (place_for false c.args.bytes c.args.align) c.in_ok-add_chunk.ensures.added)
