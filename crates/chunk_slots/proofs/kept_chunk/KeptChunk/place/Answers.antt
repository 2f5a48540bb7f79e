use Rattle.std.proofs.Common.{Bool, List, ap, sym, ◌∙◌}
use Rattle.vm_model.specs.Space.{lowest}
use Rattle.chunk_bitmaps.specs.ChunkMap.{ChunkMap}
use Rattle.chunk_slots.specs.KeptChunks.{KeptRow, taken_for}
use Rattle.chunk_slots.proofs.FreeBits.{empty_told, blocked_are}
use Rattle.chunk_slots.proofs.kept_chunk.KeptChunk.place.Goals as goal

pub returns-in_err-at-clause-place : goal.returns-in_err-at-clause-place
returns-in_err-at-clause-place c =
    let i = c.self.inside in
    c.from_residual.ensures ∙ sym c.in_err-at.was ∙ c.take_bits.ensures.place
    ∙ ap (λ (taken : List Bool). lowest taken c.args.bits c.args.align) (blocked_are i.pages i.number i.base i.populated i.bits c.self.invariant.size c.args.atomic)
    ∙ ap (λ (row : KeptRow). lowest (taken_for c.args.atomic row) c.args.bits c.args.align) c.self.view_is

pub invariant_of-self-2 : goal.invariant_of-self-2
invariant_of-self-2 c = record {
  least = c.self.invariant.least;
  most = c.self.invariant.most;
  size = ap (λ (m : ChunkMap). m.bits) c.in_ok-at.ensures.placed ∙ c.self.invariant.size;
  slot_is = c.slot_of_bits-self-inside.ensures;
  empty_is = empty_told c.self.inside.pages c.self.inside.number c.self.inside.base c.self.inside.populated c.take_bits.new.bits c.count_empty-self-inside.result c.count_empty-self-inside.ensures;
}

pub returns-clause-place : goal.returns-clause-place
returns-clause-place c =
    let i = c.self.inside in
    sym c.in_ok-at.was ∙ c.take_bits.ensures.place
    ∙ ap (λ (taken : List Bool). lowest taken c.args.bits c.args.align) (blocked_are i.pages i.number i.base i.populated i.bits c.self.invariant.size c.args.atomic)
    ∙ ap (λ (row : KeptRow). lowest (taken_for c.args.atomic row) c.args.bits c.args.align) c.self.view_is
