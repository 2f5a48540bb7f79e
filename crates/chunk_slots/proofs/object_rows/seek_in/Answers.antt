use Rattle.std.proofs.Common.{ap, sym, arith}
use Rattle.chunk_slots.specs.KeptObjects.{holder_in}
use Rattle.chunk_slots.specs.LiveObjectRows.{seek}
use Rattle.chunk_slots.proofs.LiveObjects.{live_from_first}
use Rattle.chunk_slots.proofs.object_rows.seek_in.Goals as goal

pub loop-span-init : goal.loop-span-init
loop-span-init c = record {
  within = omega arith;
  rest = ap (λ rows. seek rows c.args.skip) (sym (live_from_first (holder_in c.args.holders.now) c.args.chunk.now));
}
