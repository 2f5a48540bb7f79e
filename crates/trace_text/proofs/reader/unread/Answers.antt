use Rattle.std.proofs.Common.{refl}
use Rattle.trace_text.proofs.ReaderTurns.{held_at_first}
use Rattle.trace_text.proofs.reader.unread.Goals as goal

pub returns : goal.returns
returns c = held_at_first _ (record {
  rank = refl;
  space = refl;
  frames = refl;
  lazy = refl;
  block_pages = refl;
  part_limit = refl;
  unit_pages = refl;
  atom = refl;
  groups = c.new.ensures.items;
  cpus = refl;
  callers = refl;
  counters = refl;
  batch = refl;
  caller = refl;
  names = c.new-2.ensures;
  calls = c.new-4.ensures.items;
  closed = c.new-5.ensures.items;
  counts = c.new-6.ensures.items;
  lines = refl;
  picks = c.new-7.ensures.items;
})
