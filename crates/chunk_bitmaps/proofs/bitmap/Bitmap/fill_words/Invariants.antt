use Rattle.std.proofs.Common.{◌≡◌, ◌*◌, length}
use Rattle.chunk_bitmaps.proofs.Fills.{ChangedUpTo}
use Rattle.chunk_bitmaps.proofs.bitmap.Bitmap.fill_words.Given as goal

abbrev pub invariant-loop-index : goal.invariant-loop-index
invariant-loop-index l = record {
  room : length l.self-inside.words.items ≡ length l.initial.self-inside.words.items;
  bits : l.self-inside.bits ≡ l.initial.self-inside.bits;
  changed : ChangedUpTo l.initial.self-inside.words.items l.self-inside.words.items l.value (64 * l.first) (64 * l.index);
}
